use Rattle.std.proofs.Common.{◌≡◌, [], ◌∷◌, ◌++◌, string_bytes, codes, ap, ◌∙◌, FitsSigned, w64, arith}
use Rattle.std.proofs.lemmas.Int.{to_z-of_z}
use Rattle.jiff_core.proofs.SignedLemmas.{signed_arith}
use Rattle.md_time.specs.Moments.{day_of, year_of, month_of, day_of_month}
use Rattle.md_time.specs.Printed.{date_text, time_text, second_of_day, moment_text}
use Rattle.md_time.proofs.Printing.{four_pieces}
use Rattle.md_time.proofs.print.print_moment.Goals as goal

pub returns : goal.returns
unfolding moment_text
returns c =
    let fits : FitsSigned w64 c.args.moment = c.ranges.moment in
    let fits_day : FitsSigned w64 c.day_of.result = omega (arith, signed_arith, c.day_of.ensures.range) in
    let day : c.day_of.result ≡ day_of c.args.moment = simp to_z-of_z at c.day_of.ensures.value in
    let date : string_bytes c.push_day.new.text ≡ string_bytes c.new-text.result ++ date_text (year_of c.day_of.result) (month_of c.day_of.result) (day_of_month c.day_of.result) =
    simp to_z-of_z at c.in_ok-push_day.ensures in
    let first : string_bytes c.push_day.new.text ≡ date_text (year_of (day_of c.args.moment)) (month_of (day_of c.args.moment)) (day_of_month (day_of c.args.moment)) =
    date
    ∙ ap (λ xs. xs ++ date_text (year_of c.day_of.result) (month_of c.day_of.result) (day_of_month c.day_of.result)) c.new-text.ensures.bytes
    ∙ ap (λ d. date_text (year_of d) (month_of d) (day_of_month d)) day in
    let second : c.second_of_day.result ≡ second_of_day c.args.moment = simp to_z-of_z at c.second_of_day.ensures in
    let time : string_bytes c.push_time.new.text ≡ string_bytes c.push_str.new.self ++ time_text (second_of_day c.args.moment) =
    c.in_ok-push_time.ensures ∙ ap (λ s. string_bytes c.push_str.new.self ++ time_text s) second in
    four_pieces (date_text (year_of (day_of c.args.moment)) (month_of (day_of c.args.moment)) (day_of_month (day_of c.args.moment)))
    (32 ∷ []) (time_text (second_of_day c.args.moment)) (codes " +0000") _ _ _ _
    first c.in_ok-push_str.ensures.bytes time c.in_ok-push_str-2.ensures.bytes
