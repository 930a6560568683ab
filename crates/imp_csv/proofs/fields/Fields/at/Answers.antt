use Rattle.std.proofs.Common.{◌<◌, ◌∙◌, List, ℕ, ap, arith, length, get_or, string_bytes}
use Rattle.std.proofs.lemmas.Str.{IsUtf8-string_bytes, IsCharBoundary-start}
use Rattle.csv.specs.Records.{prev}
use Rattle.csv.proofs.RecordFacts.{cut-length, field-cut}
use Rattle.imp_csv.proofs.Ends.{cut_places}
use Rattle.imp_csv.proofs.fields.Fields.at.Goals as goal

pub bounds-start-requires : goal.bounds-start-requires
bounds-start-requires c = omega (arith, c.requires, ap length c.self.view_is, cut-length 0 c.self.inside.ends.items (string_bytes c.self.inside.text), ap length c.as_slice.ensures.value)

pub range-requires : goal.range-requires
range-requires c =
    let text = string_bytes c.self.inside.text in
    let ends = c.self.inside.ends.items in
    let lt : c.args.place < length ends = omega (arith, c.requires, ap length c.self.view_is, cut-length 0 ends text) in
    let places = cut_places 0 ends text c.args.place (IsCharBoundary-start text (IsUtf8-string_bytes c.self.inside.text)) c.self.invariant lt in
    let start = c.bounds-start.ensures.start ∙ ap (λ (e : List ℕ). prev 0 e c.args.place) c.as_slice.ensures.value in
    let end = c.bounds-start.ensures.end ∙ ap (λ (e : List ℕ). get_or e c.args.place 0) c.as_slice.ensures.value in
    record {
      start_le_end = rw (start, end) places.0;
      start_boundary = λ some. rw (start, c.as_str.ensures.value) places.1;
      end_boundary = rw (end, c.as_str.ensures.value) places.2;
    }

pub returns : goal.returns
returns c =
    let text = string_bytes c.self.inside.text in
    let ends = c.self.inside.ends.items in
    let lt : c.args.place < length ends = omega (arith, c.requires, ap length c.self.view_is, cut-length 0 ends text) in
    let start = c.bounds-start.ensures.start ∙ ap (λ (e : List ℕ). prev 0 e c.args.place) c.as_slice.ensures.value in
    let end = c.bounds-start.ensures.end ∙ ap (λ (e : List ℕ). get_or e c.args.place 0) c.as_slice.ensures.value in
    rw (← c.self.view_is, c.range.ensures.value, start, end, c.as_str.ensures.value) (field-cut 0 ends text c.args.place lt)
