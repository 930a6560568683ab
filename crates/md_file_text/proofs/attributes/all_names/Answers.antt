use Rattle.std.proofs.Common.{rules, ◌≡◌, ◌∙◌, ◌∷◌, [], ap, map, sym}
use Rattle.std.proofs.lemmas.List.{map-append}
use Rattle.std.specs.Prelude.{None, slice_get}
use Rattle.md_file_text.proofs.Listed.{kept, left_out, past}
use Rattle.md_file_text.proofs.attributes.all_names.Goals as goal
use Rattle.md_file_text.proofs.attributes.all_names.Goals.{in-Some+then-not-is_text_content+in_ok-push, in_default, in_default-via-in-None-1, in_default-via-in-Some+else-not-is_text_content}

pub loop-place-preserved : goal.loop-place-preserved
loop-place-preserved c =
    elim c.match-at.branch [
      | in-Some+then-not-is_text_content+in_ok-push w ↦
          kept c.args.attrs.now c.loop-place.place (w.in-Some.name.now, w.in-Some.field-0-1.now)
          (map (λ name. name.now) c.loop-place.found.items) (map (λ name. name.now) c.match-at.found.items)
          (sym w.in-Some.ensures) (search rules) c.loop-place.invariant
          (ap (λ v. map (λ name. name.now) v.items) w.found-is ∙ ap (λ names. map (λ name. name.now) names) w.in_ok-push.ensures.items ∙ map-append (λ name. name.now) c.loop-place.found.items (w.in-Some.name ∷ []))
      | in_default w ↦ elim w.in_default.branch [
        | in_default-via-in-None-1 w' ↦
            let none : slice_get c.args.attrs.now c.loop-place.place ≡ None = search rules in
            ap (λ v. map (λ name. name.now) v.items) w.found-is ∙ c.loop-place.invariant ∙ past c.args.attrs.now c.loop-place.place none
        | in_default-via-in-Some+else-not-is_text_content w' ↦
            ap (λ v. map (λ name. name.now) v.items) w.found-is
            ∙ left_out c.args.attrs.now c.loop-place.place (w'.in-Some.name.now, w'.in-Some.field-0-1.now)
            (map (λ name. name.now) c.loop-place.found.items) (sym w'.in-Some.ensures) (search rules) c.loop-place.invariant
      ]
    ]
