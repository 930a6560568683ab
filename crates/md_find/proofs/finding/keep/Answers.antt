use Rattle.std.proofs.Common.{◌≡◌, List, [], ◌∷◌, ◌++◌, sym, ◌∙◌, ap, append_assoc}
use Rattle.std.specs.List.{cons_option, filter_map}
use Rattle.std.specs.Vec.Iter.{into_iter_items}
use Rattle.std.proofs.lemmas.List.Elements.{filter_map-append}
use Rattle.md_value.specs.Values.{PathBytes}
use Rattle.md_find.specs.Files.{hit_of}
use Rattle.md_find.proofs.finding.keep.Goals as goal

pub loop-file-preserved : goal.loop-file-preserved
loop-file-preserved c =
    let before = c.loop-file.invariant in
    let kept = c.args.hits.now.items in
    let yielded = c.loop-file.yielded in
    let file = c.in-Some.file in
    let rest = into_iter_items c.next.new.self in
    let step : into_iter_items c.loop-file.file-iterator ≡ file ∷ rest = c.in-Some.ensures.steps.0 in
    record {
      prefix = append_assoc yielded (file ∷ []) rest ∙ ap (λ files. yielded ++ files) (sym step) ∙ before.prefix;
      kept = c.in_ok-keep_file.ensures ∙ ap (λ (paths : List PathBytes). paths ++ cons_option (hit_of file) []) before.kept
          ∙ append_assoc kept (filter_map hit_of yielded) (cons_option (hit_of file) []) ∙ ap (λ (paths : List PathBytes). kept ++ paths) (sym (filter_map-append hit_of yielded (file ∷ [])));
    }
