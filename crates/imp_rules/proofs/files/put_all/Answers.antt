use Rattle.std.proofs.Common.{map, ◌+◌, drop, sym, ◌∙◌}
use Rattle.imp_rules.specs.Files.{known_of}
use Rattle.imp_rules.proofs.Steps.{each_named, put_one, put_none, put_next}
use Rattle.imp_rules.proofs.files.put_all.Goals as goal
use Rattle.imp_rules.proofs.files.put_all.Goals.{then-rule+in_ok-name+in_ok-values+in_ok-put_given, else-rule}

pub known_name-requires : goal.known_name-requires
known_name-requires g c = each_named c.args.schema.now c.loop-text.text-index _ c.requires c.loop-text-test.true

pub loop-text-preserved : goal.loop-text-preserved
loop-text-preserved g c =
    let next = put_next (g.F.FileValues.giving c.args.file.now) c.loop-text.attrs c.args.schema.now c.loop-text.text-index _ c.loop-text-test.true in
    elim c.if-rule.branch [
      | then-rule+in_ok-name+in_ok-values+in_ok-put_given w ↦
          let one = put_one (g.F.FileValues.giving c.args.file.now) c.loop-text.attrs c.if-rule.attrs _ (map known_of (drop (c.loop-text.text-index + 1) c.args.schema.now)) w.in_ok-name.name
          w.in_ok-values.values w.if-rule.true w.in_ok-name.ensures w.in_ok-values.ensures.value (w.attrs-is ∙ w.in_ok-put_given.ensures.ok) in
          sym (next ∙ one) ∙ c.loop-text.invariant
      | else-rule w ↦ let none = put_none (g.F.FileValues.giving c.args.file.now) c.loop-text.attrs _ (map known_of (drop (c.loop-text.text-index + 1) c.args.schema.now)) w.if-rule.false in rw w.attrs-is (sym (next ∙ none) ∙ c.loop-text.invariant)
    ]
