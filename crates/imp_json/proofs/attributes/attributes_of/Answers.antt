use Rattle.std.proofs.Common.{◌≡◌, Ok, ap, sym, ◌∙◌, FitsSigned, w32}
use Rattle.std.proofs.lemmas.Int.{to_z-of_z}
use Rattle.serde_json.specs.View.{view}
use Rattle.imp_rules.specs.Content.{joined}
use Rattle.imp_json.specs.Strings.{strings}
use Rattle.imp_rules.proofs.Given.{spaced_first, joined_is}
use Rattle.imp_json.proofs.Objects.{object_given}
use Rattle.imp_json.proofs.attributes.attributes_of.Goals as goal

pub joined-requires : goal.joined-requires
joined-requires c = rw (c.deref.ensures, c.in_ok-strings.ensures) (spaced_first (strings (view c.args.json.now)))

pub returns : goal.returns
returns c =
    let fits : FitsSigned w32 c.args.offset = c.ranges.offset in
    let content : c.joined.result.now ≡ joined (strings (view c.args.json.now)) = rw (c.joined.ensures, c.deref.ensures, c.in_ok-strings.ensures) (joined_is (strings (view c.args.json.now))) in
    let given = simp to_z-of_z at c.in_ok-attrs.ensures in
    object_given c.args.offset (view c.args.json.now) c.joined.result.now c.in_ok-attrs.attrs (sym c.is_object.ensures ∙ c.if-not-is_object.false) given content ∙ ap Ok (sym c.in_ok-put_content.ensures.ok)
