use Rattle.std.proofs.Common.{rules, ◌≡◌, ◌++◌, ◌∷◌, [], ◌∙◌, ap, ap₂, length, string_bytes}
use Rattle.std.proofs.lemmas.Str.{IsUtf8-string_bytes}
use Rattle.csv.specs.Records.{cut_from}
use Rattle.imp_csv.proofs.Ends.{end_added, one_end, one_field}
use Rattle.imp_csv.proofs.fields.Fields.push.Goals as goal

pub invariant_of-self-2 : goal.invariant_of-self-2
invariant_of-self-2 c =
    let text = string_bytes c.self.inside.text in
    let grown : string_bytes c.push_str.new.self ≡ text ++ c.args.field.now = search rules in
    let ends : c.push_reserved.new.self.items ≡ c.self.inside.ends.items ++ length (text ++ c.args.field.now) ∷ [] =
    end_added _ _ _ _ _ c.push_reserved.ensures.items c.reserve.ensures.items (c.len.ensures ∙ c.push_str.new.self.bytes.ok.0 ∙ ap length grown) in
    let are = one_end 0 c.self.inside.ends.items text c.args.field.now (IsUtf8-string_bytes c.self.inside.text) c.utf8.field c.self.invariant in
    rw (ends, grown) are

pub returns : goal.returns
returns c =
    let text = string_bytes c.self.inside.text in
    let grown : string_bytes c.push_str.new.self ≡ text ++ c.args.field.now = search rules in
    let ends : c.push_reserved.new.self.items ≡ c.self.inside.ends.items ++ length (text ++ c.args.field.now) ∷ [] =
    end_added _ _ _ _ _ c.push_reserved.ensures.items c.reserve.ensures.items (c.len.ensures ∙ c.push_str.new.self.bytes.ok.0 ∙ ap length grown) in
    ap₂ (cut_from 0) ends grown ∙ one_field 0 c.self.inside.ends.items text c.args.field.now c.self.invariant ∙ ap (λ fields. fields ++ c.args.field.now ∷ []) c.self.view_is
