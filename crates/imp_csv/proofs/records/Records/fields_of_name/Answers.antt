use Rattle.std.proofs.Common.{ap, ◌∙◌, arith, length, get_or, ◌+◌, sum, take, drop, List, ℕ}
use Rattle.std.specs.List.{flat_map}
use Rattle.std.proofs.lemmas.Result.{IfOk-weaker}
use Rattle.imp_csv.specs.Tables.{fields_at, fields_of_name}
use Rattle.imp_csv.specs.Records.{cut}
use Rattle.imp_csv.proofs.Cuts.{found_none, found_some, rest_sum, after_first}
use Rattle.imp_csv.proofs.records.Records.fields_of_name.Goals as goal

pub found_in-requires : goal.found_in-requires
found_in-requires c =
    ap (λ ns. get_or ns 0 0 + sum (after_first ns)) c.as_slice.ensures.value
    ∙ rest_sum c.self.inside.lengths.items (omega (arith, c.in-len1-up.len_at_least, ap length c.as_slice.ensures.value)) ∙ c.self.invariant

pub returns-in-len1-up : goal.returns-in-len1-up
returns-in-len1-up c =
    let name = c.args.name.now in
    let fields = c.self.inside.fields in
    let whole = ap (λ (ns : List ℕ). flat_map (fields_at name (take (get_or ns 0 0) fields)) (cut (after_first ns) (drop (get_or ns 0 0) fields))) c.as_slice.ensures.value
    ∙ found_some name c.self.inside.lengths.items fields (omega (arith, c.in-len1-up.len_at_least, ap length c.as_slice.ensures.value)) ∙ ap (fields_of_name name) c.self.view_is in
    IfOk-weaker c.found_in.result _ _ (λ found is. is ∙ whole) c.found_in.ensures

pub returns-in-empty : goal.returns-in-empty
returns-in-empty c =
    c.new.ensures ∙ found_none c.args.name.now c.self.inside.lengths.items c.self.inside.fields (omega (arith, c.in-empty.len_below, ap length c.as_slice.ensures.value)) ∙ ap (fields_of_name c.args.name.now) c.self.view_is
