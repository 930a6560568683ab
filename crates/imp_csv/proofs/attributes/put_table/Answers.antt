use Rattle.std.proofs.Common.{◌≡◌}
use Rattle.std.specs.List.{flat_map}
use Rattle.std.proofs.lemmas.Result.{on_ok_weaker}
use Rattle.imp_rules.specs.Content.{joined}
use Rattle.imp_rules.proofs.Given.{spaced_first, joined_is}
use Rattle.imp_csv.specs.Tables.{Row}
use Rattle.imp_csv.proofs.Tables.{table_put}
use Rattle.imp_csv.proofs.attributes.put_table.Goals as goal

pub joined-requires : goal.joined-requires
joined-requires c = rw (c.deref.ensures, c.in_ok-fields.ensures) (spaced_first (flat_map (λ (row : Row). row) c.args.records.now))

pub returns : goal.returns
returns c =
    let fields = flat_map (λ (row : Row). row) c.args.records.now in
    let content : c.joined.result.now ≡ joined fields = rw (c.joined.ensures, c.deref.ensures, c.in_ok-fields.ensures) (joined_is fields) in
    on_ok_weaker c.put_content.result (table_put c.args.records.now c.args.attrs.now c.put_count.new.attrs c.put_count-2.new.attrs c.put_content.new.attrs c.columns.result c.rows.result c.joined.result.now
    c.columns.ensures.value c.rows.ensures.value c.in_ok-put_count.ensures c.in_ok-put_count-2.ensures content) c.put_content.ensures.ok
