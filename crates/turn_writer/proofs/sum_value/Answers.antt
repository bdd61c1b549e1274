use Rattle.std.proofs.Common.{◌∷◌, ◌-◌, decimal, subst, sym}
use Rattle.std.specs.Prelude.{codes}
use Rattle.serde_json.specs.Data.{string}
use Rattle.turn_rows.specs.Rows.{sum_row}
use Rattle.turn_writer.specs.JsonRows.{IsJson, IsText}
use Rattle.turn_writer.specs.Texts.{sum_fields}
use Rattle.turn_writer.proofs.sum_value.Goals as goal

pub returns-in-First : goal.returns-in-First
returns-in-First c =
    let sum = c.args.sum.now in
    subst (λ e. IsJson c.finish.result (sum_row e sum)) (sym c.in-First.is)
    (c.finish.ensures (sum_fields sum) c.sum_start-row.ensures)

pub returns-in-Second : goal.returns-in-Second
returns-in-Second c =
    let sum = c.args.sum.now in
    let supply = sum.minted - sum.burned in
    let text = subst (λ n. IsText c.decimal_text.result (decimal n)) c.saturating_sub-supply.ensures c.decimal_text.ensures in
    subst (λ e. IsJson c.finish-in-Second.result (sum_row e sum)) (sym c.in-Second.is)
    (c.finish-in-Second.ensures ((codes "supply", string (decimal supply)) ∷ sum_fields sum)
    (c.string.ensures (sum_fields sum) (decimal supply) c.sum_start-row.ensures text))
