use Rattle.std.proofs.Common.{◌≡◌, IfOk, [], ◌∷◌, refl}
use Rattle.std.specs.Prelude.{codes}
use Rattle.serde_json.specs.Data.{number, object, string, unsigned}
use Rattle.serde_json.specs.View.{view}
use Rattle.turn_rows.specs.Rows.{amounts_json, exit_rule_json, instance_name}
use Rattle.turn_records.specs.Printed.{printed_shares, printed_rule}
use Rattle.turn_writer.proofs.event_rows.open_value.Goals as goal

pub returns : goal.returns
returns c =
    let opening = c.args.opening.now in
    let fields = (codes "want", object (amounts_json (printed_shares opening.proposal.want))) ∷ (codes "seat", number (unsigned opening.seat)) ∷ (codes "row", string (codes "open"))
    ∷ (codes "instance", string (instance_name opening.instance)) ∷ (codes "give", object (amounts_json (printed_shares opening.proposal.give))) ∷ (codes "exit", exit_rule_json (printed_rule opening.proposal.exit)) ∷ [] in
    let give : IfOk c.amounts_value.result (λ v. view v ≡ object (amounts_json (printed_shares opening.proposal.give))) = rw c.shares.ensures.value at c.amounts_value.ensures in
    let want : IfOk c.amounts_value-2.result (λ v. view v ≡ object (amounts_json (printed_shares opening.proposal.want))) = rw c.shares-2.ensures.value at c.amounts_value-2.ensures in
    let given = c.value-2.ensures _ _ (c.value.ensures _ _ c.new.ensures c.exit_rule_value.ensures) give in
    let named = c.text.ensures _ _ (c.string.ensures _ _ given c.instance_text.ensures) refl in
    c.finish.ensures fields (c.value-3.ensures _ _ (c.number.ensures _ named) want)
