use Rattle.std.proofs.Common.{◌≡◌, IfOk, [], ◌∷◌, refl}
use Rattle.std.specs.Prelude.{codes}
use Rattle.serde_json.specs.Data.{number, object, string, unsigned}
use Rattle.serde_json.specs.View.{view}
use Rattle.turn_rows.specs.Causes.{cause_word}
use Rattle.turn_rows.specs.Rows.{payouts_json}
use Rattle.turn_records.specs.Printed.{printed_payouts}
use Rattle.turn_records.specs.Views.{cause_view, payout_views}
use Rattle.turn_writer.proofs.event_rows.exit_value.Goals as goal

pub returns : goal.returns
returns c =
    let leaving = c.args.leaving.now in
    let fields = (codes "seat", number (unsigned leaving.seat)) ∷ (codes "row", string (codes "exit"))
    ∷ (codes "payouts", object (payouts_json (printed_payouts (payout_views leaving.payouts.items)))) ∷ (codes "cause", string (cause_word (cause_view leaving.cause))) ∷ [] in
    let payouts : IfOk c.payouts_value.result (λ v. view v ≡ object (payouts_json (printed_payouts (payout_views leaving.payouts.items)))) = rw c.as_slice.ensures.value at c.payouts_value.ensures in
    let paid = c.value.ensures _ _ (c.text.ensures _ _ c.new.ensures c.cause_word.ensures) payouts in
    c.finish.ensures fields (c.number.ensures _ (c.text-2.ensures _ _ paid refl))
