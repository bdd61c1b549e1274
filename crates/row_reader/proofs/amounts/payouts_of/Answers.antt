use Rattle.std.proofs.Common.{◌≡◌, List, ◌∷◌, ◌++◌, [], map, ap, ◌∙◌, sym, append_assoc, string_bytes, rules}
use Rattle.std.specs.List.{AllByRecursion}
use Rattle.serde_json.specs.View.{members_view, view}
use Rattle.serde_json.proofs.Views.{Entry}
use Rattle.row_records.specs.Views.{payout_view}
use Rattle.turn_rows.specs.Rows.{payouts_json}
use Rattle.turn_rows.specs.Turns.{Payout}
use Rattle.row_reader.specs.Amounts.{ArePayouts, HasPayoutForm, payout_pair}
use Rattle.row_reader.proofs.AmountLists.{all_more, payouts_all, payouts_grow, payouts_stop, map_more, to_end, up_to}
use Rattle.row_reader.proofs.Faults.{passes}
use Rattle.row_reader.proofs.amounts.payouts_of.Goals as goal

pub returns-in_err-payout : goal.returns-in_err-payout
returns-in_err-payout c =
    let done = c.loop-keyword.invariant.0 in
    let e : Entry = (c.in-Some.keyword.now, c.in-Some.name.now) in
    let all : c.args.members.now.entries ≡ done ++ e ∷ c.next.new.self = up_to c.args.members.now.entries done c.next.new.self _ e c.loop-keyword.invariant.1 c.in-Some.ensures.steps in
    passes payouts_json ArePayouts (λ rs. map payout_view rs.items) (members_view c.args.members.now.entries) c.from_residual.result c.in_err-payout.field-0.0
    ((p : Payout) → HasPayoutForm p → payout_pair p ≡ (c.as_str.result.now, view c.in-Some.name.now) → ⊥) c.from_residual.ensures.1 c.in_err-payout.ensures
    (λ none ps form same. payouts_stop ps done e c.next.new.self (rw c.as_str.ensures.value at none) form (same ∙ ap members_view all))

pub loop-keyword-preserved : goal.loop-keyword-preserved
loop-keyword-preserved c =
    let done = c.loop-keyword.invariant.0 in
    let e : Entry = (c.in-Some.keyword.now, c.in-Some.name.now) in
    let all : c.args.members.now.entries ≡ done ++ e ∷ c.next.new.self = up_to c.args.members.now.entries done c.next.new.self _ e c.loop-keyword.invariant.1 c.in-Some.ensures.steps in
    let pair : payout_pair (payout_view c.in_ok-payout.payout) ≡ (string_bytes e.0, view e.1) = rw c.as_str.ensures.value at c.in_ok-payout.ensures.0 in
    rw c.in_ok-push.ensures (
      done ++ e ∷ [],
      all ∙ sym (append_assoc done (e ∷ []) c.next.new.self),
      ap payouts_json (map_more payout_view c.loop-keyword.payouts.items c.in_ok-payout.payout) ∙ payouts_grow (map payout_view c.loop-keyword.payouts.items) (payout_view c.in_ok-payout.payout) done e c.loop-keyword.invariant.2 pair,
      all_more HasPayoutForm payout_view c.loop-keyword.payouts.items c.in_ok-payout.payout c.loop-keyword.invariant.3 c.in_ok-payout.ensures.1,
    )

pub returns : goal.returns
returns c =
    let done = c.loop-keyword.invariant.0 in
    let all : c.args.members.now.entries ≡ done = to_end c.args.members.now.entries done _ c.loop-keyword.invariant.1 c.in-None.ensures.steps.0 in
    let same : payouts_json (map payout_view c.loop-keyword.payouts.items) ≡ members_view c.args.members.now.entries = c.loop-keyword.invariant.2 ∙ ap members_view (sym all) in
    (same, payouts_all (map payout_view c.loop-keyword.payouts.items) c.args.members.now.entries c.iter-keyword-items.ensures.ordered same c.loop-keyword.invariant.3)
