use Rattle.std.proofs.Common.{◌≡◌, List, ◌∷◌, ◌++◌, [], map, ap, ◌∙◌, sym, append_assoc, string_bytes, rules}
use Rattle.std.specs.List.{AllByRecursion}
use Rattle.serde_json.specs.View.{members_view, view}
use Rattle.serde_json.proofs.Views.{Entry}
use Rattle.row_records.specs.Views.{amount_view}
use Rattle.turn_rows.specs.Form.{AreAmounts, HasAmountForm}
use Rattle.turn_rows.specs.Rows.{amounts_json}
use Rattle.turn_rows.specs.Turns.{KeywordAmount}
use Rattle.row_reader.specs.Amounts.{amount_pair}
use Rattle.row_reader.proofs.AmountLists.{all_more, amounts_all, amounts_grow, amounts_stop, map_more, to_end, up_to}
use Rattle.row_reader.proofs.Faults.{passes}
use Rattle.row_reader.proofs.amounts.amounts_of.Goals as goal

pub returns-in_err-amount : goal.returns-in_err-amount
returns-in_err-amount c =
    let done = c.loop-keyword.invariant.0 in
    let e : Entry = (c.in-Some.keyword.now, c.in-Some.value.now) in
    let all : c.args.members.now.entries ≡ done ++ e ∷ c.next.new.self = up_to c.args.members.now.entries done c.next.new.self _ e c.loop-keyword.invariant.1 c.in-Some.ensures.steps in
    passes amounts_json (AreAmounts c.args.edition) (λ rs. map amount_view rs.items) (members_view c.args.members.now.entries) c.from_residual.result c.in_err-amount.field-0.0
    ((a : KeywordAmount) → HasAmountForm c.args.edition a → amount_pair a ≡ (c.as_str.result.now, view c.in-Some.value.now) → ⊥) c.from_residual.ensures.1 c.in_err-amount.ensures
    (λ none rs form same. amounts_stop c.args.edition rs done e c.next.new.self (rw c.as_str.ensures.value at none) form.each (same ∙ ap members_view all))

pub loop-keyword-preserved : goal.loop-keyword-preserved
loop-keyword-preserved c =
    let done = c.loop-keyword.invariant.0 in
    let e : Entry = (c.in-Some.keyword.now, c.in-Some.value.now) in
    let all : c.args.members.now.entries ≡ done ++ e ∷ c.next.new.self = up_to c.args.members.now.entries done c.next.new.self _ e c.loop-keyword.invariant.1 c.in-Some.ensures.steps in
    let pair : amount_pair (amount_view c.in_ok-amount.amount) ≡ (string_bytes e.0, view e.1) = rw c.as_str.ensures.value at c.in_ok-amount.ensures.0 in
    rw c.in_ok-push.ensures (
      done ++ e ∷ [],
      all ∙ sym (append_assoc done (e ∷ []) c.next.new.self),
      ap amounts_json (map_more amount_view c.loop-keyword.amounts.items c.in_ok-amount.amount) ∙ amounts_grow (map amount_view c.loop-keyword.amounts.items) (amount_view c.in_ok-amount.amount) done e c.loop-keyword.invariant.2 pair,
      all_more (HasAmountForm c.args.edition) amount_view c.loop-keyword.amounts.items c.in_ok-amount.amount c.loop-keyword.invariant.3 c.in_ok-amount.ensures.1,
    )

pub returns : goal.returns
returns c =
    let done = c.loop-keyword.invariant.0 in
    let all : c.args.members.now.entries ≡ done = to_end c.args.members.now.entries done _ c.loop-keyword.invariant.1 c.in-None.ensures.steps.0 in
    let same : amounts_json (map amount_view c.loop-keyword.amounts.items) ≡ members_view c.args.members.now.entries = c.loop-keyword.invariant.2 ∙ ap members_view (sym all) in
    (same, amounts_all c.args.edition (map amount_view c.loop-keyword.amounts.items) c.args.members.now.entries c.iter-keyword-items.ensures.ordered same c.loop-keyword.invariant.3)
