-- What is planned from the states of the listed seats, and of those of which something is staged.
use Rattle.std.specs.List.{All}
use Rattle.std.proofs.Common.{◌≡◌, ℕ, ◌<◌, ◌≤◌, ◌^◌, List, length, map, Ok, sym, subst, ◌∙◌, ap, arith}
use Rattle.std.proofs.lemmas.List.Elements.{All-from_recursion}
use Rattle.rules.specs.call_arguments.Numbers.{AreApart}
use Rattle.share_transfers.proofs.rule_laws.Reallocating.{IsPlan, plan_is}
use Rattle.rearrange.specs.TestedPlans.{staged_changes}
use Rattle.rules.specs.proposals.Shares.{most_shares}
use Rattle.rules.specs.proposals.declared.plans.SeatState.{SeatState}
use Rattle.rules.specs.proposals.declared.plans.Touched.{Touched}
use Rattle.rearrange.specs.Staged.{IsOfOneBrand, staged_plan}
use Rattle.rearrange_calls.specs.Passed.{ArePassed}
use Rattle.rearrange_calls.specs.Met.{IsMet}
use Rattle.refusals.proofs.Steps.{ok_has}
use Rattle.rules.specs.States.{all_states, state_of}
use Rattle.rules.specs.world_state.Good.{IsGoodWorld}
use Rattle.rules.specs.world_state.Worlds.{State}
use Rattle.rearrange_calls.proofs.SameChanges.{planned_same}
use Rattle.rearrange_calls.proofs.SeatsNamed.{made_among}
use Rattle.rearrange_calls.proofs.StateFacts.{all_one_brand, plan_met, planned_many, planned_seats}
use Rattle.rearrange_calls.specs.Among.{HaveAll}

module _ (w : State) (good : IsGoodWorld w) (seats ns : List ℕ) (have : HaveAll w seats ns) (states : List SeatState) (are : states ≡ map (state_of w) ns) where
  pub states_agree : All IsOfOneBrand states
  states_agree = subst (λ (ss : List SeatState). All IsOfOneBrand ss) (sym are) (all_one_brand w good ns have.made)

  pub states_enough : (i : ℕ) → staged_changes i (all_states w) seats ≡ staged_changes i states seats
  states_enough i =
      planned_same w i seats ns have (λ n is. made_among w n ns have.made (have.listed n is))
      ∙ ap (λ (ss : List SeatState). staged_changes i ss seats) (sym are)

  pub plan_passed : (i : ℕ) (touched : List Touched) → length seats < 2 ^ 32 → staged_changes i states seats ≡ Ok touched → touched ≡ staged_plan states seats → All (λ t. length t.after ≤ most_shares) touched → ArePassed touched
  plan_passed i touched few given plan small =
      let is : IsPlan w seats touched = ok_has _ _ touched (states_enough i ∙ given) (plan_is w i seats) in
      let here : touched ≡ staged_plan (map (state_of w) ns) seats = plan ∙ ap (λ (ss : List SeatState). staged_plan ss seats) are in
      record {
        apart = subst AreApart (sym (ap (λ (ts : List Touched). map (λ (t : Touched). t.seat) ts) here ∙ planned_seats (map (state_of w) ns) seats)) is.apart;
        met = subst (λ (ts : List Touched). All IsMet ts) (sym here) (All-from_recursion IsMet (staged_plan (map (state_of w) ns) seats) (plan_met w good ns (λ n is. made_among w n ns have.made is) seats have.listed));
        small = small;
        few = omega (arith, few, ap (λ (ts : List Touched). length ts) here, planned_many (map (state_of w) ns) seats);
      }
