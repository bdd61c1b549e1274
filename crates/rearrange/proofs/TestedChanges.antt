-- What a plan of staging answers is what its definition tests.
use Rattle.std.proofs.Common.{◌≡◌, ℕ, List, length, ◌≤◌, Option, Some, None, Result, Ok, Err, sym, ap, subst, ◌∙◌}
use Rattle.std.specs.List.{All}
use Rattle.rearrange.specs.TestedPlans.{can_take_over, keeps, staged_changes}
use Rattle.rearrange.specs.Told.{plan_told, seats_told}
use Rattle.proposals.specs.Shares.{most_shares}
use Rattle.proposals.specs.declared.plans.SeatState.{SeatState}
use Rattle.proposals.specs.declared.plans.Touched.{Touched}
use Rattle.rearrange.specs.Plans.{IsPlanRefusal}
use Rattle.rearrange.specs.Safety.{AreSafe}
use Rattle.rearrange.specs.Seats.{staged_refusal}
use Rattle.rearrange.specs.Staged.{IsStagedRefusal, staged_plan}
use Rattle.rearrange.specs.Sums.{AreConserved}
use Rattle.rearrange.specs.declared.plans.PlanFault.{PlanFault}
use Rattle.rearrange.specs.declared.plans.PlanFault.TheVariants as plan
use Rattle.rearrange.specs.declared.seats.SeatsFault.{SeatsFault}
use Rattle.refusals.specs.Outcomes.{Fails, ◌>>◌, bind, none_such}
use Rattle.refusals.specs.declared.codes.Refusal.{Refusal}
use Rattle.rearrange.proofs.Kept.{fails_then, past, plan_fails, plan_passes}
use Rattle.rearrange.proofs.TestedSeats.{staged_tests}

abbrev Test : Type 0
Test = Result (Unit {0}) Refusal

none_passes : (o : Option SeatsFault) → o ≡ None → none_such o seats_told ≡ Ok tt
unfolding none_such
none_passes o is = ap (λ (x : Option SeatsFault). none_such x seats_told) is

some_fails : (o : Option SeatsFault) (fault : SeatsFault) → o ≡ Some fault → none_such o seats_told ≡ Err (seats_told fault)
unfolding none_such
some_fails o fault is = ap (λ (x : Option SeatsFault). none_such x seats_told) is

abbrev AreSmall : List Touched → Type 0
AreSmall touched = All (λ t. length t.after ≤ most_shares) touched

-- ---- staging

module _ (i : ℕ) (states : List SeatState) (seats : List ℕ) where
  abbrev staging : List Touched
  staging = staged_plan states seats

  seats_pass : staged_refusal i states seats ≡ None → can_take_over i states seats ≡ Ok tt
  seats_pass none = staged_tests i states seats ∙ none_passes (staged_refusal i states seats) none

  past_seats : staged_refusal i states seats ≡ None → staged_changes i states seats ≡ (keeps states staging >> Ok staging)
  unfolding staged_changes
  past_seats none = past (can_take_over i states seats) (keeps states staging >> Ok staging) (seats_pass none)

  pub staged_passes : staged_refusal i states seats ≡ None → AreConserved staging → AreSafe states staging → AreSmall staging → staged_changes i states seats ≡ Ok staging
  staged_passes none kept safe small = past_seats none ∙ past (keeps states staging) (Ok staging) (plan_passes states staging kept safe small)

  in_plan : (fault : PlanFault) → staged_refusal i states seats ≡ None → IsPlanRefusal states staging fault → Fails (plan_told fault) (staged_changes i states seats)
  in_plan fault none is =
      subst (λ (r : Result (List Touched) Refusal). Fails (plan_told fault) r) (sym (past_seats none))
      (fails_then (plan_told fault) (keeps states staging) (Ok staging) (plan_fails states staging fault is))

  pub staged_fails : (fault : PlanFault) → IsStagedRefusal i states seats fault → Fails (plan_told fault) (staged_changes i states seats)
  unfolding staged_changes bind
  staged_fails (plan.Seats fault) is = ap (λ (t : Test). t >> (keeps states staging >> Ok staging)) (staged_tests i states seats ∙ some_fails (staged_refusal i states seats) fault is)
  staged_fails plan.NoMemory is = tt
  staged_fails (plan.NotConserved u) is = in_plan (plan.NotConserved u) is.0 is.1
  staged_fails (plan.NotOfferSafe seat) is = in_plan (plan.NotOfferSafe seat) is.0 is.1
  staged_fails plan.Limit is = in_plan plan.Limit is.0 is.1
