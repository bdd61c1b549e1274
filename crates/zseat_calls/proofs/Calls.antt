-- A rule of staging is what is left of it, once the seat is open and the record is read.
use Rattle.std.proofs.Common.{◌≡◌, ℕ, List, [], ◌∷◌, Result, Ok, Err, refl, sym, ap, ◌∙◌}
use Rattle.rules.specs.proposals.Gains.{with_gains}
use Rattle.rules.specs.Outcomes.{Outcome}
use Rattle.rules.specs.Records.{allocation_tree}
use Rattle.rules.specs.States.{is_open}
use Rattle.host_data.specs.Tree.{Tree}
use Rattle.rules.specs.rearrange.Slots.{can_give}
use Rattle.rules.specs.proposals.declared.allocations.Share.{Share}
use Rattle.refusals.specs.Outcomes.{bind}
use Rattle.refusals.specs.declared.codes.Refusal.{Refusal}
use Rattle.zseat_calls.specs.StagingParts.{adding, can_add, staged_more}
use Rattle.rules.specs.Given.{shares_at}
use Rattle.rules.specs.Zseat.{are_few, increment_by, misfits_staged, shares_now}
use Rattle.rules.specs.world_state.Worlds.{State, stage}

abbrev gained : ℕ → List Share → List Share → Outcome
gained seat now shares = Ok (allocation_tree shares, stage seat (with_gains now shares) ∷ [])

abbrev added : ℕ → List Share → List Share → Outcome
added seat now shares = bind (can_give now shares) (λ _. bind (are_few (with_gains now shares)) (λ _. gained seat now shares))

added_is : (seat : ℕ) (now shares : List Share) → added seat now shares ≡ staged_more seat now shares
unfolding bind can_add staged_more
added_is seat now shares = by (can_give now shares)
  where
    by : (r : Result (Unit {0}) Refusal) → bind r (λ _. bind (are_few (with_gains now shares)) (λ _. gained seat now shares)) ≡ bind (bind r (λ _. are_few (with_gains now shares))) (λ _. gained seat now shares)
    by (Ok done) = refl
    by (Err e) = refl

-- each has what is left of it once the seat is open
pub increment_is : (w : State) (seat : ℕ) (args : List Tree) → is_open w seat ≡ Ok tt → adding w seat args ≡ increment_by w seat args
unfolding bind adding increment_by
increment_is w seat args opened =
    by (shares_at (misfits_staged w seat) 1 args)
    ∙ sym (ap (λ o. bind o (λ _. bind (shares_at (misfits_staged w seat) 1 args) (added seat (shares_now w seat)))) opened)
  where
    by : (r : Result (List Share) Refusal) → bind r (staged_more seat (shares_now w seat)) ≡ bind r (added seat (shares_now w seat))
    by (Ok shares) = sym (added_is seat (shares_now w seat) shares)
    by (Err e) = refl
