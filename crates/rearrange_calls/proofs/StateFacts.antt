-- What the world has of a seat: shares each under a keyword of its own, which are of one brand and kind with its
-- proposal; so what a reallocation plans keeps brands and kinds.
use Rattle.std.specs.Prelude.{map, unwrap_or, All, IfSome}
use Rattle.std.specs.List.{AllByRecursion}
use Rattle.std.proofs.Common.{inl, inr, ◌≡◌, ℕ, suc, ◌<◌, List, [], ◌∷◌, length, Option, Some, None, refl, sym, ap, subst}
use Rattle.std.proofs.lemmas.List.Elements.{All-map, All-weaker}
use Rattle.share_transfers.proofs.rule_laws.GivenShares.{seat_slots}
use Rattle.rules.specs.proposals.Shares.{AreShares}
use Rattle.rules.specs.proposals.declared.allocations.Share.{Share}
use Rattle.rules.specs.proposals.declared.plans.SeatState.{SeatState}
use Rattle.rules.specs.proposals.declared.plans.Touched.{Touched}
use Rattle.rearrange.specs.Staged.{IsOfOneBrand, staged_plan}
use Rattle.rearrange_calls.specs.Met.{IsMet}
use Rattle.rules.specs.States.{state_of}
use Rattle.share_transfers.proofs.world_laws.Agreed.{seat_agrees}
use Rattle.rules.specs.world_state.Good.{IsGoodWorld, IsLast}
use Rattle.rules.specs.world_state.Rights.{slots_at}
use Rattle.rules.specs.world_state.Worlds.{State, seat_at}
use Rattle.rearrange_calls.proofs.SameChanges.{touched_in}
use Rattle.rearrange_calls.proofs.SeatsNamed.{found}
use Rattle.rearrange_calls.proofs.SettledShares.{settled_meet}
use Rattle.rearrange_calls.specs.Among.{IsAmong}

-- ---- one seat

module _ (w : State) (good : IsGoodWorld w) (n : ℕ) (made : n < length w.seats) where
  last_shares : (o : Option (List Share)) → (seat_at w.seats n).last ≡ o → AreShares (unwrap_or o (slots_at w.rights.slots n))
  last_shares None is = (seat_slots w good (seat_at w.seats n).instance n (record { made = made; own = refl })).shares
  last_shares (Some shares) is =
      let last : IsLast w.rights.out (seat_at w.seats n).proposal shares = subst (λ o. IfSome o (IsLast w.rights.out (seat_at w.seats n).proposal)) is (good.proposed.each n made).last in
      last.apart

  allocation_shares : AreShares (state_of w n).allocation
  unfolding state_of
  allocation_shares = last_shares (seat_at w.seats n).last refl

  pub one_brand : IsOfOneBrand (state_of w n)
  unfolding state_of
  one_brand = seat_agrees w n good made

pub all_one_brand : (w : State) → IsGoodWorld w → (ns : List ℕ) → All (λ n. n < length w.seats) ns → All IsOfOneBrand (map (state_of w) ns)
all_one_brand w good ns made = All-map IsOfOneBrand (state_of w) ns (All-weaker (λ n. n < length w.seats) (λ n. IsOfOneBrand (state_of w n)) (λ n lt. one_brand w good n lt) ns made)

-- ---- seats that take over their staging

state_met : (w : State) → IsGoodWorld w → (n : ℕ) → n < length w.seats → IsMet (touched_in [] [] n (Some (state_of w n)))
state_met w good n made =
    let s = state_of w n in
    settled_meet s.allocation (unwrap_or s.staged s.allocation) (allocation_shares w good n made).apart

module _ (w : State) (good : IsGoodWorld w) (ns : List ℕ) (made : (n : ℕ) → IsAmong n ns → n < length w.seats) where
  pub plan_met : (seats : List ℕ) → ((n : ℕ) → IsAmong n seats → IsAmong n ns) → AllByRecursion IsMet (staged_plan (map (state_of w) ns) seats)
  plan_met [] listed = tt
  plan_met (n ∷ rest) listed = (
    subst (λ (o : Option SeatState). IsMet (touched_in [] [] n o)) (sym (found w ns n (listed n (inl refl)))) (state_met w good n (made n (listed n (inl refl)))),
    plan_met rest (λ m is. listed m (inr is)),
  )

pub planned_many : (states : List SeatState) (seats : List ℕ) → length (staged_plan states seats) ≡ length seats
planned_many states [] = refl
planned_many states (n ∷ ns) = ap suc (planned_many states ns)

pub planned_seats : (states : List SeatState) (seats : List ℕ) → map (λ (t : Touched). t.seat) (staged_plan states seats) ≡ seats
planned_seats states [] = refl
planned_seats states (n ∷ ns) = ap (λ l. n ∷ l) (planned_seats states ns)
