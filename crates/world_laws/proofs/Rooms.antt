-- There stays room for the payments of open seats, and what is staged stays of the brands of open seats' slots.
use Rattle.std.specs.Prelude.{IsSome, is_none, is_some, slice_set, unwrap_or}
use Rattle.std.proofs.Common.{◌≡◌, inl, inr, ℕ, zero, suc, ◌+◌, ◌<◌, List, [], ◌∷◌, ◌++◌, Some, None, Option, length, map, refl, sym, ◌∙◌, ap, subst, arith, if◌then◌else◌}
use Rattle.std.proofs.lemmas.Bool.{cases_eq, eq-eqb}
use Rattle.world_state.proofs.lemmas.ListEdits.{length_push, read_before, read_other, read_pushed, read_set}
use Rattle.world_state.specs.amount_math.declared.Amount.{Amount}
use Rattle.world_state.specs.brands.Brands.{brand_at}
use Rattle.world_state.specs.ertp_mint.BrandSupply.{BrandSupply, new_supply}
use Rattle.world_state.specs.ertp_mint.Stocks.{empty_amount}
use Rattle.world_state.specs.holders.PaymentViews.{PaymentView, live_payment, payment_view_at}
use Rattle.world_state.specs.proposals.Slots.{emptied}
use Rattle.world_state.specs.proposals.declared.allocations.Share.{Share}
use Rattle.world_state.specs.vault_model.Lists.{amount_of}
use Rattle.world_state.specs.Good.{AreStaged, HasRoom, IsGoodEffect, IsGoodWorld, IsStaged, open_slots, slots_in}
use Rattle.world_state.specs.Rights.{all_moved, paid, raised_payment, slots_at, with_slots}
use Rattle.world_state.specs.Worlds.{Effect, Seat, State, after, empty_slots, burn_and_escrows, invitation_move, invitation_value, left_seat, new_seat, no_shares, no_seat, of_own, offered_by, paid_out, seat_at, staged_at, empty_payment, empty_seat, end_staging, exit, invite, moves, new_brand, offer, stage, unstage}
use Rattle.world_laws.proofs.Instances.{open_made}
use Rattle.world_laws.proofs.OfKinds.{KindsStay, shares_stay, same_together, stay_push, stay_same}
use Rattle.world_laws.proofs.Lists.{length_append, length_map}

pub open-push : (seats : List Seat) (slots : List (List Share)) (s : Seat) (shares : List Share) → length slots ≡ length seats → open_slots (seats ++ s ∷ []) (slots ++ shares ∷ []) ≡ open_slots seats slots + slots_in s shares
open-push [] [] s shares e = omega arith
open-push [] (x ∷ xs) s shares e = absurd (omega (arith, e))
open-push (q ∷ qs) [] s shares e = absurd (omega (arith, e))
open-push (q ∷ qs) (x ∷ xs) s shares e = omega (arith, open-push qs xs s shares (omega (arith, e)))

open-left : (seats : List Seat) (slots : List (List Share)) (n : ℕ) (shares : List Share) → length slots ≡ length seats → (seat_at seats n).last ≡ None → open_slots (slice_set seats n (left_seat (seat_at seats n) (slots_at slots n))) (slice_set slots n shares) + length (slots_at slots n) ≡ open_slots seats slots
open-left [] slots n shares e is = cc
open-left (q ∷ qs) [] n shares e is = absurd (omega (arith, e))
open-left (q ∷ qs) (x ∷ xs) zero shares e is = omega (arith, ap (λ (o : Option (List Share)). if is_none o then length x else 0) is)
open-left (q ∷ qs) (x ∷ xs) (suc n) shares e is = omega (arith, open-left qs xs n shares (omega (arith, e)) is)

paid_next : (ps : List PaymentView) (a : Amount) → length (paid ps (length ps) a) ≡ length ps + 1
paid_next ps a = subst (λ b. length (if b then ps ++ live_payment a ∷ [] else slice_set ps (length ps) (raised_payment (payment_view_at ps (length ps)) a.value.content)) ≡ length ps + 1) (sym (eq-eqb (length ps) (length ps) refl)) (length_push ps (live_payment a))

pub room-after : (w : State) (e : Effect) → IsGoodEffect w e → IsGoodWorld w → HasRoom (after w e).rights.payments (after w e).rights.slots (after w e).seats
room-after w (empty_payment b) can good = record { left = omega (arith, can.room, length_push w.rights.payments (live_payment (empty_amount b (brand_at w.brands b).kind))) }
room-after w (moves ms) can good = can.room
room-after w (offer o) can good = can.moves.room
room-after w (empty_seat i rule) can good = record { left = omega (arith, good.room.left, open-push w.seats w.rights.slots (new_seat i (of_own rule)) [] good.seats.slotted) }
room-after w (exit s cause) can good =
    let shares = slots_at w.rights.slots s in
    record { left = omega (arith, good.room.left, open-left w.seats w.rights.slots s (map emptied shares) good.seats.slotted can, length_append w.rights.payments (map paid_out shares), length_map paid_out shares) }
room-after w (invite d) can good = record { left = omega (arith, can.room, paid_next w.rights.payments (amount_of 0 (invitation_value (length w.invitations)))) }
room-after w _ can good = good.room

none_staged : (xs : List (Option (List Share))) (n : ℕ) → staged_at (map no_shares xs) n ≡ None
none_staged [] n = refl
none_staged (x ∷ xs) zero = refl
none_staged (x ∷ xs) (suc n) = none_staged xs n

is_staged : (o : Option (List Share)) (shares : List Share) → o ≡ Some shares → IsSome o
is_staged o shares e = ap (λ (x : Option (List Share)). is_some x) e

nothing_is : (shares : List Share) → None ≡ Some shares → ⊥
nothing_is shares e = cc

-- nothing is staged where it was dropped
dropped : (xs : List (Option (List Share))) (n : ℕ) → staged_at (slice_set xs n None) n ≡ None
dropped [] n = refl
dropped (x ∷ xs) zero = refl
dropped (x ∷ xs) (suc n) = dropped xs n

cleared : (xs : List (Option (List Share))) (n s : ℕ) (shares : List Share) → n ≡ s → staged_at (slice_set xs n None) s ≡ Some shares → ⊥
cleared xs n s shares same e = nothing_is shares (sym (subst (λ k. staged_at (slice_set xs n None) k ≡ None) same (dropped xs n)) ∙ e)

module _ (out : List BrandSupply) where
  staged_by : (seat new : Seat) (slots after_slots shares : List Share) → new ≡ seat → after_slots ≡ slots → IsStaged out seat slots shares → IsStaged out new after_slots shares
  staged_by seat new slots after_slots shares e f is = subst (λ (q : Seat). IsStaged out q after_slots shares) (sym e) (subst (λ x. IsStaged out seat x shares) (sym f) is)

staged_stays : (out new : List BrandSupply) → KindsStay out new → (seat : Seat) (slots shares : List Share) → IsStaged out seat slots shares → IsStaged new seat slots shares
staged_stays out new stay seat slots shares is = record { is_open = is.is_open; apart = is.apart; named = is.named; valued = is.valued; of_kinds = shares_stay out new stay shares is.of_kinds; of_slots = is.of_slots }

all_stay : (out new : List BrandSupply) → KindsStay out new → (seats : List Seat) (slots : List (List Share)) (staging : List (Option (List Share))) → AreStaged out seats slots staging → AreStaged new seats slots staging
all_stay out new stay seats slots staging are = record { each = λ s shares e. staged_stays out new stay (seat_at seats s) (slots_at slots s) shares (are.each s shares e) }

pub staged-after : (w : State) (e : Effect) → IsGoodEffect w e → IsGoodWorld w → AreStaged (after w e).rights.out (after w e).seats (after w e).rights.slots (after w e).staging
staged-after w (new_brand b maker) can good = all_stay w.rights.out _ (stay_push w.rights.out (new_supply b.kind)) w.seats w.rights.slots w.staging good.staged
staged-after w (invite d) can good = all_stay w.rights.out _ (stay_same w.rights.out _ (same_together w.rights (invitation_move w ∷ []))) w.seats w.rights.slots w.staging good.staged
staged-after w (moves ms) can good =
    let out = (all_moved w.rights ms).out in
    let was = all_stay w.rights.out out (stay_same w.rights.out out (same_together w.rights ms)) w.seats w.rights.slots w.staging good.staged in
    record { each = λ s shares e. subst (λ x. IsStaged out (seat_at w.seats s) x shares) (sym (can.apart s (is_staged (staged_at w.staging s) shares e))) (was.each s shares e) }
staged-after w (stage n new) can good = record {
  each = λ s shares e. elim (cases_eq n s) [
    | inl same ↦
        let lt : n < length w.staging = omega (arith, open_made w.seats n can.is_open, good.seats.staged) in
        let at : staged_at (slice_set w.staging n (Some new)) s ≡ Some new = subst (λ k. staged_at (slice_set w.staging n (Some new)) k ≡ Some new) same (read_set w.staging n (Some new) None lt) in
        let is : new ≡ shares = ap (λ (o : Option (List Share)). unwrap_or o []) (sym at ∙ e) in
        subst (λ k. IsStaged w.rights.out (seat_at w.seats k) (slots_at w.rights.slots k) shares) same (subst (IsStaged w.rights.out (seat_at w.seats n) (slots_at w.rights.slots n)) is can)
    | inr other ↦ good.staged.each s shares (sym (read_other w.staging n s (Some new) None other) ∙ e)
  ];
}
staged-after w (unstage n) can good = record {
  each = λ s shares e. elim (cases_eq n s) [
    | inl same ↦ absurd (cleared w.staging n s shares same e)
    | inr other ↦ good.staged.each s shares (sym (read_other w.staging n s None None other) ∙ e)
  ];
}
staged-after w end_staging can good = record { each = λ s shares e. absurd (nothing_is shares (sym (none_staged w.staging s) ∙ e)) }
staged-after w (offer o) can good =
    let new = new_seat (offered_by w o).instance o.proposal in
    let opened = with_slots w.rights (empty_slots o.proposal) in
    let out = (all_moved opened (burn_and_escrows o)).out in
    let stay = stay_same w.rights.out out (same_together opened (burn_and_escrows o)) in
    record {
      each = λ s shares e. elim (cases_eq (length w.staging) s) [
        | inl here ↦ absurd (nothing_is shares (sym (read_pushed w.staging None None s (sym here)) ∙ e))
        | inr other ↦
            let was : staged_at w.staging s ≡ Some shares = sym (read_before w.staging None None s other) ∙ e in
            staged_by out (seat_at w.seats s) _ (slots_at w.rights.slots s) _ shares
            (read_before w.seats new no_seat s (λ f. other (good.seats.staged ∙ f)))
            (can.moves.apart s (is_staged (staged_at w.staging s) shares was) ∙ read_before w.rights.slots (empty_slots o.proposal) [] s (λ f. other (good.seats.staged ∙ (sym good.seats.slotted ∙ f))))
            (staged_stays w.rights.out out stay (seat_at w.seats s) (slots_at w.rights.slots s) shares (good.staged.each s shares was))
      ];
    }
staged-after w (empty_seat i rule) can good =
    let new = new_seat i (of_own rule) in
    record {
      each = λ s shares e. elim (cases_eq (length w.staging) s) [
        | inl here ↦ absurd (nothing_is shares (sym (read_pushed w.staging None None s (sym here)) ∙ e))
        | inr other ↦
            let was : staged_at w.staging s ≡ Some shares = sym (read_before w.staging None None s other) ∙ e in
            staged_by w.rights.out (seat_at w.seats s) _ (slots_at w.rights.slots s) _ shares
            (read_before w.seats new no_seat s (λ f. other (good.seats.staged ∙ f)))
            (read_before w.rights.slots [] [] s (λ f. other (good.seats.staged ∙ (sym good.seats.slotted ∙ f))))
            (good.staged.each s shares was)
      ];
    }
staged-after w (exit n cause) can good =
    let shares_of = slots_at w.rights.slots n in
    record {
      each = λ s shares e. elim (cases_eq n s) [
        | inl same ↦ absurd (cleared w.staging n s shares same e)
        | inr other ↦
            staged_by w.rights.out (seat_at w.seats s) _ (slots_at w.rights.slots s) _ shares
            (read_other w.seats n s (left_seat (seat_at w.seats n) shares_of) no_seat other)
            (read_other w.rights.slots n s (map emptied shares_of) [] other)
            (good.staged.each s shares (sym (read_other w.staging n s None None other) ∙ e))
      ];
    }
staged-after w _ can good = good.staged
