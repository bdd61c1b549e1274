-- The movements of an offer stand by themselves, and can be made once its seat is open; and what they make of a draft.
use Rattle.std.specs.List.{AllByRecursion}
use Rattle.std.proofs.Common.{◌≡◌, ◌≢◌, ℕ, ◌+◌, ◌≤◌, List, [], ◌∷◌, ◌++◌, None, length, refl, sym, ◌∙◌, ap, subst, arith}
use Rattle.draft_reads.specs.ertp_mint.Stocks.{most_made}
use Rattle.draft_reads.proofs.lemmas.ListEdits.{length_map, length_set}
use Rattle.draft_reads.specs.holders.PaymentViews.{PaymentView, payment_view_at, spent_payment}
use Rattle.draft_reads.specs.world_state.Shapes.{AreMovements, IsApart, IsGivenOnce, IsNoHand, IsTakenOnce}
use Rattle.draft_reads.specs.proposals.Slots.{in_byte_order}
use Rattle.draft_reads.specs.proposals.declared.allocations.Share.{Share}
use Rattle.draft_reads.specs.proposals.declared.offers.Proposal.{Proposal}
use Rattle.draft_reads.specs.rights_model.declared.Holder.{Holder}
use Rattle.draft_reads.specs.rights_model.declared.Holder.TheVariants.{Hand, Outside, Payment, Purse, Slot}
use Rattle.draft_reads.specs.rights_model.declared.Movement.{Movement}
use Rattle.draft_reads.specs.vault_model.Lists.{Lists}
use Rattle.draft_reads.specs.world_laws.Views.{all_by_hand, by_hand, seat_of, slots_held}
use Rattle.draft_reads.specs.vault.Drafts.{DraftState, IsValid}
use Rattle.draft_reads.specs.world_state.Good.{AreEscrows, CanMoveTogether, CanOffer, IsEscrow, TakeApart, open_slots, slots_in}
use Rattle.draft_reads.specs.world_state.Rights.{Rights, all_moved, all_spent, moved_together, spent_from, with_slots}
use Rattle.draft_reads.specs.world_state.Worlds.{Offering, Seat, State, burn_and_escrows, empty_slots, new_seat, offered_by}
use Rattle.draft_reads.specs.Views.{HasNow, rights_in, seats_in, staging_in}
use Rattle.draft_effects.specs.Steps.{CanMoveEach, IsAfter}
use Rattle.draft_effects.proofs.Measures.{all_grow}
use Rattle.draft_effects.proofs.TransferEffects.{shown_can, moved_now}
use Rattle.draft_effects.specs.Offers.{CanEscrow, rights_opened, seats_opened}

-- ---- movements

taken_once : (p : ℕ) (h : Holder) (ms : List Movement) → h ≡ Payment p → AllByRecursion (λ (n : Movement). n.from ≢ h) ms → AllByRecursion (IsTakenOnce h) ms
taken_once p h ms at apart = subst (λ x. AllByRecursion (λ (n : Movement). n.from ≢ x) ms → AllByRecursion (IsTakenOnce x) ms) (sym at) (from ms) apart
  where
    from : (ms : List Movement) → AllByRecursion (λ (n : Movement). n.from ≢ Payment p) ms → AllByRecursion (IsTakenOnce (Payment p)) ms
    from [] all = tt
    from (n ∷ ns) all = (all.0, from ns all.1)

none_outside : (ms : List Movement) → AllByRecursion (IsGivenOnce Outside) ms
none_outside [] = tt
none_outside (n ∷ ns) = (tt, none_outside ns)

none_in_slot : (seat : ℕ) (k : List ℕ) (ms : List Movement) → AllByRecursion (IsGivenOnce (Slot seat k)) ms
none_in_slot seat k [] = tt
none_in_slot seat k (n ∷ ns) = (tt, none_in_slot seat k ns)

escrow_apart : (seat : ℕ) (r : Share) (m : Movement) (ms : List Movement) → IsEscrow seat r m → AllByRecursion (λ (n : Movement). n.from ≢ m.from) ms → IsApart m ms
escrow_apart seat r m ms is apart = record {
  from = subst IsNoHand (sym is.from) tt;
  to = subst IsNoHand (sym is.to) tt;
  taken = taken_once is.payment m.from ms is.from apart;
  given = subst (λ h. AllByRecursion (IsGivenOnce h) ms) (sym is.to) (none_in_slot seat r.keyword ms);
}

escrows_apart : (seat : ℕ) (shares : List Share) (ms : List Movement) → AreEscrows seat shares ms → TakeApart ms → AreMovements ms
escrows_apart seat [] [] are apart = tt
escrows_apart seat [] (m ∷ ms) are apart = absurd are
escrows_apart seat (r ∷ rs) [] are apart = tt
escrows_apart seat (r ∷ rs) (m ∷ ms) are apart = (escrow_apart seat r m ms are.0 apart.0, escrows_apart seat rs ms are.1 apart.1)

pub can_escrow : (d : DraftState) (w : State) (o : Offering) → rights_in d ≡ w.rights → seats_in d ≡ w.seats → CanOffer w o → CanEscrow d (offered_by w o).instance o.proposal (burn_and_escrows o)
can_escrow d w o rights seats can = record {
  staging = w.staging;
  shape = (
    record {
      from = subst IsNoHand (sym can.burn.from) tt;
      to = subst IsNoHand (sym can.burn.to) tt;
      taken = taken_once can.burn.payment o.burn.from o.escrows can.burn.from can.payments.0;
      given = subst (λ h. AllByRecursion (IsGivenOnce h) o.escrows) (sym can.burn.to) (none_outside o.escrows);
    },
    escrows_apart (length w.seats) (in_byte_order o.proposal.give) o.escrows can.escrows can.payments.1,
  );
  can =
      subst (λ (r : Rights). CanMoveTogether (with_slots r (empty_slots o.proposal)) (seats_opened d (offered_by w o).instance o.proposal) w.staging (burn_and_escrows o)) (sym rights)
      (subst (λ (ss : List Seat). CanMoveTogether (with_slots w.rights (empty_slots o.proposal)) (ss ++ new_seat (offered_by w o).instance o.proposal ∷ []) w.staging (burn_and_escrows o)) (sym seats) can.moves);
}

-- ---- once the seat is open

module _ (old d : DraftState) (instance : ℕ) (p : Proposal) (ms : List Movement) (opened : HasNow d (rights_opened old p) (seats_opened old instance p) (staging_in old ++ None ∷ [])) (can : CanEscrow old instance p ms) where
  pub escrow_can : IsValid d → CanMoveEach d.now ms
  escrow_can valid = shown_can d valid opened.clean can.staging ms can.shape
      (subst (λ (r : Rights). CanMoveTogether r (seats_in d) can.staging ms) (sym opened.rights)
      (subst (λ (ss : List Seat). CanMoveTogether (rights_opened old p) ss can.staging ms) (sym opened.seated) can.can))

  pub escrowed_now : (new : DraftState) → IsValid d → IsAfter d new (all_by_hand d.now ms) → HasNow new (moved_together (rights_opened old p) ms) (seats_opened old instance p) (staging_in old ++ None ∷ [])
  escrowed_now new valid made =
      let now = moved_now d new ms (escrow_can valid) made in
      record {
        rights = now.rights ∙ ap (λ r. moved_together r ms) opened.rights;
        seated = now.seated ∙ opened.seated;
        staged = now.staged ∙ opened.staged;
        clean = now.clean;
      }

-- ---- there is room for the seat's slots

spent_long : (h : Holder) (ps : List PaymentView) → length (spent_from h ps) ≡ length ps
spent_long (Payment n) ps = length_set ps n (spent_payment (payment_view_at ps n).brand)
spent_long (Purse n) ps = refl
spent_long (Slot n k) ps = refl
spent_long Hand ps = refl
spent_long Outside ps = refl

all_spent_long : (ms : List Movement) (ps : List PaymentView) → length (all_spent ms ps) ≡ length ps
all_spent_long [] ps = refl
all_spent_long (m ∷ ms) ps = all_spent_long ms (spent_from m.from ps) ∙ spent_long m.from ps

open_pushed : (seats : List Seat) (slots : List (List Share)) (s : Seat) (shares : List Share) → length slots ≡ length seats → open_slots (seats ++ s ∷ []) (slots ++ shares ∷ []) ≡ open_slots seats slots + slots_in s shares
open_pushed [] [] s shares e = omega arith
open_pushed [] (x ∷ xs) s shares e = absurd (omega (arith, e))
open_pushed (q ∷ qs) [] s shares e = absurd (omega (arith, e))
open_pushed (q ∷ qs) (x ∷ xs) s shares e = omega (arith, open_pushed qs xs s shares (omega (arith, e)))

pub escrow_room : (d : DraftState) (instance : ℕ) (p : Proposal) (ms : List Movement) → CanEscrow d instance p ms → length (rights_in d).payments + open_slots (seats_in d) (rights_in d).slots + length (empty_slots p) ≤ most_made
escrow_room d instance p ms can = omega (
  arith,
  can.can.room.left,
  all_spent_long ms (all_moved (rights_opened d p) ms).payments,
  all_grow (seats_opened d instance p) (rights_opened d p) ms,
  open_pushed (seats_in d) (rights_in d).slots (new_seat instance p) (empty_slots p) (length_map slots_held d.now.seats ∙ sym (length_map seat_of d.now.seats)),
)

-- a movement, and the others
pub one_and_all : (old d new : DraftState) (m : Movement) (ms : List Movement) → IsAfter old d (by_hand old.now m) → IsAfter d new (all_by_hand d.now ms) → IsAfter old new (all_by_hand old.now (m ∷ ms))
one_and_all old d new m ms one all = record {
  now = all.now ∙ ap (λ (s : Lists). all_by_hand s ms) one.now;
  kept = all.kept ∙ one.kept;
  staging = all.staging ∙ one.staging;
  clean = all.clean;
}
