-- The slots of a seat that was left keep the names that they had when it was left.
use Rattle.std.specs.Prelude.{◌≡◌, ◌≢◌, ◌+◌, ◌<◌, ◌==◌, ◌++◌, ℕ, Bool, true, false, List, [], ◌∷◌, Some, None, length, map, slice_set, unwrap_or, refl}
use Rattle.std.specs.List.{AllByRecursion}
use Rattle.std.proofs.Common.{sym, ◌∙◌, ap, subst, arith}
use Rattle.fair_rows.specs.amount_math.ValueView.{ValueView}
use Rattle.fair_laws.proofs.Owing.{other_number, same_number}
use Rattle.fair_laws.specs.Places.{slot_name}
use Rattle.delivery_laws.proofs.lemmas.ListEdits.{length_push, length_set, read_before, read_other, read_pushed, read_set}
use Rattle.delivery_laws.specs.proposals.Slots.{emptied}
use Rattle.delivery_laws.specs.proposals.declared.allocations.Share.{Share}
use Rattle.delivery_laws.specs.vault_model.Lists.{amount_of}
use Rattle.fair_rows.specs.rights_model.declared.Holder.{Holder}
use Rattle.fair_rows.specs.rights_model.declared.Holder.TheVariants.{Purse, Payment, Slot, Hand, Outside}
use Rattle.fair_rows.specs.rights_model.declared.Movement.{Movement}
use Rattle.delivery_laws.proofs.world_laws.Instances.{open_made}
use Rattle.delivery_laws.specs.world_state.Good.{IsAtOpen, IsGoodEffect, IsGoodMove, IsGoodWorld, rights_for, seats_for}
use Rattle.delivery_laws.specs.world_state.Rights.{Rights, all_moved, given, moved, shares_less, shares_more, slots_at, taken}
use Rattle.delivery_laws.specs.world_state.Worlds.{Effect, Seat, State, after, burn_and_escrows, empty_seat, empty_slots, exit, invite, left_seat, moves, new_seat, no_seat, of_own, offer, offered_by, seat_at}
use Rattle.fair_laws.specs.Views.{LeftNamed}

-- ---- movements leave the slots of seats that they don't name

abbrev IsElsewhere : ℕ → Holder → Type 0
IsElsewhere n (Slot s k) = s ≢ n
IsElsewhere n _ = Unit {0}

taken_elsewhere : (r : Rights) (h : Holder) (b : ℕ) (w : ValueView) (n : ℕ) → IsElsewhere n h → slots_at (taken r h b w).slots n ≡ slots_at r.slots n
taken_elsewhere r (Slot s k) b w n away = read_other r.slots s n (shares_less k (amount_of b w) (slots_at r.slots s)) [] away
taken_elsewhere r (Purse p) b w n away = refl
taken_elsewhere r (Payment p) b w n away = refl
taken_elsewhere r Hand b w n away = refl
taken_elsewhere r Outside b w n away = refl

given_elsewhere : (r : Rights) (h : Holder) (b : ℕ) (w : ValueView) (n : ℕ) → IsElsewhere n h → slots_at (given r h b w).slots n ≡ slots_at r.slots n
given_elsewhere r (Slot s k) b w n away = read_other r.slots s n (shares_more k (amount_of b w) (slots_at r.slots s)) [] away
given_elsewhere r (Purse p) b w n away = refl
given_elsewhere r (Payment p) b w n away = refl
given_elsewhere r Hand b w n away = refl
given_elsewhere r Outside b w n away = refl

-- a seat that was left is named by no good movement
open_elsewhere : (seats : List Seat) (h : Holder) (n : ℕ) (rows : List Share) → (seat_at seats n).last ≡ Some rows → IsAtOpen seats h → IsElsewhere n h
open_elsewhere seats (Slot s k) n rows left opens = λ same. let clash : Some rows ≡ None = sym left ∙ subst (λ m. (seat_at seats m).last ≡ None) same opens in cc
open_elsewhere seats (Purse p) n rows left opens = tt
open_elsewhere seats (Payment p) n rows left opens = tt
open_elsewhere seats Hand n rows left opens = tt
open_elsewhere seats Outside n rows left opens = tt

slots_stay : (seats : List Seat) (n : ℕ) (rows : List Share) → (seat_at seats n).last ≡ Some rows → (r : Rights) (ms : List Movement) → AllByRecursion (IsGoodMove seats) ms → slots_at (all_moved r ms).slots n ≡ slots_at r.slots n
slots_stay seats n rows left r [] good = refl
slots_stay seats n rows left r (m ∷ ms) good =
    slots_stay seats n rows left (moved r m) ms good.1
    ∙ given_elsewhere (taken r m.from m.brand m.value) m.to m.brand m.value n (open_elsewhere seats m.to n rows left good.0.to)
    ∙ taken_elsewhere r m.from m.brand m.value n (open_elsewhere seats m.from n rows left good.0.from)

names_emptied : (rs : List Share) → map slot_name (map emptied rs) ≡ map slot_name rs
names_emptied [] = refl
names_emptied (r ∷ rs) = ap (λ l. slot_name r ∷ l) (names_emptied rs)

-- ---- each effect

-- where the seats and their slots are as they were
same_left : (w next : State) → next.seats ≡ w.seats → next.rights.slots ≡ w.rights.slots → LeftNamed w → LeftNamed next
same_left w next seats slots is = record {
  each = subst (λ (p : List Seat × List (List Share)). (n : ℕ) (rows : List Share) → n < length p.0 → (seat_at p.0 n).last ≡ Some rows → map slot_name (slots_at p.1 n) ≡ map slot_name rows) (λ i. (sym seats i, sym slots i)) is.each;
}

-- a seat that was opened is not left; of the others nothing changes
opened_left : (w next : State) (new : Seat) → next.seats ≡ w.seats ++ new ∷ [] → new.last ≡ None
    → ((n : ℕ) (rows : List Share) → n < length w.seats → (seat_at next.seats n).last ≡ Some rows → slots_at next.rights.slots n ≡ slots_at w.rights.slots n) → LeftNamed w → LeftNamed next
opened_left w next new seats opens slots is = record { each = λ n rows lt left. by n rows lt left (length w.seats == n) refl }
  where
    by : (n : ℕ) (rows : List Share) → n < length next.seats → (seat_at next.seats n).last ≡ Some rows → (b : Bool) → (length w.seats == n) ≡ b → map slot_name (slots_at next.rights.slots n) ≡ map slot_name rows
    by n rows lt left true here =
        let e : n ≡ length w.seats = sym (same_number (length w.seats) n here) in
        let at : seat_at next.seats n ≡ new = ap (λ l. seat_at l n) seats ∙ read_pushed w.seats new no_seat n e in
        let clash : Some rows ≡ None = sym left ∙ ap (λ (s : Seat). s.last) at ∙ opens in cc
    by n rows lt left false apart =
        let not = other_number (length w.seats) n apart in
        let more : length next.seats ≡ length w.seats + 1 = ap length seats ∙ length_push w.seats new in
        let below : n < length w.seats = omega (arith, lt, more, (λ (e : n ≡ length w.seats). not (sym e))) in
        let was : (seat_at w.seats n).last ≡ Some rows = sym (ap (λ (s : Seat). s.last) (ap (λ l. seat_at l n) seats ∙ read_before w.seats new no_seat n not)) ∙ left in
        ap (map slot_name) (slots n rows below left) ∙ is.each n rows below was

module _ (w : State) (s : ℕ) (next : State) (good : IsGoodWorld w) (made : s < length w.seats) where
  abbrev closed : Seat
  closed = left_seat (seat_at w.seats s) (slots_at w.rights.slots s)

  exit_left : next.seats ≡ slice_set w.seats s closed → next.rights.slots ≡ slice_set w.rights.slots s (map emptied (slots_at w.rights.slots s)) → LeftNamed w → LeftNamed next
  exit_left seats slots is = record { each = λ n rows lt left. by n rows lt left (s == n) refl }
    where
      by : (n : ℕ) (rows : List Share) → n < length next.seats → (seat_at next.seats n).last ≡ Some rows → (b : Bool) → (s == n) ≡ b → map slot_name (slots_at next.rights.slots n) ≡ map slot_name rows
      by n rows lt left true here =
          let e : s ≡ n = same_number s n here in
          let at : seat_at next.seats s ≡ closed = ap (λ l. seat_at l s) seats ∙ read_set w.seats s closed no_seat made in
          let had : slots_at w.rights.slots s ≡ rows = ap (λ o. unwrap_or o rows) (sym (ap (λ (x : Seat). x.last) at) ∙ subst (λ m. (seat_at next.seats m).last ≡ Some rows) (sym e) left) in
          let now : slots_at next.rights.slots s ≡ map emptied (slots_at w.rights.slots s) = ap (λ l. slots_at l s) slots ∙ read_set w.rights.slots s (map emptied (slots_at w.rights.slots s)) [] (omega (arith, made, good.seats.slotted)) in
          subst (λ m. map slot_name (slots_at next.rights.slots m) ≡ map slot_name rows) e (ap (map slot_name) now ∙ names_emptied (slots_at w.rights.slots s) ∙ ap (map slot_name) had)
      by n rows lt left false apart =
          let not = other_number s n apart in
          let as_many : length next.seats ≡ length w.seats = ap length seats ∙ length_set w.seats s closed in
          let was : (seat_at w.seats n).last ≡ Some rows = sym (ap (λ (x : Seat). x.last) (ap (λ l. seat_at l n) seats ∙ read_other w.seats s n closed no_seat not)) ∙ left in
          ap (map slot_name) (ap (λ l. slots_at l n) slots ∙ read_other w.rights.slots s n (map emptied (slots_at w.rights.slots s)) [] not) ∙ is.each n rows (omega (arith, lt, as_many)) was

pub left_after : (w : State) (e : Effect) → IsGoodWorld w → IsGoodEffect w e → LeftNamed w → LeftNamed (after w e)
left_after w (moves ms) good can is = record { each = λ n rows lt left. ap (map slot_name) (slots_stay w.seats n rows left w.rights ms can.good) ∙ is.each n rows lt left }
left_after w (offer o) good can is =
    let next = after w (offer o) in
    let new = new_seat (offered_by w o).instance o.proposal in
    opened_left w next new refl refl (λ n rows lt left.
    slots_stay (seats_for w o) n rows left (rights_for w o) (burn_and_escrows o) can.moves.good
    ∙ read_before w.rights.slots (empty_slots o.proposal) [] n (λ e. omega (arith, e, lt, good.seats.slotted))) is
left_after w (empty_seat i rule) good can is =
    opened_left w (after w (empty_seat i rule)) (new_seat i (of_own rule)) refl refl (λ n rows lt left. read_before w.rights.slots [] [] n (λ e. omega (arith, e, lt, good.seats.slotted))) is
left_after w (exit s cause) good can is = exit_left w s (after w (exit s cause)) good (open_made w.seats s can) refl refl is
left_after w (invite d) good can is = record { each = is.each }
left_after w e good can is = same_left w (after w e) refl refl is
