-- Movements that change the slots of one seat: from payments, from outside, to outside, to payments; and when they can
-- be made together.
use Rattle.std.specs.Prelude.{IsSome, IsSomeAnd, is_none, slice_set}
use Rattle.std.specs.List.{AllByRecursion}
use Rattle.std.proofs.Common.{◌≡◌, ◌≢◌, ℕ, zero, suc, ◌+◌, ◌<◌, ◌≤◌, List, [], ◌∷◌, Some, None, Option, length, inl, inr, ◌++◌, refl, sym, ◌∙◌, ap, subst, arith, if◌then◌else◌}
use Rattle.std.proofs.lemmas.Bool.{cases_eq, false≢true}
use Rattle.world_laws.specs.amount_math.Content.{count-nothing}
use Rattle.world_laws.specs.amount_math.ValueView.{ValueView}
use Rattle.rules.specs.call_arguments.Numbers.{AreApart, IsNoneOf}
use Rattle.world_laws.specs.ertp_mint.Stocks.{most_made}
use Rattle.world_laws.proofs.lemmas.ListEdits.{length_set, read_other, read_set, set_same, set_set}
use Rattle.rules.specs.holders.PaymentViews.{PaymentView, payment_view_at, spent_payment}
use Rattle.rules.specs.proposals.OfferSafety.{IsOfferSafe}
use Rattle.rules.specs.proposals.Shares.{amount_under}
use Rattle.rules.specs.proposals.declared.allocations.Share.{Share}
use Rattle.world_laws.specs.rights_model.declared.Holder.TheVariants.{Payment, Slot}
use Rattle.world_laws.specs.rights_model.declared.Movement.{Movement}
use Rattle.world_laws.specs.vault_model.Lists.{amount_of}
use Rattle.world_laws.specs.vault_model.Tables.{no_hand}
use Rattle.rules.specs.GivenPayments.{escrows_of}
use Rattle.world_laws.specs.world_state.Good.{AreEscrows, AreNamed, AreSharesOf, CanMoveTogether, HasNothing, HoldsNothing, IsFresh, IsGoodMove, LeavesSafe, LeavesSlots, TakeApart, open_slots}
use Rattle.world_laws.specs.world_state.Rights.{CanMoveAll, Has, Rights, TakesOrOpens, all_moved, given, lessened_payment, shares_more, slots_at, taken}
use Rattle.world_laws.specs.world_state.Worlds.{IsOpen, Seat, seat_at, staged_at}
use Rattle.rules.specs.Licence.{IsStored}
use Rattle.rule_laws.proofs.Moving.{Holds, contains_itself, emptied_payment}
use Rattle.rule_laws.proofs.SlotLists.{CanAddAll, moved_amount, with_more}
use Rattle.rule_laws.proofs.Spending.{spent_length}

-- ---- how many slots of open seats there are

slots_of_none : (n : ℕ) → IsOpen (seat_at [] n) → ⊥
slots_of_none n is = cc

pub open_slots_set : (seats : List Seat) (slots : List (List Share)) (s : ℕ) (new : List Share) → IsOpen (seat_at seats s) → s < length slots → open_slots seats (slice_set slots s new) + length (slots_at slots s) ≡ open_slots seats slots + length new
open_slots_set [] slots s new is made = absurd (slots_of_none s is)
open_slots_set (x ∷ xs) [] s new is made = absurd (omega (arith, made))
open_slots_set (x ∷ xs) (shares ∷ rest) zero new is made = by x.last is
  where
    by : (o : Option (List Share)) → o ≡ None → (if is_none o then length new else 0) + open_slots xs rest + length shares ≡ (if is_none o then length shares else 0) + open_slots xs rest + length new
    by None e = omega arith
    by (Some l) e = absurd (cc)
open_slots_set (x ∷ xs) (shares ∷ rest) (suc s) new is made = omega (arith, open_slots_set xs rest s new is (omega (arith, made)))

-- ---- a seat whose slots change

-- movements that change the slots of one open seat, of which nothing is staged, can be made together
pub can_change : (r : Rights) (seats : List Seat) (staging : List (Option (List Share))) (ms : List Movement) (s : ℕ) (new : List Share) → s < length r.slots → IsOpen (seat_at seats s) → staged_at staging s ≡ None → CanMoveAll r no_hand ms → AllByRecursion (IsGoodMove seats) ms → AllByRecursion (λ (m : Movement). HasNothing (all_moved r ms).payments m.from) ms → AllByRecursion (λ (m : Movement). IsFresh (length r.payments) m.to) ms → (all_moved r ms).slots ≡ slice_set r.slots s new → IsOfferSafe (seat_at seats s).proposal new → length (all_moved r ms).payments + open_slots seats r.slots + length new ≤ most_made + length (slots_at r.slots s) → CanMoveTogether r seats staging ms
can_change r seats staging ms s new made is_open unstaged can good emptied fresh slots safe room = record {
  can = can;
  good = good;
  emptied = emptied;
  fresh = fresh;
  apart = λ q staged. elim (cases_eq s q) [
    | inl same ↦ absurd (not_staged (staged_at staging s) unstaged (subst (λ k. IsSome (staged_at staging k)) (sym same) staged))
    | inr other ↦ elsewhere q other
  ];
  safe = λ q. elim (cases_eq s q) [
    | inl same ↦ inr (subst (LeavesSafe r seats ms) same (subst (IsOfferSafe (seat_at seats s).proposal) (sym here) safe))
    | inr other ↦ inl (elsewhere q other)
  ];
  room = record { left = omega (arith, room, spent_length ms (all_moved r ms).payments, ap (open_slots seats) slots, open_slots_set seats r.slots s new is_open made) };
}
  where
    not_staged : (o : Option (List Share)) → o ≡ None → IsSome o → ⊥
    not_staged None e there = absurd (false≢true there)
    not_staged (Some l) e there = cc

    elsewhere : (q : ℕ) → s ≢ q → LeavesSlots r ms q
    elsewhere q other = ap (λ l. slots_at l q) slots ∙ read_other r.slots s q new [] other

    here : slots_at (all_moved r ms).slots s ≡ new
    here = ap (λ l. slots_at l s) slots ∙ read_set r.slots s new [] made

-- ---- from payments

-- payments that are live, each with just what its share says
abbrev pub Pay : List PaymentView → List Share → List ℕ → Type 0
Pay ps [] [] = Unit {0}
Pay ps (r ∷ rs) (q ∷ qs) = Holds ps q r.amount.brand r.amount.value × Pay ps rs qs
Pay ps _ _ = ⊥

abbrev pub escrow_step : Rights → ℕ → Share → ℕ → Rights
escrow_step r s share p = given (taken r (Payment p) share.amount.brand share.amount.value) (Slot s share.keyword) share.amount.brand share.amount.value

abbrev less_of_payment : Rights → Share → ℕ → PaymentView
less_of_payment r share p = lessened_payment (payment_view_at r.payments p) share.amount.value.content

pub pays_still : (held : List PaymentView) (p : ℕ) (new : PaymentView) (rs : List Share) (ps : List ℕ) → IsNoneOf ps p → Pay held rs ps → Pay (slice_set held p new) rs ps
pays_still held p new [] [] none pay = tt
pays_still held p new [] (q ∷ qs) none pay = absurd pay
pays_still held p new (x ∷ xs) [] none pay = absurd pay
pays_still held p new (x ∷ xs) (q ∷ qs) none pay =
    let same = read_other held p q new (spent_payment 0) (λ e. none.0 (sym e)) in (
      record {
        made = omega (arith, pay.0.made, length_set held p new);
        brand = ap (λ (y : PaymentView). y.brand) same ∙ pay.0.brand;
        held = ap (λ (y : PaymentView). y.held) same ∙ pay.0.held;
      },
      pays_still held p new xs qs none.1 pay.1,
    )

same_payment : (p q : ℕ) → Payment p ≡ Payment q → p ≡ q
same_payment p q e = cc

module _ (s : ℕ) where
  pub at_seat : (r : Rights) (cur : List Share) (share : Share) → s < length r.slots → slots_at r.slots s ≡ cur → slots_at (slice_set r.slots s (shares_more share.keyword (moved_amount share) (slots_at r.slots s))) s ≡ shares_more share.keyword (moved_amount share) cur
  at_seat r cur share made is = read_set r.slots s (shares_more share.keyword (moved_amount share) (slots_at r.slots s)) [] made ∙ ap (shares_more share.keyword (moved_amount share)) is

  pub escrows_can : (r : Rights) (cur shares : List Share) (ps : List ℕ) → s < length r.slots → slots_at r.slots s ≡ cur → CanAddAll cur shares → Pay r.payments shares ps → AreApart ps → AreSharesOf r.out shares → CanMoveAll r no_hand (escrows_of s shares ps)
  escrows_can r cur [] ps made is can pay apart kinds = record { each = λ e k. count-nothing k }
  escrows_can r cur (x ∷ xs) [] made is can pay apart kinds = record { each = λ e k. count-nothing k }
  escrows_can r cur (x ∷ xs) (p ∷ ps) made is can pay apart kinds =
      let b = x.amount.brand in
      let v = x.amount.value in (
        record {
          brand = kinds.0.made;
          kind = kinds.0.kind;
          from = record {
            made = pay.0.made;
            has = subst (λ (o : Option ValueView). IsSomeAnd o (λ y. Has (amount_of (payment_view_at r.payments p).brand y) b v)) (sym pay.0.held) (record { brand = pay.0.brand; kind = refl; has = contains_itself v.content });
          };
          to = record { made = made; takes = subst (λ shares. TakesOrOpens (amount_under x.keyword shares) shares b v) (sym is) can.0 };
        },
        escrows_can (escrow_step r s x p) (shares_more x.keyword (moved_amount x) cur) xs ps (omega (arith, made, length_set r.slots s (shares_more x.keyword (moved_amount x) (slots_at r.slots s)))) (at_seat r cur x made is) can.1 (pays_still r.payments p (less_of_payment r x p) xs ps apart.0 pay.1) apart.1 kinds.1,
      )

  pub escrows_slots : (r : Rights) (cur shares : List Share) (ps : List ℕ) → s < length r.slots → slots_at r.slots s ≡ cur → Pay r.payments shares ps → AreApart ps → (all_moved r (escrows_of s shares ps)).slots ≡ slice_set r.slots s (with_more cur shares)
  escrows_slots r cur [] ps made is pay apart = sym (ap (slice_set r.slots s) (sym is) ∙ set_same r.slots s [])
  escrows_slots r cur (x ∷ xs) [] made is pay apart = absurd pay
  escrows_slots r cur (x ∷ xs) (p ∷ ps) made is pay apart =
      let next = shares_more x.keyword (moved_amount x) (slots_at r.slots s) in
      escrows_slots (escrow_step r s x p) (shares_more x.keyword (moved_amount x) cur) xs ps (omega (arith, made, length_set r.slots s next)) (at_seat r cur x made is) (pays_still r.payments p (less_of_payment r x p) xs ps apart.0 pay.1) apart.1
      ∙ set_set r.slots s next (with_more cur (x ∷ xs))

  pub escrows_payments : (r : Rights) (shares : List Share) (ps : List ℕ) → length (all_moved r (escrows_of s shares ps)).payments ≡ length r.payments
  escrows_payments r [] ps = refl
  escrows_payments r (x ∷ xs) [] = refl
  escrows_payments r (x ∷ xs) (p ∷ ps) = escrows_payments (escrow_step r s x p) xs ps ∙ length_set r.payments p (less_of_payment r x p)

  pub escrows_untouched : (r : Rights) (shares : List Share) (ps : List ℕ) (q : ℕ) → IsNoneOf ps q → payment_view_at (all_moved r (escrows_of s shares ps)).payments q ≡ payment_view_at r.payments q
  escrows_untouched r [] ps q none = refl
  escrows_untouched r (x ∷ xs) [] q none = refl
  escrows_untouched r (x ∷ xs) (p ∷ ps) q none =
      escrows_untouched (escrow_step r s x p) xs ps q none.1 ∙ read_other r.payments p q (less_of_payment r x p) (spent_payment 0) none.0

  pub escrows_emptied : (r : Rights) (shares : List Share) (ps : List ℕ) → Pay r.payments shares ps → AreApart ps → AllByRecursion (λ (m : Movement). HasNothing (all_moved r (escrows_of s shares ps)).payments m.from) (escrows_of s shares ps)
  escrows_emptied r [] ps pay apart = tt
  escrows_emptied r (x ∷ xs) [] pay apart = tt
  escrows_emptied r (x ∷ xs) (p ∷ ps) pay apart = (
    subst HoldsNothing (sym (escrows_untouched (escrow_step r s x p) xs ps p apart.0)) (emptied_payment r.payments p x.amount.value pay.0.made pay.0.held),
    escrows_emptied (escrow_step r s x p) xs ps (pays_still r.payments p (less_of_payment r x p) xs ps apart.0 pay.1) apart.1,
  )

  pub escrows_good : (seats : List Seat) (shares : List Share) (ps : List ℕ) → IsOpen (seat_at seats s) → AreNamed shares → AllByRecursion (IsGoodMove seats) (escrows_of s shares ps)
  escrows_good seats [] ps is named = tt
  escrows_good seats (x ∷ xs) [] is named = tt
  escrows_good seats (x ∷ xs) (p ∷ ps) is named = (record { brings = λ e z. cc; from_named = tt; to_named = named.0; from = tt; to = is }, escrows_good seats xs ps is named.1)

  pub escrows_fresh : (made : ℕ) (shares : List Share) (ps : List ℕ) → AllByRecursion (λ (m : Movement). IsFresh made m.to) (escrows_of s shares ps)
  escrows_fresh made [] ps = tt
  escrows_fresh made (x ∷ xs) [] = tt
  escrows_fresh made (x ∷ xs) (p ∷ ps) = (tt, escrows_fresh made xs ps)

  pub escrows_are : (held : List PaymentView) (shares : List Share) (ps : List ℕ) → Pay held shares ps → AreEscrows s shares (escrows_of s shares ps)
  escrows_are held [] [] pay = tt
  escrows_are held [] (p ∷ ps) pay = absurd pay
  escrows_are held (x ∷ xs) [] pay = absurd pay
  escrows_are held (x ∷ xs) (p ∷ ps) pay = (record { payment = p; brand = refl; from = refl; to = refl; value = refl }, escrows_are held xs ps pay.1)

  pub escrows_stored : (shares : List Share) (ps : List ℕ) → AllByRecursion IsStored (escrows_of s shares ps ++ [])
  escrows_stored [] ps = tt
  escrows_stored (x ∷ xs) [] = tt
  escrows_stored (x ∷ xs) (p ∷ ps) = (inl tt, escrows_stored xs ps)

  pub escrows_take_apart : (shares : List Share) (ps : List ℕ) (q : ℕ) → IsNoneOf ps q → AllByRecursion (λ (m : Movement). m.from ≢ Payment q) (escrows_of s shares ps)
  escrows_take_apart [] ps q none = tt
  escrows_take_apart (x ∷ xs) [] q none = tt
  escrows_take_apart (x ∷ xs) (p ∷ ps) q none = (λ e. none.0 (same_payment p q e), escrows_take_apart xs ps q none.1)

  pub escrows_apart : (shares : List Share) (ps : List ℕ) → AreApart ps → TakeApart (escrows_of s shares ps)
  escrows_apart [] ps apart = tt
  escrows_apart (x ∷ xs) [] apart = tt
  escrows_apart (x ∷ xs) (p ∷ ps) apart = (escrows_take_apart xs ps p apart.0, escrows_apart xs ps apart.1)
