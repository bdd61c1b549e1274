-- A payment of which each part goes to a payment of its own.
use Rattle.std.specs.Prelude.{IfSome, IsSomeAnd}
use Rattle.std.specs.List.{AllByRecursion}
use Rattle.std.specs.Option.{option_map}
use Rattle.std.proofs.Common.{◌≡◌, ℕ, suc, ◌+◌, ◌<◌, ◌≤◌, List, [], ◌∷◌, ◌++◌, length, Option, Some, None, inl, refl, sym, ap, subst, ◌∙◌, arith}
use Rattle.std.proofs.lemmas.Bool.{eq-eqb}
use Rattle.world_laws.specs.amount_math.Content.{Content, Contains-sum, count, count-nothing, difference, difference-sum, nothing, sum, sum-comm}
use Rattle.world_laws.specs.amount_math.ValueView.{IsValue, ValueView}
use Rattle.world_laws.specs.amount_math.declared.Kind.{Kind}
use Rattle.world_laws.specs.host_data.Amounts.{IsValueOf}
use Rattle.rules.specs.Licence.{AreLicensed, IsStored, NamesPayment}
use Rattle.rule_laws.proofs.Moving.{Holds, held_brand, held_kind}
use Rattle.world_laws.specs.ertp_mint.Stocks.{most_made}
use Rattle.rules.specs.Lists.{moves_apart}
use Rattle.world_laws.specs.host_data.Tree.{Tree}
use Rattle.world_laws.specs.host_data.declared.data.Obj.{Obj}
use Rattle.world_laws.proofs.lemmas.ListEdits.{length_set}
use Rattle.rules.specs.holders.PaymentViews.{PaymentView, payment_view_at}
use Rattle.world_laws.specs.vault_model.Lists.{amount_of}
use Rattle.world_laws.specs.vault_model.Tables.{no_hand}
use Rattle.world_laws.specs.rights_model.Table.{movement}
use Rattle.world_laws.specs.rights_model.declared.Holder.TheVariants.{Payment}
use Rattle.world_laws.specs.rights_model.declared.Movement.{Movement}
use Rattle.rules.specs.value_tests.Totals.{total_of}
use Rattle.world_laws.specs.world_state.Good.{AreGood, HasNothing, HoldsNothing, IsFresh, IsGoodMove, IsGoodWorld, open_slots}
use Rattle.world_laws.specs.world_state.Rights.{CanMove, CanMoveAll, Has, IsNextOr, PaymentTakes, Rights, all_moved, kind_at, moved, lessened_payment, slots_at, taken, value_less}
use Rattle.world_laws.specs.world_state.Worlds.{Seat, State, moves}
use Rattle.rule_laws.proofs.Spending.{spent_length}
use Rattle.rule_laws.proofs.PaymentViews.{fresh_from, fresh_length, value_with}

-- ---- one part

-- a payment that was made has so much of a brand
pub record Left (r : Rights) (p b : ℕ) (kind : Kind) (c : Content) : Type 0 where
  pub made : p < length r.payments
  pub brand : (payment_view_at r.payments p).brand ≡ b
  pub held : (payment_view_at r.payments p).held ≡ Some (value_with kind c)

less_first : (a c : Content) → difference (sum a c) a ≡ c
less_first a c = ap (λ d. difference d a) (sum-comm a c) ∙ difference-sum c a

pub own_value : (kind : Kind) (v : ValueView) → IsValueOf kind v → IsValue v.kind v.content
own_value kind v is = subst (λ (k : Kind). IsValue k v.content) (sym is.kind_is) is.value

fresh_takes : (r : Rights) (n b : ℕ) (v : ValueView) → n ≡ length r.payments → IsValue v.kind v.content → PaymentTakes r n b v
fresh_takes r n b v next is = subst (λ t. IsNextOr t r n b v) (sym (eq-eqb n (length r.payments) next)) is

-- the next payment has a number one more then
pub next_number : (r : Rights) (p b n : ℕ) (v : ValueView) → n ≡ length r.payments → suc n ≡ length (moved r (movement b (Payment p) (Payment n) v)).payments
next_number r p b n v next = omega (arith, next, fresh_length r.payments p n (lessened_payment (payment_view_at r.payments p) v.content) (amount_of b v) next)

module _ (r : Rights) (p b n : ℕ) (kind : Kind) (v : ValueView) (c : Content) (next : n ≡ length r.payments) (left : Left r p b kind (sum v.content c)) where
  pub part_can : b < length r.out → kind_at r.out b ≡ kind → IsValueOf kind v → CanMove r no_hand (movement b (Payment p) (Payment n) v)
  part_can made same value = record {
    brand = made;
    kind = same ∙ sym value.kind_is;
    from = record {
      made = left.made;
      has = subst (λ (o : Option ValueView). IsSomeAnd o (λ x. Has (amount_of (payment_view_at r.payments p).brand x) b v)) (sym left.held)
          (record { brand = left.brand; kind = sym value.kind_is; has = Contains-sum v.content c });
    };
    to = fresh_takes (taken r (Payment p) b v) n b v (next ∙ sym (length_set r.payments p (lessened_payment (payment_view_at r.payments p) v.content))) (own_value kind v value);
  }

  left_next : Left (moved r (movement b (Payment p) (Payment n) v)) p b kind c
  left_next =
      let q = lessened_payment (payment_view_at r.payments p) v.content in
      let same = fresh_from r.payments p n q (amount_of b v) next left.made in
      record {
        made = omega (arith, left.made, fresh_length r.payments p n q (amount_of b v) next);
        brand = ap (λ (x : PaymentView). x.brand) same ∙ left.brand;
        held = ap (λ (x : PaymentView). x.held) same ∙ ap (option_map (value_less v.content)) left.held ∙ ap (λ d. Some (value_with kind d)) (less_first v.content c);
      }

-- ---- all parts

can_apart : (r : Rights) (p b n : ℕ) (kind : Kind) (vs : List ValueView) → n ≡ length r.payments → b < length r.out → kind_at r.out b ≡ kind → AllByRecursion (IsValueOf kind) vs → Left r p b kind (total_of vs) → CanMoveAll r no_hand (moves_apart b p n vs)
can_apart r p b n kind [] next made same values left = record { each = λ e k. count-nothing k }
can_apart r p b n kind (v ∷ vs) next made same values left = (
  part_can r p b n kind v (total_of vs) next left made same values.0,
  can_apart (moved r (movement b (Payment p) (Payment n) v)) p b (suc n) kind vs (next_number r p b n v next) made same values.1 (left_next r p b n kind v (total_of vs) next left),
)

left_at_last : (r : Rights) (p b n : ℕ) (kind : Kind) (vs : List ValueView) → n ≡ length r.payments → Left r p b kind (total_of vs) → Left (all_moved r (moves_apart b p n vs)) p b kind nothing
left_at_last r p b n kind [] next left = left
left_at_last r p b n kind (v ∷ vs) next left =
    left_at_last (moved r (movement b (Payment p) (Payment n) v)) p b (suc n) kind vs (next_number r p b n v next) (left_next r p b n kind v (total_of vs) next left)

slots_apart : (r : Rights) (p b n : ℕ) (vs : List ValueView) → (all_moved r (moves_apart b p n vs)).slots ≡ r.slots
slots_apart r p b n [] = refl
slots_apart r p b n (v ∷ vs) = slots_apart (moved r (movement b (Payment p) (Payment n) v)) p b (suc n) vs

pub payments_apart : (r : Rights) (p b n : ℕ) (vs : List ValueView) → n ≡ length r.payments → length (all_moved r (moves_apart b p n vs)).payments ≡ length r.payments + length vs
payments_apart r p b n [] next = omega arith
payments_apart r p b n (v ∷ vs) next =
    let one = next_number r p b n v next in
    omega (arith, next, one, payments_apart (moved r (movement b (Payment p) (Payment n) v)) p b (suc n) vs one)

good_apart : (seats : List Seat) (p b n : ℕ) (vs : List ValueView) → AllByRecursion (IsGoodMove seats) (moves_apart b p n vs)
good_apart seats p b n [] = tt
good_apart seats p b n (v ∷ vs) = (record { brings = λ e z. cc; from_named = tt; to_named = tt; from = tt; to = tt }, good_apart seats p b (suc n) vs)

emptied_apart : (ps : List PaymentView) (p b n : ℕ) (vs : List ValueView) → HoldsNothing (payment_view_at ps p) → AllByRecursion (λ (m : Movement). HasNothing ps m.from) (moves_apart b p n vs)
emptied_apart ps p b n [] none = tt
emptied_apart ps p b n (v ∷ vs) none = (none, emptied_apart ps p b (suc n) vs none)

fresh_apart : (made p b n : ℕ) (vs : List ValueView) → made ≤ n → AllByRecursion (λ (m : Movement). IsFresh made m.to) (moves_apart b p n vs)
fresh_apart made p b n [] le = tt
fresh_apart made p b n (v ∷ vs) le = (le, fresh_apart made p b (suc n) vs (omega (arith, le)))

nothing_left : (r : Rights) (p b : ℕ) (kind : Kind) → Left r p b kind nothing → HoldsNothing (payment_view_at r.payments p)
nothing_left r p b kind left = subst (λ (o : Option ValueView). IfSome o (λ (x : ValueView). (k : List ℕ) → count x.content k ≡ 0)) (sym left.held) (λ k. count-nothing k)

-- ---- what others see of them

pub licensed_apart : (w : State) (o : Obj) (m : List ℕ) (args : List Tree) (p b n : ℕ) (vs : List ValueView) → NamesPayment args p → AreLicensed w None o m args (moves_apart b p n vs ++ [])
licensed_apart w o m args p b n [] named = tt
licensed_apart w o m args p b n (v ∷ vs) named = (named, licensed_apart w o m args p b (suc n) vs named)

pub stored_apart : (p b n : ℕ) (vs : List ValueView) → AllByRecursion IsStored (moves_apart b p n vs ++ [])
stored_apart p b n [] = tt
stored_apart p b n (v ∷ vs) = (inl tt, stored_apart p b (suc n) vs)

-- ---- the effect

module _ (w : State) (good : IsGoodWorld w) where
  pub parted_can : (p b : ℕ) (v : ValueView) (vs : List ValueView) → Holds w.rights.payments p b v → AllByRecursion (IsValueOf v.kind) vs → total_of vs ≡ v.content → length w.rights.payments + open_slots w.seats w.rights.slots + length vs ≤ most_made → AreGood w (moves (moves_apart b p (length w.rights.payments) vs) ∷ [])
  parted_can p b v vs holds values whole room =
      let n = length w.rights.payments in
      let ms = moves_apart b p n vs in
      let left : Left w.rights p b v.kind (total_of vs) = record { made = holds.made; brand = holds.brand; held = holds.held ∙ ap (λ c. Some (value_with v.kind c)) (sym whole) } in
      let same = slots_apart w.rights p b n vs in (
        record {
          can = can_apart w.rights p b n v.kind vs refl (held_brand w good p b v holds) (held_kind w good p b v holds) values left;
          good = good_apart w.seats p b n vs;
          emptied = emptied_apart (all_moved w.rights ms).payments p b n vs (nothing_left (all_moved w.rights ms) p b v.kind (left_at_last w.rights p b n v.kind vs refl left));
          fresh = fresh_apart n p b n vs (omega arith);
          apart = λ s staged. ap (λ slots. slots_at slots s) same;
          safe = λ s. inl (ap (λ slots. slots_at slots s) same);
          room = record { left = omega (arith, room, spent_length ms (all_moved w.rights ms).payments, payments_apart w.rights p b n vs refl, ap (open_slots w.seats) same) };
        },
        tt,
      )
