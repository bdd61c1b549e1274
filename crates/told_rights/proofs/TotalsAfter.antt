-- What a movement makes of the totals that are told.
use Rattle.std.proofs.Common.{◌≡◌, ◌≢◌, ◌≤◌, ◌<◌, ◌==◌, ◌+◌, ◌-◌, ◌^◌, ◌⊎◌, ◌&&◌, ℕ, Bool, true, false, cond, if◌then◌else◌, List, [], ◌∷◌, ◌++◌, refl, sym, ap, subst, ◌∙◌, inl, inr, arith}
use Rattle.std.proofs.lemmas.Bool.{cases_eq, eq-eqb, ne_eqb}
use Rattle.escrow.specs.Running.{portion}
use Rattle.escrow.specs.Told.{coming, leaving}
use Rattle.escrow.proofs.TableSums.{held-inside, held-moved, leaving_held}
use Rattle.row_records.specs.amount_math.Content.{Content}
use Rattle.row_records.specs.amount_math.Counted.{counted as size}
use Rattle.row_records.specs.amount_math.ValueView.{minted_bound}
use Rattle.row_records.specs.fair_rows.Movements.{movement_of}
use Rattle.row_records.specs.fair_rows.Rows.{InTurn, IsFairMove}
use Rattle.row_records.specs.fair_rows.SoFar.{SoFar, sum_so_far, with_row}
use Rattle.row_records.specs.fair_rows.Values.{content_of}
use Rattle.row_records.specs.rights_model.Place.{place}
use Rattle.row_records.specs.rights_model.Supply.{burned, is_hand, is_inside, is_outside, minted}
use Rattle.row_records.specs.rights_model.Table.{CanMove, CanMoveAll, Table, no_holdings, table_after}
use Rattle.row_records.specs.rights_model.Totals.{held_over, is_payment, is_purse, is_slot, weight_of}
use Rattle.row_records.specs.rights_model.declared.Holder.{Holder}
use Rattle.row_records.specs.rights_model.declared.Holder.TheVariants.{Hand, Outside, Payment, Purse, Slot}
use Rattle.row_records.specs.rights_model.declared.Movement.{Movement}
use Rattle.row_records.specs.rights_model.declared.Sum.{Sum}
use Rattle.row_records.specs.turn_rows.Turns.{Move, moved}
use Rattle.told_rights.specs.Rights.{IsOfRows}
use Rattle.told_rights.specs.Sums.{CanLower, CanRaise, CanShift, lowered, raised, shifted}
use Rattle.told_rights.proofs.Movements.{size_push}
use Rattle.told_rights.proofs.Totals.{portion_is, weight_other, whole}

pub same_sum : (s t : Sum) → s.brand ≡ t.brand → s.minted ≡ t.minted → s.burned ≡ t.burned → s.purses ≡ t.purses → s.payments ≡ t.payments → s.slots ≡ t.slots → s ≡ t
same_sum s t a b c d e f = λ i. record { brand = a i; minted = b i; burned = c i; purses = d i; payments = e i; slots = f i }

portion_most : (who : Holder → Bool) (h : Holder) (n : ℕ) → portion who h n ≤ n
portion_most who h n = by (who h)
  where
    by : (x : Bool) → cond x n 0 ≤ n
    by true = omega arith
    by false = omega arith

module _ (i : InTurn) (m : Move) (rows : IsOfRows i) (fair : IsFairMove i m) where
  abbrev b : ℕ
  b = m.brand

  abbrev n : ℕ
  n = size (content_of m.value)

  abbrev t : Table
  t = i.now.table

  left : (who : Holder → Bool) → who Outside ≡ false → portion who m.from n ≤ held_over who t b
  left who not_outside = omega (arith, leaving_held who not_outside b t (movement_of m) fair.defined, portion_is who m.from b (content_of m.value))

  whole_now : held_over is_inside t b + size (burned i.now.moves b) ≡ size (minted i.now.moves b)
  whole_now = ap (λ u. held_over is_inside u b + size (burned i.now.moves b)) rows.table ∙ whole i.now.moves rows.defined b

  -- what is moved was minted, before or by it
  pub few : n ≤ minted_bound
  few = elim (outside m.from) [
    | inl is ↦ omega (
      arith,
      fair.minted,
      size_push (λ x. x.from) i.now.moves (movement_of m) b,
      portion_is is_outside m.from b (content_of m.value),
      ap (λ h. portion is_outside h n) is,
    )
    | inr inside ↦ omega (arith, left is_inside refl, ap (λ x. cond x n 0) inside, whole_now, rows.minted b)
  ]
    where
      outside : (h : Holder) → (h ≡ Outside) ⊎ (is_inside h ≡ true)
      outside Outside = inl refl
      outside (Purse x) = inr refl
      outside (Payment x) = inr refl
      outside (Slot x w) = inr refl
      outside Hand = inr refl

  pub can_shift : CanShift (sum_so_far i.now b) m.from m.to n
  can_shift = record {
    lower = record {
      purses = left is_purse refl;
      payments = left is_payment refl;
      slots = left is_slot refl;
      minted = omega (arith, few, rows.minted b, portion_most is_outside m.from n);
    };
    raise = record {
      burned = omega (arith, few, rows.minted b, whole_now, portion_most is_outside m.to n);
      purses = omega (arith, few, rows.minted b, whole_now, held-inside b t, portion_most is_purse m.to n);
      payments = omega (arith, few, rows.minted b, whole_now, held-inside b t, portion_most is_payment m.to n);
      slots = omega (arith, few, rows.minted b, whole_now, held-inside b t, portion_most is_slot m.to n);
    };
  }

  held_here : (who : Holder → Bool) → who Outside ≡ false → (held_over who t b - portion who m.from n) + portion who m.to n ≡ held_over who (with_row i.now (moved m)).table b
  held_here who not_outside = omega (
    arith,
    held-moved who not_outside b t (movement_of m) fair.defined,
    left who not_outside,
    portion_is who m.from b (content_of m.value),
    portion_is who m.to b (content_of m.value),
  )

  -- its brand's totals are those from which and to which it went
  pub shifted_here : shifted (sum_so_far i.now b) m.from m.to n ≡ sum_so_far (with_row i.now (moved m)) b
  shifted_here = same_sum _ _ refl
      (sym (size_push (λ x. x.from) i.now.moves (movement_of m) b ∙ ap (λ x. size (minted i.now.moves b) + x) (portion_is is_outside m.from b (content_of m.value))))
      (sym (size_push (λ x. x.to) i.now.moves (movement_of m) b ∙ ap (λ x. size (burned i.now.moves b) + x) (portion_is is_outside m.to b (content_of m.value))))
      (held_here is_purse refl) (held_here is_payment refl) (held_here is_slot refl)

  module _ (e : ℕ) (apart : (b == e) ≡ false) where
    size_else : (end : Movement → Holder) → cond (is_outside (end (movement_of m)) && (b == e)) n 0 ≡ 0
    size_else end = weight_other is_outside (end (movement_of m)) b e (content_of m.value) apart

    held_else : (who : Holder → Bool) → who Outside ≡ false → held_over who t e ≡ held_over who (with_row i.now (moved m)).table e
    held_else who not_outside = omega (
      arith,
      held-moved who not_outside e t (movement_of m) fair.defined,
      weight_other who m.from b e (content_of m.value) apart,
      weight_other who m.to b e (content_of m.value) apart,
    )

    -- and those of another brand stay
    pub same_elsewhere : sum_so_far i.now e ≡ sum_so_far (with_row i.now (moved m)) e
    same_elsewhere = same_sum _ _ refl
        (omega (arith, size_push (λ x. x.from) i.now.moves (movement_of m) e, size_else (λ x. x.from)))
        (omega (arith, size_push (λ x. x.to) i.now.moves (movement_of m) e, size_else (λ x. x.to)))
        (held_else is_purse refl) (held_else is_payment refl) (held_else is_slot refl)

    pub minted_elsewhere : size (minted (i.now.moves ++ movement_of m ∷ []) e) ≤ minted_bound
    minted_elsewhere = omega (arith, size_push (λ x. x.from) i.now.moves (movement_of m) e, size_else (λ x. x.from), rows.minted e)
