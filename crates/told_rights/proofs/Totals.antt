-- What the rows bound: all that is held, and what was burned, was minted, and that is within its bound. And what one
-- movement more makes of totals.
use Rattle.std.proofs.Common.{◌≡◌, ◌≢◌, ◌≤◌, ◌<◌, ◌==◌, ◌+◌, ◌-◌, ◌^◌, ◌⊎◌, ◌&&◌, ℕ, Bool, true, false, cond, if◌then◌else◌, List, [], ◌∷◌, ◌++◌, refl, sym, ap, subst, ◌∙◌, inl, inr, arith}
use Rattle.std.proofs.lemmas.Bool.{cases_eq, eq-eqb, ne_eqb}
use Rattle.escrow.specs.Running.{portion}
use Rattle.escrow.specs.Told.{coming, leaving}
use Rattle.escrow.proofs.TableSums.{held-empty, held-inside, held-moved, leaving_held}
use Rattle.row_records.specs.amount_math.Content.{Contains, Content, count, counts, nothing, sum}
use Rattle.row_records.specs.amount_math.Counted.{counted as size, counted-sum}
use Rattle.row_records.specs.amount_math.Sparse.{put}
use Rattle.row_records.specs.amount_math.Totals.{total, total-empty, total-put}
use Rattle.row_records.specs.rights_model.Place.{Place, place}
use Rattle.row_records.specs.rights_model.Supply.{burned, is_hand, is_inside, is_outside, minted, moved_where, share_of, total_of}
use Rattle.row_records.specs.rights_model.Table.{CanMove, CanMoveAll, Table, holdings, holds, moved, no_holdings, table_after, taken}
use Rattle.row_records.specs.rights_model.Totals.{held_over, is_payment, is_purse, is_slot, weight_of}
use Rattle.row_records.specs.rights_model.declared.Holder.{Holder}
use Rattle.row_records.specs.rights_model.declared.Holder.TheVariants.{Hand, Outside, Payment, Purse, Slot}
use Rattle.row_records.specs.rights_model.declared.Movement.{Movement}
use Rattle.row_records.specs.rights_model.declared.Sum.{Sum}
use Rattle.escrow.proofs.rights_model.SupplyLaws.{conserved, count-le-total, total-taken}
use Rattle.told_rights.specs.Sums.{CanLower, CanRaise, CanShift, lowered, raised, shifted}
use Rattle.told_rights.proofs.Movements.{size_push}

-- ---- one place

pub portion_is : (who : Holder → Bool) (h : Holder) (b : ℕ) (c : Content) → weight_of who b (place h b) c ≡ portion who h (size c)
portion_is who h b c = by (who h) (b == b) (eq-eqb b b refl)
  where
    by : (x y : Bool) → y ≡ true → cond (x && y) (size c) 0 ≡ cond x (size c) 0
    by true y e = ap (λ z. cond z (size c) 0) e
    by false y e = refl

pub weight_other : (who : Holder → Bool) (h : Holder) (e b : ℕ) (c : Content) → (e == b) ≡ false → weight_of who b (place h e) c ≡ 0
weight_other who h e b c apart = by (who h) (e == b) apart
  where
    by : (x y : Bool) → y ≡ false → cond (x && y) (size c) 0 ≡ 0
    by true y q = ap (λ z. cond z (size c) 0) q
    by false y q = refl

out_or_in : (h : Holder) (e b : ℕ) (c : Content) → weight_of is_outside b (place h e) c + weight_of is_inside b (place h e) c ≡ (if e == b then size c else 0)
out_or_in Outside e b c = omega arith
out_or_in (Purse n) e b c = omega arith
out_or_in (Payment n) e b c = omega arith
out_or_in (Slot n w) e b c = omega arith
out_or_in Hand e b c = omega arith

-- ---- what was minted is held or was burned

size_first : (end : Movement → Holder) (m : Movement) (ms : List Movement) (b : ℕ) → size (moved_where end (m ∷ ms) b) ≡ weight_of is_outside b (place (end m) m.brand) m.value.content + size (moved_where end ms b)
size_first end m ms b = by (is_outside (end m) && (m.brand == b))
  where
    by : (x : Bool) → size (cond x (sum m.value.content (moved_where end ms b)) (moved_where end ms b)) ≡ cond x (size m.value.content) 0 + size (moved_where end ms b)
    by true = counted-sum _ _
    by false = omega arith

whole_from : (t : Table) (ms : List Movement) → CanMoveAll t ms → (b : ℕ) → held_over is_inside (table_after t ms) b + size (burned ms b) ≡ held_over is_inside t b + size (minted ms b)
whole_from t [] can b = refl
whole_from t (m ∷ ms) can b = omega (
  arith,
  whole_from (moved t m) ms can.1 b,
  held-moved is_inside refl b t m can.0,
  out_or_in m.from m.brand b m.value.content,
  out_or_in m.to m.brand b m.value.content,
  size_first (λ x. x.from) m ms b,
  size_first (λ x. x.to) m ms b,
)

pub count-le-size : (c : Content) (k : List ℕ) → count c k ≤ size c
count-le-size c k = omega (arith, total-put (λ q n. n) counts (λ _. refl) c k 0)

is_within : (h : Holder) → h ≢ Outside → is_inside h ≡ true
is_within Outside held = absurd (held refl)
is_within (Purse n) held = refl
is_within (Payment n) held = refl
is_within (Slot n w) held = refl
is_within Hand held = refl

module _ (ms : List Movement) (can : CanMoveAll no_holdings ms) (b : ℕ) where
  abbrev made : Table
  made = table_after no_holdings ms

  pub whole : held_over is_inside made b + size (burned ms b) ≡ size (minted ms b)
  whole = omega (arith, whole_from no_holdings ms can b, held-empty is_inside refl b)

  pub inside_and_burned : (k : List ℕ) → total_of is_inside made b k + count (burned ms b) k ≡ count (minted ms b) k
  inside_and_burned k = omega (arith, conserved no_holdings ms can b k, total-empty (share_of is_inside b k) holdings)

  pub burned_few : (k : List ℕ) → count (burned ms b) k ≤ count (minted ms b) k
  burned_few k = omega (arith, inside_and_burned k)

  pub held_few : (h : Holder) (k : List ℕ) → h ≢ Outside → count (holds made h b) k ≤ size (minted ms b)
  held_few h k held = omega (arith, count-le-total is_inside refl made h b k (is_within h held), inside_and_burned k, count-le-size (minted ms b) k)

  -- what is moved is minted first or held
  pub few_left : (m : Movement) → CanMove made m → (h : Holder) (k : List ℕ) → h ≢ Outside → count (holds (taken made m.from m.brand m.value.content) h b) k ≤ size (minted ms b)
  few_left m cm h k held = omega (
    arith,
    count-le-total is_inside refl (taken made m.from m.brand m.value.content) h b k (is_within h held),
    total-taken is_inside refl b k made m.from m.brand m.value.content cm.has,
    inside_and_burned k,
    count-le-size (minted ms b) k,
  )
