-- What movements make of the sums over a table, all elements counted together.
use Rattle.std.specs.Prelude.{◌≡◌, ◌≢◌, ◌⊎◌, ◌≤◌, ◌==◌, ℕ, ◌+◌, Bool, true, false, cond, if◌then◌else◌, ◌&&◌, Option, Some, None, unwrap_or, List, [], ◌∷◌, refl}
use Rattle.std.proofs.Common.{inl, inr, sym, ◌∙◌, ap, subst, arith}
use Rattle.std.specs.FinMap as fin
use Rattle.std.specs.FinMap.{find}
use lib.Dec.{T, T_not}
use Rattle.rights_model.specs.amount_math.Content.{Content, nothing, sum, difference, Contains}
use Rattle.rights_model.specs.amount_math.Counted.{counted, counted-nothing, counted-sum, counted-difference}
use Rattle.rights_model.specs.amount_math.Sparse.{put, is_something, tied}
use Rattle.rights_model.specs.amount_math.Totals.{total-put, total-empty, weighed}
use Rattle.rights_model.specs.declared.Holder.{Holder}
use Rattle.rights_model.specs.declared.Holder.TheVariants.{Purse, Payment, Slot, Hand, Outside}
use Rattle.rights_model.specs.declared.Movement.{Movement}
use Rattle.rights_model.specs.Place.{Place, place, place_cmp}
use Rattle.rights_model.specs.Table.{Table, no_holdings, holdings, holds, taken, given, moved, is_nothing, CanMove}
use Rattle.rights_model.specs.Supply.{is_hand, is_inside, is_outside}
use Rattle.rights_model.specs.Totals.{held_over, is_payment, is_purse, is_slot, weight_of}
use Rattle.escrow.specs.Told.{coming, is_slot_of, leaving}

-- ---- one movement

module _ (who : Holder → Bool) (not_outside : who Outside ≡ false) (b : ℕ) where
  weightless : (p : Place) → weight_of who b p nothing ≡ 0
  weightless (h, e) = elim (who h && (e == b)) as (λ x. cond x (counted nothing) 0 ≡ 0) [ true ↦ counted-nothing | false ↦ refl ]

  adds : (p : Place) (c d : Content) → weight_of who b p (sum c d) ≡ weight_of who b p c + weight_of who b p d
  adds (h, e) c d = elim (who h && (e == b)) as (λ x. cond x (counted (sum c d)) 0 ≡ cond x (counted c) 0 + cond x (counted d) 0) [ true ↦ counted-sum c d | false ↦ refl ]

  takes : (p : Place) (c d : Content) → Contains c d → weight_of who b p (difference c d) + weight_of who b p d ≡ weight_of who b p c
  takes (h, e) c d has = elim (who h && (e == b)) as (λ x. cond x (counted (difference c d)) 0 + cond x (counted d) 0 ≡ cond x (counted c) 0) [ true ↦ counted-difference c d has | false ↦ refl ]

  outside_none : (e : ℕ) (c : Content) → weight_of who b (place Outside e) c ≡ 0
  outside_none e c = ap (λ x. cond (x && (e == b)) (counted c) 0) not_outside

  held-put : (t : Table) (h : Holder) (e : ℕ) (x : Content) → held_over who (put holdings t (h, e) x) b + weight_of who b (place h e) (holds t h e) ≡ held_over who t b + weight_of who b (place h e) x
  unfolding held_over
  held-put t h e x = total-put (weight_of who b) holdings weightless t (h, e) x

  given_inside : (t : Table) (h : Holder) (e : ℕ) (c : Content) → held_over who (put holdings t (h, e) (sum (holds t h e) c)) b ≡ held_over who t b + weight_of who b (place h e) c
  given_inside t h e c = omega (arith, held-put t h e (sum (holds t h e) c), adds (h, e) (holds t h e) c)

  taken_inside : (t : Table) (h : Holder) (e : ℕ) (c : Content) → Contains (holds t h e) c → held_over who (put holdings t (h, e) (difference (holds t h e) c)) b + weight_of who b (place h e) c ≡ held_over who t b
  taken_inside t h e c has = omega (arith, held-put t h e (difference (holds t h e) c), takes (h, e) (holds t h e) c has)

  pub held-given : (t : Table) (h : Holder) (e : ℕ) (c : Content) → held_over who (given t h e c) b ≡ held_over who t b + weight_of who b (place h e) c
  unfolding given
  held-given t Outside e c = omega (arith, outside_none e c)
  held-given t (Purse n) e c = given_inside t (Purse n) e c
  held-given t (Payment n) e c = given_inside t (Payment n) e c
  held-given t (Slot n w) e c = given_inside t (Slot n w) e c
  held-given t Hand e c = given_inside t Hand e c

  pub held-taken : (t : Table) (h : Holder) (e : ℕ) (c : Content) → (h ≢ Outside → Contains (holds t h e) c) → held_over who (taken t h e c) b + weight_of who b (place h e) c ≡ held_over who t b
  unfolding taken
  held-taken t Outside e c has = omega (arith, outside_none e c)
  held-taken t (Purse n) e c has = taken_inside t (Purse n) e c (has (λ is. cc))
  held-taken t (Payment n) e c has = taken_inside t (Payment n) e c (has (λ is. cc))
  held-taken t (Slot n w) e c has = taken_inside t (Slot n w) e c (has (λ is. cc))
  held-taken t Hand e c has = taken_inside t Hand e c (has (λ is. cc))

  -- what a movement takes from those holders, it gives them too or lets go
  pub held-moved : (t : Table) (m : Movement) → CanMove t m → held_over who (moved t m) b + leaving who m b ≡ held_over who t b + coming who m b
  held-moved t m can = omega (arith, held-taken t m.from m.brand m.value.content can.has, held-given (taken t m.from m.brand m.value.content) m.to m.brand m.value.content)

  -- and it takes no more than they hold
  pub leaving_held : (t : Table) (m : Movement) → CanMove t m → leaving who m b ≤ held_over who t b
  leaving_held t m can = omega (arith, held-taken t m.from m.brand m.value.content can.has)

  pub held-empty : held_over who no_holdings b ≡ 0
  unfolding held_over
  held-empty = total-empty (weight_of who b) holdings

-- ---- sums of several kinds of holders

module _ (b : ℕ) where
  inside_by : (p : Place) (c : Content) → weight_of is_purse b p c + weight_of is_payment b p c + weight_of is_slot b p c + weight_of is_hand b p c ≡ weight_of is_inside b p c
  inside_by (Outside, e) c = refl
  inside_by (Purse n, e) c = omega arith
  inside_by (Payment n, e) c = omega arith
  inside_by (Slot n w, e) c = omega arith
  inside_by (Hand, e) c = omega arith

  -- inside are the purses, the payments, the slots and the hand
  pub held-inside : (t : Table) → held_over is_purse t b + held_over is_payment t b + held_over is_slot t b + held_over is_hand t b ≡ held_over is_inside t b
  unfolding held_over
  held-inside t = along (fin.entries t.held)
    where
      along : (es : List (Place × Content)) → weighed (weight_of is_purse b) es + weighed (weight_of is_payment b) es + weighed (weight_of is_slot b) es + weighed (weight_of is_hand b) es ≡ weighed (weight_of is_inside b) es
      along [] = refl
      along (e ∷ es) = omega (arith, inside_by e.0 e.1, along es)

  -- a holder is outside or inside
  pub outside_or_inside : (h : Holder) (c : Content) → weight_of is_outside b (place h b) c + weight_of is_inside b (place h b) c ≡ (if b == b then counted c else 0)
  outside_or_inside Outside c = omega arith
  outside_or_inside (Purse n) c = omega arith
  outside_or_inside (Payment n) c = omega arith
  outside_or_inside (Slot n w) c = omega arith
  outside_or_inside Hand c = omega arith

  share_inside : (instances : List ℕ) (i : ℕ) (p : Place) (c : Content) → weight_of (is_slot_of instances i) b p c ≤ weight_of is_inside b p c
  share_inside instances i (Outside, e) c = omega arith
  share_inside instances i (Purse n, e) c = omega arith
  share_inside instances i (Payment n, e) c = omega arith
  share_inside instances i (Slot n w, e) c = at_most (is_slot_of instances i (Slot n w)) (e == b)
    where
      at_most : (x y : Bool) → cond (x && y) (counted c) 0 ≤ cond y (counted c) 0
      at_most true y = omega arith
      at_most false y = omega arith
  share_inside instances i (Hand, e) c = omega arith

  -- an instance's slots have no more than all inside
  pub share_held : (instances : List ℕ) (i : ℕ) (t : Table) → held_over (is_slot_of instances i) t b ≤ held_over is_inside t b
  unfolding held_over
  share_held instances i t = along (fin.entries t.held)
    where
      along : (es : List (Place × Content)) → weighed (weight_of (is_slot_of instances i) b) es ≤ weighed (weight_of is_inside b) es
      along [] = omega arith
      along (e ∷ es) = omega (arith, share_inside instances i e.0 e.1, along es)

-- ---- sums that differ only where nothing is held

no_entry : (o : Option Content) → T (is_something is_nothing o) → unwrap_or o nothing ≡ nothing → o ≡ None
no_entry None p e = refl
no_entry (Some x) p e = absurd (T_not _ p (subst (λ v. T (is_nothing v)) (sym e) holdings.is_nothing_is))

-- holders that differ only at places where nothing is held hold the same
pub held-same : (u v : Holder → Bool) (t : Table) (b : ℕ) → ((h : Holder) (e : ℕ) → (holds t h e ≡ nothing) ⊎ (u h ≡ v h)) → held_over u t b ≡ held_over v t b
unfolding held_over
held-same u v t b same = along (fin.entries t.held) (λ p. elim (same p.0 p.1) [
  | inl none ↦ inl (sym (fin.get-entries t.held p) ∙ no_entry (fin.get t.held p) (t.listed p) none)
  | inr is ↦ inr is
])
  where
    along : (es : List (Place × Content)) → ((p : Place) → (find place_cmp p es ≡ None) ⊎ (u p.0 ≡ v p.0)) → weighed (weight_of u b) es ≡ weighed (weight_of v b) es
    along [] h = refl
    along (e ∷ es) h = omega (arith, here (h e.0), along es (λ p. later p (h p)))
      where
        found : (x : Bool) → x ≡ true → cond x (Some e.1) (find place_cmp e.0 es) ≡ None → ⊥
        found true t q = cc
        found false t q = cc

        here : (find place_cmp e.0 (e ∷ es) ≡ None) ⊎ (u e.0.0 ≡ v e.0.0) → weight_of u b e.0 e.1 ≡ weight_of v b e.0 e.1
        here (inl none) = absurd (found _ (tied holdings e.0) none)
        here (inr is) = ap (λ x. cond (x && (e.0.1 == b)) (counted e.1) 0) is

        rest : (x : Bool) (o : Option Content) → cond x (Some e.1) o ≡ None → o ≡ None
        rest true o q = absurd (cc)
        rest false o q = q

        later : (p : Place) → (find place_cmp p (e ∷ es) ≡ None) ⊎ (u p.0 ≡ v p.0) → (find place_cmp p es ≡ None) ⊎ (u p.0 ≡ v p.0)
        later p (inl none) = inl (rest _ _ none)
        later p (inr is) = inr is
