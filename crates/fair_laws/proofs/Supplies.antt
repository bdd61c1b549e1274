-- What movements make of what is out of each brand, and of the totals minted and burned.
use Rattle.std.specs.Prelude.{◌≡◌, ◌⊎◌, ◌+◌, ◌==◌, ◌&&◌, ◌<◌, ℕ, Bool, true, false, cond, List, [], ◌∷◌, ◌++◌, length, slice_set, refl}
use Rattle.std.proofs.Common.{inl, inr, sym, ◌∙◌, ap, subst, arith}
use Rattle.std.proofs.lemmas.Bool.{cases_eq, eq-eqb, ne_eqb}
use Rattle.fair_rows.specs.amount_math.Content.{Contains, Content, count, count-difference, count-sum, nothing-sum, same_content, sum, sum-assoc}
use Rattle.fair_rows.specs.amount_math.Counted.{counted, counted-nothing, counted-sum}
use Rattle.fair_rows.specs.amount_math.ValueView.{ValueView}
use Rattle.fair_rows.specs.amount_math.declared.Kind.{Kind}
use Rattle.fair_rows.specs.amount_math.declared.Kind.TheVariants.{Nat}
use Rattle.delivery_laws.specs.ertp_mint.BrandSupply.{BrandSupply, issued, new_supply, retired, supply_at}
use Rattle.delivery_laws.proofs.lemmas.ListEdits.{length_set, read_before, read_other, read_past, read_pushed, read_set}
use Rattle.fair_rows.specs.rights_model.Supply.{burned, is_outside, minted, moved_where}
use Rattle.fair_rows.specs.rights_model.declared.Holder.{Holder}
use Rattle.fair_rows.specs.rights_model.declared.Holder.TheVariants.{Purse, Payment, Slot, Hand, Outside}
use Rattle.fair_rows.specs.rights_model.declared.Movement.{Movement}
use Rattle.delivery_laws.specs.world_state.Rights.{CanGive, CanMoveAll, Rights, all_moved, given, hand_after, moved, taken}
use Rattle.fair_laws.specs.Accounts.{burned_of, minted_of, out_of}

-- ---- one half

supply_set : (l : List BrandSupply) (b e : ℕ) (x : BrandSupply) → b < length l → supply_at (slice_set l b x) e ≡ cond (b == e) x (supply_at l e)
supply_set l b e x lt = elim (cases_eq b e) [
  | inl at ↦ ap (supply_at (slice_set l b x)) (sym at) ∙ read_set l b x (new_supply Nat) lt ∙ ap (λ t. cond t x (supply_at l e)) (sym (eq-eqb b e at))
  | inr apart ↦ read_other l b e x (new_supply Nat) apart ∙ ap (λ t. cond t x (supply_at l e)) (sym (ne_eqb b e apart))
]

-- as much of a content as the brand and the holder let count
abbrev part : Holder → ℕ → ℕ → ℕ → ℕ
part h b e n = cond (is_outside h && (b == e)) n 0

module _ (l : List BrandSupply) (b e : ℕ) (c : Content) (lt : b < length l) where
  abbrev now : BrandSupply → BrandSupply
  now x = supply_at (slice_set l b x) e

  issued_out : (k : List ℕ) → count (now (issued (supply_at l b) c)).outstanding.content k ≡ count (supply_at l e).outstanding.content k + cond (b == e) (count c k) 0
  issued_out k = ap (λ (x : BrandSupply). count x.outstanding.content k) (supply_set l b e (issued (supply_at l b) c) lt) ∙ by (cases_eq b e)
    where
      by : (b ≡ e) ⊎ (b ≡ e → ⊥) → count (cond (b == e) (issued (supply_at l b) c) (supply_at l e)).outstanding.content k ≡ count (supply_at l e).outstanding.content k + cond (b == e) (count c k) 0
      by (inl at) = subst (λ t. count (cond t (issued (supply_at l b) c) (supply_at l e)).outstanding.content k ≡ count (supply_at l e).outstanding.content k + cond t (count c k) 0) (sym (eq-eqb b e at))
          (count-sum (supply_at l b).outstanding.content c k ∙ ap (λ q. count (supply_at l q).outstanding.content k + count c k) at)
      by (inr apart) = subst (λ t. count (cond t (issued (supply_at l b) c) (supply_at l e)).outstanding.content k ≡ count (supply_at l e).outstanding.content k + cond t (count c k) 0) (sym (ne_eqb b e apart)) (omega arith)

  retired_out : Contains (supply_at l b).outstanding.content c → (k : List ℕ) → count (now (retired (supply_at l b) c)).outstanding.content k + cond (b == e) (count c k) 0 ≡ count (supply_at l e).outstanding.content k
  retired_out has k = ap (λ (x : BrandSupply). count x.outstanding.content k + cond (b == e) (count c k) 0) (supply_set l b e (retired (supply_at l b) c) lt) ∙ by (cases_eq b e)
    where
      by : (b ≡ e) ⊎ (b ≡ e → ⊥) → count (cond (b == e) (retired (supply_at l b) c) (supply_at l e)).outstanding.content k + cond (b == e) (count c k) 0 ≡ count (supply_at l e).outstanding.content k
      by (inl at) = subst (λ t. count (cond t (retired (supply_at l b) c) (supply_at l e)).outstanding.content k + cond t (count c k) 0 ≡ count (supply_at l e).outstanding.content k) (sym (eq-eqb b e at))
          (subst (λ q. count (retired (supply_at l b) c).outstanding.content k + count c k ≡ count (supply_at l q).outstanding.content k) at (omega (arith, count-difference (supply_at l b).outstanding.content c k, has.each k)))
      by (inr apart) = subst (λ t. count (cond t (retired (supply_at l b) c) (supply_at l e)).outstanding.content k + cond t (count c k) 0 ≡ count (supply_at l e).outstanding.content k) (sym (ne_eqb b e apart)) (omega arith)

  totals_by : (f : BrandSupply → ℕ) (x : BrandSupply) (n : ℕ) → f x ≡ f (supply_at l b) + n → f (now x) ≡ f (supply_at l e) + cond (b == e) n 0
  totals_by f x n is = ap f (supply_set l b e x lt) ∙ by (cases_eq b e)
    where
      by : (b ≡ e) ⊎ (b ≡ e → ⊥) → f (cond (b == e) x (supply_at l e)) ≡ f (supply_at l e) + cond (b == e) n 0
      by (inl at) = subst (λ t. f (cond t x (supply_at l e)) ≡ f (supply_at l e) + cond t n 0) (sym (eq-eqb b e at)) (is ∙ ap (λ q. f (supply_at l q) + n) at)
      by (inr apart) = subst (λ t. f (cond t x (supply_at l e)) ≡ f (supply_at l e) + cond t n 0) (sym (ne_eqb b e apart)) (omega arith)

module _ (r : Rights) (b : ℕ) (w : ValueView) (lt : b < length r.out) (e : ℕ) where
  out_taken : (h : Holder) (k : List ℕ) → count (out_of (taken r h b w) e) k ≡ count (out_of r e) k + part h b e (count w.content k)
  out_taken Outside k = issued_out r.out b e w.content lt k
  out_taken (Purse n) k = omega arith
  out_taken (Payment n) k = omega arith
  out_taken (Slot s q) k = omega arith
  out_taken Hand k = omega arith

  out_given : (h : Holder) → CanGive r h b w → (k : List ℕ) → count (out_of (given r h b w) e) k + part h b e (count w.content k) ≡ count (out_of r e) k
  out_given Outside can k = retired_out r.out b e w.content lt can.has k
  out_given (Purse n) can k = omega arith
  out_given (Payment n) can k = omega arith
  out_given (Slot s q) can k = omega arith
  out_given Hand can k = omega arith

  minted_taken : (h : Holder) → minted_of (taken r h b w) e ≡ minted_of r e + part h b e (counted w.content)
  minted_taken Outside = totals_by r.out b e w.content lt (λ x. x.minted) (issued (supply_at r.out b) w.content) (counted w.content) refl
  minted_taken (Purse n) = omega arith
  minted_taken (Payment n) = omega arith
  minted_taken (Slot s q) = omega arith
  minted_taken Hand = omega arith

  burned_taken : (h : Holder) → burned_of (taken r h b w) e ≡ burned_of r e
  burned_taken Outside = totals_by r.out b e w.content lt (λ x. x.burned) (issued (supply_at r.out b) w.content) 0 (omega arith) ∙ none (b == e)
    where
      none : (t : Bool) → burned_of r e + cond t 0 0 ≡ burned_of r e
      none true = omega arith
      none false = omega arith
  burned_taken (Purse n) = refl
  burned_taken (Payment n) = refl
  burned_taken (Slot s q) = refl
  burned_taken Hand = refl

  minted_given : (h : Holder) → minted_of (given r h b w) e ≡ minted_of r e
  minted_given Outside = totals_by r.out b e w.content lt (λ x. x.minted) (retired (supply_at r.out b) w.content) 0 (omega arith) ∙ none (b == e)
    where
      none : (t : Bool) → minted_of r e + cond t 0 0 ≡ minted_of r e
      none true = omega arith
      none false = omega arith
  minted_given (Purse n) = refl
  minted_given (Payment n) = refl
  minted_given (Slot s q) = refl
  minted_given Hand = refl

  burned_given : (h : Holder) → burned_of (given r h b w) e ≡ burned_of r e + part h b e (counted w.content)
  burned_given Outside = totals_by r.out b e w.content lt (λ x. x.burned) (retired (supply_at r.out b) w.content) (counted w.content) refl
  burned_given (Purse n) = omega arith
  burned_given (Payment n) = omega arith
  burned_given (Slot s q) = omega arith
  burned_given Hand = omega arith

out_as_many : (r : Rights) (h : Holder) (b : ℕ) (w : ValueView) → length (taken r h b w).out ≡ length r.out
out_as_many r Outside b w = length_set r.out b _
out_as_many r (Purse n) b w = refl
out_as_many r (Payment n) b w = refl
out_as_many r (Slot s q) b w = refl
out_as_many r Hand b w = refl

-- ---- movements

-- one more movement, where its end is outside in the brand
count_more : (t : Bool) (c d : Content) (k : List ℕ) → count (cond t (sum c d) d) k ≡ cond t (count c k) 0 + count d k
count_more true c d k = count-sum c d k
count_more false c d k = omega arith

counted_more : (t : Bool) (c d : Content) → counted (cond t (sum c d) d) ≡ cond t (counted c) 0 + counted d
counted_more true c d = counted-sum c d
counted_more false c d = omega arith

pub out_counts : (r : Rights) (hand : ℕ → Content) (ms : List Movement) → CanMoveAll r hand ms → (e : ℕ) (k : List ℕ) → count (out_of (all_moved r ms) e) k + count (burned ms e) k ≡ count (out_of r e) k + count (minted ms e) k
out_counts r hand [] can e k = refl
out_counts r hand (m ∷ ms) can e k =
    let half = taken r m.from m.brand m.value in
    let lt : m.brand < length half.out = omega (arith, can.0.brand, out_as_many r m.from m.brand m.value) in
    omega (
      arith,
      out_counts (moved r m) (hand_after hand m) ms can.1 e k,
      out_taken r m.brand m.value can.0.brand e m.from k,
      out_given half m.brand m.value lt e m.to can.0.to k,
      count_more (is_outside m.from && (m.brand == e)) m.value.content (minted ms e) k,
      count_more (is_outside m.to && (m.brand == e)) m.value.content (burned ms e) k,
    )

pub minted_counts : (r : Rights) (hand : ℕ → Content) (ms : List Movement) → CanMoveAll r hand ms → (e : ℕ) → minted_of (all_moved r ms) e ≡ minted_of r e + counted (minted ms e)
minted_counts r hand [] can e = omega (arith, counted-nothing)
minted_counts r hand (m ∷ ms) can e =
    let half = taken r m.from m.brand m.value in
    let lt : m.brand < length half.out = omega (arith, can.0.brand, out_as_many r m.from m.brand m.value) in
    omega (
      arith,
      minted_counts (moved r m) (hand_after hand m) ms can.1 e,
      minted_taken r m.brand m.value can.0.brand e m.from,
      minted_given half m.brand m.value lt e m.to,
      counted_more (is_outside m.from && (m.brand == e)) m.value.content (minted ms e),
    )

pub burned_counts : (r : Rights) (hand : ℕ → Content) (ms : List Movement) → CanMoveAll r hand ms → (e : ℕ) → burned_of (all_moved r ms) e ≡ burned_of r e + counted (burned ms e)
burned_counts r hand [] can e = omega (arith, counted-nothing)
burned_counts r hand (m ∷ ms) can e =
    let half = taken r m.from m.brand m.value in
    let lt : m.brand < length half.out = omega (arith, can.0.brand, out_as_many r m.from m.brand m.value) in
    omega (
      arith,
      burned_counts (moved r m) (hand_after hand m) ms can.1 e,
      burned_taken r m.brand m.value can.0.brand e m.from,
      burned_given half m.brand m.value lt e m.to,
      counted_more (is_outside m.to && (m.brand == e)) m.value.content (burned ms e),
    )

pub out_is : (r : Rights) (hand : ℕ → Content) (ms : List Movement) → CanMoveAll r hand ms → (e : ℕ) → sum (out_of (all_moved r ms) e) (burned ms e) ≡ sum (out_of r e) (minted ms e)
out_is r hand ms can e = same_content _ _ (λ k. count-sum (out_of (all_moved r ms) e) (burned ms e) k ∙ out_counts r hand ms can e k ∙ sym (count-sum (out_of r e) (minted ms e) k))

-- ---- movements after movements

pub where_append : (end : Movement → Holder) (ms ns : List Movement) (b : ℕ) → moved_where end (ms ++ ns) b ≡ sum (moved_where end ms b) (moved_where end ns b)
where_append end [] ns b = sym (nothing-sum (moved_where end ns b))
where_append end (m ∷ ms) ns b = by (is_outside (end m) && (m.brand == b)) (where_append end ms ns b)
  where
    by : (t : Bool) → moved_where end (ms ++ ns) b ≡ sum (moved_where end ms b) (moved_where end ns b)
        → cond t (sum m.value.content (moved_where end (ms ++ ns) b)) (moved_where end (ms ++ ns) b) ≡ sum (cond t (sum m.value.content (moved_where end ms b)) (moved_where end ms b)) (moved_where end ns b)
    by true later = ap (sum m.value.content) later ∙ sym (sum-assoc m.value.content (moved_where end ms b) (moved_where end ns b))
    by false later = later

-- ---- a brand more

pub supply_pushed : (l : List BrandSupply) (kind : Kind) (e : ℕ) (f : BrandSupply → ℕ) → f (new_supply kind) ≡ f (new_supply Nat) → f (supply_at (l ++ new_supply kind ∷ []) e) ≡ f (supply_at l e)
supply_pushed l kind e f same = elim (cases_eq (length l) e) [
  | inl at ↦ ap f (read_pushed l (new_supply kind) (new_supply Nat) e (sym at)) ∙ same ∙ sym (ap f (read_past l (new_supply Nat) e (omega (arith, at))))
  | inr apart ↦ ap f (read_before l (new_supply kind) (new_supply Nat) e apart)
]

pub out_pushed : (l : List BrandSupply) (kind : Kind) (e : ℕ) → (supply_at (l ++ new_supply kind ∷ []) e).outstanding.content ≡ (supply_at l e).outstanding.content
out_pushed l kind e = elim (cases_eq (length l) e) [
  | inl at ↦ ap (λ (x : BrandSupply). x.outstanding.content) (read_pushed l (new_supply kind) (new_supply Nat) e (sym at)) ∙ sym (ap (λ (x : BrandSupply). x.outstanding.content) (read_past l (new_supply Nat) e (omega (arith, at))))
  | inr apart ↦ ap (λ (x : BrandSupply). x.outstanding.content) (read_before l (new_supply kind) (new_supply Nat) e apart)
]
