-- Rows as functions, after one of them is changed.
use Rattle.std.specs.Prelude.{◌≡◌, ◌≢◌, ◌+◌, ◌==◌, ◌&&◌, ℕ, Bool, true, false, cond, Option, Some, IsSome, unwrap_or, List, refl}
use Rattle.std.proofs.Common.{inl, inr, sym, ◌∙◌, ap, subst, arith}
use Rattle.std.proofs.lemmas.Bool.{cases_eq, eq-eqb, ne_eqb}
use Rattle.std.specs.BTreeMap.{is_at}
use Rattle.std.specs.Cmp.{unsigned_tied}
use Rattle.std.specs.Map.{lookup}
use Rattle.std.specs.Option.{option_map_or}
use Rattle.std.specs.declared.cmp.Ordering.{Ordering}
use Rattle.std.specs.declared.cmp.Ordering.TheVariants.{Less, Equal, Greater}
use Rattle.std.specs.Ordering.{is_eq, nat_cmp, ordering_then}
use Rattle.rights_model.specs.amount_math.Content.{Content}
use Rattle.rights_model.specs.amount_math.Counted.{counted}
use Rattle.rights_model.specs.declared.Holder.{Holder}
use Rattle.rights_model.specs.declared.Movement.{Movement}
use Rattle.rights_model.specs.Place.{place}
use Rattle.rights_model.specs.Supply.{is_outside}
use Rattle.rights_model.specs.Totals.{is_payment, is_purse, is_slot, weight_of}
use Rattle.escrow.specs.declared.totals.Totals.{Totals}
use Rattle.escrow.specs.Running.{IsMoved, portion}
use Rattle.escrow.specs.Rows.{part, share_at, totals_at}
use Rattle.escrow.specs.Told.{AreCounted, instance_at, is_slot_of, pair_cmp}

-- ---- shares

then_eq : (x y : Ordering) → is_eq (ordering_then x y) ≡ is_eq x && is_eq y
then_eq Less y = refl
then_eq Equal y = refl
then_eq Greater y = refl

-- pairs are alike where both parts are
pair_tied : (i b j c : ℕ) → is_eq (pair_cmp (i, b) (j, c)) ≡ (i == j) && (b == c)
pair_tied i b j c = then_eq (nat_cmp i j) (nat_cmp b c) ∙ ap (λ x. x && is_eq (nat_cmp b c)) (unsigned_tied i j) ∙ ap (λ x. (i == j) && x) (unsigned_tied b c)

abbrev Shares : Type 0
Shares = List ((ℕ × ℕ) × ℕ)

unwrapped : {X : Type 0} (t : Bool) (v d : X) (o : Option X) → unwrap_or (cond t (Some v) o) d ≡ cond t v (unwrap_or o d)
unwrapped true v d o = refl
unwrapped false v d o = refl

-- what is there stays there
pub still_there : {X : Type 0} (t : Bool) (v : X) (o p : Option X) → p ≡ cond t (Some v) o → IsSome o → IsSome p
still_there true v o p is h = rw is refl
still_there false v o p is h = rw is h

module _ (old new : Shares) (x brand v : ℕ) (written : (q : ℕ × ℕ) → lookup (is_at (pair_cmp q)) new ≡ cond (is_at (pair_cmp (x, brand)) q) (Some v) (lookup (is_at (pair_cmp q)) old)) where
  share_written : (i b : ℕ) → share_at new i b ≡ cond ((x == i) && (brand == b)) v (share_at old i b)
  share_written i b = ap (λ o. unwrap_or o 0) (written (i, b)) ∙ unwrapped (is_at (pair_cmp (x, brand)) (i, b)) v 0 (lookup (is_at (pair_cmp (i, b))) old) ∙ ap (λ t. cond t v (share_at old i b)) (pair_tied x brand i b)

  module _ (instances : List ℕ) (h : Holder) (n : ℕ) (is : Some x ≡ instance_at instances h) where
    part_here : (i b : ℕ) → part (is_slot_of instances i) h brand n b ≡ cond ((x == i) && (brand == b)) n 0
    part_here i b = ap (λ o. cond (option_map_or (λ y. y == i) o false && (brand == b)) n 0) (sym is)

    -- the holder's own instance and brand count all of it
    pub part_same : part (is_slot_of instances x) h brand n brand ≡ n
    part_same = part_here x brand ∙ rw (eq-eqb x x refl, eq-eqb brand brand refl) refl

    pub share_lowered : v + n ≡ share_at old x brand → (i b : ℕ) → share_at new i b + part (is_slot_of instances i) h brand n b ≡ share_at old i b
    share_lowered total i b = rw (share_written i b, part_here i b) (elim (cases_eq x i) [
      | inl same ↦ elim (cases_eq brand b) [
        | inl alike ↦ rw (eq-eqb x i same, eq-eqb brand b alike) (subst (λ j. v + n ≡ share_at old j b) same (subst (λ c. v + n ≡ share_at old x c) alike total))
        | inr other ↦ rw (eq-eqb x i same, ne_eqb brand b other) (omega arith)
      ]
      | inr other ↦ rw (ne_eqb x i other) (omega arith)
    ])

    pub share_raised : v ≡ share_at old x brand + n → (i b : ℕ) → share_at new i b ≡ share_at old i b + part (is_slot_of instances i) h brand n b
    share_raised total i b = rw (share_written i b, part_here i b) (elim (cases_eq x i) [
      | inl same ↦ elim (cases_eq brand b) [
        | inl alike ↦ rw (eq-eqb x i same, eq-eqb brand b alike) (subst (λ j. v ≡ share_at old j b + n) same (subst (λ c. v ≡ share_at old x c + n) alike total))
        | inr other ↦ rw (eq-eqb x i same, ne_eqb brand b other) (omega arith)
      ]
      | inr other ↦ rw (ne_eqb x i other) (omega arith)
    ])

-- ---- totals

at_brand : (who : Holder → Bool) (h : Holder) (b : ℕ) (c : Content) → weight_of who b (place h b) c ≡ portion who h (counted c)
at_brand who h b c = ap (λ x. cond (who h && x) (counted c) 0) (eq-eqb b b refl) ∙ by (who h)
  where
    by : (x : Bool) → cond (x && true) (counted c) 0 ≡ cond x (counted c) 0
    by true = refl
    by false = refl

elsewhere : (who : Holder → Bool) (h : Holder) (e b : ℕ) (c : Content) → e ≢ b → weight_of who b (place h e) c ≡ 0
elsewhere who h e b c other = ap (λ x. cond (who h && x) (counted c) 0) (ne_eqb e b other) ∙ by (who h)
  where
    by : (x : Bool) → cond (x && false) (counted c) 0 ≡ 0
    by true = refl
    by false = refl

module _ (m : Movement) (before after : Totals) where
  counted_here : IsMoved before after m.from m.to (counted m.value.content) → AreCounted before after m m.brand
  counted_here is = record {
    minted = omega (arith, is.minted, at_brand is_outside m.from m.brand m.value.content);
    burned = omega (arith, is.burned, at_brand is_outside m.to m.brand m.value.content);
    purses = omega (arith, is.purses, at_brand is_purse m.from m.brand m.value.content, at_brand is_purse m.to m.brand m.value.content);
    payments = omega (arith, is.payments, at_brand is_payment m.from m.brand m.value.content, at_brand is_payment m.to m.brand m.value.content);
    slots = omega (arith, is.slots, at_brand is_slot m.from m.brand m.value.content, at_brand is_slot m.to m.brand m.value.content);
  }

  counted_elsewhere : (b : ℕ) → m.brand ≢ b → after ≡ before → AreCounted before after m b
  counted_elsewhere b other same = rw same (record {
    minted = omega (arith, elsewhere is_outside m.from m.brand b m.value.content other);
    burned = omega (arith, elsewhere is_outside m.to m.brand b m.value.content other);
    purses = omega (arith, elsewhere is_purse m.from m.brand b m.value.content other, elsewhere is_purse m.to m.brand b m.value.content other);
    payments = omega (arith, elsewhere is_payment m.from m.brand b m.value.content other, elsewhere is_payment m.to m.brand b m.value.content other);
    slots = omega (arith, elsewhere is_slot m.from m.brand b m.value.content other, elsewhere is_slot m.to m.brand b m.value.content other);
  })

-- each brand's totals before and after
pub totals_told : (old new : List (ℕ × Totals)) (m : Movement) → IsMoved (totals_at old m.brand) (totals_at new m.brand) m.from m.to (counted m.value.content) → ((b : ℕ) → (m.brand == b) ≡ false → totals_at new b ≡ totals_at old b) → (b : ℕ) → AreCounted (totals_at old b) (totals_at new b) m b
totals_told old new m here others b = elim (cases_eq m.brand b) [
  | inl same ↦ subst (λ c. AreCounted (totals_at old c) (totals_at new c) m c) same (counted_here m (totals_at old m.brand) (totals_at new m.brand) here)
  | inr other ↦ counted_elsewhere m (totals_at old b) (totals_at new b) b other (others b (ne_eqb m.brand b other))
]

-- each brand's totals after and before, where they were worked backwards
pub totals_untold : (old new : List (ℕ × Totals)) (m : Movement) → IsMoved (totals_at new m.brand) (totals_at old m.brand) m.from m.to (counted m.value.content) → ((b : ℕ) → (m.brand == b) ≡ false → totals_at new b ≡ totals_at old b) → (b : ℕ) → AreCounted (totals_at new b) (totals_at old b) m b
totals_untold old new m here others = totals_told new old m here (λ b other. sym (others b other))
