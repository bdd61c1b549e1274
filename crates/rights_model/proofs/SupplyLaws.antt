-- What movements make of sums: nothing is made but from Outside, and nothing is lost but to Outside.
use Rattle.std.specs.Prelude.{◌≡◌, ◌≢◌, ◌≤◌, ◌==◌, ℕ, ◌+◌, Bool, true, false, cond, if◌then◌else◌, ◌&&◌, List, [], ◌∷◌, refl}
use Rattle.std.proofs.lemmas.Bool.{cases_eq, ne_eqb, eq-eqb, false≢true}
use Rattle.std.proofs.Common.{inl, inr, sym, ◌∙◌, ap, subst, arith}
use Rattle.std.specs.Ordering.{eq_by_cmp}
use Rattle.amount_math.specs.declared.Kind.{Kind}
use Rattle.amount_math.specs.Content.{Content, nothing, count, sum, difference, Contains, count-sum, count-difference, count-nothing}
use Rattle.amount_math.specs.Sparse.{put, tied, at-put_same}
use Rattle.amount_math.specs.Totals.{total-put, total-empty, total-by, total_at_nothing}
use Rattle.amount_math.specs.ValueView.{Fits}
use Rattle.rights_model.specs.declared.Holder.{Holder}
use Rattle.rights_model.specs.declared.Holder.TheVariants.{Purse, Payment, Slot, Hand, Outside}
use Rattle.rights_model.specs.declared.Movement.{Movement}
use Rattle.rights_model.specs.Place.{Place, place, place_cmp}
use Rattle.rights_model.specs.Table.{Table, no_holdings, holdings, holds, taken, given, moved, CanMove, CanMoveAll, table_after}
use Rattle.rights_model.specs.Supply.{is_outside, is_store, is_hand, is_inside, moved_where, minted, burned, supply, share_of, total_of, Balanced}

module _ (who : Holder → Bool) (not_outside : who Outside ≡ false) (b : ℕ) (k : List ℕ) where
  none : (p : Place) → share_of who b k p nothing ≡ 0
  none (h, e) = elim (who h && (e == b)) as (λ x. cond x (count nothing k) 0 ≡ 0) [ true ↦ count-nothing k | false ↦ refl ]

  adds : (p : Place) (c d : Content) → share_of who b k p (sum c d) ≡ share_of who b k p c + share_of who b k p d
  adds (h, e) c d = elim (who h && (e == b)) as (λ x. cond x (count (sum c d) k) 0 ≡ cond x (count c k) 0 + cond x (count d k) 0) [ true ↦ count-sum c d k | false ↦ refl ]

  takes : (p : Place) (c d : Content) → Contains c d → share_of who b k p (difference c d) + share_of who b k p d ≡ share_of who b k p c
  takes (h, e) c d has = elim (who h && (e == b)) as (λ x. cond x (count (difference c d) k) 0 + cond x (count d k) 0 ≡ cond x (count c k) 0) [ true ↦ omega (arith, count-difference c d k, has.each k) | false ↦ refl ]

  outside_none : (e : ℕ) (c : Content) → share_of who b k (place Outside e) c ≡ 0
  outside_none e c = ap (λ x. cond (x && (e == b)) (count c k) 0) not_outside

  put_given : (t : Table) (h : Holder) (e : ℕ) (c : Content) → h ≢ Outside → given t h e c ≡ put holdings t (h, e) (sum (holds t h e) c)
  unfolding given
  put_given t Outside e c held = absurd (held refl)
  put_given t h e c held = refl

  put_taken : (t : Table) (h : Holder) (e : ℕ) (c : Content) → h ≢ Outside → taken t h e c ≡ put holdings t (h, e) (difference (holds t h e) c)
  unfolding taken
  put_taken t Outside e c held = absurd (held refl)
  put_taken t h e c held = refl

  given_held : (t : Table) (h : Holder) (e : ℕ) (c : Content) → h ≢ Outside → total_of who (given t h e c) b k ≡ total_of who t b k + share_of who b k (place h e) c
  given_held t h e c held = ap (λ u. total_of who u b k) (put_given t h e c held) ∙ omega (arith, total-put (share_of who b k) holdings none t (h, e) (sum (holds t h e) c), adds (h, e) (holds t h e) c)

  taken_held : (t : Table) (h : Holder) (e : ℕ) (c : Content) → h ≢ Outside → Contains (holds t h e) c → total_of who (taken t h e c) b k + share_of who b k (place h e) c ≡ total_of who t b k
  taken_held t h e c held has = ap (λ u. total_of who u b k + share_of who b k (place h e) c) (put_taken t h e c held) ∙ omega (arith, total-put (share_of who b k) holdings none t (h, e) (difference (holds t h e) c), takes (h, e) (holds t h e) c has)

  pub total-given : (t : Table) (h : Holder) (e : ℕ) (c : Content) → total_of who (given t h e c) b k ≡ total_of who t b k + share_of who b k (place h e) c
  unfolding given
  total-given t Outside e c = omega (arith, outside_none e c)
  total-given t (Purse n) e c = given_held t (Purse n) e c (λ is. cc)
  total-given t (Payment n) e c = given_held t (Payment n) e c (λ is. cc)
  total-given t (Slot n w) e c = given_held t (Slot n w) e c (λ is. cc)
  total-given t Hand e c = given_held t Hand e c (λ is. cc)

  pub total-taken : (t : Table) (h : Holder) (e : ℕ) (c : Content) → (h ≢ Outside → Contains (holds t h e) c) → total_of who (taken t h e c) b k + share_of who b k (place h e) c ≡ total_of who t b k
  unfolding taken
  total-taken t Outside e c has = omega (arith, outside_none e c)
  total-taken t (Purse n) e c has = let held : Purse n ≢ Outside = λ is. cc in taken_held t (Purse n) e c held (has held)
  total-taken t (Payment n) e c has = let held : Payment n ≢ Outside = λ is. cc in taken_held t (Payment n) e c held (has held)
  total-taken t (Slot n w) e c has = let held : Slot n w ≢ Outside = λ is. cc in taken_held t (Slot n w) e c held (has held)
  total-taken t Hand e c has = let held : Hand ≢ Outside = λ is. cc in taken_held t Hand e c held (has held)

  -- what a movement takes from those holders, it gives them too or lets go
  pub total-moved : (t : Table) (m : Movement) → CanMove t m → total_of who (moved t m) b k + share_of who b k (place m.from m.brand) m.value.content ≡ total_of who t b k + share_of who b k (place m.to m.brand) m.value.content
  total-moved t m can = omega (arith, total-taken t m.from m.brand m.value.content can.has, total-given (taken t m.from m.brand m.value.content) m.to m.brand m.value.content)

-- every holder is outside or inside
pub outside_or_inside : (b : ℕ) (k : List ℕ) (p : Place) (c : Content) → share_of is_outside b k p c + share_of is_inside b k p c ≡ (if p.1 == b then count c k else 0)
outside_or_inside b k (Outside, e) c = omega arith
outside_or_inside b k (Purse n, e) c = omega arith
outside_or_inside b k (Payment n, e) c = omega arith
outside_or_inside b k (Slot n w, e) c = omega arith
outside_or_inside b k (Hand, e) c = omega arith

-- inside is a store or the hand
inside : (b : ℕ) (k : List ℕ) (p : Place) (c : Content) → share_of is_store b k p c + share_of is_hand b k p c ≡ share_of is_inside b k p c
inside b k (Outside, e) c = omega arith
inside b k (Purse n, e) c = omega arith
inside b k (Payment n, e) c = omega arith
inside b k (Slot n w, e) c = omega arith
inside b k (Hand, e) c = omega arith

not_this_hand : (b : ℕ) (k : List ℕ) (p : Place) (c : Content) → eq_by_cmp place_cmp (place Hand b) p ≡ false → share_of is_hand b k p c ≡ 0
not_this_hand b k (Outside, e) c apart = refl
not_this_hand b k (Purse n, e) c apart = refl
not_this_hand b k (Payment n, e) c apart = refl
not_this_hand b k (Slot n w, e) c apart = refl
not_this_hand b k (Hand, e) c apart = elim (cases_eq e b) [
  | inl is ↦ absurd (false≢true (sym (subst (λ x. eq_by_cmp place_cmp (place Hand b) (place Hand x) ≡ false) is apart) ∙ tied holdings (place Hand b)))
  | inr differs ↦ ap (λ x. cond x (count c k) 0) (ne_eqb e b differs)
]

count-moved_where : (end : Movement → Holder) (m : Movement) (ms : List Movement) (b : ℕ) (k : List ℕ) → count (moved_where end (m ∷ ms) b) k ≡ share_of is_outside b k (place (end m) m.brand) m.value.content + count (moved_where end ms b) k
count-moved_where end m ms b k = elim (is_outside (end m) && (m.brand == b)) as (λ x. count (cond x (sum m.value.content (moved_where end ms b)) (moved_where end ms b)) k ≡ cond x (count m.value.content k) 0 + count (moved_where end ms b) k) [ true ↦ count-sum m.value.content (moved_where end ms b) k | false ↦ omega arith ]

-- nothing is lost or made but by Outside
pub conserved : (t : Table) (ms : List Movement) → CanMoveAll t ms → (b : ℕ) (k : List ℕ) → total_of is_inside (table_after t ms) b k + count (burned ms b) k ≡ total_of is_inside t b k + count (minted ms b) k
conserved t [] can b k = refl
conserved t (m ∷ ms) can b k = omega (
  arith,
  conserved (moved t m) ms can.1 b k,
  total-moved is_inside refl b k t m can.0,
  outside_or_inside b k (place m.from m.brand) m.value.content,
  outside_or_inside b k (place m.to m.brand) m.value.content,
  count-moved_where (λ x. x.from) m ms b k,
  count-moved_where (λ x. x.to) m ms b k,
)

-- with an empty hand, it is the stores that hold all
pub stores_hold_all : (t : Table) (b : ℕ) (k : List ℕ) → holds t Hand b ≡ nothing → total_of is_store t b k ≡ total_of is_inside t b k
stores_hold_all t b k empty_hand = omega (
  arith,
  total-by holdings (share_of is_store b k) (share_of is_hand b k) (share_of is_inside b k) (inside b k) t,
  total_at_nothing holdings (share_of is_hand b k) (place Hand b) (not_this_hand b k) t empty_hand,
)

-- after movements from nothing that leave the hand empty, the stores add up to the supply
pub adds_up_after : (ms : List Movement) → CanMoveAll no_holdings ms → ((b : ℕ) → holds (table_after no_holdings ms) Hand b ≡ nothing) → (b : ℕ) (k : List ℕ) → total_of is_store (table_after no_holdings ms) b k ≡ count (supply ms b) k
adds_up_after ms can empty_hand b k = omega (
  arith,
  stores_hold_all (table_after no_holdings ms) b k (empty_hand b),
  conserved no_holdings ms can b k,
  total-empty (share_of is_inside b k) holdings,
  count-difference (minted ms b) (burned ms b) k,
)

-- so within the bounds the table balances
pub balanced_after : (ms : List Movement) (kind_of : ℕ → Kind) → CanMoveAll no_holdings ms → ((b : ℕ) → holds (table_after no_holdings ms) Hand b ≡ nothing) → ((b : ℕ) → Fits (kind_of b) (supply ms b)) → Balanced (table_after no_holdings ms) kind_of (supply ms)
balanced_after ms kind_of can empty_hand bounded = record {
  adds_up = adds_up_after ms can empty_hand;
  hand_empty = empty_hand;
  bounded = bounded;
}

-- no holder has more than all have together
pub count-le-total : (who : Holder → Bool) (not_outside : who Outside ≡ false) (t : Table) (h : Holder) (b : ℕ) (k : List ℕ) → who h ≡ true → count (holds t h b) k ≤ total_of who t b k
count-le-total who not_outside t h b k is = omega (
  arith,
  total-put (share_of who b k) holdings (none who not_outside b k) t (h, b) nothing,
  none who not_outside b k (h, b),
  weighs,
)
  where
    weighs : share_of who b k (h, b) (holds t h b) ≡ count (holds t h b) k
    weighs = ap (λ x. cond (x && (b == b)) (count (holds t h b) k) 0) is ∙ ap (λ x. cond x (count (holds t h b) k) 0) (eq-eqb b b refl)

no_hand : (b : ℕ) (k : List ℕ) (p : Place) → share_of is_hand b k p nothing ≡ 0
no_hand b k (h, e) = elim (is_hand h && (e == b)) as (λ x. cond x (count nothing k) 0 ≡ 0) [ true ↦ count-nothing k | false ↦ refl ]

-- what the hand has, as a total
pub total-hand : (t : Table) (b : ℕ) (k : List ℕ) → total_of is_hand t b k ≡ count (holds t Hand b) k
total-hand t b k = omega (
  arith,
  total-put (share_of is_hand b k) holdings (no_hand b k) t (Hand, b) nothing,
  no_hand b k (Hand, b),
  total_at_nothing holdings (share_of is_hand b k) (place Hand b) (not_this_hand b k) (put holdings t (Hand, b) nothing) (at-put_same holdings t (Hand, b) nothing),
  ap (λ x. cond x (count (holds t Hand b) k) 0) (eq-eqb b b refl),
)

-- what a movement makes of the hand
pub hand-moved : (t : Table) (m : Movement) → CanMove t m → (b : ℕ) (k : List ℕ) → count (holds (moved t m) Hand b) k + share_of is_hand b k (place m.from m.brand) m.value.content ≡ count (holds t Hand b) k + share_of is_hand b k (place m.to m.brand) m.value.content
hand-moved t m can b k = omega (arith, total-moved is_hand refl b k t m can, total-hand t b k, total-hand (moved t m) b k)
