-- Seats that are sorted by their numbers stand by number.
use Rattle.std.specs.Prelude.{map, nat_le, sum_by, ◌==◌}
use Rattle.std.specs.Borrow.{Bor}
use Rattle.std.specs.List.{All, AllByRecursion, Contains}
use Rattle.std.specs.List.Sorted.{IsNonDecreasingBy, IsPermutation}
use Rattle.std.proofs.Common.{◌⊎◌, inl, inr, ◌≡◌, ◌≢◌, ℕ, zero, suc, ◌+◌, ◌<◌, ◌≤◌, Bool, true, false, cond, List, [], ◌∷◌, length, slice_index_or, refl, sym, ap, subst, ◌∙◌, arith, if◌then◌else◌}
use Rattle.std.proofs.lemmas.Bool.{eq-eqb, eqb-false, eqb-true, leb-false, leb-true}
use Rattle.std.proofs.lemmas.List.Elements.{All-cons, All-head, All-nil, All-tail}
use Rattle.std.proofs.lemmas.List.Sorted.{Contains-permutation, IsPermutation-sym, sum_by-IsPermutation}
use Rattle.std.proofs.lemmas.List.Sums.{sum_by-cons}
use Rattle.rules.specs.call_arguments.Numbers.{AreApart, IsNoneOf}
use Rattle.rearrange.specs.Moves.{by_number, placed}
use Rattle.rules.specs.proposals.declared.plans.Touched.{Touched}
use Rattle.rearrange_calls.specs.Met.{IsMet}

abbrev pub seats_of : List Touched → List ℕ
seats_of ts = map (λ (t : Touched). t.seat) ts

-- ---- what stands in lists

abbrev pub In : Touched → List Touched → Type 0
In x [] = ⊥
In x (t ∷ ts) = (t ≡ x) ⊎ In x ts

placed_in : (x t : Touched) (us : List Touched) → In x (t ∷ us) → In x (placed t us)
placed_in x t [] is = is
placed_in x t (u ∷ us) is = by (nat_le t.seat u.seat) (placed_in x t us)
  where
    moved : (In x (t ∷ us) → In x (placed t us)) → In x (t ∷ u ∷ us) → In x (u ∷ placed t us)
    moved rest (inl one) = inr (rest (inl one))
    moved rest (inr (inl one)) = inl one
    moved rest (inr (inr more)) = inr (rest (inr more))

    by : (b : Bool) → (In x (t ∷ us) → In x (placed t us)) → In x (if b then t ∷ u ∷ us else u ∷ placed t us)
    by true rest = is
    by false rest = moved rest is

in_placed : (x t : Touched) (us : List Touched) → In x (placed t us) → In x (t ∷ us)
in_placed x t [] is = is
in_placed x t (u ∷ us) is = by (nat_le t.seat u.seat) (in_placed x t us) is
  where
    moved : (In x (placed t us) → In x (t ∷ us)) → In x (u ∷ placed t us) → In x (t ∷ u ∷ us)
    moved rest (inl one) = inr (inl one)
    moved rest (inr more) = again (rest more)
      where
        again : In x (t ∷ us) → In x (t ∷ u ∷ us)
        again (inl one) = inl one
        again (inr others) = inr (inr others)

    by : (b : Bool) → (In x (placed t us) → In x (t ∷ us)) → In x (if b then t ∷ u ∷ us else u ∷ placed t us) → In x (t ∷ u ∷ us)
    by true rest there = there
    by false rest there = moved rest there

numbered_in : (x : Touched) (ts : List Touched) → In x ts → In x (by_number ts)
numbered_in x [] is = is
numbered_in x (t ∷ ts) (inl one) = placed_in x t (by_number ts) (inl one)
numbered_in x (t ∷ ts) (inr more) = placed_in x t (by_number ts) (inr (numbered_in x ts more))

in_numbered : (x : Touched) (ts : List Touched) → In x (by_number ts) → In x ts
in_numbered x [] is = is
in_numbered x (t ∷ ts) is = by (in_numbered x ts) (in_placed x t (by_number ts) is)
  where
    by : (In x (by_number ts) → In x ts) → In x (t ∷ by_number ts) → In x (t ∷ ts)
    by later (inl one) = inl one
    by later (inr more) = inr (later more)

in_contained : (x : Touched) (ts : List Touched) (k : ℕ) → k < length ts → slice_index_or ts k x ≡ x → In x ts
in_contained x [] k lt is = absurd (arith-none lt)
  where
    arith-none : k < 0 → ⊥
    arith-none h = omega (arith, h)
in_contained x (t ∷ ts) zero lt is = inl is
in_contained x (t ∷ ts) (suc k) lt is = inr (in_contained x ts k (omega (arith, lt)) is)

contained_in : (x : Touched) (ts : List Touched) → In x ts → Contains ts x
contained_in x [] is = absurd is
contained_in x (t ∷ ts) (inl one) = (0, omega arith, one)
contained_in x (t ∷ ts) (inr more) = let there = contained_in x ts more in (suc there.0, omega (arith, there.1), there.2)

permuted_in : (x : Touched) (ts us : List Touched) → IsPermutation ts us → In x ts → In x us
permuted_in x ts us same is = let there = Contains-permutation ts us x same (contained_in x ts is) in in_contained x us there.0 there.1 there.2

-- ---- lists whose numbers rise

abbrev pub Above : ℕ → List Touched → Type 0
Above n ts = AllByRecursion (λ (t : Touched). n < t.seat) ts

abbrev pub Rise : List Touched → Type 0
Rise [] = Unit {0}
Rise (t ∷ ts) = Above t.seat ts × Rise ts

above_in : (n : ℕ) (x : Touched) (ts : List Touched) → Above n ts → In x ts → n < x.seat
above_in n x [] above is = absurd is
above_in n x (t ∷ ts) above (inl one) = subst (λ (u : Touched). n < u.seat) one above.0
above_in n x (t ∷ ts) above (inr more) = above_in n x ts above.1 more

pub same_lists : (us vs : List Touched) → Rise us → Rise vs → ((x : Touched) → In x us → In x vs) → ((x : Touched) → In x vs → In x us) → us ≡ vs
same_lists [] [] a b to back = refl
same_lists [] (v ∷ vs) a b to back = absurd (back v (inl refl))
same_lists (u ∷ us) [] a b to back = absurd (to u (inl refl))
same_lists (u ∷ us) (v ∷ vs) a b to back =
    ap (λ x. x ∷ us) one ∙ ap (λ l. v ∷ l) (same_lists us vs a.1 b.1 (λ x is. later x is (to x (inr is))) (λ x is. earlier x is (back x (inr is))))
  where
    first : In u (v ∷ vs) → In v (u ∷ us) → u ≡ v
    first (inl is) other = sym is
    first (inr more) (inl is) = is
    first (inr more) (inr others) = absurd (omega (arith, above_in v.seat u vs b.0 more, above_in u.seat v us a.0 others))

    one : u ≡ v
    one = first (to u (inl refl)) (back v (inl refl))

    later : (x : Touched) → In x us → In x (v ∷ vs) → In x vs
    later x is (inl v_is) = absurd (omega (arith, above_in u.seat x us a.0 is, ap (λ (t : Touched). t.seat) one, ap (λ (t : Touched). t.seat) v_is))
    later x is (inr more) = more

    earlier : (x : Touched) → In x vs → In x (u ∷ us) → In x us
    earlier x is (inl u_is) = absurd (omega (arith, above_in v.seat x vs b.0 is, ap (λ (t : Touched). t.seat) one, ap (λ (t : Touched). t.seat) u_is))
    earlier x is (inr more) = more

-- ---- placed by number

above_placed : (n : ℕ) (t : Touched) (us : List Touched) → n < t.seat → Above n us → Above n (placed t us)
above_placed n t [] lt above = (lt, tt)
above_placed n t (u ∷ us) lt above = by (nat_le t.seat u.seat) (above_placed n t us lt above.1)
  where
    by : (b : Bool) → Above n (placed t us) → Above n (if b then t ∷ u ∷ us else u ∷ placed t us)
    by true rest = (lt, above)
    by false rest = (above.0, rest)

above_more : (m n : ℕ) (us : List Touched) → m ≤ n → Above n us → Above m us
above_more m n [] le above = tt
above_more m n (u ∷ us) le above = (omega (arith, le, above.0), above_more m n us le above.1)

placed_rise : (t : Touched) (us : List Touched) → IsNoneOf (seats_of us) t.seat → Rise us → Rise (placed t us)
placed_rise t [] none rise = (tt, tt)
placed_rise t (u ∷ us) none rise = by (nat_le t.seat u.seat) refl (placed_rise t us none.1 rise.1)
  where
    by : (b : Bool) → nat_le t.seat u.seat ≡ b → Rise (placed t us) → Rise (if b then t ∷ u ∷ us else u ∷ placed t us)
    by true is rest =
        let lt : t.seat < u.seat = omega (arith, leb-true t.seat u.seat is, none.0) in
        ((lt, above_more t.seat u.seat us (omega (arith, lt)) rise.0), rise)
    by false is rest = (above_placed u.seat t us (omega (arith, leb-false t.seat u.seat is)) rise.0, rest)

none_placed : (n : ℕ) (t : Touched) (us : List Touched) → t.seat ≢ n → IsNoneOf (seats_of us) n → IsNoneOf (seats_of (placed t us)) n
none_placed n t [] other none = (other, tt)
none_placed n t (u ∷ us) other none = by (nat_le t.seat u.seat) (none_placed n t us other none.1)
  where
    by : (b : Bool) → IsNoneOf (seats_of (placed t us)) n → IsNoneOf (seats_of (if b then t ∷ u ∷ us else u ∷ placed t us)) n
    by true rest = (other, none)
    by false rest = (none.0, rest)

none_numbered : (n : ℕ) (ts : List Touched) → IsNoneOf (seats_of ts) n → IsNoneOf (seats_of (by_number ts)) n
none_numbered n [] none = tt
none_numbered n (t ∷ ts) none = none_placed n t (by_number ts) none.0 (none_numbered n ts none.1)

pub numbered_rise : (ts : List Touched) → AreApart (seats_of ts) → Rise (by_number ts)
numbered_rise [] apart = tt
numbered_rise (t ∷ ts) apart = placed_rise t (by_number ts) (none_numbered t.seat ts apart.0) (numbered_rise ts apart.1)

-- ---- sorted by number

abbrev one_if : Bool → ℕ
one_if b = cond b 1 0

abbrev one_at : ℕ → Touched → ℕ
one_at n t = one_if (t.seat == n)

abbrev at : ℕ → List Touched → ℕ
at n ts = sum_by (one_at n) ts

at_cons : (n : ℕ) (t : Touched) (ts : List Touched) → at n (t ∷ ts) ≡ one_at n t + at n ts
at_cons n t ts = sum_by-cons (one_at n) t ts

none_at : (n : ℕ) (ts : List Touched) → IsNoneOf (seats_of ts) n → at n ts ≡ 0
none_at n [] none = refl
none_at n (t ∷ ts) none = by (t.seat == n) refl (none_at n ts none.1)
  where
    by : (b : Bool) → (t.seat == n) ≡ b → at n ts ≡ 0 → at n (t ∷ ts) ≡ 0
    by true is later = absurd (none.0 (eqb-true t.seat n is))
    by false is later = omega (arith, at_cons n t ts, ap one_if is, later)

once_at : (n : ℕ) (ts : List Touched) → AreApart (seats_of ts) → at n ts ≤ 1
once_at n [] apart = omega arith
once_at n (t ∷ ts) apart = by (t.seat == n) refl (once_at n ts apart.1)
  where
    by : (b : Bool) → (t.seat == n) ≡ b → at n ts ≤ 1 → at n (t ∷ ts) ≤ 1
    by true is later = omega (arith, at_cons n t ts, ap one_if is, none_at n ts (subst (λ m. IsNoneOf (seats_of ts) m) (eqb-true t.seat n is) apart.0))
    by false is later = omega (arith, at_cons n t ts, ap one_if is, later)

above_sorted : (n : ℕ) (ts : List Touched) → ((k : ℕ) (d : Touched) → k < length ts → n ≤ (slice_index_or ts k d).seat) → at n ts ≡ 0 → Above n ts
above_sorted n [] least none = tt
above_sorted n (t ∷ ts) least none = (
  by (t.seat == n) refl,
  above_sorted n ts (λ k d lt. least (suc k) d (omega (arith, lt))) (omega (arith, at_cons n t ts, none)),
)
  where
    by : (b : Bool) → (t.seat == n) ≡ b → n < t.seat
    by true is = absurd (omega (arith, at_cons n t ts, ap one_if is, none))
    by false is = omega (arith, least 0 t (omega arith), eqb-false t.seat n is)

rise_sorted : (ts : List Touched) → IsNonDecreasingBy (λ (t : Touched). t.seat) ts → ((n : ℕ) → at n ts ≤ 1) → Rise ts
rise_sorted [] sorted once = tt
rise_sorted (t ∷ ts) sorted once = (
  above_sorted t.seat ts (λ k d lt. sorted 0 (suc k) d (omega arith) (omega (arith, lt))) (omega (arith, once t.seat, at_cons t.seat t ts, own)),
  rise_sorted ts (λ i j d le lt. sorted (suc i) (suc j) d (omega (arith, le)) (omega (arith, lt))) (λ n. omega (arith, once n, at_cons n t ts)),
)
  where
    own : one_at t.seat t ≡ 1
    own = ap one_if (eq-eqb t.seat t.seat refl)

pub sorted_numbered : (ts us : List Touched) → AreApart (seats_of ts) → IsPermutation ts us → IsNonDecreasingBy (λ (t : Touched). t.seat) us → us ≡ by_number ts
sorted_numbered ts us apart same sorted =
    same_lists us (by_number ts)
    (rise_sorted us sorted (λ n. omega (arith, sum_by-IsPermutation (one_at n) ts us same, once_at n ts apart)))
    (numbered_rise ts apart)
    (λ x is. numbered_in x ts (permuted_in x us ts (IsPermutation-sym ts us same) is))
    (λ x is. permuted_in x ts us same (in_numbered x ts is))

-- ---- what holds of each

met_placed : (t : Touched) (us : List Touched) → IsMet t → All IsMet us → All IsMet (placed t us)
met_placed t [] one all = All-cons IsMet t [] one (All-nil IsMet)
met_placed t (u ∷ us) one all = by (nat_le t.seat u.seat) (met_placed t us one (All-tail IsMet u us all))
  where
    by : (b : Bool) → All IsMet (placed t us) → All IsMet (if b then t ∷ u ∷ us else u ∷ placed t us)
    by true rest = All-cons IsMet t (u ∷ us) one all
    by false rest = All-cons IsMet u (placed t us) (All-head IsMet u us all) rest

pub met_by_number : (ts : List Touched) → All IsMet ts → All IsMet (by_number ts)
met_by_number [] all = all
met_by_number (t ∷ ts) all = met_placed t (by_number ts) (All-head IsMet t ts all) (met_by_number ts (All-tail IsMet t ts all))

-- ---- where each stands

abbrev pub each_now : List (Bor Touched) → List Touched
each_now xs = map (λ (t : Bor Touched). t.now) xs

pub met_each : (xs : List (Bor Touched)) → All IsMet (each_now xs) → All (λ t. IsMet t.now) xs
met_each [] all = All-nil (λ (t : Bor Touched). IsMet t.now)
met_each (x ∷ xs) all = All-cons (λ (t : Bor Touched). IsMet t.now) x xs (All-head IsMet x.now (each_now xs) all) (met_each xs (All-tail IsMet x.now (each_now xs) all))

at_now : (xs : List (Bor Touched)) (k : ℕ) (d : Touched) (e : Bor Touched) → k < length xs → slice_index_or (each_now xs) k d ≡ (slice_index_or xs k e).now
at_now [] k d e lt = absurd (omega (arith, lt))
at_now (x ∷ xs) zero d e lt = refl
at_now (x ∷ xs) (suc k) d e lt = at_now xs k d e (omega (arith, lt))

many_now : (xs : List (Bor Touched)) → length (each_now xs) ≡ length xs
many_now [] = refl
many_now (x ∷ xs) = ap suc (many_now xs)

pub sorted_now : (xs : List (Bor Touched)) → IsNonDecreasingBy (λ (t : Bor Touched). t.now.seat) xs → IsNonDecreasingBy (λ (t : Touched). t.seat) (each_now xs)
sorted_now [] sorted i j d le lt = absurd (omega (arith, lt))
sorted_now (x ∷ xs) sorted i j d le lt =
    let less : j < length (x ∷ xs) = omega (arith, lt, many_now (x ∷ xs)) in
    omega (
      arith,
      sorted i j x le less,
      ap (λ (t : Touched). t.seat) (at_now (x ∷ xs) i d x (omega (arith, le, less))),
      ap (λ (t : Touched). t.seat) (at_now (x ∷ xs) j d x less),
    )
