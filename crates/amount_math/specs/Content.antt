-- What a value holds: a finite map from element to a positive count. An element is the bytes of a key; the one element of a nat value, its unit, is the empty list.
-- A nat value n is n units, a set has each of its keys once, a bag each as often as it counts. Sum, difference and containment go element by element.
use Rattle.std.specs.Prelude.{◌≡◌, ℕ, zero, suc, ◌+◌, ◌-◌, ◌≤◌, Bool, true, false, cond, List, [], ◌∷◌, Some, None, unwrap_or, refl}
use Rattle.std.proofs.Common.{sym, ◌∙◌, ap, subst, arith}
use Rattle.std.specs.Ordering.{eq_by_cmp, is_eq, nat_cmp}
use Rattle.std.specs.declared.cmp.Ordering.{Ordering}
use Rattle.std.specs.declared.cmp.Ordering.TheVariants.{Equal}
use Rattle.std.specs.Cmp.Lexicographic.{slice_cmp, nat_list_cmp_total}
use Rattle.std.specs.Coded.{Coded, coded_ℕ, coded_list}
use lib.Dec.{T}
use Rattle.std.specs.FinMap as fin
use Rattle.std.specs.FinMap.{find, nat_cmp-IsAntisymmetric, slice_cmp-IsAntisymmetric}
use Rattle.amount_math.specs.Sparse.{Setting, Sparse, code, at, put, at-put, at-empty, same_sparse}
use Rattle.amount_math.specs.Sparse as sparse

abbrev pub is_zero : ℕ → Bool
is_zero zero = true
is_zero (suc n) = false

abbrev pub key_cmp : List ℕ → List ℕ → Ordering
key_cmp = slice_cmp nat_cmp

pub is_zero_is : (n : ℕ) → T (is_zero n) → n ≡ 0
is_zero_is zero h = refl
is_zero_is (suc n) h = absurd h

pub counts : Setting key_cmp is_zero 0
counts = record { total = nat_list_cmp_total; same = slice_cmp-IsAntisymmetric nat_cmp-IsAntisymmetric; nothing_is = is_zero_is; is_nothing_is = tt }

abbrev pub Content : Type 0
Content = Sparse key_cmp is_zero

abbrev pub coded_content : Coded Content
coded_content = code (coded_list coded_ℕ) coded_ℕ

-- how many of an element it has
abbrev pub count : Content → List ℕ → ℕ
count c k = at counts c k

abbrev pub nothing : Content
nothing = sparse.empty

-- the elements with their counts, in byte order
abbrev pub entries : Content → List (List ℕ × ℕ)
entries c = fin.entries c.held

-- how many of an element the first entry of it has
abbrev pub listed : List (List ℕ × ℕ) → List ℕ → ℕ
listed es k = unwrap_or (find key_cmp k es) 0

-- element by element, from the entries of the other
abbrev pub combined : (ℕ → ℕ → ℕ) → Content → List (List ℕ × ℕ) → Content
combined f c [] = c
combined f c (e ∷ es) = put counts (combined f c es) e.0 (f (count c e.0) e.1)

unfoldable pub sum : Content → Content → Content
sum a b = combined (λ m n. m + n) a (entries b)

pub difference : Content → Content → Content
difference a b = combined (λ m n. m - n) a (entries b)

-- the content whose entries these are, or at an element that stands there twice the first of them
pub of_entries : List (List ℕ × ℕ) → Content
of_entries es = combined (λ m n. m + n) nothing es

-- a has at least what b has, of each element
pub record Contains (a b : Content) : Type 0 where
  pub each : (k : List ℕ) → count b k ≤ count a k

abbrev pub unit : List ℕ
unit = []

-- the content of the nat value n
unfoldable pub of_nat : ℕ → Content
of_nat n = put counts nothing unit n

-- an element, once
unfoldable pub one_of : List ℕ → Content
one_of k = put counts nothing k 1

-- ---- what each has of an element

pub count_listed : (c : Content) (k : List ℕ) → count c k ≡ listed (entries c) k
count_listed c k = ap (λ o. unwrap_or o 0) (fin.get-entries c.held k)

is_same : (q k : List ℕ) → eq_by_cmp key_cmp q k ≡ true → q ≡ k
is_same q k e = counts.same q k (equal _ e)
  where
    equal : (r : Ordering) → is_eq r ≡ true → r ≡ Equal
    equal r h = grind arith

pub count-combined : (f : ℕ → ℕ → ℕ) → ((n : ℕ) → f n 0 ≡ n) → (c : Content) (es : List (List ℕ × ℕ)) (q : List ℕ) → count (combined f c es) q ≡ f (count c q) (listed es q)
count-combined f zero_right c [] q = sym (zero_right _)
count-combined f zero_right c (e ∷ es) q =
    at-put counts (combined f c es) e.0 _ q
    ∙ elim (eq_by_cmp key_cmp q e.0) as (λ b. eq_by_cmp key_cmp q e.0 ≡ b → cond b (f (count c e.0) e.1) (count (combined f c es) q) ≡ f (count c q) (unwrap_or (cond b (Some e.1) (find key_cmp q es)) 0)) [
      | true ↦ λ p. ap (λ k. f (count c k) e.1) (sym (is_same q e.0 p))
      | false ↦ λ p. count-combined f zero_right c es q
    ] refl

pub count-nothing : (k : List ℕ) → count nothing k ≡ 0
count-nothing k = at-empty counts k

pub count-of_entries : (es : List (List ℕ × ℕ)) (k : List ℕ) → count (of_entries es) k ≡ listed es k
unfolding of_entries
count-of_entries es k = count-combined (λ m n. m + n) (λ n. omega arith) nothing es k ∙ ap (λ n. n + listed es k) (count-nothing k) ∙ omega arith

pub count-one_of : (k q : List ℕ) → count (one_of k) q ≡ cond (eq_by_cmp key_cmp q k) 1 0
unfolding one_of
count-one_of k q = at-put counts nothing k 1 q ∙ ap (cond (eq_by_cmp key_cmp q k) 1) (count-nothing q)

pub count-sum : (a b : Content) (k : List ℕ) → count (sum a b) k ≡ count a k + count b k
unfolding sum
count-sum a b k = count-combined (λ m n. m + n) (λ n. omega arith) a (entries b) k ∙ ap (λ n. count a k + n) (sym (count_listed b k))

pub count-difference : (a b : Content) (k : List ℕ) → count (difference a b) k ≡ count a k - count b k
unfolding difference
count-difference a b k = count-combined (λ m n. m - n) (λ n. omega arith) a (entries b) k ∙ ap (λ n. count a k - n) (sym (count_listed b k))

pub count-of_nat : (n : ℕ) (k : List ℕ) → count (of_nat n) k ≡ cond (eq_by_cmp key_cmp k unit) n 0
unfolding of_nat
count-of_nat n k = at-put counts nothing unit n k ∙ ap (cond (eq_by_cmp key_cmp k unit) n) (count-nothing k)

pub same_content : (a b : Content) → ((k : List ℕ) → count a k ≡ count b k) → a ≡ b
same_content a b is = same_sparse counts a b is

pub of_entries-nil : of_entries [] ≡ nothing
unfolding of_entries
of_entries-nil = refl

pub of_entries-one : (k : List ℕ) → of_entries ((k, 1) ∷ []) ≡ one_of k
of_entries-one k = same_content _ _ (λ q. count-of_entries ((k, 1) ∷ []) q ∙ chosen (eq_by_cmp key_cmp q k) ∙ sym (count-one_of k q))
  where
    chosen : (b : Bool) → ◌≡◌ {A = ℕ} (unwrap_or (cond b (Some 1) None) 0) (cond b 1 0)
    chosen true = refl
    chosen false = refl

pub of_entries-entries : (c : Content) → of_entries (entries c) ≡ c
of_entries-entries c = same_content _ _ (λ k. count-of_entries (entries c) k ∙ sym (count_listed c k))

-- ---- laws

pub sum-comm : (a b : Content) → sum a b ≡ sum b a
sum-comm a b = same_content _ _ (λ k. omega (arith, count-sum a b k, count-sum b a k))

pub sum-assoc : (a b c : Content) → sum (sum a b) c ≡ sum a (sum b c)
sum-assoc a b c = same_content _ _ (λ k. omega (arith, count-sum (sum a b) c k, count-sum a b k, count-sum a (sum b c) k, count-sum b c k))

pub sum-nothing : (a : Content) → sum a nothing ≡ a
sum-nothing a = same_content _ _ (λ k. omega (arith, count-sum a nothing k, count-nothing k))

pub difference-nothing : (a : Content) → difference a nothing ≡ a
difference-nothing a = same_content _ _ (λ k. omega (arith, count-difference a nothing k, count-nothing k))

pub nothing-sum : (a : Content) → sum nothing a ≡ a
nothing-sum a = sum-comm nothing a ∙ sum-nothing a

pub nothing-difference : (a : Content) → difference nothing a ≡ nothing
nothing-difference a = same_content _ _ (λ k. omega (arith, count-difference nothing a k, count-nothing k))

pub difference-sum : (a b : Content) → difference (sum a b) b ≡ a
difference-sum a b = same_content _ _ (λ k. omega (arith, count-difference (sum a b) b k, count-sum a b k))

pub sum-difference : (a b : Content) → Contains a b → sum (difference a b) b ≡ a
sum-difference a b h = same_content _ _ (λ k. omega (arith, count-sum (difference a b) b k, count-difference a b k, h.each k))

pub Contains-antisym : (a b : Content) → Contains a b → Contains b a → a ≡ b
Contains-antisym a b p q = same_content _ _ (λ k. omega (arith, p.each k, q.each k))

-- ---- nat values

choose_sum : (b : Bool) (m n : ℕ) → cond b m 0 + cond b n 0 ≡ cond b (m + n) 0
choose_sum true m n = refl
choose_sum false m n = omega arith

choose_difference : (b : Bool) (m n : ℕ) → cond b m 0 - cond b n 0 ≡ cond b (m - n) 0
choose_difference true m n = refl
choose_difference false m n = omega arith

choose_le : (b : Bool) (m n : ℕ) → m ≤ n → cond b m 0 ≤ cond b n 0
choose_le true m n h = h
choose_le false m n h = omega arith

pub sum-of_nat : (m n : ℕ) → sum (of_nat m) (of_nat n) ≡ of_nat (m + n)
sum-of_nat m n = same_content _ _ (λ k. count-sum _ _ k ∙ ap (λ x. x + count (of_nat n) k) (count-of_nat m k) ∙ ap (λ x. cond (eq_by_cmp key_cmp k unit) m 0 + x) (count-of_nat n k) ∙ choose_sum (eq_by_cmp key_cmp k unit) m n ∙ sym (count-of_nat (m + n) k))

pub difference-of_nat : (m n : ℕ) → difference (of_nat m) (of_nat n) ≡ of_nat (m - n)
difference-of_nat m n = same_content _ _ (λ k. count-difference _ _ k ∙ ap (λ x. x - count (of_nat n) k) (count-of_nat m k) ∙ ap (λ x. cond (eq_by_cmp key_cmp k unit) m 0 - x) (count-of_nat n k) ∙ choose_difference (eq_by_cmp key_cmp k unit) m n ∙ sym (count-of_nat (m - n) k))

pub count-of_nat_unit : (n : ℕ) → count (of_nat n) unit ≡ n
count-of_nat_unit n = count-of_nat n unit

pub Contains-of_nat : (m n : ℕ) → n ≤ m → Contains (of_nat m) (of_nat n)
Contains-of_nat m n h = record { each = λ k. subst (λ x. x ≤ count (of_nat m) k) (sym (count-of_nat n k)) (subst (λ x. cond (eq_by_cmp key_cmp k unit) n 0 ≤ x) (sym (count-of_nat m k)) (choose_le (eq_by_cmp key_cmp k unit) n m h)) }

pub le-Contains_of_nat : (m n : ℕ) → Contains (of_nat m) (of_nat n) → n ≤ m
le-Contains_of_nat m n h = omega (arith, h.each unit, count-of_nat_unit m, count-of_nat_unit n)

choose_same : (b : Bool) (n : ℕ) → cond b n n ≡ n
choose_same true n = refl
choose_same false n = refl

pub of_nat_zero : of_nat 0 ≡ nothing
of_nat_zero = same_content _ _ (λ k. count-of_nat 0 k ∙ choose_same (eq_by_cmp key_cmp k unit) 0 ∙ sym (count-nothing k))

pub Contains-refl : (a : Content) → Contains a a
Contains-refl a = record { each = λ k. omega arith }

pub Contains-trans : (a b c : Content) → Contains a b → Contains b c → Contains a c
Contains-trans a b c p q = record { each = λ k. omega (arith, p.each k, q.each k) }

-- the sum has what each has
pub Contains-sum : (a b : Content) → Contains (sum a b) a
Contains-sum a b = record { each = λ k. omega (arith, count-sum a b k) }
