-- Two rising lists, put together from the highest key down.
use Rattle.std.proofs.Common.{◌≡◌, ℕ, ◌+◌, ◌≤◌, ◌++◌, ◌&&◌, Bool, true, false, cond, Option, Some, None, IfSome, List, [], ◌∷◌, length, refl, sym, subst, ◌∙◌, arith, append_assoc}
use lib.Dec.{T}
use Rattle.std.specs.List.{All}
use Rattle.std.specs.Option.{option_to_list}
use Rattle.std.proofs.lemmas.List.Elements.{All-from_get_or, All-pop}
use Rattle.std.specs.Ordering.{is_lt, eq_by_cmp}
use Rattle.std.specs.declared.cmp.Ordering.TheVariants.{Less, Equal, Greater}
use Rattle.std.specs.FinMap.Entries.{below_all}
use Rattle.amount_math.specs.Totals.{first, second, less}
use Rattle.amount_math.specs.Content.{key_cmp, counts, of_entries, count, count-of_entries, sum, same_content}
use Rattle.amount_math.specs.Entries.{Entries, IsEntry, IsRaised, IsRising, AreEntries, IsNextPoured, entry_at, at_key, tally, most_of_key}
use Rattle.amount_math.proofs.Listed.{both, tally-append, below_rest, rising_rest, listed-tally}
use Rattle.amount_math.proofs.Searched.{turned, tally_at}
use Rattle.amount_math.proofs.Together.{count_of_sum}

abbrev Entry : Type 0
Entry = List ℕ × ℕ

rising_end : (l p : Entries) → IsRising (l ++ p) → IsRising p
rising_end [] p h = h
rising_end (x ∷ l) p h = rising_end l p (rising_rest x (l ++ p) h)

less_is : (a b : List ℕ) → key_cmp a b ≡ Less → T (is_lt (key_cmp a b))
less_is a b e = subst (λ o. T (is_lt o)) (sym e) tt

-- ---- an entry between two others

below_between : (k : List ℕ) (l : Entries) (e f : Entry) (p : Entries) → key_cmp e.0 f.0 ≡ Less → T (below_all key_cmp k ((l ++ e ∷ []) ++ p)) → T (below_all key_cmp k ((l ++ e ∷ []) ++ f ∷ p))
below_between k [] e f p lt h =
    let front = first (is_lt (key_cmp k e.0)) (below_all key_cmp k p) h in
    both (is_lt (key_cmp k e.0)) (is_lt (key_cmp k f.0) && below_all key_cmp k p) front
    (both (is_lt (key_cmp k f.0)) (below_all key_cmp k p) (less_is k f.0 (counts.total.trans k e.0 f.0 (less _ front) lt)) (second (is_lt (key_cmp k e.0)) (below_all key_cmp k p) h))
below_between k (x ∷ l) e f p lt h = both (is_lt (key_cmp k x.0)) _ (first _ (below_all key_cmp k ((l ++ e ∷ []) ++ p)) h) (below_between k l e f p lt (second (is_lt (key_cmp k x.0)) _ h))

rising_between : (l : Entries) (e f : Entry) (p : Entries) → key_cmp e.0 f.0 ≡ Less → IsRising (f ∷ p) → IsRising ((l ++ e ∷ []) ++ p) → IsRising ((l ++ e ∷ []) ++ f ∷ p)
rising_between [] e f p lt next h = both (is_lt (key_cmp e.0 f.0) && below_all key_cmp e.0 p) _ (both (is_lt (key_cmp e.0 f.0)) (below_all key_cmp e.0 p) (less_is e.0 f.0 lt) (below_rest e p h)) next
rising_between (x ∷ l) e f p lt next h = both (below_all key_cmp x.0 ((l ++ e ∷ []) ++ f ∷ p)) _ (below_between x.0 l e f p lt (below_rest x ((l ++ e ∷ []) ++ p) h)) (rising_between l e f p lt next (rising_rest x ((l ++ e ∷ []) ++ p) h))

-- ---- another count

below_recounted : (k : List ℕ) (l : Entries) (q : List ℕ) (m n : ℕ) (p : Entries) → T (below_all key_cmp k (l ++ (q, m) ∷ p)) → T (below_all key_cmp k (l ++ (q, n) ∷ p))
below_recounted k [] q m n p h = h
below_recounted k (x ∷ l) q m n p h = both (is_lt (key_cmp k x.0)) _ (first _ (below_all key_cmp k (l ++ (q, m) ∷ p)) h) (below_recounted k l q m n p (second (is_lt (key_cmp k x.0)) _ h))

rising_recounted : (l : Entries) (q : List ℕ) (m n : ℕ) (p : Entries) → IsRising (l ++ (q, m) ∷ p) → IsRising (l ++ (q, n) ∷ p)
rising_recounted [] q m n p h = h
rising_recounted (x ∷ l) q m n p h = both (below_all key_cmp x.0 (l ++ (q, n) ∷ p)) _ (below_recounted x.0 l q m n p (below_rest x (l ++ (q, m) ∷ p) h)) (rising_recounted l q m n p (rising_rest x (l ++ (q, m) ∷ p) h))

-- ---- the last of a list is taken out

pub last_out : (l : Entries) (e : Entry) (p : Entries) → IsRising ((l ++ e ∷ []) ++ p) → IsRising (l ++ e ∷ p)
last_out l e p h = subst IsRising (append_assoc l (e ∷ []) p) h

module _ (l : Entries) (e : Entry) where
  pub only_left : IsNextPoured (l ++ e ∷ []) [] l [] e
  only_left p h = record { left = last_out l e p h.left; right = rising_end l (e ∷ p) (last_out l e p h.left) }

  pub only_right : IsNextPoured [] (l ++ e ∷ []) [] l e
  only_right p h = record { left = rising_end l (e ∷ p) (last_out l e p h.right); right = last_out l e p h.right }

  module _ (r : Entries) (f : Entry) where
    pub right_is_highest : key_cmp e.0 f.0 ≡ Less → IsNextPoured (l ++ e ∷ []) (r ++ f ∷ []) (l ++ e ∷ []) r f
    right_is_highest lt p h = let right = last_out r f p h.right in record { left = rising_between l e f p lt (rising_end r (f ∷ p) right) h.left; right = right }

    pub left_is_highest : key_cmp e.0 f.0 ≡ Greater → IsNextPoured (l ++ e ∷ []) (r ++ f ∷ []) l (r ++ f ∷ []) e
    left_is_highest gt p h = let left = last_out l e p h.left in record { left = left; right = rising_between r f e p (turned e.0 f.0 Greater gt) (rising_end l (e ∷ p) left) h.right }

    pub both_are_highest : key_cmp e.0 f.0 ≡ Equal → IsNextPoured (l ++ e ∷ []) (r ++ f ∷ []) l r (e.0, e.1 + f.1)
    both_are_highest eq p h = record {
      left = rising_recounted l e.0 e.1 (e.1 + f.1) p (last_out l e p h.left);
      right = rising_recounted r e.0 f.1 (e.1 + f.1) p (subst (λ k. IsRising (r ++ (k, f.1) ∷ p)) (sym (counts.same e.0 f.0 eq)) (last_out r f p h.right));
    }

    at_key_both : (k : List ℕ) → e.0 ≡ f.0 → at_key k e.0 (e.1 + f.1) ≡ at_key k e.0 e.1 + at_key k f.0 f.1
    at_key_both k same = subst (λ q. at_key k e.0 (e.1 + f.1) ≡ at_key k e.0 e.1 + at_key k q f.1) same (split (eq_by_cmp key_cmp k e.0))
      where
        split : (b : Bool) → cond b (e.1 + f.1) 0 ≡ cond b e.1 0 + cond b f.1 0
        split true = refl
        split false = omega arith

    pub tally_both : (k : List ℕ) → key_cmp e.0 f.0 ≡ Equal → tally l k + tally r k + at_key k e.0 (e.1 + f.1) ≡ tally (l ++ e ∷ []) k + tally (r ++ f ∷ []) k
    tally_both k eq = omega (arith, at_key_both k (counts.same e.0 f.0 eq), tally-append l (e ∷ []) k, tally-append r (f ∷ []) k)

pub tally_last : (l : Entries) (e : Entry) (k : List ℕ) → tally l k + at_key k e.0 e.1 ≡ tally (l ++ e ∷ []) k
tally_last l e k = omega (arith, tally-append l (e ∷ []) k)

-- ---- what was popped

pub emptied : (es : Entries) → length es ≡ 0 → es ≡ []
emptied [] e = refl
emptied (x ∷ es) e = absurd (omega (arith, e))

pub popped_next : (l l' r r' : Entries) (o : Option Entry) → l ≡ l' ++ [] → length l' ≡ 0 → r ≡ r' ++ option_to_list o → IfSome o (IsNextPoured l r l' r')
popped_next l l' r r' None left none right = tt
popped_next l l' r r' (Some e) left none right = rw (left, right, emptied l' none) (only_right r' e)

pub popped_tally : (l l' r r' : Entries) (o : Option Entry) → l ≡ l' ++ [] → r ≡ r' ++ option_to_list o → IfSome o (λ e. (k : List ℕ) → tally l' k + tally r' k + at_key k e.0 e.1 ≡ tally l k + tally r k)
popped_tally l l' r r' None left right = tt
popped_tally l l' r r' (Some e) left right = λ k. rw (left, right) (omega (arith, tally-append l' [] k, tally_last r' e k))

pub pushed_back : (es es' : Entries) (e : Entry) → es ≡ es' ++ e ∷ [] → All IsEntry es → All IsEntry es'
pushed_back es es' e is all = (All-pop IsEntry es es' (Some e) is all).0

-- ---- all was poured

module _ (l r es : Entries) (left : AreEntries l) (right : AreEntries r) (rising : IsRising es) (each : All IsRaised es) (same : (k : List ℕ) → tally es k ≡ tally l k + tally r k) where
  pub poured_sum : of_entries es ≡ sum (of_entries l) (of_entries r)
  poured_sum = same_content _ _ (λ k. count-of_es k ∙ same k ∙ sym (count_of_sum l r left right k))
    where
      count-of_es : (k : List ℕ) → count (of_entries es) k ≡ tally es k
      count-of_es k = count-of_entries es k ∙ listed-tally es k rising

  pub poured_are : ((k : List ℕ) → count (sum (of_entries l) (of_entries r)) k ≤ most_of_key) → AreEntries es
  poured_are within = record {
    rising = rising;
    each = All-from_get_or IsEntry es ([], 0) (λ i lt. let raised = each i ([], 0) lt in record {
      key = raised.key;
      some = raised.some;
      bounded = omega (arith, within (entry_at es i).0, count_of_sum l r left right (entry_at es i).0, same (entry_at es i).0, tally_at es i rising lt);
    });
  }
