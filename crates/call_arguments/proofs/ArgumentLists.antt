-- Lists of numbers: the least of some, that all pass where none that fails is found, and that none stands twice where none is found.
use Rattle.std.proofs.Common.{◌≡◌, ℕ, Bool, true, false, cond, eqb, not, ◌||◌, List, [], ◌∷◌, ◌++◌, Option, Some, None, ◌+◌, ◌<◌, ◌==◌, drop, get_or, length, nat_cmp, take, refl, sym, ◌∙◌, ap, arith}
use Rattle.std.specs.BTreeMap.{is_at}
use Rattle.std.proofs.lemmas.Bool.Decides.{nat_tests}
use Rattle.std.proofs.lemmas.List.{drop_more, take_more}
use Rattle.std.proofs.lemmas.List.Folds.{list_any-append}
use Rattle.std.proofs.lemmas.Bool.{eq-eqb}
use Rattle.std.proofs.lemmas.List.Elements.{All-cons, All-nil}
use Rattle.std.specs.List.{All, filter}
use Rattle.call_arguments.specs.Numbers.{AreApart, IsNoneOf, first_again, first_repeated, is_among, least, least_failing, least_of}

pub least_of_three : (a b c : Option ℕ) → least_of a (least_of b c) ≡ least_of (least_of a b) c
least_of_three None b c = refl
least_of_three (Some n) None c = refl
least_of_three (Some n) (Some m) None = refl
least_of_three (Some n) (Some m) (Some l) = ap Some (omega arith)

-- ---- all pass

some_least : (n : ℕ) (o : Option ℕ) → ¬ (least_of (Some n) o ≡ None)
some_least n None is = cc
some_least n (Some m) is = cc

least_none : (b : Bool) (n : ℕ) (ns : List ℕ) → least (cond (not b) (n ∷ ns) ns) ≡ None → (b ≡ true) × (least ns ≡ None)
least_none true n ns is = (refl, is)
least_none false n ns is = absurd (some_least n (least ns) is)

pub all_pass : (passes : ℕ → Bool) (ns : List ℕ) → least_failing passes ns ≡ None → All (λ n. passes n ≡ true) ns
unfolding least_failing
all_pass passes [] is = All-nil (λ n. passes n ≡ true)
all_pass passes (n ∷ ns) is =
    let both = least_none (passes n) n (filter (λ m. not (passes m)) ns) is in
    All-cons (λ m. passes m ≡ true) n ns both.0 (all_pass passes ns both.1)

-- ---- none is twice among them

not_here : (b : Bool) (p : ℕ) (o : Option ℕ) → cond b (Some p) o ≡ None → (b ≡ false) × (o ≡ None)
not_here true p o is = absurd (cc)
not_here false p o is = (refl, is)

among-push : (qs : List ℕ) (p q : ℕ) → is_among qs q ≡ true → is_among (qs ++ p ∷ []) q ≡ true
among-push [] p q is = absurd (cc)
among-push (r ∷ qs) p q is = by (eqb r q) (among-push qs p q) is
  where
    by : (b : Bool) → (is_among qs q ≡ true → is_among (qs ++ p ∷ []) q ≡ true) → (b || is_among qs q) ≡ true → (b || is_among (qs ++ p ∷ []) q) ≡ true
    by true later e = refl
    by false later e = later e

among-last : (qs : List ℕ) (p : ℕ) → is_among (qs ++ p ∷ []) p ≡ true
among-last [] p = ap (λ b. b || false) (eq-eqb p p refl)
among-last (r ∷ qs) p = by (eqb r p) (among-last qs p)
  where
    by : (b : Bool) → is_among (qs ++ p ∷ []) p ≡ true → (b || is_among (qs ++ p ∷ []) p) ≡ true
    by true later = refl
    by false later = later

-- one that stands before isn't among them
not_again : (before ps : List ℕ) (q : ℕ) → first_again before ps ≡ None → is_among before q ≡ true → IsNoneOf ps q
not_again before [] q none is = tt
not_again before (p ∷ ps) q none is =
    let both = not_here (is_among before p) p (first_again (before ++ p ∷ []) ps) none in (
      λ same. let clash : true ≡ false = sym is ∙ ap (is_among before) (sym same) ∙ both.0 in cc,
      not_again (before ++ p ∷ []) ps q both.1 (among-push before p q is),
    )

all_distinct : (before ps : List ℕ) → first_again before ps ≡ None → AreApart ps
all_distinct before [] none = tt
all_distinct before (p ∷ ps) none =
    let both = not_here (is_among before p) p (first_again (before ++ p ∷ []) ps) none in
    (not_again (before ++ p ∷ []) ps p both.1 (among-last before p), all_distinct (before ++ p ∷ []) ps both.1)

pub none_twice : (ps : List ℕ) → first_repeated ps ≡ None → AreApart ps
unfolding first_repeated
none_twice ps none = all_distinct [] ps none

pub apart : (ps : List ℕ) (o : Option ℕ) → o ≡ first_repeated ps → o ≡ None → AreApart ps
apart ps o is none = none_twice ps (sym is ∙ none)

pub all_passed : (passes : ℕ → Bool) (ns : List ℕ) (o : Option ℕ) → o ≡ least_failing passes ns → o ≡ None → All (λ n. passes n ≡ true) ns
all_passed passes ns o is none = all_pass passes ns (sym is ∙ none)

-- ---- numbers that were seen

at_is : (x n : ℕ) → is_at (nat_cmp x) n ≡ (x == n)
at_is x n = grind (arith, nat_tests)

pub seen_more : (ns : List ℕ) (x n : ℕ) (was now : Bool) → was ≡ is_among ns n → now ≡ cond (is_at (nat_cmp x) n) true was → now ≡ is_among (ns ++ x ∷ []) n
seen_more ns x n was now before is = is ∙ rw (at_is x n, before) (by (x == n) (is_among ns n)) ∙ sym (list_any-append (λ m. m == n) ns (x ∷ []))
  where
    by : (it any : Bool) → cond it true any ≡ (any || (it || false))
    by true true = refl
    by true false = refl
    by false true = refl
    by false false = refl

pub again_here : (ns : List ℕ) (i x : ℕ) → i < length ns → x ≡ get_or ns i x → is_among (take i ns) x ≡ true → first_again (take i ns) (drop i ns) ≡ Some x
again_here ns i x lt at is = ap (first_again (take i ns)) (drop_more ns i x lt ∙ ap (λ y. y ∷ drop (i + 1) ns) (sym at)) ∙ ap (λ b. cond b (Some x) (first_again (take i ns ++ x ∷ []) (drop (i + 1) ns))) is

pub take_next : (ns : List ℕ) (i x : ℕ) → i < length ns → x ≡ get_or ns i x → take (i + 1) ns ≡ take i ns ++ x ∷ []
take_next ns i x lt at = take_more ns i x lt ∙ ap (λ y. take i ns ++ y ∷ []) (sym at)

pub again_later : (ns : List ℕ) (i x : ℕ) → i < length ns → x ≡ get_or ns i x → is_among (take i ns) x ≡ false → first_again (take i ns) (drop i ns) ≡ first_again (take (i + 1) ns) (drop (i + 1) ns)
again_later ns i x lt at is =
    ap (first_again (take i ns)) (drop_more ns i x lt ∙ ap (λ y. y ∷ drop (i + 1) ns) (sym at))
    ∙ ap (λ b. cond b (Some x) (first_again (take i ns ++ x ∷ []) (drop (i + 1) ns))) is
    ∙ ap (λ qs. first_again qs (drop (i + 1) ns)) (sym (take_next ns i x lt at))
