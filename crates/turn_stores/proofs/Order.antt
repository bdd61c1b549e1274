-- The keys are in order, and the first key from one on is the least of those that have a value.
use Rattle.std.proofs.Common.{◌≡◌, List, [], ◌∷◌, refl, sym, ap, ◌∙◌, subst, Bool, true, false, cond}
use Rattle.std.specs.Prelude.{Option, None, Some, IfNone, IfSome, IsSome}
use Rattle.std.specs.declared.cmp.Ordering.{Ordering}
use Rattle.std.specs.declared.cmp.Ordering.TheVariants.{Less, Equal, Greater}
use Rattle.std.specs.Ordering.{is_eq, is_le, is_lt}
use Rattle.std.specs.Cmp.{IsTotalOrder, alike_right}
use Rattle.std.proofs.lemmas.Cmp.{eq_by_cmp_equiv}
use Rattle.std.specs.List.{AllByRecursion}
use Rattle.std.specs.List.Sorted.{IsStrictlySortedBy}
use Rattle.std.specs.Map.{keys_of}
use Rattle.std.specs.BTreeMap.{is_at}
use Rattle.std.proofs.lemmas.Map.{lookup-none}
use Rattle.std.proofs.lemmas.Map.Entries.{none_below_head}
use Rattle.std.proofs.lemmas.Map.Keys.{sorted_head, sorted_tail}
use Rattle.turn_stores.specs.UndoPlaces.{entries_of, with_value}
use Rattle.turn_stores.specs.UndoTurns.{first_from, value_at}
use Rattle.turn_stores.proofs.Whole.{each_entry}

-- ---- order

sorted_with : {K V : Type 0} (cmp : K → K → Ordering) (k : K) (o : Option V) (es : List (K × V)) → AllByRecursion (λ y. cmp k y ≡ Less) (keys_of es) → IsStrictlySortedBy cmp (keys_of es) → IsStrictlySortedBy cmp (keys_of (with_value k o es))
unfolding IsStrictlySortedBy
sorted_with cmp k None es above s = s
sorted_with cmp k (Some v) es above s = (above, s)

pub entries_sorted : {K X V : Type 0} (cmp : K → K → Ordering) (f : X → Option V) (es : List (K × X)) → IsStrictlySortedBy cmp (keys_of es) → IsStrictlySortedBy cmp (keys_of (entries_of f es))
unfolding IsStrictlySortedBy
entries_sorted cmp f [] s = s
entries_sorted cmp f (e ∷ es) s = sorted_with cmp e.0 (f e.1) (entries_of f es) (each_entry f (λ y. cmp e.0 y ≡ Less) es (sorted_head cmp e.0 (keys_of es) s)) (entries_sorted cmp f es (sorted_tail cmp e.0 (keys_of es) s))

-- ---- the first key from one on

not_both : (b : Bool) → (b ≡ true → false ≡ true) → b ≡ false
not_both true h = sym (h refl)
not_both false h = refl

is_less : (c : Ordering) → is_lt c ≡ true → c ≡ Less
is_less Less h = refl
is_less Equal h = cc
is_less Greater h = cc

is_equal : (c : Ordering) → is_eq c ≡ true → c ≡ Equal
is_equal Less h = cc
is_equal Equal h = refl
is_equal Greater h = cc

value_more : {V : Type 0} (b : Bool) (v : V) (x : Option V) → IsSome x → IsSome (cond b (Some v) x)
value_more true v x h = refl
value_more false v x h = h

apart : {K : Type 0} {cmp : K → K → Ordering} (o : IsTotalOrder cmp) (k e q : K) → is_le (cmp k e) ≡ false → is_le (cmp k q) ≡ true → is_at (cmp q) e ≡ false
apart {cmp = cmp} o k e q below low = not_both (is_at (cmp q) e) (λ h. let alike : cmp k q ≡ cmp k e = alike_right o q e k (is_equal (cmp q e) h) in sym below ∙ ap is_le (sym alike) ∙ low)

module _ {K V : Type 0} {cmp : K → K → Ordering} (o : IsTotalOrder cmp) (k : K) where
  -- r is the least key from k on that has a value, or none has
  abbrev IsFirst : List (K × V) → Option K → Type 0
  IsFirst es None = (q : K) → is_le (cmp k q) ≡ true → value_at cmp es q ≡ None
  IsFirst es (Some found) = IsSome (value_at cmp es found) × (is_le (cmp k found) ≡ true) × ((q : K) → is_le (cmp k q) ≡ true → is_lt (cmp q found) ≡ true → value_at cmp es q ≡ None)

  first_here : (e : K × V) (es : List (K × V)) → is_le (cmp k e.0) ≡ true → IsStrictlySortedBy cmp (keys_of (e ∷ es)) → IsFirst (e ∷ es) (Some e.0)
  first_here e es low s = (rw ((eq_by_cmp_equiv o).refl e.0) refl, low, λ q from below. lookup-none (is_at (cmp q)) (e ∷ es) (none_below_head o q e es s (is_less (cmp q e.0) below)))

  first_later : (e : K × V) (es : List (K × V)) (r : Option K) → is_le (cmp k e.0) ≡ false → IsFirst es r → IsFirst (e ∷ es) r
  first_later e es None below rest = λ q from. rw (apart o k e.0 q below from) (rest q from)
  first_later e es (Some found) below rest = (value_more (is_at (cmp found) e.0) e.1 (value_at cmp es found) rest.0, rest.1, λ q from less. rw (apart o k e.0 q below from) (rest.2 q from less))

  first_step : (e : K × V) (es : List (K × V)) (b : Bool) → is_le (cmp k e.0) ≡ b → IsStrictlySortedBy cmp (keys_of (e ∷ es)) → IsFirst es (first_from cmp k es) → IsFirst (e ∷ es) (cond b (Some e.0) (first_from cmp k es))
  first_step e es true is s rest = first_here e es is s
  first_step e es false is s rest = first_later e es (first_from cmp k es) is rest

  is_first : (es : List (K × V)) → IsStrictlySortedBy cmp (keys_of es) → IsFirst es (first_from cmp k es)
  is_first [] s = λ q from. refl
  is_first (e ∷ es) s = first_step e es (is_le (cmp k e.0)) refl s (is_first es (sorted_tail cmp e.0 (keys_of es) s))

  pub first_there : (es : List (K × V)) (r : Option K) → IsStrictlySortedBy cmp (keys_of es) → r ≡ first_from cmp k es → IfSome r (λ found. IsSome (value_at cmp es found))
  first_there es r s is = there r (subst (IsFirst es) (sym is) (is_first es s))
    where
      there : (r : Option K) → IsFirst es r → IfSome r (λ found. IsSome (value_at cmp es found))
      there None h = tt
      there (Some found) h = h.0

  pub first_from_on : (es : List (K × V)) (r : Option K) → IsStrictlySortedBy cmp (keys_of es) → r ≡ first_from cmp k es → IfSome r (λ found. is_le (cmp k found) ≡ true)
  first_from_on es r s is = low r (subst (IsFirst es) (sym is) (is_first es s))
    where
      low : (r : Option K) → IsFirst es r → IfSome r (λ found. is_le (cmp k found) ≡ true)
      low None h = tt
      low (Some found) h = h.1

  pub first_before : (es : List (K × V)) (r : Option K) → IsStrictlySortedBy cmp (keys_of es) → r ≡ first_from cmp k es → IfSome r (λ found. (q : K) → is_le (cmp k q) ≡ true → is_lt (cmp q found) ≡ true → value_at cmp es q ≡ None)
  first_before es r s is = before r (subst (IsFirst es) (sym is) (is_first es s))
    where
      before : (r : Option K) → IsFirst es r → IfSome r (λ found. (q : K) → is_le (cmp k q) ≡ true → is_lt (cmp q found) ≡ true → value_at cmp es q ≡ None)
      before None h = tt
      before (Some found) h = h.2

  pub first_nowhere : (es : List (K × V)) (r : Option K) → IsStrictlySortedBy cmp (keys_of es) → r ≡ first_from cmp k es → IfNone r ((q : K) → is_le (cmp k q) ≡ true → value_at cmp es q ≡ None)
  first_nowhere es r s is = nowhere r (subst (IsFirst es) (sym is) (is_first es s))
    where
      nowhere : (r : Option K) → IsFirst es r → IfNone r ((q : K) → is_le (cmp k q) ≡ true → value_at cmp es q ≡ None)
      nowhere None h = h
      nowhere (Some found) h = tt
