-- What contracts see of a map that can go back: its entries at the turn's start, and those of now.
use Rattle.std.specs.Prelude.{◌≡◌, true, List, [], ◌∷◌, Option, None, Some, cond}
use Rattle.std.specs.Ordering.{is_le, is_lt}
use Rattle.std.specs.declared.cmp.Ordering.{Ordering}
use Rattle.std.specs.Map.{lookup}
use Rattle.std.specs.BTreeMap.{insert_entry, is_at}
use Rattle.std.specs.FinMap.{IsAntisymmetric}

-- The keys with their values, in the order of the keys.
pub record Turn (K V : Type 0) : Type 0 where
  pub start : List (K × V)
  pub now : List (K × V)

module _ {K V : Type 0} (cmp : K → K → Ordering) where
  -- the value at a key
  abbrev pub value_at : List (K × V) → K → Option V
  value_at es q = lookup (is_at (cmp q)) es

  -- the first key that is at least k
  abbrev pub first_from : K → List (K × V) → Option K
  first_from k [] = None
  first_from k (e ∷ es) = cond (is_le (cmp k e.0)) (Some e.0) (first_from k es)

  -- fs has x at the key k (None: no value), and at each other key what es has
  abbrev pub Updates : List (K × V) → List (K × V) → K → Option V → Type 0
  Updates es fs k x = (q : K) → value_at fs q ≡ cond (is_at (cmp k) q) x (value_at es q)

  -- fs is es with v at the key k, where the order tells all keys apart, as that of numbers does
  abbrev pub Inserts : List (K × V) → List (K × V) → K → V → Type 0
  Inserts es fs k v = IsAntisymmetric cmp → fs ≡ insert_entry cmp es k v

  -- no key from k on has a value
  abbrev pub AbsentFrom : List (K × V) → K → Type 0
  AbsentFrom es k = (q : K) → is_le (cmp k q) ≡ true → value_at es q ≡ None

  -- no key from k on that is below `end` has a value
  abbrev pub AbsentBetween : List (K × V) → K → K → Type 0
  AbsentBetween es k end = (q : K) → is_le (cmp k q) ≡ true → is_lt (cmp q end) ≡ true → value_at es q ≡ None
