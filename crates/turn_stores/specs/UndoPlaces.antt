-- What a key's place says: what the key has now, what it had at the turn's start, and what is left at the end.
use Rattle.std.specs.Prelude.{◌≡◌, ◌≤◌, ◌&&◌, ℕ, Bool, true, false, not, cond, List, [], ◌∷◌, Option, None, Some, is_some, length}
use Rattle.std.specs.declared.cmp.Ordering.{Ordering}
use Rattle.std.specs.List.{list_any, sum_by}
use Rattle.std.specs.List.Sorted.{IsStrictlySortedBy}
use Rattle.std.specs.Map.{keys_of, values_of, lookup, remove_entry}
use Rattle.std.specs.BTreeMap.{is_at}
use Rattle.turn_stores.specs.UndoTurns.{Inserts}
use Rattle.turn_stores.specs.declared.undo_map.place.Before.{Before}
use Rattle.turn_stores.specs.declared.undo_map.place.Before.TheVariants.{Same, Other}
use Rattle.turn_stores.specs.declared.undo_map.place.End.{End}
use Rattle.turn_stores.specs.declared.undo_map.place.End.TheVariants.{Back, Forget}
use Rattle.turn_stores.specs.declared.undo_map.place.Place.{Place}

module _ {V : Type 0} where
  -- what a key had, where `before` is that of a key that has x now
  abbrev pub had_before : Before V → Option V → Option V
  had_before Same x = x
  had_before (Other y) x = y

  -- the place of a key that has no value, and had none at the turn's start
  abbrev pub empty_place : Place V
  empty_place = record { now = None; before = Other None }

  -- what the key had at the turn's start
  abbrev pub had : Place V → Option V
  had p = had_before p.before p.now

  -- what the key has now
  abbrev pub has : Place V → Option V
  has p = p.now

  abbrev pub is_same_before : Before V → Bool
  is_same_before Same = true
  is_same_before (Other _) = false

  -- whether the key has not changed in this turn
  abbrev pub is_same : Place V → Bool
  is_same p = is_same_before p.before

  -- what the key has after the turn's end
  abbrev pub settled : End → Place V → Option V
  settled Back p = had p
  settled Forget p = has p

  -- whether the place is as a turn's end leaves it: its key has not changed, and has a value
  abbrev pub is_settled : Place V → Bool
  is_settled p = is_same p && is_some p.now

  -- whether there is a place that the turn's end is to see to
  abbrev pub is_unsettled_at : Option (Place V) → Bool
  is_unsettled_at None = false
  is_unsettled_at (Some p) = not (is_settled p)

  -- 1 where the key has changed
  abbrev pub changes : Place V → ℕ
  changes p = cond (is_same p) 0 1

module _ {K V : Type 0} where
  -- the entries es with one for k before them, where it has a value
  abbrev pub with_value : K → Option V → List (K × V) → List (K × V)
  with_value k None es = es
  with_value k (Some v) es = (k, v) ∷ es

  -- the values that f gives, by key, where it gives one
  abbrev pub entries_of : {X : Type 0} → (X → Option V) → List (K × X) → List (K × V)
  entries_of f [] = []
  entries_of f (e ∷ es) = with_value e.0 (f e.1) (entries_of f es)

-- the value of a key now
abbrev pub value_now : {K V : Type 0} → (K → K → Ordering) → List (K × Place V) → K → Option V
value_now cmp es q = lookup (is_at (cmp q)) (entries_of has es)

-- fs are the entries es after the key k was given that value, or none; where it was given one, by an order
-- that tells all keys apart
abbrev pub AreChanged : {K V : Type 0} → (K → K → Ordering) → K → Option V → List (K × V) → List (K × V) → Type 0
AreChanged cmp k None es fs = fs ≡ remove_entry (is_at (cmp k)) es
AreChanged cmp k (Some v) es fs = Inserts cmp es fs k v

-- whether the key is among those, as the order compares them
abbrev pub is_listed : {K : Type 0} → (K → K → Ordering) → K → List K → Bool
is_listed cmp q ks = list_any (λ k. is_at (cmp k) q) ks

-- The places of a turn: those that are not listed stand for keys that have a value and have not changed (so
-- that after a turn each place has a value), and there is room to list each.
pub record ArePlaces {K V : Type 0} (cmp : K → K → Ordering) (places : List (K × Place V)) (changed : List K) (room : ℕ) : Type 0 where
  pub ordered : IsStrictlySortedBy cmp (keys_of places)
  pub listed : (q : K) → is_unsettled_at (lookup (is_at (cmp q)) places) ≡ true → is_listed cmp q changed ≡ true
  pub few : length changed ≤ sum_by changes (values_of places)
  pub room_for_all : length places ≤ room
