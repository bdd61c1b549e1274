-- What was seen of brands' values, and of which kinds they may be.
use Rattle.std.specs.Prelude.{◌↔◌, ℕ, Option, Some, None, unwrap_or}
use Rattle.std.specs.BTreeMap.{get}
use Rattle.std.specs.Ordering.{nat_cmp}
use Rattle.row_records.specs.amount_math.declared.Kind.{Kind}
use Rattle.row_records.specs.amount_math.declared.Kind.TheVariants as kinds
use Rattle.row_records.specs.fair_rows.Values.{IsValueOf}
use Rattle.row_records.specs.turn_rows.Turns.{Value}
use Rattle.told_rights.specs.declared.brand_kinds.BrandKinds.{BrandKinds}
use Rattle.told_rights.specs.declared.brand_kinds.Seen.{Seen}
use Rattle.told_rights.specs.declared.brand_kinds.Seen.TheVariants.{Any, Keyed, Nat, Set, Bag}

-- what was seen of a brand
abbrev pub seen_at : BrandKinds → ℕ → Seen
seen_at k b = unwrap_or (get nat_cmp k.seen b) Any

-- the values that were seen may be of that kind
abbrev pub Allows : Seen → Kind → Type 0
Allows Any kind = Unit {0}
Allows Keyed kinds.Set = Unit {0}
Allows Keyed kinds.Bag = Unit {0}
Allows Nat kinds.Nat = Unit {0}
Allows Set kinds.Set = Unit {0}
Allows Bag kinds.Bag = Unit {0}
Allows _ _ = ⊥

-- the value is of a kind of which those may be
pub record Suits (seen : Seen) (v : Value) : Type 0 where
  pub kind : Kind
  pub allowed : Allows seen kind
  pub value : IsValueOf kind v

-- a value is of just the kinds that are allowed
pub record Shows (seen : Seen) (v : Value) : Type 0 where
  pub is : (kind : Kind) → Allows seen kind ↔ IsValueOf kind v

-- what both show together, if there is a kind that both allow
abbrev pub seen_with : Seen → Seen → Option Seen
seen_with Any shown = Some shown
seen_with Keyed Any = Some Keyed
seen_with Keyed Nat = None
seen_with Keyed shown = Some shown
seen_with Nat Any = Some Nat
seen_with Nat Nat = Some Nat
seen_with Nat _ = None
seen_with Set Any = Some Set
seen_with Set Keyed = Some Set
seen_with Set Set = Some Set
seen_with Set _ = None
seen_with Bag Any = Some Bag
seen_with Bag Keyed = Some Bag
seen_with Bag Bag = Some Bag
seen_with Bag _ = None

-- together allow just the kinds of the value that were allowed, or there is none
abbrev pub AreTogether : Seen → Value → Option Seen → Type 0
AreTogether seen v (Some both) = (kind : Kind) → Allows both kind ↔ (Allows seen kind × IsValueOf kind v)
AreTogether seen v None = ¬ Suits seen v

-- a kind of which they may be: a set, where they may be of several
abbrev pub kind_shown : Seen → Kind
kind_shown Any = kinds.Set
kind_shown Keyed = kinds.Set
kind_shown Nat = kinds.Nat
kind_shown Set = kinds.Set
kind_shown Bag = kinds.Bag
