-- What a shape stands for.
use Rattle.std.specs.Prelude.{ℕ, ◌≤◌}
use Rattle.amount_math.specs.declared.Kind.TheVariants as kind
use Rattle.amount_math.specs.declared.shape.Shape.{Shape}
use Rattle.amount_math.specs.declared.shape.Shape.TheVariants.{Nat, Set, Bag}
use Rattle.amount_math.specs.Content.{of_nat}
use Rattle.amount_math.specs.Held.{Held}
use Rattle.amount_math.specs.ValueView.{ValueView, AreCounted, IsSet, IsBag, nat_bound}

abbrev pub value_view : Shape → ValueView
value_view (Nat n) = record { kind = kind.Nat; content = of_nat n }
value_view (Set keyed) = record { kind = kind.Set; content = keyed.content }
value_view (Bag keyed) = record { kind = kind.Bag; content = keyed.content }

-- how many keys it has room for
abbrev pub room_in : Shape → ℕ
room_in (Nat n) = 0
room_in (Set keyed) = keyed.room
room_in (Bag keyed) = keyed.room

-- what it holds, with its room
abbrev pub held_by : Shape → Held
held_by s = record { value = value_view s; room = room_in s }

-- it stands for a value of its kind
abbrev pub IsShape : Shape → Type 0
IsShape (Nat n) = n ≤ nat_bound
IsShape (Set keyed) = IsSet keyed.content
IsShape (Bag keyed) = IsBag keyed.content

-- no count passes the kind's bound
abbrev pub IsCounted : Shape → Type 0
IsCounted (Nat n) = n ≤ nat_bound
IsCounted (Set keyed) = AreCounted kind.Set keyed.content
IsCounted (Bag keyed) = AreCounted kind.Bag keyed.content
