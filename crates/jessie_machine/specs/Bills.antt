-- What a call of the host costs that is shown the first three of its arguments.
use Rattle.std.specs.Prelude.{◌≡◌, ℕ, ◌+◌, ◌-◌, List, take, nat_le, Option, Some, None, Result, Ok, Err, if◌then◌else◌}
use Rattle.jessie_semantics.specs.host_data.Tree.{Tree, items_size}
use Rattle.jessie_semantics.specs.host_data.View.{items_of}
use Rattle.jessie_machine.specs.declared.stop.Stop.{Stop}

abbrev pub bill : List Tree → ℕ
bill vs = 100 + items_size (items_of (take 3 vs))

-- what a charge leaves of a meter, where the meter has it
abbrev pub left_after : ℕ → ℕ → Option ℕ
left_after n meter = if nat_le n meter then Some (meter - n) else None

-- where it was paid, the meter had the charge and what is left
abbrev pub Covers : {A : Type 0} → Result A Stop → ℕ → ℕ → ℕ → Type 0
Covers (Ok a) n before after = after + n ≡ before
Covers (Err e) n before after = Unit {0}
