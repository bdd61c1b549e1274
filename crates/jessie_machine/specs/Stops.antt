-- What the code's results stand for.
use Rattle.std.specs.Prelude.{◌≡◌, Result, Ok, Err}
use Rattle.jessie_semantics.specs.host_data.Tree.{Tree}
use Rattle.jessie_semantics.specs.host_data.View.{tree}
use Rattle.jessie_index.specs.jessie_values.Reasons.{bad_step}
use Rattle.jessie_index.specs.jessie_values.declared.reasons.ValueFault.{ValueFault}
use Rattle.jessie_index.specs.jessie_values.declared.reasons.ValueFault.TheVariants as fault
use Rattle.jessie_semantics.specs.Runs.{Halt, throws, spends, unfinished, Come, came, halted}
use Rattle.jessie_machine.specs.declared.stop.Thrown.{Thrown}
use Rattle.jessie_machine.specs.declared.stop.Thrown.TheVariants as thrown
use Rattle.jessie_machine.specs.declared.stop.Stop.{Stop}
use Rattle.jessie_machine.specs.declared.stop.Stop.TheVariants as stop

abbrev pub thrown_tree : Thrown → Tree
thrown_tree (thrown.Data d) = tree d
thrown_tree (thrown.BadStep r) = bad_step r

abbrev pub halt : Stop → Halt
halt (stop.Throws t) = throws (thrown_tree t)
halt stop.Spent = spends
halt stop.NoMemory = unfinished

-- the data is thrown, where there is memory
abbrev pub IsThrown : Tree → Halt → Type 0
IsThrown t (throws u) = u ≡ t
IsThrown t spends = ⊥
IsThrown t unfinished = Unit {0}

-- what a result is to the rules, where its value is seen so
abbrev pub come : {T A : Type 0} → (T → A) → Result T Stop → Come A
come see (Ok x) = came (see x)
come see (Err e) = halted (halt e)

-- what keeps a function of values from giving one
abbrev pub fault_halt : ValueFault → Halt
fault_halt fault.NoMemory = unfinished
fault_halt (fault.BadStep r) = throws (bad_step r)
