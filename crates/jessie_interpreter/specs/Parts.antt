-- The module as it runs, where its evaluation stands, and the forms whose rules have no name of their own.
use Rattle.std.specs.Prelude.{ℕ, List}
use Rattle.jessie_machine.specs.host_data.Tree.{Tree}
use Rattle.jessie_machine.specs.host_data.View.{trees}
use Rattle.jessie_machine.specs.host_data.declared.data.Data.{Data}
use Rattle.jessie_machine.specs.jessie_grammar.Syntax.{routines, variable_names}
use Rattle.jessie_machine.specs.jessie_grammar.declared.syntax.Module.{Module}
use Rattle.jessie_machine.specs.jessie_values.Records.{made_array}
use Rattle.jessie_machine.specs.jessie_semantics.AmountMath.{amount_call}
use Rattle.jessie_machine.specs.jessie_semantics.Actions.{State, Action, ◌>>=◌}
use Rattle.jessie_machine.specs.jessie_semantics.Rules.{Program, program, primary_rule, worked, counted}
use Rattle.jessie_machine.specs.Machine.{state}
use Rattle.jessie_machine.specs.declared.machine.Machine.{Machine}

-- a module within so many calls
abbrev pub running : Module → ℕ → Program
running m room = program (routines m) room

-- where a module's evaluation stands whose state variables had these values
abbrev pub here : Module → List Data → Machine → State
here m vs s = state (variable_names m) (trees vs) s

-- an expression, and what is behind it
abbrev pub behind : Action Tree → (Tree → Action Tree) → Action Tree
behind first rest = first >>= rest

abbrev pub array_rule : Action (List Tree) → Action Tree
array_rule parts = primary_rule parts (λ vs. worked (made_array vs))

abbrev pub amounts_rule : Action (List Tree) → List ℕ → Action Tree
amounts_rule args x = primary_rule args (λ vs. counted (amount_call x vs))
