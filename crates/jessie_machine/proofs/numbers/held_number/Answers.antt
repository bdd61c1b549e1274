use Rattle.std.proofs.Common.{ap, ◌∙◌}
use Rattle.jessie_index.specs.jessie_grammar.Syntax.{term_view}
use Rattle.jessie_index.proofs.jessie_grammar.Views.{term-Literal, term-Name}
use Rattle.jessie_semantics.specs.Rules.{expr}
use Rattle.jessie_machine.proofs.AtHand.{made_as}
use Rattle.jessie_machine.proofs.numbers.held_number.Goals as goal

pub returns-in-Literal-clause-does : goal.returns-in-Literal-clause-does
returns-in-Literal-clause-does c = λ m put. made_as (c.put_number.ensures.made put) (ap (λ e. expr m (term_view e)) c.in-Literal.is ∙ ap (expr m) (term-Literal _)) (c.literal_number.ensures.does _)

pub returns-in-Name-clause-does : goal.returns-in-Name-clause-does
returns-in-Name-clause-does c = λ m put. made_as (c.put_number-in-Name.ensures.made put) (ap (λ e. expr m (term_view e)) c.in-Name.is ∙ ap (expr m) (term-Name _)) (c.local_number.ensures.does m)
