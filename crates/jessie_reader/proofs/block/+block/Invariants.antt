use Rattle.std.proofs.Common.{◌≡◌, ◌+◌, ◌*◌, length}
use Rattle.jessie_grammar.specs.Parse.{loop}
use Rattle.jessie_grammar.specs.Words.{always, statement_begins}
use Rattle.jessie_grammar.specs.Rules as p
use Rattle.jessie_reader.proofs.block.+block.Given as goal

abbrev pub decreases-arm : goal.decreases-arm
decreases-arm l = 16 * l.room + 1

abbrev pub decreases-statement_or_branch : goal.decreases-statement_or_branch
decreases-statement_or_branch l = 16 * l.room + 5

abbrev pub decreases-block : goal.decreases-block
decreases-block l = 16 * l.room + 0

abbrev pub decreases-body : goal.decreases-body
decreases-body l = 16 * l.room + 8

abbrev pub decreases-catch_clause : goal.decreases-catch_clause
decreases-catch_clause l = 16 * l.room + 1

abbrev pub decreases-else_part : goal.decreases-else_part
decreases-else_part l = 16 * l.room + 5

abbrev pub decreases-while_loop : goal.decreases-while_loop
decreases-while_loop l = 16 * l.room + 2

abbrev pub decreases-nameless : goal.decreases-nameless
decreases-nameless l = 16 * l.room + 3

abbrev pub decreases-simple : goal.decreases-simple
decreases-simple l = 16 * l.room + 4

abbrev pub decreases-try_and_catch : goal.decreases-try_and_catch
decreases-try_and_catch l = 16 * l.room + 2

abbrev pub decreases-turn : goal.decreases-turn
decreases-turn l = 16 * l.room + 6

abbrev pub decreases-turns : goal.decreases-turns
decreases-turns l = 16 * l.room + 7

abbrev pub decreases-for_loop : goal.decreases-for_loop
decreases-for_loop l = 16 * l.room + 1

abbrev pub invariant-turns-turns : goal.invariant-turns-turns
invariant-turns-turns l = loop always statement_begins (p.turn_from l.fn.room (p.inner l.fn.room) (p.block l.fn.room)) (l.fn.found, (l.fn.branches, l.fn.name_uses)) l.fn.tokens ≡ loop always statement_begins (p.turn_from l.fn.room (p.inner l.fn.room) (p.block l.fn.room)) (l.found, (l.branches, l.name_uses)) l.rest

abbrev pub decreases-turns-turns : goal.decreases-turns-turns
decreases-turns-turns l = length l.rest
