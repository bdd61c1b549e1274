use Rattle.std.proofs.Common.{◌≡◌, ◌+◌, ◌-◌, ◌*◌, true, length}
use Rattle.jessie_grammar.specs.declared.jessie_lexer.token.Kind.TheVariants as k
use Rattle.jessie_grammar.specs.declared.syntax.Expr.{Expr}
use Rattle.jessie_grammar.specs.Parse.{loop}
use Rattle.jessie_grammar.specs.Words.{always, ongoing, access_begins}
use Rattle.jessie_grammar.specs.Levels.{level_at, operands}
use Rattle.jessie_grammar.specs.Rules as p
use Rattle.jessie_expressions.proofs.Lists.{items_from, places}
use Rattle.jessie_expressions.proofs.expression.+expression.Given as goal

-- each call goes down in room, or else in rank
abbrev pub decreases-after : goal.decreases-after
decreases-after l = 64 * l.room + 60

abbrev pub decreases-amount : goal.decreases-amount
decreases-amount l = 64 * l.room + 8

abbrev pub decreases-amount_call : goal.decreases-amount_call
decreases-amount_call l = 64 * l.room + 7

abbrev pub decreases-arguments : goal.decreases-arguments
decreases-arguments l = 64 * l.room + 5

abbrev pub decreases-array : goal.decreases-array
decreases-array l = 64 * l.room + 5

abbrev pub decreases-bare_first : goal.decreases-bare_first
decreases-bare_first l = 64 * l.room + 9

abbrev pub decreases-below_sign : goal.decreases-below_sign
decreases-below_sign l = 64 * l.room + 11

abbrev pub decreases-choice_of : goal.decreases-choice_of
decreases-choice_of l = 64 * l.room + 57

abbrev pub decreases-branches : goal.decreases-branches
decreases-branches l = 64 * l.room + 56

abbrev pub decreases-call_tail : goal.decreases-call_tail
decreases-call_tail l = 64 * l.room + 7

abbrev pub decreases-call : goal.decreases-call
decreases-call l = 64 * l.room + 6

abbrev pub decreases-choice : goal.decreases-choice
decreases-choice l = 64 * l.room + 59

abbrev pub decreases-choice_behind : goal.decreases-choice_behind
decreases-choice_behind l = 64 * l.room + 58

abbrev pub decreases-dot_access : goal.decreases-dot_access
decreases-dot_access l = 64 * l.room + 7

abbrev pub decreases-bracketed_items : goal.decreases-bracketed_items
decreases-bracketed_items l = 64 * l.room + 4

abbrev pub decreases-braced_fields : goal.decreases-braced_fields
decreases-braced_fields l = 64 * l.room + 7

abbrev pub decreases-eventually : goal.decreases-eventually
decreases-eventually l = 64 * l.room + 8

abbrev pub decreases-expression : goal.decreases-expression
decreases-expression l = 64 * l.room + 61

abbrev pub decreases-field : goal.decreases-field
decreases-field l = 64 * l.room + 1

abbrev pub decreases-fields : goal.decreases-fields
decreases-fields l = 64 * l.room + 5

abbrev pub decreases-group : goal.decreases-group
decreases-group l = 64 * l.room + 0

abbrev pub decreases-items : goal.decreases-items
decreases-items l = 64 * l.room + 3

abbrev pub decreases-method_call : goal.decreases-method_call
decreases-method_call l = 64 * l.room + 6

abbrev pub decreases-method_access : goal.decreases-method_access
decreases-method_access l = 64 * l.room + 6

abbrev pub decreases-name_or_call : goal.decreases-name_or_call
decreases-name_or_call l = 64 * l.room + 8

abbrev pub decreases-fields_and_scope : goal.decreases-fields_and_scope
decreases-fields_and_scope l = 64 * l.room + 6

abbrev pub decreases-own_value : goal.decreases-own_value
decreases-own_value l = 64 * l.room + 0

abbrev pub decreases-post_tail : goal.decreases-post_tail
decreases-post_tail l = 64 * l.room + 10

abbrev pub decreases-prim : goal.decreases-prim
decreases-prim l = 64 * l.room + 10

abbrev pub decreases-record_text : goal.decreases-record_text
decreases-record_text l = 64 * l.room + 8

abbrev pub decreases-second_branch : goal.decreases-second_branch
decreases-second_branch l = 64 * l.room + 55

abbrev pub decreases-send : goal.decreases-send
decreases-send l = 64 * l.room + 7

abbrev pub decreases-sign_and_operand : goal.decreases-sign_and_operand
decreases-sign_and_operand l = 64 * l.room + 12

abbrev pub decreases-access : goal.decreases-access
decreases-access l = 64 * l.room + 8

abbrev pub decreases-accesses : goal.decreases-accesses
decreases-accesses l = 64 * l.room + 9

abbrev pub decreases-unary : goal.decreases-unary
decreases-unary l = 64 * l.room + 13

abbrev pub decreases-chain : goal.decreases-chain
decreases-chain l = 64 * l.room + 20 + 5 * (6 - l.level) + 2

abbrev pub decreases-operand : goal.decreases-operand
decreases-operand l = 64 * l.room + 20 + 5 * (6 - l.level) + 4

abbrev pub decreases-operator_step : goal.decreases-operator_step
decreases-operator_step l = 64 * l.room + 20 + 5 * (6 - l.level) + 0

abbrev pub decreases-operators : goal.decreases-operators
decreases-operators l = 64 * l.room + 20 + 5 * (6 - l.level) + 1

abbrev pub decreases-tails : goal.decreases-tails
decreases-tails l = 64 * l.room + 20 + 5 * (6 - l.level) + 3

abbrev pub invariant-accesses-accesses : goal.invariant-accesses-accesses
invariant-accesses-accesses l = (first : Expr) → loop always access_begins (p.access_on l.fn.room (p.inner l.fn.room)) ((first, l.fn.found), l.fn.name_uses) l.fn.tokens ≡ loop always access_begins (p.access_on l.fn.room (p.inner l.fn.room)) ((first, l.found), l.name_uses) l.rest

abbrev pub decreases-accesses-accesses : goal.decreases-accesses-accesses
decreases-accesses-accesses l = length l.rest

abbrev pub invariant-operators-operators : goal.invariant-operators-operators
invariant-operators-operators l = (first : Expr) → loop ongoing (level_at l.fn.level).0 (p.op_step (level_at l.fn.level) (operands l.fn.room (l.fn.level + 1))) (((first, l.fn.found), l.fn.name_uses), true) l.fn.tokens ≡ loop ongoing (level_at l.fn.level).0 (p.op_step (level_at l.fn.level) (operands l.fn.room (l.fn.level + 1))) (((first, l.found), l.name_uses), l.more) l.rest

abbrev pub decreases-operators-operators : goal.decreases-operators-operators
decreases-operators-operators l = length l.rest

abbrev pub invariant-items-items : goal.invariant-items-items
invariant-items-items l = p.listed l.fn.close (p.inner l.fn.room) l.fn.name_uses l.fn.tokens ≡ items_from l.fn.close (p.inner l.fn.room) (l.found, l.name_uses) l.more l.rest

abbrev pub decreases-items-items : goal.decreases-items-items
decreases-items-items l = length l.rest + places l.more

abbrev pub invariant-fields-fields : goal.invariant-fields-fields
invariant-fields-fields l = p.listed k.RightBrace (p.field (p.inner l.fn.room)) l.fn.name_uses l.fn.tokens ≡ items_from k.RightBrace (p.field (p.inner l.fn.room)) (l.found, l.name_uses) l.more l.rest

abbrev pub decreases-fields-fields : goal.decreases-fields-fields
decreases-fields-fields l = length l.rest + places l.more
