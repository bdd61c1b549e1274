use Rattle.std.proofs.Common.{◌≡◌, ◌+◌, ◌*◌, length}
use Rattle.jessie_grammar.specs.declared.jessie_lexer.token.Kind.TheVariants as k
use Rattle.jessie_grammar.specs.Rules as p
use Rattle.jessie_expressions.proofs.Lists.{items_from, places}
use Rattle.jessie_expressions.proofs.constant.+constant.Given as goal

abbrev pub decreases-array : goal.decreases-array
decreases-array l = 8 * l.room + 3

abbrev pub decreases-constant : goal.decreases-constant
decreases-constant l = 8 * l.room + 5

abbrev pub decreases-field : goal.decreases-field
decreases-field l = 8 * l.room + 0

abbrev pub decreases-fields : goal.decreases-fields
decreases-fields l = 8 * l.room + 3

abbrev pub decreases-record_text : goal.decreases-record_text
decreases-record_text l = 8 * l.room + 4

abbrev pub decreases-items : goal.decreases-items
decreases-items l = 8 * l.room + 2

abbrev pub invariant-items-items : goal.invariant-items-items
invariant-items-items l = p.listed k.RightBracket (p.inner_constant l.fn.room) l.fn.name_uses l.fn.tokens ≡ items_from k.RightBracket (p.inner_constant l.fn.room) (l.found, l.name_uses) l.more l.rest

abbrev pub decreases-items-items : goal.decreases-items-items
decreases-items-items l = length l.rest + places l.more

abbrev pub invariant-fields-fields : goal.invariant-fields-fields
invariant-fields-fields l = p.listed k.RightBrace (p.constant_field (p.inner_constant l.fn.room)) l.fn.name_uses l.fn.tokens ≡ items_from k.RightBrace (p.constant_field (p.inner_constant l.fn.room)) (l.found, l.name_uses) l.more l.rest

abbrev pub decreases-fields-fields : goal.decreases-fields-fields
decreases-fields-fields l = length l.rest + places l.more
