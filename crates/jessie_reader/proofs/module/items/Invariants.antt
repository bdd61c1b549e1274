use Rattle.std.proofs.Common.{◌≡◌, length}
use Rattle.jessie_grammar.specs.Parse.{loop}
use Rattle.jessie_grammar.specs.Words.{always, item_begins}
use Rattle.jessie_grammar.specs.Rules as p
use Rattle.jessie_reader.proofs.module.items.Given as goal

abbrev pub invariant-items : goal.invariant-items
invariant-items l = loop always item_begins (p.item l.room) (l.fn.tree, l.fn.name_uses) l.fn.tokens ≡ loop always item_begins (p.item l.room) (l.tree, l.name_uses) l.rest

abbrev pub decreases-items : goal.decreases-items
decreases-items l = length l.rest
