use Rattle.std.proofs.Common.{◌≡◌, length}
use Rattle.jessie_grammar.specs.Texts as texts
use Rattle.jessie_grammar.proofs.jessie_texts.answers.has_function.Given as goal

abbrev pub invariant-functions : goal.invariant-functions
invariant-functions l = texts.has_function l.name l.fn.functions ≡ texts.has_function l.name l.rest

abbrev pub decreases-functions : goal.decreases-functions
decreases-functions l = length l.rest
