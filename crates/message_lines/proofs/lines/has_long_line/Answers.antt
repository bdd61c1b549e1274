use Rattle.std.proofs.Common.{rules}
use Rattle.std.proofs.lemmas.Iterator.Consumers.{YieldsList-from_first}
use Rattle.std.proofs.lemmas.Iterator.Search.{any_from_yields_List}
use Rattle.message_lines.specs.InputLines.{is_long}
use Rattle.message_lines.proofs.lines.has_long_line.Goals as goal

pub returns : goal.returns
returns c =
    any_from_yields_List is_long _ _ _ c.any.ensures.ran (YieldsList-from_first (λ x. x.now) (λ s. s) _ c.new.ensures)
    (λ x b q k. search rules)
