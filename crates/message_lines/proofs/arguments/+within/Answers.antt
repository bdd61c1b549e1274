use Rattle.std.proofs.Common.{arith}
use Rattle.std.proofs.lemmas.Grind.{common_steps}
use Rattle.message_lines.proofs.ReadParts.{part-Record}
use Rattle.message_lines.proofs.arguments.+within.Goals as goal

pub is_within-returns-then-limit-gt0-2 : goal.is_within-returns-then-limit-gt0-2
is_within-returns-then-limit-gt0-2 t c =
    rw (c.in-Record.is, part-Record c.in-Record.fields, ← c.as_slice-then-limit-gt0-2.ensures.value)
    (grind (arith, common_steps, c.fields_within.ensures))
