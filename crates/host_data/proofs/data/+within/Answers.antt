use Rattle.std.proofs.Common.{arith}
use Rattle.std.proofs.lemmas.Grind.{common_steps}
use Rattle.host_data.proofs.Views.{tree-Record}
use Rattle.host_data.proofs.data.+within.Goals as goal

pub is_within-returns-then-limit-gt0-2 : goal.is_within-returns-then-limit-gt0-2
is_within-returns-then-limit-gt0-2 t c =
    rw (c.in-Record.is, tree-Record c.in-Record.fields, ← c.as_slice-then-limit-gt0-2.ensures.value)
    (grind (arith, common_steps, c.fields_within.ensures))
