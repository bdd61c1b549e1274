use Rattle.draft_effects.proofs.CarriedMovements.{put_memory}
use Rattle.draft_effects.proofs.payment_combinations.add.Goals as goal

pub unreachable-requires : goal.unreachable-requires
unreachable-requires c = c.in_default.not-NoMemory (put_memory _ _ _ c.requires.value c.in-Err.ensures.refused)
