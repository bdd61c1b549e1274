use Rattle.std.proofs.Common.{[]}
use Rattle.draft_effects.proofs.Stagings.{ended_now, staged_back}
use Rattle.draft_effects.proofs.draft_staging.end_staging.Goals as goal

pub returns-clause-now : goal.returns-clause-now
returns-clause-now c = rw (c.end_staging.ensures) (ended_now c.args.draft.now c.requires.clean)

pub returns-clause-back : goal.returns-clause-back
returns-clause-back c = rw (c.end_staging.ensures) (staged_back c.args.draft.now c.requires.clean c.valid.ensures [])
