use Rattle.std.proofs.Common.{refl}
use Rattle.draft_reads.specs.vault_model.Seats.{kept_seat_at}
use Rattle.draft_reads.specs.seats.Staging.{with_staged}
use Rattle.draft_reads.proofs.Undoing.{clean_back}
use Rattle.draft_effects.proofs.Stagings.{made_here, open_here, stage_memory, staged_back, staged_now}
use Rattle.draft_effects.proofs.draft_staging.stage.Goals as goal

pub stage-requires : goal.stage-requires
stage-requires c = made_here c.args.draft.now c.args.seat c.requires.is_open

pub returns-in-Ok-clause-ok : goal.returns-in-Ok-clause-ok
returns-in-Ok-clause-ok c = rw (c.in-Ok.ensures.ok) (staged_now c.args.draft.now c.requires.clean c.args.seat c.args.shares)

pub returns-in-Ok-clause-back : goal.returns-in-Ok-clause-back
returns-in-Ok-clause-back c = rw (c.in-Ok.ensures.ok) (staged_back c.args.draft.now c.requires.clean c.valid.ensures (with_staged c.args.seat c.args.shares c.args.draft.now.staging))

pub want_of_memory-requires : goal.want_of_memory-requires
want_of_memory-requires c = stage_memory c.in-Err.fault (kept_seat_at c.args.draft.now.now.seats c.args.seat).last c.in-Err.ensures.exited (open_here c.args.draft.now c.args.seat c.requires.is_open)

pub returns-in-Err-clause-back : goal.returns-in-Err-clause-back
returns-in-Err-clause-back c = rw (c.in-Err.ensures.err) (clean_back c.args.draft.now c.args.draft.now refl c.valid.ensures c.requires.clean)
