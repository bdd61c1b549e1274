use Rattle.std.proofs.Common.{refl, subst}
use Rattle.draft_reads.specs.vault_model.Lists.{with_new_seat}
use Rattle.draft_reads.specs.seats.Store.{AreOpen}
use Rattle.draft_reads.proofs.Undoing.{clean_back}
use Rattle.draft_effects.proofs.Openings.{not_too_many, opened_back, seat_memory, seat_now}
use Rattle.draft_effects.proofs.draft_openings.open_seat.Goals as goal

pub want_of_memory-requires : goal.want_of_memory-requires
want_of_memory-requires c = seat_memory c.args.draft.now c.args.proposal c.in-Err.fault (not_too_many c.args.draft.now c.requires.clean c.valid.ensures c.args.proposal c.requires.seats c.requires.room) c.in-Err.ensures.limit

pub returns-in-Ok-clause-ok : goal.returns-in-Ok-clause-ok
returns-in-Ok-clause-ok c = rw (c.in-Ok.ensures.ok) (seat_now c.args.draft.now c.requires.clean c.seats.result.now.seats c.seats.ensures.seats (subst (AreOpen c.seats.result.now.seats) c.seats.ensures.staging c.staged_are_open.ensures) c.args.instance c.args.proposal)

pub returns-in-Ok-clause-back : goal.returns-in-Ok-clause-back
returns-in-Ok-clause-back c = rw (c.in-Ok.ensures.ok) (opened_back c.args.draft.now c.requires.clean c.valid.ensures (with_new_seat c.args.draft.now.now c.args.instance c.args.proposal))

pub returns-in-Err-clause-back : goal.returns-in-Err-clause-back
returns-in-Err-clause-back c = rw (c.in-Err.ensures.err) (clean_back c.args.draft.now c.args.draft.now refl c.valid.ensures c.requires.clean)
