use Rattle.std.proofs.Common.{refl}
use Rattle.draft_reads.specs.vault_model.Lists.{with_new_purse}
use Rattle.draft_reads.proofs.Undoing.{clean_back}
use Rattle.draft_effects.proofs.Openings.{opened_back, purse_now}
use Rattle.draft_effects.proofs.draft_openings.open_purse.Goals as goal

pub returns-in-Ok-clause-ok : goal.returns-in-Ok-clause-ok
returns-in-Ok-clause-ok c = rw (c.in-Ok.ensures.ok) (purse_now c.args.draft.now c.requires.clean c.args.brand c.args.kind)

pub returns-in-Ok-clause-back : goal.returns-in-Ok-clause-back
returns-in-Ok-clause-back c = rw (c.in-Ok.ensures.ok) (opened_back c.args.draft.now c.requires.clean c.valid.ensures (with_new_purse c.args.draft.now.now c.args.brand c.args.kind))

pub returns-in-Err-NoMemory-clause-back : goal.returns-in-Err-NoMemory-clause-back
returns-in-Err-NoMemory-clause-back c = rw (c.in-Err-NoMemory.ensures.err) (clean_back c.args.draft.now c.args.draft.now refl c.valid.ensures c.requires.clean)
