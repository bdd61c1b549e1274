use Rattle.draft_effects.proofs.CarriedMovements.{keeps_it, retired_so, retired_so_back, up_back}
use Rattle.draft_effects.proofs.movements.halves.retire.Goals as goal

pub retire-requires-clause-hand : goal.retire-requires-clause-hand
retire-requires-clause-hand c = keeps_it c.args.draft.now c.args.parcel c.requires.has c.requires.brand

pub give_up-requires : goal.give_up-requires
give_up-requires c = rw (c.in-Err.ensures.err, c.in-Err.ensures.back) (keeps_it c.args.draft.now c.args.parcel c.requires.has c.requires.brand)

pub returns-in-Ok-clause-ok : goal.returns-in-Ok-clause-ok
returns-in-Ok-clause-ok c = rw (c.in-Ok.ensures.ok) (retired_so c.args.draft.now c.args.parcel c.requires.has)

pub returns-in-Ok-clause-back : goal.returns-in-Ok-clause-back
returns-in-Ok-clause-back c = rw (c.in-Ok.ensures.ok) (retired_so_back c.args.draft.now c.args.parcel c.requires.has)

pub returns-in-Err-clause-back : goal.returns-in-Err-clause-back
returns-in-Err-clause-back c = rw (c.give_up.ensures, c.in-Err.ensures.err, c.in-Err.ensures.back) (up_back c.args.draft.now c.args.parcel c.requires.has c.valid.ensures.brands)
