use Rattle.draft_effects.proofs.CarriedMovements.{keeps_it, put_so, put_so_back, reach_memory, up_back}
use Rattle.draft_effects.proofs.movements.halves.put_to_holder.Goals as goal

pub put-requires-clause-hand : goal.put-requires-clause-hand
put-requires-clause-hand c = keeps_it c.args.draft.now c.args.parcel c.requires.has c.requires.brand

pub give_up-requires : goal.give_up-requires
give_up-requires c = rw (c.in-Err.ensures.err, c.in-Err.ensures.back) (keeps_it c.args.draft.now c.args.parcel c.requires.has c.requires.brand)

pub want_of_memory-requires : goal.want_of_memory-requires
want_of_memory-requires c = reach_memory c.args.draft.now.now c.args.to.now c.args.parcel c.in-Err.fault c.requires.reach c.in-Err.ensures.refused

pub returns-in-Ok-clause-ok : goal.returns-in-Ok-clause-ok
returns-in-Ok-clause-ok c = rw (c.in-Ok.ensures.ok) (put_so c.args.draft.now c.args.parcel c.requires.has c.args.to.now c.requires.reach)

pub returns-in-Ok-clause-back : goal.returns-in-Ok-clause-back
returns-in-Ok-clause-back c = rw (c.in-Ok.ensures.ok) (put_so_back c.args.draft.now c.args.parcel c.requires.has c.args.to.now c.requires.reach)

pub returns-in-Err-clause-back : goal.returns-in-Err-clause-back
returns-in-Err-clause-back c = rw (c.give_up.ensures, c.in-Err.ensures.err, c.in-Err.ensures.back) (up_back c.args.draft.now c.args.parcel c.requires.has c.valid.ensures.brands)
