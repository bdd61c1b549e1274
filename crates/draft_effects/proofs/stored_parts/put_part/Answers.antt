use Rattle.draft_effects.proofs.HandParcels.{back_free, is_stored, keeps_free, memory_alone, put_out}
use Rattle.draft_effects.proofs.stored_parts.put_part.Goals as goal

pub let_go-parcel-requires : goal.let_go-parcel-requires
let_go-parcel-requires c = is_stored c.args.draft.now c.args.brand c.args.part c.requires.stores c.requires.brand c.requires.has c.valid.ensures

pub put-requires-clause-hand : goal.put-requires-clause-hand
put-requires-clause-hand c = rw (c.let_go-parcel.ensures.less, c.let_go-parcel.ensures.parcel) (keeps_free c.args.draft.now c.args.brand c.args.part c.requires.stores c.requires.brand c.requires.has c.valid.ensures)

pub give_up-requires : goal.give_up-requires
give_up-requires c = rw (c.in-Err.ensures.err, c.in-Err.ensures.back, c.let_go-parcel.ensures.less, c.let_go-parcel.ensures.parcel) (keeps_free c.args.draft.now c.args.brand c.args.part c.requires.stores c.requires.brand c.requires.has c.valid.ensures)

pub unreachable-requires : goal.unreachable-requires
unreachable-requires c = c.in_default.not-NoMemory (memory_alone c.args.draft.now c.args.brand c.args.part c.requires.stores c.requires.brand c.requires.has c.valid.ensures c.args.to.now _ c.requires.reach (rw (c.let_go-parcel.ensures.less, c.let_go-parcel.ensures.parcel) at c.in-Err.ensures.refused))

pub returns-in-Ok-clause-ok : goal.returns-in-Ok-clause-ok
returns-in-Ok-clause-ok c = rw (c.in-Ok.ensures.ok, c.let_go-parcel.ensures.less, c.let_go-parcel.ensures.parcel) (put_out c.args.draft.now c.args.brand c.args.part c.requires.stores c.requires.brand c.requires.has c.valid.ensures c.args.to.now c.requires.reach)

pub returns-in-NoMemory-clause-back : goal.returns-in-NoMemory-clause-back
returns-in-NoMemory-clause-back c = rw (c.give_up.ensures, c.in-Err.ensures.err, c.in-Err.ensures.back, c.let_go-parcel.ensures.less, c.let_go-parcel.ensures.parcel) (back_free c.args.draft.now c.args.brand c.args.part c.requires.stores c.requires.brand c.requires.has c.valid.ensures)
