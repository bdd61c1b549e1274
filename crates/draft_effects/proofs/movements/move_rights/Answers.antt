use Rattle.std.proofs.lemmas.Result.{on_ok_weaker}
use Rattle.draft_reads.specs.world_laws.Views.{taken_by_hand}
use Rattle.draft_effects.specs.Steps.{moved_amount}
use Rattle.draft_effects.proofs.EmptySlots.{both_halves}
use Rattle.draft_effects.proofs.movements.move_rights.Goals as goal

pub returns-clause-ok : goal.returns-clause-ok
returns-clause-ok c = on_ok_weaker c.put.result (λ put. both_halves c.args.draft.now c.take.new.draft c.put.new.draft (taken_by_hand c.args.draft.now.now c.args.movement.now) (moved_amount c.args.movement.now) c.in_ok-parcel.parcel c.args.movement.now.to (rw (c.count_anew.ensures) at c.in_ok-parcel.ensures.ok) c.in_ok-parcel.ensures.parcel put) c.put.ensures.ok
