use Rattle.std.proofs.Common.{drop-cons, refl, subst, sym, arith}
use Rattle.draft_reads.proofs.Undoing.{clean_goes}
use Rattle.draft_effects.specs.Steps.{CanMoveByHand, CanMoveEach}
use Rattle.draft_effects.proofs.movements.move_each.Goals as goal

pub loop-movement-init : goal.loop-movement-init
loop-movement-init c = record {
  can = c.requires.can;
  done = refl;
  kept = refl;
  staging = refl;
  clean = c.requires.clean;
  goes = clean_goes c.args.draft.now c.valid.ensures c.requires.clean;
}

pub move_rights-requires-clause-can : goal.move_rights-requires-clause-can
move_rights-requires-clause-can c =
    let d = c.loop-movement.draft in
    let left = subst (CanMoveEach d.now) (drop-cons c.args.moves.now c.loop-movement.movement-index c.movement-item.result (omega arith)) c.loop-movement.invariant.can in
    subst (CanMoveByHand d.now) (sym c.movement-item.is) left.0
