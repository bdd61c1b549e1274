use Rattle.std.proofs.Common.{sym, subst}
use Rattle.escrow.specs.rights_model.declared.Movement.{Movement}
use Rattle.escrow.specs.rights_model.Table.{CanMove, moved}
use Rattle.escrow.specs.Sums.{AreSums}
use Rattle.store_tests.proofs.HoldingLaws.{holds_moved, minted_within}
use Rattle.store_tests.proofs.escrow_tests.tell.Goals as goal

pub moved-requires-clause-defined : goal.moved-requires-clause-defined
moved-requires-clause-defined g c = let can = c.requires.can in rw c.movement-movement.ensures (can.table, can.sums, can.defined)

pub moved-requires-clause-minted : goal.moved-requires-clause-minted
moved-requires-clause-minted g c = rw c.movement-movement.ensures (minted_within c.args.escrow.now c.args.from c.args.to c.args.number c.check_few.ensures c.requires.small)

pub returns-clause-holds : goal.returns-clause-holds
returns-clause-holds g c =
    let can = c.requires.can in
    let is = c.movement-movement.ensures in
    let sums = c.in-Ok.ensures.sums can.table can.sums (subst (λ (m : Movement). CanMove can.table m) (sym is) can.defined) in
    holds_moved c.moved.new.self c.args.from c.args.to c.args.number can.table c.requires.inside (subst (λ (m : Movement). AreSums (moved can.table m) c.moved.new.self) is sums)
