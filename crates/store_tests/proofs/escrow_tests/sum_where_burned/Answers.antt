use Rattle.std.proofs.Common.{sym, subst}
use Rattle.escrow.specs.rights_model.declared.Holder.TheVariants.{Outside}
use Rattle.escrow.specs.rights_model.declared.Movement.{Movement}
use Rattle.escrow.specs.rights_model.Table.{CanMove}
use Rattle.store_tests.proofs.HoldingLaws.{minted_within}
use Rattle.store_tests.proofs.escrow_tests.sum_where_burned.Goals as goal

pub moved-requires-clause-defined : goal.moved-requires-clause-defined
moved-requires-clause-defined g c = let has = c.requires.has in rw c.movement-movement.ensures (has.table, has.sums, record { has = λ inside. has.has })

pub moved-requires-clause-minted : goal.moved-requires-clause-minted
moved-requires-clause-minted g c = rw c.movement-movement.ensures (minted_within c.args.escrow.now c.args.from Outside c.args.number c.check_few.ensures c.requires.small)

pub undo_moved-requires-clause-told : goal.undo_moved-requires-clause-told
undo_moved-requires-clause-told g c =
    let has = c.requires.has in
    let is = c.movement-movement.ensures in
    record {
      before = c.args.escrow.now;
      table = has.table;
      sums = has.sums;
      defined = subst (λ (m : Movement). CanMove has.table m) (sym is) (record { has = λ inside. has.has });
      minted = rw is (minted_within c.args.escrow.now c.args.from Outside c.args.number c.check_few.ensures c.requires.small);
      told = c.in-Ok.ensures.ok;
    }
