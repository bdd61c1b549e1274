use Rattle.std.proofs.Common.{arith, refl}
use Rattle.escrow.proofs.RowReads.{totals_told}
use Rattle.escrow.proofs.Escrow.tell.Goals as goal

pub returns-clause-ok : goal.returns-clause-ok
returns-clause-ok c =
    let m = c.args.movement.now in
    rw (← c.self.view_is) (record {
      totals = totals_told c.self.inside.totals.entries c.shift_totals.new.rows.entries m (rw (← c.total-count.ensures.total) c.shift_totals.ensures.here) c.shift_totals.ensures.others;
      shares = λ i b. rw (← c.as_slice-instances.ensures.value, ← c.total-count.ensures.total) (omega (arith, c.lower_share.ensures.share i b, c.raise_share.ensures.share i b));
      instances = refl;
    })
