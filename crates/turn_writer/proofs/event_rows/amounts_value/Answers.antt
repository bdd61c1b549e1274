use Rattle.std.proofs.Common.{sym, ◌∙◌, arith}
use Rattle.turn_writer.proofs.Puts.{amounts_more}
use Rattle.turn_writer.proofs.event_rows.amounts_value.Goals as goal

pub loop-left-preserved : goal.loop-left-preserved
loop-left-preserved c = record {
  within = omega arith;
  put =
      c.in_ok-put.ensures.ok
      ∙ rw (c.as_str.ensures.text, c.in_ok-amount.ensures, c.loop-left.invariant.put) (sym (amounts_more c.args.shares.now c.loop-left.left c.index-shares-left.result (omega arith) c.loop-left.invariant.within c.index-shares-left.is));
}
