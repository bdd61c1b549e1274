use Rattle.told_causes.proofs.Halted.{halted_told, halting_more}
use Rattle.told_causes.proofs.standings.Standings.halt.Goals as goal

pub loop-seat-preserved : goal.loop-seat-preserved
loop-seat-preserved c = halting_more c.args.self.now c.loop-seat.self c.unlist.new.self c.put.new.self c.args.instance c.in-Some.seat _ c.loop-seat.invariant c.in-Some.ensures.some c.unlist.ensures.off c.in_ok-put.ensures

pub returns : goal.returns
returns c = λ i call shown told. halted_told c.args.self.now c.loop-seat.self i c.args.instance c.args.cause call shown told c.loop-seat.invariant c.in_default.ensures.none
