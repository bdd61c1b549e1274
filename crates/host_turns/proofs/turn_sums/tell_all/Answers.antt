use Rattle.std.proofs.Common.{◌≡◌, ◌+◌, ◌<◌, length, suc, arith}
use Rattle.host_turns.proofs.ToldEvents.{next_can, one_more, were_told}
use Rattle.host_turns.proofs.turn_sums.tell_all.Goals as goal

pub tell-requires : goal.tell-requires
tell-requires c =
    let within : c.loop-told.told < length c.args.events.now = omega arith in
    (next_can c.args.events.now c.loop-told.told c.index-events-told.result within c.index-events-told.is c.loop-told.sums c.loop-told.invariant.1).0

pub untell_all-requires : goal.untell_all-requires
untell_all-requires c = (c.args.sums.now, were_told c.args.events.now c.loop-told.told c.args.sums.now c.loop-told.sums c.tell.new.sums c.loop-told.invariant.0 c.in-Err.ensures.err)

pub returns-in-Err-clause-err : goal.returns-in-Err-clause-err
returns-in-Err-clause-err c = c.untell_all.ensures c.args.sums.now (were_told c.args.events.now c.loop-told.told c.args.sums.now c.loop-told.sums c.tell.new.sums c.loop-told.invariant.0 c.in-Err.ensures.err)

pub loop-told-preserved : goal.loop-told-preserved
loop-told-preserved c =
    let within : c.loop-told.told < length c.args.events.now = omega arith in
    let next : suc c.loop-told.told ≡ c.loop-told.told + 1 = omega arith in
    one_more c.args.events.now c.loop-told.told c.index-events-told.result within c.index-events-told.is (c.loop-told.told + 1) next c.args.sums.now c.loop-told.sums c.tell.new.sums c.loop-told.invariant.0 c.loop-told.invariant.1 c.in-Ok.ensures.ok
