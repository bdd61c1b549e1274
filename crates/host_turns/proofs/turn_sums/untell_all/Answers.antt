use Rattle.std.proofs.Common.{◌≡◌, ◌-◌, ◌<◌, length, suc, arith}
use Rattle.host_turns.proofs.ToldEvents.{none_told, told_back}
use Rattle.host_turns.proofs.turn_sums.untell_all.Goals as goal

pub untell-requires : goal.untell-requires
untell-requires c =
    let (before, were) = c.requires in
    let next : c.loop-left.left ≡ suc (c.loop-left.left - 1) = omega arith in
    let within : c.loop-left.left - 1 < length c.args.events.now = omega arith in
    let back = told_back c.args.events.now (c.loop-left.left - 1) c.index-events-left.result within c.index-events-left.is c.loop-left.left next before c.loop-left.sums (c.loop-left.invariant.1 before were) in
    (back.0, back.2)

pub loop-left-preserved : goal.loop-left-preserved
loop-left-preserved c =
    let next : c.loop-left.left ≡ suc (c.loop-left.left - 1) = omega arith in
    let within : c.loop-left.left - 1 < length c.args.events.now = omega arith in (
      omega arith,
      λ before were.
          let back = told_back c.args.events.now (c.loop-left.left - 1) c.index-events-left.result within c.index-events-left.is c.loop-left.left next before c.loop-left.sums (c.loop-left.invariant.1 before were) in
          record { mid = back.0; steps = back.1; roomed = c.untell.ensures back.0 back.2 },
    )

pub returns : goal.returns
returns c = λ before were.
    let none : c.loop-left.left ≡ 0 = omega arith in
    none_told c.args.events.now c.loop-left.left before c.loop-left.sums none (c.loop-left.invariant.1 before were)
