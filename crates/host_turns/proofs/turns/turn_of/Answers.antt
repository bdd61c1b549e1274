use Rattle.std.proofs.Common.{refl}
use Rattle.host_turns.proofs.TurnEnds.{as_before}
use Rattle.host_turns.proofs.WholeTurns.{turned}
use Rattle.host_turns.proofs.TurnStarts.{delivered_is, ready, still_tells, turn_is_of}
use Rattle.host_turns.proofs.turns.turn_of.Goals as goal

pub deliver-world-requires : goal.deliver-world-requires
deliver-world-requires g c =
    let w = c.begin-world.result in
    let is = ready c.args.meter c.args.turns c.args.kept c.requires.kept c.requires.waits w c.begin-world.ensures.now c.begin-world.ensures.start c.begin-world.ensures.clean c.valid.ensures c.begin-world.ensures.sums in
    is.begun

pub end_turn-requires : goal.end_turn-requires
end_turn-requires g c =
    let w = c.begin-world.result in
    let m = c.deliver-world.result.0 in
    let begun = ready c.args.meter c.args.turns c.args.kept c.requires.kept c.requires.waits w c.begin-world.ensures.now c.begin-world.ensures.start c.begin-world.ensures.clean c.valid.ensures c.begin-world.ensures.sums in
    let done = delivered_is c.args.meter w m c.deliver-world.result.1 c.in-Some.delivered c.in-Some.is c.deliver-world.ensures.done in
    let turn = done.effects.turn in
    record { clean = turn.clean; goes = turn.goes; waits = turn.waits; told = turn_is_of c.args.meter w m begun c.in-Some.delivered done c.deliver-world.ensures.back _ refl }

pub returns-in-Some : goal.returns-in-Some
returns-in-Some g c =
    let w = c.begin-world.result in
    let m = c.deliver-world.result.0 in
    let begun = ready c.args.meter c.args.turns c.args.kept c.requires.kept c.requires.waits w c.begin-world.ensures.now c.begin-world.ensures.start c.begin-world.ensures.clean c.valid.ensures c.begin-world.ensures.sums in
    let done = delivered_is c.args.meter w m c.deliver-world.result.1 c.in-Some.delivered c.in-Some.is c.deliver-world.ensures.done in
    turned c.args.meter c.args.turns c.args.kept c.requires.kept c.requires.waits w c.begin-world.ensures.now c.begin-world.ensures.start begun m c.in-Some.delivered done c.deliver-world.ensures.back
    c.end_turn.result.0 c.end_turn.result.1 c.end_turn.ensures

pub returns-in-None : goal.returns-in-None
returns-in-None g c =
    let w = c.begin-world.result in
    let m = c.deliver-world.result.0 in
    let begun = ready c.args.meter c.args.turns c.args.kept c.requires.kept c.requires.waits w c.begin-world.ensures.now c.begin-world.ensures.start c.begin-world.ensures.clean c.valid.ensures c.begin-world.ensures.sums in
    let back = c.deliver-world.ensures.back in
    as_before c.args.meter c.args.turns c.args.kept c.requires.kept w c.begin-world.ensures.now c.begin-world.ensures.start m back.rights.kept back.registers (still_tells w m begun back.sums)
    c.undo.result c.undo.ensures.world c.undo.ensures.between c.undo.ensures.sums
