use Rattle.std.specs.Prelude.{◌==◌}
use Rattle.std.proofs.Common.{sym, ap, ◌∙◌}
use Rattle.world_reads.specs.host_world.Worlds.{world_of}
use Rattle.delivery_tasks.proofs.Chains.{end_is, next_lower, next_made, next_same}
use Rattle.delivery_tasks.proofs.settling.leads_back.Goals as goal

pub loop-next-smaller : goal.loop-next-smaller
loop-next-smaller c = next_lower (world_of c.args.world.now).promises c.loop-next.at c.in-Some.next c.requires.good.following (sym c.leader_of.ensures ∙ c.in-Some.is)

pub loop-next-preserved : goal.loop-next-preserved
loop-next-preserved c =
    let b = (world_of c.args.world.now).promises in
    let led = sym c.leader_of.ensures ∙ c.in-Some.is in
    (sym (next_same b c.loop-next.at c.in-Some.next c.requires.good.following led) ∙ c.loop-next.invariant.0, next_made b c.loop-next.at c.in-Some.next c.requires.good.following led)

pub returns : goal.returns
returns c =
    end_is (world_of c.args.world.now).promises c.loop-next.at c.args.promise c.requires.good.following c.requires.pending (sym c.leader_of.ensures ∙ c.in_default.is)
    ∙ ap (λ n. n == c.args.promise) c.loop-next.invariant.0
