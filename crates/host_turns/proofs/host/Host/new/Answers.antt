use Rattle.host_turns.proofs.Lines.{first_kept}
use Rattle.host_turns.proofs.host.Host.new.Goals as goal

pub invariant_of-result : goal.invariant_of-result
invariant_of-result g c = first_kept _ _ c.requires c.in_ok-world.ensures.world c.in_ok-world.ensures.between c.in_ok-world.ensures.sums
