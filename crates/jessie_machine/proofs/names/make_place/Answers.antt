use Rattle.std.proofs.Common.{◌∙◌}
use Rattle.jessie_machine.proofs.Places.{one_place_more}
use Rattle.jessie_machine.proofs.names.make_place.Goals as goal

pub fill-preserved : goal.fill-preserved
fill-preserved c = λ names values. one_place_more names values c.fill.changed.items c.push.new.self.items c.in_ok-push.ensures.items ∙ c.fill.invariant names values
