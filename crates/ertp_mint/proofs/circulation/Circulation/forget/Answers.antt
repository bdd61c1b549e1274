use Rattle.ertp_mint.specs.Circulating.{CirculationView}
use Rattle.ertp_mint.proofs.Circulated.{circulates_forgotten, may_forget, view_of}
use Rattle.ertp_mint.proofs.circulation.Circulation.forget.Goals as goal

pub change-requires-clause-allowed : goal.change-requires-clause-allowed
change-requires-clause-allowed c = let kept = rw (← c.self.view_is) at c.requires in may_forget c.self.inside.keys c.args.value.now.content kept

pub invariant_of-self : goal.invariant_of-self
invariant_of-self c =
    let s : CirculationView = view_of c.self.inside.kind c.self.inside.keys c.self.inside.minted c.self.inside.burned in
    let kept = rw (← c.self.view_is) at c.requires in
    rw c.change.ensures (circulates_forgotten s c.args.value.now.content c.self.invariant kept)
