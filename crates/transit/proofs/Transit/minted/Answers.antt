use Rattle.std.proofs.Common.{◌∙◌, ap, sym}
use Rattle.ertp_mint.specs.Circulating.{CirculationView}
use Rattle.transit.proofs.Calls.{made, reads}
use Rattle.transit.proofs.Transit.minted.Goals as goal

pub minted-requires : goal.minted-requires
minted-requires c = let there = rw (← c.self.view_is) at c.requires in made c.self.inside.out c.self.inside.hand.items c.self.invariant c.args.brand there

pub returns-clause-minted : goal.returns-clause-minted
returns-clause-minted c =
    let there = rw (← c.self.view_is) at c.requires in
    rw (← c.self.view_is) (c.minted.ensures.minted ∙ sym (ap (λ (y : CirculationView). y.supply.minted) (reads c.self.inside.out c.self.inside.hand.items c.self.invariant c.args.brand there)))
