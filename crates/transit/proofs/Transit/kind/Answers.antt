use Rattle.transit.proofs.Calls.{made}
use Rattle.transit.proofs.ReadOff.{adds_up_read, fits_read, kind_read}
use Rattle.transit.proofs.Transit.kind.Goals as goal

pub kind-requires : goal.kind-requires
kind-requires c = let there = rw (← c.self.view_is) at c.requires in made c.self.inside.out c.self.inside.hand.items c.self.invariant c.args.brand there

pub returns-clause-kind : goal.returns-clause-kind
returns-clause-kind c =
    let there = rw (← c.self.view_is) at c.requires in
    rw (← c.self.view_is) (kind_read c.self.inside.out c.self.inside.hand.items c.self.invariant c.args.brand there c.kind.result c.kind.ensures.kind)

pub returns-clause-fits : goal.returns-clause-fits
returns-clause-fits c =
    let there = rw (← c.self.view_is) at c.requires in
    rw (← c.self.view_is) (fits_read c.self.inside.out c.self.inside.hand.items c.self.invariant c.args.brand there)

pub returns-clause-adds_up : goal.returns-clause-adds_up
returns-clause-adds_up c =
    let there = rw (← c.self.view_is) at c.requires in
    rw (← c.self.view_is) (adds_up_read c.self.inside.out c.self.inside.hand.items c.self.invariant c.args.brand there c.kind.ensures.circulates.adds_up)
