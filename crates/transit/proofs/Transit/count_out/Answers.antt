use Rattle.std.proofs.Common.{◌∙◌}
use Rattle.transit.proofs.Calls.{made, out_counted}
use Rattle.transit.proofs.Transit.count_out.Goals as goal

pub count_out-requires : goal.count_out-requires
count_out-requires c = let there = rw (← c.self.view_is) at c.requires.made in made c.self.inside.out c.self.inside.hand.items c.self.invariant c.args.brand there

pub returns : goal.returns
returns c =
    let there = rw (← c.self.view_is) at c.requires.made in
    rw (← c.self.view_is) (c.count_out.ensures ∙ out_counted c.self.inside.out c.self.inside.hand.items c.self.invariant c.args.brand there (rw (← c.self.view_is) at c.requires.empty) c.args.key.now)
