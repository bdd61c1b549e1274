use Rattle.transit.proofs.Calls.{made, retire_back, retire_keeps, retire_view, way_out}
use Rattle.transit.proofs.Transit.retire.Goals as goal

pub retire-requires-clause-made : goal.retire-requires-clause-made
retire-requires-clause-made c =
    let way = rw (← c.self.view_is) at c.requires in
    made c.self.inside.out c.self.inside.hand.items c.self.invariant c.args.parcel.brand way.made

pub retire-requires-clause-out : goal.retire-requires-clause-out
retire-requires-clause-out c =
    let way = rw (← c.self.view_is) at c.requires in
    way_out c.self.inside.out c.self.inside.hand.items c.self.invariant c.args.parcel.brand way.made c.args.parcel.value way

pub invariant_of-self : goal.invariant_of-self
invariant_of-self c =
    let way = rw (← c.self.view_is) at c.requires in
    retire_keeps c.self.inside.out c.self.inside.hand.items c.self.invariant c.args.parcel.brand way.made c.args.parcel.value way _ c.retire.ensures.retired

pub returns-clause-retired : goal.returns-clause-retired
returns-clause-retired c =
    let way = rw (← c.self.view_is) at c.requires in
    rw (← c.self.view_is) (retire_view c.self.inside.out c.self.inside.hand.items c.self.invariant c.args.parcel.brand way.made c.args.parcel.value way _ c.retire.ensures.retired)

pub returns-clause-back : goal.returns-clause-back
returns-clause-back c =
    let way = rw (← c.self.view_is) at c.requires in
    retire_back c.self.inside.out c.self.inside.hand.items c.self.invariant c.args.parcel.brand way.made c.args.parcel.value way _ c.retire.ensures.retired
