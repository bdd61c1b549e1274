use Rattle.transit.proofs.Calls.{made, unissue_keeps, unissue_view, way_out}
use Rattle.transit.proofs.Transit.undo_issue.Goals as goal

pub undo_issue-requires-clause-made : goal.undo_issue-requires-clause-made
undo_issue-requires-clause-made c =
    let way = rw (← c.self.view_is) at c.requires in
    made c.self.inside.out c.self.inside.hand.items c.self.invariant c.args.parcel.brand way.made

pub undo_issue-requires-clause-out : goal.undo_issue-requires-clause-out
undo_issue-requires-clause-out c =
    let way = rw (← c.self.view_is) at c.requires in
    way_out c.self.inside.out c.self.inside.hand.items c.self.invariant c.args.parcel.brand way.made c.args.parcel.value way

pub invariant_of-self : goal.invariant_of-self
invariant_of-self c =
    let way = rw (← c.self.view_is) at c.requires in
    unissue_keeps c.self.inside.out c.self.inside.hand.items c.self.invariant c.args.parcel.brand way.made c.args.parcel.value way _ c.undo_issue.ensures

pub returns : goal.returns
returns c =
    let way = rw (← c.self.view_is) at c.requires in
    rw (← c.self.view_is) (unissue_view c.self.inside.out c.self.inside.hand.items c.self.invariant c.args.parcel.brand way.made c.args.parcel.value way _ c.undo_issue.ensures)
