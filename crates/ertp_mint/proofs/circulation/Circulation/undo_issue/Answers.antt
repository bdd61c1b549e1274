use Rattle.std.proofs.Common.{arith}
use Rattle.ertp_mint.specs.Circulating.{CirculationView}
use Rattle.ertp_mint.proofs.Circulated.{circulates_unissued, may_undo_issue, unissued_is_minted, view_of}
use Rattle.ertp_mint.proofs.circulation.Circulation.undo_issue.Goals as goal

pub change-requires-clause-allowed : goal.change-requires-clause-allowed
change-requires-clause-allowed c = let out = rw (← c.self.view_is) at c.requires in may_undo_issue c.self.inside.keys c.args.value.now.content out.has

pub overflow_sub-self : goal.overflow_sub-self
overflow_sub-self c =
    let s : CirculationView = view_of c.self.inside.kind c.self.inside.keys c.self.inside.minted c.self.inside.burned in
    let out = rw (← c.self.view_is) at c.requires in
    omega (arith, c.total.ensures.total, unissued_is_minted s c.args.value.now.content c.self.invariant out.has)

pub invariant_of-self : goal.invariant_of-self
invariant_of-self c =
    let s : CirculationView = view_of c.self.inside.kind c.self.inside.keys c.self.inside.minted c.self.inside.burned in
    let out = rw (← c.self.view_is) at c.requires in
    rw (c.change.ensures, c.total.ensures.total) (circulates_unissued s c.args.value.now.content c.self.invariant out.has)
