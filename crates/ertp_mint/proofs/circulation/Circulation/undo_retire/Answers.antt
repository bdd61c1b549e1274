use Rattle.std.proofs.Common.{arith}
use Rattle.ertp_mint.specs.Circulating.{CirculationView}
use Rattle.ertp_mint.proofs.Circulated.{circulates_unretired, kept_is_burned, may_undo_retire, view_of}
use Rattle.ertp_mint.proofs.circulation.Circulation.undo_retire.Goals as goal

pub change-requires-clause-allowed : goal.change-requires-clause-allowed
change-requires-clause-allowed c = let back = rw (← c.self.view_is) at c.requires in may_undo_retire c.self.inside.kind c.self.inside.keys c.args.value.now.content back.kept back.fits

pub overflow_sub-self : goal.overflow_sub-self
overflow_sub-self c =
    let s : CirculationView = view_of c.self.inside.kind c.self.inside.keys c.self.inside.minted c.self.inside.burned in
    let back = rw (← c.self.view_is) at c.requires in
    omega (arith, c.total.ensures.total, kept_is_burned s c.args.value.now.content c.self.invariant back.kept)

pub invariant_of-self : goal.invariant_of-self
invariant_of-self c =
    let s : CirculationView = view_of c.self.inside.kind c.self.inside.keys c.self.inside.minted c.self.inside.burned in
    let back = rw (← c.self.view_is) at c.requires in
    rw (c.change.ensures, c.total.ensures.total) (circulates_unretired s c.args.value.now.content c.self.invariant back.kept back.fits)
