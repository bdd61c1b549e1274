use Rattle.std.proofs.Common.{◌∙◌, arith}
use Rattle.ertp_mint.specs.Circulating.{CirculationView, with_retired_back}
use Rattle.ertp_mint.proofs.Circulated.{circulates_retired, may_retire, retired_can_return, retired_is_small, view_of}
use Rattle.ertp_mint.proofs.circulation.Circulation.retire.Goals as goal

pub change-requires-clause-allowed : goal.change-requires-clause-allowed
change-requires-clause-allowed c =
    let s : CirculationView = view_of c.self.inside.kind c.self.inside.keys c.self.inside.minted c.self.inside.burned in
    let out = rw (← c.self.view_is) at c.requires in
    may_retire c.self.inside.keys c.args.value.now.content out.has (omega (arith, retired_is_small s c.args.value.now.content c.self.invariant out.has, c.self.invariant.kept, c.self.ranges.1.1.0.1))

pub overflow_add-self : goal.overflow_add-self
overflow_add-self c =
    let s : CirculationView = view_of c.self.inside.kind c.self.inside.keys c.self.inside.minted c.self.inside.burned in
    let out = rw (← c.self.view_is) at c.requires in
    omega (arith, c.total.ensures.total, retired_is_small s c.args.value.now.content c.self.invariant out.has, c.self.ranges.1.1.0.1)

pub invariant_of-self : goal.invariant_of-self
invariant_of-self c =
    let s : CirculationView = view_of c.self.inside.kind c.self.inside.keys c.self.inside.minted c.self.inside.burned in
    let out = rw (← c.self.view_is) at c.requires in
    rw (c.change.ensures, c.total.ensures.total) (circulates_retired s c.args.value.now.content c.self.invariant out.has)

pub returns-clause-back : goal.returns-clause-back
returns-clause-back c =
    let s : CirculationView = view_of c.self.inside.kind c.self.inside.keys c.self.inside.minted c.self.inside.burned in
    let out = rw (← c.self.view_is) at c.requires in
    rw (c.change.ensures, c.total.ensures.total) (retired_can_return s c.args.value.now c.self.invariant out)

pub returns-clause-undone : goal.returns-clause-undone
returns-clause-undone c =
    let s : CirculationView = view_of c.self.inside.kind c.self.inside.keys c.self.inside.minted c.self.inside.burned in
    let out = rw (← c.self.view_is) at c.requires in
    rw (c.change.ensures, c.total.ensures.total) (with_retired_back s c.args.value.now.content out.has) ∙ c.self.view_is
