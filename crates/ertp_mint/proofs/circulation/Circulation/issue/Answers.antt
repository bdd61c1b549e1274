use Rattle.std.proofs.Common.{◌∙◌, arith, refl}
use Rattle.ertp_mint.specs.Circulating.{CirculationView, with_issued_back}
use Rattle.ertp_mint.proofs.Circulated.{circulates_issued, issued_is_out, may_issue, view_of}
use Rattle.ertp_mint.proofs.circulation.Circulation.issue.Goals as goal

pub issue-requires : goal.issue-requires
issue-requires c =
    let may = rw (← c.self.view_is) at c.in_ok-can_issue.ensures.ok refl in
    may_issue c.args.value.now.kind c.self.inside.keys c.args.value.now.content may.fits

pub overflow_add-self : goal.overflow_add-self
overflow_add-self c =
    let may = rw (← c.self.view_is) at c.in_ok-can_issue.ensures.ok refl in
    omega (arith, may.minted, c.total.ensures.total)

pub invariant_of-self-2 : goal.invariant_of-self-2
invariant_of-self-2 c =
    let s : CirculationView = view_of c.self.inside.kind c.self.inside.keys c.self.inside.minted c.self.inside.burned in
    let may = rw (← c.self.view_is) at c.in_ok-can_issue.ensures.ok refl in
    let kinds = rw (← c.self.view_is) at c.requires in
    rw (c.in-Ok.ensures.ok, c.total.ensures.total) (circulates_issued s c.args.value.now c.self.invariant kinds may)

pub returns-clause-out : goal.returns-clause-out
returns-clause-out c =
    let s : CirculationView = view_of c.self.inside.kind c.self.inside.keys c.self.inside.minted c.self.inside.burned in
    let kinds = rw (← c.self.view_is) at c.requires in
    rw (c.in-Ok.ensures.ok, c.total.ensures.total) (issued_is_out s c.args.value.now kinds)

pub returns-clause-undone : goal.returns-clause-undone
returns-clause-undone c =
    let s : CirculationView = view_of c.self.inside.kind c.self.inside.keys c.self.inside.minted c.self.inside.burned in
    rw (c.in-Ok.ensures.ok, c.total.ensures.total) (with_issued_back s c.args.value.now.content) ∙ c.self.view_is
