use Rattle.vault.proofs.Steps.{can_let_go, let_after, let_keeps}
use Rattle.vault.proofs.draft.Draft.let_go.Goals as goal

pub let_go-requires : goal.let_go-requires
let_go-requires c = can_let_go c.self.inside.stores c.self.inside.steps.items c.self.inside.movements.items c.self.inside.keys c.self.inside.is_spoiled c.args.brand c.args.value c.self.invariant (rw (← c.self.view_is) at c.requires)

pub invariant_of-self : goal.invariant_of-self
invariant_of-self c = let_keeps c.self.inside.stores c.self.inside.steps.items c.self.inside.movements.items c.self.inside.keys c.self.inside.is_spoiled c.args.brand c.args.value c.self.invariant (rw (← c.self.view_is) at c.requires) c.let_go.new.self c.let_go.ensures.less c.let_go.ensures.made

pub returns-clause-less : goal.returns-clause-less
returns-clause-less c = rw (← c.self.view_is) (let_after c.self.inside.stores c.self.inside.steps.items c.self.inside.movements.items c.self.inside.keys c.self.inside.is_spoiled c.args.brand c.args.value c.self.invariant (rw (← c.self.view_is) at c.requires) c.let_go.new.self c.let_go.ensures.less c.let_go.ensures.made)
