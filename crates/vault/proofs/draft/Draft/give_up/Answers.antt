use Rattle.vault.proofs.Steps.{can_hold, up_after, up_keeps}
use Rattle.vault.proofs.draft.Draft.give_up.Goals as goal

pub hold-requires : goal.hold-requires
hold-requires c = can_hold c.self.inside.stores c.self.inside.steps.items c.self.inside.movements.items c.self.inside.keys c.self.inside.is_spoiled c.args.parcel c.self.invariant (rw (← c.self.view_is) at c.requires)

pub invariant_of-self : goal.invariant_of-self
invariant_of-self c = up_keeps c.self.inside.stores c.self.inside.steps.items c.self.inside.movements.items c.self.inside.keys c.self.inside.is_spoiled c.args.parcel c.self.invariant (rw (← c.self.view_is) at c.requires) c.hold.new.self c.hold.ensures.held c.hold.ensures.made

pub returns : goal.returns
returns c = rw (← c.self.view_is) (up_after c.self.inside.stores c.self.inside.steps.items c.self.inside.movements.items c.self.inside.keys c.self.inside.is_spoiled c.args.parcel c.self.invariant (rw (← c.self.view_is) at c.requires) c.hold.new.self c.hold.ensures.held c.hold.ensures.made)
