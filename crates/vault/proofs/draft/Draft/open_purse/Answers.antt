use Rattle.vault.proofs.OpenedDrafts.{opened_keeps}
use Rattle.vault.proofs.draft.Draft.open_purse.Goals as goal

pub invariant_of-self-in-Ok : goal.invariant_of-self-in-Ok
invariant_of-self-in-Ok c =
    rw (c.push_reserved.ensures.items, c.reserve.ensures.items)
    (opened_keeps c.self.inside.stores c.self.inside.steps.items c.self.inside.movements.items c.self.inside.keys c.self.inside.is_spoiled c.args.brand c.args.kind c.self.invariant c.open.new.self c.in-Ok.ensures.ok)
