use Rattle.std.proofs.Common.{subst}
use Rattle.std.specs.Prelude.{IsTrue}
use Rattle.vault_model.specs.amount_math.Content.{Contains}
use Rattle.vault.proofs.Slots.{held_content, held_kind, slot_is_there}
use Rattle.vault.proofs.stores.Stores.has.Goals as goal

pub holding-requires-clause-there : goal.holding-requires-clause-there
holding-requires-clause-there c = slot_is_there c.args.self.now _ _ (rw c.in-Slot.is at c.requires).slot

pub is_gte-requires-in-Slot : goal.is_gte-requires-in-Slot
is_gte-requires-in-Slot c = held_kind c.args.self.now c.in-Slot.seat c.in-Slot.keyword c.holding.result.now c.holding.ensures.holding c.args.part.now (rw c.in-Slot.is at c.requires).kind

pub returns-in-Slot : goal.returns-in-Slot
returns-in-Slot c = rw c.in-Slot.is (subst (λ x. (IsTrue c.is_gte-in-Slot.result → Contains x c.args.part.now.content) × (Contains x c.args.part.now.content → IsTrue c.is_gte-in-Slot.result)) (held_content c.args.self.now c.in-Slot.seat c.in-Slot.keyword c.holding.result.now c.holding.ensures.holding) c.is_gte-in-Slot.ensures)
