use Rattle.std.proofs.Common.{sym, ◌∙◌, ap}
use Rattle.vault_model.specs.amount_math.declared.Amount.{Amount}
use Rattle.vault.proofs.Slots.{slot_is, slot_is_there}
use Rattle.vault.proofs.stores.Stores.brand.Goals as goal

pub brand-requires-in-Slot-clause-there : goal.brand-requires-in-Slot-clause-there
brand-requires-in-Slot-clause-there c = slot_is_there c.args.self.now _ _ (rw c.in-Slot.is at c.requires.1).slot

pub returns-in-Slot : goal.returns-in-Slot
returns-in-Slot c = rw c.in-Slot.is (c.brand-in-Slot.ensures ∙ ap (λ (a : Amount). a.brand) (sym (slot_is c.args.self.now c.in-Slot.seat c.in-Slot.keyword)))
