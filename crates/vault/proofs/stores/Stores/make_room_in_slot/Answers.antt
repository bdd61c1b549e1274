use Rattle.std.proofs.Common.{refl}
use Rattle.vault.proofs.Slots.{held_kind, held_refused, held_value, slot_is_there, slot_kind, slot_roomed}
use Rattle.vault.proofs.stores.Stores.make_room_in_slot.Goals as goal

pub holding-requires-clause-there : goal.holding-requires-clause-there
holding-requires-clause-there c = slot_is_there c.args.self.now _ _ c.requires.slot

pub can_absorb-requires : goal.can_absorb-requires
can_absorb-requires c = held_kind c.args.self.now c.args.seat c.args.keyword.now c.holding.result.now c.holding.ensures.holding c.args.value.now c.requires.kind

pub returns-in-Err-clause-refused : goal.returns-in-Err-clause-refused
returns-in-Err-clause-refused c = held_refused c.args.self.now c.args.seat c.args.keyword.now c.holding.result.now c.holding.ensures.holding c.args.value.now _ c.requires.kind c.in-Err.ensures.refused

pub make_room_for-requires-clause-there : goal.make_room_for-requires-clause-there
make_room_for-requires-clause-there c = slot_is_there c.args.self.now _ _ c.requires.slot

pub make_room_for-requires-clause-kind : goal.make_room_for-requires-clause-kind
make_room_for-requires-clause-kind c = slot_kind c.args.self.now c.args.seat c.args.keyword.now c.args.value.now c.requires.kind

pub returns-in-Ok-clause-roomed : goal.returns-in-Ok-clause-roomed
returns-in-Ok-clause-roomed c = slot_roomed c.args.self.now c.args.seat c.args.keyword.now c.make_room_for.new.self _ c.make_room_for.ensures.same c.make_room_for.ensures.room

pub returns-in-Ok-clause-value : goal.returns-in-Ok-clause-value
returns-in-Ok-clause-value c = held_value c.args.self.now c.args.seat c.args.keyword.now c.holding.result.now c.holding.ensures.holding c.args.value.now c.requires.kind c.holding.ensures.value c.kind-kind.ensures.value (c.in_default.ensures.fits refl) (c.in_default.ensures.few refl)
