use Rattle.std.proofs.Common.{arith, refl}
use Rattle.vault.proofs.OpenedStores.{seat_opened, too_many_slots}
use Rattle.vault.proofs.stores.Stores.open_seat.Goals as goal

pub returns-in_default-clause-limit : goal.returns-in_default-clause-limit
returns-in_default-clause-limit c = λ _. too_many_slots c.args.self.now c.args.proposal _ (omega (arith, c.len.ensures, c.len-2.ensures)) (c.in_default.ensures.limit.0 refl)

pub returns-in-Ok-open-clause-ok : goal.returns-in-Ok-open-clause-ok
returns-in-Ok-open-clause-ok c = seat_opened c.args.self.now c.reserve_slots.new.self c.open.new.self c.args.instance c.args.proposal _ c.in-Ok.ensures.ok (omega (arith, c.len.ensures, c.len-2.ensures)) c.in-Ok-open.ensures.ok
