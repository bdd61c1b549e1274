use Rattle.std.proofs.Common.{arith}
use Rattle.vault.proofs.Slots.{given_further, none_here}
use Rattle.vault.proofs.stores.Stores.give_further.Goals as goal

pub put-requires-clause-meet : goal.put-requires-clause-meet
put-requires-clause-meet c = λ is_open has. absurd (omega (arith, has, none_here c.args.self.now c.args.seat c.args.keyword.now c.args.parcel c.requires))

pub returns-in-Ok-put-clause-ok : goal.returns-in-Ok-put-clause-ok
returns-in-Ok-put-clause-ok c = given_further c.args.self.now c.args.seat c.args.keyword.now c.args.parcel c.requires c.reserve_slots.new.self c.in-Ok.ensures.ok c.put.new.self _ c.in-Ok-put.ensures.ok c.in-Ok-put.ensures.out
