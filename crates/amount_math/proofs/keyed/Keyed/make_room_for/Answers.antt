use Rattle.std.proofs.Common.{◌+◌, ◌≤◌, ap, arith, length}
use Rattle.std.proofs.lemmas.Result.{on_ok_weaker}
use Rattle.std.specs.FinMap as fin
use Rattle.amount_math.specs.Entries.{Entries}
use Rattle.amount_math.specs.ValueView.{keys_of}
use Rattle.amount_math.proofs.keyed.Keyed.make_room_for.Goals as goal

pub returns-clause-ok : goal.returns-clause-ok
returns-clause-ok c =
    let together = rw (c.entries.ensures.content, c.entries-2.ensures.content) at c.new_keys-keys.ensures in
    let len = ap (λ (xs : Entries). length xs) c.entries.ensures.list in
    on_ok_weaker _ (λ (ok : keys_of c.args.self.now.content + c.new_keys-keys.result ≤ c.reserve.new.self.room). omega (arith, ok, together, len, fin.len-entries c.args.self.now.content.held)) c.reserve.ensures.ok

pub returns-clause-there : goal.returns-clause-there
returns-clause-there c = λ room.
    let together = rw (c.entries.ensures.content, c.entries-2.ensures.content) at c.new_keys-keys.ensures in
    let len = ap (λ (xs : Entries). length xs) c.entries.ensures.list in
    c.reserve.ensures.there (omega (arith, room, together, len, fin.len-entries c.args.self.now.content.held))
