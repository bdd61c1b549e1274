use Rattle.std.proofs.Common.{◌≡◌, ◌+◌, ◌≤◌, ap, arith, vec_capacity, vec_len}
use Rattle.std.proofs.lemmas.Result.{on_ok_weaker}
use Rattle.amount_math.specs.Content.{of_entries-nil}
use Rattle.amount_math.specs.Held.{Roomed}
use Rattle.amount_math.specs.ValueView.{keys_of}
use Rattle.amount_math.proofs.Places.{keys_of_entries, keys_of-nothing}
use Rattle.amount_math.proofs.keyed.Keyed.reserve.Goals as goal

pub returns-in_default-clause-ok : goal.returns-in_default-clause-ok
returns-in_default-clause-ok c = omega (
  arith,
  ap (λ (x : Roomed). keys_of x.content) (rw c.in_default.is at c.self.view_is),
  ap keys_of of_entries-nil,
  keys_of-nothing,
  c.in_ok-with_capacity.ensures.capacity,
)

pub returns-clause-ok : goal.returns-clause-ok
returns-clause-ok c =
    let seen = rw c.in-Some.is at c.self.view_is in
    let keys : keys_of c.args.self.now.content ≡ vec_len c.in-Some.entries = omega (arith, ap (λ (x : Roomed). keys_of x.content) seen, keys_of_entries _ (rw c.in-Some.is at c.self.invariant)) in
    on_ok_weaker _ (λ (ok : vec_len c.reserve.new.self + c.args.keys ≤ vec_capacity c.reserve.new.self). omega (arith, ok, keys, c.reserve.ensures.len)) c.reserve.ensures.ok

pub returns-clause-there : goal.returns-clause-there
returns-clause-there c = λ room.
    let seen = rw c.in-Some.is at c.self.view_is in
    let keys : keys_of c.args.self.now.content ≡ vec_len c.in-Some.entries = omega (arith, ap (λ (x : Roomed). keys_of x.content) seen, keys_of_entries _ (rw c.in-Some.is at c.self.invariant)) in
    c.reserve.ensures.succeeds (omega (arith, room, keys, ap (λ (x : Roomed). x.room) seen))
