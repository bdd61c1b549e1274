use Rattle.std.specs.Prelude.{All}
use Rattle.std.proofs.Common.{◌≡◌, ◌<◌, ◌≤◌, length, map, take, vec_capacity}
use Rattle.rules.specs.Lists.{with_value}
use Rattle.ertp_calls.specs.host_world.Worlds.{world_of}
use Rattle.ertp_calls.specs.Views.{live_view}
use Rattle.rules.specs.world_state.Rights.{kind_at}
use Rattle.issuer_calls.proofs.payment_lists.with_values.Given as goal

abbrev pub invariant-loop-payment : goal.invariant-loop-payment
invariant-loop-payment l = record {
  values : map live_view l.found.items ≡ map (with_value (world_of l.world)) (take l.payment-index l.payments);
  numbers : All (λ p. p.number < length (world_of l.world).rights.payments) l.found.items;
  kinds : All (λ p. p.value.kind ≡ kind_at (world_of l.world).rights.out l.brand) l.found.items;
  room : length l.payments ≤ vec_capacity l.found;
}
