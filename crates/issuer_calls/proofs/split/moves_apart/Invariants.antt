use Rattle.std.proofs.Common.{◌≡◌, ◌+◌, length}
use Rattle.rules.specs.Lists.{moves_apart}
use Rattle.issuer_calls.proofs.split.moves_apart.Given as goal

abbrev pub invariant-loop-value : goal.invariant-loop-value
invariant-loop-value l = record {
  movements : l.movements.items ≡ moves_apart l.brand l.from l.first l.yielded;
  number : l.number ≡ l.first + length l.yielded;
}
