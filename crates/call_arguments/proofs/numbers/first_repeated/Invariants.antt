use Rattle.std.proofs.Common.{◌≡◌, ℕ, [], drop, take, nat_cmp}
use Rattle.std.specs.BTreeSet.{contains}
use Rattle.call_arguments.specs.Numbers.{first_again, is_among}
use Rattle.call_arguments.proofs.numbers.first_repeated.Given as goal

abbrev pub invariant-loop-number : goal.invariant-loop-number
invariant-loop-number l = record {
  rest : first_again (take l.number-index l.numbers) (drop l.number-index l.numbers) ≡ first_again [] l.numbers;
  seen : (n : ℕ) → contains nat_cmp l.seen n ≡ is_among (take l.number-index l.numbers) n;
}
