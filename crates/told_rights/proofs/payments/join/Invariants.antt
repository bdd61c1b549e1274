use Rattle.std.proofs.Common.{◌≡◌, ◌==◌, ◌||◌, ℕ, take}
use Rattle.std.specs.List.{list_any}
use Rattle.told_rights.specs.Runs.{has_number}
use Rattle.told_rights.proofs.payments.join.Given as goal

abbrev pub invariant-loop-number : goal.invariant-loop-number
invariant-loop-number l = (p : ℕ) → has_number l.numbers p ≡ (list_any (λ n. n == p) (take l.number-index l.more) || has_number l.initial.numbers p)
