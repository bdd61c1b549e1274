use Rattle.std.proofs.Common.{◌≡◌, map, take}
use Rattle.rules.specs.Zmint.{values_of}
use Rattle.escrow_calls.proofs.supply.values_of.Given as goal

abbrev pub invariant-loop-share : goal.invariant-loop-share
invariant-loop-share l = map (λ v. v.now) l.values.items ≡ values_of (take l.share-index l.shares)
