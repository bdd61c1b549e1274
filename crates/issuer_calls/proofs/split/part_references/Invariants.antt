use Rattle.std.proofs.Common.{◌≡◌, map, take}
use Rattle.issuer_calls.proofs.split.part_references.Given as goal

abbrev pub invariant-loop-part : goal.invariant-loop-part
invariant-loop-part l = map (λ v. v.now) l.values.items ≡ take l.part-index l.parts
