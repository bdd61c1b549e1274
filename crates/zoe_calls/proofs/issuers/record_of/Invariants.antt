use Rattle.std.proofs.Common.{◌≡◌, take}
use Rattle.zoe_calls.proofs.issuers.record_of.Given as goal

abbrev pub invariant-loop-issuer : goal.invariant-loop-issuer
invariant-loop-issuer l = l.made ≡ take l.issuer-index l.issuers
