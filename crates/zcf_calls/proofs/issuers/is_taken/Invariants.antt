use Rattle.std.proofs.Common.{◌≡◌, drop}
use Rattle.rules.specs.brands.IssuerRecords.{brand_under}
use Rattle.zcf_calls.proofs.issuers.is_taken.Given as goal

abbrev pub invariant-loop-issuer : goal.invariant-loop-issuer
invariant-loop-issuer l = brand_under l.keyword (drop l.issuer-index l.issuers) ≡ brand_under l.keyword l.issuers
