use Rattle.std.proofs.Common.{◌≡◌, drop}
use Rattle.rules.specs.Proposals.{is_known}
use Rattle.contract_reads.proofs.misfits.is_known.Given as goal

abbrev pub invariant-loop-issuer : goal.invariant-loop-issuer
invariant-loop-issuer l = is_known (drop l.issuer-index l.issuers) l.brand ≡ is_known l.issuers l.brand
