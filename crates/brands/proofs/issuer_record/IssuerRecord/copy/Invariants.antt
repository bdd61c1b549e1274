use Rattle.std.proofs.Common.{◌≡◌, take}
use Rattle.brands.proofs.issuer_record.IssuerRecord.copy.Given as goal

abbrev pub invariant-loop-issuer : goal.invariant-loop-issuer
invariant-loop-issuer l = l.made ≡ take l.issuer-index l.issuer-items
