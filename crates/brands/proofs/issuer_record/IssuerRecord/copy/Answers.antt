use Rattle.std.proofs.Common.{◌≡◌, take, None}
use Rattle.brands.specs.IssuerRecords.{AreIssuers, brand_under}
use Rattle.brands.proofs.IssuersKeyed.{free_before}
use Rattle.brands.proofs.issuer_record.IssuerRecord.copy.Goals as goal

pub enter_copy-requires-clause-free : goal.enter_copy-requires-clause-free
enter_copy-requires-clause-free c =
    let issuers = c.issuers-issuer-items.result.now in
    let at = c.loop-issuer.issuer-index in
    let are : AreIssuers issuers = rw c.issuers-issuer-items.ensures.value c.issuers-issuer-items.ensures.issuers in
    let free : brand_under c.issuer-item.result.keyword (take at issuers) ≡ None = free_before issuers at c.issuer-item.result are c.loop-issuer-test.true c.issuer-item.is in
    rw c.loop-issuer.invariant free
