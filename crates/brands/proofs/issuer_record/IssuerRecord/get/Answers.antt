use Rattle.std.proofs.Common.{◌≡◌, None, Some, ap, ◌∙◌, rules}
use Rattle.brands.specs.IssuerRecords.{brand_under}
use Rattle.brands.proofs.IssuersKeyed.{brand_under-found}
use Rattle.brands.proofs.issuer_record.IssuerRecord.get.Goals as goal

pub returns-in_err-issuer : goal.returns-in_err-issuer
returns-in_err-issuer c =
    let none : c.from_residual.result ≡ None = search rules in
    none ∙ brand_under-found c.args.keyword.now _ c.self.inside.issuers.entries None c.self.invariant c.as_str.ensures.text c.in_err-issuer.ensures.value ∙ ap (brand_under c.args.keyword.now) c.self.view_is

pub returns : goal.returns
returns c = brand_under-found c.args.keyword.now _ c.self.inside.issuers.entries (Some c.in_ok-issuer.issuer.now) c.self.invariant c.as_str.ensures.text c.in_ok-issuer.ensures.value ∙ ap (brand_under c.args.keyword.now) c.self.view_is
