use Rattle.std.proofs.Common.{◌≡◌, sym, ap, ◌∙◌, arith}
use Rattle.std.specs.Option.{unwrap_or, option_copied}
use Rattle.refusals.specs.amount_math.Content.{Content, count}
use Rattle.value_tests.proofs.Kept.{found_count}
use Rattle.value_tests.proofs.value_totals.Total.with.Goals as goal

pub with-requires : goal.with-requires
with-requires c =
    let found : c.in-Some.number.now ≡ count c.args.self.now c.args.element.now = ap (λ o. unwrap_or (option_copied o) 0) (sym c.in-Some.is) ∙ ap (λ o. unwrap_or o 0) c.get.ensures.value ∙ found_count c.self.inside.counts.entries c.args.element.now c.self.invariant ∙ ap (λ (t : Content). count t c.args.element.now) c.self.view_is in
    omega (arith, found, c.requires)

pub returns-in-Some : goal.returns-in-Some
returns-in-Some c =
    let found : c.in-Some.number.now ≡ count c.args.self.now c.args.element.now = ap (λ o. unwrap_or (option_copied o) 0) (sym c.in-Some.is) ∙ ap (λ o. unwrap_or o 0) c.get.ensures.value ∙ found_count c.self.inside.counts.entries c.args.element.now c.self.invariant ∙ ap (λ (t : Content). count t c.args.element.now) c.self.view_is in
    omega (arith, found, c.with.ensures)

pub returns-in-None : goal.returns-in-None
returns-in-None c =
    let none = ap (λ o. unwrap_or (option_copied o) 0) (sym c.in-None.is) ∙ ap (λ o. unwrap_or o 0) c.get.ensures.value ∙ found_count c.self.inside.counts.entries c.args.element.now c.self.invariant ∙ ap (λ (t : Content). count t c.args.element.now) c.self.view_is in
    omega (arith, none, c.of.ensures)
