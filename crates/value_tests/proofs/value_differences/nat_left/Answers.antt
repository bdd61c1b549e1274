use Rattle.std.proofs.Common.{ℕ, sym, ap, ◌∙◌}
use Rattle.refusals.specs.amount_math.Content.{Content, difference, difference-of_nat, of_nat}
use Rattle.refusals.specs.amount_math.ValueView.{ValueView, with_content}
use Rattle.refusals.specs.amount_math.declared.Kind.TheVariants.{Nat}
use Rattle.value_tests.proofs.value_differences.nat_left.Goals as goal

abbrev nat_of : Content → ValueView
nat_of c = record { kind = Nat; content = c }

pub returns : goal.returns
returns c =
    let number = c.in-Some-Some.number in
    let other = c.in-Some-Some.other in
    c.nat.ensures
    ∙ ap (λ (n : ℕ). nat_of (of_nat n)) c.saturating_sub.ensures
    ∙ ap nat_of (sym (difference-of_nat number other))
    ∙ ap (λ (v : ValueView). with_content v (difference v.content (of_nat other))) (sym c.in-Some-Some.ensures.number)
    ∙ ap (λ (w : ValueView). with_content c.args.value.now (difference c.args.value.now.content w.content)) (sym c.in-Some-Some.ensures'.number)
