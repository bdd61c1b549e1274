use Rattle.std.proofs.Common.{◌≡◌, [], sym, subst, ◌∙◌, drop}
use Rattle.row_reader.proofs.Wanted.{Agree, ends_early, kept, same_of}
use Rattle.row_reader.proofs.fields.has_names.Goals as goal

pub returns-in_default-2 : goal.returns-in_default-2
returns-in_default-2 c =
    let steps = rw c.in_default.is at c.next.ensures.steps in
    let none : c.loop-wanted.entries ≡ [] = steps.0 in
    (λ no. absurd (cc), λ named. absurd (ends_early _ _ c.loop-wanted-test.true (subst (λ es. Agree es (drop c.loop-wanted.wanted-index c.args.names.now)) none (c.loop-wanted.invariant.0 named))))

pub loop-wanted-preserved : goal.loop-wanted-preserved
loop-wanted-preserved c =
    kept _ c.loop-wanted.entries c.next.new.self (c.in-Some.name.now, c.in-Some.field-0-1.now) c.args.names.now c.loop-wanted.wanted-index _ c.loop-wanted-test.true c.in-Some.ensures.steps
    (sym c.as_str.ensures.value ∙ same_of _ _ _ c.eq.ensures c.if-eq.true) c.loop-wanted.invariant.0 c.loop-wanted.invariant.1
