use Rattle.std.proofs.Common.{length, ap, ◌∙◌, arith, rules, refl}
use Rattle.std.specs.List.{filter}
use Rattle.std.proofs.lemmas.Fn.{filter_same}
use Rattle.amount_math.specs.Entries.{Entries}
use Rattle.amount_math.proofs.Lowered.{has_some, in_place, kept_are, kept_difference}
use Rattle.amount_math.proofs.merges.lessen_all.Goals as goal

pub returns-clause-content : goal.returns-clause-content
returns-clause-content c =
    let len = ap (λ (es : Entries). length es) c.deref_mut.ensures.value in
    let kept = filter_same _ has_some _ (λ x b f called. (search rules, refl)) _ _ c.retain.ensures.filtered in
    let whole = in_place c.lower_all.new.entries c.args.entries.now.items c.args.entries.now.len (omega (arith, len, c.deref_mut.ensures.len)) (c.lower_all.auto.entries ∙ len) in
    let counts = rw c.deref_mut.ensures.value at c.lower_all.ensures.counts in
    rw (kept ∙ ap (filter has_some) whole) (kept_difference _ _ _ c.requires.entries c.requires.part c.lower_all.ensures.rising c.lower_all.ensures.lowered counts)

pub returns-clause-entries : goal.returns-clause-entries
returns-clause-entries c =
    let len = ap (λ (es : Entries). length es) c.deref_mut.ensures.value in
    let kept = filter_same _ has_some _ (λ x b f called. (search rules, refl)) _ _ c.retain.ensures.filtered in
    let whole = in_place c.lower_all.new.entries c.args.entries.now.items c.args.entries.now.len (omega (arith, len, c.deref_mut.ensures.len)) (c.lower_all.auto.entries ∙ len) in
    let counts = rw c.deref_mut.ensures.value at c.lower_all.ensures.counts in
    rw (kept ∙ ap (filter has_some) whole) (kept_are _ _ _ c.requires.entries c.requires.part c.lower_all.ensures.rising c.lower_all.ensures.lowered counts)
