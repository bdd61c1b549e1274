use Rattle.std.proofs.Common.{subst}
use Rattle.std.proofs.lemmas.Result.{on_ok_weaker}
use Rattle.refusals.specs.amount_math.Content.{entries}
use Rattle.refusals.specs.amount_math.Entries.{Entries}
use Rattle.rearrange.specs.Parts.{HaveEntries}
use Rattle.rearrange.proofs.Changes.{added_on, shares_changed}
use Rattle.rearrange.proofs.differences.add_pair.Goals as goal

pub returns-in-Some-entries : goal.returns-in-Some-entries
returns-in-Some-entries c =
    let share = c.args.before.now in
    let other = c.args.after.now in
    let old = c.args.parts.now.items in
    let new = c.add_unlike_entries.new.parts.items in
    let brand = share.amount.brand in
    on_ok_weaker c.add_unlike_entries.result
    (λ change. shares_changed share other old new c.if-brand-after.true
    (subst (λ (es : Entries). HaveEntries brand es (entries other.amount.value.content) old new) c.in-Some.ensures.entries
    (subst (λ (es : Entries). HaveEntries brand c.in-Some.entries.now es old new) c.in-Some-entries.ensures.entries change)))
    c.add_unlike_entries.ensures

pub returns : goal.returns
returns c = on_ok_weaker c.add_share-2.result (added_on _ _ _ _ _ c.in_ok-add_share.ensures) c.add_share-2.ensures
