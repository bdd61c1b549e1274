use Rattle.std.proofs.Common.{[], ◌∷◌, take, sym, ◌∙◌, subst}
use Rattle.refusals.specs.amount_math.Entries.{Entries}
use Rattle.rearrange.specs.Parts.{HaveEntries, entries_count}
use Rattle.rearrange.specs.declared.parts.Side.TheVariants.{Before, After}
use Rattle.rearrange.proofs.Changes.{entries_count-append, passed_alike, passed_unlike}
use Rattle.rearrange.proofs.PartCounts.{more_listed}
use Rattle.rearrange.proofs.PartLists.{rest_is}
use Rattle.rearrange.proofs.differences.add_unlike_entry.Goals as goal

pub returns-in-Some : goal.returns-in-Some
returns-in-Some c =
    let brand = c.args.brand in
    let after = c.args.after.now in
    let n = c.lower_len-lower.result in
    passed_alike (entries_count brand) (entries_count-append brand) after n c.args.entry.now c.in-Some.others.now _ _ (sym (rest_is after n) ∙ c.in-Some.ensures) (more_listed After brand (take n after) _ _ c.in_ok-add_entries.ensures)

pub returns : goal.returns
returns c =
    let brand = c.args.brand in
    let after = c.args.after.now in
    let n = c.lower_len-lower.result in
    subst (λ (rest : Entries). HaveEntries brand (c.args.entry.now ∷ rest) after c.args.parts.now.items c.add_entry.new.parts.items) (sym (rest_is after n))
    (passed_unlike (entries_count brand) (entries_count-append brand) after n c.args.entry.now _ _ _ (more_listed After brand (take n after) _ _ c.in_ok-add_entries.ensures) (more_listed Before brand (c.args.entry.now ∷ []) _ _ c.in_ok-add_entry.ensures))
