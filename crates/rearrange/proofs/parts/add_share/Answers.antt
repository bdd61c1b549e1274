use Rattle.std.proofs.Common.{◌∷◌, [], ap, sym, ◌∙◌}
use Rattle.std.proofs.lemmas.Result.{on_ok_weaker}
use Rattle.refusals.specs.amount_math.Content.{count, unit}
use Rattle.refusals.specs.amount_math.Entries.{Entries, tally}
use Rattle.rearrange.proofs.PartCounts.{more_entries, tally-entries, tally-units}
use Rattle.rearrange.proofs.parts.add_share.Goals as goal

pub returns-in-Some : goal.returns-in-Some
returns-in-Some c =
    let share = c.args.share.now in
    let n = c.in-Some.number in
    on_ok_weaker c.add_number.result (more_entries c.args.side share ((unit, n) ∷ []) c.args.parts.now.items _ (λ k. tally-units n k ∙ ap (λ w. count w.content k) (sym c.in-Some.ensures.number))) c.add_number.ensures

pub returns-in-Some-entries : goal.returns-in-Some-entries
returns-in-Some-entries c =
    let share = c.args.share.now in
    let is = c.in-Some-entries.ensures.entries in
    on_ok_weaker c.add_entries.result (more_entries c.args.side share c.in-Some-entries.entries.now c.args.parts.now.items _ (λ k. ap (λ (es : Entries). tally es k) is ∙ tally-entries share.amount.value.content k)) c.add_entries.ensures
