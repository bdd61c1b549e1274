use Rattle.std.proofs.Common.{[], List, ℕ, sym, ap, ◌∙◌}
use Rattle.std.proofs.lemmas.List.{get_or_default}
use Rattle.amount_math.specs.Entries.{tally}
use Rattle.amount_math.proofs.Searched.{tally_at}
use Rattle.amount_math.proofs.entries.count_of.Goals as goal

pub returns-in-Some : goal.returns-in-Some
returns-in-Some c =
    let at = c.in-Some.ensures.found in
    let read = c.index-entries-at.is ∙ get_or_default c.args.entries.now c.in-Some.at c.index-entries-at.result ([], 0) at.0 in
    c.count.ensures ∙ ap (λ (e : List ℕ × ℕ). e.1) read ∙ sym (tally_at _ _ c.requires at.0) ∙ ap (tally c.args.entries.now) at.1
