use Rattle.std.proofs.Common.{◌+◌, ◌∙◌, sym}
use Rattle.amount_math.proofs.Listed.{read_entry}
use Rattle.amount_math.proofs.Places.{are_raised, tally_raised}
use Rattle.amount_math.proofs.in_place.raise.Goals as goal

pub returns-clause-entries : goal.returns-clause-entries
returns-clause-entries c =
    let held = read_entry c.args.entries.now c.args.at c.index-entries-at.result c.requires.here.0 c.index-entries-at.is in
    let whole = sym c.index-entries-at.is ∙ sym held in
    rw (c.raise.ensures ∙ (λ j. ((whole j).0, (whole j).1 + c.count.ensures j))) (are_raised _ _ c.requires.entries c.requires.here.0 c.args.entry.now c.requires.here.1 c.requires.within)

pub returns-clause-counts : goal.returns-clause-counts
returns-clause-counts c = λ k.
    let held = read_entry c.args.entries.now c.args.at c.index-entries-at.result c.requires.here.0 c.index-entries-at.is in
    let whole = sym c.index-entries-at.is ∙ sym held in
    rw (c.raise.ensures ∙ (λ j. ((whole j).0, (whole j).1 + c.count.ensures j))) (tally_raised _ _ c.requires.entries c.requires.here.0 c.args.entry.now c.requires.here.1 k)
