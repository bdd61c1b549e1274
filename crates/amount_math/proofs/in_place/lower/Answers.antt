use Rattle.std.proofs.Common.{◌-◌, ◌∙◌, sym}
use Rattle.amount_math.proofs.Listed.{read_entry}
use Rattle.amount_math.proofs.Places.{are_lowered, tally_lowered}
use Rattle.amount_math.proofs.in_place.lower.Goals as goal

pub returns-clause-entries : goal.returns-clause-entries
returns-clause-entries c =
    let held = read_entry c.args.entries.now c.args.at c.index-entries-at.result c.requires.here c.index-entries-at.is in
    let whole = sym c.index-entries-at.is ∙ sym held in
    rw (c.lower.ensures ∙ (λ j. ((whole j).0, (whole j).1 - c.args.count))) (are_lowered _ _ c.requires.entries c.requires.here c.args.count c.requires.less)

pub returns-clause-counts : goal.returns-clause-counts
returns-clause-counts c = λ k.
    let held = read_entry c.args.entries.now c.args.at c.index-entries-at.result c.requires.here c.index-entries-at.is in
    let whole = sym c.index-entries-at.is ∙ sym held in
    rw (c.lower.ensures ∙ (λ j. ((whole j).0, (whole j).1 - c.args.count))) (tally_lowered _ _ c.requires.entries c.requires.here c.args.count c.requires.less k)
