use Rattle.std.proofs.Common.{◌∙◌}
use Rattle.ertp_mint.proofs.Placed.{allows_one_more, one_more}
use Rattle.ertp_mint.proofs.places.change_all.Goals as goal

pub change_at-requires-clause-allowed : goal.change_at-requires-clause-allowed
change_at-requires-clause-allowed c =
    allows_one_more c.args.change c.args.entries.now c.loop-entry.entry-index c.entry-item.result c.as_str.result.now c.from.result c.args.places.now.entries c.loop-entry.places.entries
    c.loop-entry-test.true c.entry-item.is (c.as_str.ensures ∙ c.key.ensures) (c.from.ensures ∙ c.count.ensures) c.loop-entry.invariant c.requires.allowed

pub loop-entry-preserved : goal.loop-entry-preserved
loop-entry-preserved c =
    one_more c.args.change c.args.entries.now c.loop-entry.entry-index c.entry-item.result c.as_str.result.now c.from.result c.args.places.now.entries c.loop-entry.places.entries
    c.loop-entry-test.true c.entry-item.is (c.as_str.ensures ∙ c.key.ensures) (c.from.ensures ∙ c.count.ensures) c.loop-entry.invariant c.change_at.new.places.entries c.change_at.ensures
