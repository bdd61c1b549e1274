use Rattle.std.proofs.Common.{◌∙◌}
use Rattle.ertp_mint.specs.declared.place.Change.TheVariants.{Issue}
use Rattle.ertp_mint.proofs.Placed.{allows_one_more, one_more}
use Rattle.ertp_mint.proofs.places.issue_all.Goals as goal

pub issue_at-requires : goal.issue_at-requires
issue_at-requires c = record {
  fits = allows_one_more Issue c.args.entries.now c.loop-i.i c.index-entries-i.result c.as_str-key.result.now c.from.result c.args.places.now.entries c.loop-i.places.entries
      c.loop-i-test.true c.index-entries-i.is (c.as_str-key.ensures ∙ c.key.ensures) (c.from.ensures ∙ c.count.ensures) c.loop-i.invariant c.requires.fits;
}

pub loop-i-preserved : goal.loop-i-preserved
loop-i-preserved c =
    one_more Issue c.args.entries.now c.loop-i.i c.index-entries-i.result c.as_str-key.result.now c.from.result c.args.places.now.entries c.loop-i.places.entries
    c.loop-i-test.true c.index-entries-i.is (c.as_str-key.ensures ∙ c.key.ensures) (c.from.ensures ∙ c.count.ensures) c.loop-i.invariant c.issue_at.new.places.entries c.in-Ok.ensures.ok
