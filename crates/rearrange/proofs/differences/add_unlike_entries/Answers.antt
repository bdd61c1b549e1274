use Rattle.std.proofs.Common.{arith}
use Rattle.std.proofs.lemmas.Result.{on_ok_weaker}
use Rattle.rearrange.specs.Parts.{entries_count}
use Rattle.rearrange.specs.declared.parts.Side.TheVariants.{After}
use Rattle.rearrange.proofs.Changes.{entries_count-append, nothing_passed, passed_all, passed_more}
use Rattle.rearrange.proofs.PartCounts.{more_listed}
use Rattle.rearrange.proofs.differences.add_unlike_entries.Goals as goal

pub loop-entry-init : goal.loop-entry-init
loop-entry-init c = nothing_passed (entries_count c.args.brand) (entries_count-append c.args.brand) c.args.after.now c.args.parts.now.items

pub loop-entry-preserved : goal.loop-entry-preserved
loop-entry-preserved c = passed_more (entries_count c.args.brand) (entries_count-append c.args.brand) c.args.before.now c.args.after.now c.loop-entry.entry-index c.entry-item.result _ _ _ _ _ c.loop-entry-test.true c.entry-item.is c.loop-entry.invariant c.in_ok-rest.ensures

pub returns : goal.returns
returns c =
    let brand = c.args.brand in
    on_ok_weaker c.add_entries.result (λ is. passed_all (entries_count brand) (entries_count-append brand) c.args.before.now c.args.after.now c.loop-entry.entry-index c.loop-entry.rest.now _ _ _ (omega arith) c.loop-entry.invariant (more_listed After brand c.loop-entry.rest.now _ _ is)) c.add_entries.ensures
