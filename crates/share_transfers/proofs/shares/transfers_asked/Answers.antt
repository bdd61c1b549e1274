use Rattle.std.proofs.Common.{◌+◌, ◌∷◌, ◌∙◌, [], sym, ap, subst}
use Rattle.std.proofs.lemmas.List.{map-append}
use Rattle.host_data.proofs.ReadLists.{IsRead, read_more}
use Rattle.refusals.proofs.Steps.{wanted_there}
use Rattle.rules.specs.Rearranging.{asked_in}
use Rattle.share_transfers.specs.Views.{asked_view, asked_views, parts_view}
use Rattle.share_transfers.proofs.shares.transfers_asked.Goals as goal

pub loop-parts-preserved : goal.loop-parts-preserved
loop-parts-preserved c =
    subst (IsRead asked_in parts_view c.args.list.now (c.loop-parts.parts-index + 1)) (sym (ap asked_views c.in_ok-push.ensures.items ∙ map-append asked_view c.loop-parts.read.items (c.in_ok-transfer_asked.field-0 ∷ [])))
    (read_more asked_in parts_view c.args.list.now c.loop-parts.parts-index (asked_views c.loop-parts.read.items) c.loop-parts.invariant c.parts-item.result (asked_view c.in_ok-transfer_asked.field-0) c.loop-parts-test.true c.parts-item.is (wanted_there _ _ _ c.in_ok-transfer_asked.ensures))
