use Rattle.std.proofs.Common.{◌+◌, ◌∷◌, ◌∙◌, [], sym, ap, subst}
use Rattle.std.proofs.lemmas.List.{map-append}
use Rattle.host_data.proofs.ReadLists.{IsRead, read_more}
use Rattle.host_data.specs.View.{tree}
use Rattle.rules.specs.Rearranging.{parts_in}
use Rattle.share_transfers.specs.Views.{parts_view, parts_views}
use Rattle.share_transfers.proofs.parts.all_parts.Goals as goal

pub loop-item-preserved : goal.loop-item-preserved
loop-item-preserved c =
    subst (IsRead parts_in tree c.args.items.now (c.loop-item.item-index + 1)) (sym (ap parts_views c.in_ok-push.ensures.items ∙ map-append parts_view c.loop-item.list.items (c.in-Some.parts ∷ [])))
    (read_more parts_in tree c.args.items.now c.loop-item.item-index (parts_views c.loop-item.list.items) c.loop-item.invariant c.item-item.result (parts_view c.in-Some.parts) c.loop-item-test.true c.item-item.is (sym c.in-Some.ensures))
