use Rattle.std.proofs.Common.{drop, map, subst, ◌+◌}
use Rattle.draft_effects.specs.HandStore.{IsCarrying, into_hand}
use Rattle.draft_effects.proofs.CarriedParts.{carry_goes_on, goes_in, left_of, lost_so}
use Rattle.draft_reads.specs.vault.Drafts.{hand_now}
use Rattle.draft_effects.proofs.stored_parts.store_parts.Goals as goal

pub loop-movement-preserved : goal.loop-movement-preserved
loop-movement-preserved c =
    let d = c.loop-movement.draft in
    let m = c.movement-item.result in
    let left = map into_hand (drop (c.loop-movement.movement-index + 1) c.args.moves.now) in
    let inv = subst (λ l. IsCarrying c.args.draft.now d (map into_hand c.args.moves.now) l) (left_of into_hand c.args.moves.now c.loop-movement.movement-index m c.loop-movement-test.true c.movement-item.is) c.loop-movement.invariant in
    carry_goes_on c.args.draft.now d c.store_part.new.draft (map into_hand c.args.moves.now) left (into_hand m) inv
    (lost_so d c.store_part.new.draft (into_hand m) (goes_in m.from d.now (hand_now d) m.brand m.value inv.can.0) c.in_ok-store_part.ensures.ok)
