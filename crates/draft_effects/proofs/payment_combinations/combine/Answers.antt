use Rattle.std.proofs.Common.{map, subst, sym}
use Rattle.std.proofs.lemmas.Result.{on_ok_weaker}
use Rattle.draft_effects.specs.HandStore.{CanCarryAll, IsStoring, StoresAll, all_carried, hand_after_all, into_hand}
use Rattle.draft_reads.specs.vault.Drafts.{DraftState, hand_now}
use Rattle.draft_effects.proofs.Combinations.{can_store, combined_now, has_whole, have_sum, of_brand, reach, stores_all}
use Rattle.draft_effects.proofs.payment_combinations.combine.Goals as goal

pub store_parts-requires-clause-stores : goal.store_parts-requires-clause-stores
store_parts-requires-clause-stores c = subst StoresAll (sym c.count_anew.ensures) (stores_all c.args.draft.now c.requires.can.0 c.args.moves.now c.valid.ensures c.requires.clean c.requires.shape c.requires.can.1)

pub store_parts-requires-clause-can : goal.store_parts-requires-clause-can
store_parts-requires-clause-can c = subst (λ (x : DraftState). CanCarryAll x.now (hand_now x) (map into_hand c.args.moves.now)) (sym c.count_anew.ensures) (can_store c.args.draft.now c.requires.can.0 c.args.moves.now c.valid.ensures c.requires.clean c.requires.shape c.requires.can.1)

pub combine_stored-requires-clause-sum : goal.combine_stored-requires-clause-sum
combine_stored-requires-clause-sum c = have_sum c.args.draft.now c.requires.can.0 c.args.moves.now c.valid.ensures c.requires.clean c.requires.shape c.requires.can.1

pub combine_stored-requires-clause-has : goal.combine_stored-requires-clause-has
combine_stored-requires-clause-has c = has_whole c.args.draft.now c.requires.can.0 c.args.moves.now c.valid.ensures c.requires.clean c.requires.shape c.requires.can.1 c.store_parts.new.draft (subst (λ (x : DraftState). IsStoring x c.store_parts.new.draft (all_carried x.now (map into_hand c.args.moves.now)) (hand_after_all (hand_now x) (map into_hand c.args.moves.now))) c.count_anew.ensures c.in_ok-store_parts.ensures.ok) c.in-Some.first.now c.in-Some.ensures.value

pub combine_stored-requires-clause-brand : goal.combine_stored-requires-clause-brand
combine_stored-requires-clause-brand c = of_brand c.args.draft.now c.requires.can.0 c.args.moves.now c.valid.ensures c.requires.clean c.requires.shape c.requires.can.1 c.store_parts.new.draft (subst (λ (x : DraftState). IsStoring x c.store_parts.new.draft (all_carried x.now (map into_hand c.args.moves.now)) (hand_after_all (hand_now x) (map into_hand c.args.moves.now))) c.count_anew.ensures c.in_ok-store_parts.ensures.ok) c.in-Some.first.now c.in-Some.ensures.value

pub combine_stored-requires-clause-reach : goal.combine_stored-requires-clause-reach
combine_stored-requires-clause-reach c = reach c.args.draft.now c.requires.can.0 c.args.moves.now c.valid.ensures c.requires.clean c.requires.shape c.requires.can.1 c.store_parts.new.draft (subst (λ (x : DraftState). IsStoring x c.store_parts.new.draft (all_carried x.now (map into_hand c.args.moves.now)) (hand_after_all (hand_now x) (map into_hand c.args.moves.now))) c.count_anew.ensures c.in_ok-store_parts.ensures.ok) c.in-Some.first.now c.in-Some.ensures.value

pub returns-clause-ok : goal.returns-clause-ok
returns-clause-ok c = on_ok_weaker c.combine_stored.result (λ is. combined_now c.args.draft.now c.requires.can.0 c.args.moves.now c.valid.ensures c.requires.clean c.requires.shape c.requires.can.1 c.store_parts.new.draft (subst (λ (x : DraftState). IsStoring x c.store_parts.new.draft (all_carried x.now (map into_hand c.args.moves.now)) (hand_after_all (hand_now x) (map into_hand c.args.moves.now))) c.count_anew.ensures c.in_ok-store_parts.ensures.ok) c.in-Some.first.now c.in-Some.ensures.value c.combine_stored.new.draft is) c.combine_stored.ensures.ok
