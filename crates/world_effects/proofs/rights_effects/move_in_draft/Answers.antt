use Rattle.std.proofs.Common.{List, OnOk, Option, subst, sym}
use Rattle.register_effects.specs.call_outcomes.Moves.{HasShape, moves_view}
use Rattle.register_effects.specs.call_outcomes.declared.moves.Moves.{Moves}
use Rattle.register_effects.specs.draft_reads.Views.{HasNow, rights_in, seats_in, staging_in}
use Rattle.world_laws.specs.proposals.declared.allocations.Share.{Share}
use Rattle.register_effects.specs.vault.Drafts.{DraftState}
use Rattle.world_laws.specs.world_state.Good.{CanMoveTogether}
use Rattle.world_laws.specs.world_state.Rights.{moved_together}
use Rattle.world_effects.proofs.rights_effects.move_in_draft.Goals as goal

abbrev CanMove : DraftState → Moves → Type 0
CanMove d ms = (staging : List (Option (List Share))) × CanMoveTogether (rights_in d) (seats_in d) staging (moves_view ms)

abbrev HasMoved : DraftState → DraftState → Moves → Type 0
HasMoved old new ms = HasNow new (moved_together (rights_in old) (moves_view ms)) (seats_in old) (staging_in old)

pub move_all-requires-clause-shape : goal.move_all-requires-clause-shape
move_all-requires-clause-shape c = rw (c.deref.ensures.value) (subst HasShape c.in-Movements.is c.requires.shape)

pub move_all-requires-clause-can : goal.move_all-requires-clause-can
move_all-requires-clause-can c = rw (c.deref.ensures.value) (subst (CanMove c.args.draft.now) c.in-Movements.is c.requires.can)

pub returns-in-Movements-clause-ok : goal.returns-in-Movements-clause-ok
returns-in-Movements-clause-ok c = subst (λ (ms : Moves). OnOk c.move_all.result (HasMoved c.args.draft.now c.move_all.new.draft ms)) (sym c.in-Movements.is) (rw (c.deref.ensures.value) at c.move_all.ensures.ok)

pub combine-requires-clause-shape : goal.combine-requires-clause-shape
combine-requires-clause-shape c = rw (c.deref-in-Combination.ensures.value) (subst HasShape c.in-Combination.is c.requires.shape)

pub combine-requires-clause-can : goal.combine-requires-clause-can
combine-requires-clause-can c = rw (c.deref-in-Combination.ensures.value) (subst (CanMove c.args.draft.now) c.in-Combination.is c.requires.can)

pub returns-in-Combination-clause-ok : goal.returns-in-Combination-clause-ok
returns-in-Combination-clause-ok c = subst (λ (ms : Moves). OnOk c.combine.result (HasMoved c.args.draft.now c.combine.new.draft ms)) (sym c.in-Combination.is) (rw (c.deref-in-Combination.ensures.value) at c.combine.ensures.ok)

pub split-requires-clause-shape : goal.split-requires-clause-shape
split-requires-clause-shape c = rw (c.deref-in-Split.ensures.value) (subst HasShape c.in-Split.is c.requires.shape)

pub split-requires-clause-can : goal.split-requires-clause-can
split-requires-clause-can c = rw (c.deref-in-Split.ensures.value) (subst (CanMove c.args.draft.now) c.in-Split.is c.requires.can)

pub returns-in-Split-clause-ok : goal.returns-in-Split-clause-ok
returns-in-Split-clause-ok c = subst (λ (ms : Moves). OnOk c.split.result (HasMoved c.args.draft.now c.split.new.draft ms)) (sym c.in-Split.is) (rw (c.deref-in-Split.ensures.value) at c.split.ensures.ok)

pub rearrange-requires-clause-shape : goal.rearrange-requires-clause-shape
rearrange-requires-clause-shape c = rw (c.deref-in-Rearrangement.ensures.value) (subst HasShape c.in-Rearrangement.is c.requires.shape)

pub rearrange-requires-clause-can : goal.rearrange-requires-clause-can
rearrange-requires-clause-can c = rw (c.deref-in-Rearrangement.ensures.value) (subst (CanMove c.args.draft.now) c.in-Rearrangement.is c.requires.can)

pub returns-in-Rearrangement-clause-ok : goal.returns-in-Rearrangement-clause-ok
returns-in-Rearrangement-clause-ok c = subst (λ (ms : Moves). OnOk c.rearrange.result (HasMoved c.args.draft.now c.rearrange.new.draft ms)) (sym c.in-Rearrangement.is) (rw (c.deref-in-Rearrangement.ensures.value) at c.rearrange.ensures.ok)
