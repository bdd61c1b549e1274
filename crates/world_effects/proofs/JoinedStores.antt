-- A draft and registers together, after an effect; and the world behind the delivery in front.
use Rattle.std.specs.Prelude.{drop}
use Rattle.std.proofs.Common.{◌≡◌, ℕ, ◌<◌, List, [], ◌∷◌, length, refl, sym, ◌∙◌, ap, subst, arith}
use Rattle.world_laws.specs.amount_math.declared.Kind.{Kind}
use Rattle.world_laws.specs.brands.Brands.{brand_at}
use Rattle.world_laws.specs.ertp_mint.Stocks.{empty_amount}
use Rattle.register_effects.specs.draft_reads.Views.{CanGoBack, HasNow, rights_in, seats_in, staging_in}
use Rattle.world_laws.proofs.FrontDeliveries.{effect_passes}
use Rattle.register_effects.specs.host_world.Worlds.{IsUndoable, world_now, world_of}
use Rattle.register_effects.specs.host_world.declared.World.{World}
use Rattle.register_effects.specs.registers.RegisterStates.{RegisterState, registers_of}
use Rattle.register_effects.specs.host_world.Parts.{state_of}
use Rattle.world_laws.specs.turn_records.Deliveries.{Delivery}
use Rattle.register_effects.specs.vault.Drafts.{DraftState, HandGoes}
use Rattle.world_laws.proofs.Kept.{good-after}
use Rattle.world_laws.specs.world_state.Good.{IsGoodEffect, IsGoodWorld}
use Rattle.world_laws.specs.world_state.Rights.{with_payment, with_purse}
use Rattle.world_laws.specs.world_state.Worlds.{Effect, State, after, behind, empty_payment, in_front, new_purse}
use Rattle.world_effects.specs.CarriedEffects.{IsCarried, IsInTurn}

-- what the draft has of a world and what the registers have of it make that world
pub joined : (d : DraftState) (p : RegisterState) (w : State) → HasNow d w.rights w.seats w.staging → p ≡ registers_of w → state_of (rights_in d) (seats_in d) (staging_in d) p ≡ w
joined d p w has is = λ i. state_of (has.rights i) (has.seated i) (has.staged i) (is i)

-- what is opened has nothing of its brand's kind
pub purse_joined : (d : DraftState) (p : RegisterState) (w : State) (b : ℕ) (k : Kind) → k ≡ (brand_at w.brands b).kind
    → HasNow d (with_purse w.rights (empty_amount b k)) w.seats w.staging → p ≡ registers_of w
    → state_of (rights_in d) (seats_in d) (staging_in d) p ≡ after w (new_purse b)
purse_joined d p w b k e has is = joined d p (after w (new_purse b)) (subst (λ (x : Kind). HasNow d (with_purse w.rights (empty_amount b x)) w.seats w.staging) e has) is

pub payment_joined : (d : DraftState) (p : RegisterState) (w : State) (b : ℕ) (k : Kind) → k ≡ (brand_at w.brands b).kind
    → HasNow d (with_payment w.rights (empty_amount b k)) w.seats w.staging → p ≡ registers_of w
    → state_of (rights_in d) (seats_in d) (staging_in d) p ≡ after w (empty_payment b)
payment_joined d p w b k e has is = joined d p (after w (empty_payment b)) (subst (λ (x : Kind). HasNow d (with_payment w.rights (empty_amount b x)) w.seats w.staging) e has) is

-- a draft that stays as it is can be undone as before
pub stays : (d : DraftState) → HandGoes d → CanGoBack d d
stays d goes = record { kept = refl; goes = goes }

-- ---- the world behind the delivery in front

split_front : (ds : List Delivery) → 0 < length ds → (d : Delivery) × (ds ≡ d ∷ drop 1 ds)
split_front [] lt = absurd (omega (arith, lt))
split_front (d ∷ ds) lt = (d, refl)

still_waits : (w : State) (d : Delivery) → 0 < length (in_front d w).waiting
still_waits w d = omega arith

-- an effect on the world with the delivery in front is the effect on the world behind it
passes : (w : State) (e : Effect) (d : Delivery) → w.waiting ≡ d ∷ drop 1 w.waiting → after w e ≡ in_front d (after (behind w) e)
passes w e d is =
    let front : w ≡ in_front d (behind w) = λ i. record w { waiting = is i } in
    ap (λ (v : State). after v e) front ∙ effect_passes d (behind w) e

pub behind_after : (w : State) (e : Effect) → 0 < length w.waiting → behind (after w e) ≡ after (behind w) e
behind_after w e lt = let (d, is) = split_front w.waiting lt in ap behind (passes w e d is)

waits_after : (w : State) (e : Effect) → 0 < length w.waiting → 0 < length (after w e).waiting
waits_after w e lt =
    let (d, is) = split_front w.waiting lt in
    subst (λ (v : State). 0 < length v.waiting) (sym (passes w e d is)) (still_waits (after (behind w) e) d)

-- the turn goes on after an effect
pub goes_on : (old new : World) (e : Effect) → IsInTurn old → IsGoodEffect (world_of old) e → IsCarried old new e → IsUndoable old new → IsInTurn new
goes_on old new e turn can done back = record {
  clean = done.clean;
  goes = back.rights.goes;
  good = subst (λ (w : State). IsGoodWorld w) (sym (ap behind done.now ∙ behind_after (world_now old) e turn.waits)) (good-after (world_of old) e can turn.good);
  waits = subst (λ (w : State). 0 < length w.waiting) (sym done.now) (waits_after (world_now old) e turn.waits);
}

pub world_on : (old new : World) (e : Effect) → IsInTurn old → IsCarried old new e → world_of new ≡ after (world_of old) e
world_on old new e turn done = ap behind done.now ∙ behind_after (world_now old) e turn.waits

pub back_on : (a b c : World) → IsUndoable a b → IsUndoable b c → IsUndoable a c
back_on a b c first next = record {
  rights = record { kept = next.rights.kept ∙ first.rights.kept; goes = next.rights.goes };
  registers = next.registers ∙ first.registers;
  sums = next.sums ∙ first.sums;
}
