-- What holds of a good world that effects ask of its draft and of its registers.
use Rattle.std.specs.Prelude.{IfSome, ◌==◌}
use Rattle.std.specs.List.{AllByRecursion}
use Rattle.std.proofs.Common.{◌≡◌, ℕ, ◌+◌, ◌<◌, List, [], ◌∷◌, None, Some, Option, if◌then◌else◌, length, map, refl, sym, ◌∙◌, ap, arith}
use Rattle.std.proofs.lemmas.Bool.{eq-eqb}
use Rattle.world_laws.proofs.lemmas.ListEdits.{length_map}
use Rattle.world_laws.specs.amount_math.declared.Kind.{Kind}
use Rattle.world_laws.specs.brands.Brands.{brand_at}
use Rattle.world_laws.specs.brands.declared.Brand.{Brand}
use Rattle.register_effects.specs.call_outcomes.Views.{instances_view, promises_view}
use Rattle.register_effects.specs.call_outcomes.declared.effects.InstancesEffect.{InstancesEffect}
use Rattle.register_effects.specs.call_outcomes.declared.effects.InstancesEffect.TheVariants as instances
use Rattle.register_effects.specs.call_outcomes.declared.effects.PromisesEffect.{PromisesEffect}
use Rattle.register_effects.specs.call_outcomes.declared.effects.PromisesEffect.TheVariants as promises
use Rattle.world_laws.specs.ertp_mint.BrandSupply.{BrandSupply}
use Rattle.world_laws.specs.actors.SeatPromises.{pair_at}
use Rattle.world_laws.specs.host_data.Tree.{object}
use Rattle.world_laws.specs.host_data.View.{tree}
use Rattle.world_laws.specs.host_data.declared.data.ObjKind.{ObjKind}
use Rattle.world_laws.specs.host_data.declared.data.ObjKind.TheVariants as kinds
use Rattle.register_effects.specs.registers.RegisterStates.{registers_of}
use Rattle.world_laws.specs.promise_store.States.{SettlementView, broken, is_promise_kind, ok, settlement_view}
use Rattle.world_laws.specs.proposals.declared.allocations.Share.{Share}
use Rattle.world_laws.specs.turn_records.Deliveries.{Delivery, Notice}
use Rattle.world_laws.proofs.Instances.{open_made}
use Rattle.world_laws.proofs.Lists.{all_map, all_read}
use Rattle.world_laws.proofs.Owing.{payouts-left}
use Rattle.world_laws.specs.world_state.Good.{AreBrands, AreSharesOf, IsGoodEffect, IsGoodWorld, IsNotice, IsSettling, one_if}
use Rattle.world_laws.specs.world_state.Known.{made_as}
use Rattle.world_laws.specs.world_state.Promises.{IsPending, target_of}
use Rattle.world_laws.specs.world_state.Rights.{kind_at, slots_at}
use Rattle.world_laws.specs.world_state.Worlds.{IsOpen, Maker, State, promises_made, seat_at}
use Rattle.register_effects.specs.StoreEffects.{AreMade}
use Rattle.register_effects.specs.Conditions.{CanInstances, CanPromises}

-- ---- brands

pub brand_out : (bs : List Brand) (ms : List Maker) (out : List BrandSupply) (b : ℕ) → AreBrands bs ms out → b < length bs → b < length out
brand_out bs ms out b is made = omega (arith, is.supplies, made)

pub brand_kind : (bs : List Brand) (ms : List Maker) (out : List BrandSupply) (b : ℕ) (k : Kind) → AreBrands bs ms out → k ≡ (brand_at bs b).kind → kind_at out b ≡ k
brand_kind bs ms out b k is e = is.kinds b ∙ sym e

-- ---- seats

-- an open seat was made, and so were its promises; that of its payouts is pending
pub seat_made : (w : State) (s : ℕ) → IsGoodWorld w → IsOpen (seat_at w.seats s) → s < length w.pairs
seat_made w s good is = omega (arith, good.seats.paired, open_made w.seats s is)

pub payouts_pend : (w : State) (s : ℕ) → IsGoodWorld w → IsOpen (seat_at w.seats s) → IsPending w.promises (pair_at w.pairs s).payouts
payouts_pend w s good is =
    let q = (pair_at w.pairs s).payouts in
    good.owed.pending q (omega (arith, payouts-left w.seats w.pairs s [] q good.seats.paired is, ap one_if (eq-eqb q q refl)))

-- its slots are of brands that were made
pub slots_of_brands : (w : State) (s : ℕ) → IsGoodWorld w → IsOpen (seat_at w.seats s) → AreSharesOf w.rights.out (slots_at w.rights.slots s)
slots_of_brands w s good is = all_read (AreSharesOf w.rights.out) w.rights.slots s [] good.slot_kinds (omega (arith, good.seats.slotted, open_made w.seats s is))

-- ---- promises

pub good_made : (w : State) → IsGoodWorld w → AreMade w.promises
good_made w good = record {
  followed = good.following.made;
  asked = all_map (IsNotice w) (λ (n : Notice). n.promise < length w.promises.settled) (λ n is. is.promise) w.promises.requests good.requests;
}

-- the promise that a settlement names was made
promise_named : (w : State) (kind : ObjKind) (n : ℕ) → made_as w kind n → IfSome (if is_promise_kind kind then Some n else None) (λ target. target < promises_made w)
promise_named w kinds.Promise n made = made
promise_named w _ n made = tt

target_made : (w : State) (v : SettlementView) → IsSettling w v → IfSome (target_of v) (λ target. target < promises_made w)
target_made w (ok (object o)) handed = promise_named w o.kind o.number handed.objects
target_made w (ok t) handed = tt
target_made w (broken t) handed = tt

-- whatever waits
pub promises_can : (w : State) (ds : List Delivery) (e : PromisesEffect) → IsGoodEffect w (promises_view e) → CanPromises (record (registers_of w) { waiting = ds }) e
promises_can w ds (promises.Resolve p s) can = record { pending = can.pending; target = target_made w (settlement_view s) can.handed }
promises_can w ds (promises.When a) can = can.made
promises_can w ds _ can = tt

-- ---- instances

pub instances_can : (w : State) (ds : List Delivery) (e : InstancesEffect) → IsGoodEffect w (instances_view e) → CanInstances (record (registers_of w) { waiting = ds }) e
instances_can w ds (instances.Install m) can = tt
instances_can w ds (instances.Start s) can = can.installed
instances_can w ds (instances.AddIssuer i keyword brand) can = can.made
instances_can w ds (instances.Publish i facet) can = can.made
instances_can w ds (instances.KeepState i values) can = record { made = can.made; as_many = sym (length_map tree values.items) ∙ can.as_many }
instances_can w ds (instances.Stop i) can = can
instances_can w ds (instances.Halt i) can = can.made
