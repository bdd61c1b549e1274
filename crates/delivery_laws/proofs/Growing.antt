-- What holds of each event that good effects tell, where it holds of the calls that they tell.
use Rattle.std.specs.Prelude.{IfSome}
use Rattle.std.proofs.lemmas.List.Elements.{recursion_from_All}
use Rattle.std.specs.List.{AllByRecursion}
use Rattle.std.proofs.Common.{◌≡◌, ℕ, List, [], ◌∷◌, ◌++◌, Option, Some, None, length, map, refl, ap, arith}
use Rattle.delivery_turns.specs.actors.SeatPromises.{pair_at}
use Rattle.turn_writer.specs.host_data.Tree.{null}
use Rattle.delivery_turns.specs.promise_store.States.{SettlementView, broken, ok}
use Rattle.turn_writer.specs.proposals.declared.offers.Exit.{Exit}
use Rattle.turn_writer.specs.proposals.declared.offers.Exit.TheVariants.{AfterDeadline, OnDemand, Waived}
use Rattle.turn_writer.specs.rights_model.declared.Movement.{Movement}
use Rattle.turn_writer.specs.Printing.{CanPrintOpening, CanPrintSettlement}
use Rattle.delivery_turns.specs.turn_records.Deliveries.{Delivery}
use Rattle.delivery_turns.specs.turn_records.Events.{Event, Leaving, Opening, called, exited, moved, opened, settled}
use Rattle.delivery_turns.specs.turn_records.Tellable.{IsTellableRule}
use Rattle.turn_writer.specs.proposals.Shares.{AreShares, amount_under}
use Rattle.turn_writer.specs.proposals.declared.allocations.Share.{Share}
use Rattle.delivery_turns.specs.world_state.Good.{AreGood, AreNamed, IsGoodEffect, IsGoodWorld, IsRule, IsSettled, IsSettling}
use Rattle.delivery_turns.specs.world_state.Known.{IsHanded}
use Rattle.delivery_turns.specs.world_state.Promises.{CascadeStep, Flow, PromiseBook, all_stepped, cascade, flowing, following, no_promise, notifies, resolving, resolving_to, settlement_at, settles, settling, stepped, target_of}
use Rattle.delivery_turns.specs.world_state.Rights.{slots_at}
use Rattle.delivery_turns.specs.world_state.Worlds.{Effect, State, after, after_all, burn_and_escrows, empty_seat, exit, invitation_move, invite, leaving_events, moves, moves_out, note_call, offer, offer_events, of_own, opening_of, paid_out, payouts_tree, promises_made, resolve}
use Rattle.rule_laws.proofs.world_laws.Kept.{good-after}
use Rattle.rule_laws.proofs.world_laws.Lists.{all_append, all_map, all_read_or, length_append, length_map}
use Rattle.rule_laws.proofs.world_laws.Payouts.{payouts_handed}
use Rattle.delivery_laws.proofs.Printing.{formed_prints}

pub settling_prints : (w : State) → IsGoodWorld w → (s : SettlementView) → IsSettling w s → CanPrintSettlement s
settling_prints w good (ok t) is = formed_prints w good None t is
settling_prints w good (broken t) is = formed_prints w good None t is

settled_prints : (w : State) → IsGoodWorld w → (s : Option SettlementView) → IsSettled w s → IfSome s CanPrintSettlement
settled_prints w good None is = tt
settled_prints w good (Some s) is = settling_prints w good s is.handed

rule_tells : (rule : Exit) → IsRule rule → IsTellableRule rule
rule_tells OnDemand is = tt
rule_tells Waived is = tt
rule_tells (AfterDeadline t) is = is

-- what a seat pays out is handed to its owner once it is left
payouts_print : (w : State) (seat : ℕ) (v : State) → IsGoodWorld w → IsGoodWorld v → IsHanded v (payouts_tree w seat) → CanPrintSettlement (ok (payouts_tree w seat))
payouts_print w seat v good then is = formed_prints v then None (payouts_tree w seat) is

payouts_are_handed : (w : State) (seat : ℕ) (v : State) → IsGoodWorld w → v.rights.payments ≡ w.rights.payments ++ map paid_out (slots_at w.rights.slots seat) → IsHanded v (payouts_tree w seat)
payouts_are_handed w seat v good paid =
    let rows = slots_at w.rights.slots seat in
    let apart = all_read_or AreShares w.rights.slots seat [] good.seats.shares (record { few = omega arith; apart = tt }) in
    let named = all_read_or AreNamed w.rights.slots seat [] good.seats.named tt in
    payouts_handed v (length w.rights.payments) rows apart.apart named
    (omega (arith, ap length paid, length_append w.rights.payments (map paid_out rows), length_map paid_out rows))

-- the call that an effect tells is so
abbrev pub TellsSo : (Event → Type 0) → Effect → Type 0
TellsSo Q (note_call c) = Q (called c)
TellsSo Q _ = Unit {0}

module _ (Q : Event → Type 0) (move : (m : Movement) → Q (moved m)) (leave : (x : Leaving) → Q (exited x)) (start : (o : Opening) → CanPrintOpening o → Q (opened o)) (settle : (n : ℕ) (s : SettlementView) → CanPrintSettlement s → Q (settled n s)) where
  abbrev All : List Event → Type 0
  All es = AllByRecursion Q es

  moves_so : (ms : List Movement) → All (map moved ms)
  moves_so [] = tt
  moves_so (m ∷ ms) = (move m, moves_so ms)

  -- ---- settling

  steps_so : (v : SettlementView) → CanPrintSettlement v → (ss : List CascadeStep) (f : Flow) → All f.log → All (all_stepped v ss f).log
  steps_so v can [] f log = log
  steps_so v can (settles p ∷ ss) f log = steps_so v can ss (stepped v (settles p) f) (all_append Q f.log (settled p v ∷ []) log (settle p v can, tt))
  steps_so v can (notifies p ∷ ss) f log = steps_so v can ss (stepped v (notifies p) f) log

  settling_so : (p : ℕ) (v : SettlementView) (b : PromiseBook) (ws : List Delivery) (l : List Event) → CanPrintSettlement v → All l → All (settling p v b ws l).log
  settling_so p v b ws l can log = steps_so v can (cascade (length b.settled) b.follows p) (flowing b ws l) log

  following_so : (s : Option SettlementView) (p q : ℕ) (b : PromiseBook) (ws : List Delivery) (l : List Event) → IfSome s CanPrintSettlement → All l → All (following s p q b ws l).log
  following_so (Some v) p q b ws l can log = settling_so p v b ws l can log
  following_so None p q b ws l can log = log

  to_so : (t : Option ℕ) (p : ℕ) (v : SettlementView) (b : PromiseBook) (ws : List Delivery) (l : List Event) → CanPrintSettlement v → ((q : ℕ) → IfSome (settlement_at b.settled q) CanPrintSettlement) → All l → All (resolving_to t p v b ws l).log
  to_so None p v b ws l can known log = settling_so p v b ws l can log
  to_so (Some q) p v b ws l can known log = following_so (settlement_at b.settled q) p q b ws l (known q) log

  -- ---- effects

  module _ (w : State) (good : IsGoodWorld w) where
    known_so : (q : ℕ) → IfSome (settlement_at w.promises.settled q) CanPrintSettlement
    known_so q =
        let prints = λ (s : Option SettlementView). IfSome s CanPrintSettlement in
        all_read_or prints w.promises.settled q no_promise (all_map (IsSettled w) prints (settled_prints w good) w.promises.settled good.settled) tt

    resolving_so : (p : ℕ) (v : SettlementView) (l : List Event) → CanPrintSettlement v → All l → All (resolving p v w.promises w.waiting l).log
    resolving_so p v l can log = to_so (target_of v) p v w.promises w.waiting l can known_so log

    effect_so : (e : Effect) → IsGoodEffect w e → TellsSo Q e → All w.log → All (after w e).log
    effect_so (moves ms) can told log = all_append Q w.log (map moved ms) log (moves_so ms)
    effect_so (offer o) can told log =
        all_append Q w.log (offer_events w o) log
        (start _ (record { few = omega (arith, can.proposal.fits.few); apart = recursion_from_All (λ (r : Share). amount_under r.keyword o.proposal.want ≡ None) o.proposal.give can.proposal.fits.apart; rule = rule_tells o.proposal.exit can.proposal.rule }), moves_so (burn_and_escrows o))
    effect_so (empty_seat i rule) can told log =
        all_append Q w.log (opening_of w i (of_own rule) ∷ settled (promises_made w) (ok null) ∷ []) log
        (start _ (record { few = omega arith; apart = tt; rule = rule_tells rule can.timely }), (settle (promises_made w) (ok null) tt, tt))
    effect_so (exit seat cause) can told log =
        let v = after w (exit seat cause) in
        let is = payouts_are_handed w seat v good refl in
        resolving_so (pair_at w.pairs seat).payouts (ok (payouts_tree w seat)) (w.log ++ leaving_events w seat cause)
        (payouts_print w seat v good (good-after w (exit seat cause) can good) is) (all_append Q w.log (leaving_events w seat cause) log (leave _, moves_so (moves_out w seat)))
    effect_so (invite d) can told log = all_append Q w.log (moved (invitation_move w) ∷ []) log (move (invitation_move w), tt)
    effect_so (resolve p v) can told log = resolving_so p v w.log (settling_prints w good v can.handed) log
    effect_so (note_call c) can told log = all_append Q w.log (called c ∷ []) log (told, tt)
    effect_so e can told log = log

  pub effects_so : (w : State) (es : List Effect) → IsGoodWorld w → AreGood w es → AllByRecursion (TellsSo Q) es → All w.log → All (after_all w es).log
  effects_so w [] good are told log = log
  effects_so w (e ∷ es) good are told log = effects_so (after w e) es (good-after w e are.0 good) are.1 told.1 (effect_so w good e are.0 told.0 log)
