-- A seat that was left was paid out, and stays so.
use Rattle.std.specs.Prelude.{slice_set}
use Rattle.std.proofs.Common.{◌≡◌, ◌≢◌, inl, inr, ℕ, zero, suc, ◌<◌, List, [], ◌∷◌, ◌++◌, Some, None, length, sym, ◌∙◌, ap, subst, arith}
use Rattle.std.proofs.lemmas.Bool.{cases_eq}
use Rattle.std.specs.List.{flat_map}
use Rattle.world_state.proofs.lemmas.ListEdits.{length_push, length_set, read_before, read_other, read_pushed, read_set}
use Rattle.world_state.specs.actors.SeatPromises.{no_pair, pair_at}
use Rattle.world_state.specs.actors.declared.instance_store.seat_promises.SeatPair.{SeatPair}
use Rattle.world_state.specs.promise_store.Linked.{followers}
use Rattle.world_state.specs.promise_store.States.{SettlementView, ok}
use Rattle.world_state.specs.promise_store.declared.links.Following.{Following}
use Rattle.world_state.specs.proposals.declared.allocations.Share.{Share}
use Rattle.world_state.specs.Good.{ArePaidOut, IsGoodEffect, IsGoodWorld, IsPair, IsPaidOut}
use Rattle.world_state.specs.Promises.{CascadeStep, Flow, all_stepped, cascade, flowing, no_promise, notifies, settlement_at, settles, stepped}
use Rattle.world_state.specs.Rights.{slots_at}
use Rattle.world_state.specs.Worlds.{Effect, Seat, State, after, left_seat, leaving_events, new_seat, no_seat, of_own, offered_by, payments_tree, payouts_tree, promises_made, seat_at, empty_seat, exit, offer}
use Rattle.world_laws.proofs.Followings.{settled-after}
use Rattle.world_laws.proofs.Growing.{grows-after}
use Rattle.world_laws.proofs.Instances.{open_made}
use Rattle.world_laws.proofs.Lists.{all_read}

-- ---- what a cascade settles its promise with

steps_hold : (v : SettlementView) (p : ℕ) (ss : List CascadeStep) (f : Flow) → p < length f.settled → settlement_at f.settled p ≡ Some v → settlement_at (all_stepped v ss f).settled p ≡ Some v
steps_hold v p [] f lt is = is
steps_hold v p (notifies q ∷ ss) f lt is = steps_hold v p ss (stepped v (notifies q) f) lt is
steps_hold v p (settles q ∷ ss) f lt is =
    steps_hold v p ss (stepped v (settles q) f) (omega (arith, lt, length_set f.settled q (Some v)))
    (elim (cases_eq q p) [
      | inl same ↦ subst (λ k. settlement_at (slice_set f.settled k (Some v)) p ≡ Some v) (sym same) (read_set f.settled p (Some v) no_promise lt)
      | inr other ↦ read_other f.settled q p (Some v) no_promise other ∙ is
    ])

cascade_holds : (v : SettlementView) (n : ℕ) (fs : List Following) (p : ℕ) (f : Flow) → p < length f.settled → settlement_at (all_stepped v (cascade n fs p) f).settled p ≡ Some v
cascade_holds v zero fs p f lt = steps_hold v p (notifies p ∷ []) (stepped v (settles p) f) (omega (arith, lt, length_set f.settled p (Some v))) (read_set f.settled p (Some v) no_promise lt)
cascade_holds v (suc n) fs p f lt = steps_hold v p (flat_map (λ q. cascade n fs q) (followers fs p) ++ notifies p ∷ []) (stepped v (settles p) f) (omega (arith, lt, length_set f.settled p (Some v))) (read_set f.settled p (Some v) no_promise lt)

-- ---- by effect

paid_stays : (w : State) (e : Effect) → IsGoodEffect w e → IsGoodWorld w → (s : ℕ) (shares : List Share) → s < length w.seats → (seat_at w.seats s).last ≡ Some shares → IsPaidOut (after w e).promises.settled (pair_at (after w e).pairs s) shares
paid_stays w e can good s shares lt is =
    let was = good.paid_out.each s shares lt is in
    let made : s < length w.pairs = omega (arith, lt, good.seats.paired) in
    let pair = all_read (IsPair (promises_made w)) w.pairs s no_pair good.paired made in
    let given : settlement_at (after w e).promises.settled (pair_at w.pairs s).payouts ≡ Some (ok (payments_tree was.first shares)) = settled-after w e (pair_at w.pairs s).payouts (ok (payments_tree was.first shares)) can good pair.payouts was.given in
    record {
      first = was.first;
      given = subst (λ (q : SeatPair). settlement_at (after w e).promises.settled q.payouts ≡ Some (ok (payments_tree was.first shares))) (sym ((grows-after w e).pairs.same s made)) given;
    }

none_is : (shares : List Share) → None ≡ Some shares → ⊥
none_is shares e = cc

same_shares : (a b : List Share) → Some a ≡ Some b → a ≡ b
same_shares a b e = cc

pub paid_out-after : (w : State) (e : Effect) → IsGoodEffect w e → IsGoodWorld w → ArePaidOut (after w e).seats (after w e).pairs (after w e).promises.settled
paid_out-after w (offer o) can good =
    let new = new_seat (offered_by w o).instance o.proposal in
    record {
      each = λ s shares lt is. elim (cases_eq (length w.seats) s) [
        | inl here ↦ absurd (none_is shares (sym (ap (λ (q : Seat). q.last) (read_pushed w.seats new no_seat s (sym here))) ∙ is))
        | inr other ↦
            let apart : s ≢ length w.seats = λ e. other (sym e) in
            paid_stays w (offer o) can good s shares (omega (arith, lt, apart, length_push w.seats new)) (sym (ap (λ (q : Seat). q.last) (read_before w.seats new no_seat s other)) ∙ is)
      ];
    }
paid_out-after w (empty_seat i rule) can good =
    let new = new_seat i (of_own rule) in
    record {
      each = λ s shares lt is. elim (cases_eq (length w.seats) s) [
        | inl here ↦ absurd (none_is shares (sym (ap (λ (q : Seat). q.last) (read_pushed w.seats new no_seat s (sym here))) ∙ is))
        | inr other ↦
            let apart : s ≢ length w.seats = λ e. other (sym e) in
            paid_stays w (empty_seat i rule) can good s shares (omega (arith, lt, apart, length_push w.seats new)) (sym (ap (λ (q : Seat). q.last) (read_before w.seats new no_seat s other)) ∙ is)
      ];
    }
paid_out-after w (exit n cause) can good =
    let shares_of = slots_at w.rights.slots n in
    let left = left_seat (seat_at w.seats n) shares_of in
    let made = open_made w.seats n can in
    let p = (pair_at w.pairs n).payouts in
    let pair = all_read (IsPair (promises_made w)) w.pairs n no_pair good.paired (omega (arith, made, good.seats.paired)) in
    let v = after w (exit n cause) in
    let here : IsPaidOut v.promises.settled (pair_at w.pairs n) shares_of = record {
      first = length w.rights.payments;
      given = cascade_holds (ok (payouts_tree w n)) (length w.promises.settled) w.promises.follows p (flowing w.promises w.waiting (w.log ++ leaving_events w n cause)) pair.payouts;
    } in
    record {
      each = λ s shares lt is. elim (cases_eq n s) [
        | inl same ↦
            let at : (seat_at (slice_set w.seats n left) s).last ≡ Some shares_of = subst (λ k. (seat_at (slice_set w.seats n left) k).last ≡ Some shares_of) same (ap (λ (q : Seat). q.last) (read_set w.seats n left no_seat made)) in
            subst (λ k. IsPaidOut v.promises.settled (pair_at w.pairs k) shares) same (subst (IsPaidOut v.promises.settled (pair_at w.pairs n)) (same_shares shares_of shares (sym at ∙ is)) here)
        | inr other ↦ paid_stays w (exit n cause) can good s shares (omega (arith, lt, length_set w.seats n left)) (sym (ap (λ (q : Seat). q.last) (read_other w.seats n s left no_seat other)) ∙ is)
      ];
    }
paid_out-after w e can good = record { each = paid_stays w e can good }
