-- By effect: what promises are owed.
use Rattle.std.specs.Prelude.{◌&&◌, is_none, nat_lt, slice_set}
use Rattle.std.specs.List.{AllByRecursion}
use Rattle.std.proofs.Common.{◌≡◌, inl, inr, ℕ, zero, suc, ◌+◌, ◌<◌, ◌≤◌, ◌==◌, Bool, true, false, cond, List, [], ◌∷◌, ◌++◌, Some, None, Option, length, map, refl, sym, ◌∙◌, ap, subst, arith}
use Rattle.std.proofs.lemmas.Bool.{cases_eq, eq-eqb, ne_eqb}
use Rattle.world_state.proofs.lemmas.ListEdits.{length_push, read_before, read_pushed}
use Rattle.world_state.specs.actors.SeatPromises.{pair_at}
use Rattle.world_state.specs.actors.declared.instance_store.seat_promises.SeatPair.{SeatPair}
use Rattle.world_state.specs.host_data.Tree.{null}
use Rattle.world_state.specs.promise_store.Linked.{leader}
use Rattle.world_state.specs.promise_store.States.{SettlementView, broken, ok}
use Rattle.world_state.specs.promise_store.declared.links.Following.{Following}
use Rattle.world_state.specs.proposals.declared.allocations.Share.{Share}
use Rattle.world_state.specs.proposals.declared.offers.Exit.{Exit}
use Rattle.world_state.specs.proposals.declared.offers.Exit.TheVariants.{AfterDeadline, OnDemand, Waived}
use Rattle.world_state.specs.turn_stores.Schedules.{Schedule, due_by}
use Rattle.world_state.specs.turn_records.Deliveries as deliveries
use Rattle.world_state.specs.turn_records.Deliveries.{Delivery, Notice, promise_of}
use Rattle.world_state.specs.Good.{AreOwed, IsGoodEffect, IsGoodWorld, IsLine, IsTimed, IsTimedEntry, is_for, one_if, owed_answers, owed_notices, owed_payouts, owes}
use Rattle.world_state.specs.Promises.{IsPending, PromiseBook, asking, settlement_at, told_at_once, with_promise}
use Rattle.world_state.specs.Rights.{slots_at}
use Rattle.world_state.specs.Worlds.{Effect, Seat, State, after, deadline_now, due_at, due_now, handler_call, left_seat, new_seat, next_pair, of_own, offered_by, payouts_tree, promises_made, request_of, seat_at, seats_left, sent_call, starting_call, arrive, empty_seat, exit, offer, resolve, send, set_time, start, wake, when}
use Rattle.world_laws.proofs.Lists.{all_filter, all_map}
use Rattle.world_laws.proofs.Owed.{answers-append, promise_made, resolving_owed}

notices-append : (xs ys : List Notice) (p : ℕ) → owed_notices (xs ++ ys) p ≡ owed_notices xs p + owed_notices ys p
notices-append [] ys p = omega arith
notices-append (x ∷ xs) ys p = omega (arith, notices-append xs ys p)

payouts-push : (seats : List Seat) (pairs : List SeatPair) (s : Seat) (q : SeatPair) (p : ℕ) → length pairs ≡ length seats → owed_payouts (seats ++ s ∷ []) (pairs ++ q ∷ []) p ≡ owed_payouts seats pairs p + one_if (is_none s.last && (q.payouts == p))
payouts-push [] [] s q p e = omega arith
payouts-push [] (x ∷ xs) s q p e = absurd (omega (arith, e))
payouts-push (t ∷ ts) [] s q p e = absurd (omega (arith, e))
payouts-push (t ∷ ts) (x ∷ xs) s q p e = omega (arith, payouts-push ts xs s q p (omega (arith, e)))

pub payouts-left : (seats : List Seat) (pairs : List SeatPair) (n : ℕ) (shares : List Share) (p : ℕ) → length pairs ≡ length seats → (seat_at seats n).last ≡ None → owed_payouts (slice_set seats n (left_seat (seat_at seats n) shares)) pairs p + one_if ((pair_at pairs n).payouts == p) ≡ owed_payouts seats pairs p
payouts-left [] pairs n shares p e is = cc
payouts-left (t ∷ ts) [] n shares p e is = absurd (omega (arith, e))
payouts-left (t ∷ ts) (x ∷ xs) zero shares p e is = omega (arith, ap (λ (o : Option (List Share)). one_if (is_none o && (x.payouts == p))) is)
payouts-left (t ∷ ts) (x ∷ xs) (suc n) shares p e is = omega (arith, payouts-left ts xs n shares p (omega (arith, e)) is)

at_most_one : (b : Bool) → one_if b ≤ 1
at_most_one true = omega arith
at_most_one false = omega arith

no_leader : (fs : List Following) (n : ℕ) → AllByRecursion (λ (f : Following). f.promise < n) fs → leader fs n ≡ None
no_leader [] n all = refl
no_leader (f ∷ fs) n all = ap (λ t. cond t (Some f.target) (leader fs n)) (ne_eqb f.promise n (λ (e : f.promise ≡ n). absurd (omega (arith, e, all.0)))) ∙ no_leader fs n all.1

module _ (seats : List Seat) (pairs : List SeatPair) (ds : List Delivery) (b : PromiseBook) (is : AreOwed seats pairs ds b) where
  -- a promise that wasn't made is owed to none
  fresh : (n : ℕ) → length b.settled ≤ n → owes seats pairs ds b n ≡ 0
  fresh n le = by (owes seats pairs ds b n) refl
    where
      by : (k : ℕ) → owes seats pairs ds b n ≡ k → owes seats pairs ds b n ≡ 0
      by zero e = e
      by (suc k) e = let lt = promise_made b.settled n (is.pending n (omega (arith, e))).unsettled in absurd (omega (arith, lt, le))

  still_pending : (s : Option SettlementView) (p : ℕ) → IsPending b p → settlement_at (b.settled ++ s ∷ []) p ≡ None
  still_pending s p pends = let lt = promise_made b.settled p pends.unsettled in read_before b.settled s (Some (broken null)) p (λ (e : length b.settled ≡ p). absurd (omega (arith, e, lt))) ∙ pends.unsettled

  more_made : (s : Option SettlementView) → AllByRecursion (λ (f : Following). f.promise < length (b.settled ++ s ∷ [])) b.follows
  more_made s = all_map (λ (f : Following). f.promise < length b.settled) (λ (f : Following). f.promise < length (b.settled ++ s ∷ [])) (λ f lt. omega (arith, lt, length_push b.settled s)) b.follows is.made

  -- one more promise, owed to none
  more_promise : (s : Option SettlementView) → AreOwed seats pairs ds (with_promise s b)
  more_promise s = record {
    made = more_made s;
    once = is.once;
    pending = λ p some. record { unsettled = still_pending s p (is.pending p some); alone = (is.pending p some).alone };
  }

  -- one more promise, owed once
  more_owed : (new_seats : List Seat) (new_pairs : List SeatPair) (es : List Delivery) (ns : List Notice)
      → ((p : ℕ) → owes new_seats new_pairs es (record { settled = b.settled ++ None ∷ []; follows = b.follows; requests = ns }) p ≡ owes seats pairs ds b p + one_if (length b.settled == p))
      → AreOwed new_seats new_pairs es (record { settled = b.settled ++ None ∷ []; follows = b.follows; requests = ns })
  more_owed new_seats new_pairs es ns sums = record {
    made = more_made None;
    once = λ p. elim (cases_eq (length b.settled) p) [
      | inl same ↦ omega (arith, sums p, at_most_one (length b.settled == p), fresh p (omega (arith, same)))
      | inr other ↦ omega (arith, sums p, is.once p, ap one_if (ne_eqb (length b.settled) p other))
    ];
    pending = λ p some. elim (cases_eq (length b.settled) p) [
      | inl same ↦ record { unsettled = read_pushed b.settled None (Some (broken null)) p (sym same); alone = subst (λ k. leader b.follows k ≡ None) same (no_leader b.follows (length b.settled) is.made) }
      | inr other ↦
          let was = is.pending p (omega (arith, some, sums p, ap one_if (ne_eqb (length b.settled) p other))) in
          record { unsettled = still_pending None p was; alone = was.alone }
    ];
  }

  -- more waits, by which nothing is owed
  more_quiet : (es : List Delivery) → ((p : ℕ) → owed_answers es p ≡ 0) → AreOwed seats pairs (ds ++ es) b
  more_quiet es quiet =
      let same : (p : ℕ) → owes seats pairs (ds ++ es) b p ≡ owes seats pairs ds b p = λ p. omega (arith, answers-append ds es p, quiet p) in
      record { made = is.made; once = λ p. omega (arith, same p, is.once p); pending = λ p some. is.pending p (omega (arith, some, same p)) }

due_now_quiet : (t : ℕ) (d : Delivery) (s : Schedule Delivery) → promise_of d ≡ None → (p : ℕ) → owed_answers (due_now t d s) p ≡ 0
due_now_quiet t d s none p = by (nat_lt s.time t)
  where
    by : (b : Bool) → owed_answers (cond b [] (d ∷ [])) p ≡ 0
    by true = refl
    by false = omega (arith, ap (λ (o : Option ℕ). one_if (is_for o p)) none)

deadline_now_quiet : (rule : Exit) (seat : ℕ) (s : Schedule Delivery) (p : ℕ) → owed_answers (deadline_now rule seat s) p ≡ 0
deadline_now_quiet (AfterDeadline t) seat s p = due_now_quiet t (deliveries.deadline seat) s refl p
deadline_now_quiet OnDemand seat s p = refl
deadline_now_quiet Waived seat s p = refl

timed_quiet : (w : State) (d : Delivery) → IsTimed w d → promise_of d ≡ None
timed_quiet w (deliveries.wake d) is = refl
timed_quiet w (deliveries.deadline s) is = refl
timed_quiet w (deliveries.call c) is = refl
timed_quiet w (deliveries.give c) is = refl
timed_quiet w (deliveries.tick t) is = refl
timed_quiet w (deliveries.bad r) is = refl
timed_quiet w (deliveries.send s) is = absurd is
timed_quiet w (deliveries.start s) is = absurd is
timed_quiet w (deliveries.offer o) is = absurd is
timed_quiet w (deliveries.notify n) is = absurd is

line_quiet : (d : Delivery) → IsLine d → promise_of d ≡ None
line_quiet (deliveries.call c) is = refl
line_quiet (deliveries.give c) is = refl
line_quiet (deliveries.tick t) is = refl
line_quiet (deliveries.bad r) is = refl
line_quiet (deliveries.wake d) is = refl
line_quiet (deliveries.deadline s) is = refl
line_quiet (deliveries.send s) is = absurd is
line_quiet (deliveries.start s) is = absurd is
line_quiet (deliveries.offer o) is = absurd is
line_quiet (deliveries.notify n) is = absurd is

due_quiet : (w : State) (es : List (ℕ × Delivery)) → AllByRecursion (IsTimedEntry w) es → (p : ℕ) → owed_answers (map (λ (e : ℕ × Delivery). e.1) es) p ≡ 0
due_quiet w [] all p = refl
due_quiet w (e ∷ es) all p = omega (arith, due_quiet w es all.1 p, ap (λ (o : Option ℕ). one_if (is_for o p)) (timed_quiet w e.1 all.0))

asked_owed : (w : State) (s : Option SettlementView) (n : Notice) → n.answer ≡ promises_made w → AreOwed w.seats w.pairs w.waiting w.promises → AreOwed w.seats w.pairs (w.waiting ++ told_at_once s n) (asking s n (with_promise None w.promises))
asked_owed w (Some v) n e is = more_owed w.seats w.pairs w.waiting w.promises is w.seats w.pairs (w.waiting ++ told_at_once (Some v) n) w.promises.requests (λ p. omega (arith, answers-append w.waiting (told_at_once (Some v) n) p, ap (λ k. one_if (k == p)) e))
asked_owed w None n e is = more_owed w.seats w.pairs w.waiting w.promises is w.seats w.pairs (w.waiting ++ []) (w.promises.requests ++ n ∷ []) (λ p. omega (arith, answers-append w.waiting [] p, notices-append w.promises.requests (n ∷ []) p, ap (λ k. one_if (k == p)) e))

pub owed-after : (w : State) (e : Effect) → IsGoodEffect w e → IsGoodWorld w → AreOwed (after w e).seats (after w e).pairs (after w e).waiting (after w e).promises
owed-after w (offer o) can good =
    let h = handler_call w o in
    let late = deadline_now o.proposal.exit (length w.seats) w.schedule in
    let new = new_seat (offered_by w o).instance o.proposal in
    let more = length_push w.promises.settled None in
    let first = more_owed w.seats w.pairs w.waiting w.promises good.owed w.seats w.pairs (w.waiting ++ h ∷ late) w.promises.requests (λ p. omega (arith, answers-append w.waiting (h ∷ late) p, deadline_now_quiet o.proposal.exit (length w.seats) w.schedule p)) in
    more_owed w.seats w.pairs (w.waiting ++ h ∷ late) (with_promise None w.promises) first (w.seats ++ new ∷ []) (w.pairs ++ next_pair w ∷ []) (w.waiting ++ h ∷ late) w.promises.requests
    (λ p. omega (arith, payouts-push w.seats w.pairs new (next_pair w) p good.seats.paired, ap (λ k. one_if (k == p)) more))
owed-after w (empty_seat i rule) can good =
    let late = deadline_now rule (length w.seats) w.schedule in
    let new = new_seat i (of_own rule) in
    let more = length_push w.promises.settled (Some (ok null)) in
    let first = more_quiet w.seats w.pairs w.waiting (with_promise (Some (ok null)) w.promises) (more_promise w.seats w.pairs w.waiting w.promises good.owed (Some (ok null))) late (deadline_now_quiet rule (length w.seats) w.schedule) in
    more_owed w.seats w.pairs (w.waiting ++ late) (with_promise (Some (ok null)) w.promises) first (w.seats ++ new ∷ []) (w.pairs ++ next_pair w ∷ []) (w.waiting ++ late) w.promises.requests
    (λ p. omega (arith, payouts-push w.seats w.pairs new (next_pair w) p good.seats.paired, ap (λ k. one_if (k == p)) more))
owed-after w (exit s cause) can good =
    let shares = slots_at w.rights.slots s in
    let seats = seats_left w.seats s shares in
    let q = (pair_at w.pairs s).payouts in
    let less : (p : ℕ) → owes seats w.pairs w.waiting w.promises p + one_if (q == p) ≡ owes w.seats w.pairs w.waiting w.promises p = λ p. omega (arith, payouts-left w.seats w.pairs s shares p good.seats.paired can) in
    let one : one_if (q == q) ≡ 1 = ap one_if (eq-eqb q q refl) in
    let was : AreOwed seats w.pairs w.waiting w.promises = record { made = good.owed.made; once = λ p. omega (arith, less p, good.owed.once p); pending = λ p some. good.owed.pending p (omega (arith, some, less p)) } in
    resolving_owed seats w.pairs q w.promises w.waiting _ was (omega (arith, less q, one, good.owed.once q)) (good.owed.pending q (omega (arith, less q, one))) (ok (payouts_tree w s))
owed-after w (resolve p v) can good = resolving_owed w.seats w.pairs p w.promises w.waiting w.log good.owed can.free can.pending v
owed-after w (send i target method arguments) can good =
    let d = sent_call w i target method arguments in
    more_owed w.seats w.pairs w.waiting w.promises good.owed w.seats w.pairs (w.waiting ++ d ∷ []) w.promises.requests (λ p. omega (arith, answers-append w.waiting (d ∷ []) p))
owed-after w (start s) can good =
    let d = starting_call w s in
    more_owed w.seats w.pairs w.waiting w.promises good.owed w.seats w.pairs (w.waiting ++ d ∷ []) w.promises.requests (λ p. omega (arith, answers-append w.waiting (d ∷ []) p))
owed-after w (when i p f held) can good = asked_owed w (settlement_at w.promises.settled p) (request_of w i p f held) refl good.owed
owed-after w (wake t d) can good = more_quiet w.seats w.pairs w.waiting w.promises good.owed (due_now t (deliveries.wake d) w.schedule) (due_now_quiet t (deliveries.wake d) w.schedule refl)
owed-after w (set_time t) can good = more_quiet w.seats w.pairs w.waiting w.promises good.owed (due_at t w.schedule) (due_quiet w (due_by t w.schedule.waiting) (all_filter (IsTimedEntry w) _ w.schedule.waiting good.timed))
owed-after w (arrive d) can good = more_quiet w.seats w.pairs w.waiting w.promises good.owed (d ∷ []) (λ p. omega (arith, ap (λ (o : Option ℕ). one_if (is_for o p)) (line_quiet d can)))
owed-after w _ can good = good.owed
