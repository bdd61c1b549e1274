-- The promise that was made last: none follows it, and none is to be told of it, so that settling it settles it alone.
use Rattle.std.specs.Prelude.{not, slice_set}
use Rattle.std.specs.List.{AllByRecursion, filter, flat_map}
use Rattle.std.proofs.Common.{◌≡◌, ℕ, zero, suc, ◌<◌, cond, List, [], ◌∷◌, ◌++◌, Some, None, length, map, refl, sym, ◌∙◌, ap, subst, arith}
use Rattle.std.proofs.lemmas.Bool.{ne_eqb}
use Rattle.world_laws.proofs.lemmas.ListEdits.{read_pushed}
use Rattle.world_laws.specs.host_data.Tree.{null}
use Rattle.world_laws.specs.promise_store.Linked.{followers, leader}
use Rattle.world_reads.specs.registers.RegisterStates.{RegisterState, registers_of}
use Rattle.world_laws.specs.promise_store.States.{SettlementView, broken, ok}
use Rattle.world_reads.specs.registers.PromiseTables.{beside}
use Rattle.world_laws.specs.promise_store.declared.links.Following.{Following}
use Rattle.world_laws.specs.turn_records.Deliveries.{Delivery, Notice, notify}
use Rattle.world_laws.specs.turn_records.Events as events
use Rattle.world_laws.specs.turn_records.Events.{Event}
use Rattle.world_laws.specs.world_state.Good.{IsFollowing}
use Rattle.world_laws.specs.world_state.Promises.{CascadeStep, IsPending, PromiseBook, Resolved, all_stepped, as_resolved, asks, cascade, flowing, notifies, settles, settling, with_promise}
use Rattle.world_laws.specs.proposals.declared.offers.Exit.{Exit}
use Rattle.world_laws.specs.proposals.declared.offers.Proposal.{Proposal}
use Rattle.world_reads.specs.host_world.Parts.{Staged, state_of}
use Rattle.world_laws.specs.world_state.Rights.{Rights}
use Rattle.world_laws.specs.world_state.Worlds.{Seat, after, empty_seat, of_own}
use Rattle.register_effects.specs.StoreEffects.{AreMade, waited, with_null_promise, with_settled_pair}

no_leader : (fs : List Following) (n : ℕ) → AllByRecursion (IsFollowing n) fs → leader fs n ≡ None
no_leader [] n all = refl
no_leader (f ∷ fs) n all = ap (λ t. cond t (Some f.target) (leader fs n)) (ne_eqb f.promise n (λ (e : f.promise ≡ n). absurd (omega (arith, e, all.0.promise)))) ∙ no_leader fs n all.1

no_followers : (fs : List Following) (n : ℕ) → AllByRecursion (IsFollowing n) fs → followers fs n ≡ []
no_followers [] n all = refl
no_followers (f ∷ fs) n all = ap (λ t. cond t (followers fs n ++ f.promise ∷ []) (followers fs n)) (ne_eqb f.target n (λ (e : f.target ≡ n). absurd (omega (arith, e, all.0.target)))) ∙ no_followers fs n all.1

module _ (n : ℕ) where
  asked_of : (ns : List Notice) → AllByRecursion (λ (m : Notice). m.promise < n) ns → filter (asks n) ns ≡ []
  asked_of [] all = refl
  asked_of (m ∷ ns) all = ap (λ t. cond t (m ∷ filter (asks n) ns) (filter (asks n) ns)) (ne_eqb m.promise n (λ (e : m.promise ≡ n). absurd (omega (arith, e, all.0)))) ∙ asked_of ns all.1

  asked_of_others : (ns : List Notice) → AllByRecursion (λ (m : Notice). m.promise < n) ns → filter (λ m. not (asks n m)) ns ≡ ns
  asked_of_others [] all = refl
  asked_of_others (m ∷ ns) all = ap (λ t. cond (not t) (m ∷ filter (λ k. not (asks n k)) ns) (filter (λ k. not (asks n k)) ns)) (ne_eqb m.promise n (λ (e : m.promise ≡ n). absurd (omega (arith, e, all.0)))) ∙ ap (λ z. m ∷ z) (asked_of_others ns all.1)

-- it is settled, and then all that ask for it would be told
alone : (m : ℕ) (fs : List Following) (p : ℕ) → followers fs p ≡ [] → cascade m fs p ≡ settles p ∷ notifies p ∷ []
alone zero fs p none = refl
alone (suc m) fs p none = ap (λ qs. settles p ∷ flat_map (λ q. cascade m fs q) qs ++ notifies p ∷ []) none

set_pushed : {X : Type 0} (xs : List X) (x y : X) → slice_set (xs ++ x ∷ []) (length xs) y ≡ xs ++ y ∷ []
set_pushed [] x y = refl
set_pushed (z ∷ zs) x y = ap (λ l. z ∷ l) (set_pushed zs x y)

append_none : {X : Type 0} (xs : List X) → xs ++ [] ≡ xs
append_none [] = refl
append_none (x ∷ xs) = ap (λ l. x ∷ l) (append_none xs)

pub fresh_pends : (b : PromiseBook) → AreMade b → IsPending (with_promise None b) (length b.settled)
fresh_pends b made = record {
  unsettled = read_pushed b.settled None (Some (broken null)) (length b.settled) refl;
  alone = no_leader b.follows (length b.settled) made.followed;
}

-- the promise that was just made is settled
pub fresh_settled : (b : PromiseBook) (v : SettlementView) (waiting : List Delivery) (log : List Event) → AreMade b
    → settling (length b.settled) v (with_promise None b) waiting log
    ≡ record { promises = with_promise (Some v) b; waiting = waiting; log = log ++ events.settled (length b.settled) v ∷ [] }
fresh_settled b v waiting log made =
    let n = length b.settled in
    let none = no_followers b.follows n made.followed in
    ap (λ (steps : List CascadeStep). as_resolved b.follows (all_stepped v steps (flowing (with_promise None b) waiting log))) (alone (length (b.settled ++ None ∷ [])) b.follows n none)
    ∙ λ i. record {
      promises = record { settled = set_pushed b.settled None (Some v) i; follows = b.follows; requests = asked_of_others n b.requests made.asked i };
      waiting = (ap (λ (ns : List Notice). waiting ++ map notify ns) (asked_of n b.requests made.asked) ∙ append_none waiting) i;
      log = log ++ events.settled n v ∷ [];
    }

-- a promise that was just made, and is settled with null
pub null_promised : (p : RegisterState) (made_book then_book : PromiseBook) (n : ℕ) (v : SettlementView) (waiting : List Delivery) (log : List Event) → AreMade p.promises
    → made_book ≡ with_promise None p.promises → n ≡ length p.promises.settled → v ≡ ok null
    → beside then_book waiting log ≡ settling n v made_book p.waiting p.log
    → record p { promises = then_book; waiting = waiting; log = log } ≡ with_null_promise p
null_promised p made_book then_book n v waiting log made is number of_null settled =
    let all = settled ∙ (λ i. settling (number i) (of_null i) (is i) p.waiting p.log) ∙ fresh_settled p.promises (ok null) p.waiting p.log made in
    λ i. record p { promises = (ap (λ (r : Resolved). r.promises) all) i; waiting = (ap (λ (r : Resolved). r.waiting) all) i; log = (ap (λ (r : Resolved). r.log) all) i }

pub pends_now : (b made_book : PromiseBook) (n : ℕ) → AreMade b → made_book ≡ with_promise None b → n ≡ length b.settled → IsPending made_book n
pends_now b made_book n made is number = subst (λ (x : PromiseBook). IsPending x n) (sym is) (subst (λ m. IsPending (with_promise None b) m) (sym number) (fresh_pends b made))

-- ---- a seat of an instance's own

append_one : {X : Type 0} (xs : List X) (x : X) (ys : List X) → (xs ++ x ∷ []) ++ ys ≡ xs ++ x ∷ ys
append_one [] x ys = refl
append_one (z ∷ zs) x ys = ap (λ l. z ∷ l) (append_one zs x ys)

abbrev own_opening : ℕ → ℕ → Proposal → Event
own_opening seat instance q = events.opened (record { seat = seat; instance = instance; proposal = q })

-- its opening is told, it has its promises, and its deadline waits
abbrev own_seat : RegisterState → ℕ → ℕ → Exit → Proposal → RegisterState
own_seat p seat instance rule q = waited rule seat (with_settled_pair (record p { log = p.log ++ own_opening seat instance q ∷ [] }))

pub own_seat_is : (p : RegisterState) (log : List Event) (mid new : RegisterState) (seat instance : ℕ) (rule : Exit) (q : Proposal)
    → log ≡ p.log ++ own_opening seat instance q ∷ [] → q ≡ of_own rule → mid ≡ with_settled_pair (record p { log = log }) → new ≡ waited rule seat mid
    → (r : Rights) (seats : List Seat) (staging : Staged) → length seats ≡ seat → new ≡ registers_of (after (state_of r seats staging p) (empty_seat instance rule))
own_seat_is p log mid new seat instance rule q told own paired waits r seats staging is =
    let one = waits ∙ ap (λ (m : RegisterState). waited rule seat m) (paired ∙ ap (λ (l : List Event). with_settled_pair (record p { log = l })) told) in
    let two : own_seat p seat instance rule q ≡ own_seat p (length seats) instance rule (of_own rule) = λ j. own_seat p (sym is j) instance rule (own j) in
    one ∙ two ∙ λ j. record (own_seat p (length seats) instance rule (of_own rule)) { log = append_one p.log (own_opening (length seats) instance (of_own rule)) (events.settled (length p.promises.settled) (ok null) ∷ []) j }
