-- What a store answers of settling a promise makes of its book what the world's definitions say.
use Rattle.std.specs.Prelude.{cond, is_none, option_map}
use Rattle.std.specs.List.{AllByRecursion, filter, flat_map}
use Rattle.std.proofs.Common.{◌≡◌, inl, inr, ℕ, zero, suc, ◌<◌, ◌≤◌, Bool, true, false, List, [], ◌∷◌, ◌++◌, length, map, Option, Some, None, refl, sym, ◌∙◌, ap, subst, arith}
use Rattle.std.proofs.lemmas.Bool.{cases_eq}
use Rattle.std.proofs.lemmas.Bool.Decides.{nat_tests}
use Rattle.std.proofs.lemmas.List.{append-nil}
use Rattle.world_state.proofs.lemmas.ListEdits.{read_before}
use Rattle.world_state.specs.host_data.Tree.{null}
use Rattle.world_state.specs.promise_store.Cascade.{Settles, settled_in}
use Rattle.world_state.specs.promise_store.Linked.{IsInOrder, Linked, leader, outcome, settlement_of, settling, with_outcomes}
use Rattle.world_state.specs.promise_store.States.{SettlementView, broken, settlement_at as with_number}
use Rattle.world_state.specs.promise_store.declared.links.Consequence.{Consequence}
use Rattle.world_state.specs.promise_store.declared.links.Outcome.{Outcome}
use Rattle.world_state.proofs.promise_store.Changes.{AreBelow, settled_head, settled_other}
use Rattle.world_state.proofs.promise_store.Order.{settled_in_order}
use Rattle.world_state.specs.turn_records.Deliveries.{Delivery, Notice, notify}
use Rattle.world_state.specs.turn_records.Events as events
use Rattle.world_state.specs.Promises as world
use Rattle.world_state.specs.Promises.{CascadeStep, Flow, PromiseBook, all_stepped, asks, cascade, flowing, settlement_at}
use Rattle.registers.specs.Books.{IsBooked, IsOutcomeMade, answered_in, book_by, is_asking, listed, queued, recorded, settled_with, told_of}
use Rattle.registers.proofs.Lists.{everywhere, filter_two, is_zero, length_listed, listed_alike, set_listed, times, times_here, times_other}
use Rattle.registers.proofs.Fresh.{AreFresh, few, fresh, settled_made}
use Rattle.registers.proofs.Folds.{all_set, flows, left_are, told_in_turn, told_once}
use Rattle.registers.proofs.Traces.{IsTraced, notified_by, traced}

-- ---- what is settled, by promise

all_settled : (v : SettlementView) (vs : List SettlementView) (k m : ℕ) (ps : List ℕ) (os : List Outcome) → with_number vs k ≡ v → AreBelow m ps
    → all_set v ps (listed (settled_with os vs) m) ≡ listed (settled_with (with_outcomes k ps os) vs) m
all_settled v vs k m [] os at b = refl
all_settled v vs k m (p ∷ ps) os at b =
    ap (all_set v ps) (set_listed (settled_with os vs) (settled_with (outcome k p ∷ os) vs) m p (Some v) b.0
    (ap (option_map (with_number vs)) (settled_head (outcome k p) os) ∙ ap (λ (x : SettlementView). Some x) at)
    (λ q other. ap (option_map (with_number vs)) (settled_other (outcome k p) os q other)))
    ∙ all_settled v vs k m ps (outcome k p ∷ os) at b.1

-- one more settlement changes none of those before
pub numbered : (m n q k : ℕ) (os : List Outcome) → AllByRecursion (IsOutcomeMade m n) os → settlement_of os q ≡ Some k → k < n
numbered m n q k [] all e = absurd (let two : None ≡ Some k = e in grind arith)
numbered m n q k (o ∷ os) all e = elim (cases_eq o.promise q) [
  | inl is ↦
      let here : Some o.settlement ≡ Some k = sym (settled_head o os) ∙ (ap (settlement_of (o ∷ os)) is ∙ e) in
      let same : o.settlement ≡ k = grind arith in
      omega (arith, same, all.0.settlement)
  | inr other ↦ numbered m n q k os all.1 (sym (settled_other o os q other) ∙ e)
]

pub same_before : (vs : List SettlementView) (v : SettlementView) (m q : ℕ) (os : List Outcome) → AllByRecursion (IsOutcomeMade m (length vs)) os
    → settled_with os vs q ≡ settled_with os (vs ++ v ∷ []) q
same_before vs v m q os all = by (settlement_of os q) refl
  where
    by : (o : Option ℕ) → settlement_of os q ≡ o → option_map (with_number vs) (settlement_of os q) ≡ option_map (with_number (vs ++ v ∷ [])) (settlement_of os q)
    by None e = ap (option_map (with_number vs)) e ∙ sym (ap (option_map (with_number (vs ++ v ∷ []))) e)
    by (Some k) e =
        let lt = numbered m (length vs) q k os all e in
        ap (option_map (with_number vs)) e
        ∙ (ap (λ (x : SettlementView). Some x) (sym (read_before vs v (broken null) k (λ (h : length vs ≡ k). absurd (omega (arith, h, lt)))))
        ∙ sym (ap (option_map (with_number (vs ++ v ∷ []))) e))

-- ---- who still asks

still_asks : (k q : ℕ) (ps : List ℕ) (os : List Outcome) → cond (is_none (settlement_of os q)) (is_zero (times q ps)) false ≡ is_none (settlement_of (with_outcomes k ps os) q)
still_asks k q [] os = by (is_none (settlement_of os q))
  where
    by : (b : Bool) → cond b true false ≡ b
    by true = refl
    by false = refl
still_asks k q (p ∷ ps) os = elim (cases_eq p q) [
  | inl is ↦
      let here : settlement_of (outcome k p ∷ os) q ≡ Some k = ap (settlement_of (outcome k p ∷ os)) (sym is) ∙ settled_head (outcome k p) os in
      let settled : is_none (settlement_of (with_outcomes k ps (outcome k p ∷ os)) q) ≡ false = sym (still_asks k q ps (outcome k p ∷ os)) ∙ ap (λ (s : Option ℕ). cond (is_none s) (is_zero (times q ps)) false) here in
      no (is_none (settlement_of os q)) (times q (p ∷ ps)) (subst (λ x. 1 ≤ times x (p ∷ ps)) is (times_here p ps)) ∙ sym settled
  | inr other ↦
      ap (λ (n : ℕ). cond (is_none (settlement_of os q)) (is_zero n) false) (times_other p q ps other)
      ∙ (ap (λ (s : Option ℕ). cond (is_none s) (is_zero (times q ps)) false) (sym (settled_other (outcome k p) os q other))
      ∙ still_asks k q ps (outcome k p ∷ os))
]
  where
    no : (b : Bool) (n : ℕ) → 1 ≤ n → cond b (is_zero n) false ≡ false
    no true zero h = absurd (omega (arith, h))
    no true (suc n) h = refl
    no false n h = refl

-- whoever asks for a promise that isn't settled is among those that still ask
asks_open : (q : ℕ) (os : List Outcome) (rs : List Notice) → settlement_of os q ≡ None → filter (asks q) (filter (is_asking os) rs) ≡ filter (asks q) rs
asks_open q os rs e = filter_two (asks q) (is_asking os) (asks q) rs (everywhere (λ r. cond (is_asking os r) (asks q r) false ≡ asks q r)
    (λ r. elim (cases_eq r.promise q) [
      | inl is ↦
          let asking : is_asking os r ≡ true = ap is_none (ap (settlement_of os) is ∙ e) in
          ap (λ b. cond b (asks q r) false) asking
      | inr other ↦ let no : asks q r ≡ false = grind (arith, nat_tests) in none_at (is_asking os r) (asks q r) no
    ]) rs)
  where
    none_at : (b c : Bool) → c ≡ false → cond b c false ≡ c
    none_at true c e = refl
    none_at false c e = sym e

asks_all_open : (os : List Outcome) (rs : List Notice) (ps : List ℕ) → ((q : ℕ) → 1 ≤ times q ps → settlement_of os q ≡ None)
    → flat_map (λ q. filter (asks q) (filter (is_asking os) rs)) ps ≡ flat_map (λ q. filter (asks q) rs) ps
asks_all_open os rs [] free = refl
asks_all_open os rs (p ∷ ps) free =
    ap (λ (ns : List Notice). ns ++ flat_map (λ q. filter (asks q) (filter (is_asking os) rs)) ps) (asks_open p os rs (free p (times_here p ps)))
    ∙ ap (λ (ns : List Notice). filter (asks p) rs ++ ns) (asks_all_open os rs ps (λ q h. free q (omega (arith, h))))

-- ---- a promise is settled

-- what is left of the book, and what waits and is told
pub record IsResolved (b : PromiseBook) (ds : List Delivery) (es : List events.Event) (r : world.Resolved) : Type 0 where
  pub promises : b ≡ r.promises
  pub waiting : ds ≡ r.waiting
  pub log : es ≡ r.log

module _ (l : Linked) (vs ws : List SettlementView) (rs : List Notice) (is : IsBooked l vs rs) (k p : ℕ) (v : SettlementView) (es : List Consequence)
    (made : p < l.made) (top : leader l.follows p ≡ None) (unsettled : settlement_of l.outcomes p ≡ None) (comes : Settles l (p ∷ []) es)
    (at : with_number ws k ≡ v) (as_before : (q : ℕ) → settled_with l.outcomes vs q ≡ settled_with l.outcomes ws q) where
  in_order : IsInOrder l.follows (with_outcomes k (settled_in es) l.outcomes)
  in_order = settled_in_order l k p es is.forest is.order top unsettled comes

  fresh_now : AreFresh l.outcomes (settled_in es)
  fresh_now = fresh l.follows k (settled_in es) l.outcomes in_order

  made_now : AreBelow l.made (settled_in es)
  made_now = settled_made l.made l (p ∷ []) es is.followers (made, tt) comes

  abbrev pub book : PromiseBook
  book = book_by l vs rs

  abbrev pub steps : List CascadeStep
  steps = cascade (length book.settled) l.follows p

  trace : IsTraced rs steps es
  trace =
      let deep : length (settled_in es) ≤ suc (length book.settled) = omega (arith, few l.made (settled_in es) made_now fresh_now.once, length_listed (settled_with l.outcomes vs) l.made) in
      subst (λ ss. IsTraced rs ss es) (append-nil steps) (traced l rs (length book.settled) (p ∷ []) es is.asked comes deep)

  pub settling_is : (ds : List Delivery) (log : List events.Event)
      → IsResolved (book_by (settling k (settled_in es) l) ws rs) (queued rs es ds) (recorded v es log) (world.settling p v book ds log)
  settling_is ds log =
      let f : Flow = flowing book ds log in
      let flow = flows v steps f in
      let once : (q : ℕ) → times q (notified_by steps) ≤ 1 = λ q.
      let as_settled : times q (notified_by steps) ≡ times q (settled_in es) = trace.each q ∙ ap (times q) trace.settling in
      omega (arith, as_settled, fresh_now.once q) in
      let free : (q : ℕ) → 1 ≤ times q (notified_by steps) → settlement_of l.outcomes q ≡ None = λ q h.
      let as_settled : times q (notified_by steps) ≡ times q (settled_in es) = trace.each q ∙ ap (times q) trace.settling in
      fresh_now.free q (omega (arith, as_settled, h)) in
      let settled : listed (settled_with (with_outcomes k (settled_in es) l.outcomes) ws) l.made ≡ (all_stepped v steps f).settled =
      sym (flow.settled
      ∙ (ap (λ ps. all_set v ps book.settled) trace.settling
      ∙ (ap (all_set v (settled_in es)) (listed_alike (settled_with l.outcomes vs) (settled_with l.outcomes ws) l.made (λ q lt. as_before q))
      ∙ all_settled v ws k l.made (settled_in es) l.outcomes at made_now))) in
      let requests : filter (is_asking (with_outcomes k (settled_in es) l.outcomes)) rs ≡ (all_stepped v steps f).requests =
      sym (flow.requests
      ∙ (left_are (notified_by steps) book.requests
      ∙ filter_two (λ n. is_zero (times n.promise (notified_by steps))) (is_asking l.outcomes) (is_asking (with_outcomes k (settled_in es) l.outcomes)) rs
      (everywhere (λ r. cond (is_asking l.outcomes r) (is_zero (times r.promise (notified_by steps))) false ≡ is_asking (with_outcomes k (settled_in es) l.outcomes) r)
      (λ r. ap (λ (n : ℕ). cond (is_asking l.outcomes r) (is_zero n) false) (trace.each r.promise ∙ ap (times r.promise) trace.settling)
      ∙ still_asks k r.promise (settled_in es) l.outcomes) rs))) in
      let told : answered_in rs es ≡ told_in_turn (notified_by steps) book.requests =
      sym (told_once (notified_by steps) book.requests once
      ∙ (asks_all_open l.outcomes rs (notified_by steps) free
      ∙ trace.telling)) in
      record {
        promises = λ i. record { settled = settled i; follows = l.follows; requests = requests i };
        waiting = sym (flow.waiting ∙ ap (λ (ns : List Notice). ds ++ map notify ns) (sym told));
        log = sym (flow.log ∙ ap (λ (ps : List ℕ). log ++ map (told_of v) ps) trace.settling);
      }
