-- What the steps of a cascade come to, part by part: what is settled, who still asks, what waits, and what is told.
use Rattle.std.specs.Prelude.{cond, not, slice_set}
use Rattle.std.specs.List.{filter, flat_map}
use Rattle.std.proofs.Common.{◌≡◌, ◌≢◌, inl, inr, ℕ, suc, ◌≤◌, Bool, false, List, [], ◌∷◌, ◌++◌, map, Option, Some, refl, sym, ◌∙◌, ap, subst, arith, append_assoc}
use Rattle.std.proofs.lemmas.Bool.{cases_eq}
use Rattle.std.proofs.lemmas.Bool.Decides.{nat_tests}
use Rattle.std.proofs.lemmas.List.{append-nil, map-append}
use Rattle.world_state.specs.promise_store.States.{SettlementView}
use Rattle.world_state.specs.turn_records.Deliveries.{Delivery, Notice, notify}
use Rattle.world_state.specs.turn_records.Events as events
use Rattle.world_state.specs.turn_records.Events.{Event}
use Rattle.world_state.specs.Promises.{CascadeStep, Flow, all_stepped, asks, notifies, settles, stepped}
use Rattle.registers.specs.Books.{told_of}
use Rattle.registers.proofs.Lists.{everywhere, filter_two, is_zero, times, times_here, times_other}
use Rattle.registers.proofs.Traces.{notified_by, settled_by}

abbrev pub all_set : SettlementView → List ℕ → List (Option SettlementView) → List (Option SettlementView)
all_set v [] ss = ss
all_set v (p ∷ ps) ss = all_set v ps (slice_set ss p (Some v))

abbrev pub others : ℕ → List Notice → List Notice
others p rs = filter (λ n. not (asks p n)) rs

abbrev pub left_after : List ℕ → List Notice → List Notice
left_after [] rs = rs
left_after (p ∷ ps) rs = left_after ps (others p rs)

abbrev pub told_in_turn : List ℕ → List Notice → List Notice
told_in_turn [] rs = []
told_in_turn (p ∷ ps) rs = filter (asks p) rs ++ told_in_turn ps (others p rs)

pub record IsFlow (v : SettlementView) (ss : List CascadeStep) (old new : Flow) : Type 0 where
  pub settled : new.settled ≡ all_set v (settled_by ss) old.settled
  pub requests : new.requests ≡ left_after (notified_by ss) old.requests
  pub waiting : new.waiting ≡ old.waiting ++ map notify (told_in_turn (notified_by ss) old.requests)
  pub log : new.log ≡ old.log ++ map (told_of v) (settled_by ss)

pub flows : (v : SettlementView) (ss : List CascadeStep) (f : Flow) → IsFlow v ss f (all_stepped v ss f)
flows v [] f = record { settled = refl; requests = refl; waiting = sym (append-nil f.waiting); log = sym (append-nil f.log) }
flows v (settles p ∷ ss) f =
    let ih = flows v ss (stepped v (settles p) f) in
    record { settled = ih.settled; requests = ih.requests; waiting = ih.waiting; log = ih.log ∙ append_assoc f.log (events.settled p v ∷ []) (map (told_of v) (settled_by ss)) }
flows v (notifies p ∷ ss) f =
    let ih = flows v ss (stepped v (notifies p) f) in
    let now : List Notice = filter (asks p) f.requests in
    let later : List Notice = told_in_turn (notified_by ss) (others p f.requests) in
    record {
      settled = ih.settled;
      requests = ih.requests;
      waiting = ih.waiting ∙ (append_assoc f.waiting (map notify now) (map notify later) ∙ ap (λ (ds : List Delivery). f.waiting ++ ds) (sym (map-append notify now later)));
      log = ih.log;
    }

-- those that ask for none of them are left
asks_none : (ps : List ℕ) → Notice → Bool
asks_none ps n = is_zero (times n.promise ps)

pub left_are : (ps : List ℕ) (rs : List Notice) → left_after ps rs ≡ filter (λ n. is_zero (times n.promise ps)) rs
left_are [] rs = sym (all_left rs)
  where
    all_left : (rs : List Notice) → filter (λ n. is_zero (times n.promise [])) rs ≡ rs
    all_left [] = refl
    all_left (r ∷ rs) = ap (λ (ns : List Notice). r ∷ ns) (all_left rs)
left_are (p ∷ ps) rs =
    left_are ps (others p rs)
    ∙ filter_two (λ n. is_zero (times n.promise ps)) (λ n. not (asks p n)) (λ n. is_zero (times n.promise (p ∷ ps))) rs
    (everywhere (λ n. cond (not (asks p n)) (is_zero (times n.promise ps)) false ≡ is_zero (times n.promise (p ∷ ps)))
    (λ n. elim (cases_eq p n.promise) [
      | inl is ↦ grind (arith, nat_tests)
      | inr other ↦ grind (arith, nat_tests)
    ]) rs)

-- where each is told once, they are told by promise
asked_still : (p q : ℕ) (rs : List Notice) → p ≢ q → filter (asks q) (others p rs) ≡ filter (asks q) rs
asked_still p q rs apart =
    filter_two (asks q) (λ n. not (asks p n)) (asks q) rs
    (everywhere (λ n. cond (not (asks p n)) (asks q n) false ≡ asks q n)
    (λ n. elim (cases_eq n.promise q) [
      | inl is ↦ grind (arith, nat_tests)
      | inr other ↦ grind (arith, nat_tests)
    ]) rs)

asked_alike : (p : ℕ) (ps : List ℕ) (rs : List Notice) → times p ps ≡ 0 → flat_map (λ q. filter (asks q) (others p rs)) ps ≡ flat_map (λ q. filter (asks q) rs) ps
asked_alike p [] rs e = refl
asked_alike p (q ∷ ps) rs e = elim (cases_eq q p) [
  | inl is ↦ absurd (omega (arith, e, subst (λ x. 1 ≤ times x (q ∷ ps)) is (times_here q ps)))
  | inr other ↦
      ap (λ (ns : List Notice). ns ++ flat_map (λ q. filter (asks q) (others p rs)) ps) (asked_still p q rs (λ (h : p ≡ q). other (sym h)))
      ∙ ap (λ (ns : List Notice). filter (asks q) rs ++ ns) (asked_alike p ps rs (omega (arith, e, times_other q p ps other)))
]

times_first : (p : ℕ) (ps : List ℕ) → times p (p ∷ ps) ≡ suc (times p ps)
times_first p ps = grind (arith, nat_tests)

pub told_once : (ps : List ℕ) (rs : List Notice) → ((q : ℕ) → times q ps ≤ 1) → told_in_turn ps rs ≡ flat_map (λ q. filter (asks q) rs) ps
told_once [] rs once = refl
told_once (p ∷ ps) rs once =
    ap (λ (ns : List Notice). filter (asks p) rs ++ ns)
    (told_once ps (others p rs) (λ q. omega (arith, once q))
    ∙ asked_alike p ps rs (omega (arith, once p, times_first p ps)))
