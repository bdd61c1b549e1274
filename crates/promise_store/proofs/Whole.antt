-- The store after each change of its links.
use Rattle.std.proofs.Common.{◌≡◌, ℕ, ◌<◌, ◌≤◌, List, [], ◌∷◌, ◌++◌, length, map, take, get_or, refl, ap, ◌∙◌, arith, true, nat_lt, Option, None, Some, zero, suc, IsSome, Result, Ok, Err, IfOk, OnErr}
use Rattle.std.specs.List.{list_all}
use Rattle.std.proofs.lemmas.Bool.Decides.{nat_tests}
use Rattle.std.proofs.lemmas.List.{length_push, length-take-le}
use Rattle.promise_store.specs.declared.links.Following.{Following}
use Rattle.promise_store.specs.declared.links.Outcome.{Outcome}
use Rattle.promise_store.specs.declared.settlement.Settlement.{Settlement}
use Rattle.promise_store.specs.Linked.{AreAlike, LinkedTurn, LeadsTo, here, through, IsInOrder, settlement_of, outcome, with_outcomes, settling}
use Rattle.promise_store.specs.States.{SettlementView, pending, state_of, settlement_view, is_final}
use Rattle.promise_store.specs.Whole.{IsWhole, are_numbered}
use Rattle.promise_store.proofs.Order.{leader_settled}

numbered_with : (m k : ℕ) (ps : List ℕ) (os : List Outcome) → k < m → are_numbered m os ≡ true → are_numbered m (with_outcomes k ps os) ≡ true
numbered_with m k [] os h n = n
numbered_with m k (p ∷ ps) os h n = numbered_with m k ps (outcome k p ∷ os) h (let below : nat_lt k m ≡ true = grind (arith, nat_tests) in rw (below, n) refl)

numbered_more : (m l : ℕ) (os : List Outcome) → m ≤ l → are_numbered m os ≡ true → are_numbered l os ≡ true
numbered_more m l [] h n = refl
numbered_more m l (o ∷ os) h n =
    let first : nat_lt o.settlement m ≡ true = grind arith in
    let others : are_numbered m os ≡ true = grind arith in
    let below : nat_lt o.settlement l ≡ true = grind (arith, nat_tests) in
    rw (below, numbered_more m l os h others) refl

pub numbered_at : (m n k : ℕ) (os : List Outcome) → are_numbered m os ≡ true → settlement_of os n ≡ Some k → k < m
numbered_at m n k [] h e = grind arith
numbered_at m n k (o ∷ os) h e =
    let first : nat_lt o.settlement m ≡ true = grind arith in
    let others : are_numbered m os ≡ true = grind arith in
    let rest : settlement_of os n ≡ Some k → k < m = numbered_at m n k os others in
    grind (arith, nat_tests)

final_push : (ss : List Settlement) (s : Settlement) → list_all is_final (map settlement_view ss) ≡ true → is_final (settlement_view s) ≡ true → list_all is_final (map settlement_view (ss ++ s ∷ [])) ≡ true
final_push [] s h e = rw e refl
final_push (x ∷ ss) s h e =
    let first : is_final (settlement_view x) ≡ true = grind arith in
    let others : list_all is_final (map settlement_view ss) ≡ true = grind arith in
    rw (first, final_push ss s others e) refl

pub final_at : (vs : List SettlementView) (n : ℕ) (d : SettlementView) → list_all is_final vs ≡ true → n < length vs → is_final (get_or vs n d) ≡ true
final_at [] n d h l = absurd (omega (arith, l))
final_at (v ∷ vs) zero d h l = grind arith
final_at (v ∷ vs) (suc n) d h l = let others : list_all is_final vs ≡ true = grind arith in final_at vs n d others (omega (arith, l))

final_take : (k : ℕ) (ss : List Settlement) → list_all is_final (map settlement_view ss) ≡ true → list_all is_final (map settlement_view (take k ss)) ≡ true
final_take zero ss h = refl
final_take (suc k) [] h = refl
final_take (suc k) (x ∷ ss) h =
    let first : is_final (settlement_view x) ≡ true = grind arith in
    let others : list_all is_final (map settlement_view ss) ≡ true = grind arith in
    rw (first, final_take k ss others) refl

-- promises are settled with a settlement that is there, or nothing is changed
pub whole_either : {R E V : Type 0} (items : V → List ℕ) (r : Result V E) (old new : LinkedTurn) (es : List R) (ss : List Settlement) (e n k : ℕ)
    → IfOk r (λ v. new ≡ record old { now = settling k (items v) old.now }) → OnErr r (new ≡ old) → IsWhole old es ss e n → k < length ss
    → IfOk r (λ v. AreAlike old.now.follows (with_outcomes k (items v) old.now.outcomes)) → IsWhole new es ss e n
whole_either items (Ok v) old new es ss e n k ok err w h a = rw ok record {
  entries = w.entries;
  numbered = numbered_with (length ss) k (items v) old.now.outcomes h w.numbered;
  start_numbered = w.start_numbered;
  start_entries = w.start_entries;
  start_within = w.start_within;
  settlements_within = w.settlements_within;
  final = w.final;
  alike = a;
  start_alike = w.start_alike;
}
whole_either items (Err x) old new es ss e n k ok err w h a = rw err w

-- promises are settled with one more settlement
pub whole_settled : {R : Type 0} (old new : LinkedTurn) (es : List R) (ss : List Settlement) (s : Settlement) (ps : List ℕ) (e n k : ℕ)
    → new ≡ record old { now = settling k ps old.now } → IsWhole old es ss e n → k ≡ length ss → is_final (settlement_view s) ≡ true
    → AreAlike old.now.follows (with_outcomes k ps old.now.outcomes) → IsWhole new es (ss ++ s ∷ []) e n
whole_settled old new es ss s ps e n k ok w h f a = rw ok record {
  entries = w.entries;
  numbered = numbered_with (length (ss ++ s ∷ [])) k ps old.now.outcomes (omega (arith, h, length_push ss s)) (numbered_more (length ss) (length (ss ++ s ∷ [])) old.now.outcomes (omega (arith, length_push ss s)) w.numbered);
  start_numbered = w.start_numbered;
  start_entries = w.start_entries;
  start_within = w.start_within;
  settlements_within = omega (arith, w.settlements_within, length_push ss s);
  final = final_push ss s w.final f;
  alike = a;
  start_alike = w.start_alike;
}

-- a promise that is settled leads to settled ones alone
pub leads_settled : (fs : List Following) (os : List Outcome) (p n : ℕ) → IsInOrder fs os → LeadsTo fs p n → IsSome (settlement_of os n) → IsSome (settlement_of os p)
leads_settled fs os p _ o here s = s
leads_settled fs os p _ o (through n q e l) s = leads_settled fs os p q o l (leader_settled fs os n q o e s)

-- where it is pending, it has no settlement and follows none
pub pending_is : (ss : List SettlementView) (s q : Option ℕ) → state_of ss s q ≡ pending → (s ≡ None) × (q ≡ None)
pending_is ss None None e = (refl, refl)
pending_is ss None (Some q) e = grind arith
pending_is ss (Some k) q e = grind arith

-- all is as it was at the start
pub whole_back : {R : Type 0} (old new : LinkedTurn) (es fs : List R) (ss ts : List Settlement) (e n : ℕ)
    → new ≡ record { start = old.start; now = old.start } → fs ≡ take e es → ts ≡ take n ss → IsWhole old es ss e n → IsWhole new fs ts e n
whole_back old new es fs ss ts e n back cut less w =
    let len : length fs ≡ e = ap length cut ∙ length-take-le e es w.start_within in
    let many : length ts ≡ n = ap length less ∙ length-take-le n ss w.settlements_within in
    rw back record {
      entries = len ∙ w.start_entries;
      numbered = rw many w.start_numbered;
      start_numbered = w.start_numbered;
      start_entries = w.start_entries;
      start_within = omega (arith, len);
      settlements_within = omega (arith, many);
      final = ap (λ xs. list_all is_final (map settlement_view xs)) less ∙ final_take n ss w.final;
      alike = w.start_alike;
      start_alike = w.start_alike;
    }
