-- What holds of a table's store is kept by each of its calls.
use Rattle.std.specs.Prelude.{option_map}
use Rattle.std.specs.List.{AllByRecursion}
use Rattle.std.proofs.Common.{◌≡◌, ◌≢◌, ℕ, suc, ◌+◌, ◌<◌, ◌≤◌, List, [], ◌∷◌, ◌++◌, length, Option, Some, None, refl, ◌∙◌, ap, arith}
use Rattle.std.proofs.lemmas.Bool.Decides.{nat_tests}
use Rattle.std.proofs.lemmas.List.{map-append}
use Rattle.world_state.specs.promise_store.Cascade.{Settles, settled_in}
use Rattle.world_state.specs.promise_store.Linked.{IsInOrder, LeadsTo, Linked, asking, following, leader, one_more, outcome, settlement_of, settling, with_outcomes}
use Rattle.world_state.specs.promise_store.States.{SettlementView, settlement_at as with_number}
use Rattle.world_state.specs.promise_store.declared.links.Consequence.{Consequence}
use Rattle.world_state.specs.promise_store.declared.links.Following.{Following}
use Rattle.world_state.specs.promise_store.declared.links.Outcome.{Outcome}
use Rattle.world_state.proofs.promise_store.Changes.{AreBelow, leader_other, settled_other}
use Rattle.world_state.proofs.promise_store.Order.{settled_in_order}
use Rattle.world_state.specs.turn_records.Deliveries.{Notice}
use Rattle.registers.specs.Books.{IsBooked, IsFollowerMade, IsOutcomeMade, asked_for, listed, settled_with}
use Rattle.registers.proofs.Fresh.{settled_made}

module _ {A : Type 0} (P Q : A → Type 0) (to : (x : A) → P x → Q x) where
  all_map : (xs : List A) → AllByRecursion P xs → AllByRecursion Q xs
  all_map [] all = tt
  all_map (x ∷ xs) all = (to x all.0, all_map xs all.1)

pub booked_none : IsBooked (record { made = 0; follows = []; asked = []; outcomes = [] }) [] []
booked_none = record { forest = tt; order = tt; followers = tt; outcomes = tt; asked = refl }

-- one more promise
pub booked_more : (l : Linked) (vs : List SettlementView) (rs : List Notice) → IsBooked l vs rs → IsBooked (one_more l) vs rs
booked_more l vs rs b = record {
  forest = b.forest;
  order = b.order;
  followers = all_map (IsFollowerMade l.made) (IsFollowerMade (l.made + 1)) (λ f h. omega (arith, h)) l.follows b.followers;
  outcomes = all_map (IsOutcomeMade l.made (length vs)) (IsOutcomeMade (l.made + 1) (length vs)) (λ o h. record { promise = omega (arith, h.promise); settlement = h.settlement }) l.outcomes b.outcomes;
  asked = b.asked;
}

-- it isn't settled
not_made : (m n : ℕ) (os : List Outcome) → AllByRecursion (IsOutcomeMade m n) os → settlement_of os m ≡ None
not_made m n [] all = refl
not_made m n (o ∷ os) all = settled_other o os m (λ (e : o.promise ≡ m). absurd (omega (arith, e, all.0.promise))) ∙ not_made m n os all.1

pub more_is : (l : Linked) (vs : List SettlementView) (rs : List Notice) → IsBooked l vs rs
    → listed (settled_with l.outcomes vs) (l.made + 1) ≡ listed (settled_with l.outcomes vs) l.made ++ None ∷ []
more_is l vs rs b =
    ap (listed (settled_with l.outcomes vs)) (next l.made)
    ∙ ap (λ (s : Option ℕ). listed (settled_with l.outcomes vs) l.made ++ option_map (with_number vs) s ∷ []) (not_made l.made (length vs) l.outcomes b.outcomes)
  where
    next : (n : ℕ) → n + 1 ≡ suc n
    next n = omega arith

-- ---- promises are settled

numbered_more : (m n k : ℕ) (os : List Outcome) → n ≤ k → AllByRecursion (IsOutcomeMade m n) os → AllByRecursion (IsOutcomeMade m k) os
numbered_more m n k os le all = all_map (IsOutcomeMade m n) (IsOutcomeMade m k) (λ o h. record { promise = h.promise; settlement = omega (arith, le, h.settlement) }) os all

with_made : (m n k : ℕ) (ps : List ℕ) (os : List Outcome) → k < n → AreBelow m ps → AllByRecursion (IsOutcomeMade m n) os → AllByRecursion (IsOutcomeMade m n) (with_outcomes k ps os)
with_made m n k [] os lt below all = all
with_made m n k (p ∷ ps) os lt below all = with_made m n k ps (outcome k p ∷ os) lt below.1 (record { promise = below.0; settlement = lt }, all)

pub booked_settled : (l : Linked) (vs ws : List SettlementView) (rs : List Notice) (k p : ℕ) (es : List Consequence) → IsBooked l vs rs
    → p < l.made → leader l.follows p ≡ None → settlement_of l.outcomes p ≡ None → Settles l (p ∷ []) es → k < length ws → length vs ≤ length ws
    → IsBooked (settling k (settled_in es) l) ws rs
booked_settled l vs ws rs k p es b made top free comes lt le = record {
  forest = b.forest;
  order = settled_in_order l k p es b.forest b.order top free comes;
  followers = b.followers;
  outcomes = with_made l.made (length ws) k (settled_in es) l.outcomes lt (settled_made l.made l (p ∷ []) es b.followers (made, tt) comes) (numbered_more l.made (length vs) (length ws) l.outcomes le b.outcomes);
  asked = b.asked;
}

-- ---- a promise follows another

leads_on : (f : Following) (fs : List Following) (q n : ℕ) → f.promise ≢ n → leader fs n ≡ Some q → leader (f ∷ fs) n ≡ Some q
leads_on f fs q n other e = leader_other f fs n other ∙ e

order_more : (f : Following) (fs : List Following) (os : List Outcome) → settlement_of os f.promise ≡ None → IsInOrder fs os → IsInOrder (f ∷ fs) os
order_more f fs [] e o = tt
order_more f fs (x ∷ os) e o =
    let apart : f.promise ≢ x.promise = grind (arith, nat_tests) in
    let none : settlement_of os f.promise ≡ None = grind (arith, nat_tests) in
    (o.0, (λ q h. o.1 q (grind (arith, nat_tests))), order_more f fs os none o.2)

pub booked_following : (l : Linked) (vs : List SettlementView) (rs : List Notice) (p t : ℕ) → IsBooked l vs rs
    → p < l.made → leader l.follows p ≡ None → settlement_of l.outcomes p ≡ None → (LeadsTo l.follows p t → ⊥) → IsBooked (following p t l) vs rs
booked_following l vs rs p t b made top free apart = record {
  forest = (top, apart, b.forest);
  order = order_more (record { promise = p; target = t }) l.follows l.outcomes free b.order;
  followers = (made, b.followers);
  outcomes = b.outcomes;
  asked = b.asked;
}

-- ---- one more asks

pub booked_asking : (l : Linked) (vs : List SettlementView) (rs : List Notice) (p : ℕ) (r : Notice) → IsBooked l vs rs → r.promise ≡ p → IsBooked (asking p l) vs (rs ++ r ∷ [])
booked_asking l vs rs p r b e = record {
  forest = b.forest;
  order = b.order;
  followers = b.followers;
  outcomes = b.outcomes;
  asked = map-append asked_for rs (r ∷ []) ∙ (ap (λ (xs : List ℕ). xs ++ r.promise ∷ []) b.asked ∙ ap (λ (q : ℕ). l.asked ++ q ∷ []) e);
}
