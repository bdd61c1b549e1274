-- Promises that are settled one after another: each once, each was made, and none was settled before.
use Rattle.std.specs.Prelude.{◌==◌, ◌||◌, if◌then◌else◌}
use Rattle.std.specs.List.{AllByRecursion, IsDistinct, list_any}
use Rattle.std.proofs.Common.{◌≡◌, inl, inr, ℕ, suc, ◌<◌, ◌≤◌, true, false, eqb, List, [], ◌∷◌, ◌++◌, length, Some, None, sym, ◌∙◌, subst, arith}
use Rattle.std.proofs.lemmas.Bool.{cases_eq, cases_lt, ne_eqb}
use Rattle.std.proofs.lemmas.Bool.Decides.{nat_tests}
use Rattle.std.proofs.lemmas.Map.Steps.{length-le_from_distinct_below}
use Rattle.std.proofs.lemmas.Map.Keys.{IsDistinct-cons}
use Rattle.world_state.specs.promise_store.Cascade.{Settles, none, first, settled_in}
use Rattle.world_state.specs.promise_store.Linked.{IsInOrder, Linked, followers, outcome, settlement_of, with_outcomes}
use Rattle.world_state.specs.promise_store.declared.links.Consequence.{Consequence}
use Rattle.world_state.specs.promise_store.declared.links.Following.{Following}
use Rattle.world_state.specs.promise_store.declared.links.Outcome.{Outcome}
use Rattle.world_state.proofs.promise_store.Changes.{AreBelow, order_tail, settled_head, settled_other}
use Rattle.world_state.proofs.promise_store.Order.{settled_parts}
use Rattle.registers.specs.Books.{IsFollowerMade}
use Rattle.registers.proofs.Lists.{one_at, times, times_here, times_other}

pub record AreFresh (os : List Outcome) (ps : List ℕ) : Type 0 where
  pub free : (q : ℕ) → 1 ≤ times q ps → settlement_of os q ≡ None
  pub once : (q : ℕ) → times q ps ≤ 1

not_settled : (k q : ℕ) (os : List Outcome) → settlement_of (outcome k q ∷ os) q ≡ None → ⊥
not_settled k q os e = let two : Some k ≡ None = sym (settled_head (outcome k q) os) ∙ e in grind arith

pub fresh : (fs : List Following) (k : ℕ) (ps : List ℕ) (os : List Outcome) → IsInOrder fs (with_outcomes k ps os) → AreFresh os ps
fresh fs k [] os o = record { free = λ q h. absurd (omega (arith, h)); once = λ q. omega arith }
fresh fs k (p ∷ ps) os o =
    let ih = fresh fs k ps (outcome k p ∷ os) o in
    let here : settlement_of os p ≡ None = (order_tail fs k ps (outcome k p ∷ os) o).0 in
    record {
      free = λ q h. elim (cases_eq p q) [
        | inl is ↦ subst (λ x. settlement_of os x ≡ None) is here
        | inr other ↦ sym (settled_other (outcome k p) os q other) ∙ ih.free q (omega (arith, h, times_other p q ps other))
      ];
      once = λ q. elim (cases_eq p q) [
        | inl is ↦ subst (λ x. times x (p ∷ ps) ≤ 1) is (elim (cases_lt (times p ps) 1) [
          | inl few ↦ let one : one_at (p == p) ≤ 1 = grind (arith, nat_tests) in omega (arith, few, one)
          | inr more ↦ absurd (not_settled k p os (ih.free p more))
        ])
        | inr other ↦ omega (arith, ih.once q, times_other p q ps other)
      ];
    }

absent : (p : ℕ) (ps : List ℕ) → times p ps ≡ 0 → AllByRecursion (λ q. eqb p q ≡ false) ps
absent p [] e = tt
absent p (q ∷ ps) e = elim (cases_eq q p) [
  | inl is ↦ absurd (omega (arith, e, subst (λ x. 1 ≤ times x (q ∷ ps)) is (times_here q ps)))
  | inr other ↦ (ne_eqb p q (λ (h : p ≡ q). other (sym h)), absent p ps (omega (arith, e, times_other q p ps other)))
]

pub distinct : (ps : List ℕ) → ((q : ℕ) → times q ps ≤ 1) → IsDistinct eqb ps
unfolding IsDistinct
distinct [] once = tt
distinct (p ∷ ps) once =
    let none : times p ps ≡ 0 = omega (arith, once p, times_here_more p ps) in
    IsDistinct-cons eqb p ps (absent p ps none) (distinct ps (λ q. omega (arith, once q, times_less p q ps)))
  where
    times_here_more : (p : ℕ) (ps : List ℕ) → times p (p ∷ ps) ≡ suc (times p ps)
    times_here_more p ps = grind (arith, nat_tests)

    times_less : (p q : ℕ) (ps : List ℕ) → times q ps ≤ times q (p ∷ ps)
    times_less p q ps = omega arith

below_any : (n : ℕ) (ps : List ℕ) (q : ℕ) → AreBelow n ps → list_any (eqb q) ps ≡ true → q < n
below_any n [] q b h = absurd (let no : false ≡ true = h in grind arith)
below_any n (p ∷ ps) q b h = elim (cases_eq q p) [
  | inl is ↦ omega (arith, is, b.0)
  | inr other ↦ below_any n ps q b.1 (subst (λ t. (t || list_any (eqb q) ps) ≡ true) (ne_eqb q p other) h)
]

pub few : (n : ℕ) (ps : List ℕ) → AreBelow n ps → ((q : ℕ) → times q ps ≤ 1) → length ps ≤ n
few n ps b once = length-le_from_distinct_below ps n (distinct ps once) (λ q h. below_any n ps q b h)

below_append : (n : ℕ) (xs ys : List ℕ) → AreBelow n xs → AreBelow n ys → AreBelow n (xs ++ ys)
below_append n [] ys a b = b
below_append n (x ∷ xs) ys a b = (a.0, below_append n xs ys a.1 b)

followers_below : (n : ℕ) (fs : List Following) (p : ℕ) → AllByRecursion (IsFollowerMade n) fs → AreBelow n (followers fs p)
followers_below n [] p all = tt
followers_below n (f ∷ fs) p all =
    let ih = followers_below n fs p all.1 in
    elim (f.target == p) as (λ b. AreBelow n (if b then followers fs p ++ f.promise ∷ [] else followers fs p)) [
      | true ↦ below_append n (followers fs p) (f.promise ∷ []) ih (all.0, tt)
      | false ↦ ih
    ]

-- what is settled was made
pub settled_made : (n : ℕ) (l : Linked) (qs : List ℕ) (es : List Consequence) → AllByRecursion (IsFollowerMade n) l.follows → AreBelow n qs → Settles l qs es → AreBelow n (settled_in es)
settled_made n l _ _ all b none = tt
settled_made n l _ _ all b (first q qs below rest es sb sr e) =
    subst (AreBelow n) (sym (settled_parts l q below rest es e))
    (b.0, below_append n (settled_in below) (settled_in rest) (settled_made n l (followers l.follows q) below all (followers_below n l.follows q all) sb) (settled_made n l qs rest all b.1 sr))
