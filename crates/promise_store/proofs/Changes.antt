-- The nodes after each change of the lists.
use Rattle.std.proofs.Common.{◌≡◌, ℕ, zero, suc, ◌<◌, ◌≤◌, ◌≢◌, List, [], ◌∷◌, ◌++◌, length, get_or, set, take, reverse, map, ◌+◌, inl, inr, refl, sym, ap, ◌∙◌, subst, arith, ◌==◌, if◌then◌else◌, None, Some}
use Rattle.std.proofs.lemmas.Bool.{cases_lt}
use Rattle.std.proofs.lemmas.Bool.Decides.{nat_tests}
use Rattle.std.proofs.lemmas.List.{get_or-set_same, get_or-set_other, get_or-take, take-append-le, length-take-le, length_push, take_all, length-set, append-nil, append_assoc, reverse-append, take_more}
use Rattle.promise_store.specs.declared.links.Following.{Following}
use Rattle.promise_store.specs.declared.links.Outcome.{Outcome}
use Rattle.promise_store.specs.declared.links.Consequence.{Consequence}
use Rattle.promise_store.specs.declared.links.Consequence.TheVariants.{Settled, Notified}
use Rattle.promise_store.specs.Cascade.{settled_in}
use Rattle.promise_store.specs.Nodes.{Noted, bare, node_at, shorter, settlement_at, with_settlement, without_leader, without_follower, without_request}
use Rattle.promise_store.specs.Linked.{leader, followers, requests_from, requests, settlement_of, noted_at, outcome, with_outcomes, LeadsTo, here, IsInOrder}
use Rattle.promise_store.specs.Kept.{AreNodes}

-- one node is another
node_set : (xs : List Noted) (p n : ℕ) (y : Noted) → p < length xs → node_at (set xs p y) n ≡ (if p == n then y else node_at xs n)
node_set xs p n y h = grind (arith, nat_tests, get_or-set_same, get_or-set_other)

-- past the end nothing is known
pub node_past : (xs : List Noted) (n : ℕ) → length xs ≤ n → node_at xs n ≡ bare
node_past [] n h = refl
node_past (x ∷ xs) zero h = absurd (omega (arith, h))
node_past (x ∷ xs) (suc n) h = node_past xs n (omega (arith, h))

pub shorter_push : (xs : List ℕ) (x : ℕ) → shorter (xs ++ x ∷ []) ≡ xs
shorter_push xs x = grind (arith, length_push, take-append-le, take_all)

requests_push : (k : ℕ) (ps : List ℕ) (p n : ℕ) → requests_from k (ps ++ p ∷ []) n ≡ (if p == n then requests_from k ps n ++ (k + length ps) ∷ [] else requests_from k ps n)
requests_push k [] p n = grind (arith, nat_tests)
requests_push k (q ∷ ps) p n = let ih = requests_push (k + 1) ps p n in grind (arith, nat_tests)

order_more : (f : Following) (fs : List Following) (os : List Outcome) → settlement_of os f.promise ≡ None → IsInOrder fs os → IsInOrder (f ∷ fs) os
order_more f fs [] e o = tt
order_more f fs (x ∷ os) e o =
    let apart : f.promise ≢ x.promise = grind (arith, nat_tests) in
    let none : settlement_of os f.promise ≡ None = grind (arith, nat_tests) in
    (o.0, (λ q h. o.1 q (grind (arith, nat_tests))), order_more f fs os none o.2)

order_less : (f : Following) (fs : List Following) (os : List Outcome) → leader fs f.promise ≡ None → IsInOrder (f ∷ fs) os → IsInOrder fs os
order_less f fs [] e o = tt
order_less f fs (x ∷ os) e o = (o.0, (λ q h. o.1 q (grind (arith, nat_tests))), order_less f fs os e o.2)

-- at p, and elsewhere
pub each_at : (P : ℕ → Type 0) (p n : ℕ) → P p → (p ≢ n → P n) → P n
each_at P p n same other = elim (cases_lt p n) [
  | inl h ↦ other (omega arith)
  | inr h ↦ elim (cases_lt n p) [ inl g ↦ other (omega arith) | inr g ↦ let e : p ≡ n = omega arith in subst P e same ]
]

-- a promise of which something is known was made
pub inside : (xs : List Noted) (n : ℕ) (x : Noted) → node_at xs n ≡ x → (x ≡ bare → ⊥) → n < length xs
inside xs n x e f = elim (cases_lt n (length xs)) [ inl h ↦ h | inr h ↦ absurd (f (sym e ∙ node_past xs n h)) ]

pub settled_head : (o : Outcome) (os : List Outcome) → settlement_of (o ∷ os) o.promise ≡ Some o.settlement
settled_head o os = grind (arith, nat_tests)

pub settled_other : (o : Outcome) (os : List Outcome) (n : ℕ) → o.promise ≢ n → settlement_of (o ∷ os) n ≡ settlement_of os n
settled_other o os n h = grind (arith, nat_tests)

pub outcome_undone : (nodes : List Noted) (fs : List Following) (asked : List ℕ) (o : Outcome) (os : List Outcome) → AreNodes nodes fs asked (o ∷ os) → AreNodes (settlement_at o.promise None nodes) fs asked os
outcome_undone nodes fs asked o os a =
    let p = o.promise in
    let e = a.each p in
    let known : p < length nodes = inside nodes p _ e (λ h. let s : Some o.settlement ≡ None = sym (settled_head o os) ∙ ap (λ (x : Noted). x.settlement) h in grind arith) in
    let at : Noted = record (node_at nodes p) { settlement = None } in
    record {
      each = λ n. each_at (λ n. node_at (set nodes p at) n ≡ noted_at fs asked os n) p n
          (get_or-set_same nodes p at bare known ∙ λ i. record { leader = (e i).leader; followers = (e i).followers; requests = (e i).requests; settlement = sym a.order.0 i })
          (λ h. get_or-set_other nodes p n at bare (λ g. h (sym g)) ∙ (a.each n ∙ ap (λ s. record (noted_at fs asked os n) { settlement = s }) (settled_other o os n h)));
      forest = a.forest;
      order = a.order.2;
    }

requests_here : (ps : List ℕ) (p : ℕ) → requests (ps ++ p ∷ []) p ≡ requests ps p ++ length ps ∷ []
requests_here ps p = let h = requests_push 0 ps p p in grind (arith, nat_tests)

requests_other : (ps : List ℕ) (p n : ℕ) → p ≢ n → requests (ps ++ p ∷ []) n ≡ requests ps n
requests_other ps p n h = let g = requests_push 0 ps p n in grind (arith, nat_tests)

pub asked_undone : (nodes : List Noted) (fs : List Following) (ps : List ℕ) (p : ℕ) (os : List Outcome) → AreNodes nodes fs (ps ++ p ∷ []) os → AreNodes (without_request p nodes) fs ps os
asked_undone nodes fs ps p os a =
    let e = a.each p in
    let r = requests_here ps p in
    let known : p < length nodes = inside nodes p _ e (λ h. let l = ap (λ (x : Noted). length x.requests) h in let m = ap length r in grind (arith, length_push)) in
    let at : Noted = record (node_at nodes p) { requests = shorter (node_at nodes p).requests } in
    let less = ap (λ (x : Noted). shorter x.requests) e ∙ (ap shorter r ∙ shorter_push (requests ps p) (length ps)) in
    record {
      each = λ n. each_at (λ n. node_at (set nodes p at) n ≡ noted_at fs ps os n) p n
          (get_or-set_same nodes p at bare known ∙ λ i. record { leader = (e i).leader; followers = (e i).followers; requests = less i; settlement = (e i).settlement })
          (λ h. get_or-set_other nodes p n at bare (λ g. h (sym g)) ∙ (a.each n ∙ ap (λ s. record (noted_at fs ps os n) { requests = s }) (requests_other ps p n h)));
      forest = a.forest;
      order = a.order;
    }

pub leader_here : (f : Following) (fs : List Following) → leader (f ∷ fs) f.promise ≡ Some f.target
leader_here f fs = grind (arith, nat_tests)

pub leader_other : (f : Following) (fs : List Following) (n : ℕ) → f.promise ≢ n → leader (f ∷ fs) n ≡ leader fs n
leader_other f fs n h = grind (arith, nat_tests)

pub followers_here : (f : Following) (fs : List Following) → followers (f ∷ fs) f.target ≡ followers fs f.target ++ f.promise ∷ []
followers_here f fs = grind (arith, nat_tests)

pub followers_other : (f : Following) (fs : List Following) (n : ℕ) → f.target ≢ n → followers (f ∷ fs) n ≡ followers fs n
followers_other f fs n h = grind (arith, nat_tests)

-- a node of two that are set
set_two : (P : ℕ → Noted → Type 0) (xs : List Noted) (p t : ℕ) (x y : Noted) → p ≢ t → p < length xs → t < length xs → P p x → P t y
    → ((n : ℕ) → p ≢ n → t ≢ n → P n (node_at xs n)) → (n : ℕ) → P n (node_at (set (set xs p x) t y) n)
set_two P xs p t x y apart hp ht px py other n =
    each_at (λ n. P n (node_at (set (set xs p x) t y) n)) t n
    (let within : t < length (set xs p x) = omega (arith, length-set xs p x, ht) in subst (P t) (sym (get_or-set_same (set xs p x) t y bare within)) py)
    (λ h. subst (P n) (sym (get_or-set_other (set xs p x) t n y bare (λ g. h (sym g))))
    (each_at (λ n. t ≢ n → P n (node_at (set xs p x) n)) p n
    (λ _. subst (P p) (sym (get_or-set_same xs p x bare hp)) px)
    (λ k g. subst (P n) (sym (get_or-set_other xs p n x bare (λ e. k (sym e)))) (other n k g))
    h))

pub follow_undone : (nodes : List Noted) (f : Following) (fs : List Following) (asked : List ℕ) (os : List Outcome) → AreNodes nodes (f ∷ fs) asked os → AreNodes (without_follower f.target (without_leader f.promise nodes)) fs asked os
follow_undone nodes f fs asked os a =
    let p = f.promise in
    let t = f.target in
    let ep = a.each p in
    let et = a.each t in
    let apart : p ≢ t = λ h. a.forest.1 (subst (λ x. LeadsTo fs p x) h here) in
    let hp : p < length nodes = inside nodes p _ ep (λ h. let s : Some t ≡ None = sym (leader_here f fs) ∙ ap (λ (x : Noted). x.leader) h in grind arith) in
    let ht : t < length nodes = inside nodes t _ et (λ h. let l = ap (λ (x : Noted). length x.followers) h in let m = ap length (followers_here f fs) in grind (arith, length_push)) in
    let x : Noted = record (node_at nodes p) { leader = None } in
    let at_t : node_at (set nodes p x) t ≡ noted_at (f ∷ fs) asked os t = get_or-set_other nodes p t x bare (λ h. apart (sym h)) ∙ et in
    let less = ap (λ (y : Noted). shorter y.followers) at_t ∙ (ap shorter (followers_here f fs) ∙ shorter_push (followers fs t) p) in
    record {
      each = set_two (λ n y. y ≡ noted_at fs asked os n) nodes p t x (record (node_at (set nodes p x) t) { followers = shorter (node_at (set nodes p x) t).followers }) apart hp ht
          (λ i. record { leader = sym a.forest.0 i; followers = (ap (λ (y : Noted). y.followers) ep ∙ followers_other f fs p (λ h. apart (sym h))) i; requests = (ep i).requests; settlement = (ep i).settlement })
          (λ i. record { leader = (ap (λ (y : Noted). y.leader) at_t ∙ leader_other f fs t apart) i; followers = less i; requests = (at_t i).requests; settlement = (at_t i).settlement })
          (λ n h g. a.each n ∙ λ i. record { leader = leader_other f fs n h i; followers = followers_other f fs n g i; requests = requests asked n; settlement = settlement_of os n });
      forest = a.forest.2;
      order = order_less f fs os a.forest.0 a.order;
    }

-- p comes to follow t
pub followed : (nodes : List Noted) (f : Following) (fs : List Following) (asked : List ℕ) (os : List Outcome) (x y : Noted) → AreNodes nodes fs asked os
    → f.promise < length nodes → f.target < length nodes → leader fs f.promise ≡ None → settlement_of os f.promise ≡ None → (LeadsTo fs f.promise f.target → ⊥)
    → x ≡ record (node_at nodes f.target) { followers = (node_at nodes f.target).followers ++ f.promise ∷ [] }
    → y ≡ record (node_at (set nodes f.target x) f.promise) { leader = Some f.target } → AreNodes (set (set nodes f.target x) f.promise y) (f ∷ fs) asked os
followed nodes f fs asked os x y a hp ht free pending led ex ey =
    let p = f.promise in
    let t = f.target in
    let apart : t ≢ p = λ h. led (subst (λ x. LeadsTo fs p x) (sym h) here) in
    let et = a.each t in
    let at_p : node_at (set nodes t x) p ≡ noted_at fs asked os p = get_or-set_other nodes t p x bare (λ h. apart (sym h)) ∙ a.each p in
    record {
      each = set_two (λ n y. y ≡ noted_at (f ∷ fs) asked os n) nodes t p x y apart ht hp
          (ex ∙ λ i. record { leader = (ap (λ (y : Noted). y.leader) et ∙ sym (leader_other f fs t (λ h. apart (sym h)))) i; followers = (ap (λ (y : Noted). y.followers ++ p ∷ []) et ∙ sym (followers_here f fs)) i; requests = (et i).requests; settlement = (et i).settlement })
          (ey ∙ λ i. record { leader = sym (leader_here f fs) i; followers = (ap (λ (y : Noted). y.followers) at_p ∙ sym (followers_other f fs p apart)) i; requests = (at_p i).requests; settlement = (at_p i).settlement })
          (λ n h g. a.each n ∙ λ i. record { leader = sym (leader_other f fs n g) i; followers = sym (followers_other f fs n h) i; requests = requests asked n; settlement = settlement_of os n });
      forest = (free, led, a.forest);
      order = order_more f fs os pending a.order;
    }

-- one more request
pub asked_more : (nodes : List Noted) (fs : List Following) (ps : List ℕ) (p : ℕ) (os : List Outcome) (x : Noted) → AreNodes nodes fs ps os → p < length nodes
    → x ≡ record (node_at nodes p) { requests = (node_at nodes p).requests ++ length ps ∷ [] } → AreNodes (set nodes p x) fs (ps ++ p ∷ []) os
asked_more nodes fs ps p os x a hp ex =
    let e = a.each p in
    record {
      each = λ n. each_at (λ n. node_at (set nodes p x) n ≡ noted_at fs (ps ++ p ∷ []) os n) p n
          (get_or-set_same nodes p x bare hp ∙ (ex ∙ λ i. record { leader = (e i).leader; followers = (e i).followers; requests = (ap (λ (y : Noted). y.requests ++ length ps ∷ []) e ∙ sym (requests_here ps p)) i; settlement = (e i).settlement }))
          (λ h. get_or-set_other nodes p n x bare (λ g. h (sym g)) ∙ (a.each n ∙ ap (λ s. record (noted_at fs ps os n) { requests = s }) (sym (requests_other ps p n h))));
      forest = a.forest;
      order = a.order;
    }

-- one more is settled
settled_one : (nodes : List Noted) (fs : List Following) (asked : List ℕ) (p k : ℕ) (os : List Outcome) → AreNodes nodes fs asked os → p < length nodes
    → IsInOrder fs (outcome k p ∷ os) → AreNodes (settlement_at p (Some k) nodes) fs asked (outcome k p ∷ os)
settled_one nodes fs asked p k os a hp o =
    let last : Outcome = outcome k p in
    let e = a.each p in
    let at : Noted = record (node_at nodes p) { settlement = Some k } in
    record {
      each = λ n. each_at (λ n. node_at (set nodes p at) n ≡ noted_at fs asked (last ∷ os) n) p n
          (get_or-set_same nodes p at bare hp ∙ λ i. record { leader = (e i).leader; followers = (e i).followers; requests = (e i).requests; settlement = sym (settled_head last os) i })
          (λ h. get_or-set_other nodes p n at bare (λ g. h (sym g)) ∙ (a.each n ∙ ap (λ s. record (noted_at fs asked os n) { settlement = s }) (sym (settled_other last os n h))));
      forest = a.forest;
      order = o;
    }

pub order_tail : (fs : List Following) (k : ℕ) (ps : List ℕ) (os : List Outcome) → IsInOrder fs (with_outcomes k ps os) → IsInOrder fs os
order_tail fs k [] os o = o
order_tail fs k (p ∷ ps) os o = (order_tail fs k ps (outcome k p ∷ os) o).2

-- each is below k
abbrev pub AreBelow : ℕ → List ℕ → Type 0
AreBelow k [] = Unit {0}
AreBelow k (p ∷ ps) = (p < k) × AreBelow k ps

-- these are settled
pub settled_all : (nodes : List Noted) (fs : List Following) (asked : List ℕ) (k : ℕ) (ps : List ℕ) (os : List Outcome) → AreNodes nodes fs asked os
    → AreBelow (length nodes) ps → IsInOrder fs (with_outcomes k ps os) → AreNodes (with_settlement k ps nodes) fs asked (with_outcomes k ps os)
settled_all nodes fs asked k [] os a made o = a
settled_all nodes fs asked k (p ∷ ps) os a made o =
    let last : Outcome = outcome k p in
    let next : List Noted = settlement_at p (Some k) nodes in
    let same : length next ≡ length nodes = length-set nodes p _ in
    settled_all next fs asked k ps (last ∷ os) (settled_one nodes fs asked p k os a made.0 (order_tail fs k ps (last ∷ os) o))
    (subst (λ k. AreBelow k ps) (sym same) made.1) o

-- those that were not made at the start are cut
pub cut : (k : ℕ) (nodes : List Noted) (fs : List Following) (asked : List ℕ) (os : List Outcome) → k ≤ length nodes → AreNodes nodes fs asked os
    → ((n : ℕ) → k ≤ n → noted_at fs asked os n ≡ bare) → AreNodes (take k nodes) fs asked os
cut k nodes fs asked os h a late = record {
  each = λ n. elim (cases_lt n k) [
    | inl l ↦ get_or-take k nodes n bare l ∙ a.each n
    | inr g ↦ node_past (take k nodes) n (omega (arith, length-take-le k nodes h, g)) ∙ sym (late n g)
  ];
  forest = a.forest;
  order = a.order;
}

-- those that are settled one after another, at the end of the list
pub outcomes_pushed : (k : ℕ) (ps : List ℕ) (os : List Outcome) → reverse (os ++ map (outcome k) ps) ≡ with_outcomes k ps (reverse os)
outcomes_pushed k [] os = ap reverse (append-nil os)
outcomes_pushed k (p ∷ ps) os =
    ap reverse (sym (append_assoc os (outcome k p ∷ []) (map (outcome k) ps)))
    ∙ (outcomes_pushed k ps (os ++ outcome k p ∷ [])
    ∙ ap (with_outcomes k ps) (reverse-append os (outcome k p ∷ [])))

pub settled_in_append : (es fs : List Consequence) → settled_in (es ++ fs) ≡ settled_in es ++ settled_in fs
settled_in_append [] fs = refl
settled_in_append (Settled p ∷ es) fs = ap (λ (ps : List ℕ). p ∷ ps) (settled_in_append es fs)
settled_in_append (Notified _ _ ∷ es) fs = settled_in_append es fs

-- one more of the events
pub settled_in_more : (es : List Consequence) (i : ℕ) (d : Consequence) → i < length es → settled_in (take (i + 1) es) ≡ settled_in (take i es) ++ settled_in (get_or es i d ∷ [])
settled_in_more es i d h = ap settled_in (take_more es i d h) ∙ settled_in_append (take i es) (get_or es i d ∷ [])

pub with_settlement_append : (k : ℕ) (ps qs : List ℕ) (nodes : List Noted) → with_settlement k (ps ++ qs) nodes ≡ with_settlement k qs (with_settlement k ps nodes)
with_settlement_append k [] qs nodes = refl
with_settlement_append k (p ∷ ps) qs nodes = with_settlement_append k ps qs (settlement_at p (Some k) nodes)

pub length-with_settlement : (k : ℕ) (ps : List ℕ) (nodes : List Noted) → length (with_settlement k ps nodes) ≡ length nodes
length-with_settlement k [] nodes = refl
length-with_settlement k (p ∷ ps) nodes = length-with_settlement k ps (settlement_at p (Some k) nodes) ∙ length-set nodes p _

pub take_twice : {X : Type 0} (k : ℕ) (xs : List X) → take k (take k xs) ≡ take k xs
take_twice zero xs = refl
take_twice (suc k) [] = refl
take_twice (suc k) (x ∷ xs) = ap (λ ys. x ∷ ys) (take_twice k xs)
