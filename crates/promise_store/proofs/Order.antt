-- What hangs on a promise is settled once, and each after what it follows.
use Rattle.std.proofs.Common.{◌≡◌, ℕ, zero, suc, ◌≢◌, List, [], ◌∷◌, ◌++◌, length, map, ◌+◌, ◌⊎◌, inl, inr, refl, sym, ap, ◌∙◌, subst, arith, Option, None, Some, IsSome}
use Rattle.std.proofs.lemmas.List.{append-nil}
use Rattle.promise_store.specs.declared.links.Following.{Following}
use Rattle.promise_store.specs.declared.links.Outcome.{Outcome}
use Rattle.promise_store.specs.declared.links.Consequence.{Consequence}
use Rattle.promise_store.specs.declared.links.Consequence.TheVariants.{Settled}
use Rattle.promise_store.specs.Nodes.{Noted}
use Rattle.promise_store.specs.Linked.{Linked, leader, followers, requests, settlement_of, outcome, with_outcomes, IsForest, IsInOrder}
use Rattle.promise_store.specs.Cascade.{Settles, none, first, notified, notifications, settled_in}
use Rattle.promise_store.specs.Kept.{AreNodes}
use Rattle.promise_store.proofs.Forest.{height, higher}
use Rattle.promise_store.proofs.Changes.{AreBelow, each_at, followers_here, followers_other, inside, settled_head, settled_other, settled_in_append}
use Rattle.promise_store.proofs.Cascade.{AreLed, led_followers}

-- n is one of these
abbrev pub Among : ℕ → List ℕ → Type 0
Among n [] = ⊥
Among n (x ∷ xs) = (x ≡ n) ⊎ Among n xs

pub among_append : (n : ℕ) (xs ys : List ℕ) → Among n (xs ++ ys) → Among n xs ⊎ Among n ys
among_append n [] ys a = inr a
among_append n (x ∷ xs) ys (inl e) = inl (inl e)
among_append n (x ∷ xs) ys (inr a) = elim (among_append n xs ys a) [ inl b ↦ inl (inr b) | inr b ↦ inr b ]

abbrev AreDistinct : List ℕ → Type 0
AreDistinct [] = Unit {0}
AreDistinct (x ∷ xs) = (Among x xs → ⊥) × AreDistinct xs

distinct_push : (xs : List ℕ) (y : ℕ) → AreDistinct xs → (Among y xs → ⊥) → AreDistinct (xs ++ y ∷ [])
distinct_push [] y d h = ((λ a. a), tt)
distinct_push (x ∷ xs) y d h = (
  (λ a. elim (among_append x xs (y ∷ []) a) [ inl b ↦ d.0 b | inr b ↦ elim b [ inl e ↦ h (inl (sym e)) | inr f ↦ f ] ]),
  distinct_push xs y d.1 (λ a. h (inr a)),
)

pub led_among : (fs : List Following) (p q : ℕ) (qs : List ℕ) → AreLed fs p qs → Among q qs → leader fs q ≡ Some p
led_among fs p q [] a m = absurd m
led_among fs p q (x ∷ qs) a (inl e) = ap (leader fs) (sym e) ∙ a.0
led_among fs p q (x ∷ qs) a (inr m) = led_among fs p q qs a.1 m

followers_distinct : (fs : List Following) (p : ℕ) → IsForest fs → AreDistinct (followers fs p)
followers_distinct [] p h = tt
followers_distinct (f ∷ fs) p h = each_at (λ p. AreDistinct (followers (f ∷ fs) p)) f.target p
    (rw (followers_here f fs) (distinct_push (followers fs f.target) f.promise (followers_distinct fs f.target h.2)
    (λ m. let two : None ≡ Some f.target = sym h.0 ∙ led_among fs f.target f.promise _ (led_followers fs f.target h.2) m in grind arith)))
    (λ g. rw (followers_other f fs p g) (followers_distinct fs p h.2))

-- what n follows, or n
abbrev or_else : ℕ → Option ℕ → ℕ
or_else n None = n
or_else n (Some q) = q

abbrev up : List Following → ℕ → ℕ → ℕ
up fs zero n = n
up fs (suc k) n = or_else (up fs k n) (leader fs (up fs k n))

-- n leads to q in as many steps as its height is greater
abbrev Under : List Following → ℕ → ℕ → Type 0
Under fs n q = (k : ℕ) × (up fs k n ≡ q) × (height fs n ≡ k + height fs q)

under_same : (fs : List Following) (n q r : ℕ) → Under fs n q → Under fs n r → height fs q ≡ height fs r → q ≡ r
under_same fs n q r u v e =
    let steps : u.0 ≡ v.0 = omega (arith, u.2, v.2, e) in
    sym u.1 ∙ (ap (λ k. up fs k n) steps ∙ v.1)

under_led : (fs : List Following) (n f q : ℕ) → IsForest fs → leader fs f ≡ Some q → Under fs n f → Under fs n q
under_led fs n f q h e u =
    (suc u.0, ap (λ m. or_else m (leader fs m)) u.1 ∙ ap (or_else f) e, omega (arith, u.2, higher fs f q h e))

-- what is settled stays settled
settled_more : (o : Outcome) (os : List Outcome) (n : ℕ) → IsSome (settlement_of os n) → IsSome (settlement_of (o ∷ os) n)
settled_more o os n h = each_at (λ n. IsSome (settlement_of os n) → IsSome (settlement_of (o ∷ os) n)) o.promise n
    (λ _. subst IsSome (sym (settled_head o os)) refl)
    (λ g. subst IsSome (sym (settled_other o os n g)))
    h

settled_still : (k : ℕ) (ps : List ℕ) (os : List Outcome) (n : ℕ) → IsSome (settlement_of os n) → IsSome (settlement_of (with_outcomes k ps os) n)
settled_still k [] os n h = h
settled_still k (p ∷ ps) os n h = settled_still k ps (outcome k p ∷ os) n (settled_more (outcome k p) os n h)

pub settled_elsewhere : (k : ℕ) (ps : List ℕ) (os : List Outcome) (n : ℕ) → (Among n ps → ⊥) → settlement_of (with_outcomes k ps os) n ≡ settlement_of os n
settled_elsewhere k [] os n h = refl
settled_elsewhere k (p ∷ ps) os n h = settled_elsewhere k ps (outcome k p ∷ os) n (λ a. h (inr a)) ∙ settled_other (outcome k p) os n (λ e. h (inl e))

pub leader_settled : (fs : List Following) (os : List Outcome) (n q : ℕ) → IsInOrder fs os → leader fs n ≡ Some q → IsSome (settlement_of os n) → IsSome (settlement_of os q)
leader_settled fs [] n q o e s = s
leader_settled fs (x ∷ os) n q o e s =
    each_at (λ n. leader fs n ≡ Some q → IsSome (settlement_of (x ∷ os) n) → IsSome (settlement_of (x ∷ os) q)) x.promise n
    (λ e _. settled_more x os q (o.1 q e))
    (λ g e s. settled_more x os q (leader_settled fs os n q o.2 e (subst IsSome (settled_other x os n g) s)))
    e s

settled_next : (fs : List Following) (os : List Outcome) (n : ℕ) (l : Option ℕ) → IsInOrder fs os → leader fs n ≡ l → IsSome (settlement_of os n) → IsSome (settlement_of os (or_else n l))
settled_next fs os n None o e s = s
settled_next fs os n (Some q) o e s = leader_settled fs os n q o e s

settled_up : (fs : List Following) (os : List Outcome) (k n : ℕ) → IsInOrder fs os → IsSome (settlement_of os n) → IsSome (settlement_of os (up fs k n))
settled_up fs os zero n o s = s
settled_up fs os (suc k) n o s = settled_next fs os (up fs k n) (leader fs (up fs k n)) o refl (settled_up fs os k n o s)

pub with_outcomes_append : (k : ℕ) (ps qs : List ℕ) (os : List Outcome) → with_outcomes k (ps ++ qs) os ≡ with_outcomes k qs (with_outcomes k ps os)
with_outcomes_append k [] qs os = refl
with_outcomes_append k (p ∷ ps) qs os = with_outcomes_append k ps qs (outcome k p ∷ os)

none_notified : (p : ℕ) (rs : List ℕ) → settled_in (map (notified p) rs) ≡ []
none_notified p [] = refl
none_notified p (r ∷ rs) = none_notified p rs

pub settled_parts : (l : Linked) (q : ℕ) (below rest es : List Consequence) → es ≡ Settled q ∷ below ++ notifications l q ++ rest → settled_in es ≡ q ∷ (settled_in below ++ settled_in rest)
settled_parts l q below rest es e =
    ap settled_in e ∙ ap (λ (ps : List ℕ). q ∷ ps)
    (settled_in_append (below ++ notifications l q) rest
    ∙ ap (λ (ps : List ℕ). ps ++ settled_in rest) (settled_in_append below (notifications l q) ∙ (ap (λ (ps : List ℕ). settled_in below ++ ps) (none_notified q (requests l.asked q)) ∙ append-nil (settled_in below))))

-- what is settled with these leads to one of them
covered : (l : Linked) (qs : List ℕ) (es : List Consequence) → IsForest l.follows → Settles l qs es → (n : ℕ) → Among n (settled_in es) → (q : ℕ) × Among q qs × Under l.follows n q
covered l _ _ h none n m = absurd m
covered l _ _ h (first q qs below rest es sb sr e) n m =
    let parts = subst (Among n) (settled_parts l q below rest es e) m in
    elim parts [
      | inl x ↦ (q, inl refl, subst (λ n. Under l.follows n q) x (0, refl, omega arith))
      | inr m ↦ elim (among_append n (settled_in below) (settled_in rest) m) [
        | inl b ↦
            let w = covered l (followers l.follows q) below h sb n b in
            (q, inl refl, under_led l.follows n w.0 q h (led_among l.follows q w.0 _ (led_followers l.follows q h) w.1) w.2)
        | inr b ↦ let w = covered l qs rest h sr n b in (w.0, inr w.1, w.2)
      ]
    ]

-- These can be settled now: they are apart, nothing that leads to them is settled, and what they follow is.
record IsReady (fs : List Following) (os : List Outcome) (qs : List ℕ) (h : ℕ) : Type 0 where
  pub level : (q : ℕ) → Among q qs → height fs q ≡ h
  pub apart : AreDistinct qs
  pub free : (n q : ℕ) → Among q qs → Under fs n q → settlement_of os n ≡ None
  pub after : (q r : ℕ) → Among q qs → leader fs q ≡ Some r → IsSome (settlement_of os r)

ready_below : (fs : List Following) (os : List Outcome) (q k h : ℕ) (qs : List ℕ) → IsForest fs → IsReady fs os (q ∷ qs) h → IsReady fs (outcome k q ∷ os) (followers fs q) (suc h)
ready_below fs os q k h qs t r =
    let led = led_followers fs q t in
    let at = r.level q (inl refl) in
    record {
      level = λ f m. omega (arith, higher fs f q t (led_among fs q f _ led m), at);
      apart = followers_distinct fs q t;
      free = λ n f m u.
          let e = led_among fs q f _ led m in
          let v = under_led fs n f q t e u in
          let apart : q ≢ n = λ x. let same = ap (height fs) x in omega (arith, same, u.2, higher fs f q t e) in
          settled_other (outcome k q) os n apart ∙ r.free n q (inl refl) v;
      after = λ f s m e.
          let two : Some q ≡ Some s = sym (led_among fs q f _ led m) ∙ e in
          let same : q ≡ s = grind arith in
          subst (λ s. IsSome (settlement_of (outcome k q ∷ os) s)) same (subst IsSome (sym (settled_head (outcome k q) os)) refl);
    }

ready_rest : (l : Linked) (os : List Outcome) (q k h : ℕ) (qs : List ℕ) (below : List Consequence) → IsForest l.follows → IsReady l.follows os (q ∷ qs) h → Settles l (followers l.follows q) below
    → IsReady l.follows (with_outcomes k (settled_in below) (outcome k q ∷ os)) qs h
ready_rest l os q k h qs below t r sb =
    let fs = l.follows in
    let away : (n s : ℕ) → Among s qs → Under fs n s → Under fs n q → ⊥ = λ n s m u v.
    let same : q ≡ s = under_same fs n q s v u (r.level q (inl refl) ∙ sym (r.level s (inr m))) in
    r.apart.0 (subst (λ x. Among x qs) (sym same) m) in
    record {
      level = λ s m. r.level s (inr m);
      apart = r.apart.1;
      free = λ n s m u.
          settled_elsewhere k (q ∷ settled_in below) os n (λ a. elim a [
            | inl x ↦ away n s m u (subst (λ n. Under fs n q) x (0, refl, omega arith))
            | inr b ↦
                let w = covered l (followers fs q) below t sb n b in
                away n s m u (under_led fs n w.0 q t (led_among fs q w.0 _ (led_followers fs q t) w.1) w.2)
          ])
          ∙ r.free n s (inr m) u;
      after = λ s p m e. settled_still k (q ∷ settled_in below) os p (r.after s p (inr m) e);
    }

in_order : (l : Linked) (k : ℕ) (qs : List ℕ) (es : List Consequence) (os : List Outcome) (h : ℕ) → IsForest l.follows → Settles l qs es → IsInOrder l.follows os → IsReady l.follows os qs h → IsInOrder l.follows (with_outcomes k (settled_in es) os)
in_order l k _ _ os h t none o r = o
in_order l k _ _ os h t (first q qs below rest es sb sr e) o r =
    let one : IsInOrder l.follows (outcome k q ∷ os) = (r.free q q (inl refl) (0, refl, omega arith), (λ p x. r.after q p (inl refl) x), o) in
    let two = in_order l k (followers l.follows q) below (outcome k q ∷ os) (suc h) t sb one (ready_below l.follows os q k h qs t r) in
    let three = in_order l k qs rest (with_outcomes k (settled_in below) (outcome k q ∷ os)) h t sr two (ready_rest l os q k h qs below t r sb) in
    subst (λ ps. IsInOrder l.follows (with_outcomes k ps os)) (sym (settled_parts l q below rest es e))
    (subst (IsInOrder l.follows) (sym (with_outcomes_append k (settled_in below) (settled_in rest) (outcome k q ∷ os))) three)

free_or_settled : (fs : List Following) (os : List Outcome) (n p : ℕ) (s : Option ℕ) → settlement_of os n ≡ s → IsInOrder fs os → settlement_of os p ≡ None → Under fs n p → s ≡ None
free_or_settled fs os n p None e o free u = refl
free_or_settled fs os n p (Some k) e o free u =
    let there = subst (λ q. IsSome (settlement_of os q)) u.1 (settled_up fs os u.0 n o (subst IsSome (sym e) refl)) in
    let bad : IsSome {T = ℕ} None = subst IsSome free there in grind arith

-- what hangs on a promise that is pending and follows none is settled once, each after what it follows
pub settled_in_order : (l : Linked) (k p : ℕ) (es : List Consequence) → IsForest l.follows → IsInOrder l.follows l.outcomes → leader l.follows p ≡ None → settlement_of l.outcomes p ≡ None
    → Settles l (p ∷ []) es → IsInOrder l.follows (with_outcomes k (settled_in es) l.outcomes)
settled_in_order l k p es t o top free s = in_order l k (p ∷ []) es l.outcomes (height l.follows p) t s o record {
  level = λ q m. elim m [ inl e ↦ ap (height l.follows) (sym e) | inr f ↦ absurd f ];
  apart = ((λ a. a), tt);
  free = λ n q m u. elim m [
    | inl e ↦ free_or_settled l.follows l.outcomes n p (settlement_of l.outcomes n) refl o free (subst (Under l.follows n) (sym e) u)
    | inr f ↦ absurd f
  ];
  after = λ q r m e. elim m [
    | inl x ↦ let two : Some r ≡ None = sym e ∙ (ap (leader l.follows) (sym x) ∙ top) in grind arith
    | inr f ↦ absurd f
  ];
}

below_append : (k : ℕ) (xs ys : List ℕ) → AreBelow k xs → AreBelow k ys → AreBelow k (xs ++ ys)
below_append k [] ys a b = b
below_append k (x ∷ xs) ys a b = (a.0, below_append k xs ys a.1 b)

led_below : (nodes : List Noted) (fs : List Following) (asked : List ℕ) (os : List Outcome) (p : ℕ) (qs : List ℕ) → AreNodes nodes fs asked os → AreLed fs p qs → AreBelow (length nodes) qs
led_below nodes fs asked os p [] a l = tt
led_below nodes fs asked os p (q ∷ qs) a l = (
  inside nodes q _ (a.each q) (λ h. let two : Some p ≡ None = sym l.0 ∙ ap (λ (x : Noted). x.leader) h in grind arith),
  led_below nodes fs asked os p qs a l.1,
)

-- what is settled was made
pub settled_below : (nodes : List Noted) (l : Linked) (qs : List ℕ) (es : List Consequence) → AreNodes nodes l.follows l.asked l.outcomes → AreBelow (length nodes) qs → Settles l qs es → AreBelow (length nodes) (settled_in es)
settled_below nodes l _ _ a b none = tt
settled_below nodes l _ _ a b (first q qs below rest es sb sr e) =
    subst (AreBelow (length nodes)) (sym (settled_parts l q below rest es e)) (
      b.0,
      below_append (length nodes) (settled_in below) (settled_in rest)
          (settled_below nodes l (followers l.follows q) below a (led_below nodes l.follows l.asked l.outcomes q _ a (led_followers l.follows q a.forest)) sb)
          (settled_below nodes l qs rest a b.1 sr),
    )
