-- What leads to a promise is settled with it, and a promise that follows another just as that one is.
use Rattle.std.proofs.Common.{◌≡◌, ◌≢◌, ℕ, ◌<◌, List, [], ◌∷◌, ◌++◌, length, ◌⊎◌, inl, inr, refl, sym, ap, ◌∙◌, subst, arith, map, Option, None, Some, true, Result, Ok, Err, IfOk, OnOk}
use Rattle.std.proofs.lemmas.List.{get_or_append_left, get_or_push, length-map, map-append}
use Rattle.promise_store.specs.declared.links.Consequence.{Consequence}
use Rattle.promise_store.specs.declared.links.Following.{Following}
use Rattle.promise_store.specs.declared.links.Outcome.{Outcome}
use Rattle.promise_store.specs.declared.settlement.Settlement.{Settlement}
use Rattle.promise_store.specs.Cascade.{Settles, none, first, settled_in}
use Rattle.promise_store.specs.Linked.{AreAlike, IsForest, LeadsTo, Linked, LinkedTurn, followers, here, leader, links_changed, outcome, settlement_of, settling, through, with_outcomes}
use Rattle.promise_store.specs.States.{SettlementView, broken, settled, settlement_at, settlement_view, state_of}
use Rattle.promise_store.specs.Turns.{AreSettledWith}
use Rattle.promise_store.specs.Whole.{are_numbered}
use Rattle.host_data.specs.Tree.{null}
use Rattle.promise_store.proofs.Forest.{leads_through}
use Rattle.promise_store.proofs.Changes.{each_at, followers_here, followers_other, leader_here, leader_other, settled_head}
use Rattle.promise_store.proofs.Cascade.{led_followers}
use Rattle.promise_store.proofs.Whole.{numbered_at}
use Rattle.promise_store.proofs.Order.{Among, among_append, led_among, settled_elsewhere, settled_parts}

among_or_not : (n : ℕ) (xs : List ℕ) → Among n xs ⊎ (Among n xs → ⊥)
among_or_not n [] = inr (λ a. a)
among_or_not n (x ∷ xs) = each_at (λ n. Among n (x ∷ xs) ⊎ (Among n (x ∷ xs) → ⊥)) x n (inl (inl refl))
    (λ apart. elim (among_or_not n xs) [ inl a ↦ inl (inr a) | inr h ↦ inr (λ a. elim a [ inl e ↦ apart e | inr b ↦ h b ]) ])

among_left : (n : ℕ) (xs ys : List ℕ) → Among n xs → Among n (xs ++ ys)
among_left n [] ys a = absurd a
among_left n (x ∷ xs) ys (inl e) = inl e
among_left n (x ∷ xs) ys (inr a) = inr (among_left n xs ys a)

among_right : (n : ℕ) (xs ys : List ℕ) → Among n ys → Among n (xs ++ ys)
among_right n [] ys a = a
among_right n (x ∷ xs) ys a = inr (among_right n xs ys a)

-- what follows q is among its followers
more_followers : (f : Following) (fs : List Following) (n q : ℕ) → Among n (followers fs q) → Among n (followers (f ∷ fs) q)
more_followers f fs n q a = each_at (λ q. Among n (followers fs q) → Among n (followers (f ∷ fs) q)) f.target q
    (λ b. subst (Among n) (sym (followers_here f fs)) (among_left n (followers fs f.target) (f.promise ∷ []) b))
    (λ apart b. subst (Among n) (sym (followers_other f fs q apart)) b)
    a

follows_among : (fs : List Following) (n q : ℕ) → leader fs n ≡ Some q → Among n (followers fs q)
follows_among [] n q e = let two : None ≡ Some q = e in absurd (grind arith)
follows_among (f ∷ fs) n q e = each_at (λ n. leader (f ∷ fs) n ≡ Some q → Among n (followers (f ∷ fs) q)) f.promise n
    (λ x.
    let two : Some f.target ≡ Some q = sym (leader_here f fs) ∙ x in
    let same : f.target ≡ q = grind arith in
    subst (λ q. Among f.promise (followers (f ∷ fs) q)) same
    (subst (Among f.promise) (sym (followers_here f fs)) (among_right f.promise (followers fs f.target) (f.promise ∷ []) (inl refl))))
    (λ apart x. more_followers f fs n q (follows_among fs n q (sym (leader_other f fs n apart) ∙ x)))
    e

leads_over : (fs : List Following) (p q n : ℕ) → LeadsTo fs p q → LeadsTo fs q n → LeadsTo fs p n
leads_over fs p q _ a here = a
leads_over fs p q _ a (through n r e l) = through n r e (leads_over fs p q r a l)

-- what is settled with these leads to one of them
leads_to_one : (l : Linked) (qs : List ℕ) (es : List Consequence) → IsForest l.follows → Settles l qs es → (n : ℕ) → Among n (settled_in es) → (q : ℕ) × Among q qs × LeadsTo l.follows q n
leads_to_one l _ _ h none n m = absurd m
leads_to_one l _ _ h (first q qs below rest es sb sr e) n m =
    let parts = subst (Among n) (settled_parts l q below rest es e) m in
    elim parts [
      | inl x ↦ (q, inl refl, subst (λ n. LeadsTo l.follows q n) x here)
      | inr m ↦ elim (among_append n (settled_in below) (settled_in rest) m) [
        | inl b ↦
            let w = leads_to_one l (followers l.follows q) below h sb n b in
            let led = led_among l.follows q w.0 _ (led_followers l.follows q h) w.1 in
            (q, inl refl, leads_over l.follows q w.0 n (through w.0 q led here) w.2)
        | inr b ↦ let w = leads_to_one l qs rest h sr n b in (w.0, inr w.1, w.2)
      ]
    ]

-- each of these is settled, and so are the followers of each that is
settled_themselves : (l : Linked) (qs : List ℕ) (es : List Consequence) → Settles l qs es → (q : ℕ) → Among q qs → Among q (settled_in es)
settled_themselves l _ _ none q m = absurd m
settled_themselves l _ _ (first p qs below rest es sb sr e) q m = subst (Among q) (sym (settled_parts l p below rest es e)) (elim m [
  | inl x ↦ inl x
  | inr a ↦ inr (among_right q (settled_in below) (settled_in rest) (settled_themselves l qs rest sr q a))
])

followers_settled : (l : Linked) (qs : List ℕ) (es : List Consequence) → Settles l qs es → (q n : ℕ) → Among q (settled_in es) → Among n (followers l.follows q) → Among n (settled_in es)
followers_settled l _ _ none q n m a = absurd m
followers_settled l _ _ (first p qs below rest es sb sr e) q n m a =
    subst (Among n) (sym (settled_parts l p below rest es e)) (elim (subst (Among q) (settled_parts l p below rest es e) m) [
      | inl x ↦ inr (among_left n (settled_in below) (settled_in rest) (settled_themselves l (followers l.follows p) below sb n (subst (λ q. Among n (followers l.follows q)) (sym x) a)))
      | inr m ↦ elim (among_append q (settled_in below) (settled_in rest) m) [
        | inl b ↦ inr (among_left n (settled_in below) (settled_in rest) (followers_settled l (followers l.follows p) below sb q n b a))
        | inr b ↦ inr (among_right n (settled_in below) (settled_in rest) (followers_settled l qs rest sr q n b a))
      ]
    ])

-- what is settled with p is all that leads to it
leads_to_it : (l : Linked) (p : ℕ) (es : List Consequence) → IsForest l.follows → Settles l (p ∷ []) es → (n : ℕ) → Among n (settled_in es) → LeadsTo l.follows p n
leads_to_it l p es h s n m =
    let w = leads_to_one l (p ∷ []) es h s n m in
    elim w.1 [ inl e ↦ subst (λ q. LeadsTo l.follows q n) (sym e) w.2 | inr f ↦ absurd f ]

settles_leading : (l : Linked) (p : ℕ) (es : List Consequence) → Settles l (p ∷ []) es → (n : ℕ) → LeadsTo l.follows p n → Among n (settled_in es)
settles_leading l p es s _ here = settled_themselves l (p ∷ []) es s p (inl refl)
settles_leading l p es s _ (through n q e lead) = followers_settled l (p ∷ []) es s q n (settles_leading l p es s q lead) (follows_among l.follows n q e)

settled_here : (k : ℕ) (ps : List ℕ) (os : List Outcome) (n : ℕ) → Among n ps → settlement_of (with_outcomes k ps os) n ≡ Some k
settled_here k [] os n m = absurd m
settled_here k (p ∷ ps) os n m = elim (among_or_not n ps) [
  | inl a ↦ settled_here k ps (outcome k p ∷ os) n a
  | inr h ↦ elim m [
    | inl e ↦ settled_elsewhere k ps (outcome k p ∷ os) n h ∙ subst (λ n. settlement_of (outcome k p ∷ os) n ≡ Some k) e (settled_head (outcome k p) os)
    | inr a ↦ absurd (h a)
  ]
]

-- promises are settled, and each that follows another is settled as that one is
pub alike_settled : (l : Linked) (k p : ℕ) (es : List Consequence) → IsForest l.follows → leader l.follows p ≡ None → AreAlike l.follows l.outcomes → Settles l (p ∷ []) es
    → AreAlike l.follows (with_outcomes k (settled_in es) l.outcomes)
alike_settled l k p es h free a s = record {
  each = λ n q e.
      let fs = l.follows in
      let ps = settled_in es in
      elim (among_or_not q ps) [
        | inl m ↦ settled_here k ps l.outcomes n (followers_settled l (p ∷ []) es s q n m (follows_among fs n q e)) ∙ sym (settled_here k ps l.outcomes q m)
        | inr out ↦
            let apart : n ≢ p = λ x. let two : Some q ≡ None = sym e ∙ (ap (leader fs) x ∙ free) in grind arith in
            let away : Among n ps → ⊥ = λ m. out (settles_leading l p es s q (leads_through fs p n q e apart (leads_to_it l p es h s n m))) in
            settled_elsewhere k ps l.outcomes n away ∙ (a.each n q e ∙ sym (settled_elsewhere k ps l.outcomes q out))
      ];
}

-- a promise that is pending comes to follow one that isn't settled
pub alike_following : (fs : List Following) (os : List Outcome) (p t : ℕ) → settlement_of os p ≡ None → settlement_of os t ≡ None → AreAlike fs os → AreAlike (record { promise = p; target = t } ∷ fs) os
alike_following fs os p t free pending a =
    let f : Following = record { promise = p; target = t } in
    record {
      each = λ n q e. each_at (λ n. leader (f ∷ fs) n ≡ Some q → settlement_of os n ≡ settlement_of os q) p n
          (λ x.
          let two : Some t ≡ Some q = sym (leader_here f fs) ∙ x in
          let same : t ≡ q = grind arith in
          free ∙ (sym pending ∙ ap (settlement_of os) same))
          (λ apart x. a.each n q (sym (leader_other f fs n apart) ∙ x))
          e;
    }

state_push : (ss : List Settlement) (v : Settlement) (s q : Option ℕ) → ((k : ℕ) → s ≡ Some k → k < length ss) → state_of (map settlement_view (ss ++ v ∷ [])) s q ≡ state_of (map settlement_view ss) s q
state_push ss v None None h = refl
state_push ss v None (Some q) h = refl
state_push ss v (Some k) q h =
    let views = map settlement_view ss in
    let within : k < length views = omega (arith, h k refl, length-map ss settlement_view) in
    ap settled (ap (λ vs. settlement_at vs k) (map-append settlement_view ss (v ∷ [])) ∙ get_or_append_left views (settlement_view v ∷ []) (broken null) k within)

-- what a promise is settled with goes to all that leads to it, and nothing else changes
pub settled_with : {R : Type 0} (old new : LinkedTurn) (entries : List R) (ss : List Settlement) (v : Settlement) (p : ℕ) (es : List Consequence) → IsForest old.now.follows → Settles old.now (p ∷ []) es
    → are_numbered (length ss) old.now.outcomes ≡ true → new ≡ links_changed (settling (length ss) (settled_in es)) old
    → AreSettledWith (settled (settlement_view v)) p (record { links = old.now; entries = entries; settlements = map settlement_view ss }) (record { links = new.now; entries = entries; settlements = map settlement_view (ss ++ v ∷ []) })
settled_with old new entries ss v p es h settles numbered is =
    let fs = old.now.follows in
    let os = old.now.outcomes in
    let ps = settled_in es in
    rw is record {
      leading = λ n lead.
          ap (λ k. state_of (map settlement_view (ss ++ v ∷ [])) k (leader fs n)) (settled_here (length ss) ps os n (settles_leading old.now p es settles n lead))
          ∙ ap settled (ap (λ vs. settlement_at vs (length ss)) (map-append settlement_view ss (v ∷ [])) ∙ get_or_push (map settlement_view ss) (settlement_view v) (broken null) (length ss) (length-map ss settlement_view));
      others = λ n out.
          ap (λ k. state_of (map settlement_view (ss ++ v ∷ [])) k (leader fs n)) (settled_elsewhere (length ss) ps os n (λ m. out (leads_to_it old.now p es h settles n m)))
          ∙ state_push ss v (settlement_of os n) (leader fs n) (λ k e. numbered_at (length ss) n k os numbered e);
    }

-- and so does a settlement that is there
pub settled_as : {R E V : Type 0} (items : V → List Consequence) (r : Result V E) (old new : LinkedTurn) (entries : List R) (views : List SettlementView) (k p t : ℕ) → IsForest old.now.follows
    → settlement_of old.now.outcomes t ≡ Some k → IfOk r (λ v. Settles old.now (p ∷ []) (items v)) → IfOk r (λ v. new ≡ links_changed (settling k (settled_in (items v))) old)
    → OnOk r (AreSettledWith (state_of views (settlement_of old.now.outcomes t) (leader old.now.follows t)) p (record { links = old.now; entries = entries; settlements = views }) (record { links = new.now; entries = entries; settlements = views }))
settled_as items (Err e) old new entries views k p t h there settles is = tt
settled_as items (Ok v) old new entries views k p t h there settles is =
    let fs = old.now.follows in
    let os = old.now.outcomes in
    let ps = settled_in (items v) in
    rw is record {
      leading = λ n lead.
          ap (λ k. state_of views k (leader fs n)) (settled_here k ps os n (settles_leading old.now p (items v) settles n lead))
          ∙ sym (ap (λ k. state_of views k (leader fs t)) there);
      others = λ n out. ap (λ k. state_of views k (leader fs n)) (settled_elsewhere k ps os n (λ m. out (leads_to_it old.now p (items v) h settles n m)));
    }

pub if_ok : {T E : Type 0} (P Q : T → Type 0) (r : Result T E) → ((v : T) → P v → Q v) → IfOk r P → IfOk r Q
if_ok P Q (Ok v) h p = h v p
if_ok P Q (Err e) h p = tt
