-- Where each promise's chain ends, and how far that is.
use Rattle.std.proofs.Common.{◌≡◌, ℕ, zero, suc, ◌<◌, ◌≤◌, ◌≢◌, List, [], ◌∷◌, ◌+◌, refl, subst, arith, ◌==◌, if◌then◌else◌, Option, None, Some}
use Rattle.std.proofs.lemmas.Bool.Decides.{nat_tests}
use Rattle.promise_store.specs.declared.links.Following.{Following}
use Rattle.promise_store.specs.Linked.{leader, LeadsTo, here, through, IsForest}

-- where n leads at last, and after how many steps, where the latest of fs came to a forest of the others
abbrev pub end : List Following → ℕ → ℕ
end [] n = n
end (f ∷ fs) n = if end fs n == f.promise then end fs f.target else end fs n

abbrev pub height : List Following → ℕ → ℕ
height [] n = 0
height (f ∷ fs) n = if end fs n == f.promise then height fs n + 1 + height fs f.target else height fs n

-- a bound of all heights
abbrev pub limit : List Following → ℕ
limit [] = 0
limit (f ∷ fs) = limit fs + limit fs + 1

-- the forest, by where chains end
abbrev IsTree : List Following → Type 0
IsTree [] = Unit {0}
IsTree (f ∷ fs) = (leader fs f.promise ≡ None) × (end fs f.target ≢ f.promise) × IsTree fs

leaderless : (fs : List Following) (n : ℕ) → IsTree fs → leader fs n ≡ None → (end fs n ≡ n) × (height fs n ≡ 0)
leaderless [] n t e = (refl, refl)
leaderless (f ∷ fs) n t e = let ih = leaderless fs n t.2 in grind (arith, nat_tests)

pub step : (fs : List Following) (n q : ℕ) → IsTree fs → leader fs n ≡ Some q → (end fs n ≡ end fs q) × (height fs n ≡ height fs q + 1)
step [] n q t e = grind arith
step (f ∷ fs) n q t e =
    let ih = step fs n q t.2 in
    let at = leaderless fs f.promise t.2 t.0 in
    let apart = t.1 in
    grind (arith, nat_tests)

pub height_within : (fs : List Following) (n : ℕ) → height fs n ≤ limit fs
height_within [] n = omega arith
height_within (f ∷ fs) n =
    let one = height_within fs n in
    let other = height_within fs f.target in
    grind (arith, nat_tests)

-- each chain leads to its end
ends_at : (fs : List Following) (n : ℕ) (o : Option ℕ) → IsTree fs → leader fs n ≡ o → ((q : ℕ) → height fs q < height fs n → LeadsTo fs (end fs q) q) → LeadsTo fs (end fs n) n
ends_at fs n None t e below = rw (leaderless fs n t e).0 here
ends_at fs n (Some q) t e below =
    let s = step fs n q t e in
    rw s.0 (through n q e (below q (omega (arith, s.1))))

ends_below : (k : ℕ) (fs : List Following) (n : ℕ) → IsTree fs → height fs n < k → LeadsTo fs (end fs n) n
ends_below zero fs n t h = absurd (omega (arith, h))
ends_below (suc k) fs n t h = ends_at fs n (leader fs n) t refl (λ q lt. ends_below k fs q t (omega (arith, h, lt)))

pub tree : (fs : List Following) → IsForest fs → IsTree fs
tree [] h = tt
tree (f ∷ fs) h =
    let t = tree fs h.2 in
    (h.0, (λ e. h.1 (subst (λ x. LeadsTo fs x f.target) e (ends_below (height fs f.target + 1) fs f.target t (omega arith)))), t)

pub higher : (fs : List Following) (n q : ℕ) → IsForest fs → leader fs n ≡ Some q → height fs n ≡ height fs q + 1
higher fs n q h e = (step fs n q (tree fs h) e).1

-- where n isn't p, it leads to p as far as what it follows does
next_leads : (fs : List Following) (p n : ℕ) → n ≢ p → LeadsTo fs p n → (q : ℕ) × (leader fs n ≡ Some q) × LeadsTo fs p q
next_leads fs p _ apart here = absurd (apart refl)
next_leads fs p _ apart (through n q e l) = (q, e, l)

pub leads_through : (fs : List Following) (p n q : ℕ) → leader fs n ≡ Some q → n ≢ p → LeadsTo fs p n → LeadsTo fs p q
leads_through fs p n q e apart l =
    let w = next_leads fs p n apart l in
    let same : w.0 ≡ q = grind arith in
    subst (λ x. LeadsTo fs p x) same w.2

pub leads_nowhere : (fs : List Following) (p n : ℕ) → leader fs n ≡ None → n ≢ p → LeadsTo fs p n → ⊥
leads_nowhere fs p n e apart l = let w = next_leads fs p n apart l in let two : leader fs n ≡ Some w.0 = w.1 in grind arith
