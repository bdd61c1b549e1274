-- What is still to be done in settling, what it comes to, and how much it is.
use Rattle.std.proofs.Common.{◌≡◌, ℕ, zero, suc, ◌<◌, ◌≢◌, List, [], ◌∷◌, ◌++◌, reverse, map, ◌+◌, ◌-◌, refl, sym, ap, ◌∙◌, subst, arith, None, Some}
use Rattle.std.specs.List.{sum_by}
use Rattle.std.proofs.lemmas.List.{append-nil, append_assoc, map-append, reverse-append, reverse-reverse}
use Rattle.std.proofs.lemmas.List.Sums.{sum_by-append, sum_by-cons}
use Rattle.std.proofs.lemmas.List.Sorted.{sum_by-IsPermutation, IsPermutation-reverse}
use Rattle.promise_store.specs.declared.links.Following.{Following}
use Rattle.promise_store.specs.declared.links.Consequence.{Consequence}
use Rattle.promise_store.specs.declared.links.Consequence.TheVariants.{Settled}
use Rattle.promise_store.specs.declared.links.Todo.{Todo}
use Rattle.promise_store.specs.declared.links.Todo.TheVariants.{Settle, Notify}
use Rattle.promise_store.specs.Linked.{Linked, leader, followers, IsForest}
use Rattle.promise_store.specs.Cascade.{Settles, none, first, notifications}
use Rattle.promise_store.specs.Steps.{settle_todo, further, shown}
use Rattle.promise_store.proofs.Forest.{height, limit, height_within, higher}
use Rattle.promise_store.proofs.Changes.{each_at, followers_here, followers_other, leader_here, leader_other}

-- each of these follows p
abbrev pub AreLed : List Following → ℕ → List ℕ → Type 0
AreLed fs p [] = Unit {0}
AreLed fs p (q ∷ qs) = (leader fs q ≡ Some p) × AreLed fs p qs

led_push : (fs : List Following) (p : ℕ) (qs : List ℕ) (q : ℕ) → AreLed fs p qs → leader fs q ≡ Some p → AreLed fs p (qs ++ q ∷ [])
led_push fs p [] q a e = (e, tt)
led_push fs p (r ∷ qs) q a e = (a.0, led_push fs p qs q a.1 e)

led_more : (f : Following) (fs : List Following) (p : ℕ) (qs : List ℕ) → leader fs f.promise ≡ None → AreLed fs p qs → AreLed (f ∷ fs) p qs
led_more f fs p [] h a = tt
led_more f fs p (q ∷ qs) h a =
    let apart : f.promise ≢ q = λ e. let two : Some p ≡ None = sym a.0 ∙ (ap (leader fs) (sym e) ∙ h) in grind arith in
    (leader_other f fs q apart ∙ a.0, led_more f fs p qs h a.1)

pub led_followers : (fs : List Following) (p : ℕ) → IsForest fs → AreLed fs p (followers fs p)
led_followers [] p h = tt
led_followers (f ∷ fs) p h = each_at (λ p. AreLed (f ∷ fs) p (followers (f ∷ fs) p)) f.target p
    (rw (followers_here f fs) (led_push (f ∷ fs) f.target (followers fs f.target) f.promise (led_more f fs f.target _ h.0 (led_followers fs f.target h.2)) (leader_here f fs)))
    (λ g. rw (followers_other f fs p g) (led_more f fs p _ h.0 (led_followers fs p h.2)))

-- how much is to be done where p is settled, with all that hangs on it, d steps below it at most
abbrev pub weight : List Following → ℕ → ℕ → ℕ
weight fs zero p = 2
weight fs (suc d) p = 2 + sum_by (weight fs d) (followers fs p)

abbrev pub whole_weight : List Following → ℕ → ℕ
whole_weight fs p = weight fs (limit fs - height fs p) p

sum_led : (fs : List Following) (p d : ℕ) (qs : List ℕ) → IsForest fs → AreLed fs p qs → limit fs - height fs p ≡ suc d → sum_by (weight fs d) qs ≡ sum_by (whole_weight fs) qs
sum_led fs p d [] h a e = refl
sum_led fs p d (q ∷ qs) h a e =
    let below : limit fs - height fs q ≡ d = omega (arith, higher fs q p h a.0, e) in
    let here : weight fs d q ≡ whole_weight fs q = ap (λ k. weight fs k q) (sym below) in
    omega (arith, here, sum_led fs p d qs h a.1 e, sum_by-cons (weight fs d) q qs, sum_by-cons (whole_weight fs) q qs)

no_room : (fs : List Following) (p : ℕ) (qs : List ℕ) → IsForest fs → AreLed fs p qs → limit fs - height fs p ≡ 0 → 0 ≡ sum_by (whole_weight fs) qs
no_room fs p [] h a e = refl
no_room fs p (q ∷ qs) h a e = absurd (omega (arith, higher fs q p h a.0, height_within fs q, e))

weighs_at : (fs : List Following) (p k : ℕ) → IsForest fs → limit fs - height fs p ≡ k → weight fs k p ≡ 2 + sum_by (whole_weight fs) (followers fs p)
weighs_at fs p zero h e = omega (arith, no_room fs p (followers fs p) h (led_followers fs p h) e)
weighs_at fs p (suc d) h e = omega (arith, sum_led fs p d (followers fs p) h (led_followers fs p h) e)

pub weighs : (fs : List Following) (p : ℕ) → IsForest fs → whole_weight fs p ≡ 2 + sum_by (whole_weight fs) (followers fs p)
weighs fs p h = weighs_at fs p (limit fs - height fs p) h refl

abbrev pub step_weight : List Following → Todo → ℕ
step_weight fs (Settle p) = whole_weight fs p
step_weight fs (Notify p) = 1

sum_steps : (fs : List Following) (qs : List ℕ) → sum_by (step_weight fs) (map settle_todo qs) ≡ sum_by (whole_weight fs) qs
sum_steps fs [] = refl
sum_steps fs (q ∷ qs) = omega (arith, sum_steps fs qs, sum_by-cons (step_weight fs) (Settle q) (map settle_todo qs), sum_by-cons (whole_weight fs) q qs)

lighter : (l : Linked) (s : Todo) → IsForest l.follows → sum_by (step_weight l.follows) (further l s) < step_weight l.follows s
lighter l (Settle p) h =
    let qs = followers l.follows p in
    omega (arith, weighs l.follows p h, sum_by-cons (step_weight l.follows) (Notify p) (map settle_todo (reverse qs)), sum_steps l.follows (reverse qs), sum_by-IsPermutation (whole_weight l.follows) qs (reverse qs) (IsPermutation-reverse qs))
lighter l (Notify p) h = omega arith

pub lighter_todo : (l : Linked) (s : Todo) (todo : List Todo) → IsForest l.follows → sum_by (step_weight l.follows) (todo ++ further l s) < sum_by (step_weight l.follows) (todo ++ s ∷ [])
lighter_todo l s todo h =
    omega (arith, lighter l s h, sum_by-append (step_weight l.follows) todo (further l s), sum_by-append (step_weight l.follows) todo (s ∷ []), sum_by-cons (step_weight l.follows) s [])

-- these steps, the next first, come to these events
abbrev pub Remains : Linked → List Todo → List Consequence → Type 0
Remains l [] rest = rest ≡ []
Remains l (Settle p ∷ steps) rest = (es : List Consequence) × (more : List Consequence) × Settles l (p ∷ []) es × Remains l steps more × (rest ≡ es ++ more)
Remains l (Notify p ∷ steps) rest = (more : List Consequence) × Remains l steps more × (rest ≡ notifications l p ++ more)

settles_none : (l : Linked) (es : List Consequence) → Settles l [] es → es ≡ []
settles_none l _ none = refl

joins : (l : Linked) (q : ℕ) (qs : List ℕ) (es fs : List Consequence) → Settles l (q ∷ []) es → Settles l qs fs → Settles l (q ∷ qs) (es ++ fs)
joins l q qs es fs (first _ _ below rest _ sb sr e) s =
    let empty = settles_none l rest sr in
    first q qs below fs (es ++ fs) sb s
    (ap (λ xs. xs ++ fs) (e ∙ ap (λ xs. Settled q ∷ below ++ notifications l q ++ xs) empty) ∙ ap (λ xs. Settled q ∷ xs) (ap (λ xs. xs ++ fs) (append-nil (below ++ notifications l q))))

split_settles : (l : Linked) (qs : List ℕ) (steps : List Todo) (rest : List Consequence) → Remains l (map settle_todo qs ++ steps) rest → (es : List Consequence) × (more : List Consequence) × Settles l qs es × Remains l steps more × (rest ≡ es ++ more)
split_settles l [] steps rest r = ([], rest, none, r, refl)
split_settles l (q ∷ qs) steps rest r =
    let s = split_settles l qs steps r.1 r.3 in
    (r.0 ++ s.0, s.1, joins l q qs r.0 s.0 r.2 s.2, s.3, r.4 ∙ (ap (λ xs. r.0 ++ xs) s.4 ∙ sym (append_assoc r.0 s.0 s.1)))

settled_first : (l : Linked) (p : ℕ) (steps : List Todo) (rest : List Consequence) → Remains l (map settle_todo (followers l.follows p) ++ Notify p ∷ steps) rest → Remains l (Settle p ∷ steps) (Settled p ∷ rest)
settled_first l p steps rest r =
    let s = split_settles l (followers l.follows p) (Notify p ∷ steps) rest r in
    let n = s.3 in
    let all = Settled p ∷ s.0 ++ notifications l p ++ [] in (
      all,
      n.0,
      first p [] s.0 [] all s.2 none refl,
      n.1,
      ap (λ xs. Settled p ∷ xs) (s.4 ∙ (ap (λ xs. s.0 ++ xs) n.2 ∙ (sym (append_assoc s.0 (notifications l p) n.0) ∙ ap (λ xs. xs ++ n.0) (sym (append-nil (s.0 ++ notifications l p)))))),
    )

map_reverse : (qs : List ℕ) → reverse (map settle_todo qs) ≡ map settle_todo (reverse qs)
map_reverse [] = refl
map_reverse (q ∷ qs) =
    reverse-append (Settle q ∷ []) (map settle_todo qs)
    ∙ (ap (λ xs. xs ++ Settle q ∷ []) (map_reverse qs)
    ∙ (sym (map-append settle_todo (reverse qs) (q ∷ []))
    ∙ ap (map settle_todo) (sym (reverse-append (q ∷ []) qs))))

turned : (qs : List ℕ) → reverse (map settle_todo (reverse qs)) ≡ map settle_todo qs
turned qs = map_reverse (reverse qs) ∙ ap (map settle_todo) (reverse-reverse qs)

turned_todo : (p : ℕ) (qs : List ℕ) (todo : List Todo) → reverse (todo ++ Notify p ∷ map settle_todo (reverse qs)) ≡ map settle_todo qs ++ (Notify p ∷ reverse todo)
turned_todo p qs todo =
    let back = map settle_todo (reverse qs) in
    reverse-append todo (Notify p ∷ back)
    ∙ (ap (λ xs. xs ++ reverse todo) (reverse-append (Notify p ∷ []) back ∙ ap (λ xs. xs ++ Notify p ∷ []) (turned qs))
    ∙ append_assoc (map settle_todo qs) (Notify p ∷ []) (reverse todo))

-- a step is taken
pub taken : (l : Linked) (s : Todo) (todo : List Todo) (rest : List Consequence) → Remains l (reverse (todo ++ further l s)) rest → Remains l (reverse (todo ++ s ∷ [])) (shown l s ++ rest)
taken l (Settle p) todo rest r =
    subst (λ steps. Remains l steps (Settled p ∷ rest)) (sym (reverse-append todo (Settle p ∷ [])))
    (settled_first l p (reverse todo) rest (subst (λ steps. Remains l steps rest) (turned_todo p (followers l.follows p) todo) r))
taken l (Notify p) todo rest r =
    subst (λ steps. Remains l steps (notifications l p ++ rest)) (sym (reverse-append todo (Notify p ∷ [])))
    (rest, subst (λ steps. Remains l (reverse steps) rest) (append-nil todo) r, refl)
