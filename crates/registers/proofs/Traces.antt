-- What a store answers of settling a promise is the world's cascade, step by step.
use Rattle.std.specs.Prelude.{◌==◌, if◌then◌else◌, cond}
use Rattle.std.specs.List.{filter, flat_map}
use Rattle.std.proofs.Common.{◌≡◌, ℕ, zero, suc, ◌+◌, ◌≤◌, true, false, List, [], ◌∷◌, ◌++◌, length, map, refl, sym, ◌∙◌, ap, subst, arith, append_assoc}
use Rattle.std.proofs.lemmas.List.{append-nil, get_or-append-add}
use Rattle.std.proofs.lemmas.Grind.{flat_map-append}
use Rattle.world_state.proofs.lemmas.ListEdits.{length_push}
use Rattle.world_state.specs.promise_store.Cascade.{Settles, none, first, notified, notifications, settled_in}
use Rattle.world_state.specs.promise_store.Linked.{Linked, followers, requests_from}
use Rattle.world_state.specs.promise_store.declared.links.Consequence.{Consequence}
use Rattle.world_state.specs.promise_store.declared.links.Consequence.TheVariants.{Notified, Settled}
use Rattle.world_state.proofs.promise_store.Order.{settled_parts}
use Rattle.world_state.specs.turn_records.Deliveries.{Notice}
use Rattle.world_state.specs.Promises.{CascadeStep, asks, cascade, notifies, settles}
use Rattle.registers.specs.Books.{answered_in, asked_for, notice_at, no_notice}
use Rattle.registers.proofs.Lists.{one_at, times, times-append}

-- the promises that steps settle, and those whose requests they answer
abbrev pub settled_by : List CascadeStep → List ℕ
settled_by [] = []
settled_by (settles p ∷ ss) = p ∷ settled_by ss
settled_by (notifies p ∷ ss) = settled_by ss

abbrev pub notified_by : List CascadeStep → List ℕ
notified_by [] = []
notified_by (settles p ∷ ss) = notified_by ss
notified_by (notifies p ∷ ss) = p ∷ notified_by ss

settled_by-append : (xs ys : List CascadeStep) → settled_by (xs ++ ys) ≡ settled_by xs ++ settled_by ys
settled_by-append [] ys = refl
settled_by-append (settles p ∷ xs) ys = ap (λ (ps : List ℕ). p ∷ ps) (settled_by-append xs ys)
settled_by-append (notifies p ∷ xs) ys = settled_by-append xs ys

notified_by-append : (xs ys : List CascadeStep) → notified_by (xs ++ ys) ≡ notified_by xs ++ notified_by ys
notified_by-append [] ys = refl
notified_by-append (settles p ∷ xs) ys = notified_by-append xs ys
notified_by-append (notifies p ∷ xs) ys = ap (λ (ps : List ℕ). p ∷ ps) (notified_by-append xs ys)

pub answered_in-append : (rs : List Notice) (es fs : List Consequence) → answered_in rs (es ++ fs) ≡ answered_in rs es ++ answered_in rs fs
answered_in-append rs [] fs = refl
answered_in-append rs (Settled p ∷ es) fs = answered_in-append rs es fs
answered_in-append rs (Notified p r ∷ es) fs = ap (λ (ns : List Notice). notice_at rs r ∷ ns) (answered_in-append rs es fs)

-- the requests that ask for p, as they are numbered
answered_from : (before rs : List Notice) (k p : ℕ) → k ≡ length before → answered_in (before ++ rs) (map (notified p) (requests_from k (map asked_for rs) p)) ≡ filter (asks p) rs
answered_from before [] k p e = refl
answered_from before (r ∷ rs) k p e =
    let all : List Notice = before ++ r ∷ rs in
    let ih : answered_in all (map (notified p) (requests_from (k + 1) (map asked_for rs) p)) ≡ filter (asks p) rs =
    ap (λ (xs : List Notice). answered_in xs (map (notified p) (requests_from (k + 1) (map asked_for rs) p))) (sym (append_assoc before (r ∷ []) rs))
    ∙ answered_from (before ++ r ∷ []) rs (k + 1) p (omega (arith, e, length_push before r)) in
    let here : notice_at all k ≡ r = ap (notice_at all) (let at : k ≡ length before + 0 = omega (arith, e) in at) ∙ get_or-append-add before (r ∷ rs) 0 no_notice in
    elim (r.promise == p) as (λ b. answered_in all (map (notified p) (if b then k ∷ requests_from (k + 1) (map asked_for rs) p else requests_from (k + 1) (map asked_for rs) p)) ≡ cond b (r ∷ filter (asks p) rs) (filter (asks p) rs)) [
      | true ↦ ap (λ (n : Notice). n ∷ answered_in all (map (notified p) (requests_from (k + 1) (map asked_for rs) p))) here ∙ ap (λ (ns : List Notice). r ∷ ns) ih
      | false ↦ ih
    ]

pub answered_at : (l : Linked) (rs : List Notice) (p : ℕ) → map asked_for rs ≡ l.asked → answered_in rs (notifications l p) ≡ filter (asks p) rs
answered_at l rs p e = ap (λ (ps : List ℕ). answered_in rs (map (notified p) (requests_from 0 ps p))) (sym e) ∙ answered_from [] rs 0 p refl

-- the steps and what is answered are the same
pub record IsTraced (rs : List Notice) (ss : List CascadeStep) (es : List Consequence) : Type 0 where
  pub settling : settled_by ss ≡ settled_in es
  pub telling : flat_map (λ q. filter (asks q) rs) (notified_by ss) ≡ answered_in rs es
  pub each : (q : ℕ) → times q (notified_by ss) ≡ times q (settled_by ss)

abbrev one_step : ℕ → List CascadeStep → List CascadeStep
one_step p below = settles p ∷ below ++ notifies p ∷ []

traced_first : (l : Linked) (rs : List Notice) (p : ℕ) (below rest : List CascadeStep) (bs os es : List Consequence) → map asked_for rs ≡ l.asked
    → IsTraced rs below bs → IsTraced rs rest os → es ≡ Settled p ∷ bs ++ notifications l p ++ os → IsTraced rs (one_step p below ++ rest) es
traced_first l rs p below rest bs os es asked b o e =
    let told : ℕ → List Notice = λ q. filter (asks q) rs in
    let ps : settled_by (one_step p below ++ rest) ≡ p ∷ (settled_by below ++ settled_by rest) =
    ap (λ (xs : List ℕ). p ∷ xs) (settled_by-append (below ++ notifies p ∷ []) rest
    ∙ ap (λ (xs : List ℕ). xs ++ settled_by rest) (settled_by-append below (notifies p ∷ []) ∙ append-nil (settled_by below))) in
    let ns : notified_by (one_step p below ++ rest) ≡ (notified_by below ++ p ∷ []) ++ notified_by rest =
    notified_by-append (below ++ notifies p ∷ []) rest
    ∙ ap (λ (xs : List ℕ). xs ++ notified_by rest) (notified_by-append below (notifies p ∷ [])) in
    record {
      settling = ps
          ∙ (ap (λ (xs : List ℕ). p ∷ (xs ++ settled_by rest)) b.settling
          ∙ (ap (λ (xs : List ℕ). p ∷ (settled_in bs ++ xs)) o.settling
          ∙ sym (settled_parts l p bs os es e)));
      telling = ap (flat_map told) ns
          ∙ (flat_map-append told (notified_by below ++ p ∷ []) (notified_by rest)
          ∙ (ap (λ (xs : List Notice). xs ++ flat_map told (notified_by rest)) (flat_map-append told (notified_by below) (p ∷ [])
          ∙ (ap (λ (xs : List Notice). flat_map told (notified_by below) ++ xs) (append-nil (told p))
          ∙ (ap (λ (xs : List Notice). xs ++ told p) b.telling
          ∙ ap (λ (xs : List Notice). answered_in rs bs ++ xs) (sym (answered_at l rs p asked)))))
          ∙ (ap (λ (xs : List Notice). (answered_in rs bs ++ answered_in rs (notifications l p)) ++ xs) o.telling
          ∙ (ap (λ (xs : List Notice). xs ++ answered_in rs os) (sym (answered_in-append rs bs (notifications l p)))
          ∙ (sym (answered_in-append rs (bs ++ notifications l p) os)
          ∙ ap (answered_in rs) (sym e))))));
      each = λ q.
          let left : times q (notified_by (one_step p below ++ rest)) ≡ (times q (notified_by below) + (one_at (p == q) + 0)) + times q (notified_by rest) =
          ap (times q) ns ∙ (times-append q (notified_by below ++ p ∷ []) (notified_by rest) ∙ ap (λ (n : ℕ). n + times q (notified_by rest)) (times-append q (notified_by below) (p ∷ []))) in
          let right : times q (settled_by (one_step p below ++ rest)) ≡ one_at (p == q) + (times q (settled_by below) + times q (settled_by rest)) =
          ap (times q) ps ∙ ap (λ (n : ℕ). one_at (p == q) + n) (times-append q (settled_by below) (settled_by rest)) in
          omega (arith, left, right, b.each q, o.each q);
    }

-- nothing is settled of none
settles_some : (l : Linked) (qs : List ℕ) (es : List Consequence) → Settles l qs es → length (settled_in es) ≡ 0 → qs ≡ []
settles_some l _ _ none e = refl
settles_some l _ _ (first q qs below rest es sb sr h) e =
    let some = ap length (settled_parts l q below rest es h) in absurd (omega (arith, e, some))

nothing_of_none : (l : Linked) (es : List Consequence) → Settles l [] es → es ≡ []
nothing_of_none l _ none = refl

length_parts : (xs ys : List ℕ) → length (xs ++ ys) ≡ length xs + length ys
length_parts [] ys = omega arith
length_parts (x ∷ xs) ys = omega (arith, length_parts xs ys)

-- where none is settled with p, nothing hangs on it
bare_below : (l : Linked) (rs : List Notice) (p : ℕ) (below : List Consequence) → Settles l (followers l.follows p) below → length (settled_in below) ≡ 0 → IsTraced rs [] below
bare_below l rs p below sb e =
    let lone = settles_some l (followers l.follows p) below sb e in
    let nothing : below ≡ [] = nothing_of_none l below (subst (λ qs. Settles l qs below) lone sb) in
    subst (IsTraced rs []) (sym nothing) record { settling = refl; telling = refl; each = λ q. refl }

-- Where a cascade may go as deep as so many are settled, it comes to what is answered.
pub traced : (l : Linked) (rs : List Notice) (n : ℕ) (qs : List ℕ) (es : List Consequence) → map asked_for rs ≡ l.asked → Settles l qs es
    → length (settled_in es) ≤ suc n → IsTraced rs (flat_map (λ q. cascade n l.follows q) qs) es
traced l rs n _ _ asked none few = record { settling = refl; telling = refl; each = λ q. refl }
traced l rs zero _ _ asked (first p qs below rest es sb sr e) few =
    let parts : length (settled_in es) ≡ suc (length (settled_in below) + length (settled_in rest)) = ap length (settled_parts l p below rest es e) ∙ ap suc (length_parts (settled_in below) (settled_in rest)) in
    traced_first l rs p [] (flat_map (λ q. cascade zero l.follows q) qs) below rest es asked
    (bare_below l rs p below sb (omega (arith, few, parts)))
    (traced l rs zero qs rest asked sr (omega (arith, few, parts)))
    e
traced l rs (suc n) _ _ asked (first p qs below rest es sb sr e) few =
    let parts : length (settled_in es) ≡ suc (length (settled_in below) + length (settled_in rest)) = ap length (settled_parts l p below rest es e) ∙ ap suc (length_parts (settled_in below) (settled_in rest)) in
    traced_first l rs p (flat_map (λ q. cascade n l.follows q) (followers l.follows p)) (flat_map (λ q. cascade (suc n) l.follows q) qs) below rest es asked
    (traced l rs n (followers l.follows p) below asked sb (omega (arith, few, parts)))
    (traced l rs (suc n) qs rest asked sr (omega (arith, few, parts)))
    e
