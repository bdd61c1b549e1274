-- Where a chain of promises ends, each of which follows the next.
use Rattle.std.specs.Prelude.{◌==◌, cond}
use Rattle.std.specs.List.{AllByRecursion}
use Rattle.std.proofs.Common.{◌≡◌, ◌≢◌, ℕ, zero, suc, ◌<◌, Bool, true, false, List, [], ◌∷◌, Option, Some, None, length, refl, sym, ap, ◌∙◌, subst, arith}
use Rattle.std.proofs.lemmas.Bool.{ne_eqb}
use Rattle.std.proofs.lemmas.Bool.Decides.{nat_tests}
use Rattle.delivery_turns.specs.promise_store.Linked.{IsForest, leader}
use Rattle.delivery_turns.specs.promise_store.States.{SettlementView}
use Rattle.delivery_turns.specs.promise_store.declared.links.Following.{Following}
use Rattle.delivery_turns.proofs.promise_store.Forest.{height, higher}
use Rattle.delivery_turns.specs.world_state.Good.{AreFollowing, IsFollowing}
use Rattle.delivery_turns.specs.world_state.Promises.{IsPending, PromiseBook, settlement_at, state_by, state_of}
use Rattle.delivery_turns.specs.Endings.{last_followed}
use Rattle.delivery_tasks.specs.Leaders.{followed_in}

-- ---- what follows what

pub last_alone : (fs : List Following) (n : ℕ) → IsForest fs → leader fs n ≡ None → last_followed fs n ≡ n
last_alone [] n forest alone = refl
last_alone (f ∷ fs) n forest alone = let ih = last_alone fs n forest.2 in grind (arith, nat_tests)

pub last_led : (fs : List Following) (n q : ℕ) → IsForest fs → leader fs n ≡ Some q → last_followed fs n ≡ last_followed fs q
last_led [] n q forest led = grind arith
last_led (f ∷ fs) n q forest led =
    let ih = last_led fs n q forest.2 in
    let at = last_alone fs f.promise forest.2 forest.0 in
    grind (arith, nat_tests)

-- ---- promises that are followed were made

target_made : (made : ℕ) (fs : List Following) (n q : ℕ) → AllByRecursion (IsFollowing made) fs → leader fs n ≡ Some q → q < made
target_made made [] n q all led = absurd (grind arith)
target_made made (f ∷ fs) n q all led = by (f.promise == n) led (target_made made fs n q all.1)
  where
    by : (b : Bool) → cond b (Some f.target) (leader fs n) ≡ Some q → (leader fs n ≡ Some q → q < made) → q < made
    by true is before = let same : f.target ≡ q = cc in subst (λ k. k < made) same all.0.target
    by false is before = before is

-- ---- a step along a chain

led_by : (s : Option SettlementView) (l : Option ℕ) (q : ℕ) → followed_in (state_by s l) ≡ Some q → l ≡ Some q
led_by (Some v) l q e = absurd (grind arith)
led_by None None q e = absurd (grind arith)
led_by None (Some p) q e = e

pub led_is : (b : PromiseBook) (n q : ℕ) → followed_in (state_of b n) ≡ Some q → leader b.follows n ≡ Some q
led_is b n q e = led_by (settlement_at b.settled n) (leader b.follows n) q e

pub next_made : (b : PromiseBook) (n q : ℕ) → AreFollowing b → followed_in (state_of b n) ≡ Some q → q < length b.settled
next_made b n q following e = target_made (length b.settled) b.follows n q following.made (led_is b n q e)

pub next_same : (b : PromiseBook) (n q : ℕ) → AreFollowing b → followed_in (state_of b n) ≡ Some q → last_followed b.follows n ≡ last_followed b.follows q
next_same b n q following e = last_led b.follows n q following.forest (led_is b n q e)

pub next_lower : (b : PromiseBook) (n q : ℕ) → AreFollowing b → followed_in (state_of b n) ≡ Some q → height b.follows q < height b.follows n
next_lower b n q following e = let h = higher b.follows n q following.forest (led_is b n q e) in omega (arith, h)

-- ---- its end

-- a chain from a promise that is settled ends in one that is settled
settled_end : (k : ℕ) (b : PromiseBook) (n : ℕ) → AreFollowing b → height b.follows n < k → settlement_at b.settled n ≢ None → settlement_at b.settled (last_followed b.follows n) ≢ None
settled_end zero b n following low is = absurd (omega (arith, low))
settled_end (suc k) b n following low is = by (leader b.follows n) refl (λ q. settled_end k b q following)
  where
    by : (l : Option ℕ) → leader b.follows n ≡ l
        → ((q : ℕ) → height b.follows q < k → settlement_at b.settled q ≢ None → settlement_at b.settled (last_followed b.follows q) ≢ None)
        → settlement_at b.settled (last_followed b.follows n) ≢ None
    by None alone later = subst (λ m. settlement_at b.settled m ≢ None) (sym (last_alone b.follows n following.forest alone)) is
    by (Some q) led later =
        let lower = higher b.follows n q following.forest led in
        let there : settlement_at b.settled q ≢ None = λ none. is (following.unsettled n q led none) in
        subst (λ m. settlement_at b.settled m ≢ None) (sym (last_led b.follows n q following.forest led)) (later q (omega (arith, low, lower)) there)

some_none : (v : SettlementView) → Some v ≡ None → ⊥
some_none v e = grind arith

-- where a promise that is made is settled or follows none, its chain ends in a pending one just if it is that one
pub end_is : (b : PromiseBook) (n p : ℕ) → AreFollowing b → IsPending b p → followed_in (state_of b n) ≡ None → (n == p) ≡ (last_followed b.follows n == p)
end_is b n p following mine stops = by (settlement_at b.settled n) (leader b.follows n) refl refl stops
  where
    by : (s : Option SettlementView) (l : Option ℕ) → settlement_at b.settled n ≡ s → leader b.follows n ≡ l → followed_in (state_by s l) ≡ None → (n == p) ≡ (last_followed b.follows n == p)
    by (Some v) l is led stops =
        let there : settlement_at b.settled n ≢ None = λ none. some_none v (sym is ∙ none) in
        let apart : n ≢ p = λ same. there (subst (λ m. settlement_at b.settled m ≡ None) (sym same) mine.unsettled) in
        let last_apart : last_followed b.follows n ≢ p = λ same. settled_end (suc (height b.follows n)) b n following (omega arith) there (subst (λ m. settlement_at b.settled m ≡ None) (sym same) mine.unsettled) in
        ne_eqb n p apart ∙ sym (ne_eqb (last_followed b.follows n) p last_apart)
    by None None is led stops = ap (λ m. m == p) (sym (last_alone b.follows n following.forest led))
    by None (Some q) is led stops = absurd (grind arith)
