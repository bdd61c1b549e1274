-- What rows show for a seat, and that rows which are no calls show nothing more.
use Rattle.std.specs.Prelude.{◌≡◌, ◌==◌, ◌++◌, ℕ, Bool, true, false, List, [], ◌∷◌, Option, Some, None, IfSome, refl, cond, unwrap_or}
use Rattle.std.specs.List.{AllByRecursion}
use Rattle.std.proofs.Common.{sym, ◌∙◌, ap}
use Rattle.fair_rows.specs.ExitCauses.{cause_behind_exit, cause_by_calls, cause_of_call, cause_of_own_call, either, since_opening, while_open}
use Rattle.fair_rows.specs.turn_rows.Causes.{Cause}
use Rattle.fair_rows.specs.turn_rows.Turns.{Event, Opening, called, exited, moved, opened, settled}

-- no call
abbrev pub IsNoCall : Event → Type 0
IsNoCall (called c) = ⊥
IsNoCall _ = Unit {0}

-- ---- causes that calls show

either_assoc : (x y z : Option Cause) → either (either x y) z ≡ either x (either y z)
either_assoc (Some c) y z = refl
either_assoc None y z = refl

pub either_none : (x : Option Cause) → either x None ≡ x
either_none (Some c) = refl
either_none None = refl

-- no exit of the seat
abbrev pub IsNoExitOf : ℕ → Event → Type 0
IsNoExitOf n (exited x) = (x.seat == n) ≡ false
IsNoExitOf n _ = Unit {0}

-- of a seat that hasn't exited in them rows one behind the other show the first that is shown
pub calls_append : (i n : ℕ) (a b : List Event) → AllByRecursion (IsNoExitOf n) a → cause_by_calls i n (a ++ b) ≡ either (cause_by_calls i n a) (cause_by_calls i n b)
calls_append i n [] b none = refl
calls_append i n (called c ∷ a) b none = ap (λ x. either (cause_of_call i n c) x) (calls_append i n a b none.1) ∙ sym (either_assoc (cause_of_call i n c) (cause_by_calls i n a) (cause_by_calls i n b))
calls_append i n (opened o ∷ a) b none = calls_append i n a b none.1
calls_append i n (moved m ∷ a) b none = calls_append i n a b none.1
calls_append i n (exited x ∷ a) b none =
    ap (λ t. cond t (cause_behind_exit n (a ++ b)) (cause_by_calls i n (a ++ b))) none.0
    ∙ calls_append i n a b none.1
    ∙ sym (ap (λ t. either (cond t (cause_behind_exit n a) (cause_by_calls i n a)) (cause_by_calls i n b)) none.0)
calls_append i n (settled p s ∷ a) b none = calls_append i n a b none.1

-- rows without a call show nothing
none_behind : (n : ℕ) (es : List Event) → AllByRecursion IsNoCall es → cause_behind_exit n es ≡ None
none_behind n [] all = refl
none_behind n (called c ∷ es) all = absurd all.0
none_behind n (opened o ∷ es) all = none_behind n es all.1
none_behind n (moved m ∷ es) all = none_behind n es all.1
none_behind n (exited x ∷ es) all = none_behind n es all.1
none_behind n (settled p s ∷ es) all = none_behind n es all.1

same_either : (t : Bool) (x y z : Option Cause) → x ≡ z → y ≡ z → cond t x y ≡ z
same_either true x y z one two = one
same_either false x y z one two = two

pub no_calls : (i n : ℕ) (es : List Event) → AllByRecursion IsNoCall es → cause_by_calls i n es ≡ None
no_calls i n [] all = refl
no_calls i n (called c ∷ es) all = absurd all.0
no_calls i n (opened o ∷ es) all = no_calls i n es all.1
no_calls i n (moved m ∷ es) all = no_calls i n es all.1
no_calls i n (exited x ∷ es) all = same_either (x.seat == n) (cause_behind_exit n es) (cause_by_calls i n es) None (none_behind n es all.1) (no_calls i n es all.1)
no_calls i n (settled p s ∷ es) all = no_calls i n es all.1

-- behind other rows too
behind_then : (n : ℕ) (a b : List Event) → AllByRecursion IsNoCall b → cause_behind_exit n (a ++ b) ≡ cause_behind_exit n a
behind_then n [] b all = none_behind n b all
behind_then n (called c ∷ a) b all = ap (λ x. either (cause_of_own_call n c) x) (behind_then n a b all)
behind_then n (opened o ∷ a) b all = behind_then n a b all
behind_then n (moved m ∷ a) b all = behind_then n a b all
behind_then n (exited x ∷ a) b all = behind_then n a b all
behind_then n (settled p s ∷ a) b all = behind_then n a b all

calls_then : (i n : ℕ) (a b : List Event) → AllByRecursion IsNoCall b → cause_by_calls i n (a ++ b) ≡ cause_by_calls i n a
calls_then i n [] b all = no_calls i n b all
calls_then i n (called c ∷ a) b all = ap (λ x. either (cause_of_call i n c) x) (calls_then i n a b all)
calls_then i n (opened o ∷ a) b all = calls_then i n a b all
calls_then i n (moved m ∷ a) b all = calls_then i n a b all
calls_then i n (exited x ∷ a) b all = ap (λ y. cond (x.seat == n) y (cause_by_calls i n (a ++ b))) (behind_then n a b all) ∙ ap (λ y. cond (x.seat == n) (cause_behind_exit n a) y) (calls_then i n a b all)
calls_then i n (settled p s ∷ a) b all = calls_then i n a b all

-- what is shown first stays, whatever follows
either_stays : (x y z : Option Cause) (c : Cause) → (y ≡ Some c → z ≡ Some c) → either x y ≡ Some c → either x z ≡ Some c
either_stays (Some d) y z c more is = is
either_stays None y z c more is = more is

behind_stays : (n : ℕ) (a b : List Event) (c : Cause) → cause_behind_exit n a ≡ Some c → cause_behind_exit n (a ++ b) ≡ Some c
behind_stays n [] b c is = cc
behind_stays n (called d ∷ a) b c is = either_stays (cause_of_own_call n d) (cause_behind_exit n a) (cause_behind_exit n (a ++ b)) c (behind_stays n a b c) is
behind_stays n (opened o ∷ a) b c is = behind_stays n a b c is
behind_stays n (moved m ∷ a) b c is = behind_stays n a b c is
behind_stays n (exited x ∷ a) b c is = behind_stays n a b c is
behind_stays n (settled p s ∷ a) b c is = behind_stays n a b c is

calls_stay : (i n : ℕ) (a b : List Event) (c : Cause) → cause_by_calls i n a ≡ Some c → cause_by_calls i n (a ++ b) ≡ Some c
calls_stay i n [] b c is = cc
calls_stay i n (called d ∷ a) b c is = either_stays (cause_of_call i n d) (cause_by_calls i n a) (cause_by_calls i n (a ++ b)) c (calls_stay i n a b c) is
calls_stay i n (opened o ∷ a) b c is = calls_stay i n a b c is
calls_stay i n (moved m ∷ a) b c is = calls_stay i n a b c is
calls_stay i n (exited x ∷ a) b c is = by (x.seat == n) (calls_stay i n a b c) is
  where
    by : (t : Bool) → (cause_by_calls i n a ≡ Some c → cause_by_calls i n (a ++ b) ≡ Some c) → cond t (cause_behind_exit n a) (cause_by_calls i n a) ≡ Some c → cond t (cause_behind_exit n (a ++ b)) (cause_by_calls i n (a ++ b)) ≡ Some c
    by true rest h = behind_stays n a b c h
    by false rest h = rest h
calls_stay i n (settled p s ∷ a) b c is = calls_stay i n a b c is

-- ---- rows since an opening

abbrev since_then : Option (List Event) → ℕ → List Event → Option (List Event)
since_then (Some x) n b = Some (x ++ b)
since_then None n b = since_opening n b

since_append : (n : ℕ) (a b : List Event) → since_opening n (a ++ b) ≡ since_then (since_opening n a) n b
since_append n [] b = refl
since_append n (opened o ∷ a) b = by (o.seat == n) (since_append n a b)
  where
    by : (c : Bool) → since_opening n (a ++ b) ≡ since_then (since_opening n a) n b → cond c (Some (a ++ b)) (since_opening n (a ++ b)) ≡ since_then (cond c (Some a) (since_opening n a)) n b
    by true rest = refl
    by false rest = rest
since_append n (called c ∷ a) b = since_append n a b
since_append n (moved m ∷ a) b = since_append n a b
since_append n (exited x ∷ a) b = since_append n a b
since_append n (settled p s ∷ a) b = since_append n a b

-- where the later rows don't open the seat
while_more : (n : ℕ) (a b : List Event) → since_opening n b ≡ None → while_open n (a ++ b) ≡ while_open n a ++ b
while_more n a b none = ap (λ s. unwrap_or s (a ++ b)) (since_append n a b) ∙ by (since_opening n a)
  where
    by : (s : Option (List Event)) → unwrap_or (since_then s n b) (a ++ b) ≡ unwrap_or s a ++ b
    by (Some x) = refl
    by None = ap (λ s. unwrap_or s (a ++ b)) none

-- ---- what is shown of a seat

-- of a seat that hasn't exited
since_left : (n : ℕ) (es : List Event) → AllByRecursion (IsNoExitOf n) es → IfSome (since_opening n es) (AllByRecursion (IsNoExitOf n))
since_left n [] none = tt
since_left n (opened o ∷ es) none = by (o.seat == n) (since_left n es none.1)
  where
    by : (t : Bool) → IfSome (since_opening n es) (AllByRecursion (IsNoExitOf n)) → IfSome (cond t (Some es) (since_opening n es)) (AllByRecursion (IsNoExitOf n))
    by true rest = none.1
    by false rest = rest
since_left n (called c ∷ es) none = since_left n es none.1
since_left n (moved m ∷ es) none = since_left n es none.1
since_left n (exited x ∷ es) none = since_left n es none.1
since_left n (settled p s ∷ es) none = since_left n es none.1

while_left : (n : ℕ) (es : List Event) → AllByRecursion (IsNoExitOf n) es → AllByRecursion (IsNoExitOf n) (while_open n es)
while_left n es none = by (since_opening n es) (since_left n es none)
  where
    by : (s : Option (List Event)) → IfSome s (AllByRecursion (IsNoExitOf n)) → AllByRecursion (IsNoExitOf n) (unwrap_or s es)
    by (Some x) h = h
    by None h = none

pub shown_more : (i n : ℕ) (a b : List Event) → since_opening n b ≡ None → AllByRecursion (IsNoExitOf n) a → cause_by_calls i n (while_open n (a ++ b)) ≡ either (cause_by_calls i n (while_open n a)) (cause_by_calls i n b)
shown_more i n a b none left = ap (λ l. cause_by_calls i n l) (while_more n a b none) ∙ calls_append i n (while_open n a) b (while_left n a left)

pub shown_still : (i n : ℕ) (a b : List Event) → since_opening n b ≡ None → AllByRecursion IsNoCall b → cause_by_calls i n (while_open n (a ++ b)) ≡ cause_by_calls i n (while_open n a)
shown_still i n a b none all = ap (λ l. cause_by_calls i n l) (while_more n a b none) ∙ calls_then i n (while_open n a) b all

pub first_stays : (i n : ℕ) (a b : List Event) (c : Cause) → since_opening n b ≡ None → cause_by_calls i n (while_open n a) ≡ Some c → cause_by_calls i n (while_open n (a ++ b)) ≡ Some c
first_stays i n a b c none is = ap (λ l. cause_by_calls i n l) (while_more n a b none) ∙ calls_stay i n (while_open n a) b c is

-- a seat that was just opened
pub shown_new : (i n : ℕ) (a : List Event) (o : Opening) (rest : List Event) → since_opening n a ≡ None → (o.seat == n) ≡ true → AllByRecursion IsNoCall rest → cause_by_calls i n (while_open n (a ++ opened o ∷ rest)) ≡ None
shown_new i n a o rest none is all =
    ap (λ s. cause_by_calls i n (unwrap_or s (a ++ opened o ∷ rest))) (since_append n a (opened o ∷ rest) ∙ ap (λ s. since_then s n (opened o ∷ rest)) none ∙ ap (λ c. cond c (Some rest) (since_opening n rest)) is)
    ∙ no_calls i n rest all
