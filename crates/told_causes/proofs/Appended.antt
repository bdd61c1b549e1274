-- What one more row does to the causes that the rows of a turn show.
use Rattle.std.proofs.Common.{◌≡◌, ℕ, ◌==◌, ◌<◌, Bool, true, false, cond, ◌||◌, List, [], ◌∷◌, ◌++◌, Option, Some, None, refl, sym, ap, ◌∙◌, arith}
use Rattle.std.specs.Prelude.{unwrap_or}
use Rattle.std.specs.List.{AllByRecursion, list_any}
use Rattle.std.specs.Option.{option_map}
use Rattle.std.proofs.lemmas.List.Folds.{list_any-append}
use Rattle.row_records.specs.fair_rows.ExitCauses.{cause_behind_exit, cause_by_calls, cause_of_call, cause_of_own_call, either, since_opening, while_open}
use Rattle.row_records.specs.turn_rows.Causes.{Cause}
use Rattle.row_records.specs.turn_rows.Turns.{Call, Event, called, exited, moved, opened, settled}
use Rattle.told_causes.specs.ToldCauses.{IsOfSeatBelow, exits, has_exited}

either_none : {A : Type 0} (o : Option A) → either o None ≡ o
either_none (Some x) = refl
either_none None = refl

pub either_either : {A : Type 0} (o p q : Option A) → either (either o p) q ≡ either o (either p q)
either_either (Some x) p q = refl
either_either None p q = refl

-- ---- rows since an opening

-- an opening of the seat
abbrev pub opens : ℕ → Event → Bool
opens seat (opened o) = o.seat == seat
opens seat _ = false

since_more : (n : ℕ) (es : List Event) (e : Event) → opens n e ≡ false → since_opening n (es ++ e ∷ []) ≡ option_map (λ fs. fs ++ e ∷ []) (since_opening n es)
since_more n [] (called c) h = refl
since_more n [] (opened o) h = rw h refl
since_more n [] (moved m) h = refl
since_more n [] (exited x) h = refl
since_more n [] (settled p s) h = refl
since_more n (called c ∷ es) e h = since_more n es e h
since_more n (moved m ∷ es) e h = since_more n es e h
since_more n (exited x ∷ es) e h = since_more n es e h
since_more n (settled p s ∷ es) e h = since_more n es e h
since_more n (opened o ∷ es) e h = by (o.seat == n) (since_more n es e h)
  where
    by : (b : Bool) → since_opening n (es ++ e ∷ []) ≡ option_map (λ fs. fs ++ e ∷ []) (since_opening n es) → cond b (Some (es ++ e ∷ [])) (since_opening n (es ++ e ∷ [])) ≡ option_map (λ fs. fs ++ e ∷ []) (cond b (Some es) (since_opening n es))
    by true rest = refl
    by false rest = rest

more_behind : (o : Option (List Event)) (es : List Event) (e : Event) → unwrap_or (option_map (λ fs. fs ++ e ∷ []) o) (es ++ e ∷ []) ≡ unwrap_or o es ++ e ∷ []
more_behind (Some fs) es e = refl
more_behind None es e = refl

pub open_more : (n : ℕ) (es : List Event) (e : Event) → opens n e ≡ false → while_open n (es ++ e ∷ []) ≡ while_open n es ++ e ∷ []
open_more n es e h = ap (λ (o : Option (List Event)). unwrap_or o (es ++ e ∷ [])) (since_more n es e h) ∙ more_behind (since_opening n es) es e

-- where all that was opened has lower numbers
since_first : (n : ℕ) (es : List Event) (e : Event) → opens n e ≡ true → AllByRecursion (IsOfSeatBelow n) es → since_opening n (es ++ e ∷ []) ≡ Some []
since_first n [] (called c) h low = absurd (cc)
since_first n [] (opened o) h low = rw h refl
since_first n [] (moved m) h low = absurd (cc)
since_first n [] (exited x) h low = absurd (cc)
since_first n [] (settled p s) h low = absurd (cc)
since_first n (called c ∷ es) e h low = since_first n es e h low.1
since_first n (moved m ∷ es) e h low = since_first n es e h low.1
since_first n (exited x ∷ es) e h low = since_first n es e h low.1
since_first n (settled p s ∷ es) e h low = since_first n es e h low.1
since_first n (opened o ∷ es) e h low =
    let other : (o.seat == n) ≡ false = apart o.seat n low.0 in
    rw other (since_first n es e h low.1)
  where
    apart : (m n : ℕ) → m < n → (m == n) ≡ false
    apart m n less = grind arith

pub open_first : (n : ℕ) (es : List Event) (e : Event) → opens n e ≡ true → AllByRecursion (IsOfSeatBelow n) es → while_open n (es ++ e ∷ []) ≡ []
open_first n es e h low = ap (λ (o : Option (List Event)). unwrap_or o (es ++ e ∷ [])) (since_first n es e h low)

-- ---- exits

pub exited_more : (n : ℕ) (es : List Event) (e : Event) → opens n e ≡ false → has_exited n (es ++ e ∷ []) ≡ (has_exited n es || exits n e)
exited_more n es e h =
    ap (list_any (exits n)) (open_more n es e h) ∙ list_any-append (exits n) (while_open n es) (e ∷ []) ∙ ap (λ (b : Bool). list_any (exits n) (while_open n es) || b) (or_false (exits n e))
  where
    or_false : (b : Bool) → (b || false) ≡ b
    or_false true = refl
    or_false false = refl

-- ---- causes

behind_more : (n : ℕ) (es : List Event) (c : Call) → cause_behind_exit n (es ++ called c ∷ []) ≡ either (cause_behind_exit n es) (cause_of_own_call n c)
behind_more n [] c = either_none (cause_of_own_call n c)
behind_more n (called d ∷ es) c = ap (either (cause_of_own_call n d)) (behind_more n es c) ∙ sym (either_either (cause_of_own_call n d) (cause_behind_exit n es) (cause_of_own_call n c))
behind_more n (opened o ∷ es) c = behind_more n es c
behind_more n (moved m ∷ es) c = behind_more n es c
behind_more n (exited x ∷ es) c = behind_more n es c
behind_more n (settled p s ∷ es) c = behind_more n es c

-- what one more call shows of a seat, by whether it has exited
abbrev pub adds : ℕ → ℕ → Bool → Call → Option Cause
adds instance n gone c = cond gone (cause_of_own_call n c) (cause_of_call instance n c)

calls_more : (instance n : ℕ) (es : List Event) (c : Call) → cause_by_calls instance n (es ++ called c ∷ []) ≡ either (cause_by_calls instance n es) (adds instance n (list_any (exits n) es) c)
calls_more m n [] c = either_none (cause_of_call m n c)
calls_more m n (called d ∷ es) c = ap (either (cause_of_call m n d)) (calls_more m n es c) ∙ sym (either_either (cause_of_call m n d) (cause_by_calls m n es) (adds m n (list_any (exits n) es) c))
calls_more m n (opened o ∷ es) c = calls_more m n es c
calls_more m n (moved v ∷ es) c = calls_more m n es c
calls_more m n (settled p s ∷ es) c = calls_more m n es c
calls_more m n (exited x ∷ es) c = by (x.seat == n) (calls_more m n es c)
  where
    by : (b : Bool) → cause_by_calls m n (es ++ called c ∷ []) ≡ either (cause_by_calls m n es) (adds m n (list_any (exits n) es) c) → cond b (cause_behind_exit n (es ++ called c ∷ [])) (cause_by_calls m n (es ++ called c ∷ [])) ≡ either (cond b (cause_behind_exit n es) (cause_by_calls m n es)) (adds m n (b || list_any (exits n) es) c)
    by true rest = behind_more n es c
    by false rest = rest

-- no call
abbrev pub is_call_row : Event → Bool
is_call_row (called c) = true
is_call_row _ = false

behind_same : (n : ℕ) (es : List Event) (e : Event) → is_call_row e ≡ false → cause_behind_exit n (es ++ e ∷ []) ≡ cause_behind_exit n es
behind_same n [] (called c) h = absurd (cc)
behind_same n [] (opened o) h = refl
behind_same n [] (moved m) h = refl
behind_same n [] (exited x) h = refl
behind_same n [] (settled p s) h = refl
behind_same n (called d ∷ es) e h = ap (either (cause_of_own_call n d)) (behind_same n es e h)
behind_same n (opened o ∷ es) e h = behind_same n es e h
behind_same n (moved m ∷ es) e h = behind_same n es e h
behind_same n (exited x ∷ es) e h = behind_same n es e h
behind_same n (settled p s ∷ es) e h = behind_same n es e h

same_either : (b : Bool) (o : Option Cause) → cond b o o ≡ o
same_either true o = refl
same_either false o = refl

calls_same : (instance n : ℕ) (es : List Event) (e : Event) → is_call_row e ≡ false → cause_by_calls instance n (es ++ e ∷ []) ≡ cause_by_calls instance n es
calls_same m n [] (called c) h = absurd (cc)
calls_same m n [] (opened o) h = refl
calls_same m n [] (moved v) h = refl
calls_same m n [] (exited x) h = same_either (x.seat == n) None
calls_same m n [] (settled p s) h = refl
calls_same m n (called d ∷ es) e h = ap (either (cause_of_call m n d)) (calls_same m n es e h)
calls_same m n (opened o ∷ es) e h = calls_same m n es e h
calls_same m n (moved v ∷ es) e h = calls_same m n es e h
calls_same m n (settled p s ∷ es) e h = calls_same m n es e h
calls_same m n (exited x ∷ es) e h = by (x.seat == n) (calls_same m n es e h)
  where
    by : (b : Bool) → cause_by_calls m n (es ++ e ∷ []) ≡ cause_by_calls m n es → cond b (cause_behind_exit n (es ++ e ∷ [])) (cause_by_calls m n (es ++ e ∷ [])) ≡ cond b (cause_behind_exit n es) (cause_by_calls m n es)
    by true rest = behind_same n es e h
    by false rest = rest

-- with one more call, from its opening on
pub by_calls_more : (instance n : ℕ) (es : List Event) (c : Call) → cause_by_calls instance n (while_open n (es ++ called c ∷ [])) ≡ either (cause_by_calls instance n (while_open n es)) (adds instance n (has_exited n es) c)
by_calls_more m n es c = ap (cause_by_calls m n) (open_more n es (called c) refl) ∙ calls_more m n (while_open n es) c

-- with one more row that is no call, and no opening of the seat
pub by_calls_same : (instance n : ℕ) (es : List Event) (e : Event) → is_call_row e ≡ false → opens n e ≡ false → cause_by_calls instance n (while_open n (es ++ e ∷ [])) ≡ cause_by_calls instance n (while_open n es)
by_calls_same m n es e plain h = ap (cause_by_calls m n) (open_more n es e h) ∙ calls_same m n (while_open n es) e plain

-- ---- all rows

pub all_more : (P : Event → Type 0) (es : List Event) (e : Event) → AllByRecursion P es → P e → AllByRecursion P (es ++ e ∷ [])
all_more P [] e h k = (k, tt)
all_more P (x ∷ es) e h k = (h.0, all_more P es e h.1 k)

pub all_weaker : (P Q : Event → Type 0) → ((e : Event) → P e → Q e) → (es : List Event) → AllByRecursion P es → AllByRecursion Q es
all_weaker P Q f [] h = tt
all_weaker P Q f (x ∷ es) h = (f x h.0, all_weaker P Q f es h.1)
