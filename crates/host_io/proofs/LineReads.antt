-- What is held of the next line, where a part of it was taken already.
use Rattle.std.proofs.Common.{◌≡◌, ℕ, suc, ◌+◌, ◌-◌, ◌<◌, ◌≤◌, ◌++◌, ◌||◌, max, min, List, [], ◌∷◌, length, take, Bool, true, false, cond, not, Option, Some, None, Result, Ok, Err, IfOk, OnOk, OnErr, nat_lt, refl, sym, ap, ◌∙◌, arith, append_assoc, true≢false}
use Rattle.std.proofs.KnownBytes.{Consumes-trans}
use Rattle.std.proofs.lemmas.Bool.{le-ltb}
use Rattle.std.specs.Io.KnownBytes.{Consumes, IsAtEnd}
use Rattle.std.specs.List.{list_any, position}
use Rattle.std.specs.Option.{unwrap_or}
use Rattle.std.specs.Result.{IsErr}
use Rattle.std.proofs.lemmas.Bool.{eqb-true}
use Rattle.std.proofs.lemmas.List.{length-append, length-take-le}
use Rattle.std.proofs.lemmas.List.Folds.{list_any-append}
use Rattle.std.proofs.lemmas.List.Sums.{prefix_len-le-length}
use Rattle.host_io.specs.LineReads.{Feeds, Gives, IsLine, IsOpen, IsSomeLine, IsWholeLine, LinesHeld, bytes_in, held_in, is_feed, is_past, line_length, max_input, needs_nothing, text_length}
use Rattle.host_io.specs.declared.line_reader.LineFault.{LineFault}
use Rattle.host_io.specs.declared.line_reader.LineFault.TheVariants.{NoMemory, ReadFault, TooLong}
use Rattle.host_io.specs.declared.line_reader.Next.{Next}
use Rattle.host_io.specs.declared.line_reader.Next.TheVariants.{Line, End}

-- ---- the place of the first line feed

pub text_within : (xs : List ℕ) → text_length xs ≤ length xs
text_within xs = prefix_len-le-length _ xs

first_at : (n m : ℕ) (b : Bool) → nat_lt n m ≡ b → n ≤ m → unwrap_or (cond b (Some n) None) m ≡ n
first_at n m true is most = refl
first_at n m false is most = grind arith

pub text_is : (xs : List ℕ) (o : Option ℕ) → o ≡ position is_feed xs → unwrap_or o (length xs) ≡ text_length xs
text_is xs o is = ap (λ (p : Option ℕ). unwrap_or p (length xs)) is ∙ first_at (text_length xs) (length xs) _ refl (text_within xs)

-- ---- behind a part without a line feed

over : (b rest : Bool) (n m : ℕ) → (b || rest) ≡ false → (rest ≡ false → n ≡ m) → cond (not b) (1 + n) 0 ≡ 1 + m
over false rest n m h ih = ap (λ (k : ℕ). 1 + k) (ih h)
over true rest n m h ih = absurd (cc h)

pub text_behind : (xs ys : List ℕ) → IsOpen xs → text_length (xs ++ ys) ≡ length xs + text_length ys
text_behind [] ys h = omega arith
text_behind (x ∷ xs) ys h =
    let on : 1 + (length xs + text_length ys) ≡ length (x ∷ xs) + text_length ys = omega arith in
    over (is_feed x) (list_any is_feed xs) (text_length (xs ++ ys)) (length xs + text_length ys) h (text_behind xs ys) ∙ on

least : (x t n m : ℕ) → n ≡ x + t → min (n + 1) (x + m) ≡ x + min (t + 1) m
least x t n m is = grind arith

pub line_behind : (xs ys : List ℕ) → IsOpen xs → line_length (xs ++ ys) ≡ length xs + line_length ys
line_behind xs ys h = ap (λ (m : ℕ). min (text_length (xs ++ ys) + 1) m) (length-append xs ys) ∙ least (length xs) (text_length ys) _ (length ys) (text_behind xs ys h)

-- ---- the front up to the first line feed

pub text_feedless : (ys : List ℕ) → IsOpen (take (text_length ys) ys)
text_feedless [] = refl
text_feedless (y ∷ ys) = by (is_feed y) refl (text_feedless ys)
  where
    by : (b : Bool) → is_feed y ≡ b → IsOpen (take (text_length ys) ys) → IsOpen (take (cond (not b) (1 + text_length ys) 0) (y ∷ ys))
    by false is rest =
        let on : 1 + text_length ys ≡ suc (text_length ys) = omega arith in
        ap (λ (k : ℕ). list_any is_feed (take k (y ∷ ys))) on ∙ ap (λ (c : Bool). c || list_any is_feed (take (text_length ys) ys)) is ∙ rest
    by true is rest = refl

pub line_ends : (ys : List ℕ) → text_length ys < length ys → take (text_length ys + 1) ys ≡ take (text_length ys) ys ++ (10 ∷ [])
line_ends [] lt = absurd (omega (arith, lt))
line_ends (y ∷ ys) lt = by (is_feed y) refl (λ lt. line_ends ys lt) lt
  where
    by : (b : Bool) → is_feed y ≡ b → (text_length ys < length ys → take (text_length ys + 1) ys ≡ take (text_length ys) ys ++ (10 ∷ []))
        → cond (not b) (1 + text_length ys) 0 < length (y ∷ ys)
        → take (cond (not b) (1 + text_length ys) 0 + 1) (y ∷ ys) ≡ take (cond (not b) (1 + text_length ys) 0) (y ∷ ys) ++ (10 ∷ [])
    by false is rest lt =
        let on : 1 + text_length ys ≡ suc (text_length ys) = omega arith in
        let over : 1 + text_length ys + 1 ≡ suc (text_length ys + 1) = omega arith in
        ap (λ (k : ℕ). take k (y ∷ ys)) over ∙ ap (λ (zs : List ℕ). y ∷ zs) (rest (omega (arith, lt))) ∙ sym (ap (λ (k : ℕ). take k (y ∷ ys) ++ (10 ∷ [])) on)
    by true is rest lt = ap (λ (z : ℕ). z ∷ []) (eqb-true y 10 is)

pub text_front : (ys : List ℕ) → text_length (take (text_length ys + 1) ys) ≡ text_length ys
text_front [] = refl
text_front (y ∷ ys) = by (is_feed y) refl (text_front ys)
  where
    by : (b : Bool) → is_feed y ≡ b → text_length (take (text_length ys + 1) ys) ≡ text_length ys → text_length (take (cond (not b) (1 + text_length ys) 0 + 1) (y ∷ ys)) ≡ cond (not b) (1 + text_length ys) 0
    by false is rest =
        let over : 1 + text_length ys + 1 ≡ suc (text_length ys + 1) = omega arith in
        ap (λ (k : ℕ). text_length (take k (y ∷ ys))) over ∙ ap (λ (c : Bool). cond (not c) (1 + text_length (take (text_length ys + 1) ys)) 0) is ∙ ap (λ (n : ℕ). 1 + n) rest
    by true is rest = ap (λ (c : Bool). cond (not c) (1 + text_length (take 0 ys)) 0) is

-- no line feed is there but at the place of the first
pub open_all : (ys : List ℕ) → length ys ≤ text_length ys → IsOpen ys
open_all [] h = refl
open_all (y ∷ ys) h = by (is_feed y) refl (λ h. open_all ys h) h
  where
    by : (b : Bool) → is_feed y ≡ b → (length ys ≤ text_length ys → IsOpen ys) → length (y ∷ ys) ≤ cond (not b) (1 + text_length ys) 0 → (is_feed y || list_any is_feed ys) ≡ false
    by false is rest h = ap (λ (c : Bool). c || list_any is_feed ys) is ∙ rest (omega (arith, h))
    by true is rest h = absurd (omega (arith, h))

-- ---- lines

pub open_append : (xs ys : List ℕ) → IsOpen xs → IsOpen ys → IsOpen (xs ++ ys)
open_append xs ys h k = list_any-append is_feed xs ys ∙ ap (λ (b : Bool). b || list_any is_feed ys) h ∙ k

pub whole_line : (xs ys : List ℕ) → IsOpen xs → text_length ys < length ys → IsWholeLine (xs ++ take (text_length ys + 1) ys)
whole_line xs ys h lt = record {
  text = xs ++ take (text_length ys) ys;
  is = ap (λ (zs : List ℕ). xs ++ zs) (line_ends ys lt) ∙ sym (append_assoc xs _ _);
  feedless = open_append xs _ h (text_feedless ys);
}

-- ---- limits

pub record IsWithin (limit given : ℕ) (held : List ℕ) : Type 0 where
  pub text : text_length held ≤ limit
  pub line : given + line_length held ≤ max_input

pub within_from : (limit given : ℕ) (held : List ℕ) → is_past limit given held ≡ false → IsWithin limit given held
within_from limit given held is = record { text = grind arith; line = grind arith }

not_past : (limit given text line : ℕ) → text ≤ limit → given + line ≤ max_input → (nat_lt limit text || nat_lt max_input (given + line)) ≡ false
not_past limit given text line few fits = rw (le-ltb limit text few, le-ltb max_input (given + line) fits) refl

-- a line whose text ends within what is held has as many bytes there as in front
within_line : (given begun front rest held_line line text len : ℕ) → line ≡ begun + min (front + 1) len → held_line ≡ begun + min (text + 1) rest → front ≡ text → len ≡ text + 1 → text < rest
    → given + held_line ≤ max_input → given + line ≤ max_input
within_line given begun front rest held_line line text len is held_is texts taken lt fits = grind arith

any_true : (b : Bool) → (b || true) ≡ true
any_true true = refl
any_true false = refl

-- ---- what next_line needs of a reader that is past no limit

module _ (limit given : ℕ) (begun rest : List ℕ) (feedless : IsOpen begun) (past : is_past limit given (begun ++ rest) ≡ false) where
  inside : IsWithin limit given (begun ++ rest)
  inside = within_from limit given (begun ++ rest) past

  -- a whole line is there
  pub line_fits : text_length rest < length rest → given + length begun + (text_length rest + 1) ≤ max_input
  line_fits lt = let is = line_behind begun rest feedless in let line = inside.line in grind arith

  -- none is
  pub held_fits : length rest ≤ text_length rest → given + length (begun ++ rest) ≤ max_input
  held_fits all =
      let is = text_behind begun rest feedless in let len = length-append begun rest in let line = inside.line in grind arith

  pub held_few : length rest ≤ text_length rest → length (begun ++ rest) ≤ limit
  held_few all =
      let is = text_behind begun rest feedless in let len = length-append begun rest in let text = inside.text in omega (arith, all)

  -- the whole line passes no limit either
  pub line_within : text_length rest < length rest → is_past limit given (begun ++ take (text_length rest + 1) rest) ≡ false
  line_within lt =
      let text = text_behind begun (take (text_length rest + 1) rest) feedless ∙ ap (λ (n : ℕ). length begun + n) (text_front rest) in
      let line = line_behind begun (take (text_length rest + 1) rest) feedless in
      let taken : length (take (text_length rest + 1) rest) ≡ text_length rest + 1 = length-take-le _ rest (omega (arith, lt)) in
      let texts = text_front rest in
      let held_text = text_behind begun rest feedless in
      let held_line = line_behind begun rest feedless in
      let text_is = inside.text in
      let line_is = inside.line in
      not_past limit given _ _ (omega (arith, text, held_text, text_is))
      (within_line given (length begun) _ _ _ _ _ _ line held_line texts taken lt line_is)

-- ---- answers

-- a whole line that is given
pub given_line : (line : List ℕ) (now : LinesHeld) (left : Option (List ℕ)) → IsWholeLine line → IsLine line now left
given_line line now left whole =
    let feeds : list_any is_feed line ≡ true = ap (list_any is_feed) whole.is ∙ list_any-append is_feed whole.text (10 ∷ []) ∙ any_true (list_any is_feed whole.text) in
    record {
      some = omega (arith, ap length whole.is, length-append whole.text (10 ∷ []));
      last = λ open_line. absurd (true≢false (sym feeds ∙ open_line));
      fed = λ _. whole;
    }

-- what is left at the end of the source
pub last_gives : (r : Result Next LineFault) (s now : LinesHeld) (given : ℕ) (left : Option (List ℕ)) → OnOk r (bytes_in r ≡ held_in s) → IfOk r IsSomeLine
    → OnOk r (now ≡ record { begun = []; rest = []; given = given; ended = s.ended }) → OnErr r (r ≡ Err NoMemory) → IsOpen (held_in s) → IsAtEnd left → Gives r now left
last_gives (Ok (Line line)) s now given left bytes some is memory feedless at_end = record {
  some = some;
  last = λ _. (ap held_in is, at_end);
  fed = λ fed. absurd (true≢false (sym fed ∙ ap (list_any is_feed) bytes ∙ feedless));
}
last_gives (Ok End) s now given left bytes some is memory feedless at_end = record { held = ap held_in is; at_end = at_end }
last_gives (Err NoMemory) s now given left bytes some is memory feedless at_end = tt
last_gives (Err TooLong) s now given left bytes some is memory feedless at_end = tt
last_gives (Err ReadFault) s now given left bytes some is memory feedless at_end = absurd (cc memory)

pub last_few : (r : Result Next LineFault) (s now : LinesHeld) → OnOk r (now ≡ record { begun = []; rest = []; given = s.given + length (held_in s); ended = s.ended }) → OnErr r (now ≡ s)
    → s.given + length (held_in s) ≤ max_input → now.given ≤ max_input
last_few (Ok next) s now ok err fits = let is = ap (λ (r : LinesHeld). r.given) ok in omega (arith, is, fits)
last_few (Err fault) s now ok err fits = let is = ap (λ (r : LinesHeld). r.given) err in omega (arith, is, fits)

-- a read failed
pub read_gives : (r : Result Next LineFault) (now : LinesHeld) (left : Option (List ℕ)) → IsErr r → IsOpen (held_in now) → Gives r now left
read_gives (Ok next) now left is feedless = absurd (cc is)
read_gives (Err NoMemory) now left is feedless = tt
read_gives (Err TooLong) now left is feedless = tt
read_gives (Err ReadFault) now left is feedless = feedless

-- ---- the loop

-- what was taken so far, and what the next read takes
pub feeds_more : (before mid now : Option (List ℕ)) (held0 held more held_now : List ℕ) → Feeds before mid held0 [] held → Consumes mid now more → held_now ≡ held ++ more → Feeds before now held0 [] held_now
feeds_more before mid now held0 held more held_now fed took is = record {
  taken = fed.taken ++ more;
  consumed = Consumes-trans before mid now fed.taken more fed.consumed took;
  kept = sym (append_assoc held0 fed.taken more) ∙ ap (λ (xs : List ℕ). xs ++ more) fed.kept ∙ sym is;
}

-- where a read is made, one is needed
pub needs_read : (limit : ℕ) (s : LinesHeld) → IsOpen (held_in s) → is_past limit s.given (held_in s) ≡ false → s.ended ≡ false → needs_nothing limit s ≡ false
needs_read limit s feedless past ended = rw (feedless, past, ended) refl

-- a read makes what is held longer, or comes to the end
pub gets_on : (limit was now : ℕ) (ended ended_now : Bool) → ended ≡ false → was ≤ limit → (ended_now ≡ true → now ≡ was) → (ended_now ≡ false → was < now)
    → (limit + 1 - now) + cond ended_now 0 1 < (limit + 1 - was) + cond ended 0 1
gets_on limit was now true ended_now e few same more = absurd (true≢false e)
gets_on limit was now false true e few same more = let is = same refl in omega (arith, is, few)
gets_on limit was now false false e few same more = let is = more refl in omega (arith, is, few)

pub held_grows : (s t now : LinesHeld) → t ≡ record s { begun = s.begun ++ s.rest; rest = [] } → now.begun ≡ t.begun → held_in now ≡ held_in s ++ now.rest
held_grows s t now taken same = ap (λ (xs : List ℕ). xs ++ now.rest) (same ∙ ap (λ (r : LinesHeld). r.begun) taken)

pub smaller : (limit : ℕ) (s now : LinesHeld) → held_in now ≡ held_in s ++ now.rest → s.ended ≡ false → length (held_in s) ≤ limit → (now.ended ≡ true → now.rest ≡ []) → (now.ended ≡ false → 0 < length now.rest)
    → (limit + 1 - length (held_in now)) + cond now.ended 0 1 < (limit + 1 - length (held_in s)) + cond s.ended 0 1
smaller limit s now grows open_end few over more =
    let len : length (held_in now) ≡ length (held_in s) + length now.rest = ap length grows ∙ length-append (held_in s) now.rest in
    gets_on limit (length (held_in s)) (length (held_in now)) s.ended now.ended open_end few
    (λ e. let none = ap length (over e) in omega (arith, len, none)) (λ e. let some = more e in omega (arith, len, some))

most_held : (limit was held now rest : ℕ) → now ≡ held + rest → held ≤ limit → rest ≤ 65536 → now ≤ max was (limit + 65536)
most_held limit was held now rest is few most = grind arith

pub holds_most : (limit : ℕ) (was s now : LinesHeld) → held_in now ≡ held_in s ++ now.rest → length (held_in s) ≤ limit → length now.rest ≤ 65536 → length (held_in now) ≤ max (length (held_in was)) (limit + 65536)
holds_most limit was s now grows few most = most_held limit (length (held_in was)) (length (held_in s)) (length (held_in now)) (length now.rest) (ap length grows ∙ length-append (held_in s) now.rest) few most
