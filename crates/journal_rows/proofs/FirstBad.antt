-- The first bad row: there is one, it leaves no fair journal, and in a text that is cut off it is the one after the whole
-- lines.
use Rattle.std.proofs.Common.{◌≡◌, ◌<◌, ◌==◌, ℕ, suc, ◌+◌, false, List, [], ◌∷◌, ◌++◌, ◌⊎◌, cond, inl, inr, length, eqb, refl, sym, ap, subst, ◌∙◌, arith, append_assoc}
use Rattle.std.proofs.lemmas.List.Sums.{sum_by-cons}
use Rattle.std.specs.List.{flat_map}
use Rattle.serde_json.specs.Written.{compact_text}
use Rattle.fair_rows.proofs.turn_rows.Feeds.{NoFeed}
use Rattle.fair_rows.specs.turn_rows.Texts.{row_text}
use Rattle.fair_rows.specs.turn_rows.declared.editions.Edition.{Edition}
use Rattle.journal_rows.specs.Laws.{ACutIsBadThere, BadJournalsAreUnfair, OneFirstBad, lines_in}
use Rattle.journal_rows.specs.Reading.{AreGood, IsGood, Reading, after_row, after_rows, closed, unread}
use Rattle.journal_rows.specs.Row.{HasRowForm, HaveRowForm, Row, row_json, row_line, rows_of_journal}
use Rattle.journal_rows.specs.Verdicts.{IsWhole}
use Rattle.journal_rows.proofs.Good.{fair_turns_are_good}
use Rattle.journal_rows.proofs.Lines.{no_row_feed, one_beginning}
use Rattle.journal_rows.proofs.Parsed.{nothing_more}

-- ---- rows that texts begin with

abbrev lines : Edition → List Row → List ℕ
lines e rows = flat_map (row_line e) rows

-- what is left begins with no row that is good here
abbrev Stops : Edition → Reading → List ℕ → Type 0
Stops e r rest = (q : Row) (more : List ℕ) → HasRowForm e q → rest ≡ row_line e q ++ more → IsGood e r q → ⊥

not_empty : (xs ys : List ℕ) → xs ++ 10 ∷ ys ≡ [] → ⊥
not_empty [] ys h = absurd (cc)
not_empty (x ∷ xs) ys h = absurd (cc)

line_not_empty : (e : Edition) (q : Row) (more : List ℕ) → row_line e q ++ more ≡ [] → ⊥
unfolding row_text
line_not_empty e q more h = not_empty (compact_text (row_json e q)) more (sym (append_assoc (compact_text (row_json e q)) (10 ∷ []) more) ∙ h)

first_line : (e : Edition) (q : Row) (rows : List Row) (rest : List ℕ) → lines e (q ∷ rows) ++ rest ≡ row_line e q ++ (lines e rows ++ rest)
first_line e q rows rest = append_assoc (row_line e q) (lines e rows) rest

one : (e : Edition) (r : Reading) (xs ys : List Row) (cs ds : List ℕ) → lines e xs ++ cs ≡ lines e ys ++ ds
    → HaveRowForm e xs → HaveRowForm e ys → AreGood e r xs → AreGood e r ys
    → Stops e (after_rows r xs) cs → Stops e (after_rows r ys) ds → length xs ≡ length ys
one e r [] [] cs ds same f g h k s t = refl
one e r [] (y ∷ ys) cs ds same f g h k s t = absurd (s y (lines e ys ++ ds) g.0 (same ∙ first_line e y ys ds) k.0)
one e r (x ∷ xs) [] cs ds same f g h k s t = absurd (t x (lines e xs ++ cs) f.0 (sym same ∙ first_line e x xs cs) h.0)
one e r (x ∷ xs) (y ∷ ys) cs ds same f g h k s t =
    let parts = one_beginning e x y (lines e xs ++ cs) (lines e ys ++ ds) f.0 g.0 (sym (first_line e x xs cs) ∙ same ∙ first_line e y ys ds) in
    ap suc (one e (after_row r x) xs ys cs ds parts.1 f.1 g.1 h.1
    (subst (λ w. AreGood e (after_row r w) ys) (sym parts.0) k.1) s
    (subst (λ w. Stops e (after_rows (after_row r w) ys) ds) (sym parts.0) t))

pub one_first_bad : OneFirstBad
one_first_bad e bytes j k a b =
    a.place ∙ ap (λ n. n + 1) (one e (unread e) a.before b.before a.rest b.rest (sym a.is ∙ b.is) a.form b.form a.good b.good a.next b.next) ∙ sym b.place

-- ---- no fair journal

unfair : (e : Edition) (r : Reading) (xs rows : List Row) (rest : List ℕ) → lines e xs ++ rest ≡ lines e rows → HaveRowForm e xs → HaveRowForm e rows → AreGood e r rows
    → Stops e (after_rows r xs) rest → (rest ≡ [] → after_rows r xs ≡ closed → ⊥) → after_rows r rows ≡ closed → ⊥
unfair e r [] [] rest same f g h s n k = n same k
unfair e r [] (y ∷ ys) rest same f g h s n k = s y (lines e ys) g.0 same h.0
unfair e r (x ∷ xs) [] rest same f g h s n k = line_not_empty e x (lines e xs ++ rest) (sym (first_line e x xs rest) ∙ same)
unfair e r (x ∷ xs) (y ∷ ys) rest same f g h s n k =
    let parts = one_beginning e x y (lines e xs ++ rest) (lines e ys) f.0 g.0 (sym (first_line e x xs rest) ∙ same) in
    unfair e (after_row r y) xs ys rest parts.1 f.1 g.1 h.1
    (subst (λ w. Stops e (after_rows (after_row r w) xs) rest) parts.0 s)
    (subst (λ w. rest ≡ [] → after_rows (after_row r w) xs ≡ closed → ⊥) parts.0 n) k

pub bad_journals_are_unfair : BadJournalsAreUnfair
bad_journals_are_unfair e bytes k b ts left h =
    let w : IsWhole e bytes (rows_of_journal e ts left) = fair_turns_are_good e bytes ts left h in
    unfair e (unread e) b.before (rows_of_journal e ts left) b.rest (sym b.is ∙ w.is) b.form w.form w.good b.next b.not_whole w.is_closed

-- ---- cut off

-- bytes and what follows them make a line and more: they end within the line, or have it whole
record HasLine (line bytes more tail : List ℕ) : Type 0 where
  pub rest : List ℕ
  pub is : bytes ≡ line ++ 10 ∷ rest
  pub then : rest ++ more ≡ tail

cut_line : (line bytes more tail : List ℕ) → NoFeed line → bytes ++ more ≡ line ++ 10 ∷ tail → NoFeed bytes ⊎ HasLine line bytes more tail
cut_line line [] more tail h same = inl tt
cut_line [] (b ∷ bytes) more tail h same = inr (record { rest = bytes; is = cc; then = cc })
cut_line (x ∷ line) (b ∷ bytes) more tail h same =
    let heads : b ≡ x = cc in
    let tails : bytes ++ more ≡ line ++ 10 ∷ tail = cc in
    by (cut_line line bytes more tail h.1 tails) heads
  where
    by : NoFeed bytes ⊎ HasLine line bytes more tail → b ≡ x → NoFeed (b ∷ bytes) ⊎ HasLine (x ∷ line) (b ∷ bytes) more tail
    by (inl none) heads = inl (subst (λ c. eqb c 10 ≡ false) (sym heads) h.0, none)
    by (inr l) heads = inr (record { rest = l.rest; is = rw (heads, l.is) refl; then = l.then })

abbrev ends_line : ℕ → ℕ
ends_line b = cond (b == 10) 1 0

lines-cons : (b : ℕ) (bytes : List ℕ) → lines_in (b ∷ bytes) ≡ ends_line b + lines_in bytes
lines-cons b bytes = sum_by-cons ends_line b bytes

no_lines : (bytes : List ℕ) → NoFeed bytes → lines_in bytes ≡ 0
no_lines [] h = refl
no_lines (b ∷ bytes) h = let rest = no_lines bytes h.1 in lines-cons b bytes ∙ rw h.0 (omega (arith, rest))

one_line : (line bytes : List ℕ) → NoFeed line → lines_in (line ++ 10 ∷ bytes) ≡ suc (lines_in bytes)
one_line [] bytes h = lines-cons 10 bytes ∙ (omega arith)
one_line (b ∷ line) bytes h = let rest = one_line line bytes h.1 in lines-cons b (line ++ 10 ∷ bytes) ∙ rw h.0 (omega (arith, rest))

no_feed_line : (line more bytes : List ℕ) → NoFeed bytes → bytes ≡ line ++ 10 ∷ more → ⊥
no_feed_line line more [] h same = not_empty line more (sym same)
no_feed_line [] more (b ∷ bytes) h same = let is : b ≡ 10 = cc in absurd (cc)
no_feed_line (x ∷ line) more (b ∷ bytes) h same = no_feed_line line more bytes h.1 (cc)

no_row_begins : (e : Edition) (q : Row) (more bytes : List ℕ) → NoFeed bytes → bytes ≡ row_line e q ++ more → ⊥
unfolding row_text
no_row_begins e q more bytes h same = no_feed_line (compact_text (row_json e q)) more bytes h (same ∙ append_assoc (compact_text (row_json e q)) (10 ∷ []) more)

-- the same as a first bad row, from any reading on
record StopsAfter (e : Edition) (r : Reading) (bytes : List ℕ) : Type 0 where
  pub before : List Row
  pub rest : List ℕ
  pub is : bytes ≡ lines e before ++ rest
  pub place : lines_in bytes ≡ length before
  pub form : HaveRowForm e before
  pub good : AreGood e r before
  pub next : Stops e (after_rows r before) rest
  pub not_whole : rest ≡ [] → after_rows r before ≡ closed → ⊥

isnt_closed : (e : Edition) (r : Reading) (q : Row) → IsGood e r q → r ≡ closed → ⊥
isnt_closed e r q h same =
    let none : q ∷ [] ≡ [] = nothing_more e (q ∷ []) (subst (λ s. IsGood e s q) same h, tt) in
    absurd (cc)

here : (e : Edition) (r : Reading) (q : Row) (bytes : List ℕ) → IsGood e r q → NoFeed bytes → StopsAfter e r bytes
here e r q bytes h none = record {
  before = [];
  rest = bytes;
  is = refl;
  place = no_lines bytes none;
  form = tt;
  good = tt;
  next = λ w more form same good. no_row_begins e w more bytes none same;
  not_whole = λ empty same. isnt_closed e r q h same;
}

later : (e : Edition) (r : Reading) (q : Row) (bytes rest : List ℕ) → HasRowForm e q → IsGood e r q → bytes ≡ compact_text (row_json e q) ++ 10 ∷ rest → StopsAfter e (after_row r q) rest → StopsAfter e r bytes
unfolding row_text
later e r q bytes rest form h same s =
    let line = compact_text (row_json e q) in
    record {
      before = q ∷ s.before;
      rest = s.rest;
      is = same ∙ sym (append_assoc line (10 ∷ []) rest) ∙ ap (λ (bs : List ℕ). row_line e q ++ bs) s.is ∙ sym (first_line e q s.before s.rest);
      place = ap lines_in same ∙ one_line line rest (no_row_feed e q form) ∙ ap suc s.place;
      form = (form, s.form);
      good = (h, s.good);
      next = s.next;
      not_whole = s.not_whole;
    }

by_line : (e : Edition) (r : Reading) (q : Row) (rows : List Row) (bytes more : List ℕ) → HasRowForm e q → IsGood e r q
    → ((rest : List ℕ) → rest ++ more ≡ lines e rows → StopsAfter e (after_row r q) rest)
    → NoFeed bytes ⊎ HasLine (compact_text (row_json e q)) bytes more (lines e rows) → StopsAfter e r bytes
by_line e r q rows bytes more form h behind (inl none) = here e r q bytes h none
by_line e r q rows bytes more form h behind (inr l) = later e r q bytes l.rest form h l.is (behind l.rest l.then)

cut : (e : Edition) (r : Reading) (rows : List Row) (bytes more : List ℕ) → bytes ++ more ≡ lines e rows → HaveRowForm e rows → AreGood e r rows → 0 < length more → StopsAfter e r bytes
unfolding row_text
cut e r [] [] [] same form h some = absurd (omega (arith, some))
cut e r [] [] (m ∷ more) same form h some = absurd (cc)
cut e r [] (b ∷ bytes) more same form h some = absurd (cc)
cut e r (q ∷ rows) bytes more same form h some =
    let line = compact_text (row_json e q) in
    by_line e r q rows bytes more form.0 h.0
    (λ rest then. cut e (after_row r q) rows rest more then form.1 h.1 some)
    (cut_line line bytes more (lines e rows) (no_row_feed e q form.0) (same ∙ append_assoc line (10 ∷ []) (lines e rows)))

pub a_cut_is_bad_there : ACutIsBadThere
a_cut_is_bad_there e bytes more ts left h some =
    let w : IsWhole e (bytes ++ more) (rows_of_journal e ts left) = fair_turns_are_good e (bytes ++ more) ts left h in
    let s = cut e (unread e) (rows_of_journal e ts left) bytes more w.is w.form w.good some in
    record { before = s.before; rest = s.rest; is = s.is; place = ap (λ n. n + 1) s.place; form = s.form; good = s.good; next = s.next; not_whole = s.not_whole }
