-- The rows of fair turns are good one after another.
use Rattle.std.proofs.Common.{◌≡◌, ◌≤◌, ℕ, ◌+◌, List, [], ◌∷◌, ◌++◌, length, map, refl, sym, ap, subst, ◌∙◌, arith, append_assoc, append-nil}
use Rattle.std.proofs.lemmas.List.{map-append}
use Rattle.std.proofs.lemmas.List.Folds.{flat_map-map}
use Rattle.std.specs.List.{AllByRecursion, flat_map}
use Rattle.serde_json.specs.Data as json
use Rattle.serde_json.specs.Data.{depth}
use Rattle.serde_json.specs.Read.{max_depth}
use Rattle.fair_rows.proofs.Lists.{all_both, all_first, all_second}
use Rattle.fair_rows.proofs.Steps.{before_is, here_is, now_is, row_is}
use Rattle.fair_rows.specs.ExitCauses.{facets_made, instance_of}
use Rattle.fair_rows.specs.Rows.{InTurn, after_event}
use Rattle.fair_rows.specs.SoFar.{SoFar, nothing_so_far, with_turn}
use Rattle.fair_rows.specs.Turns.{AreFairFrom, AreFairRows, IsFairTurn, after_events, after_turn_row, sums_due}
use Rattle.fair_rows.specs.turn_rows.Editions.{version_rows}
use Rattle.fair_rows.specs.turn_rows.Form.{AreInForm, HasEventForm, HasSumForm, IsInForm, MayStand, may_call}
use Rattle.fair_rows.specs.turn_rows.Rows.{close_row, event_row, rows_of, sum_row, turn_row}
use Rattle.fair_rows.specs.turn_rows.Texts.{journal_rows, journal_text, row_text}
use Rattle.fair_rows.specs.turn_rows.Turns.{Event, Turn}
use Rattle.fair_rows.specs.turn_rows.declared.editions.Edition.{Edition}
use Rattle.fair_rows.specs.turn_rows.declared.editions.Edition.TheVariants.{First, Second}
use Rattle.fair_rows.specs.turn_rows.rights_model.declared.Sum.{Sum}
use Rattle.journal_rows.specs.Laws.{FairTurnsAreGood}
use Rattle.journal_rows.specs.Reading.{AreGood, MayEnd, Reading, after_row, after_rows, closed, fresh, told_after, told_by, unread, within}
use Rattle.journal_rows.specs.Row.{HasRowForm, HaveRowForm, Row, by_its_row, close, event, row_json, row_line, rows_of_journal, rows_of_turn, rows_of_turns, sum, turn, version_first}
use Rattle.journal_rows.proofs.Heads.{after_same, by_row, end_by_row, fair_by_row, told_same, turn_row_by_row}

-- ---- rows one behind the other

pub good_append : (e : Edition) (r : Reading) (xs ys : List Row) → AreGood e r xs → AreGood e (after_rows r xs) ys → AreGood e r (xs ++ ys)
good_append e r [] ys h k = k
good_append e r (x ∷ xs) ys h k = (h.0, good_append e (after_row r x) xs ys h.1 k)

pub good_later : (e : Edition) (r : Reading) (xs ys : List Row) → AreGood e r (xs ++ ys) → AreGood e (after_rows r xs) ys
good_later e r [] ys h = h
good_later e r (x ∷ xs) ys h = good_later e (after_row r x) xs ys h.1

pub good_first : (e : Edition) (r : Reading) (xs ys : List Row) → AreGood e r (xs ++ ys) → AreGood e r xs
good_first e r [] ys h = tt
good_first e r (x ∷ xs) ys h = (h.0, good_first e (after_row r x) xs ys h.1)

pub after_append : (r : Reading) (xs ys : List Row) → after_rows r (xs ++ ys) ≡ after_rows (after_rows r xs) ys
after_append r [] ys = refl
after_append r (x ∷ xs) ys = after_append (after_row r x) xs ys

-- ---- a turn

events_good : (e : Edition) (i : InTurn) (es : List Event) → AreFairRows i es → AllByRecursion (MayStand (may_call i.row.answer)) es → AreGood e (within (by_row i) []) (map event es)
events_good e i [] h k = tt
events_good e i (x ∷ es) h k =
    let later : AreGood e (within (by_row (after_event i x)) []) (map event es) = events_good e (after_event i x) es h.1 k.1 in
    ((fair_by_row i x h.0, k.0), subst (λ j. AreGood e (within j []) (map event es)) (sym (after_same i x)) later)

events_after : (i : InTurn) (es : List Event) → after_rows (within (by_row i) []) (map event es) ≡ within (by_row (after_events i es)) []
events_after i [] = refl
events_after i (x ∷ es) = ap (λ j. after_rows (within j []) (map event es)) (after_same i x) ∙ events_after (after_event i x) es

sums_good : (e : Edition) (i : InTurn) (told ss : List Sum) → i.due ≡ [] → sums_due i ≡ told ++ ss → AreGood e (within i told) (map sum ss)
sums_good e i told [] none h = tt
sums_good e i told (s ∷ ss) none h =
    let next : sums_due i ≡ (told ++ s ∷ []) ++ ss = h ∙ sym (append_assoc told (s ∷ []) ss) in
    (record { complete = none; next = record { more = ss; is = next } }, sums_good e i (told ++ s ∷ []) ss none next)

pub sums_after : (i : InTurn) (told ss : List Sum) → after_rows (within i told) (map sum ss) ≡ within i (told ++ ss)
sums_after i told [] = ap (within i) (sym (append-nil told))
sums_after i told (s ∷ ss) = sums_after i (told ++ s ∷ []) ss ∙ ap (within i) (append_assoc told (s ∷ []) ss)

-- what the rows tell after a turn is what the turn tells
pub told_turn : (s : SoFar) (t : Turn) → told_after (after_events (after_turn_row s t) t.events) ≡ with_turn s t
told_turn s t =
    let i = after_turn_row s t in
    ap (λ (p : (SoFar × SoFar) × (Turn × List Event)). record (p.0.1) { turns = p.0.0.turns + 1; owners = p.0.0.owners ++ facets_made (instance_of p.0.0.owners p.1.0.kind p.1.0) p.1.1 })
    (λ j. ((before_is i t.events j, now_is i t.events j), (row_is i t.events j, here_is i t.events j)))

-- ---- turns

module _ (e : Edition) (s : SoFar) (t : Turn) (fair : IsFairTurn e s t) (form : IsInForm e t) where
  abbrev start : InTurn
  start = after_turn_row s t

  abbrev end : InTurn
  end = after_events start t.events

  abbrev body : List Row
  body = map event t.events ++ map sum t.sums

  body_after : after_rows (within (by_row start) []) body ≡ within (by_row end) t.sums
  body_after =
      after_append (within (by_row start) []) (map event t.events) (map sum t.sums)
      ∙ ap (λ r. after_rows r (map sum t.sums)) (events_after start t.events)
      ∙ sums_after (by_row end) [] t.sums

  body_good : AreGood e (within (by_row start) []) body
  body_good =
      good_append e (within (by_row start) []) (map event t.events) (map sum t.sums)
      (events_good e start t.events fair.events form.calls)
      (subst (λ r. AreGood e r (map sum t.sums)) (sym (events_after start t.events)) (sums_good e (by_row end) [] t.sums fair.end.complete (sym fair.end.sums)))

  told_then : told_by (within (by_row end) t.sums) ≡ with_turn s t
  told_then = told_same end ∙ told_turn s t

  may_end : MayEnd e (within (by_row end) t.sums)
  may_end = end_by_row e end t.sums fair.end

-- all turns, from any place where one may begin
turns_good : (e : Edition) (ts : List Turn) (r : Reading) (left turns : ℕ) → MayEnd e r → AreFairFrom e (told_by r) ts → AllByRecursion (IsInForm e) ts → turns ≡ (told_by r).turns + length ts
    → AreGood e r (flat_map rows_of_turn ts ++ close left turns ∷ [])
turns_good e [] r left turns may fair form count = ((may, omega (arith, count)), tt)
turns_good e (t ∷ ts) r left turns may fair form count =
    let s = told_by r in
    let last = within (by_row (end e s t fair.0 form.0)) t.sums in
    let rest = flat_map rows_of_turn ts ++ close left turns ∷ [] in
    let rows = body e s t fair.0 form.0 in
    let told : told_by last ≡ with_turn s t = told_then e s t fair.0 form.0 in
    let counted : turns ≡ (told_by last).turns + length ts = omega (arith, count, ap (λ (u : SoFar). u.turns) told) in
    let later : AreGood e last rest =
    turns_good e ts last left turns (may_end e s t fair.0 form.0) (subst (λ u. AreFairFrom e u ts) (sym told) fair.1) form.1 counted in
    let all : AreGood e (within (by_row (after_turn_row s t)) []) (rows ++ rest) =
    good_append e _ rows rest (body_good e s t fair.0 form.0) (subst (λ q. AreGood e q rest) (sym (body_after e s t fair.0 form.0)) later) in
    ((may, turn_row_by_row s t fair.0.row), subst (AreGood e (within (by_row (after_turn_row s t)) [])) (sym (append_assoc rows (flat_map rows_of_turn ts) (close left turns ∷ []))) all)

-- whatever stands before it, behind a close row the journal is closed
pub closes : (r : Reading) (xs : List Row) (left turns : ℕ) → after_rows r (xs ++ close left turns ∷ []) ≡ closed
closes r xs left turns = after_append r xs (close left turns ∷ [])

journal_good : (e : Edition) (ts : List Turn) (left : ℕ) → AreFairFrom e nothing_so_far ts → AllByRecursion (IsInForm e) ts → AreGood e (unread e) (rows_of_journal e ts left)
journal_good First ts left fair form = turns_good First ts fresh left (length ts) tt fair form (omega arith)
journal_good Second ts left fair form = (refl, turns_good Second ts fresh left (length ts) tt fair form (omega arith))

-- ---- texts

events_json : (e : Edition) (es : List Event) → map (row_json e) (map event es) ≡ map event_row es
events_json e [] = refl
events_json e (x ∷ es) = ap (λ (ds : List json.Data). event_row x ∷ ds) (events_json e es)

sums_json : (e : Edition) (ss : List Sum) → map (row_json e) (map sum ss) ≡ map (sum_row e) ss
sums_json e [] = refl
sums_json e (s ∷ ss) = ap (λ (ds : List json.Data). sum_row e s ∷ ds) (sums_json e ss)

turn_json : (e : Edition) (t : Turn) → map (row_json e) (rows_of_turn t) ≡ rows_of e t
turn_json e t =
    ap (λ (ds : List json.Data). turn_row t ∷ ds) (map-append (row_json e) (map event t.events) (map sum t.sums) ∙ rw (events_json e t.events, sums_json e t.sums) refl)

turns_json : (e : Edition) (ts : List Turn) → map (row_json e) (flat_map rows_of_turn ts) ≡ flat_map (rows_of e) ts
turns_json e [] = refl
turns_json e (t ∷ ts) =
    map-append (row_json e) (rows_of_turn t) (flat_map rows_of_turn ts)
    ∙ ap (λ (ds : List json.Data). ds ++ map (row_json e) (flat_map rows_of_turn ts)) (turn_json e t)
    ∙ ap (λ (ds : List json.Data). rows_of e t ++ ds) (turns_json e ts)

version_json : (e : Edition) → map (row_json e) (version_first e) ≡ version_rows e
version_json First = refl
version_json Second = refl

pub journal_json : (e : Edition) (ts : List Turn) (left : ℕ) → map (row_json e) (rows_of_journal e ts left) ≡ journal_rows e ts left
journal_json e ts left =
    map-append (row_json e) (version_first e) (rows_of_turns ts left)
    ∙ ap (λ (ds : List json.Data). ds ++ map (row_json e) (rows_of_turns ts left)) (version_json e)
    ∙ ap (λ (ds : List json.Data). version_rows e ++ ds)
    (map-append (row_json e) (flat_map rows_of_turn ts) (close left (length ts) ∷ []) ∙ ap (λ (ds : List json.Data). ds ++ close_row left (length ts) ∷ []) (turns_json e ts))

pub journal_lines : (e : Edition) (ts : List Turn) (left : ℕ) → journal_text e ts left ≡ flat_map (row_line e) (rows_of_journal e ts left)
journal_lines e ts left = sym (ap (flat_map row_text) (journal_json e ts left)) ∙ flat_map-map row_text (row_json e) (rows_of_journal e ts left)

-- ---- form

events_form : (e : Edition) (es : List Event) → AllByRecursion (HasEventForm e) es → AllByRecursion (λ d. depth d ≤ max_depth) (map event_row es) → HaveRowForm e (map event es)
events_form e [] h k = tt
events_form e (x ∷ es) h k = (record { row = h.0; nesting = k.0 }, events_form e es h.1 k.1)

sums_form : (e : Edition) (ss : List Sum) → AllByRecursion HasSumForm ss → AllByRecursion (λ d. depth d ≤ max_depth) (map (sum_row e) ss) → HaveRowForm e (map sum ss)
sums_form e [] h k = tt
sums_form e (s ∷ ss) h k = (record { row = h.0; nesting = k.0 }, sums_form e ss h.1 k.1)

turn_form : (e : Edition) (t : Turn) → IsInForm e t → HaveRowForm e (rows_of_turn t)
turn_form e t h =
    let first : HasRowForm e (turn (by_its_row t)) = record {
      row = record { number = h.number; delivered = h.delivered; arguments = h.arguments; answered = h.answered; answer = h.answer; no_events = refl; no_sums = refl };
      nesting = h.nesting.0;
    } in
    let low = λ (d : json.Data). depth d ≤ max_depth in (
      first,
      all_both (HasRowForm e) (map event t.events) (map sum t.sums)
          (events_form e t.events h.events (all_first low (map event_row t.events) (map (sum_row e) t.sums) h.nesting.1))
          (sums_form e t.sums h.sums (all_second low (map event_row t.events) (map (sum_row e) t.sums) h.nesting.1)),
    )

turns_form : (e : Edition) (ts : List Turn) → AllByRecursion (IsInForm e) ts → HaveRowForm e (flat_map rows_of_turn ts)
turns_form e [] h = tt
turns_form e (t ∷ ts) h = all_both (HasRowForm e) (rows_of_turn t) (flat_map rows_of_turn ts) (turn_form e t h.0) (turns_form e ts h.1)

version_form : (e : Edition) → HaveRowForm e (version_first e)
version_form First = tt
version_form Second = (record { row = refl; nesting = omega arith }, tt)

journal_form : (e : Edition) (ts : List Turn) (left : ℕ) → AreInForm e ts left → HaveRowForm e (rows_of_journal e ts left)
journal_form e ts left h =
    let last : HaveRowForm e (close left (length ts) ∷ []) = (record { row = (h.few, h.as_many); nesting = omega arith }, tt) in
    all_both (HasRowForm e) (version_first e) (rows_of_turns ts left) (version_form e) (all_both (HasRowForm e) (flat_map rows_of_turn ts) (close left (length ts) ∷ []) (turns_form e ts h.turns) last)

-- ---- the law

journal_closed : (e : Edition) (ts : List Turn) (left : ℕ) → after_rows (unread e) (rows_of_journal e ts left) ≡ closed
journal_closed e ts left = after_append (unread e) (version_first e) (rows_of_turns ts left) ∙ closes (after_rows (unread e) (version_first e)) (flat_map rows_of_turn ts) left (length ts)

pub fair_turns_are_good : FairTurnsAreGood
fair_turns_are_good e bytes ts left h = record {
  is = h.text ∙ journal_lines e ts left;
  form = journal_form e ts left h.form;
  good = journal_good e ts left h.fair h.form.turns;
  is_closed = journal_closed e ts left;
}
