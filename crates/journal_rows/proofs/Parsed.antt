-- Rows that are good one after another, the last of which closes the journal, are those of fair turns.
use Rattle.std.proofs.Common.{◌≡◌, ◌≤◌, ℕ, ◌+◌, List, [], ◌∷◌, ◌++◌, length, map, refl, sym, ap, subst, ◌∙◌, arith, append_assoc, append-nil}
use Rattle.std.specs.List.{AllByRecursion, flat_map}
use Rattle.serde_json.specs.Data as json
use Rattle.serde_json.specs.Data.{depth}
use Rattle.serde_json.specs.Read.{max_depth}
use Rattle.fair_rows.proofs.Lists.{all_both, all_first, all_second}
use Rattle.fair_rows.specs.Rows.{InTurn, after_event}
use Rattle.fair_rows.specs.SoFar.{SoFar, nothing_so_far, with_turn}
use Rattle.fair_rows.specs.Turns.{AreFairFrom, AreFairRows, IsFairEnd, IsFairTurnRow, after_events, after_turn_row}
use Rattle.fair_rows.specs.turn_rows.Form.{AreInForm, HasEventForm, HasSumForm, IsInForm, MayStand, may_call}
use Rattle.fair_rows.specs.turn_rows.Rows.{event_row, sum_row}
use Rattle.fair_rows.specs.turn_rows.Turns.{Event, Turn}
use Rattle.fair_rows.specs.turn_rows.declared.editions.Edition.{Edition}
use Rattle.fair_rows.specs.turn_rows.declared.editions.Edition.TheVariants.{First, Second}
use Rattle.fair_rows.specs.turn_rows.rights_model.declared.Sum.{Sum}
use Rattle.journal_rows.specs.Laws.{GoodRowsAreFair}
use Rattle.journal_rows.specs.Reading.{AreGood, after_rows, closed, fresh, told_after, unread, within}
use Rattle.journal_rows.specs.Row.{HasRowForm, HaveRowForm, IsTurnRow, Row, by_its_row, close, event, row_line, rows_of_journal, rows_of_turn, rows_of_turns, sum, turn, version, version_first}
use Rattle.journal_rows.proofs.Good.{journal_lines, told_turn}
use Rattle.journal_rows.proofs.Heads.{after_same, by_row, end_whole, fair_whole, told_same, turn_row_whole}

-- ---- what is left of rows

abbrev Stands : Turn → Type 0
Stands t = AllByRecursion (MayStand (may_call t.answer)) t.events

-- what is left where a turn may begin
record Left (e : Edition) (s : SoFar) (rows : List Row) : Type 0 where
  pub turns : List Turn
  pub left : ℕ
  pub fair : AreFairFrom e s turns
  pub stand : AllByRecursion Stands turns
  pub is : rows ≡ flat_map rows_of_turn turns ++ close left (s.turns + length turns) ∷ []

-- what is left of a turn whose events were read
record Rest (e : Edition) (i : InTurn) (told : List Sum) (rows : List Row) : Type 0 where
  pub sums : List Sum
  pub later : List Row
  pub end : IsFairEnd e i (told ++ sums)
  pub is : rows ≡ map sum sums ++ later
  pub next : Left e (told_after i) later

-- what is left of a turn
record Body (e : Edition) (i : InTurn) (rows : List Row) : Type 0 where
  pub events : List Event
  pub later : List Row
  pub fair : AreFairRows i events
  pub stand : AllByRecursion (MayStand (may_call i.row.answer)) events
  pub is : rows ≡ map event events ++ later
  pub rest : Rest e (after_events i events) [] later

-- ---- a turn by its row, and with what happened in it

events_whole : (i : InTurn) (es : List Event) → AreFairRows (by_row i) es → AreFairRows i es
events_whole i [] h = tt
events_whole i (x ∷ es) h = (fair_whole i x h.0, events_whole (after_event i x) es (subst (λ j. AreFairRows j es) (after_same i x) h.1))

after_whole : (i : InTurn) (es : List Event) → after_events (by_row i) es ≡ by_row (after_events i es)
after_whole i [] = refl
after_whole i (x ∷ es) = ap (λ j. after_events j es) (after_same i x) ∙ after_whole (after_event i x) es

-- ---- steps

pub nothing_more : (e : Edition) (rows : List Row) → AreGood e closed rows → rows ≡ []
nothing_more e [] h = refl
nothing_more e (version ∷ rows) h = absurd (cc)
nothing_more e (turn t ∷ rows) h = absurd h.0.0
nothing_more e (event x ∷ rows) h = absurd h.0
nothing_more e (sum s ∷ rows) h = absurd h.0
nothing_more e (close left turns ∷ rows) h = absurd h.0.0

closing : (e : Edition) (s : SoFar) (left turns : ℕ) (rows : List Row) → turns ≡ s.turns → AreGood e closed rows → Left e s (close left turns ∷ rows)
closing e s left turns rows count h = record {
  turns = [];
  left = left;
  fair = tt;
  stand = tt;
  is = rw (nothing_more e rows h) (ap (λ n. close left n ∷ []) (omega (arith, count)));
}

module _ (e : Edition) (s : SoFar) (head : Turn) (rows : List Row) (form : IsTurnRow head) (row : IsFairTurnRow s head) (b : Body e (after_turn_row s head) rows) where
  -- the turn row with what follows it
  abbrev t : Turn
  t = record head { events = b.events; sums = b.rest.sums }

  abbrev start : InTurn
  start = after_turn_row s t

  abbrev end : InTurn
  end = after_events start b.events

  by_head : by_its_row t ≡ head
  by_head = λ i. record head { events = sym form.no_events i; sums = sym form.no_sums i }

  events_fair : AreFairRows start b.events
  events_fair = events_whole start b.events (subst (λ u. AreFairRows (after_turn_row s u) b.events) (sym by_head) b.fair)

  end_same : after_events (after_turn_row s head) b.events ≡ by_row end
  end_same = ap (λ u. after_events (after_turn_row s u) b.events) (sym by_head) ∙ after_whole start b.events

  end_fair : IsFairEnd e end b.rest.sums
  end_fair = end_whole e end b.rest.sums (subst (λ i. IsFairEnd e i b.rest.sums) end_same b.rest.end)

  told_same_turn : told_after (after_events (after_turn_row s head) b.events) ≡ with_turn s t
  told_same_turn = ap told_after end_same ∙ told_same end ∙ told_turn s t

  opening : Left e s (turn head ∷ rows)
  opening =
      let next = b.rest.next in
      let body = map event b.events ++ map sum b.rest.sums in
      let last = λ (n : ℕ). close next.left n ∷ [] in
      let counted : (told_after (after_events (after_turn_row s head) b.events)).turns + length next.turns ≡ s.turns + length (t ∷ next.turns) =
      omega (arith, ap (λ (u : SoFar). u.turns) told_same_turn) in
      let row_fair : IsFairTurnRow s t = turn_row_whole s t (subst (IsFairTurnRow s) (sym by_head) row) in
      record {
        turns = t ∷ next.turns;
        left = next.left;
        fair = (record { row = row_fair; events = events_fair; end = end_fair }, subst (λ u. AreFairFrom e u next.turns) told_same_turn next.fair);
        stand = (b.stand, next.stand);
        is =
            ap (λ (rs : List Row). turn head ∷ rs) (b.is ∙ ap (λ (rs : List Row). map event b.events ++ rs) (b.rest.is ∙ ap (λ (rs : List Row). map sum b.rest.sums ++ rs) next.is)
            ∙ sym (append_assoc (map event b.events) (map sum b.rest.sums) _)
            ∙ sym (append_assoc body (flat_map rows_of_turn next.turns) _)
            ∙ ap (λ n. (body ++ flat_map rows_of_turn next.turns) ++ last n) counted)
            ∙ ap (λ u. turn u ∷ ((body ++ flat_map rows_of_turn next.turns) ++ last (s.turns + length (t ∷ next.turns)))) (sym by_head);
      }

-- a turn ends here
ending : (e : Edition) (i : InTurn) (told : List Sum) (rows : List Row) → IsFairEnd e i told → Left e (told_after i) rows → Rest e i told rows
ending e i told rows h l = record { sums = []; later = rows; end = subst (IsFairEnd e i) (sym (append-nil told)) h; is = refl; next = l }

one_sum : (e : Edition) (i : InTurn) (told : List Sum) (s : Sum) (rows : List Row) → Rest e i (told ++ s ∷ []) rows → Rest e i told (sum s ∷ rows)
one_sum e i told s rows r = record { sums = s ∷ r.sums; later = r.later; end = subst (IsFairEnd e i) (append_assoc told (s ∷ []) r.sums) r.end; is = ap (λ (rs : List Row). sum s ∷ rs) r.is; next = r.next }

no_events : (e : Edition) (i : InTurn) (rows : List Row) → Rest e i [] rows → Body e i rows
no_events e i rows r = record { events = []; later = rows; fair = tt; stand = tt; is = refl; rest = r }

mutual
  in_sums : (e : Edition) (rows : List Row) (i : InTurn) (n : Sum) (told : List Sum) → HaveRowForm e rows → AreGood e (within i (n ∷ told)) rows → after_rows (within i (n ∷ told)) rows ≡ closed → Rest e i (n ∷ told) rows
  in_sums e [] i n told form h k = absurd (cc)
  in_sums e (version ∷ rows) i n told form h k = absurd (cc)
  in_sums e (turn t ∷ rows) i n told form h k =
      ending e i (n ∷ told) _ h.0.0 (opening e (told_after i) t rows form.0.row h.0.1 (in_events e rows (after_turn_row (told_after i) t) form.1 h.1 k))
  in_sums e (event x ∷ rows) i n told form h k = absurd h.0
  in_sums e (sum s ∷ rows) i n told form h k = one_sum e i (n ∷ told) s rows (in_sums e rows i n (told ++ s ∷ []) form.1 h.1 k)
  in_sums e (close left turns ∷ rows) i n told form h k = ending e i (n ∷ told) _ h.0.0 (closing e (told_after i) left turns rows h.0.1 h.1)

  in_events : (e : Edition) (rows : List Row) (i : InTurn) → HaveRowForm e rows → AreGood e (within i []) rows → after_rows (within i []) rows ≡ closed → Body e i rows
  in_events e [] i form h k = absurd (cc)
  in_events e (version ∷ rows) i form h k = absurd (cc)
  in_events e (turn t ∷ rows) i form h k =
      no_events e i _ (ending e i [] _ h.0.0 (opening e (told_after i) t rows form.0.row h.0.1 (in_events e rows (after_turn_row (told_after i) t) form.1 h.1 k)))
  in_events e (event x ∷ rows) i form h k =
      let b = in_events e rows (after_event i x) form.1 h.1 k in
      record { events = x ∷ b.events; later = b.later; fair = (h.0.0, b.fair); stand = (h.0.1, b.stand); is = ap (λ (rs : List Row). event x ∷ rs) b.is; rest = b.rest }
  in_events e (sum s ∷ rows) i form h k = no_events e i _ (one_sum e i [] s rows (in_sums e rows i s [] form.1 h.1 k))
  in_events e (close left turns ∷ rows) i form h k = no_events e i _ (ending e i [] _ h.0.0 (closing e (told_after i) left turns rows h.0.1 h.1))

from_fresh : (e : Edition) (rows : List Row) → HaveRowForm e rows → AreGood e fresh rows → after_rows fresh rows ≡ closed → Left e nothing_so_far rows
from_fresh e [] form h k = absurd (cc)
from_fresh e (version ∷ rows) form h k = absurd (cc)
from_fresh e (turn t ∷ rows) form h k = opening e nothing_so_far t rows form.0.row h.0.1 (in_events e rows (after_turn_row nothing_so_far t) form.1 h.1 k)
from_fresh e (event x ∷ rows) form h k = absurd h.0
from_fresh e (sum s ∷ rows) form h k = absurd h.0
from_fresh e (close left turns ∷ rows) form h k = closing e nothing_so_far left turns rows h.0.1 h.1

-- ---- behind the version row

record Whole (e : Edition) (rows : List Row) : Type 0 where
  pub turns : List Turn
  pub left : ℕ
  pub fair : AreFairFrom e nothing_so_far turns
  pub stand : AllByRecursion Stands turns
  pub is : rows ≡ rows_of_journal e turns left

whole_of : (e : Edition) (rows more : List Row) → rows ≡ version_first e ++ more → Left e nothing_so_far more → Whole e rows
whole_of e rows more same l = record { turns = l.turns; left = l.left; fair = l.fair; stand = l.stand; is = same ∙ ap (λ (rs : List Row). version_first e ++ rs) l.is ∙ ap (λ n. version_first e ++ (flat_map rows_of_turn l.turns ++ close l.left n ∷ [])) (omega arith) }

from_unread : (e : Edition) (rows : List Row) → HaveRowForm e rows → AreGood e (unread e) rows → after_rows (unread e) rows ≡ closed → Whole e rows
from_unread First rows form h k = whole_of First rows rows refl (from_fresh First rows form h k)
from_unread Second [] form h k = absurd (cc)
from_unread Second (version ∷ rows) form h k = whole_of Second (version ∷ rows) rows refl (from_fresh Second rows form.1 h.1 k)
from_unread Second (turn t ∷ rows) form h k = absurd h.0.0
from_unread Second (event x ∷ rows) form h k = absurd h.0
from_unread Second (sum s ∷ rows) form h k = absurd h.0
from_unread Second (close left turns ∷ rows) form h k = absurd h.0.0

-- ---- form

abbrev IsLow : json.Data → Type 0
IsLow d = depth d ≤ max_depth

events_form : (e : Edition) (es : List Event) → HaveRowForm e (map event es) → AllByRecursion (HasEventForm e) es × AllByRecursion IsLow (map event_row es)
events_form e [] h = (tt, tt)
events_form e (x ∷ es) h = let later = events_form e es h.1 in ((h.0.row, later.0), (h.0.nesting, later.1))

sums_form : (e : Edition) (ss : List Sum) → HaveRowForm e (map sum ss) → AllByRecursion HasSumForm ss × AllByRecursion IsLow (map (sum_row e) ss)
sums_form e [] h = (tt, tt)
sums_form e (s ∷ ss) h = let later = sums_form e ss h.1 in ((h.0.row, later.0), (h.0.nesting, later.1))

turn_form : (e : Edition) (t : Turn) → HaveRowForm e (rows_of_turn t) → Stands t → IsInForm e t
turn_form e t h stands =
    let es = events_form e t.events (all_first (HasRowForm e) (map event t.events) (map sum t.sums) h.1) in
    let ss = sums_form e t.sums (all_second (HasRowForm e) (map event t.events) (map sum t.sums) h.1) in
    record {
      number = h.0.row.number;
      delivered = h.0.row.delivered;
      arguments = h.0.row.arguments;
      answered = h.0.row.answered;
      answer = h.0.row.answer;
      events = es.0;
      calls = stands;
      sums = ss.0;
      nesting = (h.0.nesting, all_both IsLow (map event_row t.events) (map (sum_row e) t.sums) es.1 ss.1);
    }

turns_form : (e : Edition) (ts : List Turn) → HaveRowForm e (flat_map rows_of_turn ts) → AllByRecursion Stands ts → AllByRecursion (IsInForm e) ts
turns_form e [] h stand = tt
turns_form e (t ∷ ts) h stand = (
  turn_form e t (all_first (HasRowForm e) (rows_of_turn t) (flat_map rows_of_turn ts) h) stand.0,
  turns_form e ts (all_second (HasRowForm e) (rows_of_turn t) (flat_map rows_of_turn ts) h) stand.1,
)

journal_form : (e : Edition) (ts : List Turn) (left : ℕ) → HaveRowForm e (rows_of_journal e ts left) → AllByRecursion Stands ts → AreInForm e ts left
journal_form e ts left h stand =
    let rows = all_second (HasRowForm e) (version_first e) (rows_of_turns ts left) h in
    let last = all_second (HasRowForm e) (flat_map rows_of_turn ts) (close left (length ts) ∷ []) rows in
    record {
      turns = turns_form e ts (all_first (HasRowForm e) (flat_map rows_of_turn ts) (close left (length ts) ∷ []) rows) stand;
      as_many = last.0.row.1;
      few = last.0.row.0;
    }

pub good_rows_are_fair : GoodRowsAreFair
good_rows_are_fair e bytes rows w =
    let found = from_unread e rows w.form w.good w.is_closed in
    record {
      turns = found.turns;
      left = found.left;
      fair = record {
        text = w.is ∙ ap (flat_map (row_line e)) found.is ∙ sym (journal_lines e found.turns found.left);
        form = journal_form e found.turns found.left (subst (HaveRowForm e) found.is w.form) found.stand;
        fair = found.fair;
      };
      is = found.is;
    }
