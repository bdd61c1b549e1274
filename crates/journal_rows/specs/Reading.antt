-- When a row is good after the rows before it. It adds nothing to fairness: it says at which row each
-- part of it is tested.
use Rattle.std.specs.Prelude.{◌≡◌, ◌+◌, List, [], ◌∷◌, ◌++◌}
use Rattle.fair_rows.specs.ExitCauses.{facets_made, instance_of}
use Rattle.fair_rows.specs.Rows.{InTurn, IsFairRow, after_event}
use Rattle.fair_rows.specs.SoFar.{SoFar, nothing_so_far}
use Rattle.fair_rows.specs.Turns.{IsFairEnd, IsFairTurnRow, after_turn_row, sums_due}
use Rattle.fair_rows.specs.turn_rows.Form.{MayStand, may_call}
use Rattle.fair_rows.specs.turn_rows.Turns.{Event}
use Rattle.fair_rows.specs.turn_rows.declared.editions.Edition.{Edition}
use Rattle.fair_rows.specs.turn_rows.declared.editions.Edition.TheVariants.{First, Second}
use Rattle.fair_rows.specs.turn_rows.rights_model.declared.Sum.{Sum}
use Rattle.journal_rows.specs.Row.{Row, close, event, sum, turn, version}

-- a journal, as far as it was read
pub data Reading : Type 0 where
  -- no row yet, and the version row has to come
  unversioned : Reading
  -- no turn row yet
  fresh : Reading
  -- in a turn, with the sums that were told of it
  within : InTurn → List Sum → Reading
  closed : Reading

abbrev pub unread : Edition → Reading
unread First = fresh
unread Second = unversioned

-- what the rows tell where a turn has ended
abbrev pub told_after : InTurn → SoFar
told_after i = record (i.now) {
  turns = i.before.turns + 1;
  owners = i.before.owners ++ facets_made (instance_of i.before.owners i.row.kind i.row) i.here;
}

abbrev pub told_by : Reading → SoFar
told_by (within i told) = told_after i
told_by _ = nothing_so_far

-- ---- good rows

-- no turn is left unended, so that the next may begin
abbrev pub MayEnd : Edition → Reading → Type 0
MayEnd e fresh = Unit {0}
MayEnd e (within i told) = IsFairEnd e i told
MayEnd e _ = ⊥

-- what happens is told before the turn's first sum
abbrev pub IsGoodEvent : Edition → Reading → Event → Type 0
IsGoodEvent e (within i []) x = IsFairRow i x × MayStand (may_call i.row.answer) x
IsGoodEvent e _ x = ⊥

-- the sums so far are the first of those that are due
pub record AreFirstSums (due told : List Sum) : Type 0 where
  pub more : List Sum
  pub is : due ≡ told ++ more

-- nothing is due but sums, and this one is the next
pub record IsNextSum (i : InTurn) (told : List Sum) (s : Sum) : Type 0 where
  pub complete : i.due ≡ []
  pub next : AreFirstSums (sums_due i) (told ++ s ∷ [])

abbrev pub IsGoodSum : Reading → Sum → Type 0
IsGoodSum (within i told) s = IsNextSum i told s
IsGoodSum _ s = ⊥

abbrev pub IsGood : Edition → Reading → Row → Type 0
IsGood e r version = r ≡ unversioned
IsGood e r (turn t) = MayEnd e r × IsFairTurnRow (told_by r) t
IsGood e r (event x) = IsGoodEvent e r x
IsGood e r (sum s) = IsGoodSum r s
IsGood e r (close left turns) = MayEnd e r × (turns ≡ (told_by r).turns)

-- ---- after a row

abbrev pub with_event : Reading → Event → Reading
with_event (within i told) x = within (after_event i x) told
with_event r x = r

abbrev pub with_sum : Reading → Sum → Reading
with_sum (within i told) s = within i (told ++ s ∷ [])
with_sum r s = r

abbrev pub after_row : Reading → Row → Reading
after_row r version = fresh
after_row r (turn t) = within (after_turn_row (told_by r) t) []
after_row r (event x) = with_event r x
after_row r (sum s) = with_sum r s
after_row r (close left turns) = closed

abbrev pub after_rows : Reading → List Row → Reading
after_rows r [] = r
after_rows r (w ∷ ws) = after_rows (after_row r w) ws

-- each row is good after those before it
abbrev pub AreGood : Edition → Reading → List Row → Type 0
AreGood e r [] = Unit {0}
AreGood e r (w ∷ ws) = IsGood e r w × AreGood e (after_row r w) ws
