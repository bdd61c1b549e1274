-- Fairness reads nothing of the events and sums that stand in the record of a turn row.
use Rattle.std.proofs.Common.{◌≡◌, ℕ, ◌+◌, List, [], ◌∷◌, ◌++◌, refl, sym, ap, ◌∙◌}
use Rattle.std.specs.List.{AllByRecursion}
use Rattle.fair_rows.specs.ExitCauses.{Owners, cause_by_row, either, facets_made, first_cause, instance_of}
use Rattle.fair_rows.specs.Rows.{AreFairMoves, Due, InTurn, IsFairExit, IsFairOpening, IsFairRow, IsInPlace, after_event}
use Rattle.fair_rows.specs.Seats.{Seat}
use Rattle.fair_rows.specs.SoFar.{SoFar}
use Rattle.fair_rows.specs.Turns.{IsCaused, IsFairEnd, IsFairTurnRow}
use Rattle.fair_rows.specs.turn_rows.Kinds as kinds
use Rattle.fair_rows.specs.turn_rows.Kinds.{Kind}
use Rattle.fair_rows.specs.turn_rows.Turns.{Answer, Event, Opening, SeatExit, Turn, called, exited, moved, ok, opened, refused, settled, spent, threw}
use Rattle.fair_rows.specs.turn_rows.rights_model.declared.Sum.{Sum}
use Rattle.fair_rows.specs.turn_rows.declared.editions.Edition.{Edition}
use Rattle.journal_rows.specs.Reading.{told_after}
use Rattle.journal_rows.specs.Row.{by_its_row}

abbrev pub by_row : InTurn → InTurn
by_row i = record i { row = by_its_row i.row }

-- ---- causes

pub instance_same : (os : Owners) (k : Kind) (t : Turn) → instance_of os k (by_its_row t) ≡ instance_of os k t
instance_same os kinds.service t = refl
instance_same os kinds.facet t = refl
instance_same os kinds.handler t = refl
instance_same os kinds.wake t = refl
instance_same os kinds.notify t = refl
instance_same os kinds.deadline t = refl
instance_same os kinds.start t = refl
instance_same os kinds.tick t = refl
instance_same os kinds.give t = refl
instance_same os kinds.bad t = refl
instance_same os kinds.message t = refl

spent_same : (k : Kind) (meter : ℕ) (os : Owners) (t : Turn) (instance seat : ℕ) → cause_by_row k (spent meter) os (by_its_row t) instance seat ≡ cause_by_row k (spent meter) os t instance seat
spent_same kinds.service meter os t instance seat = rw (instance_same os t.kind t) refl
spent_same kinds.facet meter os t instance seat = rw (instance_same os t.kind t) refl
spent_same kinds.handler meter os t instance seat = rw (instance_same os t.kind t) refl
spent_same kinds.wake meter os t instance seat = rw (instance_same os t.kind t) refl
spent_same kinds.notify meter os t instance seat = rw (instance_same os t.kind t) refl
spent_same kinds.deadline meter os t instance seat = refl
spent_same kinds.start meter os t instance seat = rw (instance_same os t.kind t) refl
spent_same kinds.tick meter os t instance seat = rw (instance_same os t.kind t) refl
spent_same kinds.give meter os t instance seat = rw (instance_same os t.kind t) refl
spent_same kinds.bad meter os t instance seat = rw (instance_same os t.kind t) refl
spent_same kinds.message meter os t instance seat = rw (instance_same os t.kind t) refl

row_same : (k : Kind) (a : Answer) (os : Owners) (t : Turn) (instance seat : ℕ) → cause_by_row k a os (by_its_row t) instance seat ≡ cause_by_row k a os t instance seat
row_same k (spent meter) os t instance seat = spent_same k meter os t instance seat
row_same kinds.service (ok d) os t instance seat = refl
row_same kinds.service (refused code shown) os t instance seat = refl
row_same kinds.service (threw d) os t instance seat = refl
row_same kinds.facet (ok d) os t instance seat = refl
row_same kinds.facet (refused code shown) os t instance seat = refl
row_same kinds.facet (threw d) os t instance seat = refl
row_same kinds.handler (ok d) os t instance seat = refl
row_same kinds.handler (refused code shown) os t instance seat = refl
row_same kinds.handler (threw d) os t instance seat = refl
row_same kinds.wake (ok d) os t instance seat = refl
row_same kinds.wake (refused code shown) os t instance seat = refl
row_same kinds.wake (threw d) os t instance seat = refl
row_same kinds.notify (ok d) os t instance seat = refl
row_same kinds.notify (refused code shown) os t instance seat = refl
row_same kinds.notify (threw d) os t instance seat = refl
row_same kinds.deadline (ok d) os t instance seat = refl
row_same kinds.deadline (refused code shown) os t instance seat = refl
row_same kinds.deadline (threw d) os t instance seat = refl
row_same kinds.start (ok d) os t instance seat = refl
row_same kinds.start (refused code shown) os t instance seat = refl
row_same kinds.start (threw d) os t instance seat = rw (instance_same os t.kind t) refl
row_same kinds.tick (ok d) os t instance seat = refl
row_same kinds.tick (refused code shown) os t instance seat = refl
row_same kinds.tick (threw d) os t instance seat = refl
row_same kinds.give (ok d) os t instance seat = refl
row_same kinds.give (refused code shown) os t instance seat = refl
row_same kinds.give (threw d) os t instance seat = refl
row_same kinds.bad (ok d) os t instance seat = refl
row_same kinds.bad (refused code shown) os t instance seat = refl
row_same kinds.bad (threw d) os t instance seat = refl
row_same kinds.message (ok d) os t instance seat = refl
row_same kinds.message (refused code shown) os t instance seat = refl
row_same kinds.message (threw d) os t instance seat = refl

pub cause_same : (os : Owners) (t : Turn) (es : List Event) (instance seat : ℕ) → first_cause os (by_its_row t) es instance seat ≡ first_cause os t es instance seat
cause_same os t es instance seat = ap (either _) (row_same t.kind t.answer os t instance seat)

-- ---- rows

pub after_same : (i : InTurn) (x : Event) → after_event (by_row i) x ≡ by_row (after_event i x)
after_same i (called c) = refl
after_same i (opened o) = refl
after_same i (moved m) = refl
after_same i (exited x) = refl
after_same i (settled promise s) = refl

exit_by_row : (i : InTurn) (x : SeatExit) → IsFairExit i x → IsFairExit (by_row i) x
exit_by_row i x h = record { is_open = h.is_open; cause = cause_same i.before.owners i.row i.here h.is_open.seat.opening.instance x.seat ∙ h.cause; safe = h.safe; as_many = h.as_many; named = h.named; fresh = h.fresh }

exit_whole : (i : InTurn) (x : SeatExit) → IsFairExit (by_row i) x → IsFairExit i x
exit_whole i x h = record { is_open = h.is_open; cause = sym (cause_same i.before.owners i.row i.here h.is_open.seat.opening.instance x.seat) ∙ h.cause; safe = h.safe; as_many = h.as_many; named = h.named; fresh = h.fresh }

opening_by_row : (i : InTurn) (o : Opening) → IsFairOpening i o → IsFairOpening (by_row i) o
opening_by_row i o h = record { next = h.next; of_brand = h.of_brand; by = h.by; empty = h.empty }

opening_whole : (i : InTurn) (o : Opening) → IsFairOpening (by_row i) o → IsFairOpening i o
opening_whole i o h = record { next = h.next; of_brand = h.of_brand; by = h.by; empty = h.empty }

place_by_row : (due : List Due) (i : InTurn) (x : Event) → IsInPlace due i x → IsInPlace due (by_row i) x
place_by_row [] i (called c) h = h
place_by_row [] i (opened o) h = opening_by_row i o h
place_by_row [] i (moved m) h = h
place_by_row [] i (exited x) h = exit_by_row i x h
place_by_row [] i (settled promise s) h = h
place_by_row (d ∷ ds) i (called c) h = absurd h
place_by_row (d ∷ ds) i (opened o) h = absurd h
place_by_row (d ∷ ds) i (moved m) h = h
place_by_row (d ∷ ds) i (exited x) h = absurd h
place_by_row (d ∷ ds) i (settled promise s) h = absurd h

place_whole : (due : List Due) (i : InTurn) (x : Event) → IsInPlace due (by_row i) x → IsInPlace due i x
place_whole [] i (called c) h = h
place_whole [] i (opened o) h = opening_whole i o h
place_whole [] i (moved m) h = h
place_whole [] i (exited x) h = exit_whole i x h
place_whole [] i (settled promise s) h = h
place_whole (d ∷ ds) i (called c) h = absurd h
place_whole (d ∷ ds) i (opened o) h = absurd h
place_whole (d ∷ ds) i (moved m) h = h
place_whole (d ∷ ds) i (exited x) h = absurd h
place_whole (d ∷ ds) i (settled promise s) h = absurd h

moves_by_row : (i : InTurn) (x : Event) → AreFairMoves i x → AreFairMoves (by_row i) x
moves_by_row i (called c) h = tt
moves_by_row i (opened o) h = tt
moves_by_row i (moved m) h = record { defined = h.defined; minted = h.minted; live = h.live }
moves_by_row i (exited x) h = tt
moves_by_row i (settled promise s) h = tt

moves_whole : (i : InTurn) (x : Event) → AreFairMoves (by_row i) x → AreFairMoves i x
moves_whole i (called c) h = tt
moves_whole i (opened o) h = tt
moves_whole i (moved m) h = record { defined = h.defined; minted = h.minted; live = h.live }
moves_whole i (exited x) h = tt
moves_whole i (settled promise s) h = tt

pub fair_by_row : (i : InTurn) (x : Event) → IsFairRow i x → IsFairRow (by_row i) x
fair_by_row i x h = record { place = place_by_row i.due i x h.place; moves = moves_by_row i x h.moves; kinds = h.kinds; refusal = h.refusal }

pub fair_whole : (i : InTurn) (x : Event) → IsFairRow (by_row i) x → IsFairRow i x
fair_whole i x h = record { place = place_whole i.due i x h.place; moves = moves_whole i x h.moves; kinds = h.kinds; refusal = h.refusal }

-- ---- the turn row

pub turn_row_by_row : (s : SoFar) (t : Turn) → IsFairTurnRow s t → IsFairTurnRow s (by_its_row t)
turn_row_by_row s t h = record { number = h.number; read = record { purse = h.read.purse; payment = h.read.payment; final = h.read.final } }

pub turn_row_whole : (s : SoFar) (t : Turn) → IsFairTurnRow s (by_its_row t) → IsFairTurnRow s t
turn_row_whole s t h = record { number = h.number; read = record { purse = h.read.purse; payment = h.read.payment; final = h.read.final } }

-- ---- the end

caused_by_row : (seats : List Seat) (os : Owners) (t : Turn) (here xs : List Event) → AllByRecursion (IsCaused seats os t here) xs → AllByRecursion (IsCaused seats os (by_its_row t) here) xs
caused_by_row seats os t here [] h = tt
caused_by_row seats os t here (called c ∷ xs) h = (tt, caused_by_row seats os t here xs h.1)
caused_by_row seats os t here (opened o ∷ xs) h = (tt, caused_by_row seats os t here xs h.1)
caused_by_row seats os t here (moved m ∷ xs) h = (tt, caused_by_row seats os t here xs h.1)
caused_by_row seats os t here (exited x ∷ xs) h = (record { seat = h.0.seat; was_opened = h.0.was_opened; first = cause_same os t here h.0.seat.opening.instance x.seat ∙ h.0.first }, caused_by_row seats os t here xs h.1)
caused_by_row seats os t here (settled promise s ∷ xs) h = (tt, caused_by_row seats os t here xs h.1)

caused_whole : (seats : List Seat) (os : Owners) (t : Turn) (here xs : List Event) → AllByRecursion (IsCaused seats os (by_its_row t) here) xs → AllByRecursion (IsCaused seats os t here) xs
caused_whole seats os t here [] h = tt
caused_whole seats os t here (called c ∷ xs) h = (tt, caused_whole seats os t here xs h.1)
caused_whole seats os t here (opened o ∷ xs) h = (tt, caused_whole seats os t here xs h.1)
caused_whole seats os t here (moved m ∷ xs) h = (tt, caused_whole seats os t here xs h.1)
caused_whole seats os t here (exited x ∷ xs) h = (record { seat = h.0.seat; was_opened = h.0.was_opened; first = sym (cause_same os t here h.0.seat.opening.instance x.seat) ∙ h.0.first }, caused_whole seats os t here xs h.1)
caused_whole seats os t here (settled promise s ∷ xs) h = (tt, caused_whole seats os t here xs h.1)

pub end_by_row : (e : Edition) (i : InTurn) (told : List Sum) → IsFairEnd e i told → IsFairEnd e (by_row i) told
end_by_row e i told h = record {
  complete = h.complete;
  sums = h.sums;
  balanced = h.balanced;
  safe = h.safe;
  stays = λ seat is_open. cause_same i.before.owners i.row i.here is_open.seat.opening.instance seat ∙ h.stays seat is_open;
  caused = caused_by_row i.now.seats i.before.owners i.row i.here i.here h.caused;
  emptied = h.emptied;
}

pub end_whole : (e : Edition) (i : InTurn) (told : List Sum) → IsFairEnd e (by_row i) told → IsFairEnd e i told
end_whole e i told h = record {
  complete = h.complete;
  sums = h.sums;
  balanced = h.balanced;
  safe = h.safe;
  stays = λ seat is_open. sym (cause_same i.before.owners i.row i.here is_open.seat.opening.instance seat) ∙ h.stays seat is_open;
  caused = caused_whole i.now.seats i.before.owners i.row i.here i.here h.caused;
  emptied = h.emptied;
}

-- what the rows tell after a turn
pub told_same : (i : InTurn) → told_after (by_row i) ≡ told_after i
told_same i = ap (λ instance. record (i.now) { turns = i.before.turns + 1; owners = i.before.owners ++ facets_made instance i.here }) (instance_same i.before.owners i.row.kind i.row)
