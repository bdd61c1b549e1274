-- The turns of a run up to some point are written, none of whose rows is too long, and others are left.
use Rattle.std.proofs.Common.{◌≡◌, ℕ, ◌+◌, ◌<◌, ◌≤◌, List, [], ◌++◌, length, Option, refl, sym, ap, ◌∙◌, arith, append_assoc, append-nil, length-append}
use Rattle.std.proofs.KnownBytes.{Appends-nil, Appends-trans}
use Rattle.std.specs.Io.KnownBytes.{Appends}
use Rattle.std.specs.List.{AllByRecursion}
use Rattle.host_io.specs.Fronts.{AppendsFront}
use Rattle.run_laws.proofs.ShortJournals.{both_each}
use Rattle.run_laws.proofs.turn_rows.ByTurns.{texts_then}
use Rattle.run_laws.specs.Runs.{AppendsToLimit, AppendsTurns}
use Rattle.run_laws.specs.turn_writer.ShortRows.{HasShortRows}
use Rattle.host_turns.specs.turn_rows.Editions.{written}
use Rattle.host_turns.specs.turn_rows.Texts.{turns_text}
use Rattle.host_turns.specs.turn_rows.Turns.{Turn}
use Rattle.host_turns.specs.world_state.Rights.{most_turns}

-- of all the turns, those before the ones that are left were written, and counted on from a number
pub record Written (all left : List Turn) (before now : ℕ) (old new : Option (List ℕ)) : Type 0 where
  pub done : List Turn
  pub whole : all ≡ done ++ left
  pub count : now ≡ before + length done
  pub short : AllByRecursion (HasShortRows written) done
  pub appended : Appends old new (turns_text written before done)

-- the text of what was written, and of the turns that come next
more_text : (all left : List Turn) (n m : ℕ) (old mid : Option (List ℕ)) (h : Written all left n m old mid) (us : List Turn) → turns_text written n (h.done ++ us) ≡ turns_text written n h.done ++ turns_text written m us
more_text all left n m old mid h us = texts_then written n h.done us ∙ ap (λ k. turns_text written n h.done ++ turns_text written k us) (sym h.count)

pub written_start : (all : List Turn) (n : ℕ) (old : Option (List ℕ)) → Written all all n n old old
written_start all n old = record { done = []; whole = refl; count = omega arith; short = tt; appended = Appends-nil old }

-- the next turns were written too
pub written_more : (all next left : List Turn) (n m k : ℕ) (old mid new : Option (List ℕ)) → Written all (next ++ left) n m old mid → AllByRecursion (HasShortRows written) next → Appends mid new (turns_text written m next) → k ≡ m + length next
    → Written all left n k old new
written_more all next left n m k old mid new h short more e = record {
  done = h.done ++ next;
  whole = h.whole ∙ sym (append_assoc h.done next left);
  count = omega (arith, h.count, e, length-append h.done next);
  short = both_each (HasShortRows written) h.done next h.short short;
  appended = rw (more_text all (next ++ left) n m old mid h next) (Appends-trans old mid new _ _ h.appended more);
}

-- all were written
pub written_all : (all : List Turn) (n m : ℕ) (old new : Option (List ℕ)) → Written all [] n m old new → Appends old new (turns_text written n all)
written_all all n m old new h = rw (h.whole, append-nil) h.appended

-- the next turns were written in part, or not at all
pub memory_left : (all left : List Turn) (n m : ℕ) (old new : Option (List ℕ)) → Written all left n m old new → AppendsTurns old new n all
memory_left all left n m old new h = record { first = h.done; later = left; whole = h.whole; short = h.short; appended = h.appended }

pub memory_next : (all next left : List Turn) (n m : ℕ) (old mid new : Option (List ℕ)) → Written all (next ++ left) n m old mid → AppendsTurns mid new m next → AppendsTurns old new n all
memory_next all next left n m old mid new h f = record {
  first = h.done ++ f.first;
  later = f.later ++ left;
  whole = h.whole ∙ rw f.whole (simp append_assoc);
  short = both_each (HasShortRows written) h.done f.first h.short f.short;
  appended = rw (more_text all (next ++ left) n m old mid h f.first) (Appends-trans old mid new _ _ h.appended f.appended);
}

pub limit_left : (all left : List Turn) (n m : ℕ) (old new : Option (List ℕ)) → Written all left n m old new → m ≡ most_turns → 1 ≤ length left → AppendsToLimit old new n all
limit_left all left n m old new h last more = record { first = h.done; later = left; whole = h.whole; last = omega (arith, last, h.count); more = more; short = h.short; appended = h.appended }

pub limit_next : (all next left : List Turn) (n m : ℕ) (old mid new : Option (List ℕ)) → Written all (next ++ left) n m old mid → AppendsToLimit mid new m next → AppendsToLimit old new n all
limit_next all next left n m old mid new h f = record {
  first = h.done ++ f.first;
  later = f.later ++ left;
  whole = h.whole ∙ rw f.whole (simp append_assoc);
  last = omega (arith, f.last, h.count, length-append h.done f.first);
  more = omega (arith, f.more, length-append f.later left);
  short = both_each (HasShortRows written) h.done f.first h.short f.short;
  appended = rw (more_text all (next ++ left) n m old mid h f.first) (Appends-trans old mid new _ _ h.appended f.appended);
}

pub failed_next : (all next left : List Turn) (n m : ℕ) (old mid new : Option (List ℕ)) → Written all (next ++ left) n m old mid → AppendsFront mid new (turns_text written m next) → AppendsFront old new (turns_text written n all)
failed_next all next left n m old mid new h f = record {
  front = turns_text written n h.done ++ f.front;
  back = f.back ++ turns_text written (m + length next) left;
  whole = rw (h.whole, more_text all (next ++ left) n m old mid h (next ++ left), texts_then written m next left, f.whole) (simp append_assoc);
  appended = Appends-trans old mid new _ _ h.appended f.appended;
}

-- so many turns are too many
pub limit_past : (old new : Option (List ℕ)) (all : List Turn) → AppendsToLimit old new 0 all → most_turns < length all
limit_past old new all h = omega (arith, h.last, h.more, ap length h.whole, length-append h.first h.later)
