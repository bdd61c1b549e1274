use Rattle.std.proofs.Common.{◌≡◌, [], ◌++◌, ◌∙◌, ap, sym, arith, vec_capacity}
use Rattle.amount_math.specs.Content.{of_entries, of_entries-nil, sum, sum-nothing}
use Rattle.amount_math.specs.Entries.{Entries, most_of_key}
use Rattle.amount_math.specs.ValueView.{keys_of}
use Rattle.amount_math.proofs.Poured.{emptied}
use Rattle.amount_math.proofs.Places.{last_within, rest_are, room_for_last, sum_stays}
use Rattle.amount_math.proofs.in_place.put_all.Goals as goal

pub put_entry-requires-clause-within : goal.put_entry-requires-clause-within
put_entry-requires-clause-within c =
    let more = rw c.in-Some.ensures.items at c.loop-entry.invariant.more in
    let same = rw c.in-Some.ensures.items at c.loop-entry.invariant.same in
    last_within _ _ _ c.loop-entry.invariant.entries more most_of_key (λ k. rw same (c.requires.within k))

pub put_entry-requires-clause-room : goal.put_entry-requires-clause-room
put_entry-requires-clause-room c = λ none.
    let more = rw c.in-Some.ensures.items at c.loop-entry.invariant.more in
    let same = rw c.in-Some.ensures.items at c.loop-entry.invariant.same in
    let room = vec_capacity c.loop-entry.entries in
    omega (arith, room_for_last _ _ _ c.loop-entry.invariant.entries more room (omega (arith, ap keys_of same, c.requires.room, c.loop-entry.invariant.capacity)) none)

pub loop-entry-preserved : goal.loop-entry-preserved
loop-entry-preserved c =
    let more = rw c.in-Some.ensures.items at c.loop-entry.invariant.more in
    let same = rw c.in-Some.ensures.items at c.loop-entry.invariant.same in
    record {
      entries = c.put_entry.ensures.entries;
      more = rest_are _ _ _ c.loop-entry.invariant.entries more;
      same = sum_stays _ _ _ c.loop-entry.invariant.entries more c.put_entry.new.entries.items c.put_entry.ensures.entries c.put_entry.ensures.counts ∙ same;
      capacity = omega (arith, c.put_entry.ensures.capacity, c.loop-entry.invariant.capacity);
    }

pub returns-clause-content : goal.returns-clause-content
returns-clause-content c =
    let gone = emptied c.pop.new.self.items (omega (arith, c.in_default.ensures.cases.1)) in
    let none : c.loop-entry.more.items ≡ [] = c.in_default.ensures.items ∙ ap (λ (es : Entries). es ++ []) gone in
    sym (sum-nothing _) ∙ ap (sum (of_entries c.loop-entry.entries.items)) (sym (ap of_entries none ∙ of_entries-nil)) ∙ c.loop-entry.invariant.same
