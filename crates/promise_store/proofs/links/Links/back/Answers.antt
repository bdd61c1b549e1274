use Rattle.std.proofs.Common.{◌≡◌, ℕ, ◌≤◌, length, reverse, sym, ap, ◌∙◌, subst, arith}
use Rattle.std.proofs.lemmas.List.{length-take-le}
use Rattle.promise_store.specs.Linked.{noted_at}
use Rattle.promise_store.specs.Nodes.{bare}
use Rattle.promise_store.specs.Kept.{AreNodes}
use Rattle.promise_store.proofs.Changes.{cut, take_twice}
use Rattle.promise_store.proofs.links.Links.back.Goals as goal

pub invariant_of-self : goal.invariant_of-self
invariant_of-self c =
    let was = c.self.inside in
    let inv = c.self.invariant in
    let s = was.start in
    let fs = c.undo_follows.new.follows.items in
    let asked = c.undo_asked.new.asked.items in
    let os = c.undo_outcomes.new.outcomes.items in
    let fs_is = c.undo_follows.ensures.follows in
    let asked_is = c.undo_asked.ensures.asked in
    let os_is = c.undo_outcomes.ensures.outcomes in
    let one = c.undo_outcomes.ensures.nodes (reverse was.follows.items) was.asked.items inv.now in
    let two = c.undo_asked.ensures.nodes (reverse was.follows.items) (reverse os) one in
    let three = c.undo_follows.ensures.nodes asked (reverse os) two in
    let lengths : length c.undo_follows.new.nodes.items ≡ length was.nodes.items = c.undo_follows.ensures.length ∙ (c.undo_asked.ensures.length ∙ c.undo_outcomes.ensures.length) in
    let late : (n : ℕ) → s.made ≤ n → noted_at (reverse fs) asked (reverse os) n ≡ bare = λ n h. rw (fs_is, asked_is, os_is) (inv.start n h) in
    record {
      now = subst (λ nodes. AreNodes nodes (reverse fs) asked (reverse os)) (sym c.truncate.ensures.items) (cut s.made c.undo_follows.new.nodes.items (reverse fs) asked (reverse os) (omega (arith, lengths, inv.made_within)) three late);
      start = λ n h. rw (fs_is, asked_is, os_is, take_twice, take_twice, take_twice) (inv.start n h);
      made_within = omega (arith, ap length c.truncate.ensures.items, length-take-le s.made c.undo_follows.new.nodes.items (omega (arith, lengths, inv.made_within)));
      follows_within = omega (arith, ap length fs_is, length-take-le s.follows was.follows.items inv.follows_within);
      asked_within = omega (arith, ap length asked_is, length-take-le s.asked was.asked.items inv.asked_within);
      outcomes_within = omega (arith, ap length os_is, length-take-le s.outcomes was.outcomes.items inv.outcomes_within);
      few = omega (arith, ap length c.truncate.ensures.items, length-take-le s.made c.undo_follows.new.nodes.items (omega (arith, lengths, inv.made_within)), inv.made_within, inv.few);
    }
