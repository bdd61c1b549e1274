use Rattle.std.proofs.Common.{◌≡◌, ◌<◌, [], ◌∷◌, ◌++◌, length, take, reverse, sym, ap, ◌∙◌, subst, arith, map}
use Rattle.std.proofs.lemmas.List.{take-append-le, length-append}
use Rattle.promise_store.specs.Nodes.{with_settlement}
use Rattle.promise_store.specs.Linked.{Linked, LinkedTurn, leader, settlement_of, outcome, settling, noted_at}
use Rattle.promise_store.specs.Cascade.{Settles, settled_in}
use Rattle.promise_store.specs.Kept.{linked_now, linked_start, linked_turn}
use Rattle.promise_store.proofs.Changes.{length-with_settlement, outcomes_pushed, settled_all}
use Rattle.promise_store.proofs.Order.{settled_in_order, settled_below}
use Rattle.promise_store.proofs.links.Links.settle.Goals as goal

pub invariant_of-self-2 : goal.invariant_of-self-2
invariant_of-self-2 c =
    let was = c.self.inside in
    let inv = c.self.invariant in
    let p = c.args.promise in
    let k = c.args.settlement in
    let v = c.self.view_is in
    let es = c.in_ok-events.events.items in
    let l : Linked = record { made = length was.nodes.items; follows = reverse was.follows.items; asked = was.asked.items; outcomes = reverse was.outcomes.items } in
    let s : Settles l (p ∷ []) es = subst (λ (w : LinkedTurn). Settles w.now (p ∷ []) es) (sym v) (c.in_ok-events.ensures) in
    let made : p < length was.nodes.items = subst (λ (w : LinkedTurn). p < w.now.made) (sym v) c.requires.made in
    let ps = settled_in es in
    let order = settled_in_order l k p es inv.now.forest inv.now.order
    (ap (λ (w : LinkedTurn). leader w.now.follows p) v ∙ c.requires.free)
    (ap (λ (w : LinkedTurn). settlement_of w.now.outcomes p) v ∙ c.requires.pending) s in
    let marked : c.mark_outcomes.new.nodes.items ≡ with_settlement k ps was.nodes.items = c.mark_outcomes.ensures ∙ ap (λ xs. with_settlement k (settled_in xs) was.nodes.items) c.as_slice-2.ensures.value in
    let pushed : c.note_outcomes.new.outcomes.items ≡ was.outcomes.items ++ map (outcome k) ps = (c.in_ok-note_outcomes.ensures).ok ∙ ap (λ xs. was.outcomes.items ++ map (outcome k) (settled_in xs)) c.as_slice.ensures.value in
    let now = settled_all was.nodes.items (reverse was.follows.items) was.asked.items k ps (reverse was.outcomes.items) inv.now (settled_below was.nodes.items l (p ∷ []) es inv.now (made, tt) s) order in
    let same : length c.mark_outcomes.new.nodes.items ≡ length was.nodes.items = ap length marked ∙ length-with_settlement k ps was.nodes.items in
    record {
      now = rw (marked, pushed, outcomes_pushed) now;
      start = λ n h. ap (λ os. noted_at (reverse (take was.start.follows was.follows.items)) (take was.start.asked was.asked.items) (reverse os) n) (ap (take was.start.outcomes) pushed ∙ take-append-le was.start.outcomes was.outcomes.items (map (outcome k) ps) inv.outcomes_within) ∙ inv.start n h;
      made_within = omega (arith, inv.made_within, same);
      follows_within = inv.follows_within;
      asked_within = inv.asked_within;
      outcomes_within = omega (arith, inv.outcomes_within, ap length pushed, length-append was.outcomes.items (map (outcome k) ps));
      few = omega (arith, inv.few, same);
    }

pub returns-clause-ok : goal.returns-clause-ok
returns-clause-ok c =
    let was = c.self.inside in
    let inv = c.self.invariant in
    let k = c.args.settlement in
    let ps = settled_in c.in_ok-events.events.items in
    let marked : c.mark_outcomes.new.nodes.items ≡ with_settlement k ps was.nodes.items = c.mark_outcomes.ensures ∙ ap (λ xs. with_settlement k (settled_in xs) was.nodes.items) c.as_slice-2.ensures.value in
    let pushed : c.note_outcomes.new.outcomes.items ≡ was.outcomes.items ++ map (outcome k) ps = (c.in_ok-note_outcomes.ensures).ok ∙ ap (λ xs. was.outcomes.items ++ map (outcome k) (settled_in xs)) c.as_slice.ensures.value in
    let same : length c.mark_outcomes.new.nodes.items ≡ length was.nodes.items = ap length marked ∙ length-with_settlement k ps was.nodes.items in
    let begun = ap reverse (ap (take was.start.outcomes) pushed ∙ take-append-le was.start.outcomes was.outcomes.items (map (outcome k) ps) inv.outcomes_within) in
    let now = ap reverse pushed ∙ outcomes_pushed k ps was.outcomes.items in
    let parts : linked_turn was.start c.mark_outcomes.new.nodes.items was.follows.items was.asked.items c.note_outcomes.new.outcomes.items
    ≡ record { start = linked_start was.start was.follows.items was.asked.items was.outcomes.items; now = settling k ps (linked_now was.nodes.items was.follows.items was.asked.items was.outcomes.items) }
    = λ i. record {
      start = record (linked_start was.start was.follows.items was.asked.items was.outcomes.items) { outcomes = begun i };
      now = record { made = same i; follows = reverse was.follows.items; asked = was.asked.items; outcomes = now i };
    } in
    parts ∙ ap (λ (w : LinkedTurn). record w { now = settling k ps w.now }) c.self.view_is
