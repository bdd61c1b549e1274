use Rattle.std.proofs.Common.{◌≡◌, ◌<◌, ℕ, List, [], length, Option, Some, None, refl, sym, ap, ◌∙◌, subst}
use Rattle.world_state.specs.promise_store.Linked.{Linked, settlement_of}
use Rattle.world_state.specs.promise_store.Turns.{Store, Turn, links_following, state_at}
use Rattle.world_state.specs.promise_store.Views.{now_of, promises_of}
use Rattle.world_state.specs.promise_store.declared.links.Consequence.{Consequence}
use Rattle.world_state.specs.turn_records.Logs.{log_of}
use Rattle.world_state.specs.turn_records.declared.deliveries.Notice.{Notice}
use Rattle.registers.specs.Books.{AreRequestsIn, settled_with}
use Rattle.registers.specs.PromiseTables.{beside, book_of, notice_views, told_after, waiting_of, waits_after}
use Rattle.registers.proofs.Lists.{length_listed}
use Rattle.registers.proofs.Steps.{followed_told, kept_followed, pending_is, pending_made, requests_followed}
use Rattle.registers.proofs.promise_table.table.PromiseTable.follow.Goals as goal

made_in : (s : Store Notice) (t : ℕ) → t < length (book_of s).settled → t < s.links.made
made_in s t lt = subst (λ (n : ℕ). t < n) (length_listed (settled_with s.links.outcomes s.settlements) s.links.made) lt

pub follow-requires-clause-promise_made : goal.follow-requires-clause-promise_made
follow-requires-clause-promise_made c = pending_made (now_of c.args.self.now.promises) c.args.promise c.requires.pending

pub follow-requires-clause-target_made : goal.follow-requires-clause-target_made
follow-requires-clause-target_made c = made_in (now_of c.args.self.now.promises) c.args.target c.requires.target_made

pub follow-requires-clause-is_pending : goal.follow-requires-clause-is_pending
follow-requires-clause-is_pending c = pending_is (now_of c.args.self.now.promises) c.args.promise c.requires.pending

pub invariant_of-self : goal.invariant_of-self
invariant_of-self c = record {
  booked = kept_followed (λ v. v.items) c.follow.result (promises_of c.args.self.now.promises) (promises_of c.follow.new.self) c.args.promise c.args.target
      c.args.self.now.booked c.requires.pending (c.follow.ensures).cycle (c.follow.ensures).events (c.follow.ensures).ok (c.follow.ensures).err;
}

same_made : (k : Option ℕ) (p t : ℕ) (es : List Consequence) (l : Linked) → (links_following k p t es l).made ≡ l.made
same_made None p t es l = refl
same_made (Some k) p t es l = refl

pub tell-requires-clause-made : goal.tell-requires-clause-made
tell-requires-clause-made c =
    let made : (now_of c.follow.new.self).links.made ≡ (now_of c.args.self.now.promises).links.made = ap (λ (t : Turn Notice). t.now.links.made) (c.in_ok-events.ensures).ok ∙ same_made (settlement_of (now_of c.args.self.now.promises).links.outcomes c.args.target) c.args.promise c.args.target c.in_ok-events.events.items (now_of c.args.self.now.promises).links in
    subst (λ (n : ℕ). c.args.promise < n) (sym made) (pending_made (now_of c.args.self.now.promises) c.args.promise c.requires.pending)

pub tell-requires-clause-there : goal.tell-requires-clause-there
tell-requires-clause-there c =
    let s = now_of c.args.self.now.promises in
    let entries : length (now_of c.follow.new.self).entries ≡ length s.entries = ap (λ (t : Turn Notice). length t.now.entries) (c.in_ok-events.ensures).ok in
    subst (AreRequestsIn (length (now_of c.follow.new.self).entries)) (sym c.as_slice.ensures.value)
    (subst (λ (n : ℕ). AreRequestsIn n c.in_ok-events.events.items) (sym entries)
    (requests_followed s s (c.args.self.now.booked).now c.args.promise c.requires.pending c.in_ok-events.events.items [] [] c.args.target (c.in_ok-events.ensures).events))

pub returns-in-Ok-clause-ok : goal.returns-in-Ok-clause-ok
returns-in-Ok-clause-ok c =
    let s = now_of c.args.self.now.promises in
    let n = now_of c.follow.new.self in
    let p = c.args.promise in
    let es = c.in_ok-events.events.items in
    let ds = waiting_of c.args.queue.now.now in
    let log = log_of c.args.log.now in
    (λ i. beside (book_of n) ((c.in-Ok.ensures).queued i) ((c.in-Ok.ensures).told i))
    ∙ (ap (λ (xs : List Consequence). beside (book_of n) (waits_after (state_at n p) (notice_views n.entries) xs ds) (told_after (state_at n p) xs log)) c.as_slice.ensures.value
    ∙ followed_told s n (c.args.self.now.booked).now p c.requires.pending es ds log
    c.args.target (made_in s c.args.target c.requires.target_made) (c.in_ok-events.ensures).events (ap (λ (t : Turn Notice). t.now) (c.in_ok-events.ensures).ok) (c.in_ok-events.ensures).settled)
