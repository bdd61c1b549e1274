use Rattle.std.proofs.Common.{◌≡◌, ◌<◌, ℕ, List, length, sym, ap, ◌∙◌, subst}
use Rattle.world_state.specs.promise_store.States.{settlement_view}
use Rattle.world_state.specs.promise_store.Turns.{Turn, state_at}
use Rattle.world_state.specs.promise_store.Views.{now_of, promises_of}
use Rattle.world_state.specs.promise_store.declared.links.Consequence.{Consequence}
use Rattle.world_state.specs.turn_records.Logs.{log_of}
use Rattle.world_state.specs.turn_records.declared.deliveries.Notice.{Notice}
use Rattle.world_state.specs.Promises.{settling}
use Rattle.registers.specs.Books.{AreRequestsIn}
use Rattle.registers.specs.PromiseTables.{beside, book_of, notice_views, told_after, waiting_of, waits_after}
use Rattle.registers.proofs.Steps.{entries_there, kept_settled, pending_is, pending_made, requests_in, settled_told, told_together}
use Rattle.registers.proofs.promise_table.table.PromiseTable.settle.Goals as goal

pub settle_promise-requires-clause-made : goal.settle_promise-requires-clause-made
settle_promise-requires-clause-made c = pending_made (now_of c.args.self.now.promises) c.args.promise c.requires.pending

pub settle_promise-requires-clause-is_pending : goal.settle_promise-requires-clause-is_pending
settle_promise-requires-clause-is_pending c = pending_is (now_of c.args.self.now.promises) c.args.promise c.requires.pending

pub invariant_of-self : goal.invariant_of-self
invariant_of-self c = record {
  booked = kept_settled (λ v. v.items) c.settle_promise.result (promises_of c.args.self.now.promises) (promises_of c.settle_promise.new.promises) c.args.promise c.args.settlement
      c.args.self.now.booked c.requires.pending (c.settle_promise.ensures).events (c.settle_promise.ensures).ok (c.settle_promise.ensures).err;
}

pub tell-requires-clause-made : goal.tell-requires-clause-made
tell-requires-clause-made c =
    let made : (now_of c.settle_promise.new.promises).links.made ≡ (now_of c.args.self.now.promises).links.made = ap (λ (t : Turn Notice). t.now.links.made) (c.in_ok-events.ensures).ok in
    subst (λ (n : ℕ). c.args.promise < n) (sym made) (pending_made (now_of c.args.self.now.promises) c.args.promise c.requires.pending)

pub tell-requires-clause-there : goal.tell-requires-clause-there
tell-requires-clause-there c =
    let s = now_of c.args.self.now.promises in
    let asked : length s.entries ≡ length s.links.asked = entries_there s (c.args.self.now.booked).now in
    let entries : length (now_of c.settle_promise.new.promises).entries ≡ length s.links.asked = ap (λ (t : Turn Notice). length t.now.entries) (c.in_ok-events.ensures).ok ∙ asked in
    subst (AreRequestsIn (length (now_of c.settle_promise.new.promises).entries)) (sym c.as_slice.ensures.value)
    (subst (λ (n : ℕ). AreRequestsIn n c.in_ok-events.events.items) (sym entries) (requests_in s.links _ c.in_ok-events.events.items (c.in_ok-events.ensures).events))

pub returns-clause-ok : goal.returns-clause-ok
returns-clause-ok c =
    let s = now_of c.args.self.now.promises in
    let n = now_of c.settle_promise.new.promises in
    let p = c.args.promise in
    let es = c.in_ok-events.events.items in
    let ds = waiting_of c.args.queue.now.now in
    let log = log_of c.args.log.now in
    told_together c.tell.result (book_of n) (waiting_of c.tell.new.queue.now) (waits_after (state_at n p) (notice_views n.entries) c.as_slice.result.now ds)
    (log_of c.tell.new.log) (told_after (state_at n p) c.as_slice.result.now log) (settling p (settlement_view c.args.settlement) (book_of s) ds log)
    (c.tell.ensures).queued (c.tell.ensures).told
    (ap (λ (xs : List Consequence). beside (book_of n) (waits_after (state_at n p) (notice_views n.entries) xs ds) (told_after (state_at n p) xs log)) c.as_slice.ensures.value
    ∙ settled_told s n (c.args.self.now.booked).now p c.requires.pending es ds log
    c.args.settlement (c.in_ok-events.ensures).events (ap (λ (t : Turn Notice). t.now) (c.in_ok-events.ensures).ok) (c.in_ok-events.ensures).settled)
