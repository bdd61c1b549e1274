use Rattle.std.proofs.Common.{◌≡◌, refl, sym, ap, ◌∙◌, Result, Ok, Err, OnOk}
use Rattle.world_state.specs.promise_store.Turns.{Turn, changed, with_request}
use Rattle.world_state.specs.promise_store.Views.{now_of, promises_of}
use Rattle.world_state.specs.turn_records.declared.deliveries.Notice.{Notice}
use Rattle.world_state.specs.Promises.{PromiseBook}
use Rattle.registers.specs.PromiseTables.{book_of}
use Rattle.registers.proofs.Steps.{asked_is, kept_asked, made_in, unsettled_is}
use Rattle.registers.proofs.promise_table.table.PromiseTable.ask.Goals as goal

book_after : {V E : Type 0} (r : Result V E) (old new : Turn Notice) (n : Notice) (b : PromiseBook) → OnOk r (new ≡ changed (with_request n.promise n) old) → book_of (with_request n.promise n old.now) ≡ b → OnOk r (book_of new.now ≡ b)
book_after (Ok v) old new n b done is = ap (λ (t : Turn Notice). book_of t.now) done ∙ is
book_after (Err e) old new n b done is = tt

pub keep_request-requires : goal.keep_request-requires
keep_request-requires c = made_in (now_of c.args.self.now.promises) c.args.request.promise c.requires

pub invariant_of-self : goal.invariant_of-self
invariant_of-self c = record {
  booked = kept_asked c.keep_request.result (promises_of c.args.self.now.promises) (promises_of c.keep_request.new.promises) c.args.request.promise c.args.request c.args.self.now.booked refl (c.keep_request.ensures).ok (c.keep_request.ensures).err;
}

pub returns-clause-asking : goal.returns-clause-asking
returns-clause-asking c =
    let s = now_of c.args.self.now.promises in
    let n = c.args.request in
    let made = made_in s n.promise c.requires in
    let free = unsettled_is s n.promise made (sym c.is_settled.ensures ∙ c.if-is_settled.false) in
    book_after c.keep_request.result (promises_of c.args.self.now.promises) (promises_of c.keep_request.new.promises) n _ (c.keep_request.ensures).ok (asked_is s n made free)
