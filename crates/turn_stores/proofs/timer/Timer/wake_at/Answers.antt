use Rattle.std.proofs.Common.{◌≡◌, ◌+◌, ◌<◌, arith, refl, true}
use Rattle.std.specs.Ordering.{is_le}
use Rattle.turn_stores.specs.declared.timer.DueKey.{DueKey}
use Rattle.turn_stores.specs.WaitingPlaces.{due_cmp}
use Rattle.turn_stores.proofs.Due.{due_exact, each_inserted, from_lower, numbered_more, woken}
use Rattle.turn_stores.proofs.timer.Timer.wake_at.Goals as goal

pub invariant_of-self-2 : goal.invariant_of-self-2
invariant_of-self-2 g c =
    let key : DueKey = record { time = c.args.time; number = c.self.inside.current.made } in
    let from = c.first_of-self-inside.result in
    let made = c.self.inside.current.made in
    let es = c.self.inside.entries.now in
    record {
      numbered = rw (c.in_ok-put.ensures.now due_exact) (each_inserted (λ k. k.number < made + 1) key c.args.entry es (omega arith) (numbered_more made es c.self.invariant.numbered));
      were_numbered = rw c.in_ok-put.ensures.start c.self.invariant.were_numbered;
      first = rw (c.in_ok-put.ensures.now due_exact) (each_inserted (λ k. is_le (due_cmp from k) ≡ true) key c.args.entry es c.first_of-self-inside.ensures.other (from_lower from c.self.inside.from es c.first_of-self-inside.ensures.one c.self.invariant.first));
    }

pub returns-clause-ok : goal.returns-clause-ok
returns-clause-ok g c =
    let key : DueKey = record { time = c.args.time; number = c.self.inside.current.made } in
    rw (← c.self.view_is, c.in_ok-put.ensures.now due_exact, woken key c.args.entry c.self.inside.entries.now c.keeps_order.ensures.now c.self.invariant.numbered) refl
