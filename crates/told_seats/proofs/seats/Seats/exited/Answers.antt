use Rattle.std.proofs.Common.{List, Some, refl, sym, ap, ◌∙◌}
use Rattle.row_records.specs.Views.{exit_view}
use Rattle.row_records.specs.fair_rows.Rows.{payouts_due}
use Rattle.row_records.specs.turn_records.Views.{cause_view}
use Rattle.told_seats.specs.DueViews.{slot_contents}
use Rattle.told_seats.specs.SlotViews.{slots_view}
use Rattle.told_seats.specs.declared.seats.Stage.TheVariants.{Exited}
use Rattle.told_seats.specs.declared.slots.SlotName.{SlotName}
use Rattle.told_seats.proofs.ToldSeats.{causes_left, causes_past, exited_on}
use Rattle.told_seats.proofs.seats.Seats.exited.Goals as goal

pub returns-clause-told : goal.returns-clause-told
returns-clause-told c = λ i t r place.
    exited_on c.args.self.now (record c.args.self.now { seats = c.set_stage.new.seats; due = c.in_ok-self.field-0 }) i (exit_view c.args.row.now)
    (record {
      seat = c.in-Some.seat.now;
      stage = Exited c.in_ok-contents.contents c.args.row.now.cause;
      there = sym c.in-Some.ensures;
      seats = c.set_stage.ensures;
      last = λ s last. last ∙ ap Some (sym (c.in_ok-contents.ensures i r ∙ ap (λ (ss : List SlotName). slot_contents i.now.table c.args.row.now.seat (slots_view ss)) c.as_slice.ensures.value));
      due = c.in_ok-self.ensures i r ∙ ap (λ (ss : List SlotName). payouts_due i.now.table (exit_view c.args.row.now) (slots_view ss)) c.as_slice-2.ensures.value;
      touched = λ n. refl;
      offer = refl;
    })
    t place

pub returns-clause-causes : goal.returns-clause-causes
returns-clause-causes c = causes_left c.args.row.now.seat (Exited c.in_ok-contents.contents c.args.row.now.cause) c.args.self.now.seats.items c.set_stage.new.seats.items c.set_stage.ensures

pub returns-in_default-clause-causes : goal.returns-in_default-clause-causes
returns-in_default-clause-causes c = causes_past c.args.self.now.seats.items c.args.row.now.seat (Some (cause_view c.args.row.now.cause)) c.in_default.ensures
