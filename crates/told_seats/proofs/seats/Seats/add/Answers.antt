use Rattle.std.proofs.Common.{[], List, map, refl, ap, ◌∙◌}
use Rattle.row_records.specs.Views.{amount_view}
use Rattle.row_records.specs.declared.rows.KeywordAmount.{KeywordAmount}
use Rattle.row_records.specs.fair_rows.Seats.{with_amounts}
use Rattle.told_seats.specs.declared.seats.Stage.TheVariants.{Open}
use Rattle.told_seats.proofs.seats.Seats.add.Goals.{in-Ok, in-Err}
use Rattle.told_seats.proofs.seats.Seats.add.Goals as goal

pub returns : goal.returns
returns c =
    elim c.match-push.branch [
      | in-Ok w ↦
          rw w.result-is
          (record {
            seat = record { instance = c.args.row.instance; slots = c.in_ok-slots.slots; stage = Open (record { give = c.args.row.give; want = c.args.row.want }) };
            seats = w.in-Ok.ensures.items;
            instance = refl;
            slots = c.in_ok-slots.ensures
                ∙ ap (λ (xs : List KeywordAmount). with_amounts (map amount_view xs) (with_amounts (map amount_view c.as_slice.result.now) [])) c.as_slice-2.ensures.value
                ∙ ap (λ (xs : List KeywordAmount). with_amounts (map amount_view c.args.row.want.items) (with_amounts (map amount_view xs) [])) c.as_slice.ensures.value;
            stage = refl;
            rest = refl;
          })
      | in-Err w ↦ rw w.result-is tt
    ]
