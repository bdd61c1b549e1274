use Rattle.std.proofs.Common.{◌++◌, ◌∙◌, map}
use Rattle.front_turns.specs.escrow.Told.{sum_of}
use Rattle.front_turns.specs.rights_model.Totals.{brands_of}
use Rattle.front_turns.specs.turn_records.Views.{event_views}
use Rattle.front_turns.specs.turn_records.Events.{moves_in}
use Rattle.host_turns.specs.Totals.{instances_in}
use Rattle.host_turns.proofs.TurnSums.{on_err, read_sums, tells_same, turn_can, turn_told}
use Rattle.host_turns.proofs.turn_sums.tell_turn.Goals as goal

pub tell_all-requires : goal.tell_all-requires
tell_all-requires c = turn_can c.requires.start c.requires.after c.requires.instances c.args.sums.now (event_views c.args.events.now) c.requires.turn

pub returns-in_err-tell_all-clause-still : goal.returns-in_err-tell_all-clause-still
returns-in_err-tell_all-clause-still c = λ rights instances tells. on_err c.from_residual-in_err-tell_all.result _ (tells_same rights instances c.args.sums.now c.tell_all.new.sums c.in_err-tell_all.ensures.err tells)

pub returns-clause-sums : goal.returns-clause-sums
returns-clause-sums c = λ start after instances turn.
    let es = event_views c.args.events.now in
    let now = c.tell_all.new.sums in
    c.add_sums.ensures
    ∙ (λ i. (c.in_ok-reserve.ensures.items ∙ c.new-made.ensures.items) i ++ map (sum_of now) ((c.deref.ensures.value ∙ c.in_ok-brands.ensures) i))
    ∙ read_sums after (instances ++ instances_in es) now (turn_told start after instances c.args.sums.now now es turn c.in_ok-tell_all.ensures.ok) (brands_of (moves_in es))

pub returns-clause-ok : goal.returns-clause-ok
returns-clause-ok c = λ start after instances turn. turn_told start after instances c.args.sums.now c.tell_all.new.sums (event_views c.args.events.now) turn c.in_ok-tell_all.ensures.ok
