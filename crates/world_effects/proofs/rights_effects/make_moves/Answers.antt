use Rattle.std.proofs.Common.{◌++◌, ◌∙◌, ap, map, refl}
use Rattle.std.proofs.lemmas.Result.{on_ok_weaker}
use Rattle.register_effects.specs.call_outcomes.Moves.{moves_view}
use Rattle.register_effects.specs.draft_reads.Views.{staging_in}
use Rattle.register_effects.specs.host_world.Worlds.{world_now}
use Rattle.register_effects.specs.registers.Stores.{registers_now}
use Rattle.world_laws.specs.turn_records.Logs.{log_of}
use Rattle.world_laws.specs.turn_records.Events.{moved}
use Rattle.world_laws.specs.world_state.Worlds as worlds
use Rattle.world_laws.specs.world_state.Worlds.{after}
use Rattle.world_effects.proofs.JoinedStores.{joined}
use Rattle.world_effects.proofs.rights_effects.make_moves.Goals as goal

pub move_in_draft-requires-clause-can : goal.move_in_draft-requires-clause-can
move_in_draft-requires-clause-can c = (staging_in c.args.world.now.draft, c.requires.can)

pub returns-clause-ok : goal.returns-clause-ok
returns-clause-ok c =
    let was = registers_now c.args.world.now.registers in
    let has = c.in_ok-move_in_draft.ensures.ok in
    on_ok_weaker c.log_moves.result
    (λ told. record {
      now = joined c.move_in_draft.new.draft (record was { log = log_of c.log_moves.new.log }) (after (world_now c.args.world.now) (worlds.moves (moves_view c.args.moves))) has (λ i. record was { log = (told ∙ ap (λ ms. was.log ++ map moved ms) c.movements_of.ensures) i });
      clean = has.clean;
    })
    c.log_moves.ensures
