use Rattle.std.proofs.lemmas.Result.{on_ok_weaker}
use Rattle.register_effects.specs.draft_reads.Views.{rights_in, seats_in, staging_in}
use Rattle.register_effects.specs.host_world.Worlds.{world_now}
use Rattle.register_effects.specs.registers.Stores.{registers_now}
use Rattle.world_laws.specs.world_state.Worlds as worlds
use Rattle.world_laws.specs.world_state.Worlds.{after}
use Rattle.world_effects.proofs.JoinedStores.{joined}
use Rattle.register_effects.specs.registers.Makers.{maker_view}
use Rattle.world_effects.proofs.seat_effects.new_brand.Goals as goal

pub returns-clause-ok : goal.returns-clause-ok
returns-clause-ok c =
    let d = c.args.world.now.draft in
    let e = worlds.new_brand c.args.brand (maker_view c.args.maker) in
    on_ok_weaker c.new_brand.result
    (λ beside. record { now = joined c.add_brand.new.draft (registers_now c.new_brand.new.stores) (after (world_now c.args.world.now) e) c.in_ok-add_brand.ensures.ok (beside (rights_in d) (seats_in d) (staging_in d) tt); clean = c.in_ok-add_brand.ensures.ok.clean })
    c.new_brand.ensures.ok
