use Rattle.std.proofs.Common.{OnOk, refl, subst, sym}
use Rattle.std.proofs.lemmas.Result.{on_ok_weaker}
use Rattle.register_effects.specs.call_outcomes.Views.{effect_view}
use Rattle.register_effects.specs.call_outcomes.declared.effects.Effect.{Effect}
use Rattle.register_effects.specs.draft_reads.Views.{rights_in, seats_in, staging_in}
use Rattle.register_effects.specs.host_world.Worlds.{world_of}
use Rattle.register_effects.specs.registers.PromiseTables.{waiting_of}
use Rattle.world_laws.specs.world_state.Good.{IsGoodEffect}
use Rattle.world_effects.proofs.Facts.{instances_can, promises_can}
use Rattle.world_effects.proofs.JoinedStores.{stays}
use Rattle.world_effects.specs.CarriedEffects.{IsCarried}
use Rattle.world_effects.proofs.carry_one.Goals as goal

pub returns-in-Rights-clause-ok : goal.returns-in-Rights-clause-ok
returns-in-Rights-clause-ok c = subst (λ (e : Effect). OnOk c.carry_rights.result (IsCarried c.args.world.now c.carry_rights.new.world (effect_view e))) (sym c.in-Rights.is) c.carry_rights.ensures.ok

pub returns-in-Seats-clause-ok : goal.returns-in-Seats-clause-ok
returns-in-Seats-clause-ok c = subst (λ (e : Effect). OnOk c.carry_seats.result (IsCarried c.args.world.now c.carry_seats.new.world (effect_view e))) (sym c.in-Seats.is) c.carry_seats.ensures.ok

-- ---- effects that touch no rights

pub carry_promises-requires : goal.carry_promises-requires
carry_promises-requires c =
    let w = c.args.world.now in
    promises_can (world_of w) (waiting_of w.registers.queue.now) c.in-Promises.effect (subst (λ (e : Effect). IsGoodEffect (world_of w) (effect_view e)) c.in-Promises.is c.requires.can)

pub carry_instances-requires : goal.carry_instances-requires
carry_instances-requires c =
    let w = c.args.world.now in
    instances_can (world_of w) (waiting_of w.registers.queue.now) c.in-Instances.effect (subst (λ (e : Effect). IsGoodEffect (world_of w) (effect_view e)) c.in-Instances.is c.requires.can)

pub returns-in-Promises-clause-ok : goal.returns-in-Promises-clause-ok
returns-in-Promises-clause-ok c =
    let w = c.args.world.now in
    let d = w.draft in
    subst (λ (e : Effect). OnOk c.carry_promises.result (IsCarried w (record w { registers = c.carry_promises.new.stores }) (effect_view e))) (sym c.in-Promises.is)
    (on_ok_weaker c.carry_promises.result (λ becomes. record { now = becomes (rights_in d) (seats_in d) (staging_in d); clean = c.requires.turn.clean }) c.carry_promises.ensures.ok)

pub returns-in-Promises-clause-back : goal.returns-in-Promises-clause-back
returns-in-Promises-clause-back c = record { rights = stays c.args.world.now.draft c.requires.turn.goes; registers = c.carry_promises.ensures.start; sums = refl }

pub returns-in-Instances-clause-ok : goal.returns-in-Instances-clause-ok
returns-in-Instances-clause-ok c =
    let w = c.args.world.now in
    let d = w.draft in
    subst (λ (e : Effect). OnOk c.carry_instances.result (IsCarried w (record w { registers = c.carry_instances.new.stores }) (effect_view e))) (sym c.in-Instances.is)
    (on_ok_weaker c.carry_instances.result (λ becomes. record { now = becomes (rights_in d) (seats_in d) (staging_in d); clean = c.requires.turn.clean }) c.carry_instances.ensures.ok)

pub returns-in-Instances-clause-back : goal.returns-in-Instances-clause-back
returns-in-Instances-clause-back c = record { rights = stays c.args.world.now.draft c.requires.turn.goes; registers = c.carry_instances.ensures.start; sums = refl }

pub returns-in-Labels-clause-ok : goal.returns-in-Labels-clause-ok
returns-in-Labels-clause-ok c =
    let w = c.args.world.now in
    let d = w.draft in
    subst (λ (e : Effect). OnOk c.carry_labels.result (IsCarried w (record w { registers = c.carry_labels.new.stores }) (effect_view e))) (sym c.in-Labels.is)
    (on_ok_weaker c.carry_labels.result (λ becomes. record { now = becomes (rights_in d) (seats_in d) (staging_in d); clean = c.requires.turn.clean }) c.carry_labels.ensures.ok)

pub returns-in-Labels-clause-back : goal.returns-in-Labels-clause-back
returns-in-Labels-clause-back c = record { rights = stays c.args.world.now.draft c.requires.turn.goes; registers = c.carry_labels.ensures.start; sums = refl }
