use Rattle.std.proofs.Common.{ℕ, ap, refl, subst, sym}
use Rattle.std.proofs.lemmas.Result.{on_ok_weaker}
use Rattle.register_effects.specs.call_outcomes.Views.{offering_view}
use Rattle.register_effects.specs.draft_reads.Views.{rights_in, seats_in, staging_in}
use Rattle.register_effects.specs.host_world.Worlds.{world_now, world_of}
use Rattle.register_effects.specs.registers.Stores.{registers_now}
use Rattle.world_laws.specs.world_state.Worlds as worlds
use Rattle.world_laws.specs.world_state.Worlds.{after, offered_by}
use Rattle.world_effects.proofs.JoinedStores.{joined}
use Rattle.world_effects.specs.DraftOffers.{HasOffered}
use Rattle.world_effects.proofs.seat_effects.make_offer.Goals as goal

pub offer_in_draft-requires-clause-can : goal.offer_in_draft-requires-clause-can
offer_in_draft-requires-clause-can c = (
  world_of c.args.world.now,
  record { rights = refl; seats = refl; instance_is = ap (λ d. d.instance) c.details.ensures; can = c.requires.can },
)

pub returns-clause-ok : goal.returns-clause-ok
returns-clause-ok c =
    let d = c.args.world.now.draft in
    let e = worlds.offer (offering_view c.args.offering) in
    let has : HasOffered d c.offer_in_draft.new.draft (offered_by (world_of c.args.world.now) (offering_view c.args.offering)).instance (offering_view c.args.offering) = subst (λ (i : ℕ). HasOffered d c.offer_in_draft.new.draft i (offering_view c.args.offering)) (ap (λ d. d.instance) c.details.ensures) c.in_ok-seat.ensures.ok in
    on_ok_weaker c.offer.result
    (λ beside. record { now = joined c.offer_in_draft.new.draft (registers_now c.offer.new.stores) (after (world_now c.args.world.now) e) has (beside (rights_in d) (seats_in d) (staging_in d) (sym c.in_ok-seat.ensures.number)); clean = c.in_ok-seat.ensures.ok.clean })
    c.offer.ensures.ok
