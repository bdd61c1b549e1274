-- What the code's effects are in the world.
use Rattle.std.specs.Prelude.{List, [], ◌∷◌, map}
use Rattle.registers.specs.Makers.{maker_view}
use Rattle.rules.specs.brands.IssuerRecords.{issuer_of}
use Rattle.rules.specs.actors.Facets.{facet_view}
use Rattle.rules.specs.turn_stores.Details.{details_view}
use Rattle.refusals.specs.host_data.View.{tree, trees}
use Rattle.rules.specs.promise_store.States.{settlement_view}
use Rattle.registers.specs.turn_records.Views.{call_view, cause_view, wakeup_view}
use Rattle.registers.specs.world_state.Worlds as worlds
use Rattle.call_outcomes.specs.Moves.{HasShape, moves_view}
use Rattle.call_outcomes.specs.declared.effects.Effect.{Effect}
use Rattle.call_outcomes.specs.declared.effects.Effect.TheVariants as effects
use Rattle.call_outcomes.specs.declared.effects.InstancesEffect.{InstancesEffect}
use Rattle.call_outcomes.specs.declared.effects.InstancesEffect.TheVariants as instances
use Rattle.call_outcomes.specs.declared.effects.LabelsEffect.{LabelsEffect}
use Rattle.call_outcomes.specs.declared.effects.LabelsEffect.TheVariants as labels
use Rattle.call_outcomes.specs.declared.effects.Offering.{Offering}
use Rattle.call_outcomes.specs.declared.effects.PromisesEffect.{PromisesEffect}
use Rattle.call_outcomes.specs.declared.effects.PromisesEffect.TheVariants as promises
use Rattle.call_outcomes.specs.declared.effects.RightsEffect.{RightsEffect}
use Rattle.call_outcomes.specs.declared.effects.RightsEffect.TheVariants as rights
use Rattle.call_outcomes.specs.declared.effects.SeatsEffect.{SeatsEffect}
use Rattle.call_outcomes.specs.declared.effects.SeatsEffect.TheVariants as seats
use Rattle.call_outcomes.specs.declared.effects.Starting.{Starting}

abbrev pub rights_view : RightsEffect → worlds.Effect
rights_view (rights.NewPurse brand) = worlds.new_purse brand
rights_view (rights.EmptyPayment brand) = worlds.empty_payment brand
rights_view (rights.Moves ms) = worlds.moves (moves_view ms)
rights_view (rights.Stage seat rows) = worlds.stage seat rows
rights_view (rights.Unstage seat) = worlds.unstage seat
rights_view rights.EndStaging = worlds.end_staging

abbrev pub offering_view : Offering → worlds.Offering
offering_view o = record {
  invitation = o.invitation;
  proposal = o.proposal;
  burn = o.burn;
  escrows = o.escrows.items;
  arguments = tree o.arguments;
}

abbrev pub seats_view : SeatsEffect → worlds.Effect
seats_view (seats.NewBrand brand maker) = worlds.new_brand brand (maker_view maker)
seats_view (seats.Offer o) = worlds.offer (offering_view o)
seats_view (seats.EmptySeat i rule) = worlds.empty_seat i rule
seats_view (seats.Exit seat cause) = worlds.exit seat (cause_view cause)
seats_view (seats.Invite d) = worlds.invite (details_view d)

abbrev pub promises_view : PromisesEffect → worlds.Effect
promises_view (promises.Resolve p s) = worlds.resolve p (settlement_view s)
promises_view (promises.Send s) = worlds.send s.instance s.target s.method (trees s.arguments.items)
promises_view (promises.When a) = worlds.when a.instance a.promise a.function (tree a.held)
promises_view (promises.Wake t w) = worlds.wake t (wakeup_view w)
promises_view (promises.SetTime t) = worlds.set_time t

abbrev pub starting_view : Starting → worlds.Starting
starting_view s = record {
  installation = s.installation;
  issuers = s.issuers;
  terms = tree s.terms;
  private_arguments = tree s.private_arguments;
}

abbrev pub instances_view : InstancesEffect → worlds.Effect
instances_view (instances.Install m) = worlds.install m
instances_view (instances.Start s) = worlds.start (starting_view s)
instances_view (instances.AddIssuer i keyword brand) = worlds.add_issuer i (issuer_of keyword brand)
instances_view (instances.Publish i facet) = worlds.publish i (tree facet)
instances_view (instances.KeepState i values) = worlds.keep_state i (trees values.items)
instances_view (instances.Stop i) = worlds.stop i
instances_view (instances.Halt i) = worlds.halt i

abbrev pub labels_view : LabelsEffect → worlds.Effect
labels_view (labels.MakeFacet f) = worlds.make_facet (facet_view f)
labels_view (labels.BindLabel party label value) = worlds.bind_label party label (tree value)
labels_view (labels.NoteCall c) = worlds.note_call (call_view c)

abbrev pub effect_view : Effect → worlds.Effect
effect_view (effects.Rights e) = rights_view e
effect_view (effects.Seats e) = seats_view e
effect_view (effects.Promises e) = promises_view e
effect_view (effects.Instances e) = instances_view e
effect_view (effects.Labels e) = labels_view e

abbrev pub effect_views : List Effect → List worlds.Effect
effect_views es = map effect_view es

-- ---- the movements that are planned are of the shape that their way asks for

abbrev pub IsRightsShaped : RightsEffect → Type 0
IsRightsShaped (rights.Moves ms) = HasShape ms
IsRightsShaped _ = Unit {0}

abbrev pub IsShaped : Effect → Type 0
IsShaped (effects.Rights e) = IsRightsShaped e
IsShaped _ = Unit {0}

abbrev pub AreShaped : List Effect → Type 0
AreShaped [] = Unit {0}
AreShaped (e ∷ es) = IsShaped e × AreShaped es
