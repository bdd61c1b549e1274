use Rattle.std.proofs.Common.{◌≡◌, ◌<◌, List, All, length, sym, ap, ◌∙◌, subst}
use Rattle.std.proofs.lemmas.Result.{IfOk-weaker}
use Rattle.world_reads.specs.host_world.Worlds.{world_of}
use Rattle.rearrange.specs.Seats as given
use Rattle.rules.specs.Rearranging.{states_for}
use Rattle.rules.specs.proposals.declared.plans.SeatState.{SeatState}
use Rattle.rearrange_calls.specs.TransferStates.{AreStatesFor}
use Rattle.rearrange_calls.proofs.Once.{AreSame, all_once, is_in, states_once}
use Rattle.rearrange_calls.proofs.transfer_states.states_for.Goals as goal

pub states_of-requires-clause-made : goal.states_of-requires-clause-made
states_of-requires-clause-made c =
    let w = world_of c.args.world.now in
    let same : AreSame c.each_once-once.result.items c.args.seats.now = λ n. c.each_once-once.ensures.same n ∙ ap (is_in n) (c.in_ok-listed.ensures.items_if_clones_equal (λ x y e. e)) in
    subst (All (λ n. n < length w.seats)) (sym c.as_slice.ensures.value) (all_once (λ n. n < length w.seats) c.each_once-once.result.items c.args.seats.now same c.requires)

pub returns : goal.returns
returns c =
    let w = world_of c.args.world.now in
    let same : AreSame c.as_slice.result.now c.args.seats.now = λ n. ap (is_in n) c.as_slice.ensures.value ∙ c.each_once-once.ensures.same n ∙ ap (is_in n) (c.in_ok-listed.ensures.items_if_clones_equal (λ x y e. e)) in
    IfOk-weaker c.states_of.result (λ (ss : List SeatState). ss ≡ states_for w c.as_slice.result.now) (AreStatesFor w c.args.seats.now)
    (λ ss is. ap given.state_of is ∙ states_once w c.as_slice.result.now c.args.seats.now same) c.states_of.ensures
