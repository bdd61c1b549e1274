use Rattle.std.proofs.Common.{ap, map, List, ◌∙◌}
use Rattle.std.proofs.lemmas.List.Elements.{filter_agree}
use Rattle.proposals.specs.declared.plans.SeatState.{SeatState}
use Rattle.rearrange.specs.Seats.{is_left_out, least}
use Rattle.rearrange.proofs.Counts.{left_out_alike}
use Rattle.rearrange.proofs.seats.least_left_out.Goals as goal

pub returns : goal.returns
returns c =
    let instance = c.args.instance in
    let seats = c.args.seats.now in
    let sorted = c.args.sorted.now in
    c.least_unlisted.ensures ∙ ap (λ (ss : List SeatState). least (map (λ s. s.seat) ss)) (filter_agree (is_left_out instance sorted) (is_left_out instance seats) (left_out_alike instance seats sorted c.requires.same) c.args.states.now)
