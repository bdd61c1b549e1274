use Rattle.std.proofs.Common.{ap, ◌∙◌}
use Rattle.std.proofs.lemmas.List.Elements.{filter_agree}
use Rattle.rearrange.specs.Seats.{is_repeated, least}
use Rattle.rearrange.proofs.Counts.{repeated_alike}
use Rattle.rearrange.proofs.seats.least_repeated.Goals as goal

pub returns : goal.returns
returns c =
    let seats = c.args.seats.now in
    let sorted = c.args.sorted.now in
    c.least_counted.ensures ∙ ap least (filter_agree (is_repeated sorted) (is_repeated seats) (repeated_alike seats sorted c.requires.same) seats)
