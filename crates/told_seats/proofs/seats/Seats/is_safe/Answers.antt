use Rattle.std.proofs.Common.{refl}
use Rattle.std.proofs.lemmas.Result.{IfOk-weaker}
use Rattle.told_seats.proofs.SeatTests.{both_ways, left_open, open_kept, safe_kept}
use Rattle.told_seats.proofs.seats.Seats.is_safe.Goals as goal

pub returns-in-Open : goal.returns-in-Open
returns-in-Open c =
    IfOk-weaker c.is_covered_by.result _ _
    (λ is covers i t r.
    let kept = open_kept c.args.self.now.seats.items i.now.seats c.args.number t c.in-Some.ensures c.in-Open.is in
    both_ways (covers kept.proposal.edition kept.proposal.want_form kept.proposal.give_form i r) (safe_kept i.now.table kept))
    c.is_covered_by.ensures

pub returns-in-Exited : goal.returns-in-Exited
returns-in-Exited c = λ i t r. (λ h o. absurd (left_open c.args.self.now.seats.items i.now.seats c.args.number t c.in-Some.ensures c.in-Exited.is o), λ h. refl)
