-- Why a change of allocations is refused, each fault as the refusal that tells it.
use Rattle.std.specs.Prelude.{pos}
use Rattle.proposals.specs.Shares.{most_shares}
use Rattle.rearrange.specs.declared.plans.PlanFault.{PlanFault}
use Rattle.rearrange.specs.declared.plans.PlanFault.TheVariants as plan
use Rattle.rearrange.specs.declared.seats.SeatsFault.{SeatsFault}
use Rattle.rearrange.specs.declared.seats.SeatsFault.TheVariants as seats
use Rattle.rearrange.specs.declared.sums.Unkept as plans
use Rattle.refusals.specs.Codes.{capped, limit, not_offer_safe, one_seat, repeated_seat, seat_exited, staged_left_out, wrong_instance}
use Rattle.refusals.specs.declared.codes.Refusal.{Refusal}
use Rattle.refusals.specs.declared.codes.Refusal.TheVariants as codes
use Rattle.refusals.specs.declared.codes.Unkept.{Unkept}
use Rattle.refusals.specs.declared.stops.Stop.{Stop}
use Rattle.refusals.specs.declared.stops.Stop.TheVariants.{NoMemory, Refused}

-- the element of a brand that is not kept, and how many there are before and after
abbrev pub unkept_told : plans.Unkept → Unkept
unkept_told u = record {
  brand = u.brand;
  element = u.element;
  before = pos (capped u.before);
  after = pos (capped u.after);
}

abbrev pub seats_told : SeatsFault → Refusal
seats_told (seats.WrongInstance seat) = wrong_instance seat
seats_told seats.OneSeat = one_seat
seats_told (seats.RepeatedSeat seat) = repeated_seat seat
seats_told (seats.SeatExited seat) = seat_exited seat
seats_told (seats.StagedLeftOut seat) = staged_left_out seat

abbrev pub plan_told : PlanFault → Stop
plan_told (plan.Seats fault) = Refused (seats_told fault)
plan_told (plan.NotConserved unkept) = Refused (codes.NotConserved (unkept_told unkept))
plan_told (plan.NotOfferSafe seat) = Refused (not_offer_safe seat)
plan_told plan.Limit = Refused (limit most_shares)
plan_told plan.NoMemory = NoMemory
