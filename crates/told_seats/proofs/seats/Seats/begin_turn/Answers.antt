use Rattle.std.proofs.Common.{sym, ap}
use Rattle.told_seats.specs.DueViews.{dues_view}
use Rattle.told_seats.proofs.seats.Seats.begin_turn.Goals as goal

pub returns-clause-told : goal.returns-clause-told
returns-clause-told c = λ s before. record { seats = before.seats; safe = λ n away o. before.safe n o; due = sym (ap dues_view before.none_due); offer = sym c.is_offer-self.ensures }
