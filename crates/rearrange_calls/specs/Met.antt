-- Slots that keep their brands and kinds.
use Rattle.rules.specs.proposals.OfferSafety.{MeetSlots}
use Rattle.rules.specs.proposals.declared.plans.Touched.{Touched}

-- what a seat has after is of the brand and the kind of the slot before, where there was one
abbrev pub IsMet : Touched → Type 0
IsMet t = MeetSlots t.before t.after
