-- A share beside the slot that it is to be taken from.
use Rattle.std.specs.Prelude.{List, Result}
use Rattle.rearrange.specs.Slots.{is_covered, shortfall}
use Rattle.proposals.specs.declared.allocations.Share.{Share}
use Rattle.refusals.specs.Outcomes.{need}
use Rattle.refusals.specs.declared.codes.Refusal.{Refusal}

-- the slot has it, or is told to have less
abbrev pub takes_share : List Share → Share → Result (Unit {0}) Refusal
takes_share slots r = need (is_covered slots r) (shortfall slots r)
