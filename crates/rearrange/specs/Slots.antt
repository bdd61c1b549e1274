-- What shares are tested for that are taken from slots, or added to them (Zoe; the codes are our own).
use Rattle.std.specs.Prelude.{◌||◌, Bool, not, List, [], ◌∷◌, Result, Ok}
use Rattle.std.specs.List.{find, list_all}
use Rattle.proposals.specs.Gains.{together}
use Rattle.proposals.specs.Losses.{held_under}
use Rattle.proposals.specs.declared.allocations.Share.{Share}
use Rattle.proposals.specs.declared.offers.Proposal.{Proposal}
use Rattle.refusals.specs.Codes.{not_enough}
use Rattle.refusals.specs.Outcomes.{◌>>◌, none_such}
use Rattle.refusals.specs.declared.codes.Refusal.{Refusal}
use Rattle.value_tests.specs.Tests.{has, overlap_free, value_fits}

-- ---- what slots cover

-- the slot of a share's keyword has what the share says
abbrev pub is_covered : List Share → Share → Bool
is_covered slots share = has (held_under slots share) share.amount.value

abbrev pub are_covered : List Share → List Share → Bool
are_covered slots shares = list_all (is_covered slots) shares

-- slots cover all that is wanted, or all that is given
unfoldable pub is_safe : Proposal → List Share → Bool
is_safe p slots = are_covered slots p.want || are_covered slots p.give

-- ---- what is taken from them

abbrev pub shortfall : List Share → Share → Refusal
shortfall slots share = not_enough (held_under slots share) share.amount.value

-- shares can be taken: the first of which the slot has less is refused
unfoldable pub can_take : List Share → List Share → Result (Unit {0}) Refusal
can_take slots losses = none_such (find (λ r. not (is_covered slots r)) losses) (shortfall slots)

-- ---- what is added to them

-- each share passes a test: the first that doesn't is refused
abbrev pub each_passes : (Share → Result (Unit {0}) Refusal) → List Share → Result (Unit {0}) Refusal
each_passes test [] = Ok tt
each_passes test (r ∷ rs) = test r >> each_passes test rs

-- a share and the slot of its keyword have no key of a set in common
abbrev pub is_apart : List Share → Share → Result (Unit {0}) Refusal
is_apart slots share = overlap_free share.amount.value.kind (together slots share)

-- the two together are a value
abbrev pub fits_slot : List Share → Share → Result (Unit {0}) Refusal
fits_slot slots share = value_fits share.amount.value.kind (together slots share)

-- shares can be added: no share has a key that its slot has, then none makes too much
unfoldable pub can_give : List Share → List Share → Result (Unit {0}) Refusal
can_give slots gains = each_passes (is_apart slots) gains >> each_passes (fits_slot slots) gains
