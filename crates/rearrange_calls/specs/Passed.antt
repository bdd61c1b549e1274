-- Touched seats that passed the tests of a rearrangement.
use Rattle.std.specs.Prelude.{◌<◌, ◌≤◌, ◌^◌, List, All, length, map}
use Rattle.rules.specs.call_arguments.Numbers.{AreApart}
use Rattle.rules.specs.proposals.Shares.{most_shares}
use Rattle.rules.specs.proposals.declared.plans.Touched.{Touched}
use Rattle.rearrange_calls.specs.Met.{IsMet}

-- no two are one, none has over 64 slots after, each slot keeps its brand and kind, and they are below 2^32
pub record ArePassed (touched : List Touched) : Type 0 where
  pub apart : AreApart (map (λ t. t.seat) touched)
  pub met : All IsMet touched
  pub small : All (λ t. length t.after ≤ most_shares) touched
  pub few : length touched < 2 ^ 32
