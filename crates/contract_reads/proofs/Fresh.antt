-- How many slots there are once shares are added to them, or taken from them.
use Rattle.std.specs.Prelude.{map}
use Rattle.std.proofs.Common.{◌≡◌, ◌+◌, List, length, ap, ◌∙◌}
use Rattle.rules.specs.proposals.Gains.{raised, with_gains}
use Rattle.rules.specs.proposals.Losses.{lowered, with_losses}
use Rattle.rules.specs.proposals.ChangedShares.{further}
use Rattle.rule_laws.proofs.SlotLists.{fresh_in, further_many}
use Rattle.rules.specs.proposals.declared.allocations.Share.{Share}
use Rattle.rule_laws.proofs.world_laws.Lists.{length_append, length_map}

pub further_fresh : (slots shares : List Share) → length (further slots shares) ≡ fresh_in slots shares
further_fresh slots shares = further_many slots shares

pub gains_are : (slots shares : List Share) → length (with_gains slots shares) ≡ length slots + length (further slots shares)
gains_are slots shares = length_append (map (raised shares) slots) (further slots shares) ∙ ap (λ n. n + length (further slots shares)) (length_map (raised shares) slots)

pub losses_are : (slots shares : List Share) → length (with_losses slots shares) ≡ length slots + length (further slots shares)
losses_are slots shares = length_append (map (lowered shares) slots) (further slots shares) ∙ ap (λ n. n + length (further slots shares)) (length_map (lowered shares) slots)
