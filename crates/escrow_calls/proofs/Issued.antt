-- What is out of brands, as a store has it and as the lists do.
use Rattle.std.proofs.Common.{◌≡◌, ℕ, List, length, map}
use Rattle.refusals.specs.amount_math.Content.{nothing}
use Rattle.rules.specs.ertp_mint.Circulating.{CirculationView}
use Rattle.rules.proofs.lemmas.ListEdits.{length_map}
use Rattle.ertp_calls.proofs.vault.HandLaws.{none_given_up}
use Rattle.ertp_calls.specs.vault.Drafts.{DraftState, IsClean, IsValid, given_at}
use Rattle.ertp_calls.specs.vault.Memory.{supply_of}

pub supplies_counted : (cs : List CirculationView) → length (map supply_of cs) ≡ length cs
supplies_counted cs = length_map supply_of cs

pub nothing_stored : (d : DraftState) → IsValid d → IsClean d → (b : ℕ) → given_at d b ≡ nothing
nothing_stored d valid clean b = none_given_up d valid b (clean.hand b)
