-- Several parts that are taken to the hand and put from there as one payment.
use Rattle.std.specs.Prelude.{ℕ, List, [], ◌∷◌, length}
use Rattle.world_state.specs.rights_model.declared.Holder.TheVariants.{Payment}
use Rattle.world_state.specs.vault_model.Flows.{Part, whole_of}
use Rattle.world_state.specs.vault_model.Lists.{CanTake, Lists, amount_of, taken}
use Rattle.world_laws.specs.Views.{put_to}

-- each part is taken to the hand
abbrev pub all_taken : Lists → ℕ → List Part → Lists
all_taken s b [] = s
all_taken s b (p ∷ ps) = all_taken (taken s p.0 b p.1) b ps

-- each can be, after those before it
abbrev pub CanTakeAll : Lists → ℕ → List Part → Type 0
CanTakeAll s b [] = Unit {0}
CanTakeAll s b (p ∷ ps) = CanTake s p.0 b p.1 × CanTakeAll (taken s p.0 b p.1) b ps

-- and all of it is put to the next payment
abbrev pub combined_by_hand : Lists → ℕ → Part → List Part → Lists
combined_by_hand s b p ps =
    let next = Payment (length s.payments) in
    put_to (all_taken s b (p ∷ ps)) next (amount_of b (whole_of p.1.kind (p ∷ ps)))
