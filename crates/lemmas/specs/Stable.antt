-- Facts that can be told of what was shown to be so, though they may have many proofs.
pub record IsStable (A : Type 0) : Type 0 where
  pub told : ∥ A ∥₁ → A
