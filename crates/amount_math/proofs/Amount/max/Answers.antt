use Rattle.std.proofs.Common.{inl, inr, refl, sym}
use Rattle.amount_math.specs.Content.{Contains-refl}
use Rattle.amount_math.proofs.Amount.max.Goals as goal

pub returns-in-Ok-clause-ok : goal.returns-in-Ok-clause-ok
returns-in-Ok-clause-ok c = elim c.in-Ok.ensures.ok [
  | inl h ↦ rw h.1 (refl, record { one_of = inl refl; has_left = Contains-refl _; has_right = c.is_gte-is_greatest.ensures.0 h.0 })
  | inr h ↦ rw h.1 (sym (c.in_default.ensures.ok refl), record { one_of = inr refl; has_left = c.is_gte-is_other.ensures.0 h.0; has_right = Contains-refl _ })
]
