-- The movements that rows tell, and which payments they name.
use Rattle.std.specs.Prelude.{ℕ, ◌==◌, ◌||◌, Bool, false, List, [], ◌∷◌}
use Rattle.std.specs.List.{flat_map, list_any}
use Rattle.turn_rows.specs.amount_math.declared.Kind.TheVariants.{Nat}
use Rattle.turn_rows.specs.rights_model.declared.Holder.{Holder}
use Rattle.turn_rows.specs.rights_model.declared.Holder.TheVariants.{Payment}
use Rattle.turn_rows.specs.rights_model.declared.Movement.{Movement}
use Rattle.turn_rows.specs.Turns.{Event, moved, Move}
use Rattle.fair_rows.specs.Values.{content_of}

-- tables and totals look at the content alone, so the kind that stands here counts for nothing
abbrev pub movement_of : Move → Movement
movement_of m = record { brand = m.brand; from = m.from; to = m.to; value = record { kind = Nat; content = content_of m.value } }

abbrev pub movements_at : Event → List Movement
movements_at (moved m) = movement_of m ∷ []
movements_at _ = []

abbrev pub movements_in : List Event → List Movement
movements_in es = flat_map movements_at es

abbrev pub is_payment_at : ℕ → Holder → Bool
is_payment_at p (Payment n) = n == p
is_payment_at p _ = false

-- some movement takes from the payment
abbrev pub takes_from : ℕ → List Movement → Bool
takes_from p ms = list_any (λ m. is_payment_at p m.from) ms

-- some movement takes from it or gives to it
abbrev pub names : ℕ → List Movement → Bool
names p ms = list_any (λ m. is_payment_at p m.from || is_payment_at p m.to) ms
