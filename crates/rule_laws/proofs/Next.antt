-- Behind the number of what is made next there is room for it.
use Rattle.std.proofs.Common.{◌≡◌, ℕ, ◌+◌, ◌<◌, nat_lt, Bool, true, false, length, Result, Ok, IfOk, refl}
use Rattle.std.proofs.lemmas.Bool.{ltb-true}
use Rattle.world_laws.specs.ertp_mint.Stocks.{most_made}
use Rattle.world_laws.specs.refusals.Codes.{limit}
use Rattle.world_laws.specs.refusals.Outcomes.{bind, ◌>>=◌, need}
use Rattle.world_laws.specs.refusals.declared.codes.Refusal.{Refusal}
use Rattle.world_laws.specs.world_state.Good.{open_slots}
use Rattle.world_laws.specs.world_state.Worlds.{State}
use Rattle.rules.specs.Words.{next_of, next_payment}

pub after_next_of : {B : Type 0} (P : B → Type 0) (made most : ℕ) (f : ℕ → Result B Refusal) → (made < most → IfOk (f made) P) → IfOk (next_of made most >>= f) P
unfolding next_of bind need
after_next_of P made most f h = by (nat_lt made most) refl
  where
    by : (b : Bool) → nat_lt made most ≡ b → IfOk (bind (bind (need b (limit most)) (λ _. Ok made)) f) P
    by true is = h (ltb-true made most is)
    by false is = tt

pub after_next_payment : {B : Type 0} (P : B → Type 0) (w : State) (f : ℕ → Result B Refusal) → (length w.rights.payments + open_slots w.seats w.rights.slots < most_made → IfOk (f (length w.rights.payments)) P) → IfOk (next_payment w >>= f) P
unfolding next_payment bind need
after_next_payment P w f h = by (nat_lt (length w.rights.payments + open_slots w.seats w.rights.slots) most_made) refl
  where
    by : (b : Bool) → nat_lt (length w.rights.payments + open_slots w.seats w.rights.slots) most_made ≡ b → IfOk (bind (bind (need b (limit most_made)) (λ _. Ok (length w.rights.payments))) f) P
    by true is = h (ltb-true _ most_made is)
    by false is = tt
