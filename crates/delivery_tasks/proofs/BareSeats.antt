-- Effects of which none writes movements of its own are of the shape that is asked.
use Rattle.std.specs.Prelude.{cond, is_none}
use Rattle.std.specs.List.{AllByRecursion}
use Rattle.std.proofs.Common.{◌≡◌, ℕ, Bool, true, false, List, [], ◌∷◌, ◌++◌, sym, subst}
use Rattle.world_reads.specs.call_outcomes.Views.{AreShaped, IsShaped, effect_view, effect_views}
use Rattle.world_reads.specs.call_outcomes.declared.effects.Effect.{Effect}
use Rattle.world_reads.specs.call_outcomes.declared.effects.Effect.TheVariants as effects
use Rattle.world_reads.specs.call_outcomes.declared.effects.RightsEffect.TheVariants as rights
use Rattle.delivery_turns.specs.rules.Traces.{all_open}
use Rattle.delivery_turns.specs.Tasks.{exit_if_open, exits_with, halt_with}
use Rattle.delivery_turns.specs.turn_rows.Causes.{Cause}
use Rattle.delivery_turns.specs.world_state.Worlds as worlds
use Rattle.delivery_turns.specs.world_state.Worlds.{State, exit, halt, seat_at}

-- it writes no movements of its own
abbrev pub IsBare : worlds.Effect → Type 0
IsBare (worlds.moves ms) = ⊥
IsBare _ = Unit {0}

abbrev pub AreBare : List worlds.Effect → Type 0
AreBare es = AllByRecursion IsBare es

one_shaped : (e : Effect) → IsBare (effect_view e) → IsShaped e
one_shaped (effects.Rights (rights.Moves ms)) bare = absurd bare
one_shaped (effects.Rights (rights.NewPurse b)) bare = tt
one_shaped (effects.Rights (rights.EmptyPayment b)) bare = tt
one_shaped (effects.Rights (rights.Stage s rows)) bare = tt
one_shaped (effects.Rights (rights.Unstage s)) bare = tt
one_shaped (effects.Rights rights.EndStaging) bare = tt
one_shaped (effects.Seats e) bare = tt
one_shaped (effects.Promises e) bare = tt
one_shaped (effects.Instances e) bare = tt
one_shaped (effects.Labels e) bare = tt

pub all_shaped : (es : List Effect) → AreBare (effect_views es) → AreShaped es
all_shaped [] bare = tt
all_shaped (e ∷ es) bare = (one_shaped e bare.0, all_shaped es bare.1)

pub both_bare : (es fs : List worlds.Effect) → AreBare es → AreBare fs → AreBare (es ++ fs)
both_bare [] fs h k = k
both_bare (e ∷ es) fs h k = (h.0, both_bare es fs h.1 k)

pub exits_bare : (cause : Cause) (seats : List ℕ) → AreBare (exits_with cause seats)
exits_bare cause [] = tt
exits_bare cause (s ∷ ss) = (tt, exits_bare cause ss)

pub halts_bare : (cause : Cause) (w : State) (i : ℕ) → AreBare (halt_with cause w i)
halts_bare cause w i = both_bare (exits_with cause (all_open w i)) (halt i ∷ []) (exits_bare cause (all_open w i)) (tt, tt)

pub open_bare : (w : State) (seat : ℕ) (cause : Cause) → AreBare (exit_if_open w seat cause)
open_bare w seat cause = by (is_none (seat_at w.seats seat).last)
  where
    by : (b : Bool) → AreBare (cond b (exit seat cause ∷ []) [])
    by true = (tt, tt)
    by false = tt

pub open_shaped : (es : List Effect) (w : State) (seat : ℕ) (cause : Cause) → effect_views es ≡ exit_if_open w seat cause → AreShaped es
open_shaped es w seat cause is = all_shaped es (subst AreBare (sym is) (open_bare w seat cause))

pub halting_shaped : (es : List Effect) (cause : Cause) (w : State) (i : ℕ) → effect_views es ≡ halt_with cause w i → AreShaped es
halting_shaped es cause w i is = all_shaped es (subst AreBare (sym is) (halts_bare cause w i))
