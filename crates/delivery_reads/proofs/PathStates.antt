-- The states of promises that a path meets are those of the world.
use Rattle.std.proofs.Common.{◌≡◌, ℕ, ◌≤◌, ◌<◌, Bool, true, false, if◌then◌else◌, List, length, refl, sym, ap, ◌∙◌, subst, arith}
use Rattle.std.proofs.Math.Path.{fun_ext}
use Rattle.std.proofs.lemmas.Bool.{ltb-true}
use Rattle.std.proofs.lemmas.Bool.Decides.{nat_tests}
use Rattle.std.specs.Prelude.{nat_lt}
use Rattle.delivery_turns.specs.actors.Paths.{stands_at, states_in}
use Rattle.delivery_turns.specs.promise_store.States.{StateView, pending}
use Rattle.delivery_turns.specs.promise_store.Turns.{Store, state_at}
use Rattle.registers.specs.PromiseTables.{book_of}
use Rattle.registers.proofs.Steps.{made_is, state_is}
use Rattle.delivery_turns.specs.turn_records.declared.deliveries.Notice.{Notice}
use Rattle.delivery_turns.specs.world_state.Promises.{state_of}
use Rattle.delivery_turns.specs.world_state.Worlds.{State, promises_made}
use Rattle.delivery_turns.specs.Messages.{found_or_refused, promise_states, value_at}

-- what a promise is, of a store of which the world has the book
one_state : (s : Store Notice) (n : ℕ) → states_in s n ≡ (if nat_lt n (length (book_of s).settled) then state_of (book_of s) n else pending)
one_state s n = subst (λ (m : ℕ). states_in s n ≡ (if nat_lt n m then state_of (book_of s) n else pending)) (sym (made_is s)) (by (nat_lt n s.links.made) refl)
  where
    by : (b : Bool) → nat_lt n s.links.made ≡ b → (if b then state_at s n else pending) ≡ (if b then state_of (book_of s) n else pending)
    by true lt = state_is s n (ltb-true n s.links.made lt)
    by false past = refl

pub states_are : (s : Store Notice) (w : State) → book_of s ≡ w.promises → states_in s ≡ promise_states w
states_are s w is = fun_ext (λ n. subst (λ b. states_in s n ≡ (if nat_lt n (length b.settled) then state_of b n else pending)) is (one_state s n))

-- what stands at a path of a party's, of such a store
pub value_is : (s : Store Notice) (w : State) (party path : List ℕ) → book_of s ≡ w.promises
    → value_at w party path ≡ found_or_refused path (stands_at (states_in s) w.labels party path)
unfolding value_at
value_is s w party path is = sym (ap (λ states. found_or_refused path (stands_at states w.labels party path)) (states_are s w is))

-- ---- what a promise is

pub not_made : (w : State) (n : ℕ) → promises_made w ≤ n → pending ≡ promise_states w n
not_made w n past = grind (arith, nat_tests)

pub is_made : (w : State) (n : ℕ) → n < promises_made w → state_of w.promises n ≡ promise_states w n
is_made w n made = grind (arith, nat_tests)
