-- Objects that the arguments of a contract's call name were made.
use Rattle.std.proofs.Common.{◌≡◌, ℕ, ◌<◌, true, List, length, arith}
use Rattle.std.proofs.lemmas.Bool.{false≢true}
use Rattle.rules.proofs.call_arguments.Made.{read_made}
use Rattle.rules.specs.call_arguments.Arguments.{IsMade, arg, is_kind}
use Rattle.refusals.specs.amount_math.declared.Kind.TheVariants.{Nat}
use Rattle.contract_reads.specs.Known.{AreKnown}
use Rattle.host_data.specs.Tree.{Tree}
use Rattle.host_data.specs.declared.data.Obj.{Obj}
use Rattle.host_data.specs.declared.data.ObjKind.{ObjKind}
use Rattle.host_data.specs.declared.data.ObjKind.TheVariants as kinds
use Rattle.rules.specs.world_state.Known.{IsKnownTo, known_as}
use Rattle.rules.specs.world_state.Worlds.{State}

-- so many objects of a kind were made: those of its place that an instance may name have lesser numbers
pub record CountsKnown (w : State) (i : ℕ) (kind : ObjKind) (made : ℕ) : Type 0 where
  pub below : (o : Obj) → is_kind kind o.kind ≡ true → known_as i w o.kind o.number → o.number < made

known_made : (w : State) (i : ℕ) (kind : ObjKind) (made : ℕ) (t : Tree) → CountsKnown w i kind made → IsKnownTo w i t → IsMade kind made t
known_made w i kind made t counts known = read_made (λ (o : Obj). known_as i w o.kind o.number) kind made counts.below 0 t known.objects

seat_below : (w : State) (i : ℕ) (kind : ObjKind) (n : ℕ) → is_kind kinds.Zseat kind ≡ true → known_as i w kind n → n < length w.seats
seat_below w i kinds.Zseat n is known = known.made
seat_below w i _ n is known = absurd (false≢true is)

issuer_below : (w : State) (i : ℕ) (kind : ObjKind) (n : ℕ) → is_kind kinds.Issuer kind ≡ true → known_as i w kind n → n < length w.brands
issuer_below w i kinds.Issuer n is known = known
issuer_below w i _ n is known = absurd (false≢true is)

brand_below : (w : State) (i : ℕ) (kind : ObjKind) (n : ℕ) → is_kind (kinds.Brand Nat) kind ≡ true → known_as i w kind n → n < length w.brands
brand_below w i (kinds.Brand k) n is known = known.made
brand_below w i _ n is known = absurd (false≢true is)

timer_below : (w : State) (i : ℕ) (kind : ObjKind) (n : ℕ) → is_kind kinds.Timer kind ≡ true → known_as i w kind n → n < 1
timer_below w i kinds.Timer n is known = omega (arith, known)
timer_below w i _ n is known = absurd (false≢true is)

payment_below : (w : State) (i : ℕ) (kind : ObjKind) (n : ℕ) → is_kind kinds.Payment kind ≡ true → known_as i w kind n → n < length w.rights.payments
payment_below w i kinds.Payment n is known = known
payment_below w i _ n is known = absurd (false≢true is)

pub seats_count : (w : State) (i : ℕ) → CountsKnown w i kinds.Zseat (length w.seats)
seats_count w i = record { below = λ o is known. seat_below w i o.kind o.number is known }

pub payments_count : (w : State) (i : ℕ) → CountsKnown w i kinds.Payment (length w.rights.payments)
payments_count w i = record { below = λ o is known. payment_below w i o.kind o.number is known }

pub seat_known : (w : State) (place : ℕ) (args : List Tree) → AreKnown w args → IsMade kinds.Zseat (length w.seats) (arg place args)
seat_known w place args known = known_made w known.caller kinds.Zseat (length w.seats) (arg place args) (seats_count w known.caller) (known.each place)

pub issuer_known : (w : State) (place : ℕ) (args : List Tree) → AreKnown w args → IsMade kinds.Issuer (length w.brands) (arg place args)
issuer_known w place args known = known_made w known.caller kinds.Issuer (length w.brands) (arg place args) (record { below = λ o is at. issuer_below w known.caller o.kind o.number is at }) (known.each place)

pub brand_known : (w : State) (place : ℕ) (args : List Tree) → AreKnown w args → IsMade (kinds.Brand Nat) (length w.brands) (arg place args)
brand_known w place args known = known_made w known.caller (kinds.Brand Nat) (length w.brands) (arg place args) (record { below = λ o is at. brand_below w known.caller o.kind o.number is at }) (known.each place)

pub timer_known : (w : State) (place : ℕ) (args : List Tree) → AreKnown w args → IsMade kinds.Timer 1 (arg place args)
timer_known w place args known = known_made w known.caller kinds.Timer 1 (arg place args) (record { below = λ o is at. timer_below w known.caller o.kind o.number is at }) (known.each place)

pub payment_known : (w : State) (place : ℕ) (args : List Tree) → AreKnown w args → IsMade kinds.Payment (length w.rights.payments) (arg place args)
payment_known w place args known = known_made w known.caller kinds.Payment (length w.rights.payments) (arg place args) (payments_count w known.caller) (known.each place)
