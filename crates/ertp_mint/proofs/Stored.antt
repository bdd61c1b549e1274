-- What goes into a store and comes out of it stays a value of its kind.
use Rattle.std.proofs.Common.{refl, subst, sym, arith}
use Rattle.amount_math.specs.Content.{Content, count-difference, difference, sum-difference}
use Rattle.amount_math.specs.KindLaws.{value_of_part}
use Rattle.amount_math.specs.ValueView.{IsValue, ValueView}
use Rattle.amount_math.specs.declared.Kind.{Kind}
use Rattle.ertp_mint.specs.Balances.{BalanceView, ComesOut, GoesIn, HasRoomFor, with_taken}

pub value_left : (kind : Kind) (a b : Content) → IsValue kind a → IsValue kind (difference a b)
value_left kind a b value = value_of_part kind a (difference a b) (record { each = λ k. omega (arith, count-difference a b k) }) value

-- what was taken out of a store goes in again
pub goes_back : (s : BalanceView) (w : ValueView) → IsValue s.amount.value.kind s.amount.value.content → HasRoomFor (with_taken s w.content) w.content → ComesOut s w → GoesIn (with_taken s w.content) (record { brand = s.amount.brand; value = w })
goes_back s w value room out = record {
  meet = record { brand = refl; kind = out.kind };
  value = subst (λ c. IsValue s.amount.value.kind c) (sym (sum-difference s.amount.value.content w.content out.has)) value;
  room = room;
}
