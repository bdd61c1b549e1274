-- What is printed of a value is read back whole; so movements as they are printed make of a table what they make.
use Rattle.std.specs.Prelude.{◌≡◌, refl}
use Rattle.std.proofs.Common.{◌∙◌, ap}
use Rattle.fair_rows.specs.amount_math.Content.{Content}
use Rattle.fair_rows.specs.amount_math.ValueView.{IsValue, ValueView}
use Rattle.fair_rows.specs.amount_math.declared.Kind.{Kind}
use Rattle.fair_rows.specs.amount_math.declared.Kind.TheVariants.{Nat, Set, Bag}
use Rattle.delivery_laws.specs.turn_records.Values.{printed_content, printed_value}
use Rattle.fair_rows.specs.Movements.{movement_of}
use Rattle.fair_rows.specs.Values.{content_of, value_of}
use Rattle.fair_rows.proofs.Values.{whole}
use Rattle.fair_rows.specs.rights_model.Table.{Table, given, moved, taken}
use Rattle.fair_rows.specs.rights_model.declared.Movement.{Movement}
use Rattle.delivery_laws.specs.turn_records.Printed.{printed_move}

pub printed_is : (kind : Kind) (c : Content) → printed_content kind c ≡ value_of kind c
printed_is Nat c = refl
printed_is Set c = refl
printed_is Bag c = refl

pub told_content : (w : ValueView) → IsValue w.kind w.content → content_of (printed_value w) ≡ w.content
told_content w is = ap content_of (printed_is w.kind w.content) ∙ whole w.kind w.content is

pub told_moved : (t : Table) (m : Movement) → IsValue m.value.kind m.value.content → moved t (movement_of (printed_move m)) ≡ moved t m
told_moved t m is = ap (λ c. given (taken t m.from m.brand c) m.to m.brand c) (told_content m.value is)
