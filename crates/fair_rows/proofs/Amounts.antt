-- An amount is what its JSON reads as, and so is each amount of a record.
use Rattle.std.proofs.Common.{◌<◌, ◌^◌, ℕ, List, [], ◌∷◌, map, sym, subst, arith}
use Rattle.std.proofs.lemmas.List.Elements.{recursion_from_All}
use Rattle.std.specs.List.{AllByRecursion}
use Rattle.turn_rows.specs.amount_math.Content.{Content, entries, unit}
use Rattle.turn_rows.specs.amount_math.Entries.{IsEntry}
use Rattle.turn_rows.proofs.amount_math.Listed.{entries_are}
use Rattle.turn_rows.specs.amount_math.ValueView.{IsValue}
use Rattle.turn_rows.specs.amount_math.declared.Kind.{Kind}
use Rattle.turn_rows.specs.amount_math.declared.Kind.TheVariants.{Nat, Set, Bag}
use Rattle.turn_rows.specs.rights_model.Table.{Table, holds}
use Rattle.turn_rows.specs.rights_model.declared.Holder.{Holder}
use Rattle.turn_rows.specs.Rows.{amount_json, amounts_json}
use Rattle.turn_rows.specs.Turns.{Answer, counted, key, KeywordAmount, Value}
use Rattle.turn_rows.proofs.Ranges.{IsElement}
use Rattle.turn_rows.proofs.Ranges as wide
use Rattle.turn_rows.proofs.Read.{amount_read}
use Rattle.fair_rows.specs.Amounts.{EachMember, IfAmount, IfOkAnswer, IsPrinted}
use Rattle.fair_rows.specs.Strict.{IsAmountOf}
use Rattle.fair_rows.specs.Values.{value_of}

-- ---- numbers in values

keys_wide : (es : List (List ℕ × ℕ)) → AllByRecursion IsElement (map (λ e. key e.0) es)
keys_wide [] = tt
keys_wide (e ∷ es) = (tt, keys_wide es)

counts_wide : (es : List (List ℕ × ℕ)) → AllByRecursion IsEntry es → AllByRecursion IsElement (map (λ e. counted e.0 e.1) es)
counts_wide [] h = tt
counts_wide (e ∷ es) h = (omega (arith, h.0.bounded), counts_wide es h.1)

value_wide : (kind : Kind) (c : Content) → IsValue kind c → wide.IsValue (value_of kind c)
value_wide Nat c is = omega (arith, is.fits.each unit)
value_wide Set c is = keys_wide (entries c)
value_wide Bag c is = counts_wide (entries c) (recursion_from_All IsEntry (entries c) (entries_are c is.keyed.keys (λ k. omega (arith, is.fits.each k))).each)

-- ---- amounts

-- what holds of a brand and a value holds of what their amount reads as
pub if_amount : (P : ℕ → Value → Type 0) (c : Content) (b : ℕ) (v : Value) → b < 2 ^ 128 → IsPrinted c v → P b v → IfAmount P (amount_json b v)
if_amount P c b v few printed so same =
    let read = amount_read b v few (subst wide.IsValue (sym printed.is) (value_wide printed.kind c printed.value)) in
    subst (λ (p : ℕ × Value). P p.0 p.1) (λ i. (sym read.0 i, sym read.1 i)) so

pub if_answer : (P : ℕ → Value → Type 0) (t : Table) (h : Holder) (b : ℕ) (a : Answer) → b < 2 ^ 128 → (is : IsAmountOf t h b a) → P b is.value → IfOkAnswer (IfAmount P) a
if_answer P t h b a few is so = subst (IfOkAnswer (IfAmount P)) (sym is.is) (if_amount P (holds t h b) b is.value few is.printed so)

pub each_member : (P : List ℕ → ℕ → Value → Type 0) (amounts : List KeywordAmount) → AllByRecursion (λ (a : KeywordAmount). IfAmount (P a.keyword) (amount_json a.brand a.value)) amounts → EachMember (λ keyword. IfAmount (P keyword)) (amounts_json amounts)
each_member P [] all = tt
each_member P (a ∷ amounts) all = (all.0, each_member P amounts all.1)

-- and the other way round
pub amount_there : (P : ℕ → Value → Type 0) (b : ℕ) (v : Value) → b < 2 ^ 128 → wide.IsValue v → IfAmount P (amount_json b v) → P b v
amount_there P b v few fits is =
    let read = amount_read b v few fits in
    subst (λ (p : ℕ × Value). P p.0 p.1) (λ i. (read.0 i, read.1 i)) (is (λ i. amount_json (sym read.0 i) (sym read.1 i)))
