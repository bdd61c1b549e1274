-- A text that passed a range of whole numbers from a number on is a numeral, and its number lies in
-- the range.
use Rattle.std.proofs.Common.{◌≡◌, ◌≤◌, ap, ℕ, Bool, true, false, List, [], ◌∷◌, Some, None, refl, sym, subst, arith, ◌==◌, cond, drop}
use Rattle.std.specs.Prelude.{unwrap_or, pos}
use Rattle.std.specs.Str.Parse.{IsNumeral, digits_value, starts_with_minus, without_leading_plus}
use Rattle.std.proofs.lemmas.Bool.{ne_eqb}
use Rattle.std.proofs.lemmas.Str.Parse.{digit_from_value}
use Rattle.std.proofs.lemmas.Int.{ints}
use Rattle.clap.specs.Lexer.{without_minus}
use Rattle.clap.specs.Values.{IsSignedIn}
use Rattle.command_words.specs.Words.{number_of_text}

-- the text is a numeral, after a plus that may stand first, of a number from `low` to `high`
pub record IsNumberIn (low high : ℕ) (text : List ℕ) : Type 0 where
  pub numeral : IsNumeral 10 (without_leading_plus text)
  pub least : low ≤ number_of_text text
  pub most : number_of_text text ≤ high

without_minus-cond : (t : List ℕ) → without_minus t ≡ cond (starts_with_minus t) (drop 1 t) t
without_minus-cond [] = refl
without_minus-cond (x ∷ xs) = go (x == 45)
  where
    go : (b : Bool) → unwrap_or (cond b (Some xs) None) (x ∷ xs) ≡ cond b xs (x ∷ xs)
    go true = refl
    go false = refl

no_plus : (ds : List ℕ) → IsNumeral 10 ds → without_leading_plus ds ≡ ds
no_plus [] h = refl
no_plus (d ∷ ds) h =
    let plus : (d == 43) ≡ false = ne_eqb _ _ (λ e. omega (arith, digit_from_value d h.1.0)) in
    ap (λ (b : Bool). drop (cond b 1 0) (d ∷ ds)) plus

pub number_in_range : (low high : ℕ) (t : List ℕ) → IsSignedIn (pos low) (pos high) t → IsNumberIn low high (without_minus t)
number_in_range low high t passed = subst (IsNumberIn low high) (sym (without_minus-cond t)) (go (starts_with_minus t) refl)
  where
    go : (b : Bool) → starts_with_minus t ≡ b → IsNumberIn low high (cond (starts_with_minus t) (drop 1 t) t)
    go true minus =
        let numeral : IsNumeral 10 (drop 1 t) = rw minus at passed.0 in
        let low_ok = rw minus at passed.2 in
        let same = no_plus (drop 1 t) numeral in
        let least : low ≤ digits_value 10 (drop 1 t) = omega (arith, ints) in
        let most : digits_value 10 (drop 1 t) ≤ high = omega (arith, ints) in
        let plain : IsNumberIn low high (drop 1 t) = record {
          numeral = subst (IsNumeral 10) (sym same) numeral;
          least = subst (λ (ds : List ℕ). low ≤ digits_value 10 ds) (sym same) least;
          most = subst (λ (ds : List ℕ). digits_value 10 ds ≤ high) (sym same) most;
        } in
        subst (λ (b : Bool). IsNumberIn low high (cond b (drop 1 t) t)) (sym minus) plain
    go false minus =
        let numeral : IsNumeral 10 (without_leading_plus t) = rw minus at passed.0 in
        let low_ok = rw minus at passed.2 in
        let high_ok = rw minus at passed.3 in
        let least : low ≤ digits_value 10 (without_leading_plus t) = omega (arith, ints) in
        let most : digits_value 10 (without_leading_plus t) ≤ high = omega (arith, ints) in
        let plain : IsNumberIn low high t = record { numeral = numeral; least = least; most = most } in
        subst (λ (b : Bool). IsNumberIn low high (cond b (drop 1 t) t)) (sym minus) plain
