-- The numbers of rows by their JSON.
use Rattle.std.proofs.Common.{◌≡◌, ◌<◌, ◌≤◌, ◌^◌, ℕ, List, Bool, true, false, Some, nat_lt, refl, sym, ap, ◌∙◌, arith}
use Rattle.std.specs.Fmt.{decimal}
use Rattle.std.specs.Prelude.{codes}
use Rattle.std.specs.Str.Parse.{digits_value}
use Rattle.serde_json.specs.Data as json
use Rattle.turn_rows.proofs.Names.{value-decimal}
use Rattle.turn_rows.specs.ReadBack.{number_in}
use Rattle.turn_rows.specs.Rows.{number_json, only}
use Rattle.row_reader.specs.Amounts.{marked}

pub decimal_same : (m n : ℕ) → m < 2 ^ 128 → n < 2 ^ 128 → decimal m ≡ decimal n → m ≡ n
decimal_same m n h k same = sym (value-decimal m h) ∙ ap (digits_value 10) same ∙ value-decimal n k

pub number_back : (n : ℕ) (b : Bool) → nat_lt n (2 ^ 63) ≡ b → n < 2 ^ 128 → number_in (number_json n) ≡ n
number_back n true is h = rw is refl
number_back n false is h = rw is (value-decimal n h)

-- a number's JSON tells it
pub number_same : (m n : ℕ) → m < 2 ^ 128 → n < 2 ^ 128 → number_json m ≡ number_json n → m ≡ n
number_same m n h k same = sym (number_back m (nat_lt m (2 ^ 63)) refl h) ∙ ap number_in same ∙ number_back n (nat_lt n (2 ^ 63)) refl k

-- a number below 2^63 isn't written as a text
pub small_mark : (d : json.Data) (s : List ℕ) (n x : ℕ) → Some s ≡ marked (codes "#") d → s ≡ decimal n → n < 2 ^ 63 → 2 ^ 63 ≤ x → x < 2 ^ 128 → only (codes "#") (json.string (decimal x)) ≡ d → ⊥
small_mark d s n x found is small large few same =
    let texts : Some s ≡ Some (decimal x) = found ∙ sym (ap (marked (codes "#")) same) in
    let one : s ≡ decimal x = cc in
    let numbers : n ≡ x = decimal_same n x (omega (arith, small)) few (sym is ∙ one) in
    absurd (omega (arith, numbers, small, large))
