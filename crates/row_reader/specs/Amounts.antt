-- Parts of values and amounts, as their readers see them.
use Rattle.std.specs.Prelude.{◌≡◌, ◌<◌, ℕ, true, false, List, [], ◌∷◌, map, Option, Some, None, option_and_then, is_none, if◌then◌else◌}
use Rattle.std.specs.declared.cmp.Ordering.{Ordering}
use Rattle.std.specs.declared.cmp.Ordering.TheVariants.{Less}
use Rattle.std.specs.List.{AllByRecursion}
use Rattle.std.specs.List.Sorted.{IsStrictlySortedBy}
use Rattle.std.specs.Str.{bytes_eq}
use Rattle.serde_json.specs.Data as json
use Rattle.serde_json.specs.Find.{as_str, get_member}
use Rattle.turn_rows.specs.Form.{key_of, names_of, objects_end}
use Rattle.turn_rows.specs.Rows.{amount_json, element_json, payment_name}
use Rattle.turn_rows.specs.Turns.{Element, KeywordAmount, Payout, key, counted}
use Rattle.turn_rows.specs.host_text.Words.{is_keyword}
use Rattle.turn_rows.specs.amount_math.Content.{key_cmp}
use Rattle.row_reader.specs.Members.{only_in}

abbrev pub text_under : List ℕ → List ℕ × json.Data → Option (List ℕ)
text_under mark m = if bytes_eq m.0 mark then as_str m.1 else None

-- the text of the one member, where that has the name
abbrev pub marked : List ℕ → json.Data → Option (List ℕ)
marked mark d = option_and_then (text_under mark) (only_in d)

-- ---- elements

abbrev pub elements_list : List Element → List json.Data
elements_list es = map element_json es

-- an element behind another: both of a set or both of a bag, in byte order of their keys
abbrev pub Follows : Element → Element → Type 0
Follows (key k) (key l) = key_cmp k l ≡ Less
Follows (counted k m) (counted l n) = key_cmp k l ≡ Less
Follows (key k) (counted l n) = ⊥
Follows (counted k m) (key l) = ⊥

abbrev pub AreInOrder : List Element → Type 0
AreInOrder [] = Unit {0}
AreInOrder (e ∷ []) = Unit {0}
AreInOrder (e ∷ f ∷ es) = Follows e f × AreInOrder (f ∷ es)

-- ---- amounts and payouts

abbrev pub amount_pair : KeywordAmount → List ℕ × json.Data
amount_pair a = (a.keyword, amount_json a.brand a.value)

abbrev pub payout_pair : Payout → List ℕ × json.Data
payout_pair p = (p.keyword, json.string (payment_name p.payment))

abbrev pub HasPayoutForm : Payout → Type 0
HasPayoutForm p = (is_keyword p.keyword ≡ true) × (p.payment < objects_end)

-- they stand in byte order of their keywords
pub record ArePayouts (ps : List Payout) : Type 0 where
  pub keywords : AllByRecursion (λ p. is_keyword p.keyword ≡ true) ps
  pub payments : AllByRecursion (λ p. p.payment < objects_end) ps
  pub rising : IsStrictlySortedBy key_cmp (map (λ p. p.keyword) ps)

-- no name stands in both
abbrev pub AreApart : json.Members → json.Members → Type 0
AreApart give want = AllByRecursion (λ name. get_member name want ≡ None) (names_of give)
