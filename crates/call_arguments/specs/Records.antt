-- Records that a call is given: amounts and objects under keywords. Fields are taken as they stand: in data that the host makes, in byte order of their names, each name once.
use Rattle.std.specs.Prelude.{ℕ, Bool, List, map, find, not, Option, option_map, Result, Ok}
use Rattle.std.specs.List.{list_any}
use Rattle.std.specs.Str.{bytes_eq}
use Rattle.refusals.specs.host_text.Words.{is_keyword}
use Rattle.refusals.specs.amount_math.ValueView.{ValueView}
use Rattle.refusals.specs.host_data.Tree.{Tree}
use Rattle.refusals.specs.host_data.declared.data.ObjKind.{ObjKind}
use Rattle.refusals.specs.host_data.Amounts.{AmountData, amount_data, amount_fields, read_all, value_in}
use Rattle.refusals.specs.Codes.{bad_args, bad_keyword, bad_value, wrong_object}
use Rattle.refusals.specs.Outcomes.{◌>>=◌, ◌>>◌, none_such, wanted}
use Rattle.refusals.specs.declared.codes.Refusal.{Refusal}
use Rattle.call_arguments.specs.Arguments.{object_in}
use Rattle.call_arguments.specs.declared.records.GivenShare.{GivenShare}

abbrev pub names : List (List ℕ × Tree) → List (List ℕ)
names fields = map (λ f. f.0) fields

-- the first name that is no keyword
unfoldable pub first_ill : List (List ℕ) → Option (List ℕ)
first_ill ks = find (λ k. not (is_keyword k)) ks

-- a field has the name
unfoldable pub has_name : List ℕ → List (List ℕ) → Bool
has_name wanted ks = list_any (λ k. bytes_eq k wanted) ks

-- ---- amounts under keywords

-- a share as it was given: the name of the field, and what stands in its amount
pub record ShareData : Type 0 where
  pub keyword : List ℕ
  pub amount : AmountData

abbrev pub share_in : List ℕ × Tree → Option ShareData
share_in f = option_map (λ a. record { keyword = f.0; amount = a }) (amount_fields f.1)

-- what a share that was read shows
abbrev pub share_data : GivenShare → ShareData
share_data r = record { keyword = r.keyword.now; amount = amount_data r.amount }

abbrev pub shares_data : List GivenShare → List ShareData
shares_data shares = map share_data shares

abbrev pub keywords : List ShareData → List (List ℕ)
keywords shares = map (λ r. r.keyword) shares

abbrev pub brands_in : List ShareData → List ℕ
brands_in shares = map (λ r. r.amount.brand) shares

-- the amounts of fields
unfoldable pub amounts_under : ℕ → List (List ℕ × Tree) → Result (List ShareData) Refusal
amounts_under place fields = wanted (read_all share_in fields) (bad_args place)

-- each name is a keyword
abbrev pub are_keywords : List (List ℕ) → Result (Unit {0}) Refusal
are_keywords ks = none_such (first_ill ks) bad_keyword

-- shares, each under a keyword
unfoldable pub shares_in : ℕ → List (List ℕ × Tree) → Result (List ShareData) Refusal
shares_in place fields = do
  shares ← amounts_under place fields
  are_keywords (keywords shares)
  Ok shares

-- the value of a share, of the kind of the brand that it names
abbrev pub share_value : ShareData → Option ValueView
share_value r = value_in r.amount.kind r.amount.value

unfoldable pub values_in : List ShareData → Result (List ValueView) Refusal
values_in shares = wanted (read_all share_value shares) bad_value

-- ---- objects

-- objects of one kind under names, by their numbers
unfoldable pub objects_under : ObjKind → ℕ → List (List ℕ × Tree) → Result (List ℕ) Refusal
objects_under kind place fields = wanted (read_all (λ f. object_in kind f.1) fields) (wrong_object place)
