-- Shares, each a keyword with an amount: what a proposal gives and wants, and what the slots of a seat have.
use Rattle.std.specs.Prelude.{◌≡◌, ℕ, ◌≤◌, List, [], ◌∷◌, length, Option, Some, None, if◌then◌else◌, refl, All, String, string_bytes}
use Rattle.std.specs.Coded.{Coded, code_by, coded×, coded_list, coded_ℕ}
use Rattle.std.specs.Map.{values_of}
use Rattle.std.specs.Option.{option_map_or}
use Rattle.std.specs.Str.{bytes_eq}
use Rattle.std.specs.declared.alloc.Global.{Global}
use Rattle.host_data.specs.amount_math.Amount.{coded_amount}
use Rattle.host_data.specs.amount_math.Content.{Content, nothing}
use Rattle.host_data.specs.amount_math.declared.Amount.{Amount}
use Rattle.proposals.specs.declared.allocations.Share.{Share}

-- the numbers that stand for a share, which a model needs
abbrev pub coded_share : Coded Share
coded_share = code_by (List ℕ × Amount) (coded× (coded_list coded_ℕ) coded_amount) (λ r. (r.keyword, r.amount)) (λ p. record { keyword = p.0; amount = p.1 }) (λ _. refl)

abbrev pub keyed_share : List ℕ → Amount → Share
keyed_share keyword amount = record { keyword = keyword; amount = amount }

-- what stands under a keyword
abbrev pub amount_under : List ℕ → List Share → Option Amount
amount_under keyword [] = None
amount_under keyword (r ∷ rs) = if bytes_eq keyword r.keyword then Some r.amount else amount_under keyword rs

-- what is had under a keyword: nothing where it doesn't stand
abbrev pub content_under : List ℕ → List Share → Content
content_under keyword rs = option_map_or (λ a. a.value.content) (amount_under keyword rs) nothing

-- the most shares
abbrev pub most_shares : ℕ
most_shares = 64

-- no keyword stands twice
abbrev pub AreApart : List Share → Type 0
AreApart [] = Unit {0}
AreApart (r ∷ rs) = (amount_under r.keyword rs ≡ None) × AreApart rs

-- at most 64 shares, each of a keyword of its own
pub record AreShares (rs : List Share) : Type 0 where
  pub few : length rs ≤ most_shares
  pub apart : AreApart rs

-- the entries of a map from texts to shares: each share is under the text of its keyword
pub record AreKeyed (es : List (String Global × Share)) : Type 0 where
  pub shares : AreShares (values_of es)
  pub texts : All (λ e. string_bytes e.0 ≡ e.1.keyword) es
