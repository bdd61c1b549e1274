-- The issuer record of an instance: which brand stands under which keyword, in the order of adding (Zoe).
use Rattle.std.specs.Prelude.{◌≡◌, ℕ, ◌≤◌, List, [], ◌∷◌, length, Option, Some, None, if◌then◌else◌, All, String, string_bytes}
use Rattle.std.specs.Map.{values_of}
use Rattle.std.specs.Str.{bytes_eq}
use Rattle.std.specs.declared.alloc.Global.{Global}
use Rattle.brands.specs.declared.issuer_record.Issuer.{Issuer}

abbrev pub issuer_of : List ℕ → ℕ → Issuer
issuer_of keyword brand = record { keyword = keyword; brand = brand }

-- the brand under a keyword
abbrev pub brand_under : List ℕ → List Issuer → Option ℕ
brand_under keyword [] = None
brand_under keyword (i ∷ is) = if bytes_eq keyword i.keyword then Some i.brand else brand_under keyword is

-- the most keywords of a record
abbrev pub most_issuers : ℕ
most_issuers = 64

-- no keyword stands twice
abbrev pub AreApart : List Issuer → Type 0
AreApart [] = Unit {0}
AreApart (i ∷ is) = (brand_under i.keyword is ≡ None) × AreApart is

-- at most 64 keywords, each once
pub record AreIssuers (is : List Issuer) : Type 0 where
  pub few : length is ≤ most_issuers
  pub apart : AreApart is

-- the entries of a map from texts to issuers: each stands under the text of its keyword
pub record AreKeyed (es : List (String Global × Issuer)) : Type 0 where
  pub issuers : AreIssuers (values_of es)
  pub texts : All (λ e. string_bytes e.0 ≡ e.1.keyword) es
