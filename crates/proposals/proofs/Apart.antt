-- Shares of keywords apart: what stands under the keyword of one of them, and which lists of them stay apart.
use Rattle.std.proofs.Common.{◌≡◌, ◌<◌, ℕ, zero, suc, List, [], ◌∷◌, ◌++◌, length, get_or, map, filter, All, Bool, true, false, cond, Option, Some, None, refl, sym, ap, subst, ◌∙◌, arith}
use Rattle.std.specs.Option.{is_none}
use Rattle.std.specs.Str.{bytes_eq}
use Rattle.std.proofs.lemmas.Slice.Eq.{bytes_eq-Decides}
use Rattle.std.proofs.lemmas.List.Elements.{All-cons, All-head, All-tail, All-weaker}
use Rattle.host_data.specs.amount_math.declared.Amount.{Amount}
use Rattle.proposals.specs.declared.allocations.Share.{Share}
use Rattle.proposals.specs.Shares.{AreApart, amount_under, keyed_share}
use Rattle.proposals.specs.Slots.{in_byte_order}
use Rattle.proposals.proofs.ShareLists.{bytes_eq-turned, none_under-cons, not_first, not_later}
use Rattle.proposals.proofs.SlotLists.{AreApart-append, AreApart-in_byte_order}
use Rattle.proposals.specs.ChangedShares.{further}

-- a keyword that stands nowhere is not that of a share
pub other_at : (keyword : List ℕ) (rs : List Share) (i : ℕ) (d : Share) → i < length rs → amount_under keyword rs ≡ None → bytes_eq keyword (get_or rs i d).keyword ≡ false
other_at keyword [] i d within none = absurd (omega arith)
other_at keyword (r ∷ rs) zero d within none = not_first keyword r rs none
other_at keyword (r ∷ rs) (suc i) d within none = other_at keyword rs i d (omega arith) (not_later keyword r rs none)

-- under the keyword of a share stands its own amount
pub own_amount : (rs : List Share) → AreApart rs → (i : ℕ) (d : Share) → i < length rs → amount_under (get_or rs i d).keyword rs ≡ Some (get_or rs i d).amount
own_amount [] apart i d within = absurd (omega arith)
own_amount (r ∷ rs) apart zero d within = ap (λ t. cond t (Some r.amount) (amount_under r.keyword rs)) ((bytes_eq-Decides r.keyword r.keyword).1 refl)
own_amount (r ∷ rs) apart (suc i) d within =
    let keyword = (get_or rs i d).keyword in
    let inside : i < length rs = omega arith in
    let other : bytes_eq keyword r.keyword ≡ false = bytes_eq-turned r.keyword keyword (other_at r.keyword rs i d inside apart.0) in
    ap (λ t. cond t (Some r.amount) (amount_under keyword rs)) other ∙ own_amount rs apart.1 i d inside

-- what holds of each share holds of the one under a keyword
pub share_under : (P : Share → Type 0) (rs : List Share) → All P rs → (keyword : List ℕ) (a : Amount) → amount_under keyword rs ≡ Some a → P (keyed_share keyword a)
share_under P [] all keyword a there = absurd (cc)
share_under P (r ∷ rs) all keyword a there = by (share_under P rs (All-tail P r rs all) keyword a) (bytes_eq keyword r.keyword) refl there
  where
    amount : Some r.amount ≡ Some a → r.amount ≡ a
    amount e = cc

    by : (amount_under keyword rs ≡ Some a → P (keyed_share keyword a)) → (t : Bool) → bytes_eq keyword r.keyword ≡ t → cond t (Some r.amount) (amount_under keyword rs) ≡ Some a → P (keyed_share keyword a)
    by later true same e = subst (λ (k : List ℕ). P (keyed_share k a)) (sym ((bytes_eq-Decides keyword r.keyword).0 same)) (subst (λ (x : Amount). P (keyed_share r.keyword x)) (amount e) (All-head P r rs all))
    by later false same e = later e

-- ---- lists that stay apart

module _ (f : Share → Share) (keeps : (r : Share) → (f r).keyword ≡ r.keyword) where
  pub none_under-map : (keyword : List ℕ) (rs : List Share) → amount_under keyword rs ≡ None → amount_under keyword (map f rs) ≡ None
  none_under-map keyword [] none = refl
  none_under-map keyword (r ∷ rs) none = none_under-cons keyword (f r) (map f rs) (ap (bytes_eq keyword) (keeps r) ∙ not_first keyword r rs none) (none_under-map keyword rs (not_later keyword r rs none))

  pub AreApart-map : (rs : List Share) → AreApart rs → AreApart (map f rs)
  AreApart-map [] apart = tt
  AreApart-map (r ∷ rs) apart = (subst (λ (k : List ℕ). amount_under k (map f rs) ≡ None) (sym (keeps r)) (none_under-map r.keyword rs apart.0), AreApart-map rs apart.1)

module _ (p : Share → Bool) where
  none_under-filter : (keyword : List ℕ) (rs : List Share) → amount_under keyword rs ≡ None → amount_under keyword (filter p rs) ≡ None
  none_under-filter keyword [] none = refl
  none_under-filter keyword (r ∷ rs) none = elim (p r) as (λ t. amount_under keyword (cond t (r ∷ filter p rs) (filter p rs)) ≡ None) [
    | true ↦ none_under-cons keyword r (filter p rs) (not_first keyword r rs none) (none_under-filter keyword rs (not_later keyword r rs none))
    | false ↦ none_under-filter keyword rs (not_later keyword r rs none)
  ]

  pub AreApart-filter : (rs : List Share) → AreApart rs → AreApart (filter p rs)
  AreApart-filter [] apart = tt
  AreApart-filter (r ∷ rs) apart = elim (p r) as (λ t. AreApart (cond t (r ∷ filter p rs) (filter p rs))) [
    | true ↦ (none_under-filter r.keyword rs apart.0, AreApart-filter rs apart.1)
    | false ↦ AreApart-filter rs apart.1
  ]

-- none of the one list has the keyword of a share of the other
abbrev pub Free : List Share → Share → Type 0
Free rs r = amount_under r.keyword rs ≡ None

free_turned : (slots rs : List Share) → All (Free slots) rs → (keyword : List ℕ) → ((r : Share) → Free slots r → bytes_eq r.keyword keyword ≡ false) → amount_under keyword rs ≡ None
free_turned slots [] free keyword other = refl
free_turned slots (r ∷ rs) free keyword other =
    none_under-cons keyword r rs (bytes_eq-turned r.keyword keyword (other r (All-head (Free slots) r rs free))) (free_turned slots rs (All-tail (Free slots) r rs free) keyword other)

pub All-free_turned : (slots rs : List Share) → All (Free slots) rs → All (Free rs) slots
All-free_turned slots rs free = λ i d within. free_turned slots rs free (get_or slots i d).keyword (λ r none. other_at r.keyword slots i d within none)

is_none-None : (o : Option Amount) → is_none o ≡ true → o ≡ None
is_none-None None h = refl
is_none-None (Some x) h = absurd (cc)

-- the shares that a filter by their keywords keeps are free of those of the slots
free_filtered : (slots rs : List Share) → All (Free slots) (filter (λ r. is_none (amount_under r.keyword slots)) rs)
free_filtered slots [] = λ i d within. absurd (omega arith)
free_filtered slots (r ∷ rs) = by (free_filtered slots rs) (is_none (amount_under r.keyword slots)) refl
  where
    kept : List Share
    kept = filter (λ (x : Share). is_none (amount_under x.keyword slots)) rs

    by : All (Free slots) kept → (t : Bool) → is_none (amount_under r.keyword slots) ≡ t → All (Free slots) (cond t (r ∷ kept) kept)
    by later true e = All-cons (Free slots) r kept (is_none-None _ e) later
    by later false e = later

pub free_further : (slots rs : List Share) → All (Free slots) (further slots rs)
free_further slots rs = free_filtered slots (in_byte_order rs)

-- slots that keep their keywords, with further ones behind
pub AreApart-further : (f : Share → Share) → ((r : Share) → (f r).keyword ≡ r.keyword) → (slots rs : List Share) → AreApart slots → AreApart rs → AreApart (map f slots ++ further slots rs)
AreApart-further f keeps slots rs apart others =
    AreApart-append (map f slots) (further slots rs) (AreApart-map f keeps slots apart) (AreApart-filter (λ (r : Share). is_none (amount_under r.keyword slots)) (in_byte_order rs) (AreApart-in_byte_order rs others))
    (All-free_turned (map f slots) (further slots rs) (All-weaker (Free slots) (Free (map f slots)) (λ r none. none_under-map f keeps r.keyword slots none) (further slots rs) (free_further slots rs)))
