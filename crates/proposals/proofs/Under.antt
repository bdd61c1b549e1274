-- What stands under a keyword once slots are changed.
use Rattle.std.proofs.Common.{◌≡◌, ◌<◌, ℕ, List, [], ◌∷◌, ◌++◌, get_or, length, map, All, Bool, true, false, cond, Option, Some, None, refl, sym, ap, subst, ◌∙◌, arith}
use Rattle.std.specs.Option.{is_none, option_map_or}
use Rattle.std.specs.Str.{bytes_eq}
use Rattle.std.proofs.lemmas.Slice.Eq.{bytes_eq-Decides}
use Rattle.std.proofs.lemmas.List.Elements.{All-cons, All-filter, All-head, All-nil, All-tail}
use Rattle.host_data.specs.amount_math.Amount.{Meet, holding}
use Rattle.host_data.specs.amount_math.Content.{Content, Contains, Contains-antisym, Contains-sum, count-nothing, nothing, sum}
use Rattle.host_data.specs.amount_math.declared.Amount.{Amount}
use Rattle.proposals.specs.declared.allocations.Share.{Share}
use Rattle.proposals.specs.OfferSafety.{AreCovered, IsCovered, MeetSlots}
use Rattle.proposals.specs.Shares.{amount_under, content_under, keyed_share}
use Rattle.proposals.specs.Slots.{in_byte_order, is_upto, placed}
use Rattle.proposals.specs.Gains.{with_gains}
use Rattle.proposals.specs.Losses.{with_losses, without}
use Rattle.proposals.specs.ChangedShares.{further}
use Rattle.proposals.proofs.Apart.{free_further, none_under-map}
use Rattle.proposals.proofs.Sums.{content_none, content_there}

-- ---- what holds of shares holds of them in byte order

All-placed : (P : Share → Type 0) (share : Share) (rs : List Share) → P share → All P rs → All P (placed share rs)
All-placed P share [] p all = All-cons P share [] p all
All-placed P share (r ∷ rs) p all = elim (is_upto share.keyword r.keyword) as (λ t. All P (cond t (share ∷ r ∷ rs) (r ∷ placed share rs))) [
  | true ↦ All-cons P share (r ∷ rs) p all
  | false ↦ All-cons P r (placed share rs) (All-head P r rs all) (All-placed P share rs p (All-tail P r rs all))
]

All-in_byte_order : (P : Share → Type 0) (rs : List Share) → All P rs → All P (in_byte_order rs)
All-in_byte_order P [] all = All-nil P
All-in_byte_order P (r ∷ rs) all = All-placed P r (in_byte_order rs) (All-head P r rs all) (All-in_byte_order P rs (All-tail P r rs all))

-- ---- slots of the same keywords with other contents

module _ (content : Share → Content) where
  abbrev pub with_other : Share → Share
  with_other r = keyed_share r.keyword (holding r.amount (content r))

  pub under_map : (keyword : List ℕ) (rs : List Share) (a : Amount) → amount_under keyword rs ≡ Some a → amount_under keyword (map with_other rs) ≡ Some (holding a (content (keyed_share keyword a)))
  under_map keyword [] a there = absurd (cc)
  under_map keyword (r ∷ rs) a there = by (under_map keyword rs a) (bytes_eq keyword r.keyword) refl there
    where
      amount : Some r.amount ≡ Some a → r.amount ≡ a
      amount e = cc

      first : keyword ≡ r.keyword → r.amount ≡ a → ◌≡◌ {A = Option Amount} (Some (holding r.amount (content r))) (Some (holding a (content (keyed_share keyword a))))
      first k e = ap (λ (x : Amount). Some (holding x (content (keyed_share r.keyword x)))) e ∙ ap (λ (q : List ℕ). Some (holding a (content (keyed_share q a)))) (sym k)

      by : (amount_under keyword rs ≡ Some a → amount_under keyword (map with_other rs) ≡ Some (holding a (content (keyed_share keyword a)))) → (t : Bool) → bytes_eq keyword r.keyword ≡ t → cond t (Some r.amount) (amount_under keyword rs) ≡ Some a → cond t (Some (holding r.amount (content r))) (amount_under keyword (map with_other rs)) ≡ Some (holding a (content (keyed_share keyword a)))
      by later true same e = first ((bytes_eq-Decides keyword r.keyword).0 same) (amount e)
      by later false same e = later e

  -- what met the slots meets them still
  pub MeetSlots-map : (slots shares : List Share) → MeetSlots slots shares → MeetSlots (map with_other slots) shares
  MeetSlots-map slots shares meet = λ i d within a there. by i d within a there (amount_under (get_or shares i d).keyword slots) refl
    where
      meets : (i : ℕ) (d : Share) (a b : Amount) → Meet b (get_or shares i d).amount → Some (holding b (content (keyed_share (get_or shares i d).keyword b))) ≡ Some a → Meet a (get_or shares i d).amount
      meets i d a b h e = let same : holding b (content (keyed_share (get_or shares i d).keyword b)) ≡ a = cc in subst (λ (x : Amount). Meet x (get_or shares i d).amount) same (record { brand = h.brand; kind = h.kind })

      no : (i : ℕ) (d : Share) (a : Amount) → amount_under (get_or shares i d).keyword (map with_other slots) ≡ Some a → amount_under (get_or shares i d).keyword (map with_other slots) ≡ None → ⊥
      no i d a e none = cc

      by : (i : ℕ) (d : Share) → i < length shares → (a : Amount) → amount_under (get_or shares i d).keyword (map with_other slots) ≡ Some a → (o : Option Amount) → amount_under (get_or shares i d).keyword slots ≡ o → Meet a (get_or shares i d).amount
      by i d within a there None is = absurd (no i d a there (none_under-map with_other (λ r. refl) (get_or shares i d).keyword slots is))
      by i d within a there (Some b) is = meets i d a b (meet i d within b is) (sym (under_map (get_or shares i d).keyword slots b is) ∙ there)

-- ---- further slots behind

pub under_append : (keyword : List ℕ) (rs more : List Share) (a : Amount) → amount_under keyword rs ≡ Some a → amount_under keyword (rs ++ more) ≡ Some a
under_append keyword [] more a there = absurd (cc)
under_append keyword (r ∷ rs) more a there = by (bytes_eq keyword r.keyword) (under_append keyword rs more a) there
  where
    by : (t : Bool) → (amount_under keyword rs ≡ Some a → amount_under keyword (rs ++ more) ≡ Some a) → cond t (Some r.amount) (amount_under keyword rs) ≡ Some a → cond t (Some r.amount) (amount_under keyword (rs ++ more)) ≡ Some a
    by true later e = e
    by false later e = later e

abbrev read : Option Amount → Content
read o = option_map_or (λ (a : Amount). a.value.content) o nothing

abbrev pub HasNothing : Share → Type 0
HasNothing r = r.amount.value.content ≡ nothing

pub nothing_under : (keyword : List ℕ) (rs : List Share) → All HasNothing rs → content_under keyword rs ≡ nothing
nothing_under keyword [] all = refl
nothing_under keyword (r ∷ rs) all = by (bytes_eq keyword r.keyword) (All-head HasNothing r rs all) (nothing_under keyword rs (All-tail HasNothing r rs all))
  where
    by : (t : Bool) → HasNothing r → content_under keyword rs ≡ nothing → read (cond t (Some r.amount) (amount_under keyword rs)) ≡ nothing
    by true first later = first
    by false first later = later

-- slots with nothing make no difference
pub content_under-append : (keyword : List ℕ) (rs more : List Share) → All HasNothing more → content_under keyword (rs ++ more) ≡ content_under keyword rs
content_under-append keyword [] more all = nothing_under keyword more all
content_under-append keyword (r ∷ rs) more all = by (bytes_eq keyword r.keyword) (content_under-append keyword rs more all)
  where
    by : (t : Bool) → content_under keyword (rs ++ more) ≡ content_under keyword rs → read (cond t (Some r.amount) (amount_under keyword (rs ++ more))) ≡ read (cond t (Some r.amount) (amount_under keyword rs))
    by true later = refl
    by false later = later

pub Contains-nothing : (c : Content) → Contains c nothing
Contains-nothing c = record { each = λ k. omega (arith, count-nothing k) }

-- ---- losses

-- what can be taken of a keyword without slot is nothing
pub further_losses : (slots losses : List Share) → AreCovered slots losses → All HasNothing (further slots losses)
further_losses slots losses covered = λ i d within.
    let has : Contains (content_under (get_or (further slots losses) i d).keyword slots) (get_or (further slots losses) i d).amount.value.content = All-filter (λ (r : Share). is_none (amount_under r.keyword slots)) (IsCovered slots) (in_byte_order losses) (All-in_byte_order (IsCovered slots) losses covered) i d within in
    let none = content_none (get_or (further slots losses) i d).keyword slots (free_further slots losses i d within) in
    Contains-antisym _ _ (Contains-nothing _) (subst (λ (c : Content). Contains c (get_or (further slots losses) i d).amount.value.content) none has)

pub content_under-with_losses : (slots losses : List Share) → AreCovered slots losses → (keyword : List ℕ) → content_under keyword (with_losses slots losses) ≡ content_under keyword (without slots losses)
content_under-with_losses slots losses covered keyword = content_under-append keyword (without slots losses) (further slots losses) (further_losses slots losses covered)

-- ---- gains

-- slots have more than they had
pub has_more : (slots gains : List Share) (keyword : List ℕ) → Contains (content_under keyword (with_gains slots gains)) (content_under keyword slots)
has_more slots gains keyword = by (amount_under keyword slots) refl
  where
    more : Share → Content
    more r = sum r.amount.value.content (content_under r.keyword gains)

    by : (o : Option Amount) → amount_under keyword slots ≡ o → Contains (content_under keyword (with_gains slots gains)) (content_under keyword slots)
    by None is = rw (content_none keyword slots is) (Contains-nothing _)
    by (Some a) is =
        let there = under_append keyword (map (with_other (λ (r : Share). sum r.amount.value.content (content_under r.keyword gains))) slots) (further slots gains) _ (under_map (λ (r : Share). sum r.amount.value.content (content_under r.keyword gains)) keyword slots a is) in
        let now = content_there keyword (with_gains slots gains) _ there in
        rw (content_there keyword slots a is, now) (Contains-sum a.value.content (content_under keyword gains))
