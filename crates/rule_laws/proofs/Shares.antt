-- What a seat loses and gains where its slots become others: shares of it, what the slots have once those are taken and
-- added, and how much there is of each element together.
use Rattle.std.specs.Prelude.{IfSome, IsSomeAnd, is_none, map, ◌==◌}
use Rattle.std.specs.List.{AllByRecursion}
use Rattle.std.specs.Option.{option_map_or}
use Rattle.std.specs.Str.{bytes_eq}
use Rattle.std.proofs.Common.{◌≡◌, ℕ, suc, ◌+◌, ◌-◌, ◌≤◌, Bool, true, false, cond, List, [], ◌∷◌, ◌++◌, length, Option, Some, None, refl, sym, ap, subst, ◌∙◌, arith, if◌then◌else◌}
use Rattle.std.proofs.lemmas.Bool.{false≢true}
use Rattle.std.proofs.lemmas.List.Sums.{sum_by-cons}
use Rattle.std.proofs.lemmas.Slice.Eq.{bytes_eq-Decides}
use Rattle.world_laws.specs.amount_math.Amount.{Meet}
use Rattle.world_laws.specs.amount_math.Content.{Content, Contains, count, count-difference, count-nothing, count-sum, difference, nothing, same_content, sum}
use Rattle.world_laws.specs.amount_math.ValueView.{IsValue, with_content}
use Rattle.world_laws.specs.amount_math.declared.Amount.{Amount}
use Rattle.world_laws.specs.ertp_mint.BrandSupply.{BrandSupply}
use Rattle.rules.specs.rearrange.Moves.{gained_by, lost_by}
use Rattle.rules.specs.proposals.OfferSafety.{IsOfferSafe}
use Rattle.rules.specs.proposals.Shares.{AreApart, amount_under, content_under, most_shares, keyed_share}
use Rattle.rules.specs.proposals.declared.allocations.Share.{Share}
use Rattle.rules.specs.proposals.declared.offers.Proposal.{Proposal}
use Rattle.rules.specs.proposals.ChangedShares.{further}
use Rattle.rules.proofs.proposals.Apart.{free_further}
use Rattle.rules.specs.rearrange.Settled.{filled, has_some, opened, settled}
use Rattle.rules.specs.rearrange.Sums.{share_count, shares_count}
use Rattle.world_laws.specs.vault_model.Lists.{amount_of, more}
use Rattle.rules.proofs.value_tests.Contents.{is_nothing-true, true-is_nothing}
use Rattle.rules.specs.value_tests.Tests.{is_nothing}
use Rattle.world_laws.proofs.Lists.{all_filter, length_append, length_map}
use Rattle.world_laws.proofs.Proposed.{under_own}
use Rattle.world_laws.proofs.Valued.{less_valued}
use Rattle.world_laws.specs.world_state.Good.{IsOfKind}
use Rattle.world_laws.specs.world_state.Rights.{kind_at, shares_more}
use Rattle.rule_laws.proofs.SlotLists.{CanAddAll, CanAddTo, CanTakeAll, CanTakeFrom, can_add_all, can_take_all, changed_to, each_of_all, fresh_in, moved_amount, other_first, still_safe, under_other, under_same, with_less, with_less_many, with_more, with_more_many}
use Rattle.rule_laws.proofs.GivenShares.{OfBrand, under_all}
use Rattle.rule_laws.proofs.Losses.{count_less, lower, next_of, opened_by_loss}

abbrev content_in : Option Amount → Content
content_in o = option_map_or (λ (a : Amount). a.value.content) o nothing

-- ---- parts of shares, where there is something in them

abbrev pub part_share : (Share → Content) → Share → Share
part_share part r = keyed_share r.keyword (amount_of r.amount.brand (with_content r.amount.value (part r)))

abbrev pub some_shares : (Share → Content) → List Share → List Share
some_shares part [] = []
some_shares part (r ∷ rs) = if is_nothing (part r) then some_shares part rs else part_share part r ∷ some_shares part rs

module _ (part : Share → Content) where
  none_some : (q : List ℕ) (rs : List Share) → amount_under q rs ≡ None → amount_under q (some_shares part rs) ≡ None
  none_some q [] none = refl
  none_some q (r ∷ rs) none =
      let both = other_first q r rs none in
      by (is_nothing (part r)) both.0 (none_some q rs both.1)
    where
      by : (b : Bool) → bytes_eq q r.keyword ≡ false → amount_under q (some_shares part rs) ≡ None → amount_under q (if b then some_shares part rs else part_share part r ∷ some_shares part rs) ≡ None
      by true e rest = rest
      by false e rest = ap (λ t. cond t (Some (part_share part r).amount) (amount_under q (some_shares part rs))) e ∙ rest

  pub some_apart : (rs : List Share) → AreApart rs → AreApart (some_shares part rs)
  some_apart [] apart = tt
  some_apart (r ∷ rs) apart = by (is_nothing (part r)) (none_some r.keyword rs apart.0) (some_apart rs apart.1)
    where
      by : (b : Bool) → amount_under r.keyword (some_shares part rs) ≡ None → AreApart (some_shares part rs) → AreApart (if b then some_shares part rs else part_share part r ∷ some_shares part rs)
      by true none rest = rest
      by false none rest = (none, rest)

  pub some_all : (P Q : Share → Type 0) → ((r : Share) → P r → Q (part_share part r)) → (rs : List Share) → AllByRecursion P rs → AllByRecursion Q (some_shares part rs)
  some_all P Q to [] all = tt
  some_all P Q to (r ∷ rs) all = by (is_nothing (part r)) (some_all P Q to rs all.1)
    where
      by : (b : Bool) → AllByRecursion Q (some_shares part rs) → AllByRecursion Q (if b then some_shares part rs else part_share part r ∷ some_shares part rs)
      by true rest = rest
      by false rest = (to r all.0, rest)

  -- what stands under the keyword of a share is its part
  pub some_count : (q e : List ℕ) (b : Amount) (rs : List Share) → AreApart rs → amount_under q rs ≡ Some b → count (content_under q (some_shares part rs)) e ≡ count (part (keyed_share q b)) e
  some_count q e b [] apart at = absurd (cc)
  some_count q e b (r ∷ rs) apart at = by (bytes_eq q r.keyword) refl at (λ later. some_count q e b rs apart.1 later)
    where
      skips : (t : Bool) → bytes_eq q r.keyword ≡ false → count (content_in (amount_under q (if t then some_shares part rs else part_share part r ∷ some_shares part rs))) e ≡ count (content_under q (some_shares part rs)) e
      skips true other = refl
      skips false other = ap (λ s. count (content_in (cond s (Some (part_share part r).amount) (amount_under q (some_shares part rs)))) e) other

      here : (t : Bool) → is_nothing (part r) ≡ t → bytes_eq q r.keyword ≡ true → amount_under q (some_shares part rs) ≡ None → count (content_in (amount_under q (if t then some_shares part rs else part_share part r ∷ some_shares part rs))) e ≡ count (part r) e
      here true is same none = ap (λ o. count (content_in o) e) none ∙ ap (λ c. count c e) (sym (is_nothing-true (part r) is))
      here false is same none = ap (λ s. count (content_in (cond s (Some (part_share part r).amount) (amount_under q (some_shares part rs)))) e) same

      by : (t : Bool) → bytes_eq q r.keyword ≡ t → cond t (Some r.amount) (amount_under q rs) ≡ Some b → (amount_under q rs ≡ Some b → count (content_under q (some_shares part rs)) e ≡ count (part (keyed_share q b)) e) → count (content_under q (some_shares part (r ∷ rs))) e ≡ count (part (keyed_share q b)) e
      by true is same later =
          let k : q ≡ r.keyword = (bytes_eq-Decides q r.keyword).0 is in
          let none : amount_under q (some_shares part rs) ≡ None = subst (λ p. amount_under p (some_shares part rs) ≡ None) (sym k) (none_some r.keyword rs apart.0) in
          let amount : r.amount ≡ b = cc in
          here (is_nothing (part r)) refl is none ∙ ap (λ (a : Amount). count (part (keyed_share r.keyword a)) e) amount ∙ ap (λ p. count (part (keyed_share p b)) e) (sym k)
      by false is same later = skips (is_nothing (part r)) is ∙ later same

  pub some_fresh : (cur rs : List Share) → fresh_in cur (some_shares part rs) ≤ fresh_in cur rs
  some_fresh cur [] = omega arith
  some_fresh cur (r ∷ rs) = by (is_nothing (part r)) (is_none (amount_under r.keyword cur)) (some_fresh cur rs)
    where
      step : (t : Bool) (n m : ℕ) → n ≤ m → cond t (suc n) n ≤ cond t (suc m) m
      step true n m le = omega (arith, le)
      step false n m le = le

      wider : (t : Bool) (n m : ℕ) → n ≤ m → n ≤ cond t (suc m) m
      wider true n m le = omega (arith, le)
      wider false n m le = le

      by : (b t : Bool) → fresh_in cur (some_shares part rs) ≤ fresh_in cur rs → fresh_in cur (if b then some_shares part rs else part_share part r ∷ some_shares part rs) ≤ fresh_in cur (r ∷ rs)
      by true t le = wider (is_none (amount_under r.keyword cur)) (fresh_in cur (some_shares part rs)) (fresh_in cur rs) le
      by false t le = step (is_none (amount_under r.keyword cur)) (fresh_in cur (some_shares part rs)) (fresh_in cur rs) le

  -- how many of an element of a brand the parts are together
  abbrev pub parts_count : ℕ → List ℕ → List Share → ℕ
  parts_count brand e [] = 0
  parts_count brand e (r ∷ rs) = (if r.amount.brand == brand then count (part r) e else 0) + parts_count brand e rs

  pub some_sum : (brand : ℕ) (e : List ℕ) (rs : List Share) → shares_count brand e (some_shares part rs) ≡ parts_count brand e rs
  some_sum brand e [] = refl
  some_sum brand e (r ∷ rs) = by (is_nothing (part r)) refl (r.amount.brand == brand) (some_sum brand e rs)
    where
      zero_part : (t : Bool) → is_nothing (part r) ≡ true → (if t then count (part r) e else 0) ≡ 0
      zero_part true is = ap (λ c. count c e) (is_nothing-true (part r) is) ∙ count-nothing e
      zero_part false is = refl

      by : (b : Bool) → is_nothing (part r) ≡ b → (t : Bool) → shares_count brand e (some_shares part rs) ≡ parts_count brand e rs → shares_count brand e (if b then some_shares part rs else part_share part r ∷ some_shares part rs) ≡ parts_count brand e (r ∷ rs)
      by true is t rest = omega (arith, rest, zero_part (r.amount.brand == brand) is)
      by false is t rest = sum_by-cons (share_count brand e) (part_share part r) (some_shares part rs) ∙ ap (λ n. (if r.amount.brand == brand then count (part r) e else 0) + n) rest

-- ---- a seat's slots become others

-- shares that slots may become: apart, each valued and of its brand's kind, of the brand of the slot of its keyword
pub record CanBecome (out : List BrandSupply) (cur after : List Share) : Type 0 where
  pub apart : AreApart after
  pub of_kinds : AllByRecursion (λ (r : Share). IsOfKind out r.amount) after
  pub valued : AllByRecursion (λ (r : Share). IsValue r.amount.value.kind r.amount.value.content) after
  pub of_brands : AllByRecursion (λ (r : Share). OfBrand cur r.keyword r.amount.brand) after
  pub few : length cur + fresh_in cur after ≤ most_shares

abbrev pub lost : List Share → List Share → List Share
lost cur after = some_shares (lost_by cur) after

abbrev pub gained : List Share → List Share → List Share
gained cur after = some_shares (gained_by cur) after

abbrev pub changed_shares : List Share → List Share → List Share
changed_shares cur after = with_more (with_less cur (lost cur after)) (gained cur after)

module _ (out : List BrandSupply) (cur : List Share) (cur_kinds : AllByRecursion (λ (r : Share). IsOfKind out r.amount) cur) where
  kind_there : (r : Share) (a : Amount) → IsOfKind out r.amount → IsOfKind out a → a.brand ≡ r.amount.brand → a.value.kind ≡ r.amount.value.kind
  kind_there r a own is same = sym is.kind ∙ ap (kind_at out) same ∙ own.kind

  can_lose : (r : Share) → IsOfKind out r.amount → OfBrand cur r.keyword r.amount.brand → CanTakeFrom (amount_under r.keyword cur) (part_share (lost_by cur) r)
  can_lose r own of = by (amount_under r.keyword cur) (under_all (IsOfKind out) r.keyword cur cur_kinds) of
    where
      by : (o : Option Amount) → IfSome o (IsOfKind out) → IfSome o (λ a. a.brand ≡ r.amount.brand) → CanTakeFrom o (keyed_share r.keyword (amount_of r.amount.brand (with_content r.amount.value (difference (content_in o) r.amount.value.content))))
      by None kind same = record { each = λ k. omega (arith, count-difference nothing r.amount.value.content k, count-nothing k) }
      by (Some a) kind same = record { brand = same; kind = kind_there r a own kind same; has = record { each = λ k. omega (arith, count-difference a.value.content r.amount.value.content k) } }

  all_lose : (rs : List Share) → AllByRecursion (λ (r : Share). IsOfKind out r.amount) rs → AllByRecursion (λ (r : Share). OfBrand cur r.keyword r.amount.brand) rs → AllByRecursion (λ (x : Share). CanTakeFrom (amount_under x.keyword cur) x) (lost cur rs)
  all_lose [] kinds of = tt
  all_lose (r ∷ rs) kinds of = by (is_nothing (lost_by cur r)) (all_lose rs kinds.1 of.1)
    where
      by : (b : Bool) → AllByRecursion (λ (x : Share). CanTakeFrom (amount_under x.keyword cur) x) (lost cur rs) → AllByRecursion (λ (x : Share). CanTakeFrom (amount_under x.keyword cur) x) (if b then lost cur rs else part_share (lost_by cur) r ∷ lost cur rs)
      by true rest = rest
      by false rest = (can_lose r kinds.0 of.0, rest)

  -- nothing is lost of a keyword without slot
  abbrev IsThere : Share → Type 0
  IsThere x = is_none (amount_under x.keyword cur) ≡ false

  lost_there : (rs : List Share) → AllByRecursion IsThere (lost cur rs)
  lost_there [] = tt
  lost_there (r ∷ rs) = by (amount_under r.keyword cur) refl (is_nothing (lost_by cur r)) refl (lost_there rs)
    where
      by : (o : Option Amount) → amount_under r.keyword cur ≡ o → (b : Bool) → is_nothing (lost_by cur r) ≡ b → AllByRecursion IsThere (lost cur rs) → AllByRecursion IsThere (if b then lost cur rs else part_share (lost_by cur) r ∷ lost cur rs)
      by o at true is rest = rest
      by (Some a) at false is rest = (ap is_none at, rest)
      by None at false is rest =
          let none : lost_by cur r ≡ nothing = same_content (lost_by cur r) nothing (λ k. omega (arith, count-difference (content_under r.keyword cur) r.amount.value.content k, ap (λ o. count (content_in o) k) at, count-nothing k)) in
          absurd (false≢true (sym is ∙ true-is_nothing (lost_by cur r) none))

  there_fresh : (rs : List Share) → AllByRecursion IsThere rs → fresh_in cur rs ≡ 0
  there_fresh [] all = refl
  there_fresh (r ∷ rs) all = ap (λ t. cond t (suc (fresh_in cur rs)) (fresh_in cur rs)) all.0 ∙ there_fresh rs all.1

  -- a keyword without slot is none of those of which something is lost
  none_of_it : (q : List ℕ) → amount_under q cur ≡ None → (rs : List Share) → AllByRecursion IsThere rs → AllByRecursion (λ (x : Share). bytes_eq q x.keyword ≡ false) rs
  none_of_it q none [] all = tt
  none_of_it q none (r ∷ rs) all = (by (bytes_eq q r.keyword) refl, none_of_it q none rs all.1)
    where
      by : (b : Bool) → bytes_eq q r.keyword ≡ b → b ≡ false
      by false e = refl
      by true e =
          let same : amount_under r.keyword cur ≡ None = subst (λ k. amount_under k cur ≡ None) ((bytes_eq-Decides q r.keyword).0 e) none in
          absurd (false≢true (sym all.0 ∙ ap is_none same))

as_it_was : (q : List ℕ) (now shares : List Share) → AllByRecursion (λ (x : Share). bytes_eq q x.keyword ≡ false) shares → amount_under q (with_less now shares) ≡ amount_under q now
as_it_was q now [] all = refl
as_it_was q now (r ∷ rs) all = as_it_was q (next_of now r) rs all.1 ∙ under_other r.keyword (lower r) (opened_by_loss r) q all.0 now

-- what there is of a keyword stays of its brand and kind
stays : (q : List ℕ) (a : Amount) (now shares : List Share) → IsSomeAnd (amount_under q now) (λ y. Meet y a) → IsSomeAnd (amount_under q (with_less now shares)) (λ y. Meet y a)
stays q a now [] is = is
stays q a now (r ∷ rs) is = stays q a (next_of now r) rs (by (bytes_eq q r.keyword) refl)
  where
    lowered : (o : Option Amount) → IsSomeAnd o (λ y. Meet y a) → Meet (changed_to (lower r) (opened_by_loss r) o) a
    lowered None is = absurd is
    lowered (Some y) is = record { brand = is.brand; kind = is.kind }

    by : (b : Bool) → bytes_eq q r.keyword ≡ b → IsSomeAnd (amount_under q (next_of now r)) (λ y. Meet y a)
    by false e = subst (λ o. IsSomeAnd o (λ y. Meet y a)) (sym (under_other r.keyword (lower r) (opened_by_loss r) q e now)) is
    by true e =
        let same : q ≡ r.keyword = (bytes_eq-Decides q r.keyword).0 e in
        let at : amount_under q (next_of now r) ≡ Some (changed_to (lower r) (opened_by_loss r) (amount_under q now)) = subst (λ k. amount_under k (next_of now r) ≡ Some (changed_to (lower r) (opened_by_loss r) (amount_under k now))) (sym same) (under_same r.keyword (lower r) (opened_by_loss r) now) in
        subst (λ o. IsSomeAnd o (λ y. Meet y a)) (sym at) (lowered (amount_under q now) is)

abbrev raise : Share → Amount → Amount
raise r had = more had r.amount.value.content

own_more : (r : Share) (o : Option Amount) (e : List ℕ) → count (changed_to (raise r) (moved_amount r) o).value.content e ≡ count (content_in o) e + count r.amount.value.content e
own_more r None e = omega (arith, count-nothing e)
own_more r (Some a) e = count-sum a.value.content r.amount.value.content e

abbrev more_of : List Share → Share → List Share
more_of now r = shares_more r.keyword (moved_amount r) now

count_more : (now rs : List Share) (q e : List ℕ) → AreApart rs → count (content_under q (with_more now rs)) e ≡ count (content_under q now) e + count (content_under q rs) e
count_more now [] q e apart = omega (arith, count-nothing e)
count_more now (r ∷ rs) q e apart = by (bytes_eq q r.keyword) refl (count_more (more_of now r) rs q e apart.1)
  where
    by : (b : Bool) → bytes_eq q r.keyword ≡ b → count (content_under q (with_more (more_of now r) rs)) e ≡ count (content_under q (more_of now r)) e + count (content_under q rs) e → count (content_under q (with_more (more_of now r) rs)) e ≡ count (content_under q now) e + count (content_in (cond b (Some r.amount) (amount_under q rs))) e
    by false is rest = omega (arith, rest, ap (λ o. count (content_in o) e) (under_other r.keyword (raise r) (moved_amount r) q is now))
    by true is rest =
        let same : q ≡ r.keyword = (bytes_eq-Decides q r.keyword).0 is in
        let none : amount_under q rs ≡ None = subst (λ k. amount_under k rs ≡ None) (sym same) apart.0 in
        let at : amount_under q (more_of now r) ≡ Some (changed_to (raise r) (moved_amount r) (amount_under q now)) = subst (λ k. amount_under k (more_of now r) ≡ Some (changed_to (raise r) (moved_amount r) (amount_under k now))) (sym same) (under_same r.keyword (raise r) (moved_amount r) now) in
        omega (arith, rest, ap (λ o. count (content_in o) e) none, count-nothing e, ap (λ o. count (content_in o) e) at, own_more r (amount_under q now) e)

-- ---- a seat that becomes others

module _ (out : List BrandSupply) (cur : List Share) (cur_kinds : AllByRecursion (λ (r : Share). IsOfKind out r.amount) cur) (after : List Share) (can : CanBecome out cur after) where
  abbrev mid : List Share
  mid = with_less cur (lost cur after)

  lost_apart : AreApart (lost cur after)
  lost_apart = some_apart (lost_by cur) after can.apart

  gained_apart : AreApart (gained cur after)
  gained_apart = some_apart (gained_by cur) after can.apart

  none_fresh : fresh_in cur (lost cur after) ≡ 0
  none_fresh = there_fresh out cur cur_kinds (lost cur after) (lost_there out cur cur_kinds after)

  pub loses : CanTakeAll cur (lost cur after)
  loses = can_take_all cur (lost cur after) lost_apart (all_lose out cur cur_kinds after can.of_kinds can.of_brands) (omega (arith, can.few, none_fresh))

  count_mid : (q e : List ℕ) → count (content_under q mid) e ≡ count (content_under q cur) e - count (content_under q (lost cur after)) e
  count_mid q e = count_less cur (lost cur after) q e lost_apart

  can_gain : (r : Share) → IsOfKind out r.amount → IsValue r.amount.value.kind r.amount.value.content → OfBrand cur r.keyword r.amount.brand → amount_under r.keyword after ≡ Some r.amount → CanAddTo (amount_under r.keyword mid) (part_share (gained_by cur) r)
  can_gain r kind value of own = by (amount_under r.keyword cur) refl of
    where
      whole : (y : Amount) → amount_under r.keyword mid ≡ Some y → sum y.value.content (gained_by cur r) ≡ r.amount.value.content
      whole y at = same_content (sum y.value.content (gained_by cur r)) r.amount.value.content (λ e. omega (
        arith,
        count-sum y.value.content (gained_by cur r) e,
        count-difference r.amount.value.content (content_under r.keyword cur) e,
        ap (λ o. count (content_in o) e) at,
        count_mid r.keyword e,
        some_count (lost_by cur) r.keyword e r.amount after can.apart own,
        count-difference (content_under r.keyword cur) r.amount.value.content e,
      ))

      takes : (a : Amount) → a.brand ≡ r.amount.brand → IsOfKind out a → (o : Option Amount) → amount_under r.keyword mid ≡ o → IsSomeAnd o (λ y. Meet y a) → CanAddTo o (part_share (gained_by cur) r)
      takes a same is None at meets = absurd meets
      takes a same is (Some y) at meets = record {
        brand = meets.brand ∙ same;
        kind = meets.kind ∙ kind_there out cur cur_kinds r a kind is same;
        value = subst (IsValue r.amount.value.kind) (sym (whole y at)) value;
      }

      by : (o : Option Amount) → amount_under r.keyword cur ≡ o → IfSome o (λ a. a.brand ≡ r.amount.brand) → CanAddTo (amount_under r.keyword mid) (part_share (gained_by cur) r)
      by None at same =
          subst (λ o. CanAddTo o (part_share (gained_by cur) r)) (sym (as_it_was r.keyword cur (lost cur after) (none_of_it out cur cur_kinds r.keyword at (lost cur after) (lost_there out cur cur_kinds after)) ∙ at))
          (less_valued r.amount.value.kind r.amount.value.content (content_under r.keyword cur) value)
      by (Some a) at same =
          takes a same (subst (λ o. IfSome o (IsOfKind out)) at (under_all (IsOfKind out) r.keyword cur cur_kinds)) (amount_under r.keyword mid) refl
          (stays r.keyword a cur (lost cur after) (subst (λ o. IsSomeAnd o (λ y. Meet y a)) (sym at) (record { brand = refl; kind = refl })))

  all_gain : (rs : List Share) → AllByRecursion (λ (r : Share). IsOfKind out r.amount) rs → AllByRecursion (λ (r : Share). IsValue r.amount.value.kind r.amount.value.content) rs → AllByRecursion (λ (r : Share). OfBrand cur r.keyword r.amount.brand) rs → AllByRecursion (λ (r : Share). amount_under r.keyword after ≡ Some r.amount) rs → AllByRecursion (λ (x : Share). CanAddTo (amount_under x.keyword mid) x) (gained cur rs)
  all_gain [] kinds values of own = tt
  all_gain (r ∷ rs) kinds values of own = by (is_nothing (gained_by cur r)) (all_gain rs kinds.1 values.1 of.1 own.1)
    where
      by : (b : Bool) → AllByRecursion (λ (x : Share). CanAddTo (amount_under x.keyword mid) x) (gained cur rs) → AllByRecursion (λ (x : Share). CanAddTo (amount_under x.keyword mid) x) (if b then gained cur rs else part_share (gained_by cur) r ∷ gained cur rs)
      by true rest = rest
      by false rest = (can_gain r kinds.0 values.0 of.0 own.0, rest)

  -- no keyword has lost its slot
  fresh_mid : (rs : List Share) → fresh_in mid rs ≤ fresh_in cur rs
  fresh_mid [] = omega arith
  fresh_mid (r ∷ rs) = by (amount_under r.keyword cur) refl (amount_under r.keyword mid) refl (fresh_mid rs)
    where
      by : (o : Option Amount) → amount_under r.keyword cur ≡ o → (p : Option Amount) → amount_under r.keyword mid ≡ p → fresh_in mid rs ≤ fresh_in cur rs → cond (is_none p) (suc (fresh_in mid rs)) (fresh_in mid rs) ≤ cond (is_none o) (suc (fresh_in cur rs)) (fresh_in cur rs)
      by None at None now le = omega (arith, le)
      by None at (Some y) now le = omega (arith, le)
      by (Some a) at (Some y) now le = le
      by (Some a) at None now le =
          let meets : IsSomeAnd (amount_under r.keyword mid) (λ y. Meet y a) = stays r.keyword a cur (lost cur after) (subst (λ o. IsSomeAnd o (λ y. Meet y a)) (sym at) (record { brand = refl; kind = refl })) in
          absurd (subst (λ o. IsSomeAnd o (λ y. Meet y a)) now meets)

  many : length mid + fresh_in mid (gained cur after) ≤ length cur + fresh_in cur after
  many = omega (arith, with_less_many cur (lost cur after) lost_apart, none_fresh, fresh_mid (gained cur after), some_fresh (gained_by cur) cur after)

  pub gains : CanAddAll mid (gained cur after)
  gains = can_add_all mid (gained cur after) gained_apart (all_gain after can.of_kinds can.valued can.of_brands (under_own after can.apart)) (omega (arith, many, can.few))

  pub new_many : length (changed_shares cur after) ≤ length cur + fresh_in cur after
  new_many = omega (arith, with_more_many mid (gained cur after) gained_apart, many)

  pub new_has : (q : List ℕ) → Contains (content_under q (changed_shares cur after)) (content_under q after)
  new_has q = by (amount_under q after) refl
    where
      by : (o : Option Amount) → amount_under q after ≡ o → Contains (content_under q (changed_shares cur after)) (content_in o)
      by None at = record { each = λ e. omega (arith, count-nothing e) }
      by (Some b) at = record {
        each = λ e. omega (
          arith,
          count_more mid (gained cur after) q e gained_apart,
          count_mid q e,
          some_count (lost_by cur) q e b after can.apart at,
          some_count (gained_by cur) q e b after can.apart at,
          count-difference (content_under q cur) b.value.content e,
          count-difference b.value.content (content_under q cur) e,
        );
      }

  pub new_safe : (p : Proposal) → IsOfferSafe p after → IsOfferSafe p (changed_shares cur after)
  new_safe p safe = still_safe p after (changed_shares cur after) new_has safe

  pub lost_kinds : AllByRecursion (λ (r : Share). IsOfKind out r.amount) (lost cur after)
  lost_kinds = some_all (lost_by cur) (λ (r : Share). IsOfKind out r.amount) (λ (r : Share). IsOfKind out r.amount) (λ r is. record { made = is.made; kind = is.kind }) after can.of_kinds

  pub gained_kinds : AllByRecursion (λ (r : Share). IsOfKind out r.amount) (gained cur after)
  gained_kinds = some_all (gained_by cur) (λ (r : Share). IsOfKind out r.amount) (λ (r : Share). IsOfKind out r.amount) (λ r is. record { made = is.made; kind = is.kind }) after can.of_kinds

-- ---- how much there is together

abbrev pub had : List Share → Share → Content
had cur r = content_under r.keyword cur

pub share_balance : (cur : List Share) (brand : ℕ) (e : List ℕ) (rs : List Share) → parts_count (gained_by cur) brand e rs + parts_count (had cur) brand e rs ≡ shares_count brand e rs + parts_count (lost_by cur) brand e rs
share_balance cur brand e [] = refl
share_balance cur brand e (r ∷ rs) = omega (arith, share_balance cur brand e rs, one (r.amount.brand == brand), sum_by-cons (share_count brand e) r rs)
  where
    one : (t : Bool) → (if t then count (gained_by cur r) e else 0) + (if t then count (had cur r) e else 0) ≡ (if t then count r.amount.value.content e else 0) + (if t then count (lost_by cur r) e else 0)
    one true = omega (arith, count-difference r.amount.value.content (content_under r.keyword cur) e, count-difference (content_under r.keyword cur) r.amount.value.content e)
    one false = refl

-- ---- slots that are settled with shares

parts_append : (part : Share → Content) (brand : ℕ) (e : List ℕ) (xs ys : List Share) → parts_count part brand e (xs ++ ys) ≡ parts_count part brand e xs + parts_count part brand e ys
parts_append part brand e [] ys = omega arith
parts_append part brand e (x ∷ xs) ys = omega (arith, parts_append part brand e xs ys)

-- slots have what stands under their own keywords
had_filled : (cur shares : List Share) (brand : ℕ) (e : List ℕ) (cs : List Share) → AllByRecursion (λ (r : Share). amount_under r.keyword cur ≡ Some r.amount) cs → parts_count (had cur) brand e (map (filled shares) cs) ≡ shares_count brand e cs
had_filled cur shares brand e [] own = refl
had_filled cur shares brand e (c ∷ cs) own =
    omega (
      arith,
      had_filled cur shares brand e cs own.1,
      sum_by-cons (share_count brand e) c cs,
      ap (λ o. if c.amount.brand == brand then count (content_in o) e else 0) own.0,
    )

had_free : (cur : List Share) (brand : ℕ) (e : List ℕ) (ys : List Share) → AllByRecursion (λ (r : Share). amount_under r.keyword cur ≡ None) ys → parts_count (had cur) brand e ys ≡ 0
had_free cur brand e [] free = refl
had_free cur brand e (y ∷ ys) free = omega (arith, had_free cur brand e ys free.1, zero_if (y.amount.brand == brand), ap (λ o. if y.amount.brand == brand then count (content_in o) e else 0) free.0)
  where
    zero_if : (t : Bool) → (if t then count nothing e else 0) ≡ 0
    zero_if true = count-nothing e
    zero_if false = refl

opened_free : (cur shares : List Share) → AllByRecursion (λ (r : Share). amount_under r.keyword cur ≡ None) (opened cur shares)
opened_free cur shares = all_filter (λ (r : Share). amount_under r.keyword cur ≡ None) has_some (further cur shares) (each_of_all (λ (r : Share). amount_under r.keyword cur ≡ None) (further cur shares) (free_further cur shares))

-- of what slots are settled with, the slots have together what they have
pub had_settled : (cur shares : List Share) (brand : ℕ) (e : List ℕ) → AreApart cur → parts_count (had cur) brand e (settled cur shares) ≡ shares_count brand e cur
had_settled cur shares brand e apart =
    parts_append (had cur) brand e (map (filled shares) cur) (opened cur shares)
    ∙ omega (arith, had_filled cur shares brand e cur (under_own cur apart), had_free cur brand e (opened cur shares) (opened_free cur shares))

fresh_append : (cur xs ys : List Share) → fresh_in cur (xs ++ ys) ≡ fresh_in cur xs + fresh_in cur ys
fresh_append cur [] ys = omega arith
fresh_append cur (x ∷ xs) ys = by (is_none (amount_under x.keyword cur)) (fresh_append cur xs ys)
  where
    by : (t : Bool) → fresh_in cur (xs ++ ys) ≡ fresh_in cur xs + fresh_in cur ys → cond t (suc (fresh_in cur (xs ++ ys))) (fresh_in cur (xs ++ ys)) ≡ cond t (suc (fresh_in cur xs)) (fresh_in cur xs) + fresh_in cur ys
    by true e = omega (arith, e)
    by false e = e

fresh_filled : (cur shares cs : List Share) → AllByRecursion (λ (r : Share). amount_under r.keyword cur ≡ Some r.amount) cs → fresh_in cur (map (filled shares) cs) ≡ 0
fresh_filled cur shares [] own = refl
fresh_filled cur shares (c ∷ cs) own = ap (λ o. cond (is_none o) (suc (fresh_in cur (map (filled shares) cs))) (fresh_in cur (map (filled shares) cs))) own.0 ∙ fresh_filled cur shares cs own.1

fresh_few : (cur ys : List Share) → fresh_in cur ys ≤ length ys
fresh_few cur [] = omega arith
fresh_few cur (y ∷ ys) = by (is_none (amount_under y.keyword cur)) (fresh_few cur ys)
  where
    by : (t : Bool) → fresh_in cur ys ≤ length ys → cond t (suc (fresh_in cur ys)) (fresh_in cur ys) ≤ suc (length ys)
    by true le = omega (arith, le)
    by false le = omega (arith, le)

pub settled_many : (cur shares : List Share) → AreApart cur → length cur + fresh_in cur (settled cur shares) ≤ length (settled cur shares)
settled_many cur shares apart = omega (
  arith,
  fresh_append cur (map (filled shares) cur) (opened cur shares),
  fresh_filled cur shares cur (under_own cur apart),
  fresh_few cur (opened cur shares),
  length_append (map (filled shares) cur) (opened cur shares),
  length_map (filled shares) cur,
)
