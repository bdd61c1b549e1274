-- Shares that slots may be settled with, and that they stay such where a record is added to them, or taken from them.
use Rattle.std.specs.Prelude.{IfSome, is_none, map}
use Rattle.std.specs.List.{AllByRecursion}
use Rattle.std.specs.Option.{option_map_or}
use Rattle.std.specs.Str.{bytes_eq}
use Rattle.std.proofs.Common.{◌≡◌, Bool, true, false, cond, List, ℕ, [], ◌∷◌, ◌++◌, Option, Some, None, Ok, refl, sym, ap, subst, if◌then◌else◌}
use Rattle.std.proofs.lemmas.Slice.Eq.{bytes_eq-Decides}
use Rattle.rules.specs.proposals.Gains.{with_gains}
use Rattle.rules.specs.proposals.Losses.{without}
use Rattle.rules.specs.proposals.ChangedShares.{further}
use Rattle.rules.proofs.proposals.Apart.{AreApart-further, AreApart-map}
use Rattle.world_laws.specs.amount_math.Amount.{holding}
use Rattle.world_laws.specs.amount_math.Content.{Content, difference, nothing, sum, sum-nothing}
use Rattle.world_laws.specs.amount_math.KindLaws.{value_of_sum}
use Rattle.world_laws.specs.amount_math.ValueView.{Fits, HasFew, IsValue}
use Rattle.world_laws.specs.amount_math.declared.Amount.{Amount}
use Rattle.world_laws.specs.amount_math.declared.Kind.{Kind}
use Rattle.rules.specs.rearrange.Slots.{each_passes, fits_slot}
use Rattle.rules.specs.proposals.Shares.{AreApart, amount_under, content_under, keyed_share}
use Rattle.rules.specs.proposals.Slots.{in_byte_order, is_upto, placed}
use Rattle.rules.specs.proposals.declared.allocations.Share.{Share}
use Rattle.rules.proofs.value_tests.Exact.{value_passed}
use Rattle.world_laws.proofs.Lists.{all_append, all_filter}
use Rattle.world_laws.proofs.Proposed.{under_own}
use Rattle.world_laws.proofs.Valued.{less_valued}
use Rattle.world_laws.specs.world_state.Good.{AreNamed, AreSharesOf, AreSharesValued, IsAmountValued, IsGoodWorld, IsKeyword, IsOfKind, IsOfSlot}
use Rattle.world_laws.specs.world_state.Worlds.{State}
use Rattle.rule_laws.proofs.SharesRead.{IsReadShare, read_of_kinds, read_valued}
use Rattle.rule_laws.proofs.GivenShares.{HasSlots, OfBrand, passed, same_kind}

-- ---- shares of the same keywords with other contents

abbrev pub other : (Share → Content) → Share → Share
other content r = keyed_share r.keyword (holding r.amount (content r))

pub each_map : (P Q : Share → Type 0) (f : Share → Share) → ((r : Share) → P r → Q (f r)) → (rs : List Share) → AllByRecursion P rs → AllByRecursion Q (map f rs)
each_map P Q f to [] all = tt
each_map P Q f to (r ∷ rs) all = (to r all.0, each_map P Q f to rs all.1)

each_both : (P Q : Share → Type 0) (rs : List Share) → AllByRecursion P rs → AllByRecursion Q rs → AllByRecursion (λ r. P r × Q r) rs
each_both P Q [] p q = tt
each_both P Q (r ∷ rs) p q = ((p.0, q.0), each_both P Q rs p.1 q.1)

-- what each share is told of by its keyword is told of what stands under it
pub under_share : (P : List ℕ → Amount → Type 0) (k : List ℕ) (rs : List Share) → AllByRecursion (λ (r : Share). P r.keyword r.amount) rs → IfSome (amount_under k rs) (P k)
under_share P k [] all = tt
under_share P k (r ∷ rs) all = by (bytes_eq k r.keyword) refl (under_share P k rs all.1)
  where
    by : (b : Bool) → bytes_eq k r.keyword ≡ b → IfSome (amount_under k rs) (P k) → IfSome (cond b (Some r.amount) (amount_under k rs)) (P k)
    by true e later = subst (λ q. P q r.amount) (sym ((bytes_eq-Decides k r.keyword).0 e)) all.0
    by false e later = later

-- ---- shares in byte order, and those of keywords that had no slot

placed_all : (P : Share → Type 0) (r : Share) (rs : List Share) → P r → AllByRecursion P rs → AllByRecursion P (placed r rs)
placed_all P r [] one all = (one, tt)
placed_all P r (x ∷ xs) one all = by (is_upto r.keyword x.keyword) (placed_all P r xs one all.1)
  where
    by : (b : Bool) → AllByRecursion P (placed r xs) → AllByRecursion P (if b then r ∷ x ∷ xs else x ∷ placed r xs)
    by true rest = (one, all)
    by false rest = (all.0, rest)

ordered_all : (P : Share → Type 0) (rs : List Share) → AllByRecursion P rs → AllByRecursion P (in_byte_order rs)
ordered_all P [] all = tt
ordered_all P (r ∷ rs) all = placed_all P r (in_byte_order rs) all.0 (ordered_all P rs all.1)

pub further_all : (P : Share → Type 0) (slots shares : List Share) → AllByRecursion P shares → AllByRecursion P (further slots shares)
further_all P slots shares all = all_filter P (λ (r : Share). is_none (amount_under r.keyword slots)) (in_byte_order shares) (ordered_all P shares all)

-- ---- shares that slots may be settled with

pub record MaySettle (w : State) (slots shares : List Share) : Type 0 where
  pub apart : AreApart shares
  pub named : AreNamed shares
  pub of_kinds : AreSharesOf w.rights.out shares
  pub valued : AreSharesValued shares
  pub of_slots : AllByRecursion (IsOfSlot slots) shares

own_slots : (slots rs : List Share) → AllByRecursion (λ (r : Share). amount_under r.keyword slots ≡ Some r.amount) rs → AllByRecursion (IsOfSlot slots) rs
own_slots slots [] all = tt
own_slots slots (r ∷ rs) all = (subst (λ o. IfSome o (λ (a : Amount). a.brand ≡ r.amount.brand)) (sym all.0) refl, own_slots slots rs all.1)

-- what slots have already is such
pub slots_may : (w : State) (slots : List Share) → HasSlots w slots → MaySettle w slots slots
slots_may w slots has = record {
  apart = has.shares.apart;
  named = has.named;
  of_kinds = has.of_kinds;
  valued = has.valued;
  of_slots = own_slots slots slots (under_own slots has.shares.apart);
}

-- shares that are read: keywords of their own, each a value of a brand that was made, of the slot's brand
pub record AreFitting (w : State) (slots shares : List Share) : Type 0 where
  pub each : AllByRecursion (IsReadShare w) shares
  pub apart : AreApart shares
  pub named : AreNamed shares
  pub of_slots : AllByRecursion (IsOfSlot slots) shares

-- ---- once a record is added

module _ (w : State) (good : IsGoodWorld w) (now : List Share) (apart : AreApart now) (kinds : AreSharesOf w.rights.out now) (valued : AreSharesValued now) (shares : List Share) where
  abbrev Gains : List ℕ → Amount → Type 0
  Gains k a = (IsReadShare w (keyed_share k a) × OfBrand now k a.brand) × (fits_slot now (keyed_share k a) ≡ Ok tt)

  all_gain : (rs : List Share) → AllByRecursion (IsReadShare w) rs → AllByRecursion (λ (r : Share). OfBrand now r.keyword r.amount.brand) rs → each_passes (fits_slot now) rs ≡ Ok tt → AllByRecursion (λ (r : Share). Gains r.keyword r.amount) rs
  all_gain [] read fit fits = tt
  all_gain (r ∷ rs) read fit fits =
      let both = passed (fits_slot now r) (each_passes (fits_slot now) rs) fits in
      (((record { brand = read.0.brand; value = read.0.value }, fit.0), both.0), all_gain rs read.1 fit.1 both.1)

  abbrev content_in : Option Amount → Content
  content_in o = option_map_or (λ (a : Amount). a.value.content) o nothing

  gained : (r : Share) → (amount_under r.keyword now ≡ Some r.amount) × IsAmountValued r.amount → IsOfKind w.rights.out r.amount → AllByRecursion (λ (g : Share). Gains g.keyword g.amount) shares → IsValue r.amount.value.kind (sum r.amount.value.content (content_under r.keyword shares))
  gained r own kind gains = by (amount_under r.keyword shares) (under_share Gains r.keyword shares gains)
    where
      by : (o : Option Amount) → IfSome o (Gains r.keyword) → IsValue r.amount.value.kind (sum r.amount.value.content (content_in o))
      by None gains = subst (IsValue r.amount.value.kind) (sym (sum-nothing r.amount.value.content)) own.1
      by (Some a) gains =
          let same : r.amount.brand ≡ a.brand = subst (λ o. IfSome o (λ (x : Amount). x.brand ≡ a.brand)) own.0 gains.0.1 in
          let k = same_kind w good (keyed_share r.keyword a) r.amount gains.0.0 kind same in
          let at : sum (content_under r.keyword now) a.value.content ≡ sum r.amount.value.content a.value.content = ap (λ o. sum (content_in o) a.value.content) own.0 in
          let both = value_passed a.value.kind (sum (content_under r.keyword now) a.value.content) gains.1 in
          let fits : Fits a.value.kind (sum r.amount.value.content a.value.content) = subst (Fits a.value.kind) at both.0 in
          let few : HasFew a.value.kind (sum r.amount.value.content a.value.content) = subst (HasFew a.value.kind) at both.1 in
          subst (λ (q : Kind). IsValue q (sum r.amount.value.content a.value.content)) (sym k)
          (value_of_sum a.value.kind r.amount.value.content a.value.content (subst (λ (q : Kind). IsValue q r.amount.value.content) k own.1) gains.0.0.value fits few)

  all_gained : (rs : List Share) → AllByRecursion (λ (r : Share). (amount_under r.keyword now ≡ Some r.amount) × IsAmountValued r.amount) rs → AllByRecursion (λ (r : Share). IsOfKind w.rights.out r.amount) rs → AllByRecursion (λ (g : Share). Gains g.keyword g.amount) shares → AllByRecursion (λ (r : Share). IsValue r.amount.value.kind (sum r.amount.value.content (content_under r.keyword shares))) rs
  all_gained [] own kinds gains = tt
  all_gained (r ∷ rs) own kinds gains = (gained r own.0 kinds.0 gains, all_gained rs own.1 kinds.1 gains)

  raised_valued : AllByRecursion (IsReadShare w) shares → AllByRecursion (λ (r : Share). OfBrand now r.keyword r.amount.brand) shares → each_passes (fits_slot now) shares ≡ Ok tt → AllByRecursion (λ (r : Share). IsValue r.amount.value.kind (sum r.amount.value.content (content_under r.keyword shares))) now
  raised_valued read fit fits =
      all_gained now (each_both (λ (r : Share). amount_under r.keyword now ≡ Some r.amount) (λ (r : Share). IsAmountValued r.amount) now (under_own now apart) valued) kinds (all_gain shares read fit fits)

-- ---- once one is taken

lowered_valued : (losses now : List Share) → AreSharesValued now → AllByRecursion (λ (r : Share). IsValue r.amount.value.kind (difference r.amount.value.content (content_under r.keyword losses))) now
lowered_valued losses [] all = tt
lowered_valued losses (r ∷ rs) all = (less_valued r.amount.value.kind r.amount.value.content (content_under r.keyword losses) all.0, lowered_valued losses rs all.1)

-- ---- they may still be settled with

module _ (w : State) (slots now : List Share) (may : MaySettle w slots now) where
  others_may : (content : Share → Content) → AllByRecursion (λ (r : Share). IsValue r.amount.value.kind (content r)) now → MaySettle w slots (map (other content) now)
  others_may content values = record {
    apart = AreApart-map (other content) (λ r. refl) now may.apart;
    named = each_map (λ (r : Share). IsKeyword r.keyword) (λ (r : Share). IsKeyword r.keyword) (other content) (λ r h. h) now may.named;
    of_kinds = each_map (λ (r : Share). IsOfKind w.rights.out r.amount) (λ (r : Share). IsOfKind w.rights.out r.amount) (other content) (λ r h. record { made = h.made; kind = h.kind }) now may.of_kinds;
    valued = each_map (λ (r : Share). IsValue r.amount.value.kind (content r)) (λ (r : Share). IsAmountValued r.amount) (other content) (λ r h. h) now values;
    of_slots = each_map (IsOfSlot slots) (IsOfSlot slots) (other content) (λ r h. h) now may.of_slots;
  }

  more_may : IsGoodWorld w → (content : Share → Content) → AllByRecursion (λ (r : Share). IsValue r.amount.value.kind (content r)) now → (shares : List Share) → AreFitting w slots shares → MaySettle w slots (map (other content) now ++ further now shares)
  more_may good content values shares fit =
      let rest = others_may content values in
      record {
        apart = AreApart-further (other content) (λ r. refl) now shares may.apart fit.apart;
        named = all_append (λ (r : Share). IsKeyword r.keyword) (map (other content) now) (further now shares) rest.named (further_all (λ (r : Share). IsKeyword r.keyword) now shares fit.named);
        of_kinds = all_append (λ (r : Share). IsOfKind w.rights.out r.amount) (map (other content) now) (further now shares) rest.of_kinds (further_all (λ (r : Share). IsOfKind w.rights.out r.amount) now shares (read_of_kinds w good shares fit.each));
        valued = all_append (λ (r : Share). IsAmountValued r.amount) (map (other content) now) (further now shares) rest.valued (further_all (λ (r : Share). IsAmountValued r.amount) now shares (read_valued w shares fit.each));
        of_slots = all_append (IsOfSlot slots) (map (other content) now) (further now shares) rest.of_slots (further_all (IsOfSlot slots) now shares fit.of_slots);
      }

  pub without_may : (losses : List Share) → MaySettle w slots (without now losses)
  without_may losses = others_may (λ (r : Share). difference r.amount.value.content (content_under r.keyword losses)) (lowered_valued losses now may.valued)

  pub less_may : IsGoodWorld w → (losses : List Share) → AreFitting w slots losses → MaySettle w slots (without now losses ++ further now losses)
  less_may good losses fit = more_may good (λ (r : Share). difference r.amount.value.content (content_under r.keyword losses)) (lowered_valued losses now may.valued) losses fit

  pub gains_may : IsGoodWorld w → (gains : List Share) → AreFitting w slots gains → AllByRecursion (λ (r : Share). OfBrand now r.keyword r.amount.brand) gains → each_passes (fits_slot now) gains ≡ Ok tt → MaySettle w slots (with_gains now gains)
  gains_may good gains fit of fits = more_may good (λ (r : Share). sum r.amount.value.content (content_under r.keyword gains)) (raised_valued w good now may.apart may.of_kinds may.valued gains fit.each of fits) gains fit
