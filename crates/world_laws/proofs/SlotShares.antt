-- Shares of which one is changed under a keyword, or opened: their keywords stay apart, and each amount stays of its brand and kind.
use Rattle.std.specs.Prelude.{IsSomeAnd, slice_set}
use Rattle.std.specs.List.{AllByRecursion}
use Rattle.std.specs.Str.{bytes_eq}
use Rattle.std.proofs.Common.{◌≡◌, ℕ, zero, suc, ◌+◌, ◌<◌, ◌≤◌, Bool, true, false, cond, List, [], ◌∷◌, Some, None, Option, length, map, refl, sym, ◌∙◌, ap, arith, if◌then◌else◌}
use Rattle.std.proofs.lemmas.Slice.Eq.{bytes_eq-Decides}
use Rattle.world_state.specs.amount_math.Amount.{Meet}
use Rattle.world_state.specs.amount_math.declared.Amount.{Amount}
use Rattle.world_state.specs.proposals.Shares.{AreApart, AreShares, amount_under, most_shares, keyed_share}
use Rattle.world_state.specs.proposals.Slots.{emptied}
use Rattle.world_state.specs.proposals.declared.allocations.Share.{Share}
use Rattle.world_state.specs.Good.{AreNamed, HasSlot, IsKeyword}
use Rattle.world_state.specs.Rights.{changed_share, shares_with, slots_at}

pub skip : {X : Type 0} (b : Bool) (x y : X) (o p : Option X) → (o ≡ None → p ≡ None) → cond b (Some x) o ≡ None → cond b (Some y) p ≡ None
skip true x y o p to h = absurd (cc)
skip false x y o p to h = to h

pub other_way : (k q : List ℕ) → bytes_eq k q ≡ false → bytes_eq q k ≡ false
other_way k q e = by (bytes_eq q k) refl
  where
    by : (b : Bool) → bytes_eq q k ≡ b → b ≡ false
    by false is = refl
    by true is = let clash : true ≡ false = sym ((bytes_eq-Decides k q).1 (sym ((bytes_eq-Decides q k).0 is))) ∙ e in clash

-- ---- what stands under a keyword keeps its brand and kind

abbrev pub Carried : Option Amount → Option Amount → Type 0
Carried None p = Unit {0}
Carried (Some x) p = IsSomeAnd p (λ y. Meet y x)

meets_itself : (a : Amount) → Meet a a
meets_itself a = record { brand = refl; kind = refl }

pub carried_refl : (o : Option Amount) → Carried o o
carried_refl None = tt
carried_refl (Some x) = meets_itself x

pub carried_trans : (a b c : Option Amount) → Carried a b → Carried b c → Carried a c
carried_trans None b c f g = tt
carried_trans (Some x) None c f g = absurd f
carried_trans (Some x) (Some y) None f g = absurd g
carried_trans (Some x) (Some y) (Some z) f g = record { brand = g.brand ∙ f.brand; kind = g.kind ∙ f.kind }

slot_by : (o p : Option Amount) (a : Amount) → Carried o p → IsSomeAnd o (λ slot. Meet slot a) → IsSomeAnd p (λ slot. Meet slot a)
slot_by None p a c has = absurd has
slot_by (Some x) None a c has = absurd c
slot_by (Some x) (Some y) a c has = record { brand = c.brand ∙ has.brand; kind = c.kind ∙ has.kind }

-- shares that carry others have the slots that those have
pub has_carried : (shares new : List Share) (share : Share) → Carried (amount_under share.keyword shares) (amount_under share.keyword new) → HasSlot shares share → HasSlot new share
has_carried shares new share c has = slot_by (amount_under share.keyword shares) (amount_under share.keyword new) share.amount c has

pub have_carried : (shares new : List Share) → ((q : List ℕ) → Carried (amount_under q shares) (amount_under q new)) → (rs : List Share) → AllByRecursion (HasSlot shares) rs → AllByRecursion (HasSlot new) rs
have_carried shares new c [] all = tt
have_carried shares new c (r ∷ rs) all = (has_carried shares new r (c r.keyword) all.0, have_carried shares new c rs all.1)

carried_cond : (b : Bool) (x y : Amount) (o p : Option Amount) → Meet y x → Carried o p → Carried (cond b (Some x) o) (cond b (Some y) p)
carried_cond true x y o p m c = m
carried_cond false x y o p m c = c

pub carried_emptied : (q : List ℕ) (rs : List Share) → Carried (amount_under q rs) (amount_under q (map emptied rs))
carried_emptied q [] = tt
carried_emptied q (r ∷ rs) = carried_cond (bytes_eq q r.keyword) r.amount (emptied r).amount (amount_under q rs) (amount_under q (map emptied rs)) (record { brand = refl; kind = refl }) (carried_emptied q rs)

-- ---- one share is changed, or opened

module _ (k : List ℕ) (change : Amount → Amount) (new : Amount) where
  abbrev with_share : List Share → List Share
  with_share rs = shares_with k change new rs

  abbrev chosen : Bool → Share → List Share → List Share
  chosen b r rs = if b then changed_share change r ∷ rs else r ∷ with_share rs

  none_one : (q : List ℕ) → bytes_eq q k ≡ false → amount_under q (keyed_share k new ∷ []) ≡ None
  none_one q e = ap (λ b. cond b (Some new) None) e

  none_with : (q : List ℕ) (rs : List Share) → bytes_eq q k ≡ false → amount_under q rs ≡ None → amount_under q (with_share rs) ≡ None
  none_with q [] apart none = none_one q apart
  none_with q (r ∷ rs) apart none = by (bytes_eq k r.keyword) (none_with q rs apart)
    where
      by : (b : Bool) → (amount_under q rs ≡ None → amount_under q (with_share rs) ≡ None) → amount_under q (chosen b r rs) ≡ None
      by true to = skip (bytes_eq q r.keyword) r.amount (change r.amount) (amount_under q rs) (amount_under q rs) (λ e. e) none
      by false to = skip (bytes_eq q r.keyword) r.amount r.amount (amount_under q rs) (amount_under q (with_share rs)) to none

  apart_with : (rs : List Share) → AreApart rs → AreApart (with_share rs)
  apart_with [] apart = (refl, tt)
  apart_with (r ∷ rs) apart = by (bytes_eq k r.keyword) refl (apart_with rs apart.1)
    where
      by : (b : Bool) → bytes_eq k r.keyword ≡ b → AreApart (with_share rs) → AreApart (chosen b r rs)
      by true e rest = apart
      by false e rest = (none_with r.keyword rs (other_way k r.keyword e) apart.0, rest)

  length_with : (rs : List Share) → length (with_share rs) ≤ length rs + 1
  length_with [] = omega arith
  length_with (r ∷ rs) = by (bytes_eq k r.keyword) (length_with rs)
    where
      by : (b : Bool) → length (with_share rs) ≤ length rs + 1 → length (chosen b r rs) ≤ suc (length rs) + 1
      by true rest = omega arith
      by false rest = omega (arith, rest)

  as_long : (x : Amount) (rs : List Share) → amount_under k rs ≡ Some x → length (with_share rs) ≡ length rs
  as_long x [] is = absurd (cc)
  as_long x (r ∷ rs) is = by (bytes_eq k r.keyword) (as_long x rs) is
    where
      by : (b : Bool) → (amount_under k rs ≡ Some x → length (with_share rs) ≡ length rs) → cond b (Some r.amount) (amount_under k rs) ≡ Some x → length (chosen b r rs) ≡ suc (length rs)
      by true to e = refl
      by false to e = ap suc (to e)

  pub shares_with_are : (rs : List Share) → (amount_under k rs ≡ None → length rs < most_shares) → AreShares rs → AreShares (with_share rs)
  shares_with_are rs room is = record { few = by (amount_under k rs) refl; apart = apart_with rs is.apart }
    where
      by : (o : Option Amount) → amount_under k rs ≡ o → length (with_share rs) ≤ most_shares
      by None e = omega (arith, room e, length_with rs)
      by (Some x) e = omega (arith, is.few, as_long x rs e)

  pub shares_with_named : IsKeyword k → (rs : List Share) → AreNamed rs → AreNamed (with_share rs)
  shares_with_named named [] all = (named, tt)
  shares_with_named named (r ∷ rs) all = by (bytes_eq k r.keyword) (shares_with_named named rs all.1)
    where
      by : (b : Bool) → AreNamed (with_share rs) → AreNamed (chosen b r rs)
      by true rest = all
      by false rest = (all.0, rest)

  pub carried_with : ((x : Amount) → Meet (change x) x) → (q : List ℕ) (rs : List Share) → Carried (amount_under q rs) (amount_under q (with_share rs))
  carried_with same q [] = tt
  carried_with same q (r ∷ rs) = by (bytes_eq k r.keyword) (carried_with same q rs)
    where
      by : (b : Bool) → Carried (amount_under q rs) (amount_under q (with_share rs)) → Carried (amount_under q (r ∷ rs)) (amount_under q (chosen b r rs))
      by true rest = carried_cond (bytes_eq q r.keyword) r.amount (change r.amount) (amount_under q rs) (amount_under q rs) (same r.amount) (carried_refl (amount_under q rs))
      by false rest = carried_cond (bytes_eq q r.keyword) r.amount r.amount (amount_under q rs) (amount_under q (with_share rs)) (meets_itself r.amount) rest

-- ---- the slots of all seats

-- what each seat has under each keyword
abbrev pub under_at : List (List Share) → ℕ → List ℕ → Option Amount
under_at slots s q = amount_under q (slots_at slots s)

pub record CarriesSlots (old new : List (List Share)) : Type 0 where
  pub each : (s : ℕ) (q : List ℕ) → Carried (under_at old s q) (under_at new s q)

pub carries_refl : (slots : List (List Share)) → CarriesSlots slots slots
carries_refl slots = record { each = λ s q. carried_refl (under_at slots s q) }

pub carries_trans : (a b c : List (List Share)) → CarriesSlots a b → CarriesSlots b c → CarriesSlots a c
carries_trans a b c f g = record { each = λ s q. carried_trans (under_at a s q) (under_at b s q) (under_at c s q) (f.each s q) (g.each s q) }

pub carries_set : (slots : List (List Share)) (n : ℕ) (shares : List Share) → ((q : List ℕ) → Carried (under_at slots n q) (amount_under q shares)) → CarriesSlots slots (slice_set slots n shares)
carries_set slots n shares to = record { each = by slots n to }
  where
    by : (slots : List (List Share)) (n : ℕ) → ((q : List ℕ) → Carried (under_at slots n q) (amount_under q shares)) → (s : ℕ) (q : List ℕ) → Carried (under_at slots s q) (under_at (slice_set slots n shares) s q)
    by [] n to s q = tt
    by (x ∷ xs) zero to zero q = to q
    by (x ∷ xs) zero to (suc s) q = carried_refl (under_at xs s q)
    by (x ∷ xs) (suc n) to zero q = carried_refl (amount_under q x)
    by (x ∷ xs) (suc n) to (suc s) q = by xs n to s q
