-- All amounts for a seat and one keyword are of one brand and kind: what its slots have, what it was opened for, and what
-- transfers take from it or give to it.
use Rattle.std.specs.Prelude.{IfSome, IsSomeAnd, flat_map, map, ◌==◌}
use Rattle.std.specs.List.{All, AllByRecursion}
use Rattle.std.proofs.Common.{◌≡◌, ℕ, Bool, true, false, cond, List, [], ◌∷◌, ◌++◌, Option, Some, None, refl, sym, ap, subst, ◌∙◌}
use Rattle.std.proofs.lemmas.Bool.{eqb-true}
use Rattle.std.proofs.lemmas.List.Elements.{All-from_recursion}
use Rattle.refusals.specs.amount_math.Amount.{Meet}
use Rattle.refusals.specs.amount_math.declared.Amount.{Amount}
use Rattle.share_transfers.proofs.rule_laws.SharesRead.{IsReadShare}
use Rattle.share_transfers.proofs.rule_laws.Changed.{AreFitting}
use Rattle.share_transfers.proofs.rule_laws.GivenShares.{HasSlots, OfBrand, same_kind, under_all}
use Rattle.share_transfers.proofs.rule_laws.Tags.{Agree, AreAgreed, IsRight, Tag, all_tags, share_tag, tags_at, tags_of}
use Rattle.share_transfers.proofs.rule_laws.Working.{IsReadTransfer}
use Rattle.rules.specs.brands.Brands.{brand_at}
use Rattle.rules.specs.States.{allocation_of}
use Rattle.rules.specs.proposals.Shares.{amount_under}
use Rattle.rules.specs.proposals.declared.allocations.Share.{Share}
use Rattle.rules.specs.proposals.declared.plans.Transfer.{Transfer}
use Rattle.rearrange.specs.Transfers.{amounts_for, gains_of, losses_of, shares_at}
use Rattle.share_transfers.proofs.world_laws.Lists.{all_append, all_map}
use Rattle.share_transfers.proofs.world_laws.Proposed.{under_own}
use Rattle.rules.specs.world_state.Good.{HasSlot, IsGoodWorld, IsOfKind}
use Rattle.rules.specs.world_state.Worlds.{State}

-- ---- two shares of one keyword

abbrev Meets : Share → Share → Type 0
Meets x r = x.keyword ≡ r.keyword → Meet x.amount r.amount

abbrev AllMeet : List Share → List Share → Type 0
AllMeet xs rs = AllByRecursion (λ r. AllByRecursion (λ x. Meets x r) xs) rs

joined : (xs ys rs : List Share) → AllMeet xs rs → AllMeet ys rs → AllMeet (xs ++ ys) rs
joined xs ys [] one two = tt
joined xs ys (r ∷ rs) one two = (all_append (λ x. Meets x r) xs ys one.0 two.0, joined xs ys rs one.1 two.1)

pub agree_all : (xs rs : List Share) → AllMeet xs rs → All (λ r. All (λ x. Meets x r) xs) rs
agree_all xs rs all =
    All-from_recursion (λ r. All (λ x. Meets x r) xs) rs
    (all_map (λ r. AllByRecursion (λ x. Meets x r) xs) (λ r. All (λ x. Meets x r) xs) (λ r one. All-from_recursion (λ x. Meets x r) xs one) rs all)

each_pair : (P Q : Share → Type 0) → ((x r : Share) → P x → Q r → Meets x r) → (xs rs : List Share) → AllByRecursion P xs → AllByRecursion Q rs → AllMeet xs rs
each_pair P Q meets xs [] all others = tt
each_pair P Q meets xs (r ∷ rs) all others = (all_map P (λ x. Meets x r) (λ x is. meets x r is others.0) xs all, each_pair P Q meets xs rs all others.1)

-- ---- shares of slots, and shares that are read for them

module _ (w : State) (good : IsGoodWorld w) (slots : List Share) (has : HasSlots w slots) where
  abbrev pub IsGiven : Share → Type 0
  IsGiven r = IsReadShare w r × OfBrand slots r.keyword r.amount.brand

  own_meet : (x r : Share) → HasSlot slots x → HasSlot slots r → Meets x r
  own_meet x r one two same = by (amount_under r.keyword slots) (subst (λ k. IsSomeAnd (amount_under k slots) (λ a. Meet a x.amount)) same one) two
    where
      by : (o : Option Amount) → IsSomeAnd o (λ a. Meet a x.amount) → IsSomeAnd o (λ a. Meet a r.amount) → Meet x.amount r.amount
      by None a b = absurd a
      by (Some s) a b = record { brand = sym a.brand ∙ b.brand; kind = sym a.kind ∙ b.kind }

  given_meet : (x r : Share) → HasSlot slots x → IsGiven r → Meets x r
  given_meet x r one two same =
      by (amount_under r.keyword slots) (subst (λ k. IsSomeAnd (amount_under k slots) (λ a. Meet a x.amount)) same one) (under_all (IsOfKind w.rights.out) r.keyword slots has.of_kinds) two.1
    where
      by : (o : Option Amount) → IsSomeAnd o (λ a. Meet a x.amount) → IfSome o (IsOfKind w.rights.out) → IfSome o (λ a. a.brand ≡ r.amount.brand) → Meet x.amount r.amount
      by None a kind b = absurd a
      by (Some s) a kind b = record { brand = sym a.brand ∙ b; kind = sym a.kind ∙ same_kind w good r s two.0 kind b }

  meet_given : (x r : Share) → IsGiven x → HasSlot slots r → Meets x r
  meet_given x r one two same = let m = given_meet r x two one (sym same) in record { brand = sym m.brand; kind = sym m.kind }

  own_slots : (rs : List Share) → AllByRecursion (λ (r : Share). amount_under r.keyword slots ≡ Some r.amount) rs → AllByRecursion (HasSlot slots) rs
  own_slots [] all = tt
  own_slots (r ∷ rs) all = (subst (λ o. IsSomeAnd o (λ a. Meet a r.amount)) (sym all.0) (record { brand = refl; kind = refl }), own_slots rs all.1)

  module _ (want give given : List Share) (wants : AllByRecursion (HasSlot slots) want) (gives : AllByRecursion (HasSlot slots) give) (read : AllByRecursion IsGiven given) (agreed : AllMeet given given) where
    abbrev held : List Share
    held = slots ++ [] ++ want ++ give

    held_slots : AllByRecursion (HasSlot slots) held
    held_slots =
        all_append (HasSlot slots) (slots ++ [] ++ want) give
        (all_append (HasSlot slots) (slots ++ []) want (all_append (HasSlot slots) slots [] (own_slots slots (under_own slots has.shares.apart)) tt) wants) gives

    pub one_brand : AllMeet (held ++ given) (held ++ given)
    one_brand =
        all_append (λ r. AllByRecursion (λ x. Meets x r) (held ++ given)) held given
        (joined held given held (each_pair (HasSlot slots) (HasSlot slots) own_meet held held held_slots held_slots) (each_pair IsGiven (HasSlot slots) meet_given given held read held_slots))
        (joined held given given (each_pair (HasSlot slots) IsGiven given_meet held given held_slots read) agreed)

-- ---- shares of one seat among those of all

at_seat : (P : Share → Type 0) (o : Option ℕ) (shares : List Share) (n : ℕ) → IfSome o (λ m. m ≡ n → AllByRecursion P shares) → AllByRecursion P (shares_at o shares n)
at_seat P None shares n all = tt
at_seat P (Some m) shares n all = by (m == n) refl
  where
    by : (b : Bool) → (m == n) ≡ b → AllByRecursion P (cond b shares [])
    by true e = all (eqb-true m n e)
    by false e = tt

module _ (P : Tag → Type 0) (n : ℕ) where
  abbrev Picked : Tag → Type 0
  Picked t = t.seat ≡ n → P t

  picked_shares : (m : ℕ) (shares : List Share) → m ≡ n → AllByRecursion Picked (map (share_tag m) shares) → AllByRecursion (λ r. P (share_tag n r)) shares
  picked_shares m [] same all = tt
  picked_shares m (r ∷ rs) same all = (subst (λ k. P (share_tag k r)) same (all.0 same), picked_shares m rs same all.1)

  picked_at : (o : Option ℕ) (shares : List Share) → AllByRecursion Picked (tags_at o shares) → AllByRecursion (λ r. P (share_tag n r)) (shares_at o shares n)
  picked_at None shares all = tt
  picked_at (Some m) shares all = at_seat (λ r. P (share_tag n r)) (Some m) shares n (λ same. picked_shares m shares same all)

  first : (xs ys : List Tag) → AllByRecursion Picked (xs ++ ys) → AllByRecursion Picked xs
  first [] ys all = tt
  first (x ∷ xs) ys all = (all.0, first xs ys all.1)

  second : (xs ys : List Tag) → AllByRecursion Picked (xs ++ ys) → AllByRecursion Picked ys
  second [] ys all = all
  second (x ∷ xs) ys all = second xs ys all.1

  picked_of : (t : Transfer) → AllByRecursion Picked (tags_of t) → AllByRecursion (λ r. P (share_tag n r)) (amounts_for n t)
  picked_of t all =
      all_append (λ r. P (share_tag n r)) (shares_at t.from (losses_of t) n) (shares_at t.to (gains_of t) n)
      (picked_at t.from (losses_of t) (first (tags_at t.from (losses_of t)) (tags_at t.to (gains_of t)) all))
      (picked_at t.to (gains_of t) (second (tags_at t.from (losses_of t)) (tags_at t.to (gains_of t)) all))

  picked : (list : List Transfer) → AllByRecursion Picked (all_tags list) → AllByRecursion (λ r. P (share_tag n r)) (flat_map (amounts_for n) list)
  picked [] all = tt
  picked (t ∷ ts) all =
      all_append (λ r. P (share_tag n r)) (amounts_for n t) (flat_map (amounts_for n) ts)
      (picked_of t (first (tags_of t) (all_tags ts) all)) (picked ts (second (tags_of t) (all_tags ts) all))

-- ---- they agree

beside : (t : Tag) (ts xs : List Tag) → AllByRecursion (Agree t) xs → AllByRecursion (λ a. AllByRecursion (Agree a) ts) xs → AllByRecursion (λ a. AllByRecursion (Agree a) (t ∷ ts)) xs
beside t ts [] one rest = tt
beside t ts (x ∷ xs) one rest = (((λ seats keywords. sym (one.0 (sym seats) (sym keywords))), rest.0), beside t ts xs one.1 rest.1)

everyone : (ts : List Tag) → AreAgreed ts → AllByRecursion (λ a. AllByRecursion (Agree a) ts) ts
everyone [] agreed = tt
everyone (t ∷ ts) agreed = (((λ seats keywords. refl), agreed.0), beside t ts ts agreed.0 (everyone ts agreed.1))

-- ---- shares are read

module _ (w : State) (n : ℕ) where
  read_at : (o : Option ℕ) (shares : List Share) (slots : ℕ → List Share) → IfSome o (λ m. AreFitting w (slots m) shares) → AllByRecursion (IsReadShare w) (shares_at o shares n)
  read_at None shares slots fit = tt
  read_at (Some m) shares slots fit = at_seat (IsReadShare w) (Some m) shares n (λ same. fit.each)

  read_of : (t : Transfer) → IsReadTransfer w t → AllByRecursion (IsReadShare w) (amounts_for n t)
  read_of t is =
      all_append (IsReadShare w) (shares_at t.from (losses_of t) n) (shares_at t.to (gains_of t) n)
      (read_at t.from (losses_of t) (allocation_of w) is.losses) (read_at t.to (gains_of t) (allocation_of w) is.gains)

  read_all_shares : (list : List Transfer) → AllByRecursion (IsReadTransfer w) list → AllByRecursion (IsReadShare w) (flat_map (amounts_for n) list)
  read_all_shares [] all = tt
  read_all_shares (t ∷ ts) all = all_append (IsReadShare w) (amounts_for n t) (flat_map (amounts_for n) ts) (read_of t all.0) (read_all_shares ts all.1)

  meets_one : (r : Share) → IsReadShare w r → (xs : List Share) → AllByRecursion (IsReadShare w) xs → AllByRecursion (λ x. r.keyword ≡ x.keyword → r.amount.brand ≡ x.amount.brand) xs → AllByRecursion (λ x. Meets x r) xs
  meets_one r read [] all same = tt
  meets_one r read (x ∷ xs) all same = (
    (λ keywords.
        let brand : x.amount.brand ≡ r.amount.brand = sym (same.0 (sym keywords)) in
        record { brand = brand; kind = sym all.0.brand.kind_is ∙ ap (λ b. (brand_at w.brands b).kind) brand ∙ read.brand.kind_is }),
    meets_one r read xs all.1 same.1,
  )

  meets_each : (xs rs : List Share) → AllByRecursion (IsReadShare w) xs → AllByRecursion (IsReadShare w) rs → AllByRecursion (λ r. AllByRecursion (λ x. r.keyword ≡ x.keyword → r.amount.brand ≡ x.amount.brand) xs) rs → AllMeet xs rs
  meets_each xs [] all reads same = tt
  meets_each xs (r ∷ rs) all reads same = (meets_one r reads.0 xs all same.0, meets_each xs rs all reads.1 same.1)

  module _ (list : List Transfer) (read : AllByRecursion (IsReadTransfer w) list) (agreed : AreAgreed (all_tags list)) (right : AllByRecursion (IsRight w) (all_tags list)) where
    abbrev shares : List Share
    shares = flat_map (amounts_for n) list

    abbrev SameBrand : Tag → Type 0
    SameBrand a = AllByRecursion (λ (x : Share). a.keyword ≡ x.keyword → a.brand ≡ x.amount.brand) shares

    same_brands : AllByRecursion (λ r. SameBrand (share_tag n r)) shares
    same_brands =
        picked SameBrand n list
        (all_map (λ a. AllByRecursion (Agree a) (all_tags list)) (λ a. a.seat ≡ n → SameBrand a)
        (λ a all at. picked (λ (b : Tag). a.keyword ≡ b.keyword → a.brand ≡ b.brand) n list
        (all_map (Agree a) (λ (b : Tag). b.seat ≡ n → a.keyword ≡ b.keyword → a.brand ≡ b.brand) (λ b agree there. agree (at ∙ sym there)) (all_tags list) all))
        (all_tags list) (everyone (all_tags list) agreed))

    pub given_agree : AllMeet shares shares
    given_agree = let reads = read_all_shares list read in meets_each shares shares reads reads same_brands

    of_brand : AllByRecursion (λ r. OfBrand (allocation_of w n) r.keyword r.amount.brand) shares
    of_brand =
        picked (λ (t : Tag). OfBrand (allocation_of w n) t.keyword t.brand) n list
        (all_map (IsRight w) (λ (t : Tag). t.seat ≡ n → OfBrand (allocation_of w n) t.keyword t.brand) (λ t is same. subst (λ k. OfBrand (allocation_of w k) t.keyword t.brand) same is.of_slot) (all_tags list) right)

    both : (rs : List Share) → AllByRecursion (IsReadShare w) rs → AllByRecursion (λ r. OfBrand (allocation_of w n) r.keyword r.amount.brand) rs → AllByRecursion (λ r. IsReadShare w r × OfBrand (allocation_of w n) r.keyword r.amount.brand) rs
    both [] reads of = tt
    both (r ∷ rs) reads of = ((reads.0, of.0), both rs reads.1 of.1)

    pub given_read : AllByRecursion (λ r. IsReadShare w r × OfBrand (allocation_of w n) r.keyword r.amount.brand) shares
    given_read = both shares (read_all_shares list read) of_brand
