-- Shares that a call gives for a seat fit its slots, and what it was opened for.
use Rattle.std.specs.Prelude.{IfSome, IsSomeAnd, unwrap_or, ◌||◌, not}
use Rattle.std.specs.List.{All, AllByRecursion}
use Rattle.std.specs.Str.{bytes_eq}
use Rattle.std.proofs.Common.{◌≡◌, ℕ, ◌<◌, Bool, true, false, cond, List, [], ◌∷◌, length, Option, Some, None, Result, Ok, Err, IfOk, refl, sym, ap, subst, ◌∙◌}
use Rattle.std.proofs.lemmas.List.Elements.{All-cons, All-nil}
use Rattle.std.proofs.lemmas.Slice.Eq.{bytes_eq-Decides}
use Rattle.refusals.specs.amount_math.Amount.{Meet}
use Rattle.refusals.specs.amount_math.declared.Amount.{Amount}
use Rattle.rules.specs.brands.declared.issuer_record.Issuer.{Issuer}
use Rattle.rules.specs.call_arguments.Arguments.{arg}
use Rattle.host_data.specs.Tree.{Tree}
use Rattle.rules.specs.proposals.OfferSafety.{MeetSlots, MeetsSlot}
use Rattle.rules.specs.proposals.Shares.{AreApart, AreShares, amount_under, keyed_share}
use Rattle.rules.specs.proposals.declared.allocations.Share.{Share}
use Rattle.rules.specs.call_arguments.Records.{ShareData}
use Rattle.refusals.proofs.Steps.{ok_has}
use Rattle.refusals.specs.Outcomes.{Gives}
use Rattle.refusals.specs.declared.codes.Refusal.{Refusal}
use Rattle.refusals.specs.declared.stops.Stop.{Stop}
use Rattle.rules.specs.Given.{is_misfit, is_other, issuers_of, shares_at}
use Rattle.rules.specs.Zmint.{is_not_of}
use Rattle.rules.specs.Zseat.{misfits_slot, misfits_staged, shares_now}
use Rattle.rule_laws.proofs.world_laws.Lists.{all_read}
use Rattle.rules.specs.world_state.Good.{AreSharesOf, HasSlot, IsGoodWorld, IsOfKind, IsPlaced}
use Rattle.rules.specs.world_state.Rights.{kind_at}
use Rattle.rules.specs.world_state.Worlds.{State, no_seat, staged_at}
use Rattle.rule_laws.proofs.SharesRead.{IsReadShare, rising_apart, some_has}
use Rattle.rules.specs.States.{allocation_of, seat_of}
use Rattle.rule_laws.proofs.GivenShares.{AreGiven, HasSlots, OfBrand, neither, of_slot, shares_given, same_kind, seat_slots, under_all}
use Rattle.contract_reads.specs.Calls.{AreOfKinds, FitSlots, IsSeatCall}

-- what each share is told of by its keyword is told of what stands under it
under_share : (P : List ℕ → Amount → Type 0) (k : List ℕ) (rs : List Share) → AllByRecursion (λ (r : Share). P r.keyword r.amount) rs → IfSome (amount_under k rs) (P k)
under_share P k [] all = tt
under_share P k (r ∷ rs) all = by (bytes_eq k r.keyword) refl (under_share P k rs all.1)
  where
    by : (b : Bool) → bytes_eq k r.keyword ≡ b → IfSome (amount_under k rs) (P k) → IfSome (cond b (Some r.amount) (amount_under k rs)) (P k)
    by true e later = subst (λ q. P q r.amount) (sym ((bytes_eq-Decides k r.keyword).0 e)) all.0
    by false e later = later

-- ---- what a seat has

pub slots_of : (w : State) (seat : ℕ) (args : List Tree) → IsSeatCall w seat args → HasSlots w (allocation_of w seat)
slots_of w seat args call = seat_slots w call.good (seat_of w seat).instance seat (record { made = call.made; own = refl })

pub slots_are : (w : State) (seat : ℕ) (args : List Tree) → IsSeatCall w seat args → AreShares (allocation_of w seat)
slots_are w seat args call = (slots_of w seat args call).shares

slots_meet : (slots ps : List Share) → AllByRecursion (HasSlot slots) ps → MeetSlots slots ps
slots_meet slots [] all = All-nil (MeetsSlot slots)
slots_meet slots (p ∷ ps) all = All-cons (MeetsSlot slots) p ps (by (amount_under p.keyword slots) all.0) (slots_meet slots ps all.1)
  where
    by : (o : Option Amount) → IsSomeAnd o (λ slot. Meet slot p.amount) → (x : Amount) → o ≡ Some x → Meet x p.amount
    by o has x is = subst (λ q. IsSomeAnd q (λ slot. Meet slot p.amount)) is has

pub want_meets : (w : State) (seat : ℕ) (args : List Tree) → IsSeatCall w seat args → MeetSlots (allocation_of w seat) (seat_of w seat).proposal.want
want_meets w seat args call = slots_meet (allocation_of w seat) (seat_of w seat).proposal.want (call.good.proposed.each seat call.made).slots.want

pub give_meets : (w : State) (seat : ℕ) (args : List Tree) → IsSeatCall w seat args → MeetSlots (allocation_of w seat) (seat_of w seat).proposal.give
give_meets w seat args call = slots_meet (allocation_of w seat) (seat_of w seat).proposal.give (call.good.proposed.each seat call.made).slots.give

-- the instance of a seat was made
pub hosted : (w : State) (seat : ℕ) (args : List Tree) → IsSeatCall w seat args → (seat_of w seat).instance < length w.tables.instances
hosted w seat args call = all_read (IsPlaced w) w.seats seat no_seat call.good.placed call.made

-- what is staged, or had
record AreNow (w : State) (now : List Share) : Type 0 where
  apart : AreShares now
  of_kinds : AreSharesOf w.rights.out now

now_are : (w : State) (seat : ℕ) (args : List Tree) → IsSeatCall w seat args → AreNow w (shares_now w seat)
now_are w seat args call = by (staged_at w.staging seat) refl
  where
    has : HasSlots w (allocation_of w seat)
    has = slots_of w seat args call

    by : (o : Option (List Share)) → staged_at w.staging seat ≡ o → AreNow w (unwrap_or o (allocation_of w seat))
    by None e = record { apart = has.shares; of_kinds = has.of_kinds }
    by (Some shares) e =
        let is = call.good.staged.each seat shares e in
        record { apart = is.apart; of_kinds = is.of_kinds }

pub now_shares : (w : State) (seat : ℕ) (args : List Tree) → IsSeatCall w seat args → AreShares (shares_now w seat)
now_shares w seat args call = (now_are w seat args call).apart

-- ---- shares that are read

module _ (w : State) (seat : ℕ) (args : List Tree) (call : IsSeatCall w seat args) where
  meets : (slots : List Share) → AreSharesOf w.rights.out slots → (r : Share) → IsReadShare w r → OfBrand slots r.keyword r.amount.brand → MeetsSlot slots r
  meets slots kinds r read of = λ a is.
      let same : a.brand ≡ r.amount.brand = some_has (λ (x : Amount). x.brand ≡ r.amount.brand) (amount_under r.keyword slots) a is of in
      let kind : IsOfKind w.rights.out a = some_has (IsOfKind w.rights.out) (amount_under r.keyword slots) a is (under_all (IsOfKind w.rights.out) r.keyword slots kinds) in
      record { brand = same; kind = same_kind w call.good r a read kind same }

  all_meet : (slots : List Share) → AreSharesOf w.rights.out slots → (shares : List Share) → AllByRecursion (IsReadShare w) shares → AllByRecursion (λ (r : Share). OfBrand slots r.keyword r.amount.brand) shares → MeetSlots slots shares
  all_meet slots kinds [] read of = All-nil (MeetsSlot slots)
  all_meet slots kinds (r ∷ rs) read of = All-cons (MeetsSlot slots) r rs (meets slots kinds r read.0 of.0) (all_meet slots kinds rs read.1 of.1)

  given : (misfits : ShareData → Bool) (slots : List Share) (place : ℕ) (shares : List Share) → ((r : ShareData) → misfits r ≡ false → OfBrand slots r.keyword r.amount.brand) → shares_at misfits place args ≡ Ok shares → AreGiven w args (OfBrand slots) shares
  given misfits slots place shares to is = ok_has _ _ shares is (shares_given w (Some call.known.caller) misfits (OfBrand slots) to place args (call.known.each place))

  fits : (slots : List Share) → AreSharesOf w.rights.out slots → (shares : List Share) → AreGiven w args (OfBrand slots) shares → FitSlots slots shares
  fits slots kinds shares are = record { apart = rising_apart shares are.read.rising; meet = all_meet slots kinds shares are.read.each are.fit }

  of_kept : (issuers : List Issuer) (slots : List Share) (r : ShareData) → is_misfit issuers slots r ≡ false → OfBrand slots r.keyword r.amount.brand
  of_kept issuers slots r is = of_slot slots r (neither _ (is_other slots r) is).1

  of_staged : (r : ShareData) → misfits_staged w seat r ≡ false → OfBrand (shares_now w seat) r.keyword r.amount.brand
  of_staged r is = of_slot (shares_now w seat) r (neither (misfits_slot w seat r) (is_other (shares_now w seat) r) is).1

  of_mint : (brand : ℕ) (slots : List Share) (r : ShareData) → is_not_of brand slots r ≡ false → OfBrand slots r.keyword r.amount.brand
  of_mint brand slots r is = of_slot slots r (neither _ (is_other slots r) is).1

  pub shares_fit : (issuers : List Issuer) (place : ℕ) (shares : List Share) → shares_at (is_misfit issuers (allocation_of w seat)) place args ≡ Ok shares → FitSlots (allocation_of w seat) shares
  shares_fit issuers place shares is =
      let slots = allocation_of w seat in
      fits slots (slots_of w seat args call).of_kinds shares (given (is_misfit issuers slots) slots place shares (of_kept issuers slots) is)

  pub staged_fit : (shares : List Share) → shares_at (misfits_staged w seat) 1 args ≡ Ok shares → FitSlots (shares_now w seat) shares
  staged_fit shares is = fits (shares_now w seat) (now_are w seat args call).of_kinds shares (given (misfits_staged w seat) (shares_now w seat) 1 shares of_staged is)

  pub mint_fit : (brand : ℕ) (shares : List Share) → shares_at (is_not_of brand (allocation_of w seat)) 1 args ≡ Ok shares → FitSlots (allocation_of w seat) shares
  mint_fit brand shares is =
      let slots = allocation_of w seat in
      fits slots (slots_of w seat args call).of_kinds shares (given (is_not_of brand slots) slots 1 shares (of_mint brand slots) is)

  -- ---- beside what the seat was opened for

  abbrev Read : List Share → List ℕ → Amount → Type 0
  Read slots k a = IsReadShare w (keyed_share k a) × OfBrand slots k a.brand

  both : (slots shares : List Share) → AllByRecursion (IsReadShare w) shares → AllByRecursion (λ (r : Share). OfBrand slots r.keyword r.amount.brand) shares → AllByRecursion (λ (r : Share). Read slots r.keyword r.amount) shares
  both slots [] read of = tt
  both slots (r ∷ rs) read of = ((record { brand = read.0.brand; value = read.0.value }, of.0), both slots rs read.1 of.1)

  brand_same : (p : Share) (a : Amount) (o : Option Amount) → IsSomeAnd o (λ slot. Meet slot p.amount) → IfSome o (λ slot. slot.brand ≡ a.brand) → p.amount.brand ≡ a.brand
  brand_same p a (Some slot) meet same = sym meet.brand ∙ same
  brand_same p a None meet same = absurd meet

  proposal_meets : (slots shares : List Share) → AreGiven w args (OfBrand slots) shares → (ps : List Share) → AllByRecursion (HasSlot slots) ps → AreSharesOf w.rights.out ps → MeetSlots shares ps
  proposal_meets slots shares are [] has kinds = All-nil (MeetsSlot shares)
  proposal_meets slots shares are (p ∷ ps) has kinds = All-cons (MeetsSlot shares) p ps here (proposal_meets slots shares are ps has.1 kinds.1)
    where
      here : MeetsSlot shares p
      here = λ a is.
          let read : Read slots p.keyword a = some_has (Read slots p.keyword) (amount_under p.keyword shares) a is (under_share (Read slots) p.keyword shares (both slots shares are.read.each are.fit)) in
          let same : p.amount.brand ≡ a.brand = brand_same p a (amount_under p.keyword slots) has.0 read.1 in
          record { brand = sym same; kind = sym (same_kind w call.good (keyed_share p.keyword a) p.amount read.0 kinds.0 same) }

  shares_are : (issuers : List Issuer) (place : ℕ) (shares : List Share) → shares_at (is_misfit issuers (allocation_of w seat)) place args ≡ Ok shares → AreGiven w args (OfBrand (allocation_of w seat)) shares
  shares_are issuers place shares is = given (is_misfit issuers (allocation_of w seat)) (allocation_of w seat) place shares (of_kept issuers (allocation_of w seat)) is

  pub shares_want : (issuers : List Issuer) (place : ℕ) (shares : List Share) → shares_at (is_misfit issuers (allocation_of w seat)) place args ≡ Ok shares → MeetSlots shares (seat_of w seat).proposal.want
  shares_want issuers place shares is =
      let at = call.good.proposed.each seat call.made in
      proposal_meets (allocation_of w seat) shares (shares_are issuers place shares is) (seat_of w seat).proposal.want at.slots.want at.proposal.wants

  pub shares_give : (issuers : List Issuer) (place : ℕ) (shares : List Share) → shares_at (is_misfit issuers (allocation_of w seat)) place args ≡ Ok shares → MeetSlots shares (seat_of w seat).proposal.give
  shares_give issuers place shares is =
      let at = call.good.proposed.each seat call.made in
      proposal_meets (allocation_of w seat) shares (shares_are issuers place shares is) (seat_of w seat).proposal.give at.slots.give at.proposal.gives

  -- ---- their kinds

  kinds_of : (shares : List Share) → AllByRecursion (IsReadShare w) shares → AreOfKinds w shares
  kinds_of [] each = All-nil (λ (r : Share). r.amount.value.kind ≡ kind_at w.rights.out r.amount.brand)
  kinds_of (r ∷ rs) each =
      All-cons (λ (x : Share). x.amount.value.kind ≡ kind_at w.rights.out x.amount.brand) r rs
      (sym each.0.brand.kind_is ∙ sym (call.good.brands.kinds r.amount.brand))
      (kinds_of rs each.1)

  pub shares_kinds : (issuers : List Issuer) (place : ℕ) (shares : List Share) → shares_at (is_misfit issuers (allocation_of w seat)) place args ≡ Ok shares → AreOfKinds w shares
  shares_kinds issuers place shares is = kinds_of shares (shares_are issuers place shares is).read.each

-- ---- what was read, if it was

when_read : {X : Type 0} (view : X → List Share) (r : Result X Stop) (read : Result (List Share) Refusal) (P : List Share → Type 0) → Gives view r read → ((shares : List Share) → read ≡ Ok shares → P shares) → IfOk r (λ x. P (view x))
when_read view (Ok x) read P gives to = to (view x) gives
when_read view (Err e) read P gives to = tt

module _ {X : Type 0} (view : X → List Share) (r : Result X Stop) (w : State) (seat : ℕ) (args : List Tree) (call : IsSeatCall w seat args) where
  module _ (issuers : List Issuer) (slots : List Share) (place : ℕ) (here : slots ≡ allocation_of w seat) (gives : Gives view r (shares_at (is_misfit issuers slots) place args)) where
    same_read : (shares : List Share) → shares_at (is_misfit issuers slots) place args ≡ Ok shares → shares_at (is_misfit issuers (allocation_of w seat)) place args ≡ Ok shares
    same_read shares is = subst (λ (s : List Share). shares_at (is_misfit issuers s) place args ≡ Ok shares) here is

    pub fit_read : IfOk r (λ x. FitSlots slots (view x))
    fit_read = when_read view r (shares_at (is_misfit issuers slots) place args) (FitSlots slots) gives (λ shares is. subst (λ (s : List Share). FitSlots s shares) (sym here) (shares_fit w seat args call issuers place shares (same_read shares is)))

    pub want_read : IfOk r (λ x. MeetSlots (view x) (seat_of w seat).proposal.want)
    want_read = when_read view r (shares_at (is_misfit issuers slots) place args) (λ shares. MeetSlots shares (seat_of w seat).proposal.want) gives (λ shares is. shares_want w seat args call issuers place shares (same_read shares is))

    pub give_read : IfOk r (λ x. MeetSlots (view x) (seat_of w seat).proposal.give)
    give_read = when_read view r (shares_at (is_misfit issuers slots) place args) (λ shares. MeetSlots shares (seat_of w seat).proposal.give) gives (λ shares is. shares_give w seat args call issuers place shares (same_read shares is))

    pub kinds_read : IfOk r (λ x. AreOfKinds w (view x))
    kinds_read = when_read view r (shares_at (is_misfit issuers slots) place args) (AreOfKinds w) gives (λ shares is. shares_kinds w seat args call issuers place shares (same_read shares is))

  pub mint_read : (brand : ℕ) (slots : List Share) → slots ≡ allocation_of w seat → Gives view r (shares_at (is_not_of brand slots) 1 args) → IfOk r (λ x. FitSlots slots (view x))
  mint_read brand slots here gives = when_read view r (shares_at (is_not_of brand slots) 1 args) (FitSlots slots) gives (λ shares is.
      subst (λ (s : List Share). FitSlots s shares) (sym here)
      (mint_fit w seat args call brand shares (subst (λ (s : List Share). shares_at (is_not_of brand s) 1 args ≡ Ok shares) here is)))

  pub staged_read : (issuers : List Issuer) (slots staged : List Share) → staged ≡ shares_now w seat → Gives view r (shares_at (λ q. is_misfit issuers slots q || is_other staged q) 1 args) → IfOk r (λ x. FitSlots staged (view x))
  staged_read issuers slots staged here gives = when_read view r (shares_at (λ q. is_misfit issuers slots q || is_other staged q) 1 args) (FitSlots staged) gives (λ shares is.
      fits w seat args call staged (subst (AreSharesOf w.rights.out) (sym here) (now_are w seat args call).of_kinds) shares
      (given w seat args call (λ q. is_misfit issuers slots q || is_other staged q) staged 1 shares (λ q e. of_slot staged q (neither (is_misfit issuers slots q) (is_other staged q) e).1) is))
