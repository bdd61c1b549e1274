-- All amounts that are known of a seat are, under one keyword, of one brand and kind; what was left stays.
use Rattle.std.specs.Prelude.{IfSome, IsSomeAnd, slice_index_or, unwrap_or}
use Rattle.std.specs.List.{AllByRecursion}
use Rattle.std.specs.Option.{ForSome}
use Rattle.std.specs.Str.{bytes_eq}
use Rattle.std.proofs.Common.{◌≡◌, inl, inr, ℕ, ◌<◌, Bool, true, false, cond, List, [], ◌∷◌, ◌++◌, Some, None, Option, length, refl, sym, ◌∙◌, ap, subst, arith}
use Rattle.std.proofs.lemmas.Bool.{cases_eq}
use Rattle.world_state.proofs.lemmas.ListEdits.{read_before, read_other}
use Rattle.world_state.specs.amount_math.Amount.{Meet}
use Rattle.world_state.specs.amount_math.declared.Amount.{Amount}
use Rattle.world_state.specs.ertp_mint.BrandSupply.{BrandSupply}
use Rattle.world_state.specs.proposals.OfferSafety.{MeetSlots}
use Rattle.world_state.specs.proposals.Shares.{AreApart, AreShares, amount_under}
use Rattle.world_state.specs.proposals.declared.allocations.Share.{Share}
use Rattle.world_state.specs.proposals.declared.offers.Proposal.{Proposal}
use Rattle.world_state.specs.Good.{AreSharesOf, HasSlot, HaveSlots, IsGoodEffect, IsGoodWorld, IsLast, IsOfKind, IsOfSlot}
use Rattle.world_state.specs.Rights.{kind_at, slots_at}
use Rattle.world_state.specs.Worlds.{Effect, Seat, State, after, left_seat, no_seat, seat_at, staged_at, empty_seat, exit, offer}
use Rattle.world_laws.specs.Turns.{Agree, allocation_at, amounts_at, staging_at}
use Rattle.world_laws.proofs.Lists.{all_append, all_map, all_read, all_read_or}
use Rattle.world_laws.proofs.Proposed.{first_of, meets_by, under_append, under_own}

-- two amounts that meet a third meet
meet_by : (o : Option Amount) (a b : Amount) → IsSomeAnd o (λ x. Meet x a) → IsSomeAnd o (λ x. Meet x b) → Meet a b
meet_by None a b f g = absurd f
meet_by (Some x) a b f g = record { brand = sym f.brand ∙ g.brand; kind = sym f.kind ∙ g.kind }

-- shares that have slots in some shares agree
agree_in : (base shares : List Share) → AllByRecursion (HasSlot base) shares → Agree shares
agree_in base shares all k d lt j e less same =
    let r = slice_index_or shares k d in
    let x = slice_index_or shares j e in
    let as_r : HasSlot base r = all_read (HasSlot base) shares k d all lt in
    let as_x : HasSlot base x = all_read (HasSlot base) shares j e all less in
    meet_by (amount_under r.keyword base) x.amount r.amount (subst (λ q. IsSomeAnd (amount_under q base) (λ slot. Meet slot x.amount)) same as_x) as_r

has_first : (o p : Option Amount) (a : Amount) → IsSomeAnd o (λ x. Meet x a) → IsSomeAnd (first_of o p) (λ x. Meet x a)
has_first None p a has = absurd has
has_first (Some x) p a has = has

in_first : (xs ys : List Share) (r : Share) → HasSlot xs r → HasSlot (xs ++ ys) r
in_first xs ys r has = subst (λ o. IsSomeAnd o (λ x. Meet x r.amount)) (sym (under_append r.keyword xs ys)) (has_first (amount_under r.keyword xs) (amount_under r.keyword ys) r.amount has)

own_slots : (rs : List Share) → AreApart rs → AllByRecursion (HasSlot rs) rs
own_slots rs apart = all_map (λ (r : Share). amount_under r.keyword rs ≡ Some r.amount) (HasSlot rs) (λ r e. meets_by (amount_under r.keyword rs) r.amount e) rs (under_own rs apart)

-- what stands under a keyword is of its brand's kind
under_kind : (out : List BrandSupply) (q : List ℕ) (rs : List Share) → AreSharesOf out rs → IfSome (amount_under q rs) (IsOfKind out)
under_kind out q [] all = tt
under_kind out q (r ∷ rs) all = by (bytes_eq q r.keyword) (under_kind out q rs all.1)
  where
    by : (b : Bool) → IfSome (amount_under q rs) (IsOfKind out) → IfSome (cond b (Some r.amount) (amount_under q rs)) (IsOfKind out)
    by true rest = all.0
    by false rest = rest

staged_by : (out : List BrandSupply) (o p : Option Amount) (a : Amount) → IfSome o (IsOfKind out) → IsOfKind out a → IfSome o (λ x. x.brand ≡ a.brand) → IsSomeAnd p (λ x. Meet x a) → IsSomeAnd (first_of o p) (λ x. Meet x a)
staged_by out None p a kind is brand own = own
staged_by out (Some x) p a kind is brand own = record { brand = brand; kind = sym kind.kind ∙ (ap (kind_at out) brand ∙ is.kind) }

module _ (out : List BrandSupply) (slots : List Share) (of : AreSharesOf out slots) (staged : List Share) where
  staged_slot : (r : Share) → IsOfKind out r.amount → IsOfSlot slots r → HasSlot staged r → HasSlot (slots ++ staged) r
  staged_slot r is brand own = subst (λ o. IsSomeAnd o (λ x. Meet x r.amount)) (sym (under_append r.keyword slots staged)) (staged_by out (amount_under r.keyword slots) (amount_under r.keyword staged) r.amount (under_kind out r.keyword slots of) is brand own)

  staged_slots : (rs : List Share) → AreSharesOf out rs → AllByRecursion (IsOfSlot slots) rs → AllByRecursion (HasSlot staged) rs → AllByRecursion (HasSlot (slots ++ staged)) rs
  staged_slots [] kinds brands own = tt
  staged_slots (r ∷ rs) kinds brands own = (staged_slot r kinds.0 brands.0 own.0, staged_slots rs kinds.1 brands.1 own.1)

-- what is known of a seat
pub record IsKnownSeat (out : List BrandSupply) (slots staged : List Share) (p : Proposal) : Type 0 where
  pub apart : AreShares slots
  pub kinds : AreSharesOf out slots
  pub has : HaveSlots slots p
  pub staged_apart : AreShares staged
  pub staged_kinds : AreSharesOf out staged
  pub of_slots : AllByRecursion (IsOfSlot slots) staged

known_agree : (out : List BrandSupply) (slots staged : List Share) (p : Proposal) → IsKnownSeat out slots staged p → Agree (slots ++ staged ++ p.want ++ p.give)
known_agree out slots staged p is =
    let base = slots ++ staged in
    let first = all_map (HasSlot slots) (HasSlot base) (in_first slots staged) in
    agree_in base (slots ++ staged ++ p.want ++ p.give)
    (all_append (HasSlot base) (slots ++ staged ++ p.want) p.give
    (all_append (HasSlot base) base p.want
    (all_append (HasSlot base) slots staged (first slots (own_slots slots is.apart.apart)) (staged_slots out slots is.kinds staged staged is.staged_kinds is.of_slots (own_slots staged is.staged_apart.apart)))
    (first p.want is.has.want))
    (first p.give is.has.give))

no_shares_are : AreShares []
no_shares_are = record { few = omega arith; apart = tt }

-- what a seat has, or had
allocation_known : (out : List BrandSupply) (last : Option (List Share)) (slots : List Share) (p : Proposal) → AreShares slots → AreSharesOf out slots → HaveSlots slots p → IfSome last (IsLast out p)
    → IsKnownSeat out (unwrap_or last slots) [] p
allocation_known out None slots p apart kinds has is = record { apart = apart; kinds = kinds; has = has; staged_apart = no_shares_are; staged_kinds = tt; of_slots = tt }
allocation_known out (Some shares) slots p apart kinds has is = record { apart = is.apart; kinds = is.of_kinds; has = is.slots; staged_apart = no_shares_are; staged_kinds = tt; of_slots = tt }

seat_known : (w : State) (s : ℕ) → IsGoodWorld w → s < length w.seats → IsKnownSeat w.rights.out (allocation_at w s) [] (seat_at w.seats s).proposal
seat_known w s good lt =
    let is = good.proposed.each s lt in
    allocation_known w.rights.out (seat_at w.seats s).last (slots_at w.rights.slots s) (seat_at w.seats s).proposal
    (all_read_or AreShares w.rights.slots s [] good.seats.shares no_shares_are)
    (all_read_or (AreSharesOf w.rights.out) w.rights.slots s [] good.slot_kinds tt)
    is.slots is.last

open_has : (last : Option (List Share)) (slots : List Share) → last ≡ None → unwrap_or last slots ≡ slots
open_has None slots e = refl
open_has (Some shares) slots e = absurd (cc)

with_staging : (w : State) (s : ℕ) → IsGoodWorld w → (o : Option (List Share)) → staged_at w.staging s ≡ o → IsKnownSeat w.rights.out (allocation_at w s) [] (seat_at w.seats s).proposal → IsKnownSeat w.rights.out (allocation_at w s) (unwrap_or o []) (seat_at w.seats s).proposal
with_staging w s good None e is = is
with_staging w s good (Some shares) e is =
    let staged = good.staged.each s shares e in
    record {
      apart = is.apart;
      kinds = is.kinds;
      has = is.has;
      staged_apart = staged.apart;
      staged_kinds = staged.of_kinds;
      of_slots = subst (λ x. AllByRecursion (IsOfSlot x) shares) (sym (open_has (seat_at w.seats s).last (slots_at w.rights.slots s) staged.is_open)) staged.of_slots;
    }

pub seat_agrees : (w : State) (s : ℕ) → IsGoodWorld w → s < length w.seats → Agree (amounts_at w s)
seat_agrees w s good lt = known_agree w.rights.out (allocation_at w s) (staging_at w s) (seat_at w.seats s).proposal (with_staging w s good (staged_at w.staging s) refl (seat_known w s good lt))

meets_some : (o : Option Amount) (a : Amount) → IsSomeAnd o (λ x. Meet x a) → ForSome o (λ x. Meet x a)
meets_some None a has x e = absurd has
meets_some (Some y) a has x e = subst (λ z. Meet z a) (ap (λ (o : Option Amount). unwrap_or o y) e) has

meet_slots : (slots shares : List Share) → AllByRecursion (HasSlot slots) shares → MeetSlots slots shares
meet_slots slots shares all k d lt = meets_some (amount_under _ slots) _ (all_read (HasSlot slots) shares k d all lt)

pub want_meets : (w : State) (s : ℕ) → IsGoodWorld w → s < length w.seats → MeetSlots (allocation_at w s) (seat_at w.seats s).proposal.want
want_meets w s good lt = meet_slots (allocation_at w s) (seat_at w.seats s).proposal.want (seat_known w s good lt).has.want

pub give_meets : (w : State) (s : ℕ) → IsGoodWorld w → s < length w.seats → MeetSlots (allocation_at w s) (seat_at w.seats s).proposal.give
give_meets w s good lt = meet_slots (allocation_at w s) (seat_at w.seats s).proposal.give (seat_known w s good lt).has.give

-- ---- what was left

not_none : (shares : List Share) → Some shares ≡ None → ⊥
not_none shares e = cc

pub left-after : (w : State) (e : Effect) (s : ℕ) (shares : List Share) → IsGoodEffect w e → s < length w.seats → (seat_at w.seats s).last ≡ Some shares → (seat_at (after w e).seats s).last ≡ Some shares
left-after w (offer o) s shares can lt is = ap (λ (q : Seat). q.last) (read_before w.seats _ no_seat s (λ (e : length w.seats ≡ s). absurd (omega (arith, e, lt)))) ∙ is
left-after w (empty_seat i rule) s shares can lt is = ap (λ (q : Seat). q.last) (read_before w.seats _ no_seat s (λ (e : length w.seats ≡ s). absurd (omega (arith, e, lt)))) ∙ is
left-after w (exit n cause) s shares can lt is = elim (cases_eq n s) [
  | inl same ↦
      let clash : Some shares ≡ None = sym (subst (λ k. (seat_at w.seats k).last ≡ Some shares) (sym same) is) ∙ can in
      absurd (not_none shares clash)
  | inr other ↦ ap (λ (q : Seat). q.last) (read_other w.seats n s (left_seat (seat_at w.seats n) (slots_at w.rights.slots n)) no_seat other) ∙ is
]
left-after w _ s shares can lt is = is
