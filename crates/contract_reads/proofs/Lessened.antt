-- Slots less shares that they have: each keyword stands once, and what was met stays met.
use Rattle.std.specs.Prelude.{IsSomeAnd, map}
use Rattle.std.specs.List.{AllByRecursion}
use Rattle.std.proofs.Common.{◌≡◌, ℕ, ◌<◌, length, arith, List, [], ◌∷◌, ◌++◌, Option, Some, None, refl, sym, subst, ◌∙◌}
use Rattle.std.proofs.lemmas.List.Elements.{All-cons, All-nil}
use Rattle.rules.proofs.proposals.Apart.{AreApart-further}
use Rattle.rules.proofs.proposals.Under.{under_append, under_map}
use Rattle.rules.specs.proposals.Losses.{lowered, with_losses, without}
use Rattle.rules.specs.proposals.ChangedShares.{further}
use Rattle.refusals.specs.amount_math.Amount.{Meet, holding}
use Rattle.refusals.specs.amount_math.Content.{Content, difference}
use Rattle.refusals.specs.amount_math.declared.Amount.{Amount}
use Rattle.rules.specs.proposals.OfferSafety.{MeetSlots, MeetsSlot}
use Rattle.rules.specs.States.{allocation_of, seat_of}
use Rattle.rules.specs.proposals.Shares.{AreApart, AreShares, amount_under, content_under, keyed_share}
use Rattle.rules.specs.proposals.declared.allocations.Share.{Share}
use Rattle.contract_reads.specs.Calls.{FitSlots}
use Rattle.rule_laws.proofs.world_laws.Lists.{all_read}
use Rattle.rules.specs.world_state.Good.{HasSlot, IsGoodWorld}
use Rattle.rules.specs.world_state.Worlds.{State}

pub apart_after : (slots shares after lowered_only : List Share) → after ≡ lowered_only ++ further slots shares → lowered_only ≡ without slots shares → AreApart slots → FitSlots slots shares → AreApart after
apart_after slots shares after lowered_only is first apart fit =
    subst AreApart (sym (subst (λ (l : List Share). after ≡ l ++ further slots shares) first is)) (AreApart-further (lowered shares) (λ r. refl) slots shares apart fit.apart)

-- what has a slot meets it once shares are taken
module _ (slots shares : List Share) where
  still_met : (p : Share) → HasSlot slots p → MeetsSlot (with_losses slots shares) p
  still_met p has = by (amount_under p.keyword slots) refl has
    where
      here : (b x : Amount) → amount_under p.keyword slots ≡ Some b → Meet b p.amount → amount_under p.keyword (with_losses slots shares) ≡ Some x → Meet x p.amount
      here b x is meet at =
          let at_slot = under_append p.keyword (without slots shares) (further slots shares) _ (under_map (λ (r : Share). difference r.amount.value.content (content_under r.keyword shares)) p.keyword slots b is) in
          let same : holding b (difference b.value.content (content_under p.keyword shares)) ≡ x = let both = sym at_slot ∙ at in cc in
          subst (λ (y : Amount). Meet y p.amount) same (record { brand = meet.brand; kind = meet.kind })

      by : (o : Option Amount) → amount_under p.keyword slots ≡ o → IsSomeAnd o (λ slot. Meet slot p.amount) → MeetsSlot (with_losses slots shares) p
      by (Some b) is meet = λ x at. here b x is meet at
      by None is none = absurd none

  pub all_met : (ps : List Share) → AllByRecursion (HasSlot slots) ps → MeetSlots (with_losses slots shares) ps
  all_met [] all = All-nil (MeetsSlot (with_losses slots shares))
  all_met (p ∷ ps) all = All-cons (MeetsSlot (with_losses slots shares)) p ps (still_met p all.0) (all_met ps all.1)

-- a seat's offer meets what its slots have once shares are taken
pub want_met : (w : State) (seat : ℕ) (shares : List Share) → IsGoodWorld w → seat < length w.seats → MeetSlots (with_losses (allocation_of w seat) shares) (seat_of w seat).proposal.want
want_met w seat shares good made = all_met (allocation_of w seat) shares (seat_of w seat).proposal.want (good.proposed.each seat made).slots.want

pub give_met : (w : State) (seat : ℕ) (shares : List Share) → IsGoodWorld w → seat < length w.seats → MeetSlots (with_losses (allocation_of w seat) shares) (seat_of w seat).proposal.give
give_met w seat shares good made = all_met (allocation_of w seat) shares (seat_of w seat).proposal.give (good.proposed.each seat made).slots.give

pub shares_apart : (w : State) (seat : ℕ) → IsGoodWorld w → seat < length w.seats → AreApart (allocation_of w seat)
shares_apart w seat good made =
    let shares : AreShares (allocation_of w seat) = all_read AreShares w.rights.slots seat [] good.seats.shares (omega (arith, made, good.seats.slotted)) in
    shares.apart
