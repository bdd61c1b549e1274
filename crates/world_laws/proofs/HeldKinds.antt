-- By effect: whatever is held is of the kind of its brand.
use Rattle.std.specs.List.{AllByRecursion}
use Rattle.std.proofs.Common.{ℕ, ◌<◌, Bool, true, false, if◌then◌else◌, List, [], ◌∷◌, ◌++◌, length, map, arith}
use Rattle.world_state.specs.brands.Brands.{brand_at}
use Rattle.world_state.specs.ertp_mint.BrandSupply.{BrandSupply, new_supply}
use Rattle.world_state.specs.ertp_mint.Stocks.{empty_amount}
use Rattle.world_state.specs.proposals.Slots.{emptied, in_byte_order, is_upto, placed, slots_of}
use Rattle.world_state.specs.proposals.declared.offers.Proposal.{Proposal}
use Rattle.world_state.specs.proposals.declared.allocations.Share.{Share}
use Rattle.world_state.specs.vault_model.Tables.{no_hand}
use Rattle.world_state.specs.Good.{AreSharesOf, IsGoodEffect, IsGoodWorld, IsOfKind, IsPayment}
use Rattle.world_state.specs.Rights.{slots_at, with_slots}
use Rattle.world_state.specs.Worlds.{Effect, State, after, burn_and_escrows, empty_slots, invitation_move, paid_out, empty_payment, empty_seat, exit, invite, moves, new_brand, new_purse, offer}
use Rattle.world_laws.proofs.Lists.{all_append, all_map, all_push, all_read_or, all_set, all_under}
use Rattle.world_laws.proofs.OfKinds.{AreKinds, amount_stays, payment_stays, shares_stay, stay_push, together_kinds}
use Rattle.world_laws.proofs.Supplies.{can_invite}

were_kinds : (w : State) → IsGoodWorld w → AreKinds w.rights.out w.rights
were_kinds w good = record { purses = good.purse_kinds; payments = good.payment_kinds; slots = good.slot_kinds }

some_out : (w : State) → IsGoodWorld w → 0 < length w.rights.out
some_out w good = omega (arith, good.brands.some, good.brands.supplies)

pub emptied_kinds : (out : List BrandSupply) (rs : List Share) → AreSharesOf out rs → AreSharesOf out (map emptied rs)
emptied_kinds out [] all = tt
emptied_kinds out (r ∷ rs) all = (record { made = all.0.made; kind = all.0.kind }, emptied_kinds out rs all.1)

-- the slots that a proposal opens
module _ (P : Share → Type 0) where
  placed_all : (share : Share) (rs : List Share) → P share → AllByRecursion P rs → AllByRecursion P (placed share rs)
  placed_all share [] p all = (p, tt)
  placed_all share (r ∷ rs) p all = by (is_upto share.keyword r.keyword) (placed_all share rs p all.1)
    where
      by : (b : Bool) → AllByRecursion P (placed share rs) → AllByRecursion P (if b then share ∷ r ∷ rs else r ∷ placed share rs)
      by true rest = (p, all)
      by false rest = (all.0, rest)

  ordered_all : (rs : List Share) → AllByRecursion P rs → AllByRecursion P (in_byte_order rs)
  ordered_all [] all = tt
  ordered_all (r ∷ rs) all = placed_all r (in_byte_order rs) all.0 (ordered_all rs all.1)

  -- what is so of a share is so of the share with nothing
  module _ (stays : (r : Share) → P r → P (emptied r)) where
    pub emptied_all : (rs : List Share) → AllByRecursion P rs → AllByRecursion P (map emptied rs)
    emptied_all [] all = tt
    emptied_all (r ∷ rs) all = (stays r all.0, emptied_all rs all.1)

    slots_all : (p : Proposal) → AllByRecursion P p.give → AllByRecursion P p.want → AllByRecursion P (slots_of p)
    unfolding slots_of
    slots_all p give want = all_append P (in_byte_order p.give) (map emptied (in_byte_order p.want)) (ordered_all p.give give) (emptied_all (in_byte_order p.want) (ordered_all p.want want))

    pub empty_slots_all : (p : Proposal) → AllByRecursion P p.give → AllByRecursion P p.want → AllByRecursion P (empty_slots p)
    empty_slots_all p give want = emptied_all (slots_of p) (slots_all p give want)

pub empty_slots_kinds : (out : List BrandSupply) (p : Proposal) → AreSharesOf out p.give → AreSharesOf out p.want → AreSharesOf out (empty_slots p)
empty_slots_kinds out p give want = empty_slots_all (λ (r : Share). IsOfKind out r.amount) (λ r is. record { made = is.made; kind = is.kind }) p give want

-- nothing of a brand is of its kind
empty_of_kind : (w : State) (b : ℕ) → IsGoodWorld w → b < length w.brands → IsOfKind w.rights.out (empty_amount b (brand_at w.brands b).kind)
empty_of_kind w b good made = record { made = omega (arith, made, good.brands.supplies); kind = good.brands.kinds b }

paid_kinds : (out : List BrandSupply) (rs : List Share) → AreSharesOf out rs → AllByRecursion (IsPayment out) (map paid_out rs)
paid_kinds out rs all = all_under paid_out (IsPayment out) rs (all_map (λ (x : Share). IsOfKind out x.amount) (λ x. IsPayment out (paid_out x)) (λ x is. record { made = is.made; kind = is.kind }) rs all)

pub kinds-after : (w : State) (e : Effect) → IsGoodEffect w e → IsGoodWorld w → AreKinds (after w e).rights.out (after w e).rights
kinds-after w (new_brand b maker) can good =
    let out = w.rights.out in
    let s = new_supply b.kind in
    record {
      purses = all_map (IsOfKind out) (IsOfKind (out ++ s ∷ [])) (amount_stays out _ (stay_push out s)) w.rights.purses good.purse_kinds;
      payments = all_map (IsPayment out) (IsPayment (out ++ s ∷ [])) (payment_stays out _ (stay_push out s)) w.rights.payments good.payment_kinds;
      slots = all_map (AreSharesOf out) (AreSharesOf (out ++ s ∷ [])) (shares_stay out _ (stay_push out s)) w.rights.slots good.slot_kinds;
    }
kinds-after w (new_purse b) can good = record { purses = all_push (IsOfKind w.rights.out) w.rights.purses _ good.purse_kinds (empty_of_kind w b good can.made); payments = good.payment_kinds; slots = good.slot_kinds }
kinds-after w (empty_payment b) can good =
    let is = empty_of_kind w b good can.made in
    record { purses = good.purse_kinds; payments = all_push (IsPayment w.rights.out) w.rights.payments _ good.payment_kinds (record { made = is.made; kind = is.kind }); slots = good.slot_kinds }
kinds-after w (moves ms) can good = together_kinds w.rights no_hand ms (some_out w good) can.can (were_kinds w good)
kinds-after w (offer o) can good =
    together_kinds (with_slots w.rights (empty_slots o.proposal)) no_hand (burn_and_escrows o) (some_out w good) can.moves.can
    (record { purses = good.purse_kinds; payments = good.payment_kinds; slots = all_push (AreSharesOf w.rights.out) w.rights.slots (empty_slots o.proposal) good.slot_kinds (empty_slots_kinds w.rights.out o.proposal can.proposal.gives can.proposal.wants) })
kinds-after w (empty_seat i rule) can good = record { purses = good.purse_kinds; payments = good.payment_kinds; slots = all_push (AreSharesOf w.rights.out) w.rights.slots [] good.slot_kinds tt }
kinds-after w (exit s cause) can good =
    let shares = slots_at w.rights.slots s in
    let is = all_read_or (AreSharesOf w.rights.out) w.rights.slots s [] good.slot_kinds tt in
    record {
      purses = good.purse_kinds;
      payments = all_append (IsPayment w.rights.out) w.rights.payments (map paid_out shares) good.payment_kinds (paid_kinds w.rights.out shares is);
      slots = all_set (AreSharesOf w.rights.out) w.rights.slots s (map emptied shares) good.slot_kinds (emptied_kinds w.rights.out shares is);
    }
kinds-after w (invite d) can good = together_kinds w.rights no_hand (invitation_move w ∷ []) (some_out w good) (can_invite w good can.few) (were_kinds w good)
kinds-after w _ can good = were_kinds w good
