-- Whatever purses, payments and slots have stays a value of its kind.
use Rattle.std.specs.Prelude.{◌==◌, IfSome, IsSomeAnd, slice_set}
use Rattle.std.specs.List.{AllByRecursion}
use Rattle.std.specs.Option.{option_map}
use Rattle.std.specs.Str.{bytes_eq}
use Rattle.std.proofs.Common.{ℕ, Bool, true, false, cond, List, [], ◌∷◌, ◌++◌, Some, None, Option, length, map, sym, subst, arith, if◌then◌else◌}
use Rattle.world_state.specs.amount_math.Content.{Contains, Content, count-difference, difference, nothing, sum}
use Rattle.world_state.specs.amount_math.KindLaws.{nothing_is_value, value_of_part}
use Rattle.world_state.specs.amount_math.ValueView.{IsValue, ValueView}
use Rattle.world_state.specs.amount_math.declared.Amount.{Amount}
use Rattle.world_state.specs.amount_math.declared.Kind.{Kind}
use Rattle.world_state.specs.amount_math.Amount.{holding}
use Rattle.world_state.specs.brands.Brands.{brand_at}
use Rattle.world_state.specs.ertp_mint.Stocks.{no_amount}
use Rattle.world_state.specs.holders.PaymentViews.{PaymentView, live_payment, payment_view_at, spent_payment}
use Rattle.world_state.specs.proposals.Shares.{amount_under, keyed_share}
use Rattle.world_state.specs.proposals.Slots.{emptied}
use Rattle.world_state.specs.proposals.declared.allocations.Share.{Share}
use Rattle.world_state.specs.rights_model.declared.Holder.{Holder}
use Rattle.world_state.specs.rights_model.declared.Holder.TheVariants.{Purse, Payment, Slot, Hand, Outside}
use Rattle.world_state.specs.rights_model.declared.Movement.{Movement}
use Rattle.world_state.specs.vault_model.Lists.{amount_of, less, more, purse_at}
use Rattle.world_state.specs.vault_model.Tables.{no_hand}
use Rattle.world_state.specs.Good.{AreSharesValued, AreValues, IsAmountValued, IsGoodEffect, IsGoodWorld, IsPaymentValued, IsValued}
use Rattle.world_state.specs.Rights.{CanGive, CanMoveAll, IsNextOr, Rights, Takes, TakesOrOpens, all_moved, all_spent, given, hand_after, moved, moved_together, paid, lessened_payment, raised_payment, shares_less, shares_more, slots_at, spent_from, taken, value_less, value_more, with_slots}
use Rattle.world_state.specs.Worlds.{Effect, State, after, burn_and_escrows, empty_slots, invitation_move, paid_out, empty_payment, empty_seat, exit, invite, moves, new_purse, offer}
use Rattle.world_laws.proofs.HeldKinds.{emptied_all, empty_slots_all}
use Rattle.world_laws.proofs.Lists.{all_append, all_push, all_read_or, all_set, all_under}
use Rattle.world_laws.proofs.Supplies.{can_invite}

-- ---- a value with a part less, and one that takes more

part_left : (c d : Content) → Contains c (difference c d)
part_left c d = record { each = λ k. omega (arith, count-difference c d k) }

pub less_valued : (kind : Kind) (c d : Content) → IsValue kind c → IsValue kind (difference c d)
less_valued kind c d is = value_of_part kind c (difference c d) (part_left c d) is

taken_more : (a : Amount) (b : ℕ) (w : ValueView) → Takes a b w → IsAmountValued (more a w.content)
taken_more a b w takes = subst (λ k. IsValue k (sum a.value.content w.content)) (sym takes.kind) takes.value

nothing_valued : (a : Amount) → IsAmountValued (holding a nothing)
nothing_valued a = nothing_is_value a.value.kind

emptied_valued : (rs : List Share) → AreSharesValued rs → AreSharesValued (map emptied rs)
emptied_valued rs all = emptied_all (λ (r : Share). IsAmountValued r.amount) (λ r is. nothing_valued r.amount) rs all

-- ---- payments

lessened_payment_valued : (p : PaymentView) (c : Content) → IsPaymentValued p → IsPaymentValued (lessened_payment p c)
lessened_payment_valued p c is = by p.held is
  where
    by : (h : Option ValueView) → IfSome h IsValued → IfSome (option_map (value_less c) h) IsValued
    by None k = tt
    by (Some w) k = less_valued w.kind w.content c k

raised_payment_valued : (p : PaymentView) (b : ℕ) (w : ValueView) → IsSomeAnd p.held (λ held. Takes (amount_of p.brand held) b w) → IsPaymentValued (raised_payment p w.content)
raised_payment_valued p b w has = by p.held has
  where
    by : (h : Option ValueView) → IsSomeAnd h (λ held. Takes (amount_of p.brand held) b w) → IfSome (option_map (value_more w.content) h) IsValued
    by None k = absurd k
    by (Some v) k = taken_more (amount_of p.brand v) b w k

paid_valued : (r : Rights) (n b : ℕ) (w : ValueView) → IsNextOr (n == length r.payments) r n b w → AllByRecursion IsPaymentValued r.payments → AllByRecursion IsPaymentValued (paid r.payments n (amount_of b w))
paid_valued r n b w can all = by (n == length r.payments) can
  where
    by : (t : Bool) → IsNextOr t r n b w → AllByRecursion IsPaymentValued (if t then r.payments ++ live_payment (amount_of b w) ∷ [] else slice_set r.payments n (raised_payment (payment_view_at r.payments n) w.content))
    by true h = all_push IsPaymentValued r.payments (live_payment (amount_of b w)) all h
    by false h = all_set IsPaymentValued r.payments n _ all (raised_payment_valued (payment_view_at r.payments n) b w h.takes)

-- ---- shares

shares_less_valued : (k : List ℕ) (a : Amount) (rs : List Share) → AreSharesValued rs → AreSharesValued (shares_less k a rs)
shares_less_valued k a [] all = (nothing_valued a, tt)
shares_less_valued k a (r ∷ rs) all = by (bytes_eq k r.keyword) (shares_less_valued k a rs all.1)
  where
    by : (b : Bool) → AreSharesValued (shares_less k a rs) → AreSharesValued (if b then keyed_share r.keyword (less r.amount a.value.content) ∷ rs else r ∷ shares_less k a rs)
    by true rest = (less_valued r.amount.value.kind r.amount.value.content a.value.content all.0, all.1)
    by false rest = (all.0, rest)

-- the slot takes it, or it is a value
abbrev CanHave : Option Amount → ℕ → ValueView → Type 0
CanHave (Some a) b w = Takes a b w
CanHave None b w = IsValue w.kind w.content

can_have : (o : Option Amount) (rs : List Share) (b : ℕ) (w : ValueView) → TakesOrOpens o rs b w → CanHave o b w
can_have None rs b w h = h.0
can_have (Some a) rs b w h = h

shares_more_valued : (k : List ℕ) (b : ℕ) (w : ValueView) (rs : List Share) → CanHave (amount_under k rs) b w → AreSharesValued rs → AreSharesValued (shares_more k (amount_of b w) rs)
shares_more_valued k b w [] can all = (can, tt)
shares_more_valued k b w (r ∷ rs) can all = by (bytes_eq k r.keyword) (λ c. shares_more_valued k b w rs c all.1) can
  where
    by : (t : Bool) → (CanHave (amount_under k rs) b w → AreSharesValued (shares_more k (amount_of b w) rs)) → CanHave (cond t (Some r.amount) (amount_under k rs)) b w → AreSharesValued (if t then keyed_share r.keyword (more r.amount w.content) ∷ rs else r ∷ shares_more k (amount_of b w) rs)
    by true to c = (taken_more r.amount b w c, all.1)
    by false to c = (all.0, to c)

-- ---- halves and movements

pub taken_valued : (r : Rights) (h : Holder) (b : ℕ) (w : ValueView) → AreValues r → AreValues (taken r h b w)
taken_valued r (Purse n) b w v = record {
  purses = all_set IsAmountValued r.purses n _ v.purses (less_valued (purse_at r.purses n).value.kind (purse_at r.purses n).value.content w.content (all_read_or IsAmountValued r.purses n no_amount v.purses (nothing_is_value no_amount.value.kind)));
  payments = v.payments;
  slots = v.slots;
}
taken_valued r (Payment n) b w v = record {
  purses = v.purses;
  payments = all_set IsPaymentValued r.payments n _ v.payments (lessened_payment_valued (payment_view_at r.payments n) w.content (all_read_or IsPaymentValued r.payments n (spent_payment 0) v.payments tt));
  slots = v.slots;
}
taken_valued r (Slot s k) b w v = record {
  purses = v.purses;
  payments = v.payments;
  slots = all_set AreSharesValued r.slots s _ v.slots (shares_less_valued k (amount_of b w) (slots_at r.slots s) (all_read_or AreSharesValued r.slots s [] v.slots tt));
}
taken_valued r Hand b w v = v
taken_valued r Outside b w v = record { purses = v.purses; payments = v.payments; slots = v.slots }

pub given_valued : (r : Rights) (h : Holder) (b : ℕ) (w : ValueView) → CanGive r h b w → AreValues r → AreValues (given r h b w)
given_valued r (Purse n) b w can v = record { purses = all_set IsAmountValued r.purses n _ v.purses (taken_more (purse_at r.purses n) b w can.takes); payments = v.payments; slots = v.slots }
given_valued r (Payment n) b w can v = record { purses = v.purses; payments = paid_valued r n b w can v.payments; slots = v.slots }
given_valued r (Slot s k) b w can v = record {
  purses = v.purses;
  payments = v.payments;
  slots = all_set AreSharesValued r.slots s _ v.slots (shares_more_valued k b w (slots_at r.slots s) (can_have (amount_under k (slots_at r.slots s)) (slots_at r.slots s) b w can.takes) (all_read_or AreSharesValued r.slots s [] v.slots tt));
}
given_valued r Hand b w can v = v
given_valued r Outside b w can v = record { purses = v.purses; payments = v.payments; slots = v.slots }

pub all_valued : (r : Rights) (hand : ℕ → Content) (ms : List Movement) → CanMoveAll r hand ms → AreValues r → AreValues (all_moved r ms)
all_valued r hand [] can v = v
all_valued r hand (m ∷ ms) can v = all_valued (moved r m) (hand_after hand m) ms can.1 (given_valued (taken r m.from m.brand m.value) m.to m.brand m.value can.0.to (taken_valued r m.from m.brand m.value v))

spent_from_valued : (h : Holder) (ps : List PaymentView) → AllByRecursion IsPaymentValued ps → AllByRecursion IsPaymentValued (spent_from h ps)
spent_from_valued (Payment n) ps all = all_set IsPaymentValued ps n (spent_payment (payment_view_at ps n).brand) all tt
spent_from_valued _ ps all = all

spent_valued : (ms : List Movement) (ps : List PaymentView) → AllByRecursion IsPaymentValued ps → AllByRecursion IsPaymentValued (all_spent ms ps)
spent_valued [] ps all = all
spent_valued (m ∷ ms) ps all = spent_valued ms (spent_from m.from ps) (spent_from_valued m.from ps all)

together_valued : (r : Rights) (hand : ℕ → Content) (ms : List Movement) → CanMoveAll r hand ms → AreValues r → AreValues (moved_together r ms)
together_valued r hand ms can v =
    let end = all_valued r hand ms can v in
    record { purses = end.purses; payments = spent_valued ms (all_moved r ms).payments end.payments; slots = end.slots }

pub valued-after : (w : State) (e : Effect) → IsGoodEffect w e → IsGoodWorld w → AreValues (after w e).rights
valued-after w (new_purse b) can good = record { purses = all_push IsAmountValued w.rights.purses _ good.valued.purses (nothing_is_value (brand_at w.brands b).kind); payments = good.valued.payments; slots = good.valued.slots }
valued-after w (empty_payment b) can good = record { purses = good.valued.purses; payments = all_push IsPaymentValued w.rights.payments _ good.valued.payments (nothing_is_value (brand_at w.brands b).kind); slots = good.valued.slots }
valued-after w (moves ms) can good = together_valued w.rights no_hand ms can.can good.valued
valued-after w (offer o) can good =
    let shares = empty_slots o.proposal in
    let empty : AreSharesValued shares = empty_slots_all (λ (r : Share). IsAmountValued r.amount) (λ r is. nothing_valued r.amount) o.proposal can.proposal.give_valued can.proposal.want_valued in
    together_valued (with_slots w.rights shares) no_hand (burn_and_escrows o) can.moves.can
    (record { purses = good.valued.purses; payments = good.valued.payments; slots = all_push AreSharesValued w.rights.slots shares good.valued.slots empty })
valued-after w (empty_seat i rule) can good = record { purses = good.valued.purses; payments = good.valued.payments; slots = all_push AreSharesValued w.rights.slots [] good.valued.slots tt }
valued-after w (exit s cause) can good =
    let shares = slots_at w.rights.slots s in
    let are = all_read_or AreSharesValued w.rights.slots s [] good.valued.slots tt in
    record {
      purses = good.valued.purses;
      payments = all_append IsPaymentValued w.rights.payments (map paid_out shares) good.valued.payments (all_under paid_out IsPaymentValued shares are);
      slots = all_set AreSharesValued w.rights.slots s (map emptied shares) good.valued.slots (emptied_valued shares are);
    }
valued-after w (invite d) can good = together_valued w.rights no_hand (invitation_move w ∷ []) (can_invite w good can.few) good.valued
valued-after w _ can good = record { purses = good.valued.purses; payments = good.valued.payments; slots = good.valued.slots }
