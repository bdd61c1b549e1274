-- The rule of an offer is good.
use Rattle.std.specs.Prelude.{IsSomeAnd, is_none, map, slice_set}
use Rattle.std.specs.List.{AllByRecursion}
use Rattle.std.specs.Str.{bytes_eq}
use Rattle.std.proofs.Common.{◌≡◌, ℕ, suc, ◌+◌, ◌≤◌, Bool, true, false, cond, List, [], ◌∷◌, ◌++◌, length, Option, Some, None, Result, Ok, IfOk, codes, inr, inl, refl, sym, ap, subst, ◌∙◌, arith}
use Rattle.std.proofs.lemmas.Bool.{leb-true}
use Rattle.world_laws.specs.amount_math.Amount.{Meet}
use Rattle.world_laws.specs.amount_math.Content.{nothing, nothing-sum, sum}
use Rattle.world_laws.specs.amount_math.ValueView.{IsValue, ValueView}
use Rattle.world_laws.specs.amount_math.declared.Amount.{Amount}
use Rattle.rules.proofs.call_arguments.ArgumentLists.{none_twice}
use Rattle.rules.specs.call_arguments.Arguments.{arg}
use Rattle.rules.specs.call_arguments.Numbers.{AreApart}
use Rattle.world_laws.specs.ertp_mint.Stocks.{most_made}
use Rattle.world_laws.specs.host_data.Tree.{Tree}
use Rattle.world_laws.specs.host_data.declared.data.ObjKind.TheVariants as kinds
use Rattle.world_laws.proofs.lemmas.ListEdits.{length_map, length_push, length_set, read_past, read_pushed, read_set}
use Rattle.rules.specs.holders.PaymentViews.{payment_view_at}
use Rattle.rules.specs.proposals.OfferSafety.{IsCovered, IsOfferSafe}
use Rattle.rules.specs.proposals.Shares.{amount_under, most_shares}
use Rattle.rules.specs.proposals.Slots.{emptied, in_byte_order, slots_of}
use Rattle.rules.specs.proposals.declared.allocations.Share.{Share}
use Rattle.rules.specs.proposals.declared.offers.Proposal.{Proposal}
use Rattle.rules.specs.call_arguments.Records.{names, objects_under}
use Rattle.world_laws.proofs.refusals.Steps.{after_known, after_none_such, after_step, need_holds, ok_has}
use Rattle.world_laws.specs.refusals.Outcomes.{◌>>◌, bind, need}
use Rattle.world_laws.specs.refusals.declared.codes.Refusal.{Refusal}
use Rattle.world_laws.specs.rights_model.declared.Holder.TheVariants.{Payment}
use Rattle.world_laws.specs.rights_model.declared.Movement.{Movement}
use Rattle.world_laws.specs.vault_model.Lists.{amount_of}
use Rattle.world_laws.specs.vault_model.Tables.{no_hand}
use Rattle.world_laws.proofs.Lists.{length_append}
use Rattle.world_laws.proofs.OfKinds.{shares_stay, same_moved, stay_same}
use Rattle.world_laws.proofs.Proposed.{opened_slots}
use Rattle.world_laws.proofs.Rooms.{open-push}
use Rattle.world_laws.proofs.Seated.{empty_slots_are}
use Rattle.world_laws.specs.world_state.Good.{AreEscrows, AreSharesOf, CanMoveTogether, CanOffer, HasSlot, HoldsNothing, IsGoodWorld, IsProposal, IsValued, open_slots, rights_for, seats_for}
use Rattle.world_laws.specs.world_state.Known.{IsHanded}
use Rattle.world_laws.specs.world_state.Rights.{CanMove, CanMoveAll, Has, Rights, all_moved, moved, lessened_payment, slots_at, with_slots}
use Rattle.world_laws.specs.world_state.Worlds.{IsOpen, Offering, Seat, State, burn_and_escrows, empty_slots, new_seat, no_seat, offered_by, promises_made, seat_at}
use Rattle.world_laws.specs.world_state.Worlds as worlds
use Rattle.rules.specs.Licence.{AreLicensed, NamesPayment}
use Rattle.rule_laws.proofs.Forms.{object_formed}
use Rattle.rule_laws.proofs.Moving.{Holds, contains_itself, emptied_payment, held_kind, is_out}
use Rattle.rule_laws.proofs.SharesRead.{IsReadShare, read_of_kinds, read_valued, rising_apart, rising_ordered}
use Rattle.rule_laws.proofs.SlotLists.{CanAddAll, CanAddTo, added_covered, all_of_each, can_add_all, fresh_in, with_more, with_more_many}
use Rattle.rule_laws.proofs.SlotMoves.{Pay, can_change, escrows_apart, escrows_are, escrows_can, escrows_emptied, escrows_fresh, escrows_good, escrows_payments, escrows_slots, escrows_stored, escrows_take_apart, escrows_untouched, pays_still}
use Rattle.rules.specs.Zoe.{Invited, has_room, keywords_of, offer, offering, paid}
use Rattle.rules.specs.GivenPayments.{escrows_of, held_by, is_live_in}
use Rattle.rules.specs.Proposals.{Proposed}
use Rattle.rule_laws.specs.GoodServices.{IsGoodMethod, numbered}
use Rattle.rule_laws.proofs.Invited.{IsInvited, invited_is}
use Rattle.rule_laws.proofs.PaidShares.{ArePayments, each_passes, payments_under, shares_paid}
use Rattle.rule_laws.proofs.Proposed.{IsProposed, proposed_is}

-- ---- slots that have nothing yet

nothing_there : (k : List ℕ) (rs : List Share) (a : Amount) → amount_under k (map emptied rs) ≡ Some a → a.value.content ≡ nothing
nothing_there k [] a is = absurd (cc)
nothing_there k (r ∷ rs) a is = by (bytes_eq k r.keyword) (nothing_there k rs a) is
  where
    by : (b : Bool) → (amount_under k (map emptied rs) ≡ Some a → a.value.content ≡ nothing) → cond b (Some (emptied r).amount) (amount_under k (map emptied rs)) ≡ Some a → a.value.content ≡ nothing
    by true later e = let same : (emptied r).amount ≡ a = cc in sym (ap (λ (x : Amount). x.value.content) same)
    by false later e = later e

fills : (rs : List Share) (r : Share) → HasSlot (map emptied rs) r → IsValued r.amount.value → CanAddTo (amount_under r.keyword (map emptied rs)) r
fills rs r has value = by (amount_under r.keyword (map emptied rs)) (nothing_there r.keyword rs) has
  where
    by : (o : Option Amount) → ((a : Amount) → o ≡ Some a → a.value.content ≡ nothing) → IsSomeAnd o (λ slot. Meet slot r.amount) → CanAddTo o r
    by None empty meets = absurd meets
    by (Some a) empty meets = record {
      brand = meets.brand;
      kind = meets.kind;
      value = subst (λ c. IsValue r.amount.value.kind (sum c r.amount.value.content)) (sym (empty a refl)) (subst (IsValue r.amount.value.kind) (sym (nothing-sum r.amount.value.content)) value);
    }

all_fill : (rs shares : List Share) → AllByRecursion (HasSlot (map emptied rs)) shares → (w : State) → AllByRecursion (IsReadShare w) shares → AllByRecursion (λ (r : Share). CanAddTo (amount_under r.keyword (map emptied rs)) r) shares
all_fill rs [] has w read = tt
all_fill rs (r ∷ shares) has w read = (fills rs r has.0 read.0.value, all_fill rs shares has.1 w read.1)

none_fresh : (slots shares : List Share) → AllByRecursion (HasSlot slots) shares → fresh_in slots shares ≡ 0
none_fresh slots [] has = refl
none_fresh slots (r ∷ rs) has = by (amount_under r.keyword slots) has.0 (none_fresh slots rs has.1)
  where
    by : (o : Option Amount) → IsSomeAnd o (λ slot. Meet slot r.amount) → fresh_in slots rs ≡ 0 → cond (is_none o) (suc (fresh_in slots rs)) (fresh_in slots rs) ≡ 0
    by None meets rest = absurd meets
    by (Some a) meets rest = rest

-- ---- the payments of an offer

record IsPaid (w : State) (args : List Tree) (invitation : ℕ) (give : List Share) (ps : List ℕ) : Type 0 where
  pay : Pay w.rights.payments give ps
  apart : AreApart (invitation ∷ ps)
  named : AllByRecursion (NamesPayment args) ps

names_many : (shares : List Share) → length (map (λ (r : Share). r.keyword) shares) ≡ length shares
names_many shares = length_map (λ (r : Share). r.keyword) shares

paid_is : (w : State) → IsGoodWorld w → (args : List Tree) (invitation : ℕ) (give : List Share) (given : List (List ℕ × Tree)) → AllByRecursion (IsReadShare w) give → ((ps : List ℕ) → objects_under kinds.Payment 3 given ≡ Ok ps → ArePayments w args given ps) → map (λ (r : Share). r.keyword) give ≡ names given → IfOk (paid w invitation give given) (IsPaid w args invitation give)
unfolding paid
paid_is w good args invitation give given read are same = after_step _ _ _ (λ ps at. after_none_such _ _ _ _ (λ live. after_none_such _ _ _ _ (λ once. after_none_such _ _ _ _ (λ wrong.
    let payments = are ps at in
    record {
      pay = shares_paid w good give ps read (omega (arith, payments.many, names_many give, ap (λ l. length l) same)) payments.made (each_passes (is_live_in w) ps live) wrong;
      apart = none_twice (invitation ∷ ps) once;
      named = payments.named;
    }))))

-- ---- room

record IsRoom (w : State) (p : Proposal) : Type 0 where
  few : keywords_of p ≤ most_shares
  payments : length w.rights.payments + open_slots w.seats w.rights.slots + keywords_of p ≤ most_made
  seats : length w.seats + 1 ≤ most_made
  promises : promises_made w + 2 ≤ most_made

passed : (b : Bool) (r : Refusal) (next : Result (Unit {0}) Refusal) → need b r >> next ≡ Ok tt → (b ≡ true) × (next ≡ Ok tt)
unfolding bind need
passed true r next is = (refl, is)
passed false r next is = absurd (cc)

room_is : (w : State) (p : Proposal) → has_room w p ≡ Ok tt → IsRoom w p
unfolding has_room
room_is w p is =
    let first = passed _ _ _ is in
    let second = passed _ _ _ first.1 in
    let third = passed _ _ _ second.1 in
    record {
      few = leb-true (keywords_of p) most_shares first.0;
      payments = leb-true (length w.rights.payments + open_slots w.seats w.rights.slots + keywords_of p) most_made second.0;
      seats = leb-true (length w.seats + 1) most_made third.0;
      promises = leb-true (promises_made w + 2) most_made (need_holds _ _ tt third.1);
    }

-- ---- the licence

licensed_escrows : (w : State) (args : List Tree) (n s : ℕ) (shares : List Share) (ps : List ℕ) → AllByRecursion (NamesPayment args) ps → AreLicensed w None (numbered kinds.Zoe n) (codes "offer") args (escrows_of s shares ps ++ [])
licensed_escrows w args n s [] ps named = tt
licensed_escrows w args n s (x ∷ xs) [] named = tt
licensed_escrows w args n s (x ∷ xs) (p ∷ ps) named = (named.0, licensed_escrows w args n s xs ps named.1)

-- ---- the offer

module _ (w : State) (good : IsGoodWorld w) (args : List Tree) (by : Invited) (invited : IsInvited w args by) (p : Proposal) (give : AllByRecursion (IsReadShare w) p.give) (ordered : in_byte_order p.give ≡ p.give) (wants_ordered : in_byte_order p.want ≡ p.want) (is : IsProposal w.rights.out p) (ps : List ℕ) (pays : IsPaid w args by.payment p.give ps) (room : IsRoom w p) (arguments : Tree) where
  abbrev s : ℕ
  s = length w.seats

  abbrev o : Offering
  o = offering w by p ps arguments

  abbrev ms : List Movement
  ms = escrows_of s p.give ps

  abbrev slots : List Share
  slots = empty_slots p

  abbrev start : Rights
  start = with_slots w.rights slots

  abbrev burned : Rights
  burned = moved start o.burn

  abbrev v : ValueView
  v = held_by w by.payment

  holds : Holds w.rights.payments by.payment 0 v
  holds = subst (Holds w.rights.payments by.payment 0) (sym invited.held) invited.holds

  burn_can : CanMove start no_hand o.burn
  burn_can = record {
    brand = omega (arith, good.brands.some, good.brands.supplies);
    kind = held_kind w good by.payment 0 v holds;
    from = record {
      made = holds.made;
      has = subst (λ (h : Option ValueView). IsSomeAnd h (λ x. Has (amount_of (payment_view_at w.rights.payments by.payment).brand x) 0 v)) (sym holds.held) (record { brand = holds.brand; kind = refl; has = contains_itself v.content });
    };
    to = record { has = is_out w good by.payment 0 v holds };
  }

  slotted : length start.slots ≡ s + 1
  slotted = omega (arith, length_push w.rights.slots slots, good.seats.slotted)

  at_slots : slots_at start.slots s ≡ slots
  at_slots = read_pushed w.rights.slots slots [] s (sym good.seats.slotted)

  pays_after : Pay burned.payments p.give ps
  pays_after = pays_still w.rights.payments by.payment (lessened_payment (payment_view_at w.rights.payments by.payment) v.content) p.give ps pays.apart.0 pays.pay

  has_slots : AllByRecursion (HasSlot slots) p.give
  has_slots = (opened_slots p is.fits is.give is.want).give

  kinds_after : AreSharesOf burned.out p.give
  kinds_after = shares_stay start.out burned.out (stay_same start.out burned.out (same_moved start o.burn)) p.give is.gives

  seat_is : seat_at (seats_for w o) s ≡ new_seat (offered_by w o).instance p
  seat_is = read_pushed w.seats (new_seat (offered_by w o).instance p) no_seat s refl

  open_now : IsOpen (seat_at (seats_for w o) s)
  open_now = ap (λ (x : Seat). x.last) seat_is

  few_slots : length slots ≤ most_shares
  few_slots = (empty_slots_are p is.fits is.give is.want).few

  adds : CanAddAll slots p.give
  adds = can_add_all slots p.give is.give.apart (all_fill (slots_of p) p.give has_slots w give) (omega (arith, few_slots, none_fresh slots p.give has_slots))

  moves_can : CanMoveAll start no_hand (o.burn ∷ ms)
  moves_can = (burn_can, escrows_can s burned slots p.give ps (omega (arith, slotted)) at_slots adds pays_after pays.apart.1 kinds_after)

  abbrev new : List Share
  new = with_more slots p.give

  slots_after : (all_moved start (o.burn ∷ ms)).slots ≡ slice_set start.slots s new
  slots_after = escrows_slots s burned slots p.give ps (omega (arith, slotted)) at_slots pays_after pays.apart.1

  covered : IsOfferSafe p new
  covered = inr (all_of_each (IsCovered new) p.give (added_covered slots p.give))

  many_slots : length slots ≡ keywords_of p
  unfolding slots_of
  many_slots = omega (
    arith,
    length_map emptied (slots_of p),
    length_append (in_byte_order p.give) (map emptied (in_byte_order p.want)),
    length_map emptied (in_byte_order p.want),
    ap (λ l. length l) ordered,
    ap (λ l. length l) wants_ordered,
  )

  emptied_burn : HoldsNothing (payment_view_at (all_moved burned ms).payments by.payment)
  emptied_burn = subst HoldsNothing (sym (escrows_untouched s burned p.give ps by.payment pays.apart.0)) (emptied_payment w.rights.payments by.payment v holds.made holds.held)

  together : CanMoveTogether (rights_for w o) (seats_for w o) w.staging (burn_and_escrows o)
  together =
      can_change start (seats_for w o) w.staging (o.burn ∷ ms) s new (omega (arith, slotted)) open_now
      (read_past w.staging None s (omega (arith, good.seats.staged)))
      moves_can
      (record { brings = λ e. cc; from_named = tt; to_named = tt; from = tt; to = tt }, escrows_good s (seats_for w o) p.give ps open_now is.give_named)
      (emptied_burn, escrows_emptied s burned p.give ps pays_after pays.apart.1)
      (tt, escrows_fresh s (length w.rights.payments) p.give ps)
      slots_after
      (subst (λ (x : Seat). IsOfferSafe x.proposal new) (sym seat_is) covered)
      (omega (
        arith,
        room.payments,
        many_slots,
        escrows_payments s burned p.give ps,
        length_set w.rights.payments by.payment (lessened_payment (payment_view_at w.rights.payments by.payment) v.content),
        open-push w.seats w.rights.slots (new_seat (offered_by w o).instance p) slots good.seats.slotted,
        with_more_many slots p.give is.give.apart,
        none_fresh slots p.give has_slots,
        ap (λ l. length l) at_slots,
      ))

  safe_after : IsOfferSafe p (slots_at (worlds.after w (worlds.offer o)).rights.slots s)
  safe_after = subst (IsOfferSafe p) (sym (ap (λ l. slots_at l s) slots_after ∙ read_set start.slots s new [] (omega (arith, slotted)))) covered

  escrows : AreEscrows s (in_byte_order p.give) ms
  escrows = subst (λ l. AreEscrows s l ms) (sym ordered) (escrows_are s w.rights.payments p.give ps pays.pay)

  can_offer : IsHanded w arguments → CanOffer w o
  can_offer handed = record {
    invited = invited.made;
    at_work = invited.at_work;
    proposal = is;
    burn = record { payment = by.payment; brand = refl; from = refl; to = refl; value = invited.held };
    escrows = escrows;
    payments = (escrows_take_apart s p.give ps by.payment pays.apart.0, escrows_apart s p.give ps pays.apart.1);
    moves = together;
    safe = safe_after;
    arguments = handed;
    seats = omega (arith, room.seats);
    promises = room.promises;
  }

proposal_is : (w : State) → IsGoodWorld w → (payments : Tree) (read : Proposed) → IsProposed w payments read → IsRoom w read.proposal → IsProposal w.rights.out read.proposal
proposal_is w good payments read is room = record {
  give = record { few = omega (arith, room.few); apart = rising_apart read.proposal.give is.give.rising };
  want = record { few = omega (arith, room.few); apart = rising_apart read.proposal.want is.want.rising };
  give_named = is.give.named;
  want_named = is.want.named;
  give_valued = read_valued w read.proposal.give is.give.each;
  want_valued = read_valued w read.proposal.want is.want.each;
  fits = record { apart = all_of_each (λ (r : Share). amount_under r.keyword read.proposal.want ≡ None) read.proposal.give is.apart; few = room.few };
  gives = read_of_kinds w good read.proposal.give is.give.each;
  wants = read_of_kinds w good read.proposal.want is.want.each;
  rule = is.rule;
}

pub offer_is : IsGoodMethod kinds.Zoe (codes "offer") (λ w n args. offer w args)
unfolding offer
offer_is w n args can = after_step _ _ _ (λ by invites. after_step _ _ _ (λ read proposes. after_step _ _ _ (λ ps pays. after_known _ _ _ (λ fits.
    let good = can.good in
    let p = read.proposal in
    let invited : IsInvited w args by = ok_has _ _ by invites (invited_is w good args (can.arguments 1)) in
    let proposed : IsProposed w (arg 3 args) read = ok_has _ _ read proposes (proposed_is w _ (arg 2 args) (arg 3 args) (can.arguments 2) (can.arguments 3)) in
    let room = room_is w p fits in
    let paying : IsPaid w args by.payment p.give ps = ok_has _ _ ps pays (paid_is w good args by.payment p.give read.payments proposed.give.each (λ qs at. payments_under w None 3 args read.payments qs (can.arguments 3) proposed.given at) proposed.as_named) in
    let is = proposal_is w good (arg 3 args) read proposed room in
    let o = offering w by p ps (arg 4 args) in
    record {
      good = (can_offer w good args by invited p proposed.give.each (rising_ordered p.give proposed.give.rising) (rising_ordered p.want proposed.want.rising) is ps paying room (arg 4 args) (can.arguments 4), tt);
      known = object_formed _ None _ (omega (arith, length_push w.seats (new_seat (offered_by w o).instance p)));
      leaves = refl;
      opens = refl;
      acts = (refl, tt);
      licensed = (invited.named, licensed_escrows w args n (length w.seats) p.give ps paying.named);
      stored = (inl tt, escrows_stored (length w.seats) p.give ps);
      calls = omega arith;
    }))))
