-- All that is held stays what is out, whatever moves.
use Rattle.std.specs.Prelude.{IfSome, IsSomeAnd, slice_set}
use Rattle.std.specs.List.{AllByRecursion}
use Rattle.std.specs.Option.{option_map}
use Rattle.std.specs.Str.{bytes_eq}
use Rattle.std.proofs.Common.{◌≡◌, ◌+◌, ◌<◌, ◌==◌, ℕ, zero, suc, Bool, true, false, cond, List, [], ◌∷◌, ◌++◌, Some, None, Option, length, map, refl, ◌∙◌, ap, subst, arith, if◌then◌else◌}
use Rattle.world_state.specs.amount_math.Content.{Content, nothing, count, count-nothing}
use Rattle.world_state.specs.amount_math.ValueView.{ValueView}
use Rattle.world_state.specs.amount_math.declared.Amount.{Amount}
use Rattle.world_state.specs.amount_math.declared.Kind.{Kind}
use Rattle.world_state.specs.brands.Brands.{brand_at}
use Rattle.world_state.specs.ertp_mint.BrandSupply.{BrandSupply, new_supply}
use Rattle.world_state.specs.ertp_mint.Stocks.{empty_amount}
use Rattle.world_state.specs.holders.PaymentViews.{PaymentView, live_payment, payment_view_at, spent_payment}
use Rattle.world_state.specs.proposals.Shares.{amount_under, keyed_share}
use Rattle.world_state.specs.proposals.Slots.{emptied, slots_of}
use Rattle.world_state.specs.proposals.declared.allocations.Share.{Share}
use Rattle.world_state.specs.rights_model.declared.Holder.{Holder}
use Rattle.world_state.specs.rights_model.declared.Holder.TheVariants.{Purse, Payment, Slot, Hand, Outside}
use Rattle.world_state.specs.rights_model.declared.Movement.{Movement}
use Rattle.world_state.specs.vault_model.Lists.{amount_of, less, more, purse_at}
use Rattle.world_state.specs.vault_model.Tables.{Right, all_in, hand_minus, hand_plus, in_brand, no_hand, right_in, right_on}
use Rattle.world_state.proofs.vault_model.Sound.{brand_less, brand_more, live_count, minus_count, out_count, out_less, out_more, views-set, part, plus_count, purses-set, spent_count}
use Rattle.world_state.proofs.lemmas.ListEdits.{length_set}
use Rattle.world_state.specs.Good.{HasNothing, IsBalanced, IsGoodEffect, IsGoodWorld}
use Rattle.world_state.specs.Rights.{CanGive, CanMove, CanMoveAll, CanTake, Has, HasOrOpens, IsNextOr, IsNothing, Rights, TakesOrOpens, Takes, all_moved, all_spent, given, hand_after, hand_in, hand_out, held_of, moved, moved_together, paid, lessened_payment, raised_payment, right_of_share, shares_less, shares_more, slot_rights, slots_at, spent_from, taken, value_less, value_more, with_slots}
use Rattle.world_state.specs.Worlds.{Effect, State, after, burn_and_escrows, empty_slots, invitation_move, paid_out, empty_payment, empty_seat, exit, invite, moves, new_brand, new_purse, offer}
use Rattle.world_laws.proofs.Supplies.{can_invite}
use Rattle.world_laws.proofs.Instances.{open_made}

-- ---- amounts, payments and supplies in lists

-- ---- lists of rights

-- ---- the slots of seats

all_in-append : (xs ys : List Right) (e : ℕ) (k : List ℕ) → all_in (xs ++ ys) e k ≡ all_in xs e k + all_in ys e k
all_in-append [] ys e k = omega arith
all_in-append (x ∷ xs) ys e k = omega (arith, all_in-append xs ys e k)

abbrev in_shares : List Share → ℕ → List ℕ → ℕ
in_shares rs e k = all_in (map right_of_share rs) e k

slots-set : (l : List (List Share)) (n : ℕ) (rs : List Share) (e : ℕ) (k : List ℕ) → n < length l → all_in (slot_rights (slice_set l n rs)) e k + in_shares (slots_at l n) e k ≡ all_in (slot_rights l) e k + in_shares rs e k
slots-set [] n rs e k lt = absurd (omega arith)
slots-set (x ∷ xs) zero rs e k lt = omega (arith, all_in-append (map right_of_share x) (slot_rights xs) e k, all_in-append (map right_of_share rs) (slot_rights xs) e k)
slots-set (x ∷ xs) (suc n) rs e k lt = omega (arith, slots-set xs n rs e k (omega (arith, lt)), all_in-append (map right_of_share x) (slot_rights xs) e k, all_in-append (map right_of_share x) (slot_rights (slice_set xs n rs)) e k)

slots-push : (l : List (List Share)) (rs : List Share) (e : ℕ) (k : List ℕ) → all_in (slot_rights (l ++ rs ∷ [])) e k ≡ all_in (slot_rights l) e k + in_shares rs e k
slots-push [] rs e k = omega (arith, all_in-append (map right_of_share rs) [] e k)
slots-push (x ∷ xs) rs e k = omega (arith, slots-push xs rs e k, all_in-append (map right_of_share x) (slot_rights xs) e k, all_in-append (map right_of_share x) (slot_rights (xs ++ rs ∷ [])) e k)

abbrev HasUnder : Option Amount → ℕ → ValueView → Type 0
HasUnder None b w = IsNothing w.content
HasUnder (Some a) b w = Has a b w

has_under : (o : Option Amount) (rs : List Share) (b : ℕ) (w : ValueView) → HasOrOpens o rs b w → HasUnder o b w
has_under None rs b w h = h.0
has_under (Some a) rs b w h = h

none_in : (b : ℕ) (w : ValueView) (e : ℕ) (k : List ℕ) → IsNothing w.content → part b w.content e k ≡ 0
none_in b w e k none = elim (b == e) as (λ t. cond t (count w.content k) 0 ≡ 0) [ true ↦ none.each k | false ↦ refl ]

opened_in : (b e : ℕ) (k : List ℕ) → count (in_brand (record { brand = b; content = nothing }) e) k ≡ 0
opened_in b e k = elim (b == e) as (λ t. count (cond t nothing nothing) k ≡ 0) [ true ↦ count-nothing k | false ↦ count-nothing k ]

shares_less-in : (q : List ℕ) (b : ℕ) (w : ValueView) (rs : List Share) (e : ℕ) (k : List ℕ) → HasUnder (amount_under q rs) b w → in_shares (shares_less q (amount_of b w) rs) e k + part b w.content e k ≡ in_shares rs e k
shares_less-in q b w [] e k has = omega (arith, none_in b w e k has, opened_in b e k)
shares_less-in q b w (r ∷ rs) e k has = by (bytes_eq q r.keyword) (shares_less-in q b w rs e k) has
  where
    by : (t : Bool) → (HasUnder (amount_under q rs) b w → in_shares (shares_less q (amount_of b w) rs) e k + part b w.content e k ≡ in_shares rs e k) → HasUnder (cond t (Some r.amount) (amount_under q rs)) b w
        → in_shares (if t then keyed_share r.keyword (less r.amount w.content) ∷ rs else r ∷ shares_less q (amount_of b w) rs) e k + part b w.content e k ≡ count (in_brand (right_of_share r) e) k + in_shares rs e k
    by true to h = omega (arith, brand_less (right_of_share r) b w.content e k h.brand h.has)
    by false to h = omega (arith, to h)

-- what is put is of the share's brand
abbrev IsOfShare : ℕ → Option Amount → Type 0
IsOfShare b o = IfSome o (λ (a : Amount). a.brand ≡ b)

shares_more-in : (q : List ℕ) (b : ℕ) (w : ValueView) (rs : List Share) (e : ℕ) (k : List ℕ) → IsOfShare b (amount_under q rs) → in_shares (shares_more q (amount_of b w) rs) e k ≡ in_shares rs e k + part b w.content e k
shares_more-in q b w [] e k of = omega (arith, live_count b w e k)
shares_more-in q b w (r ∷ rs) e k of = by (bytes_eq q r.keyword) (shares_more-in q b w rs e k) of
  where
    by : (t : Bool) → (IsOfShare b (amount_under q rs) → in_shares (shares_more q (amount_of b w) rs) e k ≡ in_shares rs e k + part b w.content e k) → IsOfShare b (cond t (Some r.amount) (amount_under q rs))
        → in_shares (if t then keyed_share r.keyword (more r.amount w.content) ∷ rs else r ∷ shares_more q (amount_of b w) rs) e k ≡ count (in_brand (right_of_share r) e) k + in_shares rs e k + part b w.content e k
    by true to h = omega (arith, brand_more (right_of_share r) b w.content e k h)
    by false to h = omega (arith, to h)

takes_brand : (o : Option Amount) (rs : List Share) (b : ℕ) (w : ValueView) → TakesOrOpens o rs b w → IsOfShare b o
takes_brand None rs b w h = tt
takes_brand (Some a) rs b w h = h.brand

-- ---- payments

less_of_payment : (p : PaymentView) (b : ℕ) (w : ValueView) (e : ℕ) (k : List ℕ) → IsSomeAnd p.held (λ held. Has (amount_of p.brand held) b w) → count (in_brand (right_on (lessened_payment p w.content)) e) k + part b w.content e k ≡ count (in_brand (right_on p) e) k
less_of_payment p b w e k has = by p.held has
  where
    by : (h : Option ValueView) → IsSomeAnd h (λ held. Has (amount_of p.brand held) b w) → count (in_brand (right_on (record { brand = p.brand; held = option_map (value_less w.content) h })) e) k + part b w.content e k ≡ count (in_brand (right_on (record { brand = p.brand; held = h })) e) k
    by None h = absurd h
    by (Some v) h = brand_less (right_in (amount_of p.brand v)) b w.content e k h.brand h.has

more_of_payment : (p : PaymentView) (b : ℕ) (w : ValueView) (e : ℕ) (k : List ℕ) → IsSomeAnd p.held (λ held. Takes (amount_of p.brand held) b w) → count (in_brand (right_on (raised_payment p w.content)) e) k ≡ count (in_brand (right_on p) e) k + part b w.content e k
more_of_payment p b w e k has = by p.held has
  where
    by : (h : Option ValueView) → IsSomeAnd h (λ held. Takes (amount_of p.brand held) b w) → count (in_brand (right_on (record { brand = p.brand; held = option_map (value_more w.content) h })) e) k ≡ count (in_brand (right_on (record { brand = p.brand; held = h })) e) k + part b w.content e k
    by None h = absurd h
    by (Some v) h = brand_more (right_in (amount_of p.brand v)) b w.content e k h.brand

views-push : (l : List PaymentView) (x : PaymentView) (e : ℕ) (k : List ℕ) → all_in (map right_on (l ++ x ∷ [])) e k ≡ all_in (map right_on l) e k + count (in_brand (right_on x) e) k
views-push [] x e k = omega arith
views-push (p ∷ ps) x e k = omega (arith, views-push ps x e k)

paid-in : (ps : List PaymentView) (n b : ℕ) (w : ValueView) (r : Rights) (e : ℕ) (k : List ℕ) → r.payments ≡ ps → IsNextOr (n == length ps) r n b w → all_in (map right_on (paid ps n (amount_of b w))) e k ≡ all_in (map right_on ps) e k + part b w.content e k
paid-in ps n b w r e k same can = by (n == length ps) can
  where
    by : (t : Bool) → IsNextOr t r n b w → all_in (map right_on (if t then ps ++ live_payment (amount_of b w) ∷ [] else slice_set ps n (raised_payment (payment_view_at ps n) w.content))) e k ≡ all_in (map right_on ps) e k + part b w.content e k
    by true h = omega (arith, views-push ps (live_payment (amount_of b w)) e k, live_count b w e k)
    by false h =
        let lt : n < length ps = omega (arith, h.made, ap (λ (l : List PaymentView). length l) same) in
        let takes : IsSomeAnd (payment_view_at ps n).held (λ held. Takes (amount_of (payment_view_at ps n).brand held) b w) = subst (λ (l : List PaymentView). IsSomeAnd (payment_view_at l n).held (λ held. Takes (amount_of (payment_view_at l n).brand held) b w)) same h.takes in
        omega (arith, views-set ps n (raised_payment (payment_view_at ps n) w.content) e k lt, more_of_payment (payment_view_at ps n) b w e k takes)

-- ---- halves and movements

-- all that is held, with the hand, is what is out
pub record WithHand (r : Rights) (hand : ℕ → Content) : Type 0 where
  pub each : (e : ℕ) (k : List ℕ) → held_of r e k + count (hand e) k ≡ out_count r.out e k

module _ (r : Rights) (h : ℕ → Content) (b : ℕ) (w : ValueView) (is : WithHand r h) where
  -- a take into the hand, if it isn't from there
  pub taken_with : (from : Holder) → b < length r.out → CanTake r h from b w → WithHand (taken r from b w) (hand_plus (hand_out h from b w.content) b w.content)
  taken_with (Purse n) lt can = record { each = λ e k. omega (arith, is.each e k, plus_count h b w.content e k, purses-set r.purses n (less (purse_at r.purses n) w.content) e k can.made, brand_less (right_in (purse_at r.purses n)) b w.content e k can.has.brand can.has.has) }
  taken_with (Payment n) lt can = record { each = λ e k. omega (arith, is.each e k, plus_count h b w.content e k, views-set r.payments n (lessened_payment (payment_view_at r.payments n) w.content) e k can.made, less_of_payment (payment_view_at r.payments n) b w e k can.has) }
  taken_with (Slot s q) lt can = record { each = λ e k. omega (arith, is.each e k, plus_count h b w.content e k, slots-set r.slots s (shares_less q (amount_of b w) (slots_at r.slots s)) e k can.made, shares_less-in q b w (slots_at r.slots s) e k (has_under (amount_under q (slots_at r.slots s)) (slots_at r.slots s) b w can.has)) }
  taken_with Hand lt can = record { each = λ e k. omega (arith, is.each e k, plus_count (hand_minus h b w.content) b w.content e k, minus_count h b w.content e k can.has) }
  taken_with Outside lt can = record { each = λ e k. omega (arith, is.each e k, plus_count h b w.content e k, out_more r.out b w.content e k lt) }

-- a give from the hand
pub given_with : (r : Rights) (h : ℕ → Content) (b : ℕ) (w : ValueView) → WithHand r (hand_plus h b w.content) → (to : Holder) → b < length r.out → CanGive r to b w → WithHand (given r to b w) (hand_in h to b w.content)
given_with r h b w is (Purse n) lt can = record { each = λ e k. omega (arith, is.each e k, plus_count h b w.content e k, purses-set r.purses n (more (purse_at r.purses n) w.content) e k can.made, brand_more (right_in (purse_at r.purses n)) b w.content e k can.takes.brand) }
given_with r h b w is (Payment n) lt can = record { each = λ e k. omega (arith, is.each e k, plus_count h b w.content e k, paid-in r.payments n b w r e k refl can) }
given_with r h b w is (Slot s q) lt can = record { each = λ e k. omega (arith, is.each e k, plus_count h b w.content e k, slots-set r.slots s (shares_more q (amount_of b w) (slots_at r.slots s)) e k can.made, shares_more-in q b w (slots_at r.slots s) e k (takes_brand (amount_under q (slots_at r.slots s)) (slots_at r.slots s) b w can.takes)) }
given_with r h b w is Hand lt can = is
given_with r h b w is Outside lt can = record { each = λ e k. omega (arith, is.each e k, plus_count h b w.content e k, out_less r.out b w.content e k lt can.has) }

out_taken : (r : Rights) (h : Holder) (b : ℕ) (w : ValueView) → length (taken r h b w).out ≡ length r.out
out_taken r Outside b w = length_set r.out b _
out_taken r _ b w = refl

pub with-moved : (r : Rights) (h : ℕ → Content) (m : Movement) → CanMove r h m → WithHand r h → WithHand (moved r m) (hand_after h m)
with-moved r h m c is =
    given_with (taken r m.from m.brand m.value) (hand_out h m.from m.brand m.value.content) m.brand m.value (taken_with r h m.brand m.value is m.from c.brand c.from) m.to (omega (arith, c.brand, out_taken r m.from m.brand m.value)) c.to

all_with : (r : Rights) (h : ℕ → Content) (ms : List Movement) → CanMoveAll r h ms → WithHand r h → IsBalanced (all_moved r ms)
all_with r h [] can is = record { each = λ b k. omega (arith, is.each b k, can.each b k) }
all_with r h (m ∷ ms) can is = all_with (moved r m) (hand_after h m) ms can.1 (with-moved r h m can.0 is)

-- ---- spent

nothing_held : (p : PaymentView) (e : ℕ) (k : List ℕ) → IfSome p.held (λ (w : ValueView). (q : List ℕ) → count w.content q ≡ 0) → count (in_brand (right_on p) e) k ≡ 0
nothing_held p e k none = by p.held none
  where
    chosen : (c : Content) → count c k ≡ 0 → count (in_brand (record { brand = p.brand; content = c }) e) k ≡ 0
    chosen c is = elim (p.brand == e) as (λ t. count (cond t c nothing) k ≡ 0) [ true ↦ is | false ↦ count-nothing k ]

    by : (h : Option ValueView) → IfSome h (λ (w : ValueView). (q : List ℕ) → count w.content q ≡ 0) → count (in_brand (right_on (record { brand = p.brand; held = h })) e) k ≡ 0
    by None h = chosen nothing (count-nothing k)
    by (Some w) h = chosen w.content (h k)

spent-in : (ps : List PaymentView) (n : ℕ) (e : ℕ) (k : List ℕ) → IfSome (payment_view_at ps n).held (λ (w : ValueView). (q : List ℕ) → count w.content q ≡ 0) → all_in (map right_on (slice_set ps n (spent_payment (payment_view_at ps n).brand))) e k ≡ all_in (map right_on ps) e k
spent-in [] n e k none = refl
spent-in (p ∷ ps) zero e k none = omega (arith, nothing_held p e k none, spent_count p.brand e k)
spent-in (p ∷ ps) (suc n) e k none = omega (arith, spent-in ps n e k none)

spent_from-in : (h : Holder) (ps : List PaymentView) (e : ℕ) (k : List ℕ) → HasNothing ps h → all_in (map right_on (spent_from h ps)) e k ≡ all_in (map right_on ps) e k
spent_from-in (Payment n) ps e k none = spent-in ps n e k none
spent_from-in (Purse n) ps e k none = refl
spent_from-in (Slot s q) ps e k none = refl
spent_from-in Hand ps e k none = refl
spent_from-in Outside ps e k none = refl

-- what has nothing has nothing once another is spent
set_nothing : (ps : List PaymentView) (n m b : ℕ) → IfSome (payment_view_at ps m).held (λ (w : ValueView). (q : List ℕ) → count w.content q ≡ 0) → IfSome (payment_view_at (slice_set ps n (spent_payment b)) m).held (λ (w : ValueView). (q : List ℕ) → count w.content q ≡ 0)
set_nothing [] n m b none = none
set_nothing (p ∷ ps) zero zero b none = tt
set_nothing (p ∷ ps) zero (suc m) b none = none
set_nothing (p ∷ ps) (suc n) zero b none = none
set_nothing (p ∷ ps) (suc n) (suc m) b none = set_nothing ps n m b none

nothing_set : (ps : List PaymentView) (n b : ℕ) (h : Holder) → HasNothing ps h → HasNothing (slice_set ps n (spent_payment b)) h
nothing_set ps n b (Payment m) none = set_nothing ps n m b none
nothing_set ps n b (Purse m) none = tt
nothing_set ps n b (Slot s q) none = tt
nothing_set ps n b Hand none = tt
nothing_set ps n b Outside none = tt

nothing_spent : (g : Holder) (ps : List PaymentView) (h : Holder) → HasNothing ps h → HasNothing (spent_from g ps) h
nothing_spent (Payment n) ps h none = nothing_set ps n (payment_view_at ps n).brand h none
nothing_spent (Purse n) ps h none = none
nothing_spent (Slot s q) ps h none = none
nothing_spent Hand ps h none = none
nothing_spent Outside ps h none = none

all_nothing : (g : Holder) (ps : List PaymentView) (ms : List Movement) → AllByRecursion (λ (m : Movement). HasNothing ps m.from) ms → AllByRecursion (λ (m : Movement). HasNothing (spent_from g ps) m.from) ms
all_nothing g ps [] all = tt
all_nothing g ps (m ∷ ms) all = (nothing_spent g ps m.from all.0, all_nothing g ps ms all.1)

all_spent-in : (ms : List Movement) (ps : List PaymentView) (e : ℕ) (k : List ℕ) → AllByRecursion (λ (m : Movement). HasNothing ps m.from) ms → all_in (map right_on (all_spent ms ps)) e k ≡ all_in (map right_on ps) e k
all_spent-in [] ps e k all = refl
all_spent-in (m ∷ ms) ps e k all = all_spent-in ms (spent_from m.from ps) e k (all_nothing m.from ps ms all.1) ∙ spent_from-in m.from ps e k all.0

together_balanced : (r : Rights) (ms : List Movement) → CanMoveAll r no_hand ms → AllByRecursion (λ (m : Movement). HasNothing (all_moved r ms).payments m.from) ms → IsBalanced r → IsBalanced (moved_together r ms)
together_balanced r ms can none is =
    let end = all_with r no_hand ms can (record { each = λ e k. omega (arith, is.each e k, count-nothing k) }) in
    record { each = λ e k. omega (arith, end.each e k, all_spent-in ms (all_moved r ms).payments e k none) }

-- ---- by effect

empty_in : (b : ℕ) (kind : Kind) (e : ℕ) (k : List ℕ) → count (in_brand (right_in (empty_amount b kind)) e) k ≡ 0
empty_in b kind e k = elim (b == e) as (λ t. count (cond t nothing nothing) k ≡ 0) [ true ↦ count-nothing k | false ↦ count-nothing k ]

purses-push : (l : List Amount) (x : Amount) (e : ℕ) (k : List ℕ) → all_in (map right_in (l ++ x ∷ [])) e k ≡ all_in (map right_in l) e k + count (in_brand (right_in x) e) k
purses-push [] x e k = omega arith
purses-push (p ∷ ps) x e k = omega (arith, purses-push ps x e k)

shares-emptied : (rs : List Share) (e : ℕ) (k : List ℕ) → in_shares (map emptied rs) e k ≡ 0
shares-emptied [] e k = refl
shares-emptied (r ∷ rs) e k = omega (arith, shares-emptied rs e k, empty_in r.amount.brand r.amount.value.kind e k)

shares-paid : (ps : List PaymentView) (rs : List Share) (e : ℕ) (k : List ℕ) → all_in (map right_on (ps ++ map paid_out rs)) e k ≡ all_in (map right_on ps) e k + in_shares rs e k
shares-paid [] [] e k = omega arith
shares-paid [] (r ∷ rs) e k = omega (arith, shares-paid [] rs e k)
shares-paid (p ∷ ps) rs e k = omega (arith, shares-paid ps rs e k)

supply_pushed : (out : List BrandSupply) (kind : Kind) (e : ℕ) (k : List ℕ) → out_count (out ++ new_supply kind ∷ []) e k ≡ out_count out e k
supply_pushed [] kind zero k = refl
supply_pushed [] kind (suc e) k = refl
supply_pushed (s ∷ ss) kind zero k = refl
supply_pushed (s ∷ ss) kind (suc e) k = supply_pushed ss kind e k

pub balanced-after : (w : State) (e : Effect) → IsGoodEffect w e → IsGoodWorld w → IsBalanced (after w e).rights
balanced-after w (new_brand b maker) can good = record { each = λ e k. omega (arith, good.balanced.each e k, supply_pushed w.rights.out b.kind e k) }
balanced-after w (new_purse b) can good = record { each = λ e k. omega (arith, good.balanced.each e k, purses-push w.rights.purses (empty_amount b (brand_at w.brands b).kind) e k, empty_in b (brand_at w.brands b).kind e k) }
balanced-after w (empty_payment b) can good = record { each = λ e k. omega (arith, good.balanced.each e k, views-push w.rights.payments (live_payment (empty_amount b (brand_at w.brands b).kind)) e k, empty_in b (brand_at w.brands b).kind e k) }
balanced-after w (moves ms) can good = together_balanced w.rights ms can.can can.emptied good.balanced
balanced-after w (offer o) can good =
    let shares = empty_slots o.proposal in
    together_balanced (with_slots w.rights shares) (burn_and_escrows o) can.moves.can can.moves.emptied (record { each = λ e k. omega (arith, good.balanced.each e k, slots-push w.rights.slots shares e k, shares-emptied (slots_of o.proposal) e k) })
balanced-after w (empty_seat i rule) can good = record { each = λ e k. omega (arith, good.balanced.each e k, slots-push w.rights.slots [] e k) }
balanced-after w (exit s cause) can good =
    let shares = slots_at w.rights.slots s in
    record { each = λ e k. omega (arith, good.balanced.each e k, slots-set w.rights.slots s (map emptied shares) e k (omega (arith, open_made w.seats s can, good.seats.slotted)), shares-emptied shares e k, shares-paid w.rights.payments shares e k) }
balanced-after w (invite d) can good = together_balanced w.rights (invitation_move w ∷ []) (can_invite w good can.few) (tt, tt) good.balanced
balanced-after w _ can good = good.balanced
