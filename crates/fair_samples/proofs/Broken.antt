-- Each list breaks its own sentence.
use Rattle.fair_rows.specs.amount_math.Counted.{counted as size}
use Rattle.fair_rows.specs.amount_math.ValueView.{bound, minted_bound}
use Rattle.std.proofs.Common.{◌≡◌, ◌≤◌, ◌<◌, ◌⊎◌, ◌+◌, ◌-◌, ◌^◌, ℕ, zero, suc, Bool, true, false, cond, List, [], ◌∷◌, ◌++◌, map, is_some, codes, Option, Some, None, refl, sym, ap, subst, ◌∙◌, inl, inr, arith}
use Rattle.std.proofs.lemmas.Bool.{cases_Bool, true≢false}
use Rattle.std.specs.Fmt.{digits}
use Rattle.fair_rows.specs.amount_math.Content.{Contains, Content, count, count-difference, count-nothing, count-of_nat_unit, entries, nothing, of_nat, unit}
use Rattle.fair_rows.specs.amount_math.declared.Kind.{Kind}
use Rattle.fair_rows.specs.amount_math.declared.Kind.TheVariants.{Bag, Nat, Set}
use Rattle.fair_rows.specs.rights_model.Supply.{burned, minted, supply}
use Rattle.fair_rows.specs.rights_model.Table.{holds}
use Rattle.fair_rows.specs.rights_model.Totals.{brands_of}
use Rattle.fair_rows.specs.rights_model.declared.Holder.{Holder}
use Rattle.fair_rows.specs.rights_model.declared.Holder.TheVariants.{Hand, Outside, Payment, Purse, Slot}
use Rattle.fair_rows.specs.rights_model.declared.Movement.{Movement}
use Rattle.serde_json.specs.Data as json
use Rattle.fair_rows.specs.turn_rows.Causes as causes
use Rattle.fair_rows.specs.turn_rows.Causes.{Cause}
use Rattle.fair_rows.specs.turn_rows.Editions.{written}
use Rattle.fair_rows.specs.turn_rows.Rows.{amount_json}
use Rattle.fair_rows.specs.turn_rows.Turns.{Call, Event, Move, Value, called, counted, elements, key, number, threw}
use Rattle.fair_rows.specs.Amounts.{IfAmount, IsOfNamedSlot, IsOfPayment, IsOfPurse, IsOfSlot, IsPrinted}
use Rattle.fair_rows.proofs.Amounts.{amount_there}
use Rattle.fair_rows.specs.Rows.{InTurn, after_event}
use Rattle.fair_rows.specs.Seats.{Seat}
use Rattle.fair_rows.specs.SoFar.{nothing_so_far}
use Rattle.fair_rows.specs.Turns.{after_events, after_turn_row}
use Rattle.fair_rows.specs.Values.{IsValueOf, value_of, HaveKinds}
use Rattle.fair_rows.specs.ExitCauses.{first_cause}
use Rattle.fair_samples.specs.Samples.{exit, exit_call, handler_turn, minted_and_burned, move, object, often_minted, one, sample}
use Rattle.fair_samples.specs.Sentences.{Sentence, turns_are_numbered, purse_amounts, payment_amounts, final_amounts, movements_are_defined, payments_stay_spent, values_are_of_one_kind, slots_are_of_one_brand, seats_are_in_order, offers_burn, offers_escrow, kits_are_empty, openings_are_called_for, exits_are_of_open_seats, exits_follow_their_cause, causes_are_the_first, causes_are_followed, payouts_follow, payouts_are_named, payouts_are_new, exits_are_covered, seats_stay_covered, refusals_change_nothing, slots_are_of_opened_seats, slots_are_of_no_exited_seat, payments_are_emptied, tables_balance, supplies_are_bounded, sums_are_told, current_amounts, slot_amounts, minted_totals_are_bounded}
use Rattle.fair_samples.specs.Sentences.{AtRow, Meets, MeetsRows}
use Rattle.fair_samples.proofs.Together.{same_some}
use Rattle.fair_samples.proofs.Held.{held, held_is, is_at, moves_of, table_of}
use Rattle.fair_samples.proofs.Printed.{kind_at, of_kinds}
use Rattle.fair_samples.proofs.Sized.{count_where_is, size_where_is}
use Rattle.fair_samples.proofs.Sound.{no_kinds}
use Rattle.fair_samples.proofs.Tests.{cause_number, is_nil}

-- ---- amounts

number_in : Value → ℕ
number_in (number m) = m
number_in (elements es) = 0

is_number : Value → Bool
is_number (number m) = true
is_number (elements es) = false

number_of_kind : (kind : Kind) (c : Content) (n : ℕ) → number n ≡ value_of kind c → count c unit ≡ n
unfolding number_in is_number
number_of_kind Nat c n e = sym (ap number_in e)
number_of_kind Set c n e = absurd (true≢false (ap is_number e))
number_of_kind Bag c n e = absurd (true≢false (ap is_number e))

-- a number that is printed as a content is what that has of units
pub number_told : (c : Content) (n : ℕ) → IsPrinted c (number n) → count c unit ≡ n
number_told c n is = number_of_kind is.kind c n is.is

-- what is told of 4 of a brand isn't what a content without 4 has
four_told : (P : ℕ → Value → Type 0) (b : ℕ) → b < 2 ^ 128 → IfAmount P (amount_json b (number 4)) → P b (number 4)
four_told P b few is = amount_there P b (number 4) few (omega arith) is

abbrev pub minted_five : List Move
minted_five = record { brand = 1; from = Outside; to = Payment 0; value = number 5 } ∷ []

abbrev deposited_five : List Move
deposited_five = record { brand = 1; from = Payment 0; to = Purse 0; value = number 5 } ∷ minted_five

breaks_purse_amounts : ¬ Meets written purse_amounts (sample purse_amounts)
unfolding digits
breaks_purse_amounts h =
    let p = four_told (IsOfPurse (table_of deposited_five) 0) 1 (omega arith) (h.1.1.0.0 0 refl refl) in
    omega (arith, number_told (holds (table_of deposited_five) (Purse 0) 1) 4 p, held_is deposited_five (Purse 0) 1 unit)

breaks_payment_amounts : ¬ Meets written payment_amounts (sample payment_amounts)
unfolding digits
breaks_payment_amounts h =
    let p = four_told (IsOfPayment (table_of minted_five) (one (object (codes "payment0")))) 1 (omega arith) (h.1.0.0 1 refl refl) in
    there p.payment (number_told (holds (table_of minted_five) (Payment p.payment) 1) 4 p.held) (cases_Bool (is_at (Payment p.payment) 1 (Payment 0) 1))
  where
    there : (n : ℕ) → count (holds (table_of minted_five) (Payment n) 1) unit ≡ 4 → (is_at (Payment n) 1 (Payment 0) 1 ≡ true) ⊎ (is_at (Payment n) 1 (Payment 0) 1 ≡ false) → ⊥
    there n four (inl is) = omega (arith, four, held_is minted_five (Payment n) 1 unit ∙ ap (λ (b : Bool). cond b (0 + 5) 0) is)
    there n four (inr other) = omega (arith, four, held_is minted_five (Payment n) 1 unit ∙ ap (λ (b : Bool). cond b (0 + 5) 0) other)

breaks_final_amounts : ¬ Meets written final_amounts (sample final_amounts)
unfolding digits
breaks_final_amounts h =
    let p = four_told (λ b v. IsPrinted nothing v) 1 (omega arith) (h.1.1.0.0 0 refl refl).0 in
    omega (arith, number_told nothing 4 p, count-nothing unit)

breaks_current_amounts : ¬ Meets written current_amounts (sample current_amounts)
unfolding digits
breaks_current_amounts h =
    let p = four_told (IsOfSlot (table_of []) 0 (codes "A")) 1 (omega arith) (h.0.1.1.1.0 0 refl).0 in
    omega (arith, number_told (holds (table_of []) (Slot 0 (codes "A")) 1) 4 p, held_is [] (Slot 0 (codes "A")) 1 unit)

breaks_slot_amounts : ¬ Meets written slot_amounts (sample slot_amounts)
unfolding digits
breaks_slot_amounts h =
    let p = four_told (IsOfNamedSlot (table_of []) 0 (json.item (json.string (codes "A")) (one (object (codes "brand1"))))) 1 (omega arith) (h.0.1.1.1.0 0 refl) in
    omega (arith, number_told (holds (table_of []) (Slot 0 p.keyword) 1) 4 p.held, held_is [] (Slot 0 p.keyword) 1 unit)

-- ---- movements

breaks_turns_are_numbered : ¬ Meets written turns_are_numbered (sample turns_are_numbered)
breaks_turns_are_numbered h = omega (arith, h.0.0)

too_little : (ms : List Move) (h : Holder) (b n : ℕ) → Contains (holds (table_of ms) h b) (of_nat n) → n ≤ held ms h b unit
too_little ms h b n has = omega (arith, has.each unit, count-of_nat_unit n, held_is ms h b unit)

breaks_movements_are_defined : ¬ Meets written movements_are_defined (sample movements_are_defined)
breaks_movements_are_defined h = omega (arith, too_little [] (Payment 0) 1 5 (h.0.1.0.has (λ is. cc)))

breaks_payments_stay_spent : ¬ Meets written payments_stay_spent (sample payments_stay_spent)
breaks_payments_stay_spent h = true≢false (h.1.1.0.1.0 0 refl)

breaks_values_are_of_one_kind : ¬ Meets written values_are_of_one_kind (sample values_are_of_one_kind)
breaks_values_are_of_one_kind h = no_kinds _ refl h.1.0.1.0

breaks_slots_are_of_one_brand : ¬ Meets written slots_are_of_one_brand (sample slots_are_of_one_brand)
breaks_slots_are_of_one_brand h = omega (arith, h.1.0.1.1.0.0.each 0 (codes "A") (inr refl) _ refl 1 refl)

-- ---- openings

breaks_seats_are_in_order : ¬ Meets written seats_are_in_order (sample seats_are_in_order)
breaks_seats_are_in_order h = omega (arith, h.0.1.1.0)

breaks_offers_burn : ¬ Meets written offers_burn (sample offers_burn)
breaks_offers_burn h = h.1.0.2

breaks_offers_escrow : ¬ Meets written offers_escrow (sample offers_escrow)
breaks_offers_escrow h = h.1.1.0.2

breaks_kits_are_empty : ¬ Meets written kits_are_empty (sample kits_are_empty)
unfolding digits
breaks_kits_are_empty h = true≢false (ap is_nil (sym (h.0.1.1.0 (record { more = []; call = _; last = refl; instance = 0; made = refl })).1))

none_last : (more : List Event) (c : Call) → [] ≡ more ++ called c ∷ [] → ⊥
none_last [] c e = true≢false (ap is_nil e)
none_last (x ∷ more) c e = true≢false (ap is_nil e)

breaks_openings_are_called_for : ¬ Meets written openings_are_called_for (sample openings_are_called_for)
breaks_openings_are_called_for h = elim h.0.1.0 [ inl offer ↦ true≢false (sym offer) | inr kit ↦ none_last kit.more kit.call kit.last ]

-- ---- exits

breaks_exits_are_of_open_seats : ¬ Meets written exits_are_of_open_seats (sample exits_are_of_open_seats)
unfolding digits
breaks_exits_are_of_open_seats h =
    let o = h.1.1.0.1.1.0 in
    true≢false (ap is_some (ap (λ (s : Seat). s.last) (same_some _ o.seat o.was_opened) ∙ o.stays))

breaks_exits_follow_their_cause : ¬ Meets written exits_follow_their_cause (sample exits_follow_their_cause)
unfolding digits
breaks_exits_follow_their_cause h = true≢false (sym (ap is_some (h.1.0.1.0 _ refl)))

abbrev cause_told : Option Cause → ℕ
cause_told (Some c) = cause_number c
cause_told None = 7

breaks_causes_are_the_first : ¬ Meets written causes_are_the_first (sample causes_are_the_first)
unfolding digits
breaks_causes_are_the_first h =
    let c = h.1.0.2.0 in
    let same : 0 ≡ c.seat.opening.instance = ap (λ (s : Seat). s.opening.instance) (same_some _ c.seat c.was_opened) in
    let rows : List Event = exit causes.threw [] ∷ exit_call ∷ [] in
    omega (arith, ap cause_told (subst (λ n. first_cause [] (handler_turn 2 (threw json.null) rows []) rows n 0 ≡ Some causes.threw) (sym same) c.first))

breaks_causes_are_followed : ¬ Meets written causes_are_followed (sample causes_are_followed)
unfolding digits
breaks_causes_are_followed h = true≢false (ap is_some (h.1.0.2 0 (record { seat = _; was_opened = refl; stays = refl })))

breaks_payouts_follow : ¬ Meets written payouts_follow (sample payouts_follow)
breaks_payouts_follow h = h.1.1.1.0.2

breaks_payouts_are_named : ¬ Meets written payouts_are_named (sample payouts_are_named)
breaks_payouts_are_named h = omega (arith, (h.1.1.1.0.1.0 _ refl).0)

breaks_payouts_are_new : ¬ Meets written payouts_are_new (sample payouts_are_new)
breaks_payouts_are_new h = true≢false (h.1.1.1.1.0.1.1.0.0 2 refl)

abbrev pub traded_moves : List Move
traded_moves = record { brand = 1; from = Payment 1; to = Slot 0 (codes "A"); value = number 5 } ∷ record { brand = 0; from = Payment 0; to = Outside; value = elements (key (codes "inv:0000000000") ∷ []) } ∷ record { brand = 1; from = Outside; to = Payment 1; value = number 5 } ∷ record { brand = 0; from = Outside; to = Payment 0; value = elements (key (codes "inv:0000000000") ∷ []) } ∷ []

abbrev taken_moves : List Move
taken_moves = record { brand = 1; from = Slot 0 (codes "A"); to = Payment 2; value = number 5 } ∷ traded_moves

breaks_exits_are_covered : ¬ Meets written exits_are_covered (sample exits_are_covered)
breaks_exits_are_covered h = elim (h.1.1.1.0.1.1.1.0 _ refl) [
  | inl want ↦ omega (arith, too_little taken_moves (Slot 0 (codes "B")) 2 7 want.0)
  | inr give ↦ omega (arith, too_little taken_moves (Slot 0 (codes "A")) 1 5 give.0)
]

breaks_seats_stay_covered : ¬ Meets written seats_stay_covered (sample seats_stay_covered)
breaks_seats_stay_covered h = elim (h.1.1.1.0.2 0 (record { seat = _; was_opened = refl; stays = refl })) [
  | inl want ↦ omega (arith, too_little taken_moves (Slot 0 (codes "B")) 2 7 want.0)
  | inr give ↦ omega (arith, too_little taken_moves (Slot 0 (codes "A")) 1 5 give.0)
]

-- ---- refusals, slots and payments

breaks_refusals_change_nothing : ¬ Meets written refusals_change_nothing (sample refusals_change_nothing)
breaks_refusals_change_nothing h = h.0.1.0 (codes "TooMuch") json.no_items refl

breaks_slots_are_of_opened_seats : ¬ Meets written slots_are_of_opened_seats (sample slots_are_of_opened_seats)
breaks_slots_are_of_opened_seats h = true≢false (sym (ap is_some (h.0.1.0 0 (codes "A") (inr refl)).1))

breaks_slots_are_of_no_exited_seat : ¬ Meets written slots_are_of_no_exited_seat (sample slots_are_of_no_exited_seat)
breaks_slots_are_of_no_exited_seat h = true≢false (ap is_some (h.1.1.0.1.0 0 (codes "A") (inr refl) _ refl))

nothing_held : (ms : List Move) (h : Holder) (b : ℕ) → holds (table_of ms) h b ≡ nothing → held ms h b unit ≡ 0
nothing_held ms h b none = sym (held_is ms h b unit) ∙ ap (λ c. count c unit) none ∙ count-nothing unit

breaks_payments_are_emptied : ¬ Meets written payments_are_emptied (sample payments_are_emptied)
breaks_payments_are_emptied h = omega (arith, nothing_held (record { brand = 1; from = Payment 0; to = Payment 1; value = number 3 } ∷ minted_five) (Payment 0) 1 (h.1.0.2 0 1 refl))

-- ---- balance, bounds and sums

breaks_tables_balance : ¬ Meets written tables_balance (sample tables_balance)
breaks_tables_balance h = omega (arith, nothing_held (record { brand = 1; from = Payment 0; to = Hand; value = number 5 } ∷ minted_five) Hand 1 (h.1.0.2.hand_empty 1))

abbrev twice : List Move
twice = record { brand = 3; from = Outside; to = Payment 1; value = elements (key (codes "a") ∷ []) } ∷ record { brand = 3; from = Outside; to = Payment 0; value = elements (key (codes "a") ∷ []) } ∷ []

first_is_key : Value → Bool
first_is_key (elements (key s ∷ es)) = true
first_is_key _ = false

is_list : Value → Bool
is_list (elements es) = true
is_list (number n) = false

counted_first : (es : List (List ℕ × ℕ)) → first_is_key (elements (map (λ (e : List ℕ × ℕ). counted e.0 e.1) es)) ≡ false
unfolding first_is_key
counted_first [] = refl
counted_first (e ∷ es) = refl

set_alone : (k : Kind) → IsValueOf k (elements (key (codes "a") ∷ [])) → k ≡ Set
unfolding first_is_key is_list
set_alone Set is = refl
set_alone Nat is = absurd (true≢false (ap is_list is.is))
set_alone Bag is = absurd (true≢false (ap first_is_key is.is ∙ counted_first (entries is.content)))

two_out : count (supply (moves_of twice) 3) (codes "a") ≡ 2
two_out = count-difference (minted (moves_of twice) 3) (burned (moves_of twice) 3) (codes "a") ∙ omega (arith, count_where_is (λ (m : Movement). m.from) (λ (m : Move). m.from) (λ m. refl) 3 twice (codes "a"), count_where_is (λ (m : Movement). m.to) (λ (m : Move). m.to) (λ m. refl) 3 twice (codes "a"))

breaks_supplies_are_bounded : ¬ Meets written supplies_are_bounded (sample supplies_are_bounded)
breaks_supplies_are_bounded h =
    let of_sets : HaveKinds ((3, elements (key (codes "a") ∷ [])) ∷ (3, elements (key (codes "a") ∷ [])) ∷ []) = record { kind_of = kind_at; values = of_kinds ((3, elements (key (codes "a") ∷ [])) ∷ (3, elements (key (codes "a") ∷ [])) ∷ []) refl } in
    let b = h.0.2 of_sets in
    let few : count (supply (moves_of twice) 3) (codes "a") ≤ bound Set = subst (λ k. count (supply (moves_of twice) 3) (codes "a") ≤ bound k) (set_alone (b.kind_of 3) b.values.0) ((b.fits 3).each (codes "a")) in
    omega (arith, few, two_out)

-- what holds of the last row of a turn's
last_row : (y : Sentence) (i : InTurn) (es : List Event) (e : Event) → MeetsRows y i (es ++ e ∷ []) → AtRow y (after_events i es) e
last_row y i [] e h = h.0
last_row y i (x ∷ es) e h = last_row y (after_event i x) es e h.1

-- the movements of that sample, the newest first
abbrev often : ℕ → List Move
often zero = []
often (suc n) =
    record { brand = 1; from = Purse 0; to = Outside; value = number (2 ^ 120 - 1) } ∷ record { brand = 1; from = Outside; to = Purse 0; value = number (2 ^ 120 - 1) } ∷ often n

abbrev too_often : List Move
too_often = record { brand = 1; from = Outside; to = Purse 0; value = number 64 } ∷ often 64

all_minted : size (minted (moves_of too_often) 1) ≡ 2 ^ 126
all_minted = size_where_is (λ (m : Movement). m.from) (λ (m : Move). m.from) (λ m. refl) 1 too_often refl

past_bound : (n : ℕ) → n ≤ minted_bound → n ≡ 2 ^ 126 → ⊥
past_bound n few is = omega (arith, few, is)

breaks_minted_totals_are_bounded : ¬ Meets written minted_totals_are_bounded (sample minted_totals_are_bounded)
breaks_minted_totals_are_bounded h =
    past_bound (size (minted (moves_of too_often) 1)) (last_row minted_totals_are_bounded (after_turn_row nothing_so_far often_minted) (minted_and_burned 64) (move 1 Outside (Purse 0) (number 64)) h.0.1) all_minted

breaks_sums_are_told : ¬ Meets written sums_are_told (sample sums_are_told)
unfolding brands_of
breaks_sums_are_told h = true≢false (ap is_nil h.0.2)

pub breaks : (x : Sentence) → ¬ Meets written x (sample x)
breaks purse_amounts = breaks_purse_amounts
breaks payment_amounts = breaks_payment_amounts
breaks final_amounts = breaks_final_amounts
breaks current_amounts = breaks_current_amounts
breaks slot_amounts = breaks_slot_amounts
breaks turns_are_numbered = breaks_turns_are_numbered
breaks movements_are_defined = breaks_movements_are_defined
breaks payments_stay_spent = breaks_payments_stay_spent
breaks values_are_of_one_kind = breaks_values_are_of_one_kind
breaks slots_are_of_one_brand = breaks_slots_are_of_one_brand
breaks seats_are_in_order = breaks_seats_are_in_order
breaks offers_burn = breaks_offers_burn
breaks offers_escrow = breaks_offers_escrow
breaks kits_are_empty = breaks_kits_are_empty
breaks openings_are_called_for = breaks_openings_are_called_for
breaks exits_are_of_open_seats = breaks_exits_are_of_open_seats
breaks exits_follow_their_cause = breaks_exits_follow_their_cause
breaks causes_are_the_first = breaks_causes_are_the_first
breaks causes_are_followed = breaks_causes_are_followed
breaks payouts_follow = breaks_payouts_follow
breaks payouts_are_named = breaks_payouts_are_named
breaks payouts_are_new = breaks_payouts_are_new
breaks exits_are_covered = breaks_exits_are_covered
breaks seats_stay_covered = breaks_seats_stay_covered
breaks refusals_change_nothing = breaks_refusals_change_nothing
breaks slots_are_of_opened_seats = breaks_slots_are_of_opened_seats
breaks slots_are_of_no_exited_seat = breaks_slots_are_of_no_exited_seat
breaks payments_are_emptied = breaks_payments_are_emptied
breaks tables_balance = breaks_tables_balance
breaks supplies_are_bounded = breaks_supplies_are_bounded
breaks minted_totals_are_bounded = breaks_minted_totals_are_bounded
breaks sums_are_told = breaks_sums_are_told
