-- Where the test of a sentence passes, the list of turns meets the sentence.
use Rattle.fair_rows.specs.amount_math.Counted.{counted as size}
use Rattle.fair_rows.specs.amount_math.ValueView.{Fits, minted_bound}
use Rattle.fair_rows.specs.rights_model.declared.Movement.{Movement}
use Rattle.std.proofs.Common.{◌≡◌, ◌⊎◌, ◌≤◌, ◌+◌, ℕ, zero, suc, Bool, true, false, not, ◌&&◌, ◌||◌, ◌==◌, List, [], ◌∷◌, ◌++◌, map, length, is_some, codes, bytes_eq, Option, Some, None, refl, sym, ap, subst, ◌∙◌, inl, inr, ⊎_elim, eqb-true, arith, cond}
use Rattle.std.proofs.lemmas.Bool.{and_parts, cases_Bool, true≢false, and_from, false_from_ne_true, or_from}
use Rattle.std.specs.Cmp.Lexicographic.{bytes_decides}
use Rattle.std.specs.List.{AllByRecursion, list_all, slice_get}
use Rattle.fair_rows.specs.amount_math.Content.{Content, count-nothing, nothing, of_entries-one, same_content, one_of}
use Rattle.fair_rows.specs.amount_math.declared.Kind.{Kind}
use Rattle.fair_rows.specs.amount_math.declared.Kind.TheVariants.{Bag, Nat, Set}
use Rattle.fair_rows.specs.rights_model.Supply.{is_outside, minted, supply}
use Rattle.fair_rows.specs.rights_model.Table.{moved as table_moved, CanMove, Table, holds}
use Rattle.fair_rows.specs.rights_model.Totals.{brands_of, is_payment}
use Rattle.fair_rows.specs.rights_model.declared.Holder.{Holder}
use Rattle.fair_rows.specs.rights_model.declared.Holder.TheVariants.{Hand, Outside, Payment, Purse, Slot}
use Rattle.fair_rows.specs.rights_model.declared.Sum.{Sum}
use Rattle.serde_json.specs.Data as json
use Rattle.serde_json.specs.Data.{Items}
use Rattle.fair_rows.specs.turn_rows.Causes.{Cause}
use Rattle.fair_rows.specs.turn_rows.Causes as causes
use Rattle.fair_rows.specs.turn_rows.Kinds as kinds
use Rattle.fair_rows.specs.turn_rows.Turns.{Answer, Call, Element, Event, KeywordAmount, Move, Opening, SeatExit, Turn, Value, called, counted, elements, exited, key, moved, number, ok, opened, Payout, refused, settled, spent, threw}
use Rattle.fair_rows.specs.turn_rows.declared.editions.Edition.{Edition}
use Rattle.fair_rows.specs.ExitCauses.{calls, first_cause, is_call, is_ok, name, serves}
use Rattle.fair_rows.specs.Movements.{is_payment_at, movement_of, movements_in, names, takes_from}
use Rattle.fair_rows.specs.Amounts.{IfAmount, IfOkAnswer, InRecord, IsOfExit, IsOfNamedSlot, IsOfPayment, IsOfPurse, IsOfSlot}
use Rattle.fair_rows.specs.Rows.{ChangesNothing, Due, FollowsKit, InTurn, IsBurn, IsEscrow, after_event, burn, escrow, is_offer, is_service, payment_under, payout, payouts_due, slots_at, still_due}
use Rattle.fair_rows.specs.Seats.{IsCovered, IsOpen, IsSafe, Seat, SlotName, brand_under, new_seat}
use Rattle.fair_rows.specs.SoFar.{SoFar, nothing_so_far, sum_so_far, with_row, with_turn}
use Rattle.fair_rows.specs.Turns.{IsCaused, IsWithin, after_events, after_turn_row}
use Rattle.fair_rows.specs.Values.{HaveKinds, Named, content_of, IsValueOf}
use Rattle.fair_rows.proofs.Steps.{now_is}
use Rattle.fair_samples.specs.Sentences.{Sentence, turns_are_numbered, purse_amounts, payment_amounts, final_amounts, movements_are_defined, payments_stay_spent, values_are_of_one_kind, slots_are_of_one_brand, seats_are_in_order, offers_burn, offers_escrow, kits_are_empty, openings_are_called_for, exits_are_of_open_seats, exits_follow_their_cause, causes_are_the_first, causes_are_followed, payouts_follow, payouts_are_named, payouts_are_new, exits_are_covered, seats_stay_covered, refusals_change_nothing, slots_are_of_opened_seats, slots_are_of_no_exited_seat, payments_are_emptied, tables_balance, supplies_are_bounded, sums_are_told, current_amounts, slot_amounts, minted_totals_are_bounded}
use Rattle.fair_samples.specs.Sentences.{AtEnd, AtRow, AtTurnRow, IfNoneDue, IsBounded, IsNewPayout, IsNoBurn, IsNoEscrow, IsNoPayout, IsOfSlots, Meets, MeetsBurn, MeetsEscrow, MeetsFrom, MeetsPayout, MeetsRows, NamesSlot, OfCall, OfExit, OfMove, OfOpening}
use Rattle.fair_samples.proofs.Together.{same_some}
use Rattle.fair_samples.proofs.Held.{all_held, can_move, contains, everywhere, has, has_just, held, held_is, just, moves, moves_of, table_of, can_move_all}
use Rattle.fair_samples.proofs.Printed.{are_of_kinds, each_so, every, kind_at, of_kinds}
use Rattle.fair_samples.proofs.Sized.{adds_up, are_bounded, are_within, bounded_is, can_sum, few_minted, mints_few, sum_in, sum_is, within_is}
use Rattle.fair_samples.proofs.Tests.{Read, burn_test, cause_number, clash, covers, end_test, escrow_test, event_test, fresh, if_first, if_some, is_bare, is_brand, is_burn, is_call_of, is_cause, is_emptied, is_escrow, is_first, is_kit, is_new, is_nil, is_not_exited, is_numbers, is_of_brand, is_opened, is_quiet, is_read, is_safe, is_single, is_slot_of, last_is, new_test, no_burn, no_escrow, no_payout, of_call, of_exit, of_move, of_opening, open_seats, opens_of_brand, passes, payout_test, pays, read_event, read_events, refusal_test, rows_test, same_element, same_elements, same_sum, same_sums, same_value, some_and, stays, turn_row_test, turn_test, turns_test, unless_due}

same_bytes : (s t : List ℕ) → bytes_eq s t ≡ true → s ≡ t
same_bytes s t e = (bytes_decides s t).0 e

-- ---- equality

cause_of : ℕ → Cause
cause_of zero = causes.asked
cause_of (suc zero) = causes.deadline
cause_of (suc (suc zero)) = causes.exit
cause_of (suc (suc (suc zero))) = causes.fail
cause_of (suc (suc (suc (suc zero)))) = causes.threw
cause_of (suc (suc (suc (suc (suc zero))))) = causes.halted
cause_of _ = causes.spent

cause_back : (c : Cause) → cause_of (cause_number c) ≡ c
unfolding cause_of
cause_back causes.asked = refl
cause_back causes.deadline = refl
cause_back causes.exit = refl
cause_back causes.fail = refl
cause_back causes.threw = refl
cause_back causes.halted = refl
cause_back causes.spent = refl

cause_is : (o : Option Cause) (d : Cause) → is_cause o d ≡ true → o ≡ Some d
cause_is (Some c) d e = ap (λ (x : Cause). Some x) (sym (cause_back c) ∙ ap cause_of (eqb-true _ _ e) ∙ cause_back d)
cause_is None d e = absurd (true≢false (sym e))

element_is : (d e : Element) → same_element d e ≡ true → d ≡ e
element_is (key s) (key t) h = ap key (same_bytes s t h)
element_is (counted s m) (counted t n) h = let parts = and_parts (bytes_eq s t) (m == n) h in ap (λ (x : List ℕ). counted x m) (same_bytes s t parts.0) ∙ ap (counted t) (eqb-true m n parts.1)
element_is _ _ h = absurd (true≢false (sym h))

elements_are : (ds es : List Element) → same_elements ds es ≡ true → ds ≡ es
elements_are [] [] h = refl
elements_are (d ∷ ds) (e ∷ es) h = let parts = and_parts (same_element d e) (same_elements ds es) h in ap (λ (x : Element). x ∷ ds) (element_is d e parts.0) ∙ ap (λ (xs : List Element). e ∷ xs) (elements_are ds es parts.1)
elements_are _ _ h = absurd (true≢false (sym h))

value_is : (v w : Value) → same_value v w ≡ true → v ≡ w
value_is (number m) (number n) h = ap number (eqb-true m n h)
value_is (elements ds) (elements es) h = ap elements (elements_are ds es h)
value_is _ _ h = absurd (true≢false (sym h))

sum_same : (s t : Sum) → same_sum s t ≡ true → s ≡ t
sum_same s t h =
    let a = and_parts (s.brand == t.brand) _ h in
    let b = and_parts (s.minted == t.minted) _ a.1 in
    let c = and_parts (s.burned == t.burned) _ b.1 in
    let d = and_parts (s.purses == t.purses) _ c.1 in
    let e = and_parts (s.payments == t.payments) (s.slots == t.slots) d.1 in
    λ i. record { brand = eqb-true s.brand t.brand a.0 i; minted = eqb-true s.minted t.minted b.0 i; burned = eqb-true s.burned t.burned c.0 i; purses = eqb-true s.purses t.purses d.0 i; payments = eqb-true s.payments t.payments e.0 i; slots = eqb-true s.slots t.slots e.1 i }

sums_same : (ss ts : List Sum) → same_sums ss ts ≡ true → ss ≡ ts
sums_same [] [] h = refl
sums_same (s ∷ ss) (t ∷ ts) h = let parts = and_parts (same_sum s t) (same_sums ss ts) h in ap (λ (x : Sum). x ∷ ss) (sum_same s t parts.0) ∙ ap (λ (xs : List Sum). t ∷ xs) (sums_same ss ts parts.1)
sums_same _ _ h = absurd (true≢false (sym h))

payment_is : (h : Holder) → is_payment h ≡ true → (p : ℕ) × (h ≡ Payment p)
payment_is (Payment p) e = (p, refl)
payment_is _ e = absurd (true≢false (sym e))

outside_is : (h : Holder) → is_outside h ≡ true → h ≡ Outside
outside_is Outside e = refl
outside_is _ e = absurd (true≢false (sym e))

slot_is : (seat : ℕ) (keyword : List ℕ) (h : Holder) → is_slot_of seat keyword h ≡ true → h ≡ Slot seat keyword
slot_is seat keyword (Slot n w) e = let parts = and_parts (n == seat) (bytes_eq w keyword) e in ap (λ x. Slot x w) (eqb-true n seat parts.0) ∙ ap (Slot seat) (same_bytes w keyword parts.1)
slot_is seat keyword _ e = absurd (true≢false (sym e))

-- ---- what the tests look at is what the rows so far tell

abbrev IsDueAt : List Move → Due → Type 0
IsDueAt ms (payout seat slot c found) = c ≡ holds (table_of ms) (Slot seat slot.keyword) slot.brand
IsDueAt ms _ = Unit {0}

record Agrees (r : Read) (i : InTurn) : Type 0 where
  table : i.now.table ≡ table_of r.now
  moves : i.now.moves ≡ moves_of r.now
  before : i.before.moves ≡ moves_of r.before
  due : AllByRecursion (IsDueAt r.at_exit) i.due

rest_due : (ms ns : List Move) (ds new : List Due) → AllByRecursion (IsDueAt ms) ds → AllByRecursion (IsDueAt ns) new → AllByRecursion (IsDueAt (if_first ds ns ms)) (still_due ds new)
rest_due ms ns [] new old started = started
rest_due ms ns (d ∷ ds) new old started = old.1

payouts_at : (t : Table) (ms : List Move) (x : SeatExit) (slots : List SlotName) → t ≡ table_of ms → AllByRecursion (IsDueAt ms) (payouts_due t x slots)
payouts_at t ms x [] is = tt
payouts_at t ms x (s ∷ ss) is = (ap (λ u. holds u (Slot x.seat s.keyword) s.brand) is, payouts_at t ms x ss is)

escrows_at : (ms : List Move) (seat : ℕ) (amounts : List KeywordAmount) → AllByRecursion (IsDueAt ms) (map (escrow seat) amounts)
escrows_at ms seat [] = tt
escrows_at ms seat (a ∷ amounts) = (tt, escrows_at ms seat amounts)

offer_due : (b : Bool) (ms : List Move) (seat : ℕ) (amounts : List KeywordAmount) → AllByRecursion (IsDueAt ms) (cond b (burn ∷ map (escrow seat) amounts) [])
offer_due true ms seat amounts = (tt, escrows_at ms seat amounts)
offer_due false ms seat amounts = tt

same_if : {A : Type 0} (ds : List Due) (x : A) → if_first ds x x ≡ x
same_if [] x = refl
same_if (d ∷ ds) x = refl

keeps : (ms : List Move) (ds new : List Due) → AllByRecursion (IsDueAt ms) ds → AllByRecursion (IsDueAt ms) new → AllByRecursion (IsDueAt ms) (still_due ds new)
keeps ms [] new old started = started
keeps ms (d ∷ ds) new old started = old.1

agrees_after : (r : Read) (i : InTurn) (e : Event) → Agrees r i → Agrees (read_event i r e) (after_event i e)
agrees_after r i (called c) a = record { table = a.table; moves = a.moves; before = a.before; due = keeps r.at_exit i.due [] a.due tt }
agrees_after r i (settled p s) a = record { table = a.table; moves = a.moves; before = a.before; due = keeps r.at_exit i.due [] a.due tt }
agrees_after r i (opened o) a = record { table = a.table; moves = a.moves; before = a.before; due = keeps r.at_exit i.due _ a.due (offer_due (is_offer i.row) r.at_exit o.seat o.give) }
agrees_after r i (moved m) a = record {
  table = ap (λ t. table_moved t (movement_of m)) a.table;
  moves = ap (λ ms. ms ++ movement_of m ∷ []) a.moves;
  before = a.before;
  due = keeps r.at_exit i.due [] a.due tt;
}
agrees_after r i (exited x) a = record { table = a.table; moves = a.moves; before = a.before; due = rest_due r.at_exit r.now i.due _ a.due (payouts_at i.now.table r.now x (slots_at i.now.seats x.seat) a.table) }

agrees_at_end : (r : Read) (i : InTurn) (es : List Event) → Agrees r i → Agrees (read_events i r es) (after_events i es)
agrees_at_end r i [] a = a
agrees_at_end r i (e ∷ es) a = agrees_at_end (read_event i r e) (after_event i e) es (agrees_after r i e a)

-- ---- turn rows

is_service_of : (t : Turn) → t.kind ≡ kinds.service → is_service t.kind ≡ true
is_service_of t is = ap is_service is

pub no_read : {P : Type 0} (method on : List ℕ) (t : Turn) → not (is_read method t) ≡ true → t.kind ≡ kinds.service → serves on method t ≡ true → P
no_read method on t other is served =
    let a = and_parts (is_ok t.answer && bytes_eq t.on on) (bytes_eq t.method method) served in
    let b = and_parts (is_ok t.answer) (bytes_eq t.on on) a.0 in
    let read : is_read method t ≡ true = and_from _ _ (is_service_of t is) (and_from _ _ b.0 a.1) in
    absurd (true≢false (sym other ∙ ap not read))

or_sides : (a b : Bool) → (a || b) ≡ true → (a ≡ true) ⊎ (b ≡ true)
or_sides true b h = inl refl
or_sides false b h = inr h

-- an answer that is no record holds no amount
is_object : json.Data → Bool
is_object (json.object ms) = true
is_object _ = false

no_amount : (P : ℕ → Value → Type 0) (d : json.Data) → is_object d ≡ false → IfAmount P d
unfolding is_object
no_amount P d bare = λ is. absurd (true≢false (sym (ap is_object is) ∙ bare))

pub bare_amount : (P : ℕ → Value → Type 0) (a : Answer) → is_bare a ≡ true → IfOkAnswer (IfAmount P) a
unfolding is_object
bare_amount P (ok (json.object ms)) h = absurd (true≢false (sym h))
bare_amount P (ok json.null) h = no_amount P json.null refl
bare_amount P (ok (json.boolean b)) h = no_amount P (json.boolean b) refl
bare_amount P (ok (json.number n)) h = no_amount P (json.number n) refl
bare_amount P (ok (json.string x)) h = no_amount P (json.string x) refl
bare_amount P (ok (json.array ds)) h = no_amount P (json.array ds) refl
bare_amount P _ h = tt

pub bare_record : (P : List ℕ → json.Data → Type 0) (a : Answer) → is_bare a ≡ true → IfOkAnswer (InRecord P) a
bare_record P (ok (json.object ms)) h = absurd (true≢false (sym h))
bare_record P (ok json.null) h = tt
bare_record P (ok (json.boolean b)) h = tt
bare_record P (ok (json.number n)) h = tt
bare_record P (ok (json.string x)) h = tt
bare_record P (ok (json.array ds)) h = tt
bare_record P _ h = tt

row_sound : (y : Sentence) (s : SoFar) (t : Turn) → turn_row_test y s t ≡ true → AtTurnRow y s t
row_sound turns_are_numbered s t h = eqb-true _ _ h
row_sound purse_amounts s t h = λ n is served. elim (or_sides _ _ h) [ inl other ↦ no_read (codes "getCurrentAmount") (name (codes "purse") n) t other is served | inr bare ↦ bare_amount (IsOfPurse s.table n) t.answer bare ]
row_sound payment_amounts s t h = λ b is served. elim (or_sides _ _ h) [ inl other ↦ no_read (codes "getAmountOf") (name (codes "issuer") b) t other is served | inr bare ↦ bare_amount (IsOfPayment s.table t.arguments) t.answer bare ]
row_sound final_amounts s t h = λ n is served. elim (or_sides _ _ h) [ inl other ↦ no_read (codes "getFinalAllocation") (name (codes "seat") n) t other is served | inr bare ↦ bare_record (λ keyword. IfAmount (IsOfExit s.seats n keyword)) t.answer bare ]
row_sound _ s t h = tt

-- ---- rows of events

move_sound : (P : Move → Type 0) (test : Move → Bool) → ((m : Move) → test m ≡ true → P m) → (e : Event) → of_move e test ≡ true → OfMove e P
move_sound P test so (moved m) h = so m h
move_sound P test so _ h = tt

opening_sound : (P : Opening → Type 0) (test : Opening → Bool) → ((o : Opening) → test o ≡ true → P o) → (e : Event) → of_opening e test ≡ true → OfOpening e P
opening_sound P test so (moved m) h = tt
opening_sound P test so (called c) h = tt
opening_sound P test so (opened o) h = so o h
opening_sound P test so _ h = tt

exit_sound : (P : SeatExit → Type 0) (test : SeatExit → Bool) → ((x : SeatExit) → test x ≡ true → P x) → (e : Event) → of_exit e test ≡ true → OfExit e P
exit_sound P test so (moved m) h = tt
exit_sound P test so (called c) h = tt
exit_sound P test so (opened o) h = tt
exit_sound P test so (exited x) h = so x h
exit_sound P test so (settled p r) h = tt

call_sound : (P : Call → Type 0) (test : Call → Bool) → ((c : Call) → test c ≡ true → P c) → (e : Event) → of_call e test ≡ true → OfCall e P
call_sound P test so (moved m) h = tt
call_sound P test so (called c) h = so c h
call_sound P test so _ h = tt

due_sound : (P : Type 0) (test : Bool) → (test ≡ true → P) → (ds : List Due) → unless_due ds test ≡ true → IfNoneDue ds P
due_sound P test so [] h = so h
due_sound P test so (d ∷ ds) h = tt

some_sound : {A : Type 0} (P : A → Type 0) (test : A → Bool) → ((x : A) → test x ≡ true → P x) → (o : Option A) → if_some o test ≡ true → (x : A) → o ≡ Some x → P x
some_sound P test so (Some y) h x is = so x (subst (λ z. test z ≡ true) (same_some y x is) h)
some_sound P test so None h x is = cc

other_payment : (r : Read) (before : List Movement) → before ≡ moves_of r.before → (h : Holder) (p : ℕ) → stays r h ≡ true → takes_from p before ≡ true → is_payment_at p h ≡ false
other_payment r before is (Payment q) p h taken = false_from_ne_true (q == p) (λ same. true≢false (sym h ∙ ap not (ap (λ x. takes_from x (moves_of r.before)) (eqb-true q p same) ∙ ap (takes_from p) (sym is) ∙ taken)))
other_payment r before is (Purse n) p h taken = refl
other_payment r before is (Slot n w) p h taken = refl
other_payment r before is Hand p h taken = refl
other_payment r before is Outside p h taken = refl

stays_sound : (r : Read) (i : InTurn) → Agrees r i → (m : Move) → (stays r m.from && stays r m.to) ≡ true → (p : ℕ) → takes_from p i.before.moves ≡ true → names p (movement_of m ∷ []) ≡ false
stays_sound r i a m h p taken =
    let parts = and_parts (stays r m.from) (stays r m.to) h in
    or_from _ _ (or_from _ _ (other_payment r i.before.moves a.before m.from p parts.0 taken) (other_payment r i.before.moves a.before m.to p parts.1 taken)) refl

-- a test of both ends of a movement
ends_sound : (P : ℕ → List ℕ → Type 0) (test : Holder → Bool) → ((seat : ℕ) (keyword : List ℕ) → test (Slot seat keyword) ≡ true → P seat keyword) → (m : Move) → (test m.from && test m.to) ≡ true → (seat : ℕ) (keyword : List ℕ) → NamesSlot m seat keyword → P seat keyword
ends_sound P test so m h seat keyword (inl from) = so seat keyword (subst (λ g. test g ≡ true) from (and_parts (test m.from) (test m.to) h).0)
ends_sound P test so m h seat keyword (inr to) = so seat keyword (subst (λ g. test g ≡ true) to (and_parts (test m.from) (test m.to) h).1)

brand_sound : (seats : List Seat) (m : Move) → (is_of_brand seats m.brand m.from && is_of_brand seats m.brand m.to) ≡ true → IsOfSlots seats m
brand_sound seats m h = record { each = ends_sound (λ seat keyword. (s : Seat) → slice_get seats seat ≡ Some s → (b : ℕ) → brand_under keyword s.slots ≡ Some b → b ≡ m.brand) (is_of_brand seats m.brand) (λ seat keyword t. some_sound (λ s. (b : ℕ) → brand_under keyword s.slots ≡ Some b → b ≡ m.brand) (λ s. if_some (brand_under keyword s.slots) (λ c. c == m.brand)) (λ s u. some_sound (λ b. b ≡ m.brand) (λ c. c == m.brand) (λ c v. eqb-true c m.brand v) (brand_under keyword s.slots) u) (slice_get seats seat) t) m h }

brand_of_row : (o : Option ℕ) (b : ℕ) → is_brand o b ≡ true → o ≡ Some b
brand_of_row (Some c) b h = ap (λ (x : ℕ). Some x) (eqb-true c b h)
brand_of_row None b h = absurd (true≢false (sym h))

opens_sound : (o : Opening) → opens_of_brand o ≡ true → AllByRecursion (λ (a : KeywordAmount). brand_under a.keyword (new_seat o).slots ≡ Some a.brand) (o.give ++ o.want)
opens_sound o h = each_so (λ (a : KeywordAmount). is_brand (brand_under a.keyword (new_seat o).slots) a.brand ≡ true) _ (λ a t. brand_of_row (brand_under a.keyword (new_seat o).slots) a.brand t) (o.give ++ o.want) (every (λ (a : KeywordAmount). is_brand (brand_under a.keyword (new_seat o).slots) a.brand) (o.give ++ o.want) h)

single_is : (v : Value) → is_single v ≡ true → (k : List ℕ) × (content_of v ≡ one_of k)
single_is (elements (key k ∷ [])) h = (k, of_entries-one k)
single_is _ h = absurd (true≢false (sym h))

burn_is : (m : Move) → is_burn m ≡ true → IsBurn m
burn_is m h =
    let a = and_parts (m.brand == 0) _ h in
    let b = and_parts (is_payment m.from) _ a.1 in
    let c = and_parts (is_outside m.to) (is_single m.value) b.1 in
    let from = payment_is m.from b.0 in
    let one = single_is m.value c.1 in
    record { payment = from.0; invitation = one.0; brand = eqb-true m.brand 0 a.0; from = from.1; to = outside_is m.to c.0; one = one.1 }

burn_sound : (ds : List Due) (e : Event) → burn_test ds e ≡ true → MeetsBurn ds e
burn_sound [] e h = tt
burn_sound (burn ∷ ds) (moved m) h = burn_is m h
burn_sound (burn ∷ ds) _ h = absurd (true≢false (sym h))
burn_sound _ e h = tt

escrow_is : (seat : ℕ) (a : KeywordAmount) (m : Move) → is_escrow seat a m ≡ true → IsEscrow seat a m
escrow_is seat a m h =
    let b = and_parts (m.brand == a.brand) _ h in
    let c = and_parts (is_payment m.from) _ b.1 in
    let d = and_parts (is_slot_of seat a.keyword m.to) (same_value m.value a.value) c.1 in
    let from = payment_is m.from c.0 in
    record { payment = from.0; is = λ i. record { brand = eqb-true m.brand a.brand b.0 i; from = from.1 i; to = slot_is seat a.keyword m.to d.0 i; value = value_is m.value a.value d.1 i } }

escrow_sound : (ds : List Due) (e : Event) → escrow_test ds e ≡ true → MeetsEscrow ds e
escrow_sound [] e h = tt
escrow_sound (escrow seat a ∷ ds) (moved m) h = escrow_is seat a m h
escrow_sound (escrow seat a ∷ ds) _ h = absurd (true≢false (sym h))
escrow_sound _ e h = tt

pays_is : (found : Option ℕ) (h : Holder) → pays found h ≡ true → (p : ℕ) × (found ≡ Some p) × (h ≡ Payment p)
pays_is (Some p) (Payment q) e = (p, refl, ap Payment (eqb-true q p e))
pays_is _ _ e = absurd (true≢false (sym e))

payout_sound : (ms : List Move) (ds : List Due) (e : Event) → AllByRecursion (IsDueAt ms) ds → payout_test ms ds e ≡ true → MeetsPayout ds e
payout_sound ms [] e due h = tt
payout_sound ms (payout seat slot c found ∷ ds) (moved m) due h =
    let a = and_parts (m.brand == slot.brand) _ h in
    let b = and_parts (is_slot_of seat slot.keyword m.from) _ a.1 in
    let d = and_parts (pays found m.to) (has_just ms (Slot seat slot.keyword) slot.brand m.value) b.1 in
    let paid = pays_is found m.to d.0 in
    (paid.0, paid.1, record { brand = eqb-true m.brand slot.brand a.0; from = slot_is seat slot.keyword m.from b.0; to = paid.2; whole = just ms (Slot seat slot.keyword) slot.brand m.value refl d.1 ∙ sym due.0 })
payout_sound ms (payout seat slot c found ∷ ds) (called x) due h = absurd (true≢false (sym h))
payout_sound ms (payout seat slot c found ∷ ds) (opened x) due h = absurd (true≢false (sym h))
payout_sound ms (payout seat slot c found ∷ ds) (exited x) due h = absurd (true≢false (sym h))
payout_sound ms (payout seat slot c found ∷ ds) (settled p r) due h = absurd (true≢false (sym h))
payout_sound ms _ e due h = tt

new_is : (ms : List Move) (h : Holder) → is_new ms h ≡ true → (p : ℕ) → h ≡ Payment p → names p (moves_of ms) ≡ false
new_is ms h test p is = false_from_ne_true _ (λ named. true≢false (sym (subst (λ g. is_new ms g ≡ true) is test) ∙ ap not named))

new_sound : (s : SoFar) (ms : List Move) → s.moves ≡ moves_of ms → (ds : List Due) (e : Event) → new_test ms ds e ≡ true → IsNewPayout s ds e
new_sound s ms is [] e h = tt
new_sound s ms is (payout seat slot c found ∷ ds) (moved m) h = λ p to. ap (names p) is ∙ new_is ms m.to h p to
new_sound s ms is _ _ h = tt

fresh_sound : (s : SoFar) (ms : List Move) → s.moves ≡ moves_of ms → (ps : List Payout) → list_all (λ (p : Payout). not (names p.payment (moves_of ms))) ps ≡ true → AllByRecursion (λ (p : Payout). names p.payment s.moves ≡ false) ps
fresh_sound s ms is ps h =
    each_so (λ (p : Payout). not (names p.payment (moves_of ms)) ≡ true) (λ p. names p.payment s.moves ≡ false)
    (λ p t. ap (names p.payment) is ∙ false_from_ne_true _ (λ named. true≢false (sym t ∙ ap not named))) ps (every (λ (p : Payout). not (names p.payment (moves_of ms))) ps h)

nil_is : {A : Type 0} (xs : List A) → is_nil xs ≡ true → xs ≡ []
nil_is [] h = refl
nil_is (x ∷ xs) h = absurd (true≢false (sym h))

left_side : (a b : Bool) → (a || b) ≡ true → a ≡ false → b ≡ true
left_side true b h is = absurd (true≢false is)
left_side false b h is = h

last_found : (test : Call → Bool) (es : List Event) → last_is test es ≡ true → (more : List Event) × (c : Call) × (es ≡ more ++ called c ∷ []) × (test c ≡ true)
last_found test [] h = absurd (true≢false (sym h))
last_found test (called c ∷ []) h = ([], c, refl, h)
last_found test (opened o ∷ []) h = absurd (true≢false (sym h))
last_found test (moved m ∷ []) h = absurd (true≢false (sym h))
last_found test (exited x ∷ []) h = absurd (true≢false (sym h))
last_found test (settled p r ∷ []) h = absurd (true≢false (sym h))
last_found test (called d ∷ e ∷ es) h = let l = last_found test (e ∷ es) h in (called d ∷ l.0, l.1, ap (λ (xs : List Event). called d ∷ xs) l.2, l.3)
last_found test (opened o ∷ e ∷ es) h = let l = last_found test (e ∷ es) h in (opened o ∷ l.0, l.1, ap (λ (xs : List Event). opened o ∷ xs) l.2, l.3)
last_found test (moved m ∷ e ∷ es) h = let l = last_found test (e ∷ es) h in (moved m ∷ l.0, l.1, ap (λ (xs : List Event). moved m ∷ xs) l.2, l.3)
last_found test (exited x ∷ e ∷ es) h = let l = last_found test (e ∷ es) h in (exited x ∷ l.0, l.1, ap (λ (xs : List Event). exited x ∷ xs) l.2, l.3)
last_found test (settled p r ∷ e ∷ es) h = let l = last_found test (e ∷ es) h in (settled p r ∷ l.0, l.1, ap (λ (xs : List Event). settled p r ∷ xs) l.2, l.3)

pub no_call : {P : Type 0} (method on : List ℕ) (c : Call) → not (is_call_of method c) ≡ true → calls on method c ≡ true → P
no_call method on c other was_called =
    let a = and_parts (is_call c.how && is_ok c.answer && bytes_eq c.on on) (bytes_eq c.method method) was_called in
    let b = and_parts (is_call c.how && is_ok c.answer) (bytes_eq c.on on) a.0 in
    let d = and_parts (is_call c.how) (is_ok c.answer) b.0 in
    let made : is_call_of method c ≡ true = and_from _ _ d.0 (and_from _ _ d.1 a.1) in
    absurd (true≢false (sym other ∙ ap not made))

kit_found : (n : ℕ) (es : List Event) → last_is (is_kit n) es ≡ true → FollowsKit es
kit_found n es h = let l = last_found (is_kit n) es h in record { more = l.0; call = l.1; last = l.2; instance = n; made = l.3 }

called_for : (i : InTurn) (o : Opening) → (is_offer i.row || (last_is (is_kit 0) i.here || (last_is (is_kit 1) i.here || last_is (is_kit 2) i.here))) ≡ true → (is_offer i.row ≡ true) ⊎ FollowsKit i.here
called_for i o h = elim (or_sides _ _ h) [
  | inl offer ↦ inl offer
  | inr kit ↦ elim (or_sides _ _ kit) [
    | inl one ↦ inr (kit_found 0 i.here one)
    | inr more ↦ elim (or_sides _ _ more) [ inl one ↦ inr (kit_found 1 i.here one) | inr last ↦ inr (kit_found 2 i.here last) ]
  ]
]

-- the last of rows is the last
last_at : (test : Call → Bool) (more : List Event) (c : Call) → last_is test (more ++ called c ∷ []) ≡ test c
last_at test [] c = refl
last_at test (called d ∷ []) c = refl
last_at test (opened o ∷ []) c = refl
last_at test (moved m ∷ []) c = refl
last_at test (exited x ∷ []) c = refl
last_at test (settled p r ∷ []) c = refl
last_at test (called d ∷ e ∷ es) c = last_at test (e ∷ es) c
last_at test (opened o ∷ e ∷ es) c = last_at test (e ∷ es) c
last_at test (moved m ∷ e ∷ es) c = last_at test (e ∷ es) c
last_at test (exited x ∷ e ∷ es) c = last_at test (e ∷ es) c
last_at test (settled p r ∷ e ∷ es) c = last_at test (e ∷ es) c

kit_empty : (here : List Event) (o : Opening) → (not (last_is (is_call_of (codes "makeEmptySeatKit")) here) || (is_nil o.give && is_nil o.want)) ≡ true → FollowsKit here → (o.give ≡ []) × (o.want ≡ [])
kit_empty here o h kit = elim (or_sides _ _ h) [
  | inl other ↦ no_call (codes "makeEmptySeatKit") (name (codes "zcf") kit.instance) kit.call (ap not (sym (ap (last_is (is_call_of (codes "makeEmptySeatKit"))) kit.last ∙ last_at (is_call_of (codes "makeEmptySeatKit")) kit.more kit.call)) ∙ other) kit.made
  | inr empty ↦ (let parts = and_parts (is_nil o.give) (is_nil o.want) empty in (nil_is o.give parts.0, nil_is o.want parts.1))
]

open_is : (o : Option Seat) → some_and o (λ s. not (is_some s.last)) ≡ true → (s : Seat) × (o ≡ Some s) × (s.last ≡ None)
open_is None h = absurd (true≢false (sym h))
open_is (Some s) h = (s, refl, none_is s.last h)
  where
    none_is : (l : Option (List Content)) → not (is_some l) ≡ true → l ≡ None
    none_is None e = refl
    none_is (Some c) e = absurd (true≢false (sym e))

none_is : {A : Type 0} (o : Option A) → not (is_some o) ≡ true → o ≡ None
none_is None e = refl
none_is (Some c) e = absurd (true≢false (sym e))

covers_sound : (t : Table) (ms : List Move) → t ≡ table_of ms → (seat : ℕ) (amounts : List KeywordAmount) → covers ms seat amounts ≡ true → AllByRecursion (IsCovered t seat) amounts
covers_sound t ms is seat amounts h = each_so (λ (a : KeywordAmount). has ms (Slot seat a.keyword) a.brand a.value ≡ true) (IsCovered t seat) (λ a u. subst (λ x. IsCovered x seat a) (sym is) (contains ms (Slot seat a.keyword) a.brand a.value u)) amounts (every (λ (a : KeywordAmount). has ms (Slot seat a.keyword) a.brand a.value) amounts h)

safe_sound : (t : Table) (ms : List Move) → t ≡ table_of ms → (o : Opening) → is_safe ms o ≡ true → IsSafe t o
safe_sound t ms is o h = ⊎_elim (λ is_so. inl (covers_sound t ms is o.seat o.want is_so)) (λ other. inr (covers_sound t ms is o.seat o.give (left_side (covers ms o.seat o.want) _ h other))) (cases_Bool (covers ms o.seat o.want))

quiet_sound : (e : Event) → is_quiet e ≡ true → ChangesNothing e
quiet_sound (called c) h = tt
quiet_sound (settled p r) h = tt
quiet_sound _ h = absurd (true≢false (sym h))

refusal_sound : (a : Answer) (e : Event) → refusal_test a e ≡ true → (code : List ℕ) (shown : Items) → a ≡ refused code shown → ChangesNothing e
refusal_sound (refused c s) e h code shown is = quiet_sound e h
refusal_sound (ok d) e h code shown is = cc
refusal_sound (threw d) e h code shown is = cc
refusal_sound (spent m) e h code shown is = cc

opened_is : {A : Type 0} (o : Option A) → is_some o ≡ true → (x : A) × (o ≡ Some x)
opened_is (Some x) h = (x, refl)
opened_is None h = absurd (true≢false (sym h))

event_sound : (y : Sentence) (r : Read) (i : InTurn) (e : Event) → Agrees r i → event_test y r i e ≡ true → AtRow y i e
event_sound movements_are_defined r i e a h = move_sound (λ m. CanMove i.now.table (movement_of m)) (can_move r.now) (λ m t. subst (λ u. CanMove u (movement_of m)) (sym a.table) (moves r.now m t)) e h
event_sound minted_totals_are_bounded r i e a h = move_sound (λ m. (sum_so_far (with_row i.now (moved m)) m.brand).minted ≤ minted_bound) (λ m. mints_few (m ∷ r.now) m.brand) (λ m t. subst (λ ms. size (minted (ms ++ movement_of m ∷ []) m.brand) ≤ minted_bound) (sym a.moves) (few_minted (m ∷ r.now) m.brand t)) e h
event_sound payments_stay_spent r i e a h = move_sound (λ m. (p : ℕ) → takes_from p i.before.moves ≡ true → names p (movement_of m ∷ []) ≡ false) (λ m. stays r m.from && stays r m.to) (stays_sound r i a) e h
event_sound values_are_of_one_kind r i e a h = record { kind_of = kind_at; values = of_kinds (with_row i.now e).amounts h }
event_sound slots_are_of_one_brand r i e a h =
    let parts = and_parts (of_move e (λ m. unless_due i.due (is_of_brand i.now.seats m.brand m.from && is_of_brand i.now.seats m.brand m.to))) (of_opening e opens_of_brand) h in (
      move_sound (λ m. IfNoneDue i.due (IsOfSlots i.now.seats m)) (λ m. unless_due i.due (is_of_brand i.now.seats m.brand m.from && is_of_brand i.now.seats m.brand m.to)) (λ m t. due_sound (IsOfSlots i.now.seats m) _ (brand_sound i.now.seats m) i.due t) e parts.0,
      opening_sound (λ o. AllByRecursion (λ (b : KeywordAmount). brand_under b.keyword (new_seat o).slots ≡ Some b.brand) (o.give ++ o.want)) opens_of_brand opens_sound e parts.1,
    )
event_sound seats_are_in_order r i e a h = opening_sound (λ o. o.seat ≡ length i.now.seats) (λ o. o.seat == length i.now.seats) (λ o t. eqb-true _ _ t) e h
event_sound offers_burn r i e a h = burn_sound i.due e h
event_sound offers_escrow r i e a h = escrow_sound i.due e h
event_sound kits_are_empty r i e a h = opening_sound (λ o. FollowsKit i.here → (o.give ≡ []) × (o.want ≡ [])) _ (kit_empty i.here) e h
event_sound openings_are_called_for r i e a h = opening_sound (λ o. (is_offer i.row ≡ true) ⊎ FollowsKit i.here) _ (called_for i) e h
event_sound exits_are_of_open_seats r i e a h = exit_sound (λ x. IsOpen i.now.seats x.seat) (λ x. some_and (slice_get i.now.seats x.seat) (λ s. not (is_some s.last))) (λ x t. (let o = open_is (slice_get i.now.seats x.seat) t in record { seat = o.0; was_opened = o.1; stays = o.2 })) e h
event_sound exits_follow_their_cause r i e a h = exit_sound (λ x. (s : Seat) → slice_get i.now.seats x.seat ≡ Some s → first_cause i.before.owners i.row i.here s.opening.instance x.seat ≡ Some x.cause) _ (λ x t. some_sound (λ s. first_cause i.before.owners i.row i.here s.opening.instance x.seat ≡ Some x.cause) (λ s. is_cause (first_cause i.before.owners i.row i.here s.opening.instance x.seat) x.cause) (λ s u. cause_is _ x.cause u) (slice_get i.now.seats x.seat) t) e h
event_sound payouts_follow r i e a h = payout_sound r.at_exit i.due e a.due h
event_sound payouts_are_named r i e a h = exit_sound (λ x. (s : Seat) → slice_get i.now.seats x.seat ≡ Some s → (length x.payouts ≡ length s.slots) × AllByRecursion (λ (slot : SlotName). is_some (payment_under slot.keyword x.payouts) ≡ true) s.slots) _ (λ x t. some_sound (λ s. (length x.payouts ≡ length s.slots) × AllByRecursion (λ (slot : SlotName). is_some (payment_under slot.keyword x.payouts) ≡ true) s.slots) (λ s. length x.payouts == length s.slots && list_all (λ (slot : SlotName). is_some (payment_under slot.keyword x.payouts)) s.slots) (λ s u. (let parts = and_parts (length x.payouts == length s.slots) _ u in (eqb-true _ _ parts.0, every (λ (slot : SlotName). is_some (payment_under slot.keyword x.payouts)) s.slots parts.1))) (slice_get i.now.seats x.seat) t) e h
event_sound payouts_are_new r i e a h =
    let parts = and_parts (new_test r.now i.due e) _ h in
    (new_sound i.now r.now a.moves i.due e parts.0, exit_sound (λ x. AllByRecursion (λ (p : Payout). names p.payment i.now.moves ≡ false) x.payouts) _ (λ x t. fresh_sound i.now r.now a.moves x.payouts t) e parts.1)
event_sound exits_are_covered r i e a h = exit_sound (λ x. (s : Seat) → slice_get i.now.seats x.seat ≡ Some s → IsSafe i.now.table s.opening) _ (λ x t. some_sound (λ s. IsSafe i.now.table s.opening) (λ s. is_safe r.now s.opening) (λ s u. safe_sound i.now.table r.now a.table s.opening u) (slice_get i.now.seats x.seat) t) e h
event_sound refusals_change_nothing r i e a h = refusal_sound i.row.answer e h
event_sound slots_are_of_opened_seats r i e a h = move_sound (λ m. IfNoneDue i.due ((seat : ℕ) (keyword : List ℕ) → NamesSlot m seat keyword → (s : Seat) × (slice_get i.now.seats seat ≡ Some s))) _ (λ m t. due_sound _ (is_opened i.now.seats m.from && is_opened i.now.seats m.to) (λ u. ends_sound (λ seat keyword. (s : Seat) × (slice_get i.now.seats seat ≡ Some s)) (is_opened i.now.seats) (λ seat keyword v. opened_is (slice_get i.now.seats seat) v) m u) i.due t) e h
event_sound slots_are_of_no_exited_seat r i e a h = move_sound (λ m. IfNoneDue i.due ((seat : ℕ) (keyword : List ℕ) → NamesSlot m seat keyword → (s : Seat) → slice_get i.now.seats seat ≡ Some s → s.last ≡ None)) _ (λ m t. due_sound _ (is_not_exited i.now.seats m.from && is_not_exited i.now.seats m.to) (λ u. ends_sound (λ seat keyword. (s : Seat) → slice_get i.now.seats seat ≡ Some s → s.last ≡ None) (is_not_exited i.now.seats) (λ seat keyword v. some_sound (λ (s : Seat). s.last ≡ None) (λ s. not (is_some s.last)) (λ s w. none_is s.last w) (slice_get i.now.seats seat) v) m u) i.due t) e h
event_sound current_amounts r i e a h =
    call_sound (λ c. (n : ℕ) → calls (name (codes "zseat") n) (codes "getCurrentAllocation") c ≡ true → IfOkAnswer (InRecord (λ keyword. IfAmount (IsOfSlot i.now.table n keyword))) c.answer) _
    (λ c t n made. elim (or_sides _ _ t) [ inl other ↦ no_call (codes "getCurrentAllocation") (name (codes "zseat") n) c other made | inr bare ↦ bare_record (λ keyword. IfAmount (IsOfSlot i.now.table n keyword)) c.answer bare ]) e h
event_sound slot_amounts r i e a h =
    call_sound (λ c. (n : ℕ) → calls (name (codes "zseat") n) (codes "getAmountAllocated") c ≡ true → IfOkAnswer (IfAmount (IsOfNamedSlot i.now.table n c.arguments)) c.answer) _
    (λ c t n made. elim (or_sides _ _ t) [ inl other ↦ no_call (codes "getAmountAllocated") (name (codes "zseat") n) c other made | inr bare ↦ bare_amount (IsOfNamedSlot i.now.table n c.arguments) c.answer bare ]) e h
event_sound _ r i e a h = tt

rows_sound : (y : Sentence) (r : Read) (i : InTurn) (es : List Event) → Agrees r i → rows_test y r i es ≡ true → MeetsRows y i es
rows_sound y r i [] a h = tt
rows_sound y r i (e ∷ es) a h =
    let parts = and_parts (event_test y r i e) (rows_test y (read_event i r e) (after_event i e) es) h in
    (event_sound y r i e a parts.0, rows_sound y (read_event i r e) (after_event i e) es (agrees_after r i e a) parts.1)

-- ---- ends of turns

no_burn_sound : (ds : List Due) → no_burn ds ≡ true → IsNoBurn ds
no_burn_sound (burn ∷ ds) h = absurd (true≢false (sym h))
no_burn_sound _ h = tt

no_escrow_sound : (ds : List Due) → no_escrow ds ≡ true → IsNoEscrow ds
no_escrow_sound (burn ∷ ds) h = tt
no_escrow_sound [] h = tt
no_escrow_sound (escrow seat a ∷ ds) h = absurd (true≢false (sym h))
no_escrow_sound (payout seat slot c found ∷ ds) h = tt

no_payout_sound : (ds : List Due) → no_payout ds ≡ true → IsNoPayout ds
no_payout_sound (burn ∷ ds) h = tt
no_payout_sound [] h = tt
no_payout_sound (escrow seat a ∷ ds) h = tt
no_payout_sound (payout seat slot c found ∷ ds) h = absurd (true≢false (sym h))

first_sound : (i : InTurn) (e : Event) → is_first i e ≡ true → IsCaused i.now.seats i.before.owners i.row i.here e
first_sound i (exited x) h = by (slice_get i.now.seats x.seat) refl h
  where
    by : (o : Option Seat) → slice_get i.now.seats x.seat ≡ o → some_and o (λ s. is_cause (first_cause i.before.owners i.row i.here s.opening.instance x.seat) x.cause) ≡ true → IsCaused i.now.seats i.before.owners i.row i.here (exited x)
    by (Some s) is t = record { seat = s; was_opened = is; first = cause_is _ x.cause t }
    by None is t = absurd (true≢false (sym t))
first_sound i (called c) h = tt
first_sound i (opened o) h = tt
first_sound i (moved m) h = tt
first_sound i (settled p r) h = tt

open_sound : (P : ℕ → Seat → Type 0) (test : ℕ → Seat → Bool) → ((n : ℕ) (s : Seat) → test n s ≡ true → P n s) → (from : ℕ) (seats : List Seat) → open_seats test from seats ≡ true → (n : ℕ) (s : Seat) → slice_get seats n ≡ Some s → s.last ≡ None → P (from + n) s
open_sound P test so from [] h n s found is_open = cc
open_sound P test so from (z ∷ seats) h zero s found is_open =
    let parts = and_parts (is_some z.last || test from z) (open_seats test (suc from) seats) h in
    let same : z ≡ s = same_some z s found in
    subst (λ k. P k s) (omega arith) (so from s (subst (λ x. test from x ≡ true) same (left_side (is_some z.last) _ parts.0 (ap is_some (subst (λ x. x.last ≡ None) (sym same) is_open)))))
open_sound P test so from (z ∷ seats) h (suc n) s found is_open =
    let parts = and_parts (is_some z.last || test from z) (open_seats test (suc from) seats) h in
    subst (λ k. P k s) (omega arith) (open_sound P test so (suc from) seats parts.1 n s found is_open)

open_from_zero : (P : ℕ → Seat → Type 0) (test : ℕ → Seat → Bool) → ((n : ℕ) (s : Seat) → test n s ≡ true → P n s) → (seats : List Seat) → open_seats test 0 seats ≡ true → (n : ℕ) (o : IsOpen seats n) → P n o.seat
open_from_zero P test so seats h n o = subst (λ k. P k o.seat) (omega arith) (open_sound P test so 0 seats h n o.seat o.was_opened o.stays)

emptied_sound : (r : Read) (i : InTurn) → Agrees r i → all_held (λ h b k n. is_emptied i.here h n) r.now ≡ true → (p b : ℕ) → takes_from p (movements_in i.here) ≡ true → holds i.now.table (Payment p) b ≡ nothing
emptied_sound r i a test p b taken = ap (λ t. holds t (Payment p) b) a.table ∙ same_content _ _ (λ k. held_is r.now (Payment p) b k ∙ gone k ∙ sym (count-nothing k))
  where
    gone : (k : List ℕ) → held r.now (Payment p) b k ≡ 0
    gone k = elim (everywhere (λ h e q n. is_emptied i.here h n) r.now test (Payment p) b k) [
      | inl passed ↦ eqb-true _ _ (left_side (not (takes_from p (movements_in i.here))) (held r.now (Payment p) b k == 0) passed (ap not taken))
      | inr gone_there ↦ gone_there
    ]

-- a number and elements are not of one kind
no_kind : (k : Kind) (v w : Value) → is_numbers v ≡ true → is_numbers w ≡ false → IsValueOf k v → IsValueOf k w → ⊥
no_kind Nat v w p q a b = true≢false (sym (ap is_numbers b.is) ∙ q)
no_kind Set v w p q a b = true≢false (sym p ∙ ap is_numbers a.is)
no_kind Bag v w p q a b = true≢false (sym p ∙ ap is_numbers a.is)

pub no_kinds : (amounts : List Named) → clash amounts ≡ true → HaveKinds amounts → ⊥
no_kinds [] h named_kinds = true≢false (sym h)
no_kinds (a ∷ []) h named_kinds = true≢false (sym h)
no_kinds (a ∷ b ∷ amounts) h named_kinds =
    let parts = and_parts (a.0 == b.0) _ h in
    let both = and_parts (is_numbers a.1) (not (is_numbers b.1)) parts.1 in
    no_kind (named_kinds.kind_of a.0) a.1 b.1 both.0 (false_from_ne_true _ (λ is_so. true≢false (sym both.1 ∙ ap not is_so))) named_kinds.values.0 (subst (λ n. IsValueOf (named_kinds.kind_of n) b.1) (sym (eqb-true a.0 b.0 parts.0)) named_kinds.values.1.0)

bounds_sound : (d : Edition) (r : Read) (i : InTurn) → Agrees r i → (clash i.now.amounts || (are_of_kinds i.now.amounts && (are_bounded kind_at r.now && are_within d kind_at r.now))) ≡ true → HaveKinds i.now.amounts → IsBounded d i.now
bounds_sound d r i a h named_kinds = ⊎_elim
    (λ is_so. absurd (no_kinds i.now.amounts is_so named_kinds))
    (λ other. (let parts = and_parts (are_of_kinds i.now.amounts) _ (left_side (clash i.now.amounts) _ h other) in let both = and_parts (are_bounded kind_at r.now) (are_within d kind_at r.now) parts.1 in record {
      kind_of = kind_at;
      values = of_kinds i.now.amounts parts.0;
      fits = λ b. subst (λ ms. Fits (kind_at b) (supply ms b)) (sym a.moves) (bounded_is kind_at r.now both.0 b);
      within = λ b. subst (λ ms. IsWithin d (kind_at b) (supply ms b)) (sym a.moves) (within_is d kind_at r.now both.1 b);
    }))
    (cases_Bool (clash i.now.amounts))

sums_map : (f g : ℕ → Sum) → ((b : ℕ) → f b ≡ g b) → (bs : List ℕ) → map f bs ≡ map g bs
sums_map f g same [] = refl
sums_map f g same (b ∷ bs) = ap (λ (s : Sum). s ∷ map f bs) (same b) ∙ ap (λ (ss : List Sum). g b ∷ ss) (sums_map f g same bs)

end_sound : (d : Edition) (y : Sentence) (r : Read) (i : InTurn) (sums : List Sum) → Agrees r i → end_test d y r i sums ≡ true → AtEnd d y i sums
end_sound d offers_burn r i sums a h = no_burn_sound i.due h
end_sound d offers_escrow r i sums a h = no_escrow_sound i.due h
end_sound d payouts_follow r i sums a h = no_payout_sound i.due h
end_sound d causes_are_the_first r i sums a h = each_so (λ e. is_first i e ≡ true) (IsCaused i.now.seats i.before.owners i.row i.here) (first_sound i) i.here (every (is_first i) i.here h)
end_sound d causes_are_followed r i sums a h = open_from_zero (λ n s. first_cause i.before.owners i.row i.here s.opening.instance n ≡ None) (λ n s. not (is_some (first_cause i.before.owners i.row i.here s.opening.instance n))) (λ n s t. none_is _ t) i.now.seats h
end_sound d seats_stay_covered r i sums a h = open_from_zero (λ n s. IsSafe i.now.table s.opening) (λ n s. is_safe r.now s.opening) (λ n s t. safe_sound i.now.table r.now a.table s.opening t) i.now.seats h
end_sound d payments_are_emptied r i sums a h = emptied_sound r i a h
end_sound d tables_balance r i sums a h = let parts = and_parts (can_move_all r.now) _ h in adds_up i.now r.now a.table a.moves parts.0 parts.1
end_sound d supplies_are_bounded r i sums a h = bounds_sound d r i a h
end_sound d sums_are_told r i sums a h =
    let parts = and_parts (can_sum r.now) (same_sums sums (map (sum_in r.now) (brands_of (movements_in i.here)))) h in
    sums_same sums _ parts.1 ∙ sums_map (sum_in r.now) (sum_so_far i.now) (sum_is i.now r.now a.table a.moves parts.0) (brands_of (movements_in i.here))
end_sound d _ r i sums a h = tt

-- ---- lists of turns

turns_sound : (d : Edition) (y : Sentence) (ms : List Move) (s : SoFar) (ts : List Turn) → s.table ≡ table_of ms → s.moves ≡ moves_of ms → turns_test d y ms s ts ≡ true → MeetsFrom d y s ts
turns_sound d y ms s [] table same_moves h = tt
turns_sound d y ms s (t ∷ ts) table same_moves h =
    let i = after_turn_row s t in
    let whole = and_parts (turn_test d y ms s t) (turns_test d y (read_events i (fresh ms) t.events).now (with_turn s t) ts) h in
    let row = and_parts (turn_row_test y s t) _ whole.0 in
    let rest = and_parts (rows_test y (fresh ms) i t.events) (end_test d y (read_events i (fresh ms) t.events) (after_events i t.events) t.sums) row.1 in
    let first : Agrees (fresh ms) i = record { table = table; moves = same_moves; before = same_moves; due = tt } in
    let last : Agrees (read_events i (fresh ms) t.events) (after_events i t.events) = agrees_at_end (fresh ms) i t.events first in (
      (row_sound y s t row.0, rows_sound y (fresh ms) i t.events first rest.0, end_sound d y (read_events i (fresh ms) t.events) (after_events i t.events) t.sums last rest.1),
      turns_sound d y (read_events i (fresh ms) t.events).now (with_turn s t) ts (ap (λ n. n.table) (sym (now_is i t.events)) ∙ last.table) (ap (λ n. n.moves) (sym (now_is i t.events)) ∙ last.moves) whole.1,
    )

pub sound : (d : Edition) (y : Sentence) (ts : List Turn) → passes d y ts ≡ true → Meets d y ts
sound d y ts h = turns_sound d y [] nothing_so_far ts refl refl h
