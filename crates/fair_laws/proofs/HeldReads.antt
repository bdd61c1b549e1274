-- What is answered of holdings is what is held.
use Rattle.std.specs.Prelude.{◌≡◌, ◌+◌, ◌^◌, ◌<◌, ◌==◌, ◌&&◌, ℕ, Bool, true, false, cond, codes, List, [], ◌∷◌, Option, Some, None, IfSome, Result, Ok, Err, IfOk, length, map, unwrap_or, refl}
use Rattle.std.specs.List.{AllByRecursion}
use Rattle.std.specs.Option.{option_map, option_map_or}
use Rattle.std.specs.Str.{bytes_eq}
use Rattle.std.proofs.Common.{sym, ◌∙◌, ap, subst, arith}
use Rattle.std.proofs.lemmas.Bool.{eqb-true}
use Rattle.std.proofs.lemmas.Slice.Eq.{bytes_eq-Decides}
use Rattle.fair_rows.specs.amount_math.Content.{nothing}
use Rattle.fair_rows.specs.amount_math.KindLaws.{nothing_is_value}
use Rattle.fair_rows.specs.amount_math.declared.Amount.{Amount}
use Rattle.fair_rows.specs.amount_math.declared.Kind.TheVariants.{Nat}
use Rattle.delivery_laws.specs.brands.Brands.{brand_at}
use Rattle.delivery_laws.specs.call_arguments.Arguments.{arg, is_kind, object_at, object_in}
use Rattle.delivery_laws.specs.host_data.Values.{amount_tree}
use Rattle.delivery_laws.specs.rules.Obligations.{CanCall}
use Rattle.delivery_laws.specs.rules.Words.{keyword_at, shown_text}
use Rattle.delivery_laws.specs.rules.States.{allocation_of, is_open}
use Rattle.delivery_laws.specs.rules.Records.{allocation_tree}
use Rattle.delivery_laws.specs.rules.Zseat.{amount_or_none, get_amount_allocated, get_current_allocation, of_zseat}
use Rattle.delivery_laws.specs.turn_records.Names.{object_name}
use Rattle.delivery_laws.specs.turn_records.PrintedData.{printed, printed_items}
use Rattle.delivery_laws.specs.ertp_mint.Stocks.{empty_amount, no_amount}
use Rattle.delivery_laws.specs.rules.Issuer.{get_amount_of}
use Rattle.fair_laws.specs.Owed.{answered}
use Rattle.fair_laws.specs.Places.{seat_told, seats_told, slot_content, slot_name}
use Rattle.fair_laws.proofs.HeldEffects.{held_there, slots_hold}
use Rattle.fair_laws.proofs.EffectSeats.{seat_read}
use Rattle.fair_rows.specs.Amounts.{IfAmount, IfOkAnswer, InRecord, IsOfExit, IsOfNamedSlot, IsOfPayment, IsOfPurse, IsOfSlot, content_under, moved_at_exit}
use Rattle.fair_rows.proofs.Amounts.{if_answer}
use Rattle.fair_rows.specs.Strict.{IsAllocation, IsAmountOf, IsCurrentAllocation, IsFinalAllocation, IsPaymentAmount, IsPurseAmount, IsSlotRead}
use Rattle.fair_rows.specs.Seats as told
use Rattle.fair_rows.specs.ExitCauses.{calls, is_ok, name, serves}
use Rattle.fair_rows.specs.host_text.Words.{is_keyword}
use Rattle.delivery_laws.specs.host_data.Tree as trees
use Rattle.delivery_laws.specs.host_data.Tree.{Tree, text_of}
use Rattle.delivery_laws.specs.host_data.View.{items_of}
use Rattle.delivery_laws.specs.host_data.declared.data.Obj.{Obj}
use Rattle.delivery_laws.specs.host_data.declared.data.ObjKind.{ObjKind}
use Rattle.delivery_laws.specs.host_data.declared.data.ObjKind.TheVariants as kinds
use Rattle.delivery_laws.specs.holders.PaymentViews.{spent_payment}
use Rattle.delivery_laws.specs.proposals.Shares.{AreApart, AreShares, amount_under}
use Rattle.delivery_laws.specs.proposals.declared.allocations.Share.{Share}
use Rattle.delivery_laws.specs.refusals.Codes.{dead_payment, pending, wrong_brand, wrong_object}
use Rattle.delivery_laws.specs.refusals.Outcomes.{bind, reading}
use Rattle.delivery_laws.specs.refusals.declared.codes.Refusal.{Refusal}
use Rattle.delivery_laws.proofs.refusals.Steps.{after_check, after_need, after_step, after_wanted, ok_has, wanted_there}
use Rattle.delivery_laws.specs.vault_model.Lists.{amount_of}
use Rattle.delivery_laws.specs.vault_model.Tables.{content_held, right_in, right_on}
use Rattle.fair_rows.specs.rights_model.Table.{Table, holds}
use Rattle.fair_rows.specs.rights_model.declared.Holder.TheVariants.{Payment, Purse, Slot}
use Rattle.delivery_laws.specs.world_laws.Tables.{in_slot, table_of}
use Rattle.delivery_laws.proofs.world_laws.Changes.{of_brand, of_other}
use Rattle.delivery_laws.proofs.world_laws.Tabled.{table_agrees}
use Rattle.serde_json.specs.Data as json
use Rattle.delivery_laws.specs.rules.GivenPayments.{LivePayment, live_at, payment_view_of, payment_at}
use Rattle.delivery_laws.specs.rules.Purse.{get_current_amount, purse_of}
use Rattle.delivery_laws.specs.rules.Methods.{of_own_kind, serve as service, serve_own}
use Rattle.delivery_laws.specs.turn_records.Printed.{object, printed_call, printed_trees}
use Rattle.fair_rows.specs.turn_rows.Rows.{brand_name, only, payment_name}
use Rattle.fair_rows.specs.turn_rows.Turns as rows
use Rattle.fair_rows.specs.turn_rows.Turns.{Turn, ok}
use Rattle.delivery_laws.specs.rules.Zoe.{TextReader}
use Rattle.delivery_laws.specs.rules.Methods as methods
use Rattle.delivery_laws.specs.rules.Seat.{get_final_allocation}
use Rattle.delivery_laws.proofs.world_laws.Lists.{all_read, all_read_or}
use Rattle.delivery_laws.specs.world_state.Good.{AreNamed, AreSharesOf, AreSharesValued, IsAmountValued, IsGoodWorld, IsLast, IsPaymentValued, IsOfKind, IsValued}
use Rattle.delivery_laws.specs.world_state.Known.{IsFormed, known_as, made_as}
use Rattle.delivery_laws.specs.world_state.Rights.{slots_at}
use Rattle.delivery_laws.specs.world_state.Worlds.{Effect, State, no_seat, seat_at}
use Rattle.fair_laws.specs.Reads.{CallsRead, IsAnsweredTurn, IsTold, IsTurnTold, ServicesRead}
use Rattle.fair_laws.specs.Views.{IsCounted, IsSteady, LeftNamed}
use Rattle.fair_laws.proofs.Amounts.{all_printed_as, allocation_holds, allocation_is, amount_read, brand_wide, contents_found}
use Rattle.fair_laws.proofs.Names.{and_first, and_second, issuer_is, purse_is, seat_is, zseat_is}

-- ---- rows that only read

reading_is : (r : Result Tree Refusal) (d : Tree × List Effect) → reading r ≡ Ok d → r ≡ Ok d.0
unfolding reading bind
reading_is (Ok t) d is = ap first is
  where
    first : Result (Tree × List Effect) Refusal → Result Tree Refusal
    first (Ok x) = Ok x.0
    first (Err e) = Err e
reading_is (Err e) d is = cc

-- ---- arguments

abbrev arg_item : json.Data → json.Items → json.Items
arg_item d rest = json.item d rest

text_is : (t : Tree) (s : List ℕ) → text_of t ≡ Some s → t ≡ trees.text s
text_is (trees.text x) s e = ap (λ o. trees.text (unwrap_or o s)) e
text_is trees.null s e = cc
text_is (trees.boolean b) s e = cc
text_is (trees.number z) s e = cc
text_is (trees.array ts) s e = cc
text_is (trees.fields fs) s e = cc
text_is (trees.object o) s e = cc
text_is (trees.function f) s e = cc

shown_is : (o : Option (List ℕ)) → is_keyword (unwrap_or o []) ≡ true → o ≡ Some (unwrap_or o [])
shown_is (Some s) e = refl
shown_is None e = cc

keyword_text : (place : ℕ) (args : List Tree) → IfOk (keyword_at place args) (λ x. arg place args ≡ trees.text x)
unfolding keyword_at
keyword_text place args = after_need (λ x. arg place args ≡ trees.text x) (is_keyword (shown_text (arg place args))) _ _ (λ e. text_is (arg place args) (shown_text (arg place args)) (shown_is (text_of (arg place args)) e))

keyword_is : (place : ℕ) (args : List Tree) (k : List ℕ) → keyword_at place args ≡ Ok k → arg place args ≡ trees.text k
keyword_is place args k is = ok_has (λ x. arg place args ≡ trees.text x) (keyword_at place args) k is (keyword_text place args)

-- an object of a kind, as it is printed
record IsObjectAt (kind : ObjKind) (n : ℕ) (t : Tree) : Type 0 where
  obj : Obj
  is : t ≡ trees.object obj
  number : obj.number ≡ n
  of : is_kind kind obj.kind ≡ true

object_found : (kind : ObjKind) (t : Tree) (n : ℕ) → object_in kind t ≡ Some n → IsObjectAt kind n t
unfolding object_in
object_found kind (trees.object o) n e = by (is_kind kind o.kind) refl e
  where
    by : (b : Bool) → is_kind kind o.kind ≡ b → cond b (Some o.number) None ≡ Some n → IsObjectAt kind n (trees.object o)
    by true of at = record { obj = o; is = refl; number = ap (λ x. unwrap_or x n) at; of = of }
    by false of at = cc
object_found kind trees.null n e = cc
object_found kind (trees.boolean b) n e = cc
object_found kind (trees.number z) n e = cc
object_found kind (trees.text s) n e = cc
object_found kind (trees.array ts) n e = cc
object_found kind (trees.fields fs) n e = cc
object_found kind (trees.function f) n e = cc

object_there : (kind : ObjKind) (place : ℕ) (args : List Tree) (n : ℕ) → object_at kind place args ≡ Ok n → IsObjectAt kind n (arg place args)
unfolding object_at
object_there kind place args n is = object_found kind (arg place args) n (wanted_there (object_in kind (arg place args)) (wrong_object place) n is)

brand_kind : (k : ObjKind) (n : ℕ) → is_kind (kinds.Brand Nat) k ≡ true → object_name (object k n) ≡ brand_name n
unfolding object_name
brand_kind (kinds.Brand assets) n e = refl
brand_kind k n e = cc

payment_kind : (k : ObjKind) (n : ℕ) → is_kind kinds.Payment k ≡ true → object_name (object k n) ≡ payment_name n
unfolding object_name
payment_kind kinds.Payment n e = refl
payment_kind k n e = cc

-- ---- a seat's slots

abbrev HoldsRow : Table → ℕ → Share → Type 0
HoldsRow t n r = holds t (Slot n r.keyword) r.amount.brand ≡ r.amount.value.content

contents_same : (t : Table) (n : ℕ) (rs : List Share) → AllByRecursion (HoldsRow t n) rs → map (λ slot. holds t (Slot n slot.keyword) slot.brand) (map slot_name rs) ≡ map slot_content rs
contents_same t n [] all = refl
contents_same t n (r ∷ rs) all = ap (λ c. c ∷ map (λ slot. holds t (Slot n slot.keyword) slot.brand) (map slot_name rs)) all.0 ∙ ap (λ l. slot_content r ∷ l) (contents_same t n rs all.1)

module _ (w : State) (good : IsGoodWorld w) (n : ℕ) (made : n < length w.seats) where
  abbrev rows_there : List Share
  rows_there = slots_at w.rights.slots n

  there : n < length w.rights.slots
  there = omega (arith, made, good.seats.slotted)

  apart : AreApart rows_there
  apart = (all_read AreShares w.rights.slots n [] good.seats.shares there).apart

  named : AreNamed rows_there
  named = all_read AreNamed w.rights.slots n [] good.seats.named there

  kinds_are : AreSharesOf w.rights.out rows_there
  kinds_are = all_read (AreSharesOf w.rights.out) w.rights.slots n [] good.slot_kinds there

  valued : AreSharesValued rows_there
  valued = all_read AreSharesValued w.rights.slots n [] good.valued.slots there

  current_is : IsCurrentAllocation (table_of w.rights) (seats_told w) n (ok (printed (allocation_tree rows_there)))
  current_is = record {
    seat = seat_told n (seat_at w.seats n) rows_there;
    was_opened = seat_read 0 n w.seats w.rights.slots no_seat made good.seats.slotted
        ∙ ap (λ k. Some (seat_told k (seat_at w.seats n) rows_there)) (let e : 0 + n ≡ n = omega arith in e);
    allocation = subst (λ c. IsAllocation (map slot_name rows_there) c (ok (printed (allocation_tree rows_there)))) (sym (contents_same (table_of w.rights) n rows_there (slots_hold w.rights n apart))) (allocation_is w rows_there good apart named kinds_are valued);
  }

  current_holds : IfOkAnswer (InRecord (λ keyword. IfAmount (IsOfSlot (table_of w.rights) n keyword))) (ok (printed (allocation_tree rows_there)))
  current_holds =
      allocation_holds (IsOfSlot (table_of w.rights) n) w rows_there good apart named kinds_are valued
      (all_printed_as (λ r. holds (table_of w.rights) (Slot n r.keyword) r.amount.brand) rows_there valued (slots_hold w.rights n apart))

-- ---- zseat.getCurrentAllocation()

allocation_answer : (w : State) (n : ℕ) → IfOk (get_current_allocation w n) (λ t. t ≡ allocation_tree (allocation_of w n))
unfolding get_current_allocation
allocation_answer w n = after_check (λ t. t ≡ allocation_tree (allocation_of w n)) (is_open w n) _ refl

-- ---- zseat.getAmountAllocated(keyword, brand)

record IsSlotAnswer (w : State) (n : ℕ) (args : List Tree) (t : Tree) : Type 0 where
  keyword : List ℕ
  brand : ℕ
  keyword_there : keyword_at 1 args ≡ Ok keyword
  brand_there : object_at (kinds.Brand Nat) 2 args ≡ Ok brand
  same : ((amount_or_none w brand (amount_under keyword (allocation_of w n))).brand == brand) ≡ true
  is : t ≡ amount_tree (amount_or_none w brand (amount_under keyword (allocation_of w n)))

slot_answer : (w : State) (n : ℕ) (args : List Tree) → IfOk (get_amount_allocated w n args) (IsSlotAnswer w n args)
unfolding get_amount_allocated
slot_answer w n args =
    after_check (IsSlotAnswer w n args) (is_open w n) _
    (after_step (IsSlotAnswer w n args) (keyword_at 1 args) _ (λ k at.
    after_step (IsSlotAnswer w n args) (object_at (kinds.Brand Nat) 2 args) _ (λ b of.
    after_need (IsSlotAnswer w n args) ((amount_or_none w b (amount_under k (allocation_of w n))).brand == b) (wrong_brand b) _
    (λ same. record { keyword = k; brand = b; keyword_there = at; brand_there = of; same = same; is = refl }))))

under_valued : (k : List ℕ) (rs : List Share) → AreSharesValued rs → IfSome (amount_under k rs) IsAmountValued
under_valued k [] all = tt
under_valued k (x ∷ xs) all = by (bytes_eq k x.keyword) (under_valued k xs all.1)
  where
    by : (t : Bool) → IfSome (amount_under k xs) IsAmountValued → IfSome (cond t (Some x.amount) (amount_under k xs)) IsAmountValued
    by true later = all.0
    by false later = later

two_named : (args : List Tree) (k : List ℕ) (o : Obj) (b : ℕ) → arg 1 args ≡ trees.text k → arg 2 args ≡ trees.object o → object_name o ≡ brand_name b
    → (more : json.Items) × (printed_trees args ≡ json.item (json.string k) (json.item (only (codes "@") (json.string (brand_name b))) more))
two_named [] k o b first second named = cc
two_named (x ∷ []) k o b first second named = cc
two_named (x ∷ y ∷ rest) k o b first second named = (printed_items (items_of rest), (λ i. json.item (printed (first i)) (json.item (printed (second i)) (printed_items (items_of rest)))) ∙ ap (λ s. json.item (json.string k) (json.item (only (codes "@") (json.string s)) (printed_items (items_of rest)))) named)

brand_named : (i : ℕ) (w : State) (kind : ObjKind) (n : ℕ) → is_kind (kinds.Brand Nat) kind ≡ true → known_as i w kind n → n < length w.brands
brand_named i w (kinds.Brand assets) n e known = known.made
brand_named i w kind n e known = absurd (cc)

brand_there : (w : State) (i : ℕ) (args : List Tree) (b : ℕ) → IsFormed w (Some i) (arg 2 args) → IsObjectAt (kinds.Brand Nat) b (arg 2 args) → b < length w.brands
brand_there w i args b formed at =
    let known : known_as i w at.obj.kind at.obj.number = (subst (IsFormed w (Some i)) at.is formed).objects in
    subst (λ n. n < length w.brands) at.number (brand_named i w at.obj.kind at.obj.number at.of known)

-- the answer of a slot, told whole, and so that each amount in it is that of the slot
slot_read : (w : State) (i n : ℕ) (args : List Tree) (t : Tree) → IsGoodWorld w → n < length w.seats → IsFormed w (Some i) (arg 2 args) → IsSlotAnswer w n args t
    → IsSlotRead (table_of w.rights) n (printed_trees args) (ok (printed t)) × IfOkAnswer (IfAmount (IsOfNamedSlot (table_of w.rights) n (printed_trees args))) (ok (printed t))
slot_read w i n args t good made formed is =
    let at = object_there (kinds.Brand Nat) 2 args is.brand is.brand_there in
    let two = two_named args is.keyword at.obj is.brand (keyword_is 1 args is.keyword is.keyword_there) at.is (brand_kind at.obj.kind at.obj.number at.of ∙ ap brand_name at.number) in
    let rs = slots_at w.rights.slots n in
    let amount : IsAmountOf (table_of w.rights) (Slot n is.keyword) is.brand (ok (printed t)) =
    subst (λ x. IsAmountOf (table_of w.rights) (Slot n is.keyword) is.brand (ok (printed x))) (sym is.is)
    (by (amount_under is.keyword rs) refl (under_valued is.keyword rs (valued w good n made)) is.same) in
    let wide : is.brand < 2 ^ 128 = omega (arith, brand_there w i args is.brand formed at, good.brands.few) in (
      record { keyword = is.keyword; brand = is.brand; more = two.0; named = two.1; amount = amount },
      if_answer (IsOfNamedSlot (table_of w.rights) n (printed_trees args)) (table_of w.rights) (Slot n is.keyword) is.brand (ok (printed t)) wide amount
          (record { keyword = is.keyword; more = json.item (only (codes "@") (json.string (brand_name is.brand))) two.0; named = two.1; held = amount.printed }),
    )
  where
    by : (o : Option Amount) → amount_under is.keyword (slots_at w.rights.slots n) ≡ o → IfSome o IsAmountValued → ((amount_or_none w is.brand o).brand == is.brand) ≡ true
        → IsAmountOf (table_of w.rights) (Slot n is.keyword) is.brand (ok (printed (amount_tree (amount_or_none w is.brand o))))
    by (Some a) e v same =
        let of : a.brand ≡ is.brand = eqb-true a.brand is.brand same in
        subst (λ b. IsAmountOf (table_of w.rights) (Slot n is.keyword) b (ok (printed (amount_tree a)))) of
        (amount_read (table_of w.rights) (Slot n is.keyword) a v (held_there w.rights n is.keyword a e))
    by None e v same =
        amount_read (table_of w.rights) (Slot n is.keyword) (empty_amount is.brand (brand_at w.brands is.brand).kind) (nothing_is_value (brand_at w.brands is.brand).kind)
        ((table_agrees w.rights).each (Slot n is.keyword) is.brand ∙ ap (λ x. in_slot x is.brand) e)

-- ---- calls of instances' functions

module _ (w : State) (i : ℕ) (o : Obj) (m : List ℕ) (args : List Tree) (answer : Tree) (es : List Effect) (counted : IsCounted w) (can : CanCall w (Some i) o args) (so : serve_own w o m args ≡ Ok (answer, es)) where
  so_by_kind : of_own_kind w o.kind o.number m args ≡ Ok (answer, es)
  unfolding serve_own
  so_by_kind = so

  wide : o.kind ≡ kinds.Zseat → o.number < 2 ^ 128
  wide e = let made = subst (λ k. known_as i w k o.number) e can.target in omega (arith, made.made, counted.seats)

  module _ (n : ℕ) (method : List ℕ) (e : calls (name (codes "zseat") n) method (printed_call (answered o m args answer)) ≡ true) where
    here : o ≡ object kinds.Zseat n
    here = zseat_is n o wide (and_first (bytes_eq (object_name o) (name (codes "zseat") n)) (bytes_eq m method) e)

    of_method : m ≡ method
    of_method = (bytes_eq-Decides m method).0 (and_second (bytes_eq (object_name o) (name (codes "zseat") n)) (bytes_eq m method) e)

    made : n < length w.seats
    made = (subst (λ (x : Obj). known_as i w x.kind x.number) here can.target).made

    row : of_zseat w n method args ≡ Ok (answer, es)
    row = sym (ap (λ (x : Obj). of_own_kind w x.kind x.number m args) here ∙ ap (λ x. of_zseat w n x args) of_method) ∙ so_by_kind

  current_so : (n : ℕ) → calls (name (codes "zseat") n) (codes "getCurrentAllocation") (printed_call (answered o m args answer)) ≡ true → answer ≡ allocation_tree (allocation_of w n)
  current_so n e =
      let read = reading_is (get_current_allocation w n) (answer, es) (row n (codes "getCurrentAllocation") e) in
      ok_has (λ t. t ≡ allocation_tree (allocation_of w n)) (get_current_allocation w n) answer read (allocation_answer w n)

  allocated_so : (n : ℕ) → calls (name (codes "zseat") n) (codes "getAmountAllocated") (printed_call (answered o m args answer)) ≡ true
      → IsSlotRead (table_of w.rights) n (printed_trees args) (ok (printed answer)) × IfOkAnswer (IfAmount (IsOfNamedSlot (table_of w.rights) n (printed_trees args))) (ok (printed answer))
  allocated_so n e =
      let read = reading_is (get_amount_allocated w n args) (answer, es) (row n (codes "getAmountAllocated") e) in
      slot_read w i n args answer can.good (made n (codes "getAmountAllocated") e) (can.arguments 2) (ok_has (IsSlotAnswer w n args) (get_amount_allocated w n args) answer read (slot_answer w n args))

  reads_calls : IsTold w (printed_call (answered o m args answer))
  reads_calls = record {
    read = record {
      current = λ n e.
          let there = made n (codes "getCurrentAllocation") e in
          subst (λ t. IfOkAnswer (InRecord (λ keyword. IfAmount (IsOfSlot (table_of w.rights) n keyword))) (ok (printed t))) (sym (current_so n e)) (current_holds w can.good n there);
      allocated = λ n e. (allocated_so n e).1;
    };
    told = record {
      current = λ n e. subst (λ t. IsCurrentAllocation (table_of w.rights) (seats_told w) n (ok (printed t))) (sym (current_so n e)) (current_is w can.good n (made n (codes "getCurrentAllocation") e));
      allocated = λ n e. (allocated_so n e).0;
    };
  }

pub calls_read : CallsRead
calls_read w i o m args answer es counted can so = reads_calls w i o m args answer es counted can so

-- ---- purse.getCurrentAmount()

amount_answer : (w : State) (n : ℕ) → IfOk (get_current_amount w n) (λ t. t ≡ amount_tree (purse_of w n))
unfolding get_current_amount
amount_answer w n = refl

purse_read : (w : State) (n : ℕ) → IsGoodWorld w → n < length w.rights.purses
    → IsPurseAmount (table_of w.rights) n (ok (printed (amount_tree (purse_of w n)))) × IfOkAnswer (IfAmount (IsOfPurse (table_of w.rights) n)) (ok (printed (amount_tree (purse_of w n))))
purse_read w n good made =
    let a = purse_of w n in
    let amount : IsAmountOf (table_of w.rights) (Purse n) a.brand (ok (printed (amount_tree a))) =
    amount_read (table_of w.rights) (Purse n) a (all_read IsAmountValued w.rights.purses n no_amount good.valued.purses made) ((table_agrees w.rights).each (Purse n) a.brand ∙ of_brand (right_in a) a.brand refl) in
    let wide = brand_wide w a good (all_read (IsOfKind w.rights.out) w.rights.purses n no_amount good.purse_kinds made) in (
      record { brand = a.brand; amount = amount; alone = λ b not. (table_agrees w.rights).each (Purse n) b ∙ of_other (right_in a) b (λ e. not (sym e)) },
      if_answer (IsOfPurse (table_of w.rights) n) (table_of w.rights) (Purse n) a.brand (ok (printed (amount_tree a))) wide amount amount.printed,
    )

-- ---- issuer.getAmountOf(payment)

record IsPaymentAt (w : State) (brand : ℕ) (args : List Tree) (p : ℕ) : Type 0 where
  at : object_at kinds.Payment 1 args ≡ Ok p
  of : (payment_view_of w p).brand ≡ brand

payment_is : (w : State) (brand : ℕ) (args : List Tree) → IfOk (payment_at w brand 1 args) (IsPaymentAt w brand args)
unfolding payment_at
payment_is w brand args = after_step (IsPaymentAt w brand args) (object_at kinds.Payment 1 args) _ (λ p at. after_need (IsPaymentAt w brand args) ((payment_view_of w p).brand == brand) (wrong_brand (payment_view_of w p).brand) _ (λ same. record { at = at; of = eqb-true (payment_view_of w p).brand brand same }))

record IsLiveAt (w : State) (brand : ℕ) (args : List Tree) (x : LivePayment) : Type 0 where
  payment : IsPaymentAt w brand args x.number
  held : (payment_view_of w x.number).held ≡ Some x.value

live_is : (w : State) (brand : ℕ) (args : List Tree) → IfOk (live_at w brand 1 args) (IsLiveAt w brand args)
unfolding live_at
live_is w brand args =
    after_step (IsLiveAt w brand args) (payment_at w brand 1 args) _ (λ p e.
    after_wanted (IsLiveAt w brand args) (payment_view_of w p).held (dead_payment p) _ (λ v held. record { payment = ok_has (IsPaymentAt w brand args) (payment_at w brand 1 args) p e (payment_is w brand args); held = held }))

record IsPaymentAnswer (w : State) (brand : ℕ) (args : List Tree) (t : Tree) : Type 0 where
  given : LivePayment
  live : IsLiveAt w brand args given
  is : t ≡ amount_tree (amount_of brand given.value)

payment_answer : (w : State) (brand : ℕ) (args : List Tree) → IfOk (get_amount_of w brand args) (IsPaymentAnswer w brand args)
unfolding get_amount_of
payment_answer w brand args = after_step (IsPaymentAnswer w brand args) (live_at w brand 1 args) _ (λ x e. record { given = x; live = ok_has (IsLiveAt w brand args) (live_at w brand 1 args) x e (live_is w brand args); is = refl })

one_named : (args : List Tree) (o : Obj) (p : ℕ) → arg 1 args ≡ trees.object o → object_name o ≡ payment_name p
    → (more : json.Items) × (printed_trees args ≡ json.item (only (codes "@") (json.string (payment_name p))) more)
one_named [] o p first named = cc
one_named (x ∷ rest) o p first named = (printed_items (items_of rest), ap (λ y. json.item (printed y) (printed_items (items_of rest))) first ∙ ap (λ s. json.item (only (codes "@") (json.string s)) (printed_items (items_of rest))) named)

payment_read : (w : State) (brand : ℕ) (args : List Tree) (t : Tree) → IsGoodWorld w → brand < length w.brands → IsPaymentAnswer w brand args t
    → IsPaymentAmount (table_of w.rights) brand (printed_trees args) (ok (printed t)) × IfOkAnswer (IfAmount (IsOfPayment (table_of w.rights) (printed_trees args))) (ok (printed t))
payment_read w brand args t good few is =
    let p = is.given.number in
    let at = object_there kinds.Payment 1 args p is.live.payment.at in
    let one = one_named args at.obj p at.is (payment_kind at.obj.kind at.obj.number at.of ∙ ap payment_name at.number) in
    let valued : IsValued is.given.value = subst (λ o. IfSome o IsValued) is.live.held (all_read_or IsPaymentValued w.rights.payments p (spent_payment 0) good.valued.payments tt) in
    let amount : IsAmountOf (table_of w.rights) (Payment p) brand (ok (printed t)) =
    subst (λ x. IsAmountOf (table_of w.rights) (Payment p) brand (ok (printed x))) (sym is.is)
    (amount_read (table_of w.rights) (Payment p) (amount_of brand is.given.value) valued
    ((table_agrees w.rights).each (Payment p) brand ∙ of_brand (right_on (payment_view_of w p)) brand is.live.payment.of ∙ ap content_held is.live.held)) in (
      record { payment = p; more = one.0; named = one.1; amount = amount },
      if_answer (IsOfPayment (table_of w.rights) (printed_trees args)) (table_of w.rights) (Payment p) brand (ok (printed t)) (omega (arith, few, good.brands.few)) amount
          (record { payment = p; more = one.0; named = one.1; held = amount.printed }),
    )

-- ---- seat.getFinalAllocation()

record IsFinalAnswer (w : State) (n : ℕ) (t : Tree) : Type 0 where
  rows : List Share
  left : (seat_at w.seats n).last ≡ Some rows
  is : t ≡ allocation_tree rows

final_answer : (w : State) (n : ℕ) → IfOk (get_final_allocation w n) (IsFinalAnswer w n)
unfolding get_final_allocation
final_answer w n = after_wanted (IsFinalAnswer w n) (seat_at w.seats n).last pending _ (λ rows left. record { rows = rows; left = left; is = refl })

final_read : (w : State) (n : ℕ) (t : Tree) → IsGoodWorld w → LeftNamed w → n < length w.seats → IsFinalAnswer w n t → IsFinalAllocation (seats_told w) n (ok (printed t))
final_read w n t good names made is =
    let seat = seat_at w.seats n in
    let rs = slots_at w.rights.slots n in
    let last : IsLast w.rights.out seat.proposal is.rows = subst (λ o. IfSome o (IsLast w.rights.out seat.proposal)) is.left (good.proposed.each n made).last in
    record {
      seat = seat_told n seat rs;
      was_opened = seat_read 0 n w.seats w.rights.slots no_seat made good.seats.slotted ∙ ap (λ k. Some (seat_told k seat rs)) (let e : 0 + n ≡ n = omega arith in e);
      last = map slot_content is.rows;
      exited = ap (option_map (map slot_content)) is.left;
      allocation = subst (λ x. IsAllocation (map slot_name rs) (map slot_content is.rows) (ok (printed x))) (sym is.is)
          (subst (λ x. IsAllocation x (map slot_content is.rows) (ok (printed (allocation_tree is.rows)))) (sym (names.each n is.rows made is.left))
          (allocation_is w is.rows good last.apart.apart last.named last.of_kinds last.valued));
    }

-- what the exit moved from each slot
module _ (w : State) (n : ℕ) (good : IsGoodWorld w) (names : LeftNamed w) (made : n < length w.seats) (rows : List Share) (left : (seat_at w.seats n).last ≡ Some rows) where
  last_is : IsLast w.rights.out (seat_at w.seats n).proposal rows
  last_is = subst (λ o. IfSome o (IsLast w.rights.out (seat_at w.seats n).proposal)) left (good.proposed.each n made).last

  moved_is : (k : List ℕ) (b : ℕ) → moved_at_exit (seats_told w) n k b ≡ content_under k b (map slot_name rows) (map slot_content rows)
  moved_is k b =
      let rs = slots_at w.rights.slots n in
      let there = seat_read 0 n w.seats w.rights.slots no_seat made good.seats.slotted ∙ ap (λ m. Some (seat_told m (seat_at w.seats n) rs)) (let e : 0 + n ≡ n = omega arith in e) in
      ap (λ o. option_map_or (λ (s : told.Seat). option_map_or (content_under k b s.slots) s.last nothing) o nothing) there
      ∙ ap (λ l. option_map_or (content_under k b (map slot_name rs)) (option_map (map slot_content) l) nothing) left
      ∙ ap (λ ss. content_under k b ss (map slot_content rows)) (names.each n rows made left)

  all_moved : (qs : List Share) → AllByRecursion (λ (r : Share). content_under r.keyword r.amount.brand (map slot_name rows) (map slot_content rows) ≡ slot_content r) qs
      → AllByRecursion (λ (r : Share). moved_at_exit (seats_told w) n r.keyword r.amount.brand ≡ slot_content r) qs
  all_moved [] all = tt
  all_moved (q ∷ qs) all = (moved_is q.keyword q.amount.brand ∙ all.0, all_moved qs all.1)

  final_holds : IfOkAnswer (InRecord (λ keyword. IfAmount (IsOfExit (seats_told w) n keyword))) (ok (printed (allocation_tree rows)))
  final_holds =
      allocation_holds (IsOfExit (seats_told w) n) w rows good last_is.apart.apart last_is.named last_is.of_kinds last_is.valued
      (all_printed_as (λ r. moved_at_exit (seats_told w) n r.keyword r.amount.brand) rows last_is.valued (all_moved rows (contents_found rows last_is.apart.apart)))

-- ---- turns in which methods of the host's own objects are called

module _ (read : TextReader) (w : State) (o : Obj) (m : List ℕ) (args : List Tree) (answer : Tree) (es : List Effect) (t : Turn) (steady : IsSteady w) (can : CanCall w None o args) (so : service read w o m args ≡ Ok (answer, es)) (turned : IsAnsweredTurn o m args answer t) where
  by_kind : methods.of_kind read w o.kind o.number m args ≡ Ok (answer, es)
  unfolding methods.serve
  by_kind = so

  -- the tests of a turn that is answered
  tested : (on method : List ℕ) → serves on method t ≡ true → (bytes_eq (object_name o) on && bytes_eq m method) ≡ true
  tested on method e = sym (λ i. is_ok (turned.answered i) && bytes_eq (turned.on i) on && bytes_eq (turned.method i) method) ∙ e

  module _ (n : ℕ) (word method : List ℕ) (e : serves (name word n) method t ≡ true) where
    on_name : bytes_eq (object_name o) (name word n) ≡ true
    on_name = and_first (bytes_eq (object_name o) (name word n)) (bytes_eq m method) (tested (name word n) method e)

    of_its_method : m ≡ method
    of_its_method = (bytes_eq-Decides m method).0 (and_second (bytes_eq (object_name o) (name word n)) (bytes_eq m method) (tested (name word n) method e))

    its_row : (kind : ObjKind) → o ≡ object kind n → methods.of_kind read w kind n method args ≡ Ok (answer, es)
    its_row kind here = sym (ap (λ (x : Obj). methods.of_kind read w x.kind x.number m args) here ∙ ap (λ x. methods.of_kind read w kind n x args) of_its_method) ∙ by_kind

  target_made : (kind : ObjKind) (n : ℕ) → o ≡ object kind n → made_as w kind n
  target_made kind n here = subst (λ (x : Obj). made_as w x.kind x.number) here can.target

  made_of_kind : (kind : ObjKind) → o.kind ≡ kind → made_as w kind o.number
  made_of_kind kind e = subst (λ x. made_as w x o.number) e can.target

  purse_so : (n : ℕ) → serves (name (codes "purse") n) (codes "getCurrentAmount") t ≡ true
      → IsPurseAmount (table_of w.rights) n t.answer × IfOkAnswer (IfAmount (IsOfPurse (table_of w.rights) n)) t.answer
  purse_so n e =
      let here = purse_is n o (λ k. let made : o.number < length w.rights.purses = made_of_kind kinds.Purse k in omega (arith, made, steady.counted.purses)) (on_name n (codes "purse") (codes "getCurrentAmount") e) in
      let got = reading_is (get_current_amount w n) (answer, es) (its_row n (codes "purse") (codes "getCurrentAmount") e kinds.Purse here) in
      let is = ok_has (λ x. x ≡ amount_tree (purse_of w n)) (get_current_amount w n) answer got (amount_answer w n) in
      let P : rows.Answer → Type 0 = λ a. IsPurseAmount (table_of w.rights) n a × IfOkAnswer (IfAmount (IsOfPurse (table_of w.rights) n)) a in
      subst P (sym turned.answered) (subst (λ x. P (ok (printed x))) (sym is) (purse_read w n can.good (target_made kinds.Purse n here)))

  payment_so : (b : ℕ) → serves (name (codes "issuer") b) (codes "getAmountOf") t ≡ true
      → IsPaymentAmount (table_of w.rights) b t.arguments t.answer × IfOkAnswer (IfAmount (IsOfPayment (table_of w.rights) t.arguments)) t.answer
  payment_so b e =
      let here = issuer_is b o (λ k. let made : o.number < length w.brands = made_of_kind kinds.Issuer k in omega (arith, made, can.good.brands.few)) (on_name b (codes "issuer") (codes "getAmountOf") e) in
      let got = reading_is (get_amount_of w b args) (answer, es) (its_row b (codes "issuer") (codes "getAmountOf") e kinds.Issuer here) in
      let is = ok_has (IsPaymentAnswer w b args) (get_amount_of w b args) answer got (payment_answer w b args) in
      let P : json.Items → rows.Answer → Type 0 = λ xs a. IsPaymentAmount (table_of w.rights) b xs a × IfOkAnswer (IfAmount (IsOfPayment (table_of w.rights) xs)) a in
      subst (P t.arguments) (sym turned.answered) (subst (λ x. P x (ok (printed answer))) (sym turned.arguments) (payment_read w b args answer can.good (target_made kinds.Issuer b here) is))

  final_so : (n : ℕ) → serves (name (codes "seat") n) (codes "getFinalAllocation") t ≡ true
      → IsFinalAllocation (seats_told w) n t.answer × IfOkAnswer (InRecord (λ keyword. IfAmount (IsOfExit (seats_told w) n keyword))) t.answer
  final_so n e =
      let here = seat_is n o (λ k. let made : o.number < length w.seats = made_of_kind kinds.Seat k in omega (arith, made, steady.counted.seats)) (on_name n (codes "seat") (codes "getFinalAllocation") e) in
      let got = reading_is (get_final_allocation w n) (answer, es) (its_row n (codes "seat") (codes "getFinalAllocation") e kinds.Seat here) in
      let is = ok_has (IsFinalAnswer w n) (get_final_allocation w n) answer got (final_answer w n) in
      let made = target_made kinds.Seat n here in
      let P : rows.Answer → Type 0 = λ a. IfOkAnswer (InRecord (λ keyword. IfAmount (IsOfExit (seats_told w) n keyword))) a in (
        subst (IsFinalAllocation (seats_told w) n) (sym turned.answered) (final_read w n answer can.good steady.left made is),
        subst P (sym turned.answered) (subst (λ x. P (ok (printed x))) (sym is.is) (final_holds w n can.good steady.left made is.rows is.left)),
      )

  reads_turn : IsTurnTold w t
  reads_turn = record {
    read = record { purse = λ n kind e. (purse_so n e).1; payment = λ b kind e. (payment_so b e).1; final = λ n kind e. (final_so n e).1 };
    told = record { purse = λ n kind e. (purse_so n e).0; payment = λ b kind e. (payment_so b e).0; final = λ n kind e. (final_so n e).0 };
  }

pub services_read : (read : TextReader) → ServicesRead read
services_read read w o m args answer es t steady can so turned = reads_turn read w o m args answer es t steady can so turned
