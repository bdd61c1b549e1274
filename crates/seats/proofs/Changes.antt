-- What a change of one slot leaves of a seat, and that what works a call backwards leaves the seat as it was.
use Rattle.std.proofs.Common.{◌≡◌, ℕ, ◌<◌, ◌≤◌, List, [], ◌∷◌, ◌++◌, length, get_or, set, cond, Result, Ok, Err, OnOk, IfErr, IfOk, refl, sym, ◌∙◌, ap, subst, arith}
use Rattle.std.proofs.lemmas.Bool.{le-ltb, lt-ltb}
use Rattle.std.proofs.lemmas.List.{get_or-set_same, set-get_or, set-set}
use Rattle.ertp_mint.specs.amount_math.Amount.{Meet, holding}
use Rattle.ertp_mint.specs.amount_math.Content.{Content, nothing, sum, sum-comm, sum-nothing}
use Rattle.ertp_mint.specs.amount_math.ValueView.{IsValue}
use Rattle.ertp_mint.specs.amount_math.declared.Amount.{Amount}
use Rattle.ertp_mint.specs.amount_math.declared.Kind.{Kind}
use Rattle.proposals.specs.Shares.{AreShares, content_under}
use Rattle.seats.proofs.Places.{IsFound, content_none, content_there, found, place-set, slot-further, stored-further}
use Rattle.ertp_mint.specs.Stocks.{empty_amount}
use Rattle.ertp_mint.specs.Balances.{ComesOut, BalanceView, empty_store, with_put}
use Rattle.seats.specs.Seats.{SeatView, put_in, stored_in, with_further, with_more, with_room, with_slot, with_stored}
use Rattle.seats.specs.Slots.{HasSlot, SlotView, no_slot, place_of, shares_in, slot_at, slot_of, stored_at}

-- ---- something else stored under a keyword

module _ (keyword : List ℕ) (seat : SeatView) where
  slots_with : BalanceView → List SlotView
  slots_with x = stored_at (place_of keyword seat.slots) x seat.slots

  place-stored : (x : BalanceView) → place_of keyword (stored_at (place_of keyword seat.slots) x seat.slots) ≡ place_of keyword seat.slots
  place-stored x = place-set keyword seat.slots (place_of keyword seat.slots) no_slot x

  slot-stored : (x : BalanceView) → HasSlot keyword seat.slots → slot_at (stored_at (place_of keyword seat.slots) x seat.slots) (place_of keyword (stored_at (place_of keyword seat.slots) x seat.slots)) ≡ slot_of (slot_at seat.slots (place_of keyword seat.slots)).keyword x
  slot-stored x there =
      ap (slot_at (stored_at (place_of keyword seat.slots) x seat.slots)) (place-stored x)
      ∙ get_or-set_same seat.slots (place_of keyword seat.slots) (slot_of (slot_at seat.slots (place_of keyword seat.slots)).keyword x) no_slot there

  pub stored_in-with : (x : BalanceView) → HasSlot keyword seat.slots → stored_in keyword (with_stored keyword x seat) ≡ x
  stored_in-with x there = ap (λ (s : SlotView). s.stored) (slot-stored x there)

  pub with-with : (x y : BalanceView) → HasSlot keyword seat.slots → with_stored keyword y (with_stored keyword x seat) ≡ with_stored keyword y seat
  with-with x y there =
      let once = stored_at (place_of keyword seat.slots) x seat.slots in
      let slots : stored_at (place_of keyword once) y once ≡ stored_at (place_of keyword seat.slots) y seat.slots =
      ap (λ (s : SlotView). set once (place_of keyword once) (slot_of s.keyword y)) (slot-stored x there)
      ∙ ap (λ (n : ℕ). set once n (slot_of (slot_at seat.slots (place_of keyword seat.slots)).keyword y)) (place-stored x)
      ∙ set-set seat.slots (place_of keyword seat.slots) _ _ in
      ap (λ (xs : List SlotView). record seat { slots = xs }) slots

  pub with-same : with_stored keyword (stored_in keyword seat) seat ≡ seat
  with-same = ap (λ (xs : List SlotView). record seat { slots = xs }) (set-get_or seat.slots (place_of keyword seat.slots) no_slot)

  pub with_room-same : (x : BalanceView) → HasSlot keyword seat.slots → x.amount ≡ (stored_in keyword seat).amount → with_stored keyword x seat ≡ with_room keyword (stored_in keyword (with_stored keyword x seat)).room seat
  with_room-same x there same =
      ap (λ (a : Amount). with_stored keyword (record { amount = a; room = x.room }) seat) same
      ∙ ap (λ (s : BalanceView). with_room keyword s.room seat) (sym (stored_in-with x there))

  -- ---- a put

  with_slot-there : (a : Amount) → HasSlot keyword seat.slots → with_slot keyword a seat ≡ seat
  with_slot-there a there = ap (λ t. record seat { slots = cond t seat.slots (with_further keyword a seat).slots }) (lt-ltb (place_of keyword seat.slots) (length seat.slots) there)

  pub put_in-there : (a : Amount) (x : BalanceView) → HasSlot keyword seat.slots → x.amount ≡ holding (stored_in keyword seat).amount (sum (stored_in keyword seat).amount.value.content a.value.content)
      → with_stored keyword x seat ≡ put_in keyword a (stored_in keyword (with_stored keyword x seat)).room seat
  put_in-there a x there same =
      let more = with_put (stored_in keyword seat) a.value.content in
      let put : with_stored keyword x seat ≡ with_room keyword x.room (with_more keyword a.value.content seat) =
      ap (λ (b : Amount). with_stored keyword (record { amount = b; room = x.room }) seat) same
      ∙ sym (with-with more (record more { room = x.room }) there)
      ∙ ap (λ (s : BalanceView). with_stored keyword (record s { room = x.room }) (with_more keyword a.value.content seat)) (sym (stored_in-with more there)) in
      put
      ∙ ap (λ (s : BalanceView). with_room keyword s.room (with_more keyword a.value.content seat)) (sym (stored_in-with x there))
      ∙ ap (λ (s : SeatView). with_room keyword (stored_in keyword (with_stored keyword x seat)).room (with_more keyword a.value.content s)) (sym (with_slot-there a there))

  -- ---- a further slot

  abbrev pub further : BalanceView → SeatView
  further x = record seat { slots = seat.slots ++ slot_of keyword x ∷ [] }

  pub stored_in-further : (x : BalanceView) → length seat.slots ≤ place_of keyword seat.slots → stored_in keyword (further x) ≡ x
  stored_in-further x past = ap (λ (s : SlotView). s.stored) (slot-further keyword seat.slots x past)

  with-further : (x y : BalanceView) → length seat.slots ≤ place_of keyword seat.slots → with_stored keyword y (further x) ≡ further y
  with-further x y past = ap (λ (xs : List SlotView). record seat { slots = xs }) (stored-further keyword seat.slots x y past)

-- what is put in an empty store is all that it has then
put_first : (a : Amount) → holding (empty_amount a.brand a.value.kind) (sum nothing a.value.content) ≡ a
put_first a = ap (λ (c : Content). record { brand = a.brand; value = record { kind = a.value.kind; content = c } }) (sum-comm nothing a.value.content ∙ sum-nothing a.value.content)

module _ (keyword : List ℕ) (seat : SeatView) where
  with_slot-further : (a : Amount) → length seat.slots ≤ place_of keyword seat.slots → with_slot keyword a seat ≡ with_further keyword a seat
  with_slot-further a past = ap (λ t. record seat { slots = cond t seat.slots (with_further keyword a seat).slots }) (le-ltb (place_of keyword seat.slots) (length seat.slots) past)

  pub put_in-further : (x : BalanceView) → length seat.slots ≤ place_of keyword seat.slots → further keyword seat x ≡ put_in keyword x.amount x.room seat
  put_in-further x past =
      let none = empty_store x.amount.brand x.amount.value.kind in
      let more = with_put none x.amount.value.content in
      let put : with_more keyword x.amount.value.content (further keyword seat none) ≡ further keyword seat more =
      ap (λ (s : BalanceView). with_stored keyword (with_put s x.amount.value.content) (further keyword seat none)) (stored_in-further keyword seat none past)
      ∙ with-further keyword seat none more past in
      let roomed : with_room keyword x.room (further keyword seat more) ≡ further keyword seat (record more { room = x.room }) =
      ap (λ (s : BalanceView). with_stored keyword (record s { room = x.room }) (further keyword seat more)) (stored_in-further keyword seat more past)
      ∙ with-further keyword seat more (record more { room = x.room }) past in
      sym (
      ap (λ (s : SeatView). with_room keyword x.room (with_more keyword x.amount.value.content s)) (with_slot-further x.amount past)
      ∙ ap (with_room keyword x.room) put
      ∙ roomed
      ∙ ap (λ (a : Amount). further keyword seat (record { amount = a; room = x.room })) (put_first x.amount)
      )

-- ---- a call that changed what is stored in the slot of a keyword

pub record IsChanged (keyword : List ℕ) (seat old : SeatView) (n : ℕ) (s : SlotView) : Type 0 where
  pub there : HasSlot keyword old.slots
  pub was : stored_in keyword old ≡ s.stored
  pub new : (x : BalanceView) → record seat { slots = set seat.slots n (slot_of s.keyword x) } ≡ with_stored keyword x old
  pub now : (x : BalanceView) → stored_in keyword (record seat { slots = set seat.slots n (slot_of s.keyword x) }) ≡ x
  pub keeps : AreShares (shares_in seat.slots) → (x : BalanceView) → AreShares (shares_in (set seat.slots n (slot_of s.keyword x)))

changed_at : (keyword : List ℕ) (seat : SeatView) (n : ℕ) (s : SlotView) → IsFound keyword seat.slots n s → IsChanged keyword seat seat n s
changed_at keyword seat n s found =
    let new : (x : BalanceView) → record seat { slots = set seat.slots n (slot_of s.keyword x) } ≡ with_stored keyword x seat = λ x. ap (λ (xs : List SlotView). record seat { slots = xs }) (found.with x) in
    record {
      there = found.there;
      was = found.stored;
      new = new;
      now = λ x. ap (stored_in keyword) (new x) ∙ stored_in-with keyword seat x found.there;
      keeps = found.keeps;
    }

pub changed : (keyword : List ℕ) (seat old : SeatView) (n : ℕ) (s r : SlotView) → seat ≡ old → n ≡ place_of keyword seat.slots → n < length seat.slots → s ≡ r → r ≡ get_or seat.slots n r → IsChanged keyword seat old n s
changed keyword seat old n s r same place within slot is = subst (λ (o : SeatView). IsChanged keyword seat o n s) same (changed_at keyword seat n s (found keyword seat.slots n s r place within slot is))

-- ---- what a put would make of what is under a keyword

-- what is said of the store there, by its kind and what it would have, is said by the parcel's kind and by shares
pub said_under : (keyword : List ℕ) (old : SeatView) (held : BalanceView) (parcel : Amount) → HasSlot keyword old.slots → stored_in keyword old ≡ held → (HasSlot keyword old.slots → Meet (stored_in keyword old).amount parcel)
    → (P : Kind → Content → Type 0) → P held.amount.value.kind (sum held.amount.value.content parcel.value.content) → P parcel.value.kind (sum (content_under keyword (shares_in old.slots)) parcel.value.content)
said_under keyword old held parcel there was meet P h =
    let content : content_under keyword (shares_in old.slots) ≡ held.amount.value.content = content_there keyword old.slots there ∙ ap (λ (s : BalanceView). s.amount.value.content) was in
    let kind : parcel.value.kind ≡ held.amount.value.kind = sym (meet there).kind ∙ ap (λ (s : BalanceView). s.amount.value.kind) was in
    subst (λ (k : Kind). P k (sum (content_under keyword (shares_in old.slots)) parcel.value.content)) (sym kind) (subst (λ (d : Content). P held.amount.value.kind (sum d parcel.value.content)) (sym content) h)

pub value_further : (keyword : List ℕ) (old : SeatView) (kind : Kind) (c : Content) → length old.slots ≤ place_of keyword old.slots → IsValue kind c → IsValue kind (sum (content_under keyword (shares_in old.slots)) c)
value_further keyword old kind c past value =
    subst (IsValue kind) (sym (ap (λ (d : Content). sum d c) (content_none keyword old.slots past) ∙ sum-comm nothing c ∙ sum-nothing c)) value

-- what is there comes out
pub out_of_all : (x : BalanceView) (a : Amount) → x.amount ≡ a → ComesOut x a.value
out_of_all x a same = subst (λ (b : Amount). ComesOut x b.value) same (record { kind = refl; has = record { each = λ k. omega arith } })

-- ---- what holds where a call went well, or failed

pub on_ok : {T E : Type 0} (r : Result T E) {P Q : Type 0} → (P → Q) → OnOk r P → OnOk r Q
on_ok (Ok x) f h = f h
on_ok (Err e) f h = h

pub if_err : {T E : Type 0} (r : Result T E) (P Q : E → Type 0) → ((e : E) → P e → Q e) → IfErr r P → IfErr r Q
if_err (Ok x) P Q f h = h
if_err (Err e) P Q f h = f e h

pub if_ok : {T E : Type 0} (r : Result T E) (P Q : T → Type 0) → ((x : T) → P x → Q x) → IfOk r P → IfOk r Q
if_ok (Ok x) P Q f h = f x h
if_ok (Err e) P Q f h = h
