-- Names, data and answers are printed in form, and so is what is delivered.
use Rattle.std.proofs.Common.{◌≡◌, ◌<◌, ◌^◌, ◌==◌, ℕ, pos, List, [], ◌∷◌, Bool, true, false, nat_lt, length, codes, Option, Some, None, inl, inr, refl, sym, subst, arith}
use Rattle.std.specs.List.{starts_with}
use Rattle.std.specs.Str.{IsUtf8}
use Rattle.serde_json.specs.Data as json
use Rattle.turn_records.proofs.Form.{data_is}
use Rattle.turn_records.specs.Names.{object_name}
use Rattle.turn_records.specs.PrintedData.{printed_number}
use Rattle.turn_records.specs.PrintedData as data_rows
use Rattle.refusals.specs.host_data.Tree.{Tree}
use Rattle.refusals.specs.host_data.Tree as tree
use Rattle.refusals.specs.host_data.declared.data.Obj.{Obj}
use Rattle.refusals.specs.host_data.declared.data.ObjKind.{ObjKind}
use Rattle.refusals.specs.host_data.declared.data.ObjKind.TheVariants.{Facet, Instance, Promise, Seat, Timer, Zseat}
use Rattle.promise_store.specs.States.{SettlementView, broken, ok}
use Rattle.refusals.specs.Codes.{bare_name, code_of, number_name, shown_by, shown_trees, text_name}
use Rattle.refusals.specs.declared.codes.BareCode.{BareCode}
use Rattle.refusals.specs.declared.codes.BareCode.TheVariants.{BadLine}
use Rattle.refusals.specs.declared.codes.NumberCode.{NumberCode}
use Rattle.refusals.specs.declared.codes.NumberCode.TheVariants.{BadArgs}
use Rattle.refusals.specs.declared.codes.Refusal.{Refusal}
use Rattle.refusals.specs.declared.codes.Refusal.TheVariants.{Bare, Numbered, Worded, Overlap, NotEnough, TooMuch, WrongAmount, NotConserved, Backwards, TextRefused}
use Rattle.refusals.specs.declared.codes.TextCode.{TextCode}
use Rattle.refusals.specs.declared.codes.TextCode.TheVariants.{BadField}
use Rattle.turn_rows.specs.Form.{AreData, HasAnswerForm, HasCallForm, HasSettlementForm, IsAnyData, IsCalled, IsCaller, IsData, IsDelivered, IsNotice, IsNumbered, IsObjectName, IsOneItem, IsOneOf, IsTime, AreTwoItems, objects_end, refusal_codes, times_end}
use Rattle.turn_rows.specs.Kinds as kinds
use Rattle.turn_rows.specs.Kinds.{How}
use Rattle.turn_records.specs.Deliveries.{Delivery, call, give, tick, bad, send, start, offer, wake, notify, deadline, IsReadFor, Reading, nothing, target, gift, time, settlement}
use Rattle.turn_records.specs.Events.{Answer, given, refused, threw, spent, Call}
use Rattle.turn_records.specs.Printed.{by_of, called_on, kind_of, kind_on, method_of, named, notice_tree, object, on_of, printed_answer, printed_call, printed_settlement, printed_trees, trees_of}
use Rattle.turn_records.specs.Tellable.{ArePrintable, IsAsked, IsNumberedObject, IsTellableAnswer, IsTellableCall, IsTellableDelivery, IsTellableReading, IsTellableSettlement, IsTold}

-- ---- names

named_is : (name : List ℕ) → IsData (json.object (json.member (codes "@") (json.string name) json.no_members)) → IsObjectName name
named_is name (inl (inl (mark, is))) = is
named_is name (inl (inr (inl (mark, is)))) = absurd (unlike mark) where
  unlike : codes "@" ≡ codes "=>" → ⊥
  unlike e = grind (arith, e)
named_is name (inl (inr (inr (mark, is)))) = absurd (unlike mark) where
  unlike : codes "@" ≡ codes "#" → ⊥
  unlike e = grind (arith, e)
named_is name (inr (fields, sorted)) = absurd (unlike fields.0) where
  unlike : false ≡ true → ⊥
  unlike e = grind (arith, e)

object_is : (o : Obj) → IsNumberedObject o → IsObjectName (object_name o)
object_is o h = named_is (object_name o) (data_is 0 (tree.object o) h)

instance_is : (n : ℕ) → n < objects_end → IsNumbered (codes "instance") objects_end (named Instance n)
unfolding object_name
instance_is n h = record { number = n; below = h; is = refl }

facet_is : (n : ℕ) → n < objects_end → IsNumbered (codes "facet") objects_end (named Facet n)
unfolding object_name
facet_is n h = record { number = n; below = h; is = refl }

zseat_is : (n : ℕ) → n < objects_end → IsNumbered (codes "zseat") objects_end (named Zseat n)
unfolding object_name
zseat_is n h = record { number = n; below = h; is = refl }

seat_is : (n : ℕ) → n < objects_end → IsNumbered (codes "seat") objects_end (named Seat n)
unfolding object_name
seat_is n h = record { number = n; below = h; is = refl }

promise_is : (n : ℕ) → n < objects_end → IsNumbered (codes "promise") objects_end (named Promise n)
unfolding object_name
promise_is n h = record { number = n; below = h; is = refl }

timer_is : named Timer 0 ≡ codes "timer"
unfolding object_name
timer_is = refl

-- ---- data and answers

pub data_are : (ts : List Tree) → ArePrintable ts → AreData (printed_trees ts)
data_are [] h = tt
data_are (t ∷ ts) h = (data_is 0 t h.0, data_are ts h.1)

bare_is : (c : BareCode) → IsOneOf refusal_codes (bare_name c)
bare_is BadLine = refl
bare_is _ = refl

number_is : (c : NumberCode) → IsOneOf refusal_codes (number_name c)
number_is BadArgs = refl
number_is _ = refl

text_is : (c : TextCode) → IsOneOf refusal_codes (text_name c)
text_is BadField = refl
text_is _ = refl

code_is : (r : Refusal) → IsOneOf refusal_codes (code_of r)
code_is (Bare code) = bare_is code
code_is (Numbered code n) = number_is code
code_is (Worded code t) = text_is code
code_is (Overlap key) = refl
code_is (NotEnough short) = refl
code_is (TooMuch sum bound) = refl
code_is (WrongAmount values) = refl
code_is (NotConserved unkept) = refl
code_is (Backwards now earlier) = refl
code_is (TextRefused place reason) = refl

pub answer_is : (a : Answer) → IsTellableAnswer a → HasAnswerForm (printed_answer a)
answer_is (given t) h = data_is 0 t h
answer_is (refused r) h = (code_is r, data_are (shown_trees (shown_by r)) h)
answer_is (threw t) h = data_is 0 t h
answer_is (spent meter) h = h

pub settlement_is : (s : SettlementView) → IsTellableSettlement s → HasSettlementForm (printed_settlement s)
settlement_is (ok t) h = data_is 0 t h
settlement_is (broken t) h = data_is 0 t h

-- ---- what is delivered

time_is : (n : ℕ) (b : Bool) → nat_lt n (2 ^ 63) ≡ b → n < times_end → IsTime (printed_number (pos n))
time_is n true low h = rw low h
time_is n false low h = absurd (grind arith)

notice_is : (s : SettlementView) → IsNotice (data_rows.printed (notice_tree s))
notice_is (ok t) = (refl, refl)
notice_is (broken t) = (refl, refl)

-- of the kinds of objects a facet's name alone begins with that word
named_apart : (kind : ObjKind) (n : ℕ) → kind_on kind ≡ kinds.service → starts_with (λ a b. a == b) (named kind n) (codes "facet") ≡ false
unfolding object_name
named_apart Facet n e = cc
named_apart kind n e = refl

call_is : (by : List ℕ) (kind : ObjKind) (n : ℕ) (method : List ℕ) (args : json.Items) → IsCaller by → IsNumberedObject (object kind n) → IsUtf8 method
    → IsDelivered (kind_on kind) by (named kind n) method args
call_is by Facet n method args caller h text = (caller, facet_is n h, text)
call_is by kind n method args caller h text = (caller, (object_is (object kind n) h, named_apart kind n refl), text)

pub delivered_is : (d : Delivery) (r : Reading) → IsReadFor d r → IsTellableDelivery d → IsTellableReading r
    → IsDelivered (kind_of d r) (by_of d) (on_of d r) (method_of d) (printed_trees (trees_of d r))
delivered_is (call c) nothing read h k = (inl h.0, refl, h.1, refl)
delivered_is (call c) (target o args) read h k = call_is c.by o.kind o.number c.method (printed_trees args) (inl h.0) k h.1
delivered_is (call c) _ read h k = absurd read
delivered_is (send s) nothing read h k = (inr (instance_is s.instance h.0), refl, h.1, refl)
delivered_is (send s) (target o args) read h k = call_is (named Instance s.instance) o.kind o.number s.method (printed_trees args) (inr (instance_is s.instance h.0)) k h.1
delivered_is (send s) _ read h k = absurd read
delivered_is (give g) nothing read h k = (inl h.0, refl, h.3, refl)
delivered_is (give g) (gift t) read h k = (h.0, h.1, h.2, tt)
delivered_is (give g) _ read h k = absurd read
delivered_is (tick t) nothing read h k = (refl, timer_is, refl, time_is t (nat_lt t (2 ^ 63)) refl h)
delivered_is (tick t) _ read h k = absurd read
delivered_is (bad refusal) nothing read h k = (refl, refl, refl, refl)
delivered_is (bad refusal) _ read h k = absurd read
delivered_is (start s) nothing read h k = (instance_is s.instance h, refl, refl, refl)
delivered_is (start s) _ read h k = absurd read
delivered_is (offer o) nothing read h k = (instance_is o.instance h.0, zseat_is o.seat h.1, h.2, tt)
delivered_is (offer o) _ read h k = absurd read
delivered_is (wake w) (time t) read h k = (instance_is w.instance h.0, timer_is, h.1, time_is t (nat_lt t (2 ^ 63)) refl k)
delivered_is (wake w) _ read h k = absurd read
delivered_is (notify n) (settlement s) read h k = (instance_is n.instance h.0, promise_is n.promise h.1, h.2, notice_is s)
delivered_is (notify n) _ read h k = absurd read
delivered_is (deadline seat) nothing read h k = (refl, seat_is seat h, refl, refl)
delivered_is (deadline seat) _ read h k = absurd read

-- ---- calls of contracts

one_item : (ts : List Tree) → length ts ≡ 1 → IsOneItem IsAnyData (printed_trees ts)
one_item [] one = absurd (omega (arith, one))
one_item (t ∷ []) one = tt
one_item (t ∷ u ∷ ts) one = absurd (omega (arith, one))

two_items : (ts : List Tree) → length ts ≡ 2 → AreTwoItems (printed_trees ts)
two_items [] two = absurd (omega (arith, two))
two_items (t ∷ []) two = absurd (omega (arith, two))
two_items (t ∷ u ∷ []) two = tt
two_items (t ∷ u ∷ v ∷ ts) two = absurd (omega (arith, two))

IsOnPromise : Option Obj → Type 0
IsOnPromise on = IsNumbered (codes "promise") objects_end (called_on on)

asked_is : (on : Option Obj) (f : List ℕ) (ts : List Tree) → IsAsked on f ts → IsCalled kinds.when (called_on on) f (printed_trees ts)
unfolding IsOnPromise
asked_is on f ts h = (subst IsOnPromise (sym h.is) (promise_is h.promise h.below), h.named, one_item ts h.one)

told_is : (how : How) (on : Option Obj) (method : List ℕ) (ts : List Tree) → IsTold how on method ts → IsCalled how (called_on on) method (printed_trees ts)
told_is kinds.calls (Some o) method ts h = (object_is o h.0, h.1)
told_is kinds.calls None method ts h = absurd h.0
told_is kinds.sends (Some o) method ts h = (object_is o h.0, h.1)
told_is kinds.sends None method ts h = absurd h.0
told_is kinds.when on method ts h = asked_is on method ts h
told_is kinds.far on method ts h = (rw h.none refl, h.text, two_items ts h.two)

pub call_form : (c : Call) → IsTellableCall c → HasCallForm (printed_call c)
call_form c h = record { is_called = told_is c.how c.on c.method c.arguments h.called; arguments = data_are c.arguments h.arguments; answered = h.answered; answer = answer_is c.answer h.answer }
