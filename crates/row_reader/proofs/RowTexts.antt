-- A row in form is JSON that is read back from its text.
use Rattle.std.proofs.Common.{◌≡◌, ◌<◌, ◌≤◌, ◌^◌, ◌-◌, ◌==◌, ◌⊎◌, inl, inr, ◌&&◌, ◌||◌, ℕ, suc, pos, negsuc, ℤ, Bool, true, false, not, List, [], ◌∷◌, ◌++◌, map, nat_lt, Some, IsUtf8, refl, sym, ap, subst, ◌∙◌, arith}
use Rattle.std.proofs.lemmas.Bool.{and_parts}
use Rattle.std.proofs.lemmas.Fmt.{IsAscii-decimal_wide}
use Rattle.std.proofs.lemmas.Slice.Eq.{bytes_eq-Decides}
use Rattle.std.proofs.lemmas.Str.{IsUtf8-append, IsUtf8-from_ascii, IsUtf8-nil}
use Rattle.std.specs.Char.{is_ascii_lowercase}
use Rattle.std.specs.Fmt.{decimal, signed_decimal}
use Rattle.std.specs.List.{AllByRecursion, list_all, list_any, starts_with}
use Rattle.std.specs.List.Sorted.{IsStrictlySortedBy}
use Rattle.std.specs.Ordering.{is_lt}
use Rattle.std.specs.Prelude.{codes}
use Rattle.std.specs.Str.{bytes_eq}
use Rattle.std.specs.declared.cmp.Ordering.{Ordering}
use Rattle.std.specs.declared.cmp.Ordering.TheVariants.{Equal, Greater, Less}
use Rattle.json.proofs.Printed.Utf8.{IsUtf8-are_ascii, are_ascii}
use Rattle.host_text.proofs.Ascii.{IsAscii-is_word, IsUtf8-is_keyword, IsUtf8-is_label}
use Rattle.host_text.specs.Words.{is_field_name, is_keyword, is_label, is_name_start}
use Rattle.serde_json.specs.Data as json
use Rattle.serde_json.specs.Data.{depth}
use Rattle.serde_json.specs.Read.{max_depth, read}
use Rattle.serde_json.specs.Written.{compact_text, has_float}
use Rattle.journal_rows.specs.Row.{HasRowForm, IsTurnRow, MayBeRow, Row, close, event, row_json, row_line, sum, turn, version}
use Rattle.turn_rows.proofs.Ranges.{IsPlainNumber}
use Rattle.turn_rows.specs.Causes as causes
use Rattle.turn_rows.specs.Causes.{Cause, cause_word}
use Rattle.turn_rows.specs.Form.{AreAmounts, AreData, AreFields, HasAmountForm, HasAnswerForm, HasCallForm, HasElementForm, HasEventForm, HasExitForm, HasExitRuleForm, HasHolderForm, HasOpeningForm, HasSettlementForm, HasSumForm, HasValueForm, IsCaller, IsCalled, IsData, IsDelivered, IsFunctionName, IsMark, IsNumbered, IsNumberedBy, IsObjectName, IsOneOf, IsParty, IsSmallNumber, IsWideNumber, IsWideText, brand_words, brands_end, names_of, object_words, objects_end, refusal_codes, single_names}
use Rattle.turn_rows.specs.Kinds as kinds
use Rattle.turn_rows.specs.Kinds.{How, Kind, how_word, kind_word}
use Rattle.turn_rows.specs.Rows.{amounts_json, answer_json, brand_name, elements_json, event_row, exit_rule_json, holder_name, instance_name, number_json, only, payment_name, payouts_json, settlement_json, sum_row, turn_row, value_json, whole}
use Rattle.turn_rows.specs.Texts.{row_text}
use Rattle.turn_rows.specs.Turns.{Answer, Call, Element, Event, ExitRule, KeywordAmount, Payout, Settlement, Turn, Value, after_deadline, broken, called, counted, elements, exited, fulfilled, key, moved, number, ok, on_demand, opened, refused, settled, spent, threw, waived}
use Rattle.turn_rows.specs.amount_math.Content.{key_cmp}
use Rattle.turn_rows.specs.declared.editions.Edition.{Edition}
use Rattle.turn_rows.specs.declared.editions.Edition.TheVariants.{First, Second}
use Rattle.turn_rows.specs.rights_model.declared.Holder.{Holder}
use Rattle.turn_rows.specs.rights_model.declared.Holder.TheVariants as holders
use Rattle.turn_rows.specs.rights_model.declared.Sum.{Sum}
use Rattle.row_reader.proofs.AmountLists.{keywords_are, payout_names}
use Rattle.row_reader.proofs.Whole.{AreWhole, AreWholeMembers, IsWhole, no_floats, read_whole, text_utf8}

-- ---- texts

literal : (s t : List ℕ) → s ≡ t → are_ascii t ≡ true → IsUtf8 s
literal s t is ascii = subst IsUtf8 (sym is) (IsUtf8-are_ascii t ascii)

known_here : (b more : Bool) (s t : List ℕ) → bytes_eq s t ≡ b → (b || more) ≡ true → are_ascii t ≡ true → (more ≡ true → IsUtf8 s) → IsUtf8 s
known_here true more s t is any ascii rest = literal s t ((bytes_eq-Decides s t).0 is) ascii
known_here false more s t is any ascii rest = rest any

one_of_utf8 : (ts : List (List ℕ)) (s : List ℕ) → list_all are_ascii ts ≡ true → list_any (bytes_eq s) ts ≡ true → IsUtf8 s
one_of_utf8 [] s ascii any = absurd (cc)
one_of_utf8 (t ∷ ts) s ascii any =
    let parts = and_parts (are_ascii t) (list_all are_ascii ts) ascii in
    known_here (bytes_eq s t) (list_any (bytes_eq s) ts) s t refl any parts.0 (one_of_utf8 ts s parts.1)

decimal_utf8 : (n : ℕ) → n < 2 ^ 128 → IsUtf8 (decimal n)
decimal_utf8 n h = IsUtf8-from_ascii (decimal n) (IsAscii-decimal_wide n (omega (arith, h)))

named_utf8 : (word : List ℕ) (n : ℕ) → IsUtf8 word → n < 2 ^ 128 → IsUtf8 (word ++ decimal n)
named_utf8 word n h few = IsUtf8-append word (decimal n) h (decimal_utf8 n few)

numbered_utf8 : (word : List ℕ) (end : ℕ) (s : List ℕ) → end ≤ 2 ^ 32 → IsUtf8 word → IsNumbered word end s → IsUtf8 s
numbered_utf8 word end s few text h = subst IsUtf8 (sym h.is) (named_utf8 word h.number text (omega (arith, few, h.below)))

numbered_by_utf8 : (words : List (List ℕ)) (end : ℕ) (s : List ℕ) → end ≤ 2 ^ 32 → list_all are_ascii words ≡ true → IsNumberedBy words end s → IsUtf8 s
numbered_by_utf8 words end s few ascii h = numbered_utf8 h.word end s few (one_of_utf8 words h.word ascii h.one_of) h.numbered

object_utf8 : (s : List ℕ) → IsObjectName s → IsUtf8 s
object_utf8 s (inl one) = one_of_utf8 single_names s refl one
object_utf8 s (inr (inl brand)) = numbered_by_utf8 brand_words brands_end s (omega arith) refl brand
object_utf8 s (inr (inr other)) = numbered_by_utf8 object_words objects_end s (omega arith) refl other

function_utf8 : (s : List ℕ) → IsFunctionName s → IsUtf8 s
function_utf8 s h = IsUtf8-from_ascii s (IsAscii-is_word is_name_start 64 (λ x e. grind arith) s h)

wide_utf8 : (z : ℤ) → IsWideNumber z → IsUtf8 (signed_decimal z)
wide_utf8 (pos n) h = decimal_utf8 n (omega (arith, h.1))
wide_utf8 (negsuc n) h = IsUtf8-append (45 ∷ []) (decimal (suc n)) (IsUtf8-are_ascii (45 ∷ []) refl) (decimal_utf8 (suc n) (omega (arith, h.1)))

instance_utf8 : (s : List ℕ) → IsNumbered (codes "instance") objects_end s → IsUtf8 s
instance_utf8 s h = numbered_utf8 (codes "instance") objects_end s (omega arith) (IsUtf8-are_ascii _ refl) h

party_utf8 : (s : List ℕ) → IsParty s → IsUtf8 s
party_utf8 s h = let parts = and_parts (is_label s) (not (starts_with (λ m n. m == n) s (codes "instance"))) h in IsUtf8-is_label s parts.0

caller_utf8 : (s : List ℕ) → IsCaller s → IsUtf8 s
caller_utf8 s (inl party) = party_utf8 s party
caller_utf8 s (inr instance) = instance_utf8 s instance

-- ---- names in order

both : (a b : Bool) → (a && b) ≡ true → (a ≡ true) × (b ≡ true)
both true b h = (refl, h)
both false b h = absurd (cc)

abbrev rise : List (List ℕ) → Bool
rise [] = true
rise (k ∷ ks) = list_all (λ y. is_lt (key_cmp k y)) ks && rise ks

less : (o : Ordering) → is_lt o ≡ true → o ≡ Less
less Less h = refl
less Equal h = absurd (cc)
less Greater h = absurd (cc)

all_less : (k : List ℕ) (ks : List (List ℕ)) → list_all (λ y. is_lt (key_cmp k y)) ks ≡ true → AllByRecursion (λ y. key_cmp k y ≡ Less) ks
all_less k [] h = tt
all_less k (l ∷ ks) h = let parts = both (is_lt (key_cmp k l)) (list_all (λ y. is_lt (key_cmp k y)) ks) h in (less (key_cmp k l) parts.0, all_less k ks parts.1)

in_rise : (ks : List (List ℕ)) → rise ks ≡ true → IsStrictlySortedBy key_cmp ks
unfolding IsStrictlySortedBy
in_rise [] h = tt
in_rise (k ∷ ks) h = let parts = both (list_all (λ y. is_lt (key_cmp k y)) ks) (rise ks) h in (all_less k ks parts.0, in_rise ks parts.1)

-- a name of our own
name : (t : List ℕ) → are_ascii t ≡ true → IsUtf8 t
name t h = IsUtf8-are_ascii t h

one_name : (k : List ℕ) → IsStrictlySortedBy key_cmp (k ∷ [])
unfolding IsStrictlySortedBy
one_name k = (tt, tt)

only_whole : (k : List ℕ) (d : json.Data) → IsUtf8 k → IsWhole d → IsWhole (only k d)
only_whole k d text h = ((text, h, tt), one_name k)

-- ---- data

small_plain : (n : json.Num) → IsSmallNumber n → IsPlainNumber n
small_plain (json.unsigned n) h = omega (arith, h)
small_plain (json.negative (pos n)) h = absurd h
small_plain (json.negative (negsuc n)) h = omega (arith, h)
small_plain (json.float x) h = absurd h

mark_whole : (ms : json.Members) → IsMark ms → IsWhole (json.object ms)
mark_whole (json.member k (json.string s) json.no_members) (inl object) = only_whole k (json.string s) (literal k (codes "@") object.0 refl) (object_utf8 s object.1)
mark_whole (json.member k (json.string s) json.no_members) (inr (inl function)) = only_whole k (json.string s) (literal k (codes "=>") function.0 refl) (function_utf8 s function.1)
mark_whole (json.member k (json.string s) json.no_members) (inr (inr wide)) = only_whole k (json.string s) (literal k (codes "#") wide.0 refl) (subst IsUtf8 (sym wide.1.is) (wide_utf8 wide.1.number wide.1.wide))
mark_whole (json.member k (json.string s) (json.member l d ms)) h = absurd h
mark_whole (json.member k json.null ms) h = absurd h
mark_whole (json.member k (json.boolean b) ms) h = absurd h
mark_whole (json.member k (json.number n) ms) h = absurd h
mark_whole (json.member k (json.array ds) ms) h = absurd h
mark_whole (json.member k (json.object os) ms) h = absurd h
mark_whole json.no_members h = absurd h

mutual
  data_whole : (d : json.Data) → IsData d → IsWhole d
  data_whole json.null h = tt
  data_whole (json.boolean b) h = tt
  data_whole (json.number n) h = small_plain n h
  data_whole (json.string s) h = h
  data_whole (json.array ds) h = items_whole ds h
  data_whole (json.object ms) (inl mark) = mark_whole ms mark
  data_whole (json.object ms) (inr fields) = (fields_whole ms fields.0, fields.1)

  items_whole : (ds : json.Items) → AreData ds → AreWhole ds
  items_whole json.no_items h = tt
  items_whole (json.item d ds) h = (data_whole d h.0, items_whole ds h.1)

  fields_whole : (ms : json.Members) → AreFields ms → AreWholeMembers ms
  fields_whole json.no_members h = tt
  fields_whole (json.member k d ms) h = (function_utf8 k h.0, data_whole d h.1, fields_whole ms h.2)

-- ---- parts of rows

answer_whole : (a : Answer) → HasAnswerForm a → IsWhole (answer_json a)
answer_whole (ok d) h = only_whole (codes "ok") d (name _ refl) (data_whole d h)
answer_whole (refused code shown) h =
    let inner : IsWhole (json.object (json.member (codes "code") (json.string code) (json.member (codes "shown") (json.array shown) json.no_members))) =
    ((name (codes "code") refl, one_of_utf8 refusal_codes code refl h.0, (name (codes "shown") refl, items_whole shown h.1, tt)), in_rise (codes "code" ∷ codes "shown" ∷ []) refl) in
    only_whole (codes "refused") (json.object (json.member (codes "code") (json.string code) (json.member (codes "shown") (json.array shown) json.no_members))) (name _ refl) inner
answer_whole (threw d) h = only_whole (codes "threw") d (name _ refl) (data_whole d h)
answer_whole (spent meter) h = only_whole (codes "spent") (whole meter) (name _ refl) h

settlement_whole : (s : Settlement) → HasSettlementForm s → IsWhole (settlement_json s)
settlement_whole (fulfilled d) h = only_whole (codes "ok") d (name _ refl) (data_whole d h)
settlement_whole (broken d) h = only_whole (codes "broken") d (name _ refl) (data_whole d h)

number_by : (n : ℕ) (b : Bool) → nat_lt n (2 ^ 63) ≡ b → n < 2 ^ 128 → IsWhole (number_json n)
number_by n true is h = rw is (grind arith)
number_by n false is h = rw is (only_whole (codes "#") (json.string (decimal n)) (name _ refl) (decimal_utf8 n h))

number_whole : (n : ℕ) → n < 2 ^ 128 → IsWhole (number_json n)
number_whole n h = number_by n (nat_lt n (2 ^ 63)) refl h

elements_whole : (es : List Element) → AllByRecursion HasElementForm es → AreWhole (elements_json es)
elements_whole [] h = tt
elements_whole (key s ∷ es) h = (h.0.text, elements_whole es h.1)
elements_whole (counted s n ∷ es) h = ((h.0.0.text, (number_whole n (omega (arith, h.0.2)), tt)), elements_whole es h.1)

value_whole : (e : Edition) (v : Value) → HasValueForm e v → IsWhole (value_json v)
value_whole First (number n) h = number_whole n (omega (arith, h))
value_whole Second (number n) h = number_whole n (omega (arith, h))
value_whole e (elements es) h = elements_whole es h.each

brand_utf8 : (n : ℕ) → n < 2 ^ 16 → IsUtf8 (brand_name n)
brand_utf8 n h = named_utf8 (codes "brand") n (name _ refl) (omega (arith, h))

amounts_whole : (e : Edition) (rows : List KeywordAmount) → AllByRecursion (HasAmountForm e) rows → AreWholeMembers (amounts_json rows)
amounts_whole e [] h = tt
amounts_whole e (a ∷ rows) h = (
  IsUtf8-is_keyword a.keyword h.0.keyword,
  ((name (codes "brand") refl, only_whole (codes "@") (json.string (brand_name a.brand)) (name _ refl) (brand_utf8 a.brand h.0.brand), (name (codes "value") refl, value_whole e a.value h.0.value, tt)), in_rise (codes "brand" ∷ codes "value" ∷ []) refl),
  amounts_whole e rows h.1,
)

all_amounts : (e : Edition) (rows : List KeywordAmount) → AreAmounts e rows → IsWhole (json.object (amounts_json rows))
all_amounts e rows h = (amounts_whole e rows h.each, subst (IsStrictlySortedBy key_cmp) (sym (keywords_are rows)) h.rising)

payouts_whole : (ps : List Payout) → AllByRecursion (λ p. is_keyword p.keyword ≡ true) ps → AllByRecursion (λ p. p.payment < objects_end) ps → AreWholeMembers (payouts_json ps)
payouts_whole [] h k = tt
payouts_whole (p ∷ ps) h k = (IsUtf8-is_keyword p.keyword h.0, named_utf8 (codes "payment") p.payment (name _ refl) (omega (arith, k.0)), payouts_whole ps h.1 k.1)

rule_whole : (x : ExitRule) → HasExitRuleForm x → IsWhole (exit_rule_json x)
rule_whole on_demand h = name (codes "onDemand") refl
rule_whole waived h = name (codes "waived") refl
rule_whole (after_deadline time) h = only_whole (codes "afterDeadline") (number_json time) (name _ refl) (number_whole time (omega (arith, h)))

holder_utf8 : (h : Holder) → HasHolderForm h → IsUtf8 (holder_name h)
holder_utf8 (holders.Purse n) f = named_utf8 (codes "purse") n (name _ refl) (omega (arith, f))
holder_utf8 (holders.Payment n) f = named_utf8 (codes "payment") n (name _ refl) (omega (arith, f))
holder_utf8 (holders.Slot seat keyword) f =
    IsUtf8-append (codes "seat") _ (name _ refl) (IsUtf8-append (decimal seat) _ (decimal_utf8 seat (omega (arith, f.0))) (IsUtf8-append (codes ".") keyword (name _ refl) (IsUtf8-is_keyword keyword f.1)))
holder_utf8 holders.Hand f = name (codes "hand") refl
holder_utf8 holders.Outside f = name (codes "outside") refl

cause_utf8 : (c : Cause) → IsUtf8 (cause_word c)
cause_utf8 causes.asked = name _ refl
cause_utf8 causes.deadline = name _ refl
cause_utf8 causes.exit = name _ refl
cause_utf8 causes.fail = name _ refl
cause_utf8 causes.threw = name _ refl
cause_utf8 causes.halted = name _ refl
cause_utf8 causes.spent = name _ refl

how_utf8 : (h : How) → IsUtf8 (how_word h)
how_utf8 kinds.calls = name _ refl
how_utf8 kinds.sends = name _ refl
how_utf8 kinds.when = name _ refl
how_utf8 kinds.far = name _ refl

kind_utf8 : (k : Kind) → IsUtf8 (kind_word k)
kind_utf8 kinds.service = name _ refl
kind_utf8 kinds.facet = name _ refl
kind_utf8 kinds.handler = name _ refl
kind_utf8 kinds.wake = name _ refl
kind_utf8 kinds.notify = name _ refl
kind_utf8 kinds.deadline = name _ refl
kind_utf8 kinds.start = name _ refl
kind_utf8 kinds.tick = name _ refl
kind_utf8 kinds.give = name _ refl
kind_utf8 kinds.bad = name _ refl
kind_utf8 kinds.message = name _ refl

numbered : (word : List ℕ) (s : List ℕ) → are_ascii word ≡ true → IsNumbered word objects_end s → IsUtf8 s
numbered word s ascii h = numbered_utf8 word objects_end s (omega arith) (IsUtf8-are_ascii word ascii) h

-- ---- what is delivered and called

record AreTexts (by on method : List ℕ) : Type 0 where
  pub by_text : IsUtf8 by
  pub on_text : IsUtf8 on
  pub method_text : IsUtf8 method

delivered_texts : (k : Kind) (by on method : List ℕ) (args : json.Items) → IsDelivered k by on method args → AreTexts by on method
delivered_texts kinds.service by on method args h = record { by_text = caller_utf8 by h.0; on_text = object_utf8 on h.1.0; method_text = h.2 }
delivered_texts kinds.facet by on method args h = record { by_text = caller_utf8 by h.0; on_text = numbered (codes "facet") on refl h.1; method_text = h.2 }
delivered_texts kinds.handler by on method args h = record { by_text = instance_utf8 by h.0; on_text = numbered (codes "zseat") on refl h.1; method_text = function_utf8 method h.2 }
delivered_texts kinds.wake by on method args h = record { by_text = instance_utf8 by h.0; on_text = literal on (codes "timer") h.1 refl; method_text = function_utf8 method h.2 }
delivered_texts kinds.notify by on method args h = record { by_text = instance_utf8 by h.0; on_text = numbered (codes "promise") on refl h.1; method_text = function_utf8 method h.2 }
delivered_texts kinds.deadline by on method args h = record { by_text = literal by [] h.0 refl; on_text = numbered (codes "seat") on refl h.1; method_text = literal method [] h.2 refl }
delivered_texts kinds.start by on method args h = record { by_text = instance_utf8 by h.0; on_text = subst IsUtf8 (sym h.1) (instance_utf8 by h.0); method_text = literal method (codes "start") h.2 refl }
delivered_texts kinds.tick by on method args h = record { by_text = literal by [] h.0 refl; on_text = literal on (codes "timer") h.1 refl; method_text = literal method [] h.2 refl }
delivered_texts kinds.give by on method args h = record { by_text = party_utf8 by h.0; on_text = party_utf8 on h.1; method_text = IsUtf8-is_label method h.2 }
delivered_texts kinds.bad by on method args h = record { by_text = literal by [] h.0 refl; on_text = literal on [] h.1 refl; method_text = literal method [] h.2 refl }
delivered_texts kinds.message by on method args h = record { by_text = caller_utf8 by h.0; on_text = literal on [] h.1 refl; method_text = h.2 }

called_texts : (how : How) (on method : List ℕ) (args : json.Items) → IsCalled how on method args → AreTexts [] on method
called_texts kinds.calls on method args h = record { by_text = IsUtf8-nil; on_text = object_utf8 on h.0; method_text = h.1 }
called_texts kinds.sends on method args h = record { by_text = IsUtf8-nil; on_text = object_utf8 on h.0; method_text = h.1 }
called_texts kinds.when on method args h = record { by_text = IsUtf8-nil; on_text = numbered (codes "promise") on refl h.0; method_text = function_utf8 method h.1 }
called_texts kinds.far on method args h = record { by_text = IsUtf8-nil; on_text = literal on [] h.0 refl; method_text = h.1 }

-- ---- rows

turn_whole : (t : Turn) → IsTurnRow t → IsWhole (turn_row t)
turn_whole t h =
    let texts = delivered_texts t.kind t.by t.on t.method t.arguments h.delivered in (
      (name (codes "answer") refl, answer_whole t.answer h.answer, (name (codes "args") refl, items_whole t.arguments h.arguments, (name (codes "by") refl, texts.by_text, (name (codes "do") refl, texts.method_text, (name (codes "kind") refl, kind_utf8 t.kind, (name (codes "n") refl, h.number, (name (codes "on") refl, texts.on_text, (name (codes "row") refl, name (codes "turn") refl, tt)))))))),
      in_rise (codes "answer" ∷ codes "args" ∷ codes "by" ∷ codes "do" ∷ codes "kind" ∷ codes "n" ∷ codes "on" ∷ codes "row" ∷ []) refl,
    )

event_whole : (e : Edition) (x : Event) → HasEventForm e x → IsWhole (event_row x)
event_whole e (called c) h =
    let texts = called_texts c.how c.on c.method c.arguments h.is_called in (
      (name (codes "answer") refl, answer_whole c.answer h.answer, (name (codes "args") refl, items_whole c.arguments h.arguments, (name (codes "do") refl, texts.method_text, (name (codes "how") refl, how_utf8 c.how, (name (codes "on") refl, texts.on_text, (name (codes "row") refl, name (codes "call") refl, tt)))))),
      in_rise (codes "answer" ∷ codes "args" ∷ codes "do" ∷ codes "how" ∷ codes "on" ∷ codes "row" ∷ []) refl,
    )
event_whole e (opened o) h = (
  (name (codes "exit") refl, rule_whole o.exit h.exit, (name (codes "give") refl, all_amounts e o.give h.give, (name (codes "instance") refl, named_utf8 (codes "instance") o.instance (name _ refl) (omega (arith, h.instance)), (name (codes "row") refl, name (codes "open") refl, (name (codes "seat") refl, small_seat o.seat h.seat, (name (codes "want") refl, all_amounts e o.want h.want, tt)))))),
  in_rise (codes "exit" ∷ codes "give" ∷ codes "instance" ∷ codes "row" ∷ codes "seat" ∷ codes "want" ∷ []) refl,
)
  where
    small_seat : (n : ℕ) → n < 2 ^ 32 → n < 2 ^ 64
    small_seat n h = omega (arith, h)
event_whole e (moved m) h = (
  (name (codes "brand") refl, brand_utf8 m.brand h.0, (name (codes "from") refl, holder_utf8 m.from h.1, (name (codes "row") refl, name (codes "move") refl, (name (codes "to") refl, holder_utf8 m.to h.2, (name (codes "value") refl, value_whole e m.value h.3, tt))))),
  in_rise (codes "brand" ∷ codes "from" ∷ codes "row" ∷ codes "to" ∷ codes "value" ∷ []) refl,
)
event_whole e (exited x) h = (
  (name (codes "cause") refl, cause_utf8 x.cause, (name (codes "payouts") refl, (payouts_whole x.payouts h.keywords h.payments, subst (IsStrictlySortedBy key_cmp) (sym (payout_names x.payouts)) h.rising), (name (codes "row") refl, name (codes "exit") refl, (name (codes "seat") refl, small_seat x.seat h.seat, tt)))),
  in_rise (codes "cause" ∷ codes "payouts" ∷ codes "row" ∷ codes "seat" ∷ []) refl,
)
  where
    small_seat : (n : ℕ) → n < 2 ^ 32 → n < 2 ^ 64
    small_seat n h = omega (arith, h)
event_whole e (settled promise s) h = (
  (name (codes "promise") refl, small_promise promise h.0, (name (codes "row") refl, name (codes "settle") refl, (name (codes "to") refl, settlement_whole s h.1, tt))),
  in_rise (codes "promise" ∷ codes "row" ∷ codes "to" ∷ []) refl,
)
  where
    small_promise : (n : ℕ) → n < 2 ^ 32 → n < 2 ^ 64
    small_promise n h = omega (arith, h)

total_utf8 : (n : ℕ) → n < 2 ^ 128 → IsUtf8 (decimal n)
total_utf8 n h = decimal_utf8 n h

sum_whole : (e : Edition) (s : Sum) → HasSumForm s → IsWhole (sum_row e s)
sum_whole First s h = (
  (name (codes "brand") refl, brand_utf8 s.brand h.brand, (name (codes "burned") refl, total_utf8 s.burned h.burned, (name (codes "minted") refl, total_utf8 s.minted h.minted, (name (codes "payments") refl, total_utf8 s.payments h.payments, (name (codes "purses") refl, total_utf8 s.purses h.purses, (name (codes "row") refl, name (codes "sum") refl, (name (codes "slots") refl, total_utf8 s.slots h.slots, tt))))))),
  in_rise (codes "brand" ∷ codes "burned" ∷ codes "minted" ∷ codes "payments" ∷ codes "purses" ∷ codes "row" ∷ codes "slots" ∷ []) refl,
)
sum_whole Second s h =
    let supply : s.minted - s.burned < 2 ^ 128 = omega (arith, h.minted) in (
      (name (codes "brand") refl, brand_utf8 s.brand h.brand, (name (codes "burned") refl, total_utf8 s.burned h.burned, (name (codes "minted") refl, total_utf8 s.minted h.minted, (name (codes "payments") refl, total_utf8 s.payments h.payments, (name (codes "purses") refl, total_utf8 s.purses h.purses, (name (codes "row") refl, name (codes "sum") refl, (name (codes "slots") refl, total_utf8 s.slots h.slots, (name (codes "supply") refl, total_utf8 (s.minted - s.burned) supply, tt)))))))),
      in_rise (codes "brand" ∷ codes "burned" ∷ codes "minted" ∷ codes "payments" ∷ codes "purses" ∷ codes "row" ∷ codes "slots" ∷ codes "supply" ∷ []) refl,
    )

row_whole : (e : Edition) (r : Row) → HasRowForm e r → IsWhole (row_json e r)
row_whole e version h = ((name (codes "row") refl, name (codes "version") refl, (name (codes "version") refl, omega arith, tt)), in_rise (codes "row" ∷ codes "version" ∷ []) refl)
row_whole e (turn t) h = turn_whole t h.row
row_whole e (event x) h = event_whole e x h.row
row_whole e (sum s) h = sum_whole e s h.row
row_whole e (close left turns) h = ((name (codes "left") refl, h.row.0, (name (codes "row") refl, name (codes "close") refl, (name (codes "turns") refl, h.row.1, tt))), in_rise (codes "left" ∷ codes "row" ∷ codes "turns" ∷ []) refl)

-- ---- its line

pub row_read : (e : Edition) (r : Row) → HasRowForm e r → read (compact_text (row_json e r)) ≡ Some (row_json e r)
row_read e r h = read_whole (row_json e r) (row_whole e r h) h.nesting

pub row_utf8 : (e : Edition) (r : Row) → HasRowForm e r → IsUtf8 (compact_text (row_json e r))
row_utf8 e r h = text_utf8 (row_json e r) (row_whole e r h)

pub row_floats : (e : Edition) (r : Row) → HasRowForm e r → has_float (row_json e r) ≡ false
row_floats e r h = no_floats (row_json e r) (row_whole e r h)

no_snoc : (xs : List ℕ) (b : ℕ) → [] ≡ xs ++ b ∷ [] → ⊥
no_snoc [] b h = cc
no_snoc (x ∷ xs) b h = cc

before_last : (xs ys : List ℕ) (a b : ℕ) → xs ++ a ∷ [] ≡ ys ++ b ∷ [] → xs ≡ ys
before_last [] [] a b h = refl
before_last [] (y ∷ ys) a b h = let rest : [] ≡ ys ++ b ∷ [] = cc in absurd (no_snoc ys b rest)
before_last (x ∷ xs) [] a b h = let rest : xs ++ a ∷ [] ≡ [] = cc in absurd (no_snoc xs a (sym rest))
before_last (x ∷ xs) (y ∷ ys) a b h =
    let heads : x ≡ y = cc in
    let tails : xs ++ a ∷ [] ≡ ys ++ b ∷ [] = cc in
    rw (heads, before_last xs ys a b tails) refl

pub line_text : (e : Edition) (r : Row) (line text : List ℕ) → text ++ 10 ∷ [] ≡ line → line ≡ row_line e r → text ≡ compact_text (row_json e r)
unfolding row_text
line_text e r line text is same = before_last text (compact_text (row_json e r)) 10 10 (is ∙ same)

pub line_of : (e : Edition) (r : Row) (line text : List ℕ) → text ++ 10 ∷ [] ≡ line → text ≡ compact_text (row_json e r) → line ≡ row_line e r
unfolding row_text
line_of e r line text is same = sym is ∙ ap (λ (t : List ℕ). t ++ 10 ∷ []) same

pub line_feed : (e : Edition) (r : Row) → row_line e r ≡ compact_text (row_json e r) ++ 10 ∷ []
unfolding row_text
line_feed e r = refl
