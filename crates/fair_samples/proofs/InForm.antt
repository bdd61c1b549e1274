-- A test of the form of turns that computes: of a list that is written out, with numbers of one digit in its names and
-- ASCII texts, it tells that the list is in form.
use Rattle.std.proofs.Common.{◌≡◌, ◌≤◌, ◌<◌, ◌⊎◌, ◌^◌, ℕ, zero, suc, Bool, true, false, not, ◌&&◌, ◌||◌, ◌==◌, nat_le, nat_lt, List, [], ◌∷◌, ◌++◌, map, length, slice_index, codes, decimal, bytes_eq, is_lt, Ordering, Less, T, refl, sym, ap, subst, ◌∙◌, inl, inr, leb-true, ltb-true, arith}
use Rattle.std.proofs.lemmas.Bool.{and_parts, true≢false, false_from_ne_true, or_right}
use Rattle.std.proofs.lemmas.Str.{IsUtf8-from_ascii}
use Rattle.std.specs.Cmp.Lexicographic.{bytes_decides}
use Rattle.std.specs.List.{AllByRecursion, list_all, list_any, starts_with}
use Rattle.std.specs.List.Sorted.{IsStrictlySortedBy}
use Rattle.std.specs.Str.{IsUtf8}
use Rattle.serde_json.specs.Data as json
use Rattle.serde_json.specs.Data.{depth}
use Rattle.serde_json.specs.Read.{max_depth}
use Rattle.fair_rows.specs.host_text.Words.{is_field_name, is_keyword, is_label}
use Rattle.fair_rows.specs.amount_math.Content.{key_cmp}
use Rattle.fair_rows.specs.amount_math.Totals.{less}
use Rattle.fair_rows.specs.amount_math.ValueView.{bag_bound, most_keys, nat_bound}
use Rattle.fair_rows.specs.rights_model.declared.Holder.{Holder}
use Rattle.fair_rows.specs.rights_model.declared.Holder.TheVariants.{Hand, Outside, Payment, Purse, Slot}
use Rattle.fair_rows.specs.rights_model.declared.Sum.{Sum}
use Rattle.fair_rows.specs.turn_rows.Form.{AreAmounts, AreData, AreElements, AreFields, AreInForm, HasAmountForm, HasAnswerForm, HasCallForm, HasElementForm, HasEventForm, HasExitForm, HasExitRuleForm, HasHolderForm, HasOpeningForm, HasSumForm, HasValueForm, IsAnswerOf, IsCalled, IsCallAnswer, IsCaller, IsData, IsDelivered, IsInForm, IsKey, IsMark, IsNumbered, IsNumberedBy, IsObjectName, IsOneItem, MayStand, brand_words, brands_end, is_key, key_of, names_of, object_words, objects_end, refusal_codes, single_names, times_end, totals_end, AreTwoItems, IsAnyData, IsNotice, IsRefusal, IsSmallNumber, IsTickAnswer, IsTime, IsServiceTarget, has_keyword, may_call}
use Rattle.fair_rows.specs.turn_rows.Kinds as kinds
use Rattle.fair_rows.specs.turn_rows.Kinds.{How, Kind}
use Rattle.fair_rows.specs.turn_rows.Rows.{rows_of}
use Rattle.fair_rows.specs.turn_rows.Turns.{Answer, Call, Element, Event, ExitRule, KeywordAmount, Opening, SeatExit, Turn, Value, after_deadline, broken, called, counted, elements, exited, fulfilled, key, moved, number, ok, on_demand, opened, refused, settled, spent, threw, waived, Payout}
use Rattle.fair_samples.proofs.Printed.{each_so, every}
use Rattle.fair_rows.specs.turn_rows.Editions.{written}

-- ---- texts

either : (A B : Type 0) (a b : Bool) → (a ≡ true → A) → (b ≡ true → B) → (a || b) ≡ true → A ⊎ B
either A B true b f g h = inl (f refl)
either A B false b f g h = inr (g h)

bytes_same : (s t : List ℕ) → bytes_eq s t ≡ true → s ≡ t
bytes_same s t e = (bytes_decides s t).0 e

any_found : {A : Type 0} (test : A → Bool) (xs : List A) → list_any test xs ≡ true → (x : A) × (test x ≡ true)
any_found test [] h = absurd (true≢false (sym h))
any_found test (x ∷ xs) h = by (test x) refl h (any_found test xs)
  where
    by : (b : Bool) → test x ≡ b → (b || list_any test xs) ≡ true → (list_any test xs ≡ true → (z : _) × (test z ≡ true)) → (z : _) × (test z ≡ true)
    by true is g rest = (x, is)
    by false is g rest = rest g

word_found : (test : List ℕ → Bool) (words : List (List ℕ)) → list_any test words ≡ true → (w : List ℕ) × (list_any (bytes_eq w) words ≡ true) × (test w ≡ true)
word_found test [] h = absurd (true≢false (sym h))
word_found test (x ∷ xs) h = by (test x) refl h (word_found test xs)
  where
    by : (b : Bool) → test x ≡ b → (b || list_any test xs) ≡ true → (list_any test xs ≡ true → (w : List ℕ) × (list_any (bytes_eq w) xs ≡ true) × (test w ≡ true)) → (w : List ℕ) × (list_any (bytes_eq w) (x ∷ xs) ≡ true) × (test w ≡ true)
    by true is g rest = (x, ap (λ b. b || list_any (bytes_eq x) xs) ((bytes_decides x x).1 refl), is)
    by false is g rest = let r = rest g in (r.0, or_right (bytes_eq r.0 x) (list_any (bytes_eq r.0) xs) r.1, r.2)

-- names whose number has one digit
abbrev one_digits : List ℕ
one_digits = 0 ∷ 1 ∷ 2 ∷ 3 ∷ 4 ∷ 5 ∷ 6 ∷ 7 ∷ 8 ∷ 9 ∷ []

abbrev numbered : List ℕ → ℕ → List ℕ → Bool
numbered word end s = list_any (λ n. nat_lt n end && bytes_eq s (word ++ decimal n)) one_digits

numbered_is : (word : List ℕ) (end : ℕ) (s : List ℕ) → numbered word end s ≡ true → IsNumbered word end s
numbered_is word end s h =
    let f = any_found (λ n. nat_lt n end && bytes_eq s (word ++ decimal n)) one_digits h in
    let parts = and_parts (nat_lt f.0 end) (bytes_eq s (word ++ decimal f.0)) f.1 in
    record { number = f.0; below = ltb-true f.0 end parts.0; is = bytes_same s (word ++ decimal f.0) parts.1 }

abbrev numbered_by : List (List ℕ) → ℕ → List ℕ → Bool
numbered_by words end s = list_any (λ w. numbered w end s) words

numbered_by_is : (words : List (List ℕ)) (end : ℕ) (s : List ℕ) → numbered_by words end s ≡ true → IsNumberedBy words end s
numbered_by_is words end s h = let f = word_found (λ w. numbered w end s) words h in record { word = f.0; one_of = f.1; numbered = numbered_is f.0 end s f.2 }

abbrev is_object : List ℕ → Bool
is_object s = list_any (bytes_eq s) single_names || (numbered_by brand_words brands_end s || numbered_by object_words objects_end s)

object_is : (s : List ℕ) → is_object s ≡ true → IsObjectName s
object_is s h = either _ _ (list_any (bytes_eq s) single_names) _ (λ e. e) (λ r. either _ _ (numbered_by brand_words brands_end s) (numbered_by object_words objects_end s) (numbered_by_is brand_words brands_end s) (numbered_by_is object_words objects_end s) r) h

abbrev is_party : List ℕ → Bool
is_party s = is_label s && not (starts_with (λ m n. m == n) s (codes "instance"))

abbrev is_caller : List ℕ → Bool
is_caller s = is_party s || numbered (codes "instance") objects_end s

caller_is : (s : List ℕ) → is_caller s ≡ true → IsCaller s
caller_is s h = either _ _ (is_party s) (numbered (codes "instance") objects_end s) (λ e. e) (numbered_is (codes "instance") objects_end s) h

abbrev is_plain_text : List ℕ → Bool
is_plain_text s = list_all (λ b. nat_lt b 128) s

text_is : (s : List ℕ) → is_plain_text s ≡ true → IsUtf8 s
text_is s h = IsUtf8-from_ascii s (ascii s h)
  where
    ascii : (bs : List ℕ) → is_plain_text bs ≡ true → (i : ℕ) → slice_index bs i < 128
    ascii [] e i = omega arith
    ascii (b ∷ bs) e zero = ltb-true b 128 (and_parts (nat_lt b 128) (is_plain_text bs) e).0
    ascii (b ∷ bs) e (suc i) = ascii bs (and_parts (nat_lt b 128) (is_plain_text bs) e).1 i

abbrev is_rising : List (List ℕ) → Bool
is_rising [] = true
is_rising (k ∷ ks) = list_all (λ q. is_lt (key_cmp k q)) ks && is_rising ks

less_is : (r : Ordering) → is_lt r ≡ true → r ≡ Less
less_is r h = less r (subst T (sym h) tt)

rising_is : (ks : List (List ℕ)) → is_rising ks ≡ true → IsStrictlySortedBy key_cmp ks
unfolding IsStrictlySortedBy
rising_is [] h = tt
rising_is (k ∷ ks) h =
    let parts = and_parts (list_all (λ q. is_lt (key_cmp k q)) ks) (is_rising ks) h in
    (each_so (λ q. is_lt (key_cmp k q) ≡ true) _ (λ q e. less_is (key_cmp k q) e) ks (every (λ q. is_lt (key_cmp k q)) ks parts.0), rising_is ks parts.1)

-- ---- data

abbrev is_mark : json.Members → Bool
is_mark (json.member k (json.string s) json.no_members) = (bytes_eq k (codes "@") && is_object s) || (bytes_eq k (codes "=>") && is_field_name s)
is_mark _ = false

mark_is : (ms : json.Members) → is_mark ms ≡ true → IsMark ms
mark_is (json.member k (json.string s) json.no_members) h = elim (either ((k ≡ codes "@") × IsObjectName s) ((k ≡ codes "=>") × (is_field_name s ≡ true)) (bytes_eq k (codes "@") && is_object s) (bytes_eq k (codes "=>") && is_field_name s) (λ e. (let p = and_parts (bytes_eq k (codes "@")) (is_object s) e in (bytes_same k (codes "@") p.0, object_is s p.1))) (λ e. (let p = and_parts (bytes_eq k (codes "=>")) (is_field_name s) e in (bytes_same k (codes "=>") p.0, p.1))) h) [ inl a ↦ inl a | inr b ↦ inr (inl b) ]
mark_is _ h = absurd (true≢false (sym h))

abbrev is_small : json.Num → Bool
is_small (json.unsigned n) = nat_lt n (2 ^ 63)
is_small _ = false

small_is : (n : json.Num) → is_small n ≡ true → IsSmallNumber n
small_is (json.unsigned n) h = ltb-true n (2 ^ 63) h
small_is _ h = absurd (true≢false (sym h))

abbrev mutual
  is_data : json.Data → Bool
  is_data json.null = true
  is_data (json.boolean b) = true
  is_data (json.number n) = is_small n
  is_data (json.string s) = is_plain_text s
  is_data (json.array ds) = are_data ds
  is_data (json.object ms) = is_mark ms || (are_fields ms && is_rising (names_of ms))

  are_data : json.Items → Bool
  are_data json.no_items = true
  are_data (json.item d ds) = is_data d && are_data ds

  are_fields : json.Members → Bool
  are_fields json.no_members = true
  are_fields (json.member k d ms) = is_field_name k && (is_data d && are_fields ms)

mutual
  data_is : (d : json.Data) → is_data d ≡ true → IsData d
  data_is json.null h = tt
  data_is (json.boolean b) h = tt
  data_is (json.number n) h = small_is n h
  data_is (json.string s) h = text_is s h
  data_is (json.array ds) h = data_are ds h
  data_is (json.object ms) h = either (IsMark ms) (AreFields ms × IsStrictlySortedBy key_cmp (names_of ms)) (is_mark ms) (are_fields ms && is_rising (names_of ms)) (mark_is ms) (λ e. (fields_are ms (and_parts (are_fields ms) (is_rising (names_of ms)) e).0, rising_is (names_of ms) (and_parts (are_fields ms) (is_rising (names_of ms)) e).1)) h

  data_are : (ds : json.Items) → are_data ds ≡ true → AreData ds
  data_are json.no_items h = tt
  data_are (json.item d ds) h = (data_is d (and_parts (is_data d) (are_data ds) h).0, data_are ds (and_parts (is_data d) (are_data ds) h).1)

  fields_are : (ms : json.Members) → are_fields ms ≡ true → AreFields ms
  fields_are json.no_members h = tt
  fields_are (json.member k d ms) h = ((and_parts (is_field_name k) (is_data d && are_fields ms) h).0, data_is d (and_parts (is_data d) (are_fields ms) (and_parts (is_field_name k) (is_data d && are_fields ms) h).1).0, fields_are ms (and_parts (is_data d) (are_fields ms) (and_parts (is_field_name k) (is_data d && are_fields ms) h).1).1)

-- ---- answers

abbrev has_answer : Answer → Bool
has_answer (ok d) = is_data d
has_answer (refused code shown) = list_any (bytes_eq code) refusal_codes && are_data shown
has_answer (threw d) = is_data d
has_answer (spent meter) = nat_lt meter (2 ^ 64)

answer_is : (a : Answer) → has_answer a ≡ true → HasAnswerForm a
answer_is (ok d) h = data_is d h
answer_is (refused code shown) h = let p = and_parts (list_any (bytes_eq code) refusal_codes) (are_data shown) h in (p.0, data_are shown p.1)
answer_is (threw d) h = data_is d h
answer_is (spent meter) h = ltb-true meter (2 ^ 64) h

abbrev is_call_answer : Answer → Bool
is_call_answer (ok d) = true
is_call_answer (refused code shown) = true
is_call_answer _ = false

call_answer_is : (a : Answer) → is_call_answer a ≡ true → IsCallAnswer a
call_answer_is (ok d) h = tt
call_answer_is (refused code shown) h = tt
call_answer_is _ h = absurd (true≢false (sym h))

abbrev is_refusal : Answer → Bool
is_refusal (refused code shown) = true
is_refusal _ = false

refusal_is : (a : Answer) → is_refusal a ≡ true → IsRefusal a
refusal_is (refused code shown) h = tt
refusal_is _ h = absurd (true≢false (sym h))

abbrev is_done : Answer → Bool
is_done (ok json.null) = true
is_done _ = false

done_is : (a : Answer) → is_done a ≡ true → a ≡ ok json.null
done_is (ok json.null) h = refl
done_is _ h = absurd (true≢false (sym h))

-- a tick that is refused is not among those tested
tick_is : (a : Answer) → a ≡ ok json.null → IsTickAnswer a
tick_is a is = subst IsTickAnswer (sym is) refl

abbrev answers : Kind → Answer → Bool
answers kinds.service a = is_call_answer a
answers kinds.tick a = is_done a
answers kinds.give a = is_done a
answers kinds.deadline a = is_done a
answers kinds.bad a = is_refusal a
answers kinds.message a = is_refusal a
answers _ a = true

answers_are : (k : Kind) (a : Answer) → answers k a ≡ true → IsAnswerOf k a
answers_are kinds.service a h = call_answer_is a h
answers_are kinds.tick a h = tick_is a (done_is a h)
answers_are kinds.give a h = done_is a h
answers_are kinds.deadline a h = done_is a h
answers_are kinds.bad a h = refusal_is a h
answers_are kinds.message a h = refusal_is a h
answers_are _ a h = tt

-- ---- what is delivered

abbrev is_one : (json.Data → Bool) → json.Items → Bool
is_one test (json.item d json.no_items) = test d
is_one test _ = false

one_is : (P : json.Data → Type 0) (test : json.Data → Bool) → ((d : json.Data) → test d ≡ true → P d) → (ds : json.Items) → is_one test ds ≡ true → IsOneItem P ds
one_is P test so (json.item d json.no_items) h = so d h
one_is P test so _ h = absurd (true≢false (sym h))

abbrev any_data : json.Data → Bool
any_data d = true

abbrev is_time : json.Data → Bool
is_time (json.number (json.unsigned n)) = nat_lt n times_end
is_time _ = false

time_is : (d : json.Data) → is_time d ≡ true → IsTime d
time_is (json.number (json.unsigned n)) h = ltb-true n times_end h
time_is _ h = absurd (true≢false (sym h))

abbrev is_notice : json.Data → Bool
is_notice (json.object (json.member k (json.boolean b) (json.member l d json.no_members))) = bytes_eq k (codes "ok") && bytes_eq l (codes "value")
is_notice _ = false

abbrev no_bytes : List ℕ → Bool
no_bytes [] = true
no_bytes (b ∷ bs) = false

no_bytes_is : (s : List ℕ) → no_bytes s ≡ true → s ≡ []
no_bytes_is [] h = refl
no_bytes_is (b ∷ bs) h = absurd (true≢false (sym h))

abbrev no_arguments : json.Items → Bool
no_arguments json.no_items = true
no_arguments _ = false

no_arguments_is : (ds : json.Items) → no_arguments ds ≡ true → ds ≡ json.no_items
no_arguments_is json.no_items h = refl
no_arguments_is (json.item d ds) h = absurd (true≢false (sym h))

notice_is : (d : json.Data) → is_notice d ≡ true → IsNotice d
notice_is (json.object (json.member k (json.boolean b) (json.member l d json.no_members))) h = let p = and_parts (bytes_eq k (codes "ok")) (bytes_eq l (codes "value")) h in (bytes_same k (codes "ok") p.0, bytes_same l (codes "value") p.1)
notice_is _ h = absurd (true≢false (sym h))

-- an object, but no facet
abbrev is_target : List ℕ → Bool
is_target s = is_object s && not (starts_with (λ m n. m == n) s (codes "facet"))

target_is : (s : List ℕ) → is_target s ≡ true → IsServiceTarget s
target_is s h = let p = and_parts (is_object s) (not (starts_with (λ m n. m == n) s (codes "facet"))) h in (object_is s p.0, false_from_ne_true _ (λ t. true≢false (sym p.1 ∙ ap not t)))

abbrev delivered : Kind → List ℕ → List ℕ → List ℕ → json.Items → Bool
delivered kinds.service by on method args = is_caller by && (is_target on && is_plain_text method)
delivered kinds.facet by on method args = is_caller by && (numbered (codes "facet") objects_end on && is_plain_text method)
delivered kinds.handler by on method args = numbered (codes "instance") objects_end by && (numbered (codes "zseat") objects_end on && (is_field_name method && is_one any_data args))
delivered kinds.wake by on method args = numbered (codes "instance") objects_end by && (bytes_eq on (codes "timer") && (is_field_name method && is_one is_time args))
delivered kinds.notify by on method args = numbered (codes "instance") objects_end by && (numbered (codes "promise") objects_end on && (is_field_name method && is_one is_notice args))
delivered kinds.deadline by on method args = no_bytes by && (numbered (codes "seat") objects_end on && (no_bytes method && no_arguments args))
delivered kinds.start by on method args = numbered (codes "instance") objects_end by && (bytes_eq on by && (bytes_eq method (codes "start") && no_arguments args))
delivered kinds.tick by on method args = no_bytes by && (bytes_eq on (codes "timer") && (no_bytes method && is_one is_time args))
delivered kinds.give by on method args = is_party by && (is_party on && (is_label method && is_one any_data args))
delivered kinds.bad by on method args = no_bytes by && (no_bytes on && (no_bytes method && no_arguments args))
delivered kinds.message by on method args = is_caller by && (no_bytes on && (is_plain_text method && no_arguments args))

three : {A B C : Type 0} (a b c : Bool) → (a ≡ true → A) → (b ≡ true → B) → (c ≡ true → C) → (a && (b && c)) ≡ true → A × B × C
three a b c f g h all = let p = and_parts a (b && c) all in let q = and_parts b c p.1 in (f p.0, g q.0, h q.1)

four : {A B C D : Type 0} (a b c d : Bool) → (a ≡ true → A) → (b ≡ true → B) → (c ≡ true → C) → (d ≡ true → D) → (a && (b && (c && d))) ≡ true → A × B × C × D
four a b c d f g h k all = let p = and_parts a (b && (c && d)) all in let q = and_parts b (c && d) p.1 in let r = and_parts c d q.1 in (f p.0, g q.0, h r.0, k r.1)

one_of_any : (ds : json.Items) → is_one any_data ds ≡ true → IsOneItem IsAnyData ds
one_of_any = one_is IsAnyData any_data (λ d h. tt)

delivered_is : (k : Kind) (by on method : List ℕ) (args : json.Items) → delivered k by on method args ≡ true → IsDelivered k by on method args
delivered_is kinds.service by on method args h = three (is_caller by) (is_target on) (is_plain_text method) (caller_is by) (target_is on) (text_is method) h
delivered_is kinds.facet by on method args h = three (is_caller by) (numbered (codes "facet") objects_end on) (is_plain_text method) (caller_is by) (numbered_is (codes "facet") objects_end on) (text_is method) h
delivered_is kinds.handler by on method args h = four (numbered (codes "instance") objects_end by) (numbered (codes "zseat") objects_end on) (is_field_name method) (is_one any_data args) (numbered_is (codes "instance") objects_end by) (numbered_is (codes "zseat") objects_end on) (λ e. e) (one_of_any args) h
delivered_is kinds.wake by on method args h = four (numbered (codes "instance") objects_end by) (bytes_eq on (codes "timer")) (is_field_name method) (is_one is_time args) (numbered_is (codes "instance") objects_end by) (bytes_same on (codes "timer")) (λ e. e) (one_is IsTime is_time time_is args) h
delivered_is kinds.notify by on method args h = four (numbered (codes "instance") objects_end by) (numbered (codes "promise") objects_end on) (is_field_name method) (is_one is_notice args) (numbered_is (codes "instance") objects_end by) (numbered_is (codes "promise") objects_end on) (λ e. e) (one_is IsNotice is_notice notice_is args) h
delivered_is kinds.deadline by on method args h = four (no_bytes by) (numbered (codes "seat") objects_end on) (no_bytes method) (no_arguments args) (no_bytes_is by) (numbered_is (codes "seat") objects_end on) (no_bytes_is method) (no_arguments_is args) h
delivered_is kinds.start by on method args h = four (numbered (codes "instance") objects_end by) (bytes_eq on by) (bytes_eq method (codes "start")) (no_arguments args) (numbered_is (codes "instance") objects_end by) (bytes_same on by) (bytes_same method (codes "start")) (no_arguments_is args) h
delivered_is kinds.tick by on method args h = four (no_bytes by) (bytes_eq on (codes "timer")) (no_bytes method) (is_one is_time args) (no_bytes_is by) (bytes_same on (codes "timer")) (no_bytes_is method) (one_is IsTime is_time time_is args) h
delivered_is kinds.give by on method args h = four (is_party by) (is_party on) (is_label method) (is_one any_data args) (λ e. e) (λ e. e) (λ e. e) (one_of_any args) h
delivered_is kinds.bad by on method args h = four (no_bytes by) (no_bytes on) (no_bytes method) (no_arguments args) (no_bytes_is by) (no_bytes_is on) (no_bytes_is method) (no_arguments_is args) h
delivered_is kinds.message by on method args h = four (is_caller by) (no_bytes on) (is_plain_text method) (no_arguments args) (caller_is by) (no_bytes_is on) (text_is method) (no_arguments_is args) h

-- ---- call rows

abbrev are_two : json.Items → Bool
are_two (json.item d (json.item e json.no_items)) = true
are_two _ = false

two_are : (ds : json.Items) → are_two ds ≡ true → AreTwoItems ds
two_are (json.item d (json.item e json.no_items)) h = tt
two_are _ h = absurd (true≢false (sym h))

abbrev is_called : How → List ℕ → List ℕ → json.Items → Bool
is_called kinds.calls on method args = is_object on && is_plain_text method
is_called kinds.sends on method args = is_object on && is_plain_text method
is_called kinds.when on method args = numbered (codes "promise") objects_end on && (is_field_name method && is_one any_data args)
is_called kinds.far on method args = no_bytes on && (is_plain_text method && are_two args)

called_is : (h : How) (on method : List ℕ) (args : json.Items) → is_called h on method args ≡ true → IsCalled h on method args
called_is kinds.calls on method args h = let p = and_parts (is_object on) (is_plain_text method) h in (object_is on p.0, text_is method p.1)
called_is kinds.sends on method args h = let p = and_parts (is_object on) (is_plain_text method) h in (object_is on p.0, text_is method p.1)
called_is kinds.when on method args h = three (numbered (codes "promise") objects_end on) (is_field_name method) (is_one any_data args) (numbered_is (codes "promise") objects_end on) (λ e. e) (one_of_any args) h
called_is kinds.far on method args h = three (no_bytes on) (is_plain_text method) (are_two args) (no_bytes_is on) (text_is method) (two_are args) h

abbrev call_form : Call → Bool
call_form c = is_called c.how c.on c.method c.arguments && (are_data c.arguments && (is_call_answer c.answer && has_answer c.answer))

call_form_is : (c : Call) → call_form c ≡ true → HasCallForm c
call_form_is c h =
    let f = four (is_called c.how c.on c.method c.arguments) (are_data c.arguments) (is_call_answer c.answer) (has_answer c.answer) (called_is c.how c.on c.method c.arguments) (data_are c.arguments) (call_answer_is c.answer) (answer_is c.answer) h in
    record { is_called = f.0; arguments = f.1; answered = f.2; answer = f.3 }

-- ---- values, amounts and holders

abbrev is_key_text : List ℕ → Bool
is_key_text s = is_plain_text s && (nat_lt 0 (length s) && nat_le (length s) 64)

key_text_is : (s : List ℕ) → is_key_text s ≡ true → IsKey s
key_text_is s h = let t = three (is_plain_text s) (nat_lt 0 (length s)) (nat_le (length s) 64) (text_is s) (ltb-true 0 (length s)) (leb-true (length s) 64) h in record { text = t.0; filled = t.1; short = t.2 }

abbrev has_element : Element → Bool
has_element (key s) = is_key_text s
has_element (counted s n) = is_key_text s && (nat_lt 0 n && nat_le n bag_bound)

element_is : (e : Element) → has_element e ≡ true → HasElementForm e
element_is (key s) h = key_text_is s h
element_is (counted s n) h = three (is_key_text s) (nat_lt 0 n) (nat_le n bag_bound) (key_text_is s) (ltb-true 0 n) (leb-true n bag_bound) h

abbrev are_elements : List Element → Bool
are_elements es = list_all has_element es && ((list_all is_key es || list_all (λ e. not (is_key e)) es) && (is_rising (map key_of es) && nat_le (length es) most_keys))

no_keys : (es : List Element) → list_all (λ e. not (is_key e)) es ≡ true → AllByRecursion (λ e. is_key e ≡ false) es
no_keys es h = each_so (λ e. not (is_key e) ≡ true) (λ e. is_key e ≡ false) (λ e i. false_from_ne_true (is_key e) (λ t. true≢false (sym i ∙ ap not t))) es (every (λ e. not (is_key e)) es h)

elements_are : (es : List Element) → are_elements es ≡ true → AreElements es
elements_are es h =
    let f = four (list_all has_element es) (list_all is_key es || list_all (λ e. not (is_key e)) es) (is_rising (map key_of es)) (nat_le (length es) most_keys) (λ i. each_so (λ e. has_element e ≡ true) HasElementForm element_is es (every has_element es i)) (either (AllByRecursion (λ e. is_key e ≡ true) es) (AllByRecursion (λ e. is_key e ≡ false) es) (list_all is_key es) (list_all (λ e. not (is_key e)) es) (every is_key es) (no_keys es)) (rising_is (map key_of es)) (leb-true (length es) most_keys) h in
    record { each = f.0; of_one_kind = f.1; rising = f.2; few = f.3 }

abbrev has_value : Value → Bool
has_value (number n) = nat_le n nat_bound
has_value (elements es) = are_elements es

value_is : (v : Value) → has_value v ≡ true → HasValueForm written v
value_is (number n) h = omega (arith, leb-true n nat_bound h)
value_is (elements es) h = elements_are es h

abbrev has_amount : KeywordAmount → Bool
has_amount a = is_keyword a.keyword && (nat_lt a.brand brands_end && has_value a.value)

amount_is : (a : KeywordAmount) → has_amount a ≡ true → HasAmountForm written a
amount_is a h = let t = three (is_keyword a.keyword) (nat_lt a.brand brands_end) (has_value a.value) (λ e. e) (ltb-true a.brand brands_end) (value_is a.value) h in record { keyword = t.0; brand = t.1; value = t.2 }

abbrev are_amounts : List KeywordAmount → Bool
are_amounts amounts = list_all has_amount amounts && is_rising (map (λ (a : KeywordAmount). a.keyword) amounts)

amounts_are : (amounts : List KeywordAmount) → are_amounts amounts ≡ true → AreAmounts written amounts
amounts_are amounts h =
    let p = and_parts (list_all has_amount amounts) (is_rising (map (λ (a : KeywordAmount). a.keyword) amounts)) h in
    record { each = each_so (λ a. has_amount a ≡ true) (HasAmountForm written) amount_is amounts (every has_amount amounts p.0); rising = rising_is (map (λ (a : KeywordAmount). a.keyword) amounts) p.1 }

abbrev has_holder : Holder → Bool
has_holder (Purse n) = nat_lt n objects_end
has_holder (Payment n) = nat_lt n objects_end
has_holder (Slot seat keyword) = nat_lt seat objects_end && is_keyword keyword
has_holder Hand = true
has_holder Outside = true

holder_is : (h : Holder) → has_holder h ≡ true → HasHolderForm h
holder_is (Purse n) h = ltb-true n objects_end h
holder_is (Payment n) h = ltb-true n objects_end h
holder_is (Slot seat keyword) h = let p = and_parts (nat_lt seat objects_end) (is_keyword keyword) h in (ltb-true seat objects_end p.0, p.1)
holder_is _ h = tt

-- ---- rows of events and sums

abbrev has_rule : ExitRule → Bool
has_rule on_demand = true
has_rule waived = true
has_rule (after_deadline time) = nat_lt time times_end

rule_is : (r : ExitRule) → has_rule r ≡ true → HasExitRuleForm r
rule_is on_demand h = tt
rule_is waived h = tt
rule_is (after_deadline time) h = ltb-true time times_end h

apart_is : (give want : List KeywordAmount) → list_all (λ (a : KeywordAmount). not (has_keyword a.keyword want)) give ≡ true → (k : List ℕ) → has_keyword k give ≡ true → has_keyword k want ≡ false
apart_is [] want h k has = absurd (true≢false (sym has))
apart_is (a ∷ give) want h k has = by (bytes_eq k a.keyword) refl has (apart_is give want (and_parts (not (has_keyword a.keyword want)) _ h).1 k)
  where
    parts : (not (has_keyword a.keyword want) ≡ true) × (list_all (λ (b : KeywordAmount). not (has_keyword b.keyword want)) give ≡ true)
    parts = and_parts (not (has_keyword a.keyword want)) _ h

    by : (b : Bool) → bytes_eq k a.keyword ≡ b → (b || has_keyword k give) ≡ true → (has_keyword k give ≡ true → has_keyword k want ≡ false) → has_keyword k want ≡ false
    by true is found rest = ap (λ s. has_keyword s want) (bytes_same k a.keyword is) ∙ false_from_ne_true _ (λ t. true≢false (sym parts.0 ∙ ap not t))
    by false is found rest = rest found

abbrev has_opening : Opening → Bool
has_opening o = (nat_lt o.seat objects_end && nat_lt o.instance objects_end) && (are_amounts o.give && (are_amounts o.want && (list_all (λ (a : KeywordAmount). not (has_keyword a.keyword o.want)) o.give && has_rule o.exit)))

opening_is : (o : Opening) → has_opening o ≡ true → HasOpeningForm written o
opening_is o h =
    let p = and_parts (nat_lt o.seat objects_end && nat_lt o.instance objects_end) _ h in
    let q = and_parts (nat_lt o.seat objects_end) (nat_lt o.instance objects_end) p.0 in
    let f = four (are_amounts o.give) (are_amounts o.want) (list_all (λ (a : KeywordAmount). not (has_keyword a.keyword o.want)) o.give) (has_rule o.exit) (amounts_are o.give) (amounts_are o.want) (apart_is o.give o.want) (rule_is o.exit) p.1 in
    record { seat = ltb-true o.seat objects_end q.0; instance = ltb-true o.instance objects_end q.1; give = f.0; want = f.1; apart = f.2; exit = f.3 }

abbrev has_exit : SeatExit → Bool
has_exit x = nat_lt x.seat objects_end && (list_all (λ (p : Payout). is_keyword p.keyword) x.payouts && (list_all (λ (p : Payout). nat_lt p.payment objects_end) x.payouts && is_rising (map (λ (p : Payout). p.keyword) x.payouts)))

exit_is : (x : SeatExit) → has_exit x ≡ true → HasExitForm x
exit_is x h =
    let f = four (nat_lt x.seat objects_end) (list_all (λ (p : Payout). is_keyword p.keyword) x.payouts) (list_all (λ (p : Payout). nat_lt p.payment objects_end) x.payouts) (is_rising (map (λ (p : Payout). p.keyword) x.payouts)) (ltb-true x.seat objects_end) (every (λ (p : Payout). is_keyword p.keyword) x.payouts) (λ i. each_so (λ (p : Payout). nat_lt p.payment objects_end ≡ true) (λ p. p.payment < objects_end) (λ p e. ltb-true p.payment objects_end e) x.payouts (every (λ (p : Payout). nat_lt p.payment objects_end) x.payouts i)) (rising_is (map (λ (p : Payout). p.keyword) x.payouts)) h in
    record { seat = f.0; keywords = f.1; payments = f.2; rising = f.3 }

abbrev has_event : Event → Bool
has_event (called c) = call_form c
has_event (opened o) = has_opening o
has_event (moved m) = nat_lt m.brand brands_end && (has_holder m.from && (has_holder m.to && has_value m.value))
has_event (exited x) = has_exit x
has_event (settled p (fulfilled d)) = nat_lt p objects_end && is_data d
has_event (settled p (broken d)) = nat_lt p objects_end && is_data d

event_is : (e : Event) → has_event e ≡ true → HasEventForm written e
event_is (called c) h = call_form_is c h
event_is (opened o) h = opening_is o h
event_is (moved m) h = four (nat_lt m.brand brands_end) (has_holder m.from) (has_holder m.to) (has_value m.value) (ltb-true m.brand brands_end) (holder_is m.from) (holder_is m.to) (value_is m.value) h
event_is (exited x) h = exit_is x h
event_is (settled p (fulfilled d)) h = let q = and_parts (nat_lt p objects_end) (is_data d) h in (ltb-true p objects_end q.0, data_is d q.1)
event_is (settled p (broken d)) h = let q = and_parts (nat_lt p objects_end) (is_data d) h in (ltb-true p objects_end q.0, data_is d q.1)

abbrev has_sum : Sum → Bool
has_sum s = (nat_lt s.brand brands_end && nat_lt s.minted totals_end) && (nat_lt s.burned totals_end && (nat_lt s.purses totals_end && (nat_lt s.payments totals_end && nat_lt s.slots totals_end)))

sum_is : (s : Sum) → has_sum s ≡ true → HasSumForm s
sum_is s h =
    let p = and_parts (nat_lt s.brand brands_end && nat_lt s.minted totals_end) _ h in
    let q = and_parts (nat_lt s.brand brands_end) (nat_lt s.minted totals_end) p.0 in
    let f = four (nat_lt s.burned totals_end) (nat_lt s.purses totals_end) (nat_lt s.payments totals_end) (nat_lt s.slots totals_end) (ltb-true s.burned totals_end) (ltb-true s.purses totals_end) (ltb-true s.payments totals_end) (ltb-true s.slots totals_end) p.1 in
    record { brand = ltb-true s.brand brands_end q.0; minted = ltb-true s.minted totals_end q.1; burned = f.0; purses = f.1; payments = f.2; slots = f.3 }

-- ---- turns

abbrev may_stand : Bool → Event → Bool
may_stand runs (called c) = runs
may_stand runs _ = true

stands : (runs : Bool) (e : Event) → may_stand runs e ≡ true → MayStand runs e
stands runs (called c) h = h
stands runs _ h = tt

abbrev turn_form : Turn → Bool
turn_form t = (nat_lt t.number (2 ^ 64) && (delivered t.kind t.by t.on t.method t.arguments && (are_data t.arguments && answers t.kind t.answer)))
    && ((has_answer t.answer && list_all (λ row. nat_le (depth row) max_depth) (rows_of written t)) && (list_all has_event t.events && (list_all (may_stand (may_call t.answer)) t.events && list_all has_sum t.sums)))

turn_form_is : (t : Turn) → turn_form t ≡ true → IsInForm written t
turn_form_is t h =
    let p = and_parts (nat_lt t.number (2 ^ 64) && (delivered t.kind t.by t.on t.method t.arguments && (are_data t.arguments && answers t.kind t.answer))) _ h in
    let f = four (nat_lt t.number (2 ^ 64)) (delivered t.kind t.by t.on t.method t.arguments) (are_data t.arguments) (answers t.kind t.answer) (ltb-true t.number (2 ^ 64)) (delivered_is t.kind t.by t.on t.method t.arguments) (data_are t.arguments) (answers_are t.kind t.answer) p.0 in
    let q = and_parts (has_answer t.answer && list_all (λ row. nat_le (depth row) max_depth) (rows_of written t)) _ p.1 in
    let r = and_parts (has_answer t.answer) (list_all (λ row. nat_le (depth row) max_depth) (rows_of written t)) q.0 in
    let g = three (list_all has_event t.events) (list_all (may_stand (may_call t.answer)) t.events) (list_all has_sum t.sums) (λ i. each_so (λ e. has_event e ≡ true) (HasEventForm written) event_is t.events (every has_event t.events i)) (λ i. each_so (λ e. may_stand (may_call t.answer) e ≡ true) (MayStand (may_call t.answer)) (stands (may_call t.answer)) t.events (every (may_stand (may_call t.answer)) t.events i)) (λ i. each_so (λ s. has_sum s ≡ true) HasSumForm sum_is t.sums (every has_sum t.sums i)) q.1 in
    record {
      number = f.0;
      delivered = f.1;
      arguments = f.2;
      answered = f.3;
      answer = answer_is t.answer r.0;
      events = g.0;
      calls = g.1;
      sums = g.2;
      nesting = each_so (λ row. nat_le (depth row) max_depth ≡ true) (λ row. depth row ≤ max_depth) (λ row e. leb-true (depth row) max_depth e) (rows_of written t) (every (λ row. nat_le (depth row) max_depth) (rows_of written t) r.1);
    }

abbrev pub are_in_form : List Turn → Bool
are_in_form ts = list_all turn_form ts

pub in_form : (ts : List Turn) (left : ℕ) → are_in_form ts ≡ true → nat_lt (length ts) (2 ^ 64) ≡ true → nat_lt left (2 ^ 64) ≡ true → AreInForm written ts left
in_form ts left h many few = record { turns = each_so (λ t. turn_form t ≡ true) (IsInForm written) turn_form_is ts (every turn_form ts h); as_many = ltb-true (length ts) (2 ^ 64) many; few = ltb-true left (2 ^ 64) few }
