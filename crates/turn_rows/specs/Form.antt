-- The form of rows: which texts, numbers, data and answers may stand where, for each kind of turn. What a row
-- shows of a refusal and which methods an object has are no part of it.
use Rattle.std.specs.Prelude.{◌≡◌, ◌≤◌, ◌<◌, ◌^◌, ◌==◌, ℕ, suc, ℤ, pos, negsuc, Bool, true, false, not, ◌&&◌, List, [], ◌∷◌, ◌++◌, ◌⊎◌, map, length, codes, decimal}
use Rattle.std.specs.Fmt.{signed_decimal}
use Rattle.std.specs.List.{AllByRecursion, list_any, starts_with}
use Rattle.std.specs.List.Sorted.{IsStrictlySortedBy}
use Rattle.std.specs.Str.{IsUtf8, bytes_eq}
use Rattle.serde_json.specs.Data as json
use Rattle.serde_json.specs.Data.{depth}
use Rattle.serde_json.specs.Read.{max_depth}
use Rattle.rights_model.specs.host_text.Words.{is_field_name, is_keyword, is_label}
use Rattle.rights_model.specs.amount_math.Content.{key_cmp}
use Rattle.rights_model.specs.amount_math.ValueView.{bag_bound, most_keys}
use Rattle.rights_model.specs.declared.Holder.{Holder}
use Rattle.rights_model.specs.declared.Holder.TheVariants as holders
use Rattle.rights_model.specs.declared.Sum.{Sum}
use Rattle.turn_rows.specs.Editions.{nat_end}
use Rattle.turn_rows.specs.Kinds as kinds
use Rattle.turn_rows.specs.Kinds.{How, Kind}
use Rattle.turn_rows.specs.Rows.{rows_of}
use Rattle.turn_rows.specs.Turns.{Answer, ok, refused, threw, spent, Call, Element, key, counted, Value, number, elements, KeywordAmount, ExitRule, on_demand, waived, after_deadline, Opening, SeatExit, Settlement, fulfilled, broken, Event, called, opened, moved, exited, settled, Turn}
use Rattle.turn_rows.specs.declared.editions.Edition.{Edition}

-- ---- numbers

-- the numbers of brands, of all other objects, and of times
abbrev pub brands_end : ℕ
brands_end = 2 ^ 16

abbrev pub objects_end : ℕ
objects_end = 2 ^ 32

abbrev pub times_end : ℕ
times_end = 2 ^ 63

abbrev pub totals_end : ℕ
totals_end = 2 ^ 128

-- ---- texts

abbrev pub IsOneOf : List (List ℕ) → List ℕ → Type 0
IsOneOf texts s = list_any (bytes_eq s) texts ≡ true

-- a party's name: a label that doesn't begin with `instance`
abbrev pub IsParty : List ℕ → Type 0
IsParty s = (is_label s && not (starts_with (λ m n. m == n) s (codes "instance"))) ≡ true

-- the name of a function, as the contract's text has it
abbrev pub IsFunctionName : List ℕ → Type 0
IsFunctionName s = is_field_name s ≡ true

-- an object's name: its word and its number
pub record IsNumbered (word : List ℕ) (end : ℕ) (s : List ℕ) : Type 0 where
  pub number : ℕ
  pub below : number < end
  pub is : s ≡ word ++ decimal number

-- there is one object alone of each of these names
abbrev pub single_names : List (List ℕ)
single_names = codes "ertp" ∷ codes "zoe" ∷ codes "timer" ∷ []

-- a brand, its issuer, its mint and a contract's mint of it have the brand's number
abbrev pub brand_words : List (List ℕ)
brand_words = codes "brand" ∷ codes "issuer" ∷ codes "mint" ∷ codes "zmint" ∷ []

abbrev pub object_words : List (List ℕ)
object_words =
    codes "purse" ∷ codes "deposit" ∷ codes "payment" ∷ codes "installation" ∷ codes "instance" ∷ codes "zcf" ∷ codes "seat" ∷ codes "zseat" ∷ codes "facet" ∷ codes "promise" ∷ []

pub record IsNumberedBy (words : List (List ℕ)) (end : ℕ) (s : List ℕ) : Type 0 where
  pub word : List ℕ
  pub one_of : IsOneOf words word
  pub numbered : IsNumbered word end s

abbrev pub IsObjectName : List ℕ → Type 0
IsObjectName s = IsOneOf single_names s ⊎ IsNumberedBy brand_words brands_end s ⊎ IsNumberedBy object_words objects_end s

abbrev pub IsInstanceName : List ℕ → Type 0
IsInstanceName s = IsNumbered (codes "instance") objects_end s

-- who calls: a party, or an instance
abbrev pub IsCaller : List ℕ → Type 0
IsCaller s = IsParty s ⊎ IsInstanceName s

-- ---- data

-- a number that is printed plainly: at most 2^63 - 1 either way
abbrev pub IsSmallNumber : json.Num → Type 0
IsSmallNumber (json.unsigned n) = n < 2 ^ 63
IsSmallNumber (json.negative (pos n)) = ⊥
IsSmallNumber (json.negative (negsuc n)) = suc n < 2 ^ 63
IsSmallNumber (json.float x) = ⊥

-- beyond that, within 128 bits
abbrev pub IsWideNumber : ℤ → Type 0
IsWideNumber (pos n) = (2 ^ 63 ≤ n) × (n < 2 ^ 127)
IsWideNumber (negsuc n) = (2 ^ 63 ≤ suc n) × (n < 2 ^ 127)

pub record IsWideText (s : List ℕ) : Type 0 where
  pub number : ℤ
  pub wide : IsWideNumber number
  pub is : s ≡ signed_decimal number

-- `{"@":"purse0"}`, `{"=>":"open"}`, `{"#":"9223372036854775808"}`: an object, a function, a number that isn't printed plainly
abbrev pub IsMark : json.Members → Type 0
IsMark (json.member k (json.string s) json.no_members) =
    ((k ≡ codes "@") × IsObjectName s) ⊎ ((k ≡ codes "=>") × IsFunctionName s) ⊎ ((k ≡ codes "#") × IsWideText s)
IsMark _ = ⊥

abbrev pub names_of : json.Members → List (List ℕ)
names_of json.no_members = []
names_of (json.member k d ms) = k ∷ names_of ms

-- data as it is printed; a record's fields stand in byte order of their names
abbrev mutual
  pub IsData : json.Data → Type 0
  IsData json.null = Unit {0}
  IsData (json.boolean b) = Unit {0}
  IsData (json.number n) = IsSmallNumber n
  IsData (json.string s) = IsUtf8 s
  IsData (json.array ds) = AreData ds
  IsData (json.object ms) = IsMark ms ⊎ (AreFields ms × IsStrictlySortedBy key_cmp (names_of ms))

  pub AreData : json.Items → Type 0
  AreData json.no_items = Unit {0}
  AreData (json.item d ds) = IsData d × AreData ds

  pub AreFields : json.Members → Type 0
  AreFields json.no_members = Unit {0}
  AreFields (json.member k d ms) = (is_field_name k ≡ true) × IsData d × AreFields ms

-- ---- answers

-- the codes of refusals
abbrev pub refusal_codes : List (List ℕ)
refusal_codes =
    codes "BadLine" ∷ codes "BadField" ∷ codes "BadLabel" ∷ codes "BadKeyword" ∷ codes "UnknownName" ∷ codes "NameTaken" ∷ codes "Pending" ∷ codes "Broken" ∷ codes "WrongObject" ∷ codes "NoMethod"
    ∷ codes "BadArgs" ∷ codes "LocalOnly" ∷ codes "BadValue" ∷ codes "WrongBrand" ∷ codes "Overlap" ∷ codes "NotEnough" ∷ codes "TooMuch" ∷ codes "DeadPayment" ∷ codes "RepeatedPayment"
    ∷ codes "WrongAmount" ∷ codes "NotInvitation" ∷ codes "Closed" ∷ codes "KeywordMismatch" ∷ codes "BadExit" ∷ codes "NotOnDemand" ∷ codes "SeatExited" ∷ codes "NotConserved" ∷ codes "NotOfferSafe"
    ∷ codes "RepeatedSeat" ∷ codes "StagedLeftOut" ∷ codes "OneSeat" ∷ codes "WrongInstance" ∷ codes "KeywordTaken" ∷ codes "Backwards" ∷ codes "PromiseCycle" ∷ codes "Limit" ∷ codes "TextRefused"
    ∷ codes "Spent" ∷ codes "BadStep" ∷ []

abbrev pub HasAnswerForm : Answer → Type 0
HasAnswerForm (ok d) = IsData d
HasAnswerForm (refused code shown) = IsOneOf refusal_codes code × AreData shown
HasAnswerForm (threw d) = IsData d
HasAnswerForm (spent meter) = meter < 2 ^ 64

-- a call of a method, or of the host by a contract, is answered or refused
abbrev pub IsCallAnswer : Answer → Type 0
IsCallAnswer (ok d) = Unit {0}
IsCallAnswer (refused code shown) = Unit {0}
IsCallAnswer _ = ⊥

abbrev pub IsRefusal : Answer → Type 0
IsRefusal (refused code shown) = Unit {0}
IsRefusal _ = ⊥

abbrev pub IsDone : Answer → Type 0
IsDone a = a ≡ ok json.null

-- the time is set, or isn't
abbrev pub IsTickAnswer : Answer → Type 0
IsTickAnswer (ok d) = d ≡ json.null
IsTickAnswer (refused code shown) = Unit {0}
IsTickAnswer _ = ⊥

-- which answers a turn of a kind may have; a function of a contract may come to any
abbrev pub IsAnswerOf : Kind → Answer → Type 0
IsAnswerOf kinds.service a = IsCallAnswer a
IsAnswerOf kinds.tick a = IsTickAnswer a
IsAnswerOf kinds.give a = IsDone a
IsAnswerOf kinds.deadline a = IsDone a
IsAnswerOf kinds.bad a = IsRefusal a
IsAnswerOf kinds.message a = IsRefusal a
IsAnswerOf kinds.facet a = Unit {0}
IsAnswerOf kinds.handler a = Unit {0}
IsAnswerOf kinds.wake a = Unit {0}
IsAnswerOf kinds.notify a = Unit {0}
IsAnswerOf kinds.start a = Unit {0}

-- ---- what is delivered

abbrev pub IsTime : json.Data → Type 0
IsTime (json.number (json.unsigned n)) = n < times_end
IsTime _ = ⊥

-- `{"ok":b,"value":d}`: what a promise was settled with
abbrev pub IsNotice : json.Data → Type 0
IsNotice (json.object (json.member k (json.boolean b) (json.member l d json.no_members))) = (k ≡ codes "ok") × (l ≡ codes "value")
IsNotice _ = ⊥

abbrev pub IsOneItem : (json.Data → Type 0) → json.Items → Type 0
IsOneItem P (json.item d json.no_items) = P d
IsOneItem P _ = ⊥

abbrev pub AreTwoItems : json.Items → Type 0
AreTwoItems (json.item d (json.item e json.no_items)) = Unit {0}
AreTwoItems _ = ⊥

abbrev pub IsAnyData : json.Data → Type 0
IsAnyData d = Unit {0}

-- an object, but no facet: a call of one is a turn of a kind of its own
abbrev pub IsServiceTarget : List ℕ → Type 0
IsServiceTarget s = IsObjectName s × (starts_with (λ m n. m == n) s (codes "facet") ≡ false)

-- by whom, on what, which method and how many arguments, for each kind
abbrev pub IsDelivered : Kind → List ℕ → List ℕ → List ℕ → json.Items → Type 0
IsDelivered kinds.service by on method args = IsCaller by × IsServiceTarget on × IsUtf8 method
IsDelivered kinds.facet by on method args = IsCaller by × IsNumbered (codes "facet") objects_end on × IsUtf8 method
IsDelivered kinds.handler by on method args = IsInstanceName by × IsNumbered (codes "zseat") objects_end on × IsFunctionName method × IsOneItem IsAnyData args
IsDelivered kinds.wake by on method args = IsInstanceName by × (on ≡ codes "timer") × IsFunctionName method × IsOneItem IsTime args
IsDelivered kinds.notify by on method args = IsInstanceName by × IsNumbered (codes "promise") objects_end on × IsFunctionName method × IsOneItem IsNotice args
IsDelivered kinds.deadline by on method args = (by ≡ []) × IsNumbered (codes "seat") objects_end on × (method ≡ []) × (args ≡ json.no_items)
IsDelivered kinds.start by on method args = IsInstanceName by × (on ≡ by) × (method ≡ codes "start") × (args ≡ json.no_items)
IsDelivered kinds.tick by on method args = (by ≡ []) × (on ≡ codes "timer") × (method ≡ []) × IsOneItem IsTime args
IsDelivered kinds.give by on method args = IsParty by × IsParty on × (is_label method ≡ true) × IsOneItem IsAnyData args
IsDelivered kinds.bad by on method args = (by ≡ []) × (on ≡ []) × (method ≡ []) × (args ≡ json.no_items)
IsDelivered kinds.message by on method args = IsCaller by × (on ≡ []) × IsUtf8 method × (args ≡ json.no_items)

-- ---- call rows

-- on what a contract calls, what it names, and how many arguments there are
abbrev pub IsCalled : How → List ℕ → List ℕ → json.Items → Type 0
IsCalled kinds.calls on method args = IsObjectName on × IsUtf8 method
IsCalled kinds.sends on method args = IsObjectName on × IsUtf8 method
IsCalled kinds.when on method args = IsNumbered (codes "promise") objects_end on × IsFunctionName method × IsOneItem IsAnyData args
IsCalled kinds.far on method args = (on ≡ []) × IsUtf8 method × AreTwoItems args

pub record HasCallForm (c : Call) : Type 0 where
  pub is_called : IsCalled c.how c.on c.method c.arguments
  pub arguments : AreData c.arguments
  pub answered : IsCallAnswer c.answer
  pub answer : HasAnswerForm c.answer

-- ---- values, amounts and holders

abbrev pub is_key : Element → Bool
is_key (key s) = true
is_key (counted s n) = false

abbrev pub key_of : Element → List ℕ
key_of (key s) = s
key_of (counted s n) = s

-- a key of 1 to 64 bytes, which a bag counts at most 2^63 - 1 times
pub record IsKey (s : List ℕ) : Type 0 where
  pub text : IsUtf8 s
  pub filled : 0 < length s
  pub short : length s ≤ 64

abbrev pub HasElementForm : Element → Type 0
HasElementForm (key s) = IsKey s
HasElementForm (counted s n) = IsKey s × (0 < n) × (n ≤ bag_bound)

-- at most 4,096 keys, all of a set or all of a bag, in byte order
pub record AreElements (es : List Element) : Type 0 where
  pub each : AllByRecursion HasElementForm es
  pub of_one_kind : AllByRecursion (λ e. is_key e ≡ true) es ⊎ AllByRecursion (λ e. is_key e ≡ false) es
  pub rising : IsStrictlySortedBy key_cmp (map key_of es)
  pub few : length es ≤ most_keys

abbrev pub HasValueForm : Edition → Value → Type 0
HasValueForm e (number n) = n < nat_end e
HasValueForm e (elements es) = AreElements es

pub record HasAmountForm (e : Edition) (a : KeywordAmount) : Type 0 where
  pub keyword : is_keyword a.keyword ≡ true
  pub brand : a.brand < brands_end
  pub value : HasValueForm e a.value

-- amounts stand in byte order of their keywords
pub record AreAmounts (e : Edition) (amounts : List KeywordAmount) : Type 0 where
  pub each : AllByRecursion (HasAmountForm e) amounts
  pub rising : IsStrictlySortedBy key_cmp (map (λ a. a.keyword) amounts)

abbrev pub HasHolderForm : Holder → Type 0
HasHolderForm (holders.Purse n) = n < objects_end
HasHolderForm (holders.Payment n) = n < objects_end
HasHolderForm (holders.Slot seat keyword) = (seat < objects_end) × (is_keyword keyword ≡ true)
HasHolderForm holders.Hand = Unit {0}
HasHolderForm holders.Outside = Unit {0}

-- ---- rows of events and sums

abbrev pub HasExitRuleForm : ExitRule → Type 0
HasExitRuleForm on_demand = Unit {0}
HasExitRuleForm waived = Unit {0}
HasExitRuleForm (after_deadline time) = time < times_end

-- some amount stands under the keyword
abbrev pub has_keyword : List ℕ → List KeywordAmount → Bool
has_keyword keyword amounts = list_any (λ (a : KeywordAmount). bytes_eq keyword a.keyword) amounts

-- a keyword stands in give or in want, and not in both
pub record HasOpeningForm (e : Edition) (o : Opening) : Type 0 where
  pub seat : o.seat < objects_end
  pub instance : o.instance < objects_end
  pub give : AreAmounts e o.give
  pub want : AreAmounts e o.want
  pub apart : (keyword : List ℕ) → has_keyword keyword o.give ≡ true → has_keyword keyword o.want ≡ false
  pub exit : HasExitRuleForm o.exit

-- payouts stand in byte order of their keywords
pub record HasExitForm (x : SeatExit) : Type 0 where
  pub seat : x.seat < objects_end
  pub keywords : AllByRecursion (λ p. is_keyword p.keyword ≡ true) x.payouts
  pub payments : AllByRecursion (λ p. p.payment < objects_end) x.payouts
  pub rising : IsStrictlySortedBy key_cmp (map (λ p. p.keyword) x.payouts)

abbrev pub HasSettlementForm : Settlement → Type 0
HasSettlementForm (fulfilled d) = IsData d
HasSettlementForm (broken d) = IsData d

abbrev pub HasEventForm : Edition → Event → Type 0
HasEventForm e (called c) = HasCallForm c
HasEventForm e (opened o) = HasOpeningForm e o
HasEventForm e (moved m) = (m.brand < brands_end) × HasHolderForm m.from × HasHolderForm m.to × HasValueForm e m.value
HasEventForm e (exited x) = HasExitForm x
HasEventForm e (settled promise s) = (promise < objects_end) × HasSettlementForm s

pub record HasSumForm (s : Sum) : Type 0 where
  pub brand : s.brand < brands_end
  pub minted : s.minted < totals_end
  pub burned : s.burned < totals_end
  pub purses : s.purses < totals_end
  pub payments : s.payments < totals_end
  pub slots : s.slots < totals_end

-- ---- turns

-- a turn that spent its meter has no call rows
abbrev pub may_call : Answer → Bool
may_call (spent meter) = false
may_call _ = true

-- calls of the host stand only where they may
abbrev pub MayStand : Bool → Event → Type 0
MayStand may (called c) = may ≡ true
MayStand may _ = Unit {0}

-- a turn whose rows are those that may be written: which they are goes by their kind, and no row nests deeper than is read
pub record IsInForm (e : Edition) (t : Turn) : Type 0 where
  pub number : t.number < 2 ^ 64
  pub delivered : IsDelivered t.kind t.by t.on t.method t.arguments
  pub arguments : AreData t.arguments
  pub answered : IsAnswerOf t.kind t.answer
  pub answer : HasAnswerForm t.answer
  pub events : AllByRecursion (HasEventForm e) t.events
  pub calls : AllByRecursion (MayStand (may_call t.answer)) t.events
  pub sums : AllByRecursion HasSumForm t.sums
  pub nesting : AllByRecursion (λ row. depth row ≤ max_depth) (rows_of e t)

-- turns in form, and a close row with numbers of 64 bits
pub record AreInForm (e : Edition) (ts : List Turn) (left : ℕ) : Type 0 where
  pub turns : AllByRecursion (IsInForm e) ts
  pub as_many : length ts < 2 ^ 64
  pub few : left < 2 ^ 64
