-- The codes of refusals, each with what it shows: numbers, texts and values, never objects. And a refusal as data.
use Rattle.std.specs.Prelude.{ℕ, ◌-◌, ◌^◌, ℤ, min, pos, List, [], ◌∷◌, map, codes}
use Rattle.host_data.specs.amount_math.ValueView.{ValueView}
use Rattle.host_data.specs.Tree.{Tree, array, fields, field, no_fields}
use Rattle.host_data.specs.Tree as trees
use Rattle.host_data.specs.View.{items_of}
use Rattle.host_data.specs.Values.{value_tree}
use Rattle.refusals.specs.declared.codes.BareCode.{BareCode}
use Rattle.refusals.specs.declared.codes.BareCode.TheVariants.{BadLine, Pending, LocalOnly, BadValue, BadExit, OneSeat}
use Rattle.refusals.specs.declared.codes.NumberCode.{NumberCode}
use Rattle.refusals.specs.declared.codes.NumberCode.TheVariants.{Broken, WrongObject, BadArgs, WrongBrand, DeadPayment, RepeatedPayment, NotInvitation, Closed, NotOnDemand, SeatExited, NotOfferSafe, RepeatedSeat, StagedLeftOut, WrongInstance, PromiseCycle, Limit, Spent}
use Rattle.refusals.specs.declared.codes.TextCode.{TextCode}
use Rattle.refusals.specs.declared.codes.TextCode.TheVariants.{BadField, BadLabel, BadKeyword, UnknownName, NameTaken, NoMethod, KeywordMismatch, KeywordTaken, BadStep}
use Rattle.refusals.specs.declared.codes.Refusal.{Refusal}
use Rattle.refusals.specs.declared.codes.Refusal.TheVariants.{Bare, Numbered, Worded, Overlap, NotEnough, TooMuch, WrongAmount, NotConserved, Backwards, TextRefused}

-- ---- the table

-- codes that show nothing
abbrev pub bare_name : BareCode → List ℕ
bare_name BadLine = codes "BadLine"
bare_name Pending = codes "Pending"
bare_name LocalOnly = codes "LocalOnly"
bare_name BadValue = codes "BadValue"
bare_name BadExit = codes "BadExit"
bare_name OneSeat = codes "OneSeat"

-- codes that show a number
abbrev pub number_name : NumberCode → List ℕ
number_name Broken = codes "Broken"
number_name WrongObject = codes "WrongObject"
number_name BadArgs = codes "BadArgs"
number_name WrongBrand = codes "WrongBrand"
number_name DeadPayment = codes "DeadPayment"
number_name RepeatedPayment = codes "RepeatedPayment"
number_name NotInvitation = codes "NotInvitation"
number_name Closed = codes "Closed"
number_name NotOnDemand = codes "NotOnDemand"
number_name SeatExited = codes "SeatExited"
number_name NotOfferSafe = codes "NotOfferSafe"
number_name RepeatedSeat = codes "RepeatedSeat"
number_name StagedLeftOut = codes "StagedLeftOut"
number_name WrongInstance = codes "WrongInstance"
number_name PromiseCycle = codes "PromiseCycle"
number_name Limit = codes "Limit"
number_name Spent = codes "Spent"

-- codes that show a text
abbrev pub text_name : TextCode → List ℕ
text_name BadField = codes "BadField"
text_name BadLabel = codes "BadLabel"
text_name BadKeyword = codes "BadKeyword"
text_name UnknownName = codes "UnknownName"
text_name NameTaken = codes "NameTaken"
text_name NoMethod = codes "NoMethod"
text_name KeywordMismatch = codes "KeywordMismatch"
text_name KeywordTaken = codes "KeywordTaken"
text_name BadStep = codes "BadStep"

abbrev pub code_of : Refusal → List ℕ
code_of (Bare code) = bare_name code
code_of (Numbered code n) = number_name code
code_of (Worded code t) = text_name code
code_of (Overlap key) = codes "Overlap"
code_of (NotEnough short) = codes "NotEnough"
code_of (TooMuch sum bound) = codes "TooMuch"
code_of (WrongAmount values) = codes "WrongAmount"
code_of (NotConserved unkept) = codes "NotConserved"
code_of (Backwards now given) = codes "Backwards"
code_of (TextRefused place reason) = codes "TextRefused"

-- what may be shown
pub data Shown : Type 0 where
  number : ℤ → Shown
  words : List ℕ → Shown
  worth : ValueView → Shown

abbrev pub shown_by : Refusal → List Shown
shown_by (Bare code) = []
shown_by (Numbered code n) = number (pos n) ∷ []
shown_by (Worded code t) = words t ∷ []
shown_by (Overlap key) = words key ∷ []
shown_by (NotEnough short) = worth short.held ∷ worth short.asked ∷ []
shown_by (TooMuch sum bound) = number sum ∷ number bound ∷ []
shown_by (WrongAmount values) = worth values.held ∷ worth values.named ∷ []
shown_by (NotConserved unkept) = number (pos unkept.brand) ∷ words unkept.element ∷ number unkept.before ∷ number unkept.after ∷ []
shown_by (Backwards now given) = number (pos now) ∷ number (pos given) ∷ []
shown_by (TextRefused place reason) = number (pos place) ∷ words reason ∷ []

-- ---- each by its name, for the definitions of rows

abbrev pub bad_line : Refusal
bad_line = Bare BadLine

abbrev pub pending : Refusal
pending = Bare Pending

abbrev pub local_only : Refusal
local_only = Bare LocalOnly

abbrev pub bad_value : Refusal
bad_value = Bare BadValue

abbrev pub bad_exit : Refusal
bad_exit = Bare BadExit

abbrev pub one_seat : Refusal
one_seat = Bare OneSeat

abbrev pub broken : ℕ → Refusal
broken promise = Numbered Broken promise

abbrev pub wrong_object : ℕ → Refusal
wrong_object place = Numbered WrongObject place

abbrev pub bad_args : ℕ → Refusal
bad_args place = Numbered BadArgs place

abbrev pub wrong_brand : ℕ → Refusal
wrong_brand brand = Numbered WrongBrand brand

abbrev pub dead_payment : ℕ → Refusal
dead_payment payment = Numbered DeadPayment payment

abbrev pub repeated_payment : ℕ → Refusal
repeated_payment payment = Numbered RepeatedPayment payment

abbrev pub not_invitation : ℕ → Refusal
not_invitation payment = Numbered NotInvitation payment

abbrev pub closed : ℕ → Refusal
closed instance = Numbered Closed instance

abbrev pub not_on_demand : ℕ → Refusal
not_on_demand seat = Numbered NotOnDemand seat

abbrev pub seat_exited : ℕ → Refusal
seat_exited seat = Numbered SeatExited seat

abbrev pub not_offer_safe : ℕ → Refusal
not_offer_safe seat = Numbered NotOfferSafe seat

abbrev pub repeated_seat : ℕ → Refusal
repeated_seat seat = Numbered RepeatedSeat seat

abbrev pub staged_left_out : ℕ → Refusal
staged_left_out seat = Numbered StagedLeftOut seat

abbrev pub wrong_instance : ℕ → Refusal
wrong_instance seat = Numbered WrongInstance seat

abbrev pub promise_cycle : ℕ → Refusal
promise_cycle promise = Numbered PromiseCycle promise

abbrev pub limit : ℕ → Refusal
limit bound = Numbered Limit bound

abbrev pub spent : ℕ → Refusal
spent meter = Numbered Spent meter

abbrev pub bad_field : List ℕ → Refusal
bad_field name = Worded BadField name

abbrev pub bad_label : List ℕ → Refusal
bad_label given = Worded BadLabel given

abbrev pub bad_keyword : List ℕ → Refusal
bad_keyword given = Worded BadKeyword given

abbrev pub unknown_name : List ℕ → Refusal
unknown_name path = Worded UnknownName path

abbrev pub name_taken : List ℕ → Refusal
name_taken label = Worded NameTaken label

abbrev pub no_method : List ℕ → Refusal
no_method method = Worded NoMethod method

abbrev pub keyword_mismatch : List ℕ → Refusal
keyword_mismatch keyword = Worded KeywordMismatch keyword

abbrev pub keyword_taken : List ℕ → Refusal
keyword_taken keyword = Worded KeywordTaken keyword

abbrev pub bad_step : List ℕ → Refusal
bad_step reason = Worded BadStep reason

abbrev pub not_enough : ValueView → ValueView → Refusal
not_enough held asked = NotEnough (record { held = held; asked = asked })

abbrev pub wrong_amount : ValueView → ValueView → Refusal
wrong_amount held named = WrongAmount (record { held = held; named = named })

-- a sum as it is shown: one that passes the greatest number that data can hold is shown as that
abbrev pub most_shown : ℕ
most_shown = 2 ^ 127 - 1

abbrev pub capped : ℕ → ℕ
capped sum = min sum most_shown

abbrev pub too_much : ℕ → ℕ → Refusal
too_much sum bound = TooMuch (pos (capped sum)) (pos (capped bound))

-- ---- as data

abbrev pub shown_tree : Shown → Tree
shown_tree (number z) = trees.number z
shown_tree (words t) = trees.text t
shown_tree (worth w) = value_tree w

abbrev pub shown_trees : List Shown → List Tree
shown_trees shown = map shown_tree shown

-- the record `{code, shown}` of a code and what it shows
abbrev pub told : List ℕ → List Shown → Tree
told code shown = fields (field (codes "code") (trees.text code) (field (codes "shown") (array (items_of (shown_trees shown))) no_fields))

unfoldable pub refusal_tree : Refusal → Tree
refusal_tree r = told (code_of r) (shown_by r)
