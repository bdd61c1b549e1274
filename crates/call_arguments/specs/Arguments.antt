-- What a call is given: arguments by their places, and what an argument has to be.
use Rattle.std.specs.Prelude.{ℕ, ℤ, pos, ◌-◌, ◌<◌, ◌==◌, ◌&&◌, nat_le, List, [], ◌∷◌, length, slice_index_or, Bool, true, false, not, Option, Some, None, option_and_then, Result, Ok, if◌then◌else◌, codes}
use Rattle.std.specs.Str.{bytes_eq}
use Rattle.refusals.specs.host_text.Words.{is_keyword}
use Rattle.refusals.specs.amount_math.declared.Kind.{Kind}
use Rattle.refusals.specs.amount_math.declared.Kind.TheVariants.{Nat, Set, Bag}
use Rattle.std.specs.Option.{ForSome}
use Rattle.refusals.specs.host_data.Tree.{Tree, is_null, null, function_of, list_of, number_of, object_of, pairs_of, text_of}
use Rattle.refusals.specs.host_data.declared.data.Obj.{Obj}
use Rattle.refusals.specs.host_data.declared.data.ObjKind.{ObjKind}
use Rattle.refusals.specs.host_data.declared.data.ObjKind.TheVariants.{Ertp, Zoe, Timer, Brand, Issuer, Mint, Purse, Deposit, Payment, Installation, Instance, Zcf, Seat, Zseat, Zmint, Facet, Promise}
use Rattle.refusals.specs.Codes.{bad_args, bad_keyword, wrong_object}
use Rattle.refusals.specs.Outcomes.{◌>>=◌, ◌>>◌, need, wanted}
use Rattle.refusals.specs.declared.codes.Refusal.{Refusal}
use Rattle.refusals.specs.declared.stops.Stop.{Stop}
use Rattle.refusals.specs.declared.stops.Stop.TheVariants.{NoMemory, Refused}

-- it is a refusal, and not that memory ran out: so a reader ends that takes none
abbrev pub IsRefusal : Stop → Type 0
IsRefusal NoMemory = ⊥
IsRefusal (Refused r) = Unit {0}

-- the argument at a place, from 1; one that is missing is null
abbrev pub arg : ℕ → List Tree → Tree
arg place args = slice_index_or args (place - 1) null

-- ---- objects

-- where a kind stands among them all; brands stand in one place, whatever their assets
abbrev pub place_of : ObjKind → ℕ
place_of Ertp = 0
place_of Zoe = 1
place_of Timer = 2
place_of (Brand assets) = 3
place_of Issuer = 4
place_of Mint = 5
place_of Purse = 6
place_of Deposit = 7
place_of Payment = 8
place_of Installation = 9
place_of Instance = 10
place_of Zcf = 11
place_of Seat = 12
place_of Zseat = 13
place_of Zmint = 14
place_of Facet = 15
place_of Promise = 16

abbrev pub is_kind : ObjKind → ObjKind → Bool
is_kind kind other = place_of kind == place_of other

abbrev pub number_of_kind : ObjKind → Obj → Option ℕ
number_of_kind kind o = if is_kind kind o.kind then Some o.number else None

-- the number of the object that data is, where it is one of the kind
unfoldable pub object_in : ObjKind → Tree → Option ℕ
object_in kind t = option_and_then (number_of_kind kind) (object_of t)

-- an object of the kind, by its number, stands at the place
unfoldable pub object_at : ObjKind → ℕ → List Tree → Result ℕ Refusal
object_at kind place args = wanted (object_in kind (arg place args)) (wrong_object place)

-- where data is an object of the kind, it is one of the first so many
abbrev pub IsMade : ObjKind → ℕ → Tree → Type 0
IsMade kind made t = ForSome (object_in kind t) (λ n. n < made)

-- ---- numbers and texts

abbrev pub within : ℕ → ℕ → ℤ → Option ℕ
within least most (pos n) = if nat_le least n && nat_le n most then Some n else None
within least most _ = None

-- a whole number from the least to the most
unfoldable pub number_in : ℕ → ℕ → Tree → Option ℕ
number_in least most t = option_and_then (within least most) (number_of t)

unfoldable pub number_at : ℕ → ℕ → ℕ → List Tree → Result ℕ Refusal
number_at least most place args = wanted (number_in least most (arg place args)) (bad_args place)

abbrev pub sized : ℕ → ℕ → List ℕ → Option (List ℕ)
sized least most t = if nat_le least (length t) && nat_le (length t) most then Some t else None

-- a text of so many bytes at least and at most
unfoldable pub text_in : ℕ → ℕ → Tree → Option (List ℕ)
text_in least most t = option_and_then (sized least most) (text_of t)

unfoldable pub text_at : ℕ → ℕ → ℕ → List Tree → Result (List ℕ) Refusal
text_at least most place args = wanted (text_in least most (arg place args)) (bad_args place)

-- a function, by its name
unfoldable pub function_at : ℕ → List Tree → Result (List ℕ) Refusal
function_at place args = wanted (function_of (arg place args)) (bad_args place)

-- ---- arrays and records

-- the parts of an array
unfoldable pub list_at : ℕ → List Tree → Result (List Tree) Refusal
list_at place args = wanted (list_of (arg place args)) (bad_args place)

-- the names and parts of a record; null is none
unfoldable pub record_at : ℕ → List Tree → Result (List (List ℕ × Tree)) Refusal
record_at place args = wanted (pairs_of (arg place args)) (bad_args place)

abbrev pub is_empty : {A : Type 0} → List A → Bool
is_empty [] = true
is_empty (x ∷ xs) = false

-- the parts of an array that has some
unfoldable pub filled_list_at : ℕ → List Tree → Result (List Tree) Refusal
filled_list_at place args = do
  items ← list_at place args
  need (not (is_empty items)) (bad_args place)
  Ok items

-- ---- kinds and keywords

-- the kinds by their words (ERTP)
abbrev pub kind_named : List ℕ → Option Kind
kind_named word = if bytes_eq word (codes "nat") then Some Nat else if bytes_eq word (codes "set") then Some Set else if bytes_eq word (codes "bag") then Some Bag else None

-- null is nat
unfoldable pub kind_in : Tree → Option Kind
kind_in t = if is_null t then Some Nat else option_and_then kind_named (text_of t)

unfoldable pub kind_at : ℕ → List Tree → Result Kind Refusal
kind_at place args = wanted (kind_in (arg place args)) (bad_args place)

abbrev pub text_or_empty : Option (List ℕ) → List ℕ
text_or_empty None = []
text_or_empty (Some t) = t

-- a keyword; where no text is, the empty one is shown (own)
unfoldable pub keyword_at : ℕ → List Tree → Result (List ℕ) Refusal
keyword_at place args =
    let name = text_or_empty (text_of (arg place args)) in
    need (is_keyword name) (bad_keyword name) >> Ok name
