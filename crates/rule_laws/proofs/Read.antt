-- What was read of arguments, and what tests said that were passed.
use Rattle.std.specs.Prelude.{nat_le, is_none, ◌&&◌}
use Rattle.std.proofs.Common.{◌≡◌, ℕ, ℤ, pos, negsuc, ◌<◌, ◌≤◌, Bool, true, false, List, length, Option, Some, None, Ok, IfOk, if◌then◌else◌, refl, subst, sym}
use Rattle.std.proofs.lemmas.Bool.{false≢true, leb-true}
use Rattle.std.proofs.lemmas.Option.{same_Some}
use Rattle.world_laws.specs.host_text.Words.{is_keyword}
use Rattle.rules.specs.call_arguments.Arguments.{arg, function_at, is_kind, number_at, number_in, object_at, object_in, within}
use Rattle.rules.proofs.call_arguments.Made.{read_made}
use Rattle.world_laws.specs.host_data.Nodes.{EachNode, FunctionIs}
use Rattle.world_laws.specs.host_data.Tree.{Tree, array, boolean, fields, function, function_of, null, number, object, text}
use Rattle.world_laws.specs.host_data.declared.data.Obj.{Obj}
use Rattle.world_laws.specs.host_data.declared.data.ObjKind.{ObjKind}
use Rattle.world_laws.specs.host_data.declared.data.ObjKind.TheVariants as kinds
use Rattle.world_laws.specs.amount_math.declared.Kind.TheVariants.{Nat}
use Rattle.world_laws.proofs.refusals.Steps.{after_need, need_holds, ok_has, wanted_there}
use Rattle.world_laws.specs.world_state.Known.{HasFunction, IsFormed, ObjectKnown, known_as}
use Rattle.world_laws.specs.world_state.Worlds.{IsOpen, State}
use Rattle.rules.specs.Obligations.{IsGoodOutcome}
use Rattle.rules.specs.Outcomes.{Outcome}
use Rattle.rules.specs.States.{is_open, seat_of}
use Rattle.rules.specs.Words.{keyword_at, shown_text}
use Rattle.rule_laws.specs.GoodContracts.{numbered}

pub none_there : {A : Type 0} (o : Option A) → is_none o ≡ true → o ≡ None
none_there None is = refl
none_there (Some x) is = cc

pub open_there : (w : State) (n : ℕ) → is_open w n ≡ Ok tt → IsOpen (seat_of w n)
unfolding is_open
open_there w n is = none_there (seat_of w n).last (need_holds (is_none (seat_of w n).last) _ tt is)

-- ---- keywords

keyword_has : (place : ℕ) (args : List Tree) → IfOk (keyword_at place args) (λ k. is_keyword k ≡ true)
unfolding keyword_at
keyword_has place args = after_need (λ k. is_keyword k ≡ true) (is_keyword (shown_text (arg place args))) _ (Ok (shown_text (arg place args))) (λ is. is)

pub keyword_given : (place : ℕ) (args : List Tree) (k : List ℕ) → keyword_at place args ≡ Ok k → is_keyword k ≡ true
keyword_given place args k is = ok_has (λ q. is_keyword q ≡ true) (keyword_at place args) k is (keyword_has place args)

-- ---- numbers

second : (a b : Bool) → (a && b) ≡ true → b ≡ true
second true b is = is
second false b is = absurd (false≢true is)

within_most : (least most : ℕ) (z : ℤ) (n : ℕ) → within least most z ≡ Some n → n ≤ most
within_most least most (pos m) n is = by (nat_le least m && nat_le m most) refl is
  where
    by : (b : Bool) → (nat_le least m && nat_le m most) ≡ b → (if b then Some m else None) ≡ Some n → n ≤ most
    by true low at = subst (λ k. k ≤ most) (same_Some m n at) (leb-true m most (second (nat_le least m) (nat_le m most) low))
    by false low at = absurd (cc)
within_most least most (negsuc m) n is = absurd (cc)

number_most : (least most : ℕ) (t : Tree) (n : ℕ) → number_in least most t ≡ Some n → n ≤ most
unfolding number_in
number_most least most (number z) n is = within_most least most z n is
number_most least most null n is = absurd (cc)
number_most least most (boolean b) n is = absurd (cc)
number_most least most (text s) n is = absurd (cc)
number_most least most (array ts) n is = absurd (cc)
number_most least most (fields fs) n is = absurd (cc)
number_most least most (object o) n is = absurd (cc)
number_most least most (function name) n is = absurd (cc)

pub number_given : (least most place : ℕ) (args : List Tree) (n : ℕ) → number_at least most place args ≡ Ok n → n ≤ most
unfolding number_at
number_given least most place args n is = number_most least most (arg place args) n (wanted_there (number_in least most (arg place args)) _ n is)

-- ---- objects

given_made : (w : State) (i made : ℕ) (kind : ObjKind) → ((o : Obj) → is_kind kind o.kind ≡ true → ObjectKnown (Some i) w o → o.number < made) → (place : ℕ) (args : List Tree) (n : ℕ) → IsFormed w (Some i) (arg place args) → object_at kind place args ≡ Ok n → n < made
unfolding object_at
given_made w i made kind below place args n formed is =
    read_made (ObjectKnown (Some i) w) kind made below 0 (arg place args) formed.objects n
    (wanted_there (object_in kind (arg place args)) _ n is)

issuer_known : (w : State) (i : ℕ) (k : ObjKind) (n : ℕ) → is_kind kinds.Issuer k ≡ true → known_as i w k n → n < length w.brands
issuer_known w i kinds.Issuer n is known = known
issuer_known w i _ n is known = absurd (false≢true is)

issuer_below : (w : State) (i : ℕ) (o : Obj) → is_kind kinds.Issuer o.kind ≡ true → ObjectKnown (Some i) w o → o.number < length w.brands
issuer_below w i o is known = issuer_known w i o.kind o.number is known

pub issuer_made : (w : State) (i place : ℕ) (args : List Tree) (n : ℕ) → IsFormed w (Some i) (arg place args) → object_at kinds.Issuer place args ≡ Ok n → n < length w.brands
issuer_made w i place args n formed is = given_made w i (length w.brands) kinds.Issuer (issuer_below w i) place args n formed is

brand_known : (w : State) (i : ℕ) (k : ObjKind) (n : ℕ) → is_kind (kinds.Brand Nat) k ≡ true → known_as i w k n → n < length w.brands
brand_known w i (kinds.Brand kind) n is known = known.made
brand_known w i _ n is known = absurd (false≢true is)

brand_below : (w : State) (i : ℕ) (o : Obj) → is_kind (kinds.Brand Nat) o.kind ≡ true → ObjectKnown (Some i) w o → o.number < length w.brands
brand_below w i o is known = brand_known w i o.kind o.number is known

pub brand_made : (w : State) (i place : ℕ) (args : List Tree) (n : ℕ) → IsFormed w (Some i) (arg place args) → object_at (kinds.Brand Nat) place args ≡ Ok n → n < length w.brands
brand_made w i place args n formed is = given_made w i (length w.brands) (kinds.Brand Nat) (brand_below w i) place args n formed is

-- ---- functions

-- a function that data is has what all its functions have
function_has : (P : List ℕ → Type 0) (t : Tree) (f : List ℕ) → EachNode (FunctionIs P) 0 t → function_of t ≡ Some f → P f
function_has P (function g) f all is = subst P (same_Some g f is) all
function_has P null f all is = absurd (cc)
function_has P (boolean b) f all is = absurd (cc)
function_has P (number z) f all is = absurd (cc)
function_has P (text s) f all is = absurd (cc)
function_has P (array ts) f all is = absurd (cc)
function_has P (fields fs) f all is = absurd (cc)
function_has P (object o) f all is = absurd (cc)

pub function_given : (w : State) (i place : ℕ) (args : List Tree) (f : List ℕ) → IsFormed w (Some i) (arg place args) → function_at place args ≡ Ok f → HasFunction w.tables i f
unfolding function_at
function_given w i place args f formed is = function_has (λ g. HasFunction w.tables i g) (arg place args) f formed.functions (wanted_there (function_of (arg place args)) _ f is)

-- ---- the zcf

-- a zcf is that of the instance that calls
pub of_caller : (w : State) (i n : ℕ) (m : List ℕ) (args : List Tree) (rule : ℕ → Outcome) → n ≡ i → IsGoodOutcome w (Some i) (numbered kinds.Zcf i) m args (rule i) → IsGoodOutcome w (Some i) (numbered kinds.Zcf n) m args (rule n)
of_caller w i n m args rule own is = subst (λ k. IsGoodOutcome w (Some i) (numbered kinds.Zcf k) m args (rule k)) (sym own) is
