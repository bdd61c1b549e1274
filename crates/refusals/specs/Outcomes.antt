-- What a step of the work on a call gives: what it is after, or the first refusal. And what a call comes to, whatever its kind plans.
use Rattle.std.specs.Prelude.{◌≡◌, List, [], Bool, true, false, Result, Ok, Err, Option, Some, None, IfOk}
use Rattle.host_data.specs.Tree.{Tree}
use Rattle.refusals.specs.declared.codes.Refusal.{Refusal}
use Rattle.refusals.specs.declared.stops.Stop.{Stop}
use Rattle.refusals.specs.declared.stops.Stop.TheVariants.{NoMemory, Refused}

-- ---- chains of tests

-- one step after another, each on what the one before gave
unfoldable pub bind : {A B : Type 0} → Result A Refusal → (A → Result B Refusal) → Result B Refusal
bind (Ok x) f = f x
bind (Err e) f = Err e

infixl 10 ◌>>=◌
abbrev pub ◌>>=◌ : {A B : Type 0} → Result A Refusal → (A → Result B Refusal) → Result B Refusal
r >>= f = bind r f

infixl 10 ◌>>◌
abbrev pub ◌>>◌ : {B : Type 0} → Result (Unit {0}) Refusal → Result B Refusal → Result B Refusal
r >> next = bind r (λ _. next)

-- a test, with the refusal where it fails
unfoldable pub need : Bool → Refusal → Result (Unit {0}) Refusal
need true r = Ok tt
need false r = Err r

-- what is there, with the refusal where it isn't
unfoldable pub wanted : {A : Type 0} → Option A → Refusal → Result A Refusal
wanted (Some x) r = Ok x
wanted None r = Err r

-- none must be there: the refusal shows the one that is
unfoldable pub none_such : {A : Type 0} → Option A → (A → Refusal) → Result (Unit {0}) Refusal
none_such None refusal = Ok tt
none_such (Some x) refusal = Err (refusal x)

-- ---- rows

-- what a call comes to: the first refusal, or the answer and what is planned, in order
abbrev pub Outcome : Type 0 → Type 0
Outcome Plan = Result (Tree × List Plan) Refusal

-- a row that only reads plans nothing
unfoldable pub reading : {Plan : Type 0} → Result Tree Refusal → Result (Tree × List Plan) Refusal
reading r = bind r (λ t. Ok (t, []))

-- where the row gives an answer, it and what is planned are so
abbrev pub Answers : {Plan : Type 0} → (Tree → List Plan → Type 0) → Result (Tree × List Plan) Refusal → Type 0
Answers P row = IfOk row (λ d. P d.0 d.1)

-- the answer, and the state after what is planned, as `after` says
abbrev pub served : {State Plan : Type 0} → (State → List Plan → State) → State → Result (Tree × List Plan) Refusal → Result (Tree × State) Refusal
served after s (Ok (answer, plans)) = Ok (answer, after s plans)
served after s (Err r) = Err r

-- ---- what code returned

-- it fails as the definition does, unless memory ran out
abbrev pub Fails : {Y : Type 0} → Stop → Result Y Refusal → Type 0
Fails NoMemory read = Unit {0}
Fails (Refused r) read = read ≡ Err r

-- what a function returned, seen by a view, is what the definition gives, unless memory ran out
abbrev pub Gives : {X Y : Type 0} → (X → Y) → Result X Stop → Result Y Refusal → Type 0
Gives view (Ok x) read = read ≡ Ok (view x)
Gives view (Err e) read = Fails e read

-- it is this refusal, unless memory ran out
abbrev pub Refuses : Stop → Refusal → Type 0
Refuses NoMemory r = Unit {0}
Refuses (Refused s) r = s ≡ r
