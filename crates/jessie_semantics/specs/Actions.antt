-- What a rule does: from a state of the evaluation it comes to a value or throws, leaves a new state,
-- and may ask the host on the way. Rules are put together by `>>=`: what is thrown goes past the rest.
use Rattle.std.specs.Prelude.{ℕ, ◌-◌, List, [], ◌∷◌, ◌++◌, Bool, false, ◌||◌, Option, Some, None, length, take, nat_le, if◌then◌else◌}
use Rattle.std.specs.Str.{bytes_eq}
use Rattle.host_data.specs.Tree.{Tree, size}
use Rattle.jessie_semantics.specs.Play.{Call, Reply, Play, Spends, Asks}

-- names with their values, the innermost last
abbrev pub Bindings : Type 0
Bindings = List (List ℕ × Tree)

-- the function's own names, the module's state variables, and what is left of the meter
pub record State : Type 0 where
  pub locals : Bindings
  pub globals : Bindings
  pub meter : ℕ

pub data Flow (A : Type 0) : Type 0 where
  went : A → Flow A
  fails : Tree → Flow A

-- what is done with it
abbrev pub Then : Type 0 → Type 0
Then A = Flow A → State → Play

abbrev pub Action : Type 0 → Type 0
Action A = State → Then A → Play

unfoldable pub pure : {A : Type 0} → A → Action A
pure a s k = k (went a) s

unfoldable pub throw : {A : Type 0} → Tree → Action A
throw t s k = k (fails t) s

unfoldable pub spend : {A : Type 0} → Action A
spend s k = Spends

abbrev pub onward : {A B : Type 0} → (A → Action B) → Then B → Then A
onward f k (went a) s = f a s k
onward f k (fails t) s = k (fails t) s

infixl 10 ◌>>=◌
unfoldable pub ◌>>=◌ : {A B : Type 0} → Action A → (A → Action B) → Action B
(a >>= f) s k = a s (onward f k)

infixl 10 ◌>>◌
abbrev pub ◌>>◌ : {A B : Type 0} → Action A → Action B → Action B
a >> b = a >>= (λ _. b)

-- what is thrown is caught; a spent meter is not
abbrev pub otherwise : {A : Type 0} → (Tree → Action A) → Then A → Then A
otherwise f k (went a) s = k (went a) s
otherwise f k (fails t) s = f t s k

unfoldable pub caught : {A : Type 0} → Action A → (Tree → Action A) → Action A
caught a f s k = a s (otherwise f k)

-- takes a charge off the meter; where it isn't there, the evaluation is spent
unfoldable pub charge : ℕ → Action (Unit {0})
charge n s k = if nat_le n s.meter then k (went tt) (record s { meter = s.meter - n }) else Spends

-- asks the host, which answers
unfoldable pub ask : Call → Action Reply
ask c s k = Asks c (λ r. k (went r) s)

-- what is done depends on the meter
unfoldable pub metered : {A : Type 0} → (ℕ → Action A) → Action A
metered f s k = f s.meter s k

-- ---- names

abbrev pub first_of : {A : Type 0} → Option A → Option A → Option A
first_of (Some v) other = Some v
first_of None other = other

-- the value of the last binding of the name
abbrev pub look : List ℕ → Bindings → Option Tree
look x [] = None
look x (b ∷ bs) = first_of (look x bs) (if bytes_eq b.0 x then Some b.1 else None)

abbrev pub is_bound : List ℕ → Bindings → Bool
is_bound x [] = false
is_bound x (b ∷ bs) = is_bound x bs || bytes_eq b.0 x

-- with another value of the last binding of the name
abbrev pub rebind : List ℕ → Tree → Bindings → Bindings
rebind x v [] = []
rebind x v (b ∷ bs) = if is_bound x bs then b ∷ rebind x v bs else (if bytes_eq b.0 x then (b.0, v) ∷ bs else b ∷ bs)

-- one more name of the function's own
unfoldable pub bind : List ℕ → Tree → Action (Unit {0})
bind x v s k = k (went tt) (record s { locals = s.locals ++ (x, v) ∷ [] })

-- a name's value, with its size; or what is thrown where there is none
unfoldable pub paid : Tree → Option Tree → Action Tree
paid t None s k = k (fails t) s
paid t (Some v) s k = if nat_le (size v) s.meter then k (went v) (record s { meter = s.meter - size v }) else Spends

-- the innermost of the function's own names, else a state variable, else what stands for the name in
-- the module
unfoldable pub named : List ℕ → Option Tree → Action (Option Tree)
named x other s k = k (went (first_of (look x s.locals) (first_of (look x s.globals) other))) s

-- the innermost of the function's own names, else a state variable, gets another value; or what is
-- thrown where there is none
unfoldable pub put : Tree → List ℕ → Tree → Action (Unit {0})
put t x v s k =
    if is_bound x s.locals then k (went tt) (record s { locals = rebind x v s.locals })
    else (if is_bound x s.globals then k (went tt) (record s { globals = rebind x v s.globals }) else k (fails t) s)

-- the names of a block go with it
unfoldable pub scoped : {A : Type 0} → Action A → Action A
scoped a s k = a s (λ f t. k f (record t { locals = take (length s.locals) t.locals }))

-- with these names of its own, and then with the old ones again
unfoldable pub within : {A : Type 0} → Bindings → Action A → Action A
within locals a s k = a (record s { locals = locals }) (λ f t. k f (record t { locals = s.locals }))
