-- Reading tokens from the front, up to the first refusal: the ways of putting parsers together.
use Rattle.jessie_grammar.specs.declared.jessie_language.fault.Limit.{Limit}
use Rattle.jessie_grammar.specs.declared.jessie_language.fault.Limit.TheVariants as limit
use Rattle.std.specs.Prelude.{◌≡◌, ℕ, zero, suc, Bool, ◌&&◌, if◌then◌else◌, List, [], ◌∷◌, length, Option, Some, None, Result, Ok, Err}
use Rattle.jessie_grammar.specs.declared.jessie_lexer.token.Kind.{Kind}
use Rattle.jessie_grammar.specs.declared.jessie_lexer.token.Token.{Token}
use Rattle.jessie_grammar.specs.declared.jessie_language.fault.ParseError.{ParseError}
use Rattle.jessie_grammar.specs.declared.jessie_language.fault.ParseError.TheVariants as errors
use Rattle.jessie_grammar.specs.Tokens.{kind, has}

-- the limit that is broken, or none where the syntax is refused; and how many tokens are left
abbrev pub Fault : Type 0
Fault = Option Limit × ℕ

abbrev pub Outcome : Type 0 → Type 0
Outcome A = Result (A × List Token) Fault

abbrev pub Parser : Type 0 → Type 0
Parser A = List Token → Outcome A

abbrev pub and_then : {A B : Type 0} → Outcome A → (A → Parser B) → Outcome B
and_then (Ok x) f = f x.0 x.1
and_then (Err e) f = Err e

infixl 10 ◌>>=◌
abbrev pub ◌>>=◌ : {A B : Type 0} → Parser A → (A → Parser B) → Parser B
p >>= f = λ ts. and_then (p ts) f

infixl 10 ◌>>◌
abbrev pub ◌>>◌ : {A B : Type 0} → Parser A → Parser B → Parser B
p >> q = p >>= (λ _. q)

abbrev pub pure : {A : Type 0} → A → Parser A
pure a = λ ts. Ok (a, ts)

-- no rule goes on with the next token
abbrev pub refuse : {A : Type 0} → Parser A
refuse = λ ts. Err (None, length ts)

-- at a token with this mark, with so many tokens left
abbrev pub judged : {A : Type 0} → Option Limit → ℕ → Outcome A → Outcome A
judged None left o = o
judged (Some k) left o = Err (Some k, left)

-- a token of one of these kinds, what it stands for, and which limit it breaks
abbrev pub one : {A : Type 0} → List Kind → (Token → A) → (Token → Option Limit) → Parser A
one set value mark [] = refuse []
one set value mark (t ∷ ts) = if has set t.kind then judged (mark t) (length (t ∷ ts)) (Ok (value t, ts)) else refuse (t ∷ ts)

abbrev pub nothing : Token → Unit {0}
nothing t = tt

abbrev pub free : Token → Option Limit
free t = None

-- this very token
unfoldable pub symbol : Kind → Parser (Unit {0})
symbol k = one (k ∷ []) nothing free

abbrev pub either : {A : Type 0} → List Kind → Parser A → Parser A → Parser A
either set p q = λ ts. if has set (kind ts) then p ts else q ts

-- one step after another from a state, while more may come and they begin so
unfoldable pub loop_from : {S : Type 0} → ℕ → (S → Bool) → List Kind → (S → Parser S) → S → Parser S
loop_from zero more set p s = refuse
loop_from (suc n) more set p s = λ ts. if more s && has set (kind ts) then and_then (p s ts) (loop_from n more set p) else Ok (s, ts)

-- each step takes a token, so the count of tokens is enough
unfoldable pub loop : {S : Type 0} → (S → Bool) → List Kind → (S → Parser S) → S → Parser S
loop more set p s = λ ts. loop_from (suc (length ts)) more set p s ts

-- the limit that one more open bracket breaks, where n may be open
abbrev pub deep : ℕ → Token → Option Limit
deep zero t = Some limit.TooDeep
deep (suc n) t = None

unfoldable pub opening : ℕ → Kind → Parser (Unit {0})
opening room k = one (k ∷ []) nothing (deep room)

unfoldable pub bracketed : {A : Type 0} → ℕ → Kind → Kind → Parser A → Parser A
bracketed room from to body = opening room from >>= λ _. (body >>= λ a. symbol to >> pure a)

-- all of the tokens
abbrev pub ending : {A : Type 0} → A → Parser A
ending a [] = Ok (a, [])
ending a (t ∷ ts) = refuse (t ∷ ts)

unfoldable pub whole : {A : Type 0} → Parser A → Parser A
whole p = p >>= ending

-- ---- what a function that reads ensures: what was read, or the fault; want of memory at any time

abbrev pub Fails : {Y : Type 0} → ParseError → Result Y Fault → Type 0
Fails errors.NoMemory read = Unit {0}
Fails (errors.Refused k left) read = read ≡ Err (k, left)

abbrev pub Gives : {X Y : Type 0} → (X → Y) → Result X ParseError → Result Y Fault → Type 0
Gives view (Ok x) read = read ≡ Ok (view x)
Gives view (Err e) read = Fails e read
