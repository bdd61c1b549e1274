-- A language without limits says of each token of a text which limit it breaks, if any.
use Rattle.jessie_grammar.specs.declared.jessie_language.fault.Limit.{Limit}
use Rattle.std.specs.Prelude.{◌≡◌, List, [], ◌∷◌, ◌++◌, Option, Some, None}
use Rattle.jessie_grammar.specs.declared.jessie_lexer.token.Token.{Token}
use Rattle.jessie_grammar.specs.Tokens.{first}

-- a token and the limit that it breaks
abbrev pub Marked : Type 0
Marked = Token × Option Limit

abbrev pub Lang : Type 0 → Type 1
Lang A = List Marked → A → Type 0

-- tokens that break none
abbrev pub clean : List Token → List Marked
clean [] = []
clean (t ∷ ts) = (t, None) ∷ clean ts

-- tokens, whatever they break
abbrev pub plain : List Marked → List Token
plain [] = []
plain (m ∷ ms) = m.0 ∷ plain ms

-- these begin a text
abbrev pub GoesOn : {A : Type 0} → Lang A → List Marked → Type 0
GoesOn {A} w front = (more : List Marked) × (a : A) × w (front ++ more) a

-- no text begins with front and goes on with the first token of rest; or ends where rest is empty
abbrev pub NoneGoesOn : {A : Type 0} → Lang A → List Token → List Token → Type 0
NoneGoesOn {A} w front rest = (ms : List Marked) (a : A) → first (plain ms) ≡ first rest → w (clean front ++ ms) a → ⊥

-- after front, which breaks no limit, rest is refused: for no limit, since nothing goes on so at all; or since
-- its first token goes on and breaks that limit
abbrev pub Refused : {A : Type 0} → Lang A → List Token → List Token → Option Limit → Type 0
Refused {A} w front rest None = GoesOn w (clean front) × NoneGoesOn w front rest
Refused {A} w front rest (Some k) = (t : Token) × (first rest ≡ Some t) × (ms : List Marked) × (a : A) × w (clean front ++ ((t, Some k) ∷ ms)) a

-- what stands before a token determines its mark
abbrev pub Determined : {A : Type 0} → Lang A → Type 0
Determined {A} w = (front : List Token) (t : Token) (j k : Option Limit) (ms ns : List Marked) (a b : A) → w (clean front ++ ((t, j) ∷ ms)) a → w (clean front ++ ((t, k) ∷ ns)) b → j ≡ k
