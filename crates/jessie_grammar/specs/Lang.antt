-- What a grammar means: which tokens stand for which value, and which of them break which limit.
use Rattle.jessie_grammar.specs.declared.jessie_language.fault.Limit.{Limit}
use Rattle.std.specs.Prelude.{◌≡◌, Bool, true, ◌⊎◌, ℕ, zero, suc, List, [], ◌∷◌, ◌++◌, Option}
use Rattle.jessie_grammar.specs.declared.jessie_lexer.token.Kind.{Kind}
use Rattle.jessie_grammar.specs.declared.jessie_lexer.token.Token.{Token}
use Rattle.jessie_grammar.specs.Tokens.{has}
use Rattle.jessie_grammar.specs.Refused.{Marked, Lang}
use Rattle.jessie_grammar.specs.Parse.{nothing, free, deep}

-- one after the other
infixl 10 ◌>>=◌
abbrev pub ◌>>=◌ : {A B : Type 0} → Lang A → (A → Lang B) → Lang B
l >>= m = λ ts b. (a : _) × (front : List Marked) × (back : List Marked) × (ts ≡ front ++ back) × l front a × m a back b

infixl 10 ◌>>◌
abbrev pub ◌>>◌ : {A B : Type 0} → Lang A → Lang B → Lang B
l >> m = l >>= (λ _. m)

abbrev pub pure : {A : Type 0} → A → Lang A
pure a = λ ts b. (ts ≡ []) × (a ≡ b)

-- the one or the other
infixl 9 ◌or◌
abbrev pub ◌or◌ : {A : Type 0} → Lang A → Lang A → Lang A
l or m = λ ts a. l ts a ⊎ m ts a

-- a token of these kinds, what it stands for, and which limit it breaks
abbrev pub one : {A : Type 0} → List Kind → (Token → A) → (Token → Option Limit) → Lang A
one set value mark = λ ts a. (t : Token) × (ts ≡ (t, mark t) ∷ []) × (has set t.kind ≡ true) × (value t ≡ a)

abbrev pub symbol : Kind → Lang (Unit {0})
symbol k = one (k ∷ []) nothing free

-- n steps from a state, each only where more may come
abbrev pub turns : {S : Type 0} → ℕ → (S → Bool) → (S → Lang S) → S → Lang S
turns zero more l s = pure s
turns (suc n) more l s = λ ts t. (more s ≡ true) × (l s >>= turns n more l) ts t

-- any number of them
abbrev pub iterate : {S : Type 0} → (S → Bool) → (S → Lang S) → S → Lang S
iterate more l s = λ ts t. (n : ℕ) × turns n more l s ts t

-- an open bracket, where room more may be open
abbrev pub opening : ℕ → Kind → Lang (Unit {0})
opening room k = one (k ∷ []) nothing (deep room)

abbrev pub bracketed : {A : Type 0} → ℕ → Kind → Kind → Lang A → Lang A
bracketed room from to body = opening room from >>= λ _. (body >>= λ a. symbol to >> pure a)

-- a text of any of these languages
abbrev pub any : {A : Type 0} → (ℕ → Lang A) → Lang A
any l = λ ts a. (n : ℕ) × l n ts a
