-- What holds of reading a text, in the grammar's words.
use Rattle.jessie_grammar.specs.declared.jessie_language.fault.Limit.{Limit}
use Rattle.std.specs.Prelude.{◌≡◌, ℕ, List, [], ◌++◌, length, Option, Ok, Err}
use Rattle.jessie_grammar.specs.declared.jessie_lexer.token.Token.{Token}
use Rattle.jessie_grammar.specs.Refused.{clean, Refused}
use Rattle.jessie_grammar.specs.Parse.{Fault}
use Rattle.jessie_grammar.specs.declared.syntax.Module.{Module}
use Rattle.jessie_grammar.specs.Words.{Found}
use Rattle.jessie_grammar.specs.Grammar as grammar
use Rattle.jessie_grammar.specs.Rules as p

-- what is read is a text within the limits
abbrev pub ReadsTexts : Type 0
ReadsTexts = (room : ℕ) (ts us : List Token) (x : Found Module) → p.text room ts ≡ Ok (x, us) → (us ≡ []) × grammar.text room (clean ts) x

-- every text within the limits is read
abbrev pub ReadsEach : Type 0
ReadsEach = (room : ℕ) (ts : List Token) (x : Found Module) → grammar.text room (clean ts) x → p.text room ts ≡ Ok (x, [])

abbrev pub OneTree : Type 0
OneTree = (room : ℕ) (ts : List Token) (x y : Found Module) → grammar.text room (clean ts) x → grammar.text room (clean ts) y → x ≡ y

-- what is refused is refused as the grammar says, for every kind
abbrev pub RefusesFirst : Type 0
RefusesFirst = (room : ℕ) (ts : List Token) (f : Fault) → p.text room ts ≡ Err f →
    (front : List Token) × (rest : List Token) × (ts ≡ front ++ rest) × (f.1 ≡ length rest) × Refused (grammar.text room) front rest f.0

-- what the grammar refuses is refused, there and for that
abbrev pub RefusesEach : Type 0
RefusesEach = (room : ℕ) (front rest : List Token) (k : Option Limit) → Refused (grammar.text room) front rest k → p.text room (front ++ rest) ≡ Err (k, length rest)

-- a text has one first refusal at most
abbrev pub OneFirstRefusal : Type 0
OneFirstRefusal = (room : ℕ) (f g r s : List Token) (j k : Option Limit) → f ++ r ≡ g ++ s → Refused (grammar.text room) f r j → Refused (grammar.text room) g s k → (f ≡ g) × (j ≡ k)
