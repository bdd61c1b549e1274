-- How a reader comes to the answer, and what it says of it.
use Rattle.std.specs.Prelude.{◌≡◌, ℕ, ◌-◌, nat_lt, if◌then◌else◌, List, length, drop, codes, Option, Some, None, Result, Ok, Err}
use Rattle.jessie_grammar.specs.declared.jessie_lexer.token.Token.{Token}
use Rattle.jessie_grammar.specs.Lex.{cut}
use Rattle.jessie_grammar.specs.declared.jessie_scopes.name_use.NameFault.{NameFault}
use Rattle.jessie_grammar.specs.Scopes.{first_fault}
use Rattle.jessie_grammar.specs.declared.syntax.Module.{Module}
use Rattle.jessie_grammar.specs.Parse.{Outcome}
use Rattle.jessie_grammar.specs.Words.{Found}
use Rattle.jessie_grammar.specs.Rules as rules
use Rattle.jessie_grammar.specs.declared.jessie_texts.refusal.ReadError.{ReadError}
use Rattle.jessie_grammar.specs.declared.jessie_texts.refusal.ReadError.TheVariants as errors
use Rattle.jessie_grammar.specs.declared.jessie_texts.refusal.Refusal.TheVariants as r
use Rattle.jessie_grammar.specs.Texts.{most_bytes, most_brackets, refusal, kind_of, name_kind, place_at, has_function, Answer, Comes}

-- the place of the token from which on so many are left; where none is, the text's length
abbrev pub place_of : ℕ → List Token → ℕ → ℕ
place_of total ts left = place_at total (drop (length ts - left) ts)

abbrev pub with_start : ℕ → Module → Answer
with_start total m = if has_function (codes "start") m.functions then Ok m else Err (refusal total r.NoStart)

-- by the first fault of its names, and whether there is a function start
abbrev pub by_names : ℕ → Module → Option (ℕ × NameFault) → Answer
by_names total m (Some f) = Err (refusal f.0 (name_kind f.1))
by_names total m None = with_start total m

-- by what its tokens are read as
abbrev pub by_tokens : ℕ → List Token → Outcome (Found Module) → Answer
by_tokens total ts (Ok x) = by_names total x.0.0 (first_fault x.0.1)
by_tokens total ts (Err f) = Err (refusal (place_of total ts f.1) (kind_of f.0))

-- what a reader answers
unfoldable pub read : List ℕ → Answer
read bytes = if nat_lt most_bytes (length bytes) then Err (refusal most_bytes r.TooLong) else by_tokens (length bytes) (cut bytes) (rules.text most_brackets (cut bytes))

-- each text comes to what a reader answers, and to nothing else
abbrev pub EachComesToIt : Type 0
EachComesToIt = (bytes : List ℕ) → Comes bytes (read bytes)

abbrev pub ComesToNoOther : Type 0
ComesToNoOther = (bytes : List ℕ) (answer : Answer) → Comes bytes answer → answer ≡ read bytes

-- ---- what a function that reads ensures; want of memory at any time

-- of the answer, if there is one
abbrev pub IfAnswered : Result Module ReadError → (Answer → Type 0) → Type 0
IfAnswered (Ok m) P = P (Ok m)
IfAnswered (Err errors.NoMemory) P = Unit {0}
IfAnswered (Err (errors.Refused f)) P = P (Err f)

abbrev pub Reads : Result Module ReadError → Answer → Type 0
Reads result answer = IfAnswered result (λ a. a ≡ answer)

-- a tree is the answer where it passes
abbrev pub Passes : Module → Result (Unit {0}) ReadError → Answer → Type 0
Passes m (Ok u) answer = Ok m ≡ answer
Passes m (Err e) answer = Reads (Err e) answer
