-- What a contract text comes to, in the grammar's words: the module that it is, or its first refusal.
use Rattle.std.specs.Prelude.{◌≡◌, ℕ, ◌≤◌, ◌<◌, Bool, true, false, ◌||◌, List, [], ◌∷◌, ◌++◌, length, codes, Option, Some, None, Result, Ok, Err}
use Rattle.std.specs.Str.{bytes_eq}
use Rattle.jessie_grammar.specs.declared.jessie_lexer.token.Token.{Token}
use Rattle.jessie_grammar.specs.Lex.{cut}
use Rattle.jessie_grammar.specs.declared.jessie_scopes.name_use.NameUse.{NameUse}
use Rattle.jessie_grammar.specs.declared.jessie_scopes.name_use.NameFault.{NameFault}
use Rattle.jessie_grammar.specs.declared.jessie_scopes.name_use.NameFault.TheVariants as names
use Rattle.jessie_grammar.specs.Scopes.{first_fault}
use Rattle.jessie_grammar.specs.declared.syntax.Function.{Function}
use Rattle.jessie_grammar.specs.declared.syntax.Module.{Module}
use Rattle.jessie_grammar.specs.declared.jessie_language.fault.Limit.{Limit}
use Rattle.jessie_grammar.specs.declared.jessie_language.fault.Limit.TheVariants as limits
use Rattle.jessie_grammar.specs.Refused.{clean, Refused}
use Rattle.jessie_grammar.specs.Grammar as grammar
use Rattle.jessie_grammar.specs.declared.jessie_texts.refusal.Refusal.{Refusal}
use Rattle.jessie_grammar.specs.declared.jessie_texts.refusal.Refusal.TheVariants as r
use Rattle.jessie_grammar.specs.declared.jessie_texts.refusal.TextRefusal.{TextRefusal}

-- how many bytes a text may have, and how many brackets may be open
abbrev pub most_bytes : ℕ
most_bytes = 65536

abbrev pub most_brackets : ℕ
most_brackets = 32

abbrev pub refusal : ℕ → Refusal → TextRefusal
refusal place kind = record { place = place; kind = kind }

-- a kind as a refusal shows it
abbrev pub kind_name : Refusal → List ℕ
kind_name r.Syntax = codes "Syntax"
kind_name r.Wide = codes "Wide"
kind_name r.TooLong = codes "TooLong"
kind_name r.TooDeep = codes "TooDeep"
kind_name r.TooMany = codes "TooMany"
kind_name r.Reserved = codes "Reserved"
kind_name r.Duplicate = codes "Duplicate"
kind_name r.Unknown = codes "Unknown"
kind_name r.AssignConst = codes "AssignConst"
kind_name r.NoStart = codes "NoStart"

-- what is wrong with a token: the limit that it breaks, or that no rule goes on with it
abbrev pub kind_of : Option Limit → Refusal
kind_of None = r.Syntax
kind_of (Some limits.Wide) = r.Wide
kind_of (Some limits.TooLong) = r.TooLong
kind_of (Some limits.TooDeep) = r.TooDeep
kind_of (Some limits.TooMany) = r.TooMany

-- what is wrong with a name
abbrev pub name_kind : NameFault → Refusal
name_kind names.Reserved = r.Reserved
name_kind names.Duplicate = r.Duplicate
name_kind names.Unknown = r.Unknown
name_kind names.AssignConst = r.AssignConst

-- the place of the first of these tokens; where there is none, the text's length
abbrev pub place_at : ℕ → List Token → ℕ
place_at total [] = total
place_at total (t ∷ ts) = t.at

-- one of the functions has the name
abbrev pub has_function : List ℕ → List Function → Bool
has_function x [] = false
has_function x (f ∷ fs) = bytes_eq f.name x || has_function x fs

-- a text within all limits, of that tree; and what it does with names
pub record IsWritten (bytes : List ℕ) (m : Module) (name_uses : List NameUse) : Type 0 where
  pub short : length bytes ≤ most_bytes
  pub in_grammar : grammar.text most_brackets (clean (cut bytes)) (m, name_uses)

-- a text is this module: it is written so, nothing is wrong with its names, and it has a function `start`
pub record IsText (bytes : List ℕ) (m : Module) : Type 0 where
  pub name_uses : List NameUse
  pub written : IsWritten bytes m name_uses
  pub proper : first_fault name_uses ≡ None
  pub starts : has_function (codes "start") m.functions ≡ true

-- the first refusal of a text
pub data FirstRefusal (bytes : List ℕ) : TextRefusal → Type 0 where
  -- it has too many bytes
  too_many_bytes : most_bytes < length bytes → FirstRefusal bytes (refusal most_bytes r.TooLong)
  -- the tokens before this one, or the end, break no limit and go on; with it no text goes on, whatever
  -- limits it breaks, or a text does where it breaks this limit
  refused_token : (limit : Option Limit) (front rest : List Token) → length bytes ≤ most_bytes → cut bytes ≡ front ++ rest → Refused (grammar.text most_brackets) front rest limit
      → FirstRefusal bytes (refusal (place_at (length bytes) rest) (kind_of limit))
  -- it is in the grammar, and this is the first fault of its names
  refused_name : (m : Module) (name_uses : List NameUse) (place : ℕ) (fault : NameFault) → IsWritten bytes m name_uses → first_fault name_uses ≡ Some (place, fault) → FirstRefusal bytes (refusal place (name_kind fault))
  -- it is in the grammar, nothing is wrong with its names, and it has no function `start`
  has_no_start : (m : Module) (name_uses : List NameUse) → IsWritten bytes m name_uses → first_fault name_uses ≡ None → has_function (codes "start") m.functions ≡ false → FirstRefusal bytes (refusal (length bytes) r.NoStart)

-- the module that a text is, or its first refusal
abbrev pub Answer : Type 0
Answer = Result Module TextRefusal

-- a text comes to that
abbrev pub Comes : List ℕ → Answer → Type 0
Comes bytes (Ok m) = IsText bytes m
Comes bytes (Err f) = FirstRefusal bytes f
