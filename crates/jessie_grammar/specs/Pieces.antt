-- What a text is made of: space, and tokens, each with its bytes.
use Rattle.std.specs.Prelude.{◌≡◌, ◌<◌, ◌+◌, ℕ, Bool, true, false, not, ◌==◌, ◌&&◌, if◌then◌else◌, List, [], ◌∷◌, ◌++◌, length}
use Rattle.jessie_grammar.specs.declared.jessie_lexer.token.Token.{Token}
use Rattle.jessie_grammar.specs.Lex.{is_blank, is_byte, head, piece, cut}

-- blanks and comments, where a comment is open or not
abbrev pub is_space : Bool → List ℕ → Bool
is_space c [] = true
is_space true (b ∷ bs) = is_space (not (b == 10)) bs
is_space false (b ∷ bs) = if is_blank b then is_space false bs else if b == 47 && is_byte 47 (head bs) then is_space true bs else false

-- these tokens make up the text from a place on: space, then the bytes of the token at the front there, which
-- has that place, and so on; behind the last one is space alone
abbrev pub MakeUp : ℕ → List ℕ → List Token → Type 0
MakeUp at bytes [] = is_space false bytes ≡ true
MakeUp at bytes (t ∷ ts) =
    (space : List ℕ) × (lexeme : List ℕ) × (rest : List ℕ) × (bytes ≡ space ++ (lexeme ++ rest)) × (is_space false space ≡ true) × (0 < length lexeme)
    × (t.at ≡ at + length space) × (piece t.at (lexeme ++ rest) ≡ (t, rest)) × MakeUp (at + (length space + length lexeme)) rest ts

-- a text is cut to its end
abbrev pub TokensMakeUpTexts : Type 0
TokensMakeUpTexts = (bytes : List ℕ) → MakeUp 0 bytes (cut bytes)
