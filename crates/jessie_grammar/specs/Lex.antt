-- Cutting a text into tokens.
use Rattle.std.specs.Prelude.{ℕ, zero, suc, ◌+◌, ◌-◌, ◌==◌, Bool, true, false, ◌||◌, ◌&&◌, not, nat_le, if◌then◌else◌, List, [], ◌∷◌, ◌++◌, length, drop, take_while, codes, Option, Some, None, Vec, ◌*◌}
use Rattle.std.specs.declared.alloc.Global.{Global}
use denote.Bor.{Bor}
use Rattle.std.specs.Str.{bytes_eq, is_utf8}
use Rattle.jessie_grammar.specs.declared.jessie_lexer.token.Kind.{Kind}
use Rattle.jessie_grammar.specs.declared.jessie_lexer.token.Kind.TheVariants as k
use Rattle.jessie_grammar.specs.declared.jessie_lexer.token.Token.{Token}

-- space, tab, line feed, carriage return
abbrev pub is_blank : ℕ → Bool
is_blank b = b == 32 || b == 9 || b == 10 || b == 13

abbrev pub is_word_start : ℕ → Bool
is_word_start b = (nat_le 65 b && nat_le b 90) || (nat_le 97 b && nat_le b 122) || b == 95

abbrev pub is_digit : ℕ → Bool
is_digit b = nat_le 48 b && nat_le b 57

abbrev pub is_word_byte : ℕ → Bool
is_word_byte b = is_word_start b || is_digit b

abbrev pub is_byte : ℕ → Option ℕ → Bool
is_byte b None = false
is_byte b (Some c) = b == c

abbrev pub head : List ℕ → Option ℕ
head [] = None
head (b ∷ bs) = Some b

-- what follows blanks and comments; a comment goes from two slashes up to the line's end
unfoldable pub skip : Bool → List ℕ → List ℕ
skip c [] = []
skip true (b ∷ bs) = skip (not (b == 10)) bs
skip false (b ∷ bs) = if is_blank b then skip false bs else if b == 47 && is_byte 47 (head bs) then skip true bs else b ∷ bs

-- the longest of the quoted marks, and how many bytes it has, by its first byte and the next two
abbrev pub short_mark : ℕ → Kind
short_mark b =
    if b == 40 then k.LeftParen else if b == 41 then k.RightParen else if b == 91 then k.LeftBracket else if b == 93 then k.RightBracket
    else if b == 123 then k.LeftBrace else if b == 125 then k.RightBrace else if b == 44 then k.Comma else if b == 59 then k.Semicolon
    else if b == 58 then k.Colon else if b == 46 then k.Dot else if b == 63 then k.Question else if b == 43 then k.Plus else if b == 45 then k.Minus
    else if b == 42 then k.Times else if b == 47 then k.Over else if b == 37 then k.Remainder else if b == 61 then k.Equals
    else if b == 33 then k.Not else if b == 60 then k.Less else if b == 62 then k.Greater else k.Bad

abbrev pub mark : ℕ → Option ℕ → Option ℕ → Kind × ℕ
mark b next after =
    if b == 61 && (is_byte 61 next && is_byte 61 after) then (k.Same, 3)
    else if b == 33 && (is_byte 61 next && is_byte 61 after) then (k.Differs, 3)
    else if b == 61 && is_byte 62 next then (k.Arrow, 2)
    else if b == 124 && is_byte 124 next then (k.Or, 2)
    else if b == 38 && is_byte 38 next then (k.And, 2)
    else if b == 60 && is_byte 61 next then (k.AtMost, 2)
    else if b == 62 && is_byte 61 next then (k.AtLeast, 2)
    else (short_mark b, 1)

-- the words that the grammar quotes
abbrev pub quoted_words : List (List ℕ × Kind)
quoted_words =
    (codes "export", k.Export) ∷ (codes "of", k.Of) ∷ (codes "catch", k.Catch) ∷ (codes "else", k.Else) ∷ (codes "const", k.Const) ∷ (codes "let", k.Let)
    ∷ (codes "if", k.If) ∷ (codes "while", k.While) ∷ (codes "for", k.For) ∷ (codes "return", k.Return) ∷ (codes "throw", k.Throw) ∷ (codes "try", k.Try)
    ∷ (codes "E", k.Eventually) ∷ (codes "AmountMath", k.AmountMath) ∷ (codes "true", k.True) ∷ (codes "false", k.False) ∷ (codes "null", k.Null) ∷ []

abbrev pub kind_among : List (List ℕ × Kind) → List ℕ → Kind
kind_among [] w = k.Word
kind_among (x ∷ xs) w = if bytes_eq w x.0 then x.1 else kind_among xs w

-- the kind of a word
abbrev pub keyword : List ℕ → Kind
keyword w = kind_among quoted_words w

-- what a letter after a backslash stands for
abbrev pub escape : ℕ → Option ℕ
escape c = if c == 110 then Some 10 else if c == 116 then Some 9 else if c == 92 || c == 39 || c == 34 then Some c else None

abbrev pub unescaped : (ℕ → Option (List ℕ × List ℕ)) → Option ℕ → Option (List ℕ × List ℕ)
unescaped go None = None
unescaped go (Some d) = go d

-- the bytes of a text up to its closing quote q, and what follows; none where it isn't closed on its line, or is badly escaped
unfoldable pub quoted : ℕ → Bool → List ℕ → List ℕ → Option (List ℕ × List ℕ)
quoted q e found [] = None
quoted q false found (b ∷ bs) =
    if b == q then Some (found, bs) else if b == 10 then None else if b == 92 then quoted q true found bs else quoted q false (found ++ b ∷ []) bs
quoted q true found (b ∷ bs) = unescaped (λ d. quoted q false (found ++ d ∷ []) bs) (escape b)

abbrev pub seen : Option (Vec ℕ Global × Bor (List ℕ)) → Option (List ℕ × List ℕ)
seen None = None
seen (Some r) = Some (r.0.items, r.1.now)

-- 2^127 - 1
abbrev pub limit : ℕ
limit = 170141183460469231731687303715884105727

-- the number that n and then the digits are
unfoldable pub decimal_from : ℕ → List ℕ → ℕ
decimal_from n [] = n
decimal_from n (b ∷ bs) = decimal_from (10 * n + (b - 48)) bs

abbrev pub decimal : List ℕ → ℕ
decimal digits = decimal_from 0 digits

-- one more than the limit stands for all that is more
abbrev pub capped : ℕ → ℕ
capped n = if nat_le n limit then n else suc limit

abbrev pub of_number : ℕ → ℕ → Token
of_number at n = record { kind = k.Number; at = at; text = []; number = n }

abbrev pub simple : Kind → ℕ → List ℕ → Token
simple kind at text = record { kind = kind; at = at; text = text; number = 0 }

-- a token, and what follows it
abbrev pub Piece : Type 0
Piece = Token × List ℕ

-- what is no token; nothing after it is cut
abbrev pub bad : ℕ → Piece
bad at = (simple k.Bad at [], [])

abbrev pub of_quoted : ℕ → Option (List ℕ × List ℕ) → Piece
of_quoted at None = bad at
of_quoted at (Some r) = if is_utf8 r.0 then (simple k.Quoted at r.0, r.1) else bad at

abbrev pub of_digits : ℕ → List ℕ → List ℕ → Piece
of_digits at digits rest = if is_byte 110 (head rest) then (of_number at (capped (decimal digits)), drop 1 rest) else bad at

abbrev pub of_mark : ℕ → Kind × ℕ → List ℕ → Piece
of_mark at m bytes = (simple m.0 at [], drop m.1 bytes)

-- the token at the front
unfoldable pub piece : ℕ → List ℕ → Piece
piece at [] = bad at
piece at (b ∷ bs) =
    if is_word_start b then (let w = take_while is_word_byte (b ∷ bs) in (simple (keyword w) at w, drop (length w) (b ∷ bs)))
    else if is_digit b then (let d = take_while is_digit (b ∷ bs) in of_digits at d (drop (length d) (b ∷ bs)))
    else if b == 39 || b == 34 then of_quoted at (quoted b false [] bs)
    else of_mark at (mark b (head bs) (head (drop 1 bs))) (b ∷ bs)

abbrev pub cut_at : List ℕ → (List ℕ → Piece) → (List ℕ → List Token) → List Token
cut_at [] read next = []
cut_at (b ∷ s) read next = (read (b ∷ s)).0 ∷ next (read (b ∷ s)).1

-- The tokens of a text, each with its place. The number bounds the turns, and each turn takes a byte, so the count of bytes is enough.
unfoldable pub cut_from : ℕ → ℕ → List ℕ → List Token
cut_from zero total bytes = []
cut_from (suc n) total bytes = cut_at (skip false bytes) (λ s. piece (total - length s) s) (cut_from n total)

unfoldable pub cut : List ℕ → List Token
cut bytes = cut_from (length bytes) (length bytes) bytes
