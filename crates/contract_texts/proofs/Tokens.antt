-- What the tokens of a text are like: their texts are UTF-8, and those of words are names, where they aren't too long.
use Rattle.std.proofs.Common.{◌≡◌, ℕ, zero, suc, ◌-◌, ◌<◌, Bool, true, false, ◌==◌, ◌||◌, ◌&&◌, if◌then◌else◌, List, [], ◌∷◌, length, drop, take_while, Option, Some, None, refl, sym, ap, subst, ◌∙◌, arith, true≢false}
use Rattle.std.proofs.lemmas.Bool.Decides.{nat_tests}
use Rattle.std.proofs.lemmas.List.Sums.{take_while-cons}
use Rattle.std.proofs.lemmas.Str.Ascii.{IsAscii-nil, IsAscii-cons}
use Rattle.std.proofs.lemmas.Str.{IsUtf8-nil, IsUtf8-from_ascii, IsUtf8-from_is_utf8}
use Rattle.std.specs.Prelude.{nat_le}
use Rattle.std.specs.List.{list_all, AllByRecursion}
use Rattle.std.specs.Str.{IsAscii, IsUtf8, is_utf8}
use Rattle.jessie_reader.specs.host_text.Words.{is_field_name, is_name_start}
use Rattle.jessie_reader.specs.host_text.Words as names
use Rattle.rules.specs.jessie_grammar.Words.{words}
use Rattle.rules.specs.jessie_grammar.Lex.{Piece, bad, cut, cut_at, cut_from, head, is_digit, is_word_byte, is_word_start, keyword, mark, of_digits, of_mark, of_quoted, piece, quoted, short_mark, simple, skip, is_byte}
use Rattle.rules.specs.jessie_grammar.Tokens.{has}
use Rattle.rules.specs.jessie_grammar.declared.jessie_lexer.token.Kind.{Kind}
use Rattle.rules.specs.jessie_grammar.declared.jessie_lexer.token.Kind.TheVariants as k
use Rattle.rules.specs.jessie_grammar.declared.jessie_lexer.token.Token.{Token}

-- of a text of at most 64 bytes, that it is a name
abbrev pub IsShortName : List ℕ → Type 0
IsShortName w = nat_le (length w) 64 ≡ true → is_field_name w ≡ true

pub record IsToken (t : Token) : Type 0 where
  pub words : has words t.kind ≡ true → IsShortName t.text
  pub utf8 : IsUtf8 t.text

-- ---- words

starts_name : (b : ℕ) → is_word_start b ≡ true → is_name_start b ≡ true
starts_name b h = grind (arith, nat_tests)

goes_on : (b : ℕ) → is_word_byte b ≡ true → names.is_word_byte b ≡ true
goes_on b h = grind (arith, nat_tests)

small_byte : (b : ℕ) → is_word_byte b ≡ true → b < 128
small_byte b h = grind (arith, nat_tests)

taken_by : (p : ℕ → Bool) (b : ℕ) (bs : List ℕ) (x : Bool) → p b ≡ x → list_all p (take_while p bs) ≡ true → list_all p (if x then b ∷ take_while p bs else []) ≡ true
taken_by p b bs true e h = rw (e, h) refl
taken_by p b bs false e h = refl

all_taken : (p : ℕ → Bool) (bs : List ℕ) → list_all p (take_while p bs) ≡ true
all_taken p [] = refl
all_taken p (b ∷ bs) = rw (take_while-cons p b bs) (taken_by p b bs (p b) refl (all_taken p bs))

all_words : (bs : List ℕ) → list_all is_word_byte bs ≡ true → list_all names.is_word_byte bs ≡ true
all_words [] h = refl
all_words (b ∷ bs) h =
    let here : is_word_byte b ≡ true = grind arith in
    let others : list_all is_word_byte bs ≡ true = grind arith in
    rw (goes_on b here, all_words bs others) refl

ascii_all : (bs : List ℕ) → list_all is_word_byte bs ≡ true → IsAscii bs
ascii_all [] h = IsAscii-nil
ascii_all (b ∷ bs) h =
    let here : is_word_byte b ≡ true = grind arith in
    let others : list_all is_word_byte bs ≡ true = grind arith in
    IsAscii-cons b bs (small_byte b here) (ascii_all bs others)

name_of : (b : ℕ) (w : List ℕ) → is_word_start b ≡ true → list_all is_word_byte w ≡ true → IsShortName (b ∷ w)
name_of b w first others short = rw (starts_name b first, all_words w others, short) refl

word_start_goes : (b : ℕ) → is_word_start b ≡ true → is_word_byte b ≡ true
word_start_goes b h = rw h refl

first_taken : (b : ℕ) (bs : List ℕ) → is_word_start b ≡ true → take_while is_word_byte (b ∷ bs) ≡ b ∷ take_while is_word_byte bs
first_taken b bs h = take_while-cons is_word_byte b bs ∙ ap (λ x. if x then b ∷ take_while is_word_byte bs else []) (word_start_goes b h)

word_token : (kind : Kind) (at b : ℕ) (bs : List ℕ) → is_word_start b ≡ true → IsToken (simple kind at (take_while is_word_byte (b ∷ bs)))
word_token kind at b bs h =
    let w : List ℕ = take_while is_word_byte (b ∷ bs) in
    record {
      words = λ e. let P : List ℕ → Type 0 = IsShortName in subst P (sym (first_taken b bs h)) (name_of b (take_while is_word_byte bs) h (all_taken is_word_byte bs));
      utf8 = IsUtf8-from_ascii _ (ascii_all w (all_taken is_word_byte (b ∷ bs)));
    }

-- ---- other tokens

record IsNoWord (kind : Kind) : Type 0 where
  is : has words kind ≡ false

without_text : (t : Token) → IsNoWord t.kind → IsUtf8 t.text → IsToken t
without_text t none u = record { words = λ e. absurd (true≢false (sym e ∙ none.is)); utf8 = u }

plainly : {kind : Kind} → has words kind ≡ false → IsNoWord kind
plainly e = record { is = e }

pick : (x : Bool) (j l : Kind) → IsNoWord j → IsNoWord l → IsNoWord (if x then j else l)
pick true j l h i = h
pick false j l h i = i

short_is_none : (b : ℕ) → IsNoWord (short_mark b)
short_is_none b =
    pick (b == 40) k.LeftParen _ (plainly refl) (
    pick (b == 41) k.RightParen _ (plainly refl) (
    pick (b == 91) k.LeftBracket _ (plainly refl) (
    pick (b == 93) k.RightBracket _ (plainly refl) (
    pick (b == 123) k.LeftBrace _ (plainly refl) (
    pick (b == 125) k.RightBrace _ (plainly refl) (
    pick (b == 44) k.Comma _ (plainly refl) (
    pick (b == 59) k.Semicolon _ (plainly refl) (
    pick (b == 58) k.Colon _ (plainly refl) (
    pick (b == 46) k.Dot _ (plainly refl) (
    pick (b == 63) k.Question _ (plainly refl) (
    pick (b == 43) k.Plus _ (plainly refl) (
    pick (b == 45) k.Minus _ (plainly refl) (
    pick (b == 42) k.Times _ (plainly refl) (
    pick (b == 47) k.Over _ (plainly refl) (
    pick (b == 37) k.Remainder _ (plainly refl) (
    pick (b == 61) k.Equals _ (plainly refl) (
    pick (b == 33) k.Not _ (plainly refl) (
    pick (b == 60) k.Less _ (plainly refl) (
    pick (b == 62) k.Greater k.Bad (plainly refl) (plainly refl))))))))))))))))))))

pick_mark : (x : Bool) (m n : Kind × ℕ) → IsNoWord m.0 → IsNoWord n.0 → IsNoWord (if x then m else n).0
pick_mark true m n h i = h
pick_mark false m n h i = i

mark_is_none : (b : ℕ) (next after : Option ℕ) → IsNoWord (mark b next after).0
mark_is_none b next after =
    pick_mark (b == 61 && (is_byte 61 next && is_byte 61 after)) (k.Same, 3) _ (plainly refl)
    (pick_mark (b == 33 && (is_byte 61 next && is_byte 61 after)) (k.Differs, 3) _ (plainly refl)
    (pick_mark (b == 61 && is_byte 62 next) (k.Arrow, 2) _ (plainly refl)
    (pick_mark (b == 124 && is_byte 124 next) (k.Or, 2) _ (plainly refl)
    (pick_mark (b == 38 && is_byte 38 next) (k.And, 2) _ (plainly refl)
    (pick_mark (b == 60 && is_byte 61 next) (k.AtMost, 2) _ (plainly refl)
    (pick_mark (b == 62 && is_byte 61 next) (k.AtLeast, 2) (short_mark b, 1) (plainly refl) (short_is_none b)))))))

bad_token : (at : ℕ) → IsToken (bad at).0
bad_token at = without_text (bad at).0 (plainly refl) IsUtf8-nil

digits_by : (at : ℕ) (digits rest : List ℕ) (x : Bool) → is_byte 110 (head rest) ≡ x → IsToken (of_digits at digits rest).0
digits_by at digits rest true e = rw e (without_text _ (plainly refl) IsUtf8-nil)
digits_by at digits rest false e = rw e (bad_token at)

utf8_by : (at : ℕ) (r : List ℕ × List ℕ) (x : Bool) → is_utf8 r.0 ≡ x → IsToken (of_quoted at (Some r)).0
utf8_by at r true e = rw e (without_text (simple k.Quoted at r.0) (plainly refl) (IsUtf8-from_is_utf8 r.0 e))
utf8_by at r false e = rw e (bad_token at)

quoted_token : (at : ℕ) (o : Option (List ℕ × List ℕ)) → IsToken (of_quoted at o).0
quoted_token at None = bad_token at
quoted_token at (Some r) = utf8_by at r (is_utf8 r.0) refl

-- ---- the token at the front

pick_piece : (x : Bool) (p q : Piece) → (x ≡ true → IsToken p.0) → IsToken q.0 → IsToken (if x then p else q).0
pick_piece true p q h i = h refl
pick_piece false p q h i = i

piece_token : (at : ℕ) (bytes : List ℕ) → IsToken (piece at bytes).0
unfolding piece
piece_token at [] = bad_token at
piece_token at (b ∷ bs) =
    let w : List ℕ = take_while is_word_byte (b ∷ bs) in
    let d : List ℕ = take_while is_digit (b ∷ bs) in
    let word : Piece = (simple (keyword w) at w, drop (length w) (b ∷ bs)) in
    let digits : Piece = of_digits at d (drop (length d) (b ∷ bs)) in
    let text : Piece = of_quoted at (quoted b false [] bs) in
    let other : Piece = of_mark at (mark b (head bs) (head (drop 1 bs))) (b ∷ bs) in
    pick_piece (is_word_start b) word (if is_digit b then digits else if b == 39 || b == 34 then text else other) (λ e. word_token (keyword w) at b bs e)
    (pick_piece (is_digit b) digits (if b == 39 || b == 34 then text else other) (λ e. digits_by at d (drop (length d) (b ∷ bs)) (is_byte 110 (head (drop (length d) (b ∷ bs)))) refl)
    (pick_piece (b == 39 || b == 34) text other (λ e. quoted_token at (quoted b false [] bs)) (without_text other.0 (mark_is_none b (head bs) (head (drop 1 bs))) IsUtf8-nil)))

-- ---- all of them

cut_at_tokens : (here : List ℕ) (read : List ℕ → Piece) (next : List ℕ → List Token) → ((s : List ℕ) → IsToken (read s).0) → ((s : List ℕ) → AllByRecursion IsToken (next s)) → AllByRecursion IsToken (cut_at here read next)
cut_at_tokens [] read next h i = tt
cut_at_tokens (b ∷ s) read next h i = (h (b ∷ s), i (read (b ∷ s)).1)

cut_from_tokens : (n total : ℕ) (bytes : List ℕ) → AllByRecursion IsToken (cut_from n total bytes)
unfolding cut_from
cut_from_tokens zero total bytes = tt
cut_from_tokens (suc n) total bytes = cut_at_tokens (skip false bytes) (λ s. piece (total - length s) s) (cut_from n total) (λ s. piece_token _ s) (cut_from_tokens n total)

pub all_tokens : (bytes : List ℕ) → AllByRecursion IsToken (cut bytes)
unfolding cut
all_tokens bytes = cut_from_tokens (length bytes) (length bytes) bytes
