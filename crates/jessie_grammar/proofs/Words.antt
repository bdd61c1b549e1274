-- Words are ASCII, and so UTF-8.
use Rattle.std.proofs.Common.{◌≡◌, ℕ, ◌<◌, Bool, true, false, if◌then◌else◌, List, [], ◌∷◌, length, take, take_while, refl, sym, ap, subst, ◌∙◌, arith}
use Rattle.std.proofs.lemmas.List.Sums.{take_while-cons}
use Rattle.std.proofs.lemmas.Str.Ascii.{IsAscii-nil, IsAscii-cons}
use Rattle.std.proofs.lemmas.Str.{IsUtf8-from_ascii, IsUtf8-from_is_utf8}
use Rattle.std.specs.Str.{IsAscii, IsUtf8, is_utf8}
use Rattle.jessie_grammar.specs.Lex.{is_word_byte}

ascii_by : (p : ℕ → Bool) (b : ℕ) (bs : List ℕ) → (p b ≡ true → b < 128) → IsAscii (take_while p bs) → (x : Bool) → p b ≡ x → IsAscii (if x then b ∷ take_while p bs else [])
ascii_by p b bs small others true e = IsAscii-cons b (take_while p bs) (small e) others
ascii_by p b bs small others false e = IsAscii-nil

ascii_front : (p : ℕ → Bool) → ((b : ℕ) → p b ≡ true → b < 128) → (bs : List ℕ) → IsAscii (take_while p bs)
ascii_front p small [] = IsAscii-nil
ascii_front p small (b ∷ bs) = rw (take_while-cons p b bs) (ascii_by p b bs (small b) (ascii_front p small bs) (p b) refl)

front_by : (p : ℕ → Bool) (b : ℕ) (bs : List ℕ) → take (length (take_while p bs)) bs ≡ take_while p bs → (x : Bool)
    → take (length (if x then b ∷ take_while p bs else [])) (b ∷ bs) ≡ (if x then b ∷ take_while p bs else [])
front_by p b bs e true = ap (λ (z : List ℕ). b ∷ z) e
front_by p b bs e false = refl

front_is : (p : ℕ → Bool) (bs : List ℕ) → take (length (take_while p bs)) bs ≡ take_while p bs
front_is p [] = refl
front_is p (b ∷ bs) = rw (take_while-cons p b bs) (front_by p b bs (front_is p bs) (p b))

-- the bytes of a word
pub word_utf8 : (n : ℕ) (bs w : List ℕ) → n ≡ length (take_while is_word_byte bs) → w ≡ take n bs → IsUtf8 w
word_utf8 n bs w e i =
    let P : List ℕ → Type 0 = IsUtf8 in
    let same : w ≡ take_while is_word_byte bs = i ∙ (ap (λ m. take m bs) e ∙ front_is is_word_byte bs) in
    subst P (sym same) (IsUtf8-from_ascii _ (ascii_front is_word_byte (λ b h. grind arith) bs))

none_by : (bs : List ℕ) → (IsUtf8 bs → ⊥) → (x : Bool) → is_utf8 bs ≡ x → is_utf8 bs ≡ false
none_by bs n true e = absurd (n (IsUtf8-from_is_utf8 bs e))
none_by bs n false e = e

pub no_utf8 : (bs : List ℕ) → (IsUtf8 bs → ⊥) → is_utf8 bs ≡ false
no_utf8 bs n = none_by bs n (is_utf8 bs) refl
