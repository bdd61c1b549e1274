-- Words and numbers are ASCII, and so UTF-8.
use Rattle.std.proofs.Common.{◌≡◌, ℕ, ◌<◌, List, [], ◌∷◌, Bool, true, arith}
use Rattle.std.proofs.lemmas.Str.Ascii.{IsAscii-nil, IsAscii-cons}
use Rattle.std.proofs.lemmas.Str.{IsUtf8-from_ascii}
use Rattle.std.specs.Char.{is_ascii_uppercase, is_ascii_lowercase}
use Rattle.std.specs.List.{list_all}
use Rattle.std.specs.Str.{IsAscii, IsUtf8}
use Rattle.host_text.specs.Words.{is_word, is_word_byte, is_keyword, is_label}

-- bytes that pass a test which ASCII alone passes
pub IsAscii-list_all : (p : ℕ → Bool) → ((b : ℕ) → p b ≡ true → b < 128) → (bs : List ℕ) → list_all p bs ≡ true → IsAscii bs
IsAscii-list_all p ascii [] h = IsAscii-nil
IsAscii-list_all p ascii (b ∷ bs) h =
    let first : p b ≡ true = grind arith in
    let others : list_all p bs ≡ true = grind arith in
    IsAscii-cons b bs (ascii b first) (IsAscii-list_all p ascii bs others)

pub IsAscii-is_word : (begins : ℕ → Bool) (most : ℕ) → ((b : ℕ) → begins b ≡ true → b < 128) → (bs : List ℕ) → is_word begins most bs ≡ true → IsAscii bs
IsAscii-is_word begins most ascii [] h = IsAscii-nil
IsAscii-is_word begins most ascii (b ∷ bs) h =
    let first : begins b ≡ true = grind arith in
    let others : list_all is_word_byte bs ≡ true = grind arith in
    IsAscii-cons b bs (ascii b first) (IsAscii-list_all is_word_byte (λ x e. grind arith) bs others)

pub IsUtf8-is_keyword : (bs : List ℕ) → is_keyword bs ≡ true → IsUtf8 bs
IsUtf8-is_keyword bs h = IsUtf8-from_ascii bs (IsAscii-is_word is_ascii_uppercase 32 (λ x e. grind arith) bs (grind arith))

pub IsUtf8-is_label : (bs : List ℕ) → is_label bs ≡ true → IsUtf8 bs
IsUtf8-is_label bs h = IsUtf8-from_ascii bs (IsAscii-is_word is_ascii_lowercase 32 (λ x e. grind arith) bs h)
