-- The JSON value of a line, by what the reader answers.
use Rattle.std.proofs.Common.{◌≡◌, List, ℕ, Bool, true, false, Some, None, refl}
use Rattle.std.specs.Str.{IsUtf8, is_utf8}
use Rattle.std.proofs.lemmas.Str.{IsUtf8-from_is_utf8, is_utf8-from_IsUtf8}
use Rattle.serde_json.specs.Data.{Data}
use Rattle.serde_json.specs.Read.{read}
use Rattle.message_lines.specs.Meanings.{json_of}

json_of-none_at : (b : Bool) (line : List ℕ) → is_utf8 line ≡ b → (IsUtf8 line → read line ≡ None) → json_of line ≡ None
unfolding json_of
json_of-none_at true line is h = rw is (h (IsUtf8-from_is_utf8 line is))
json_of-none_at false line is h = rw is

pub json_of-none : (line : List ℕ) → (IsUtf8 line → read line ≡ None) → json_of line ≡ None
json_of-none line h = json_of-none_at (is_utf8 line) line refl h

pub json_of-some : (line : List ℕ) (d : Data) → IsUtf8 line → read line ≡ Some d → json_of line ≡ Some d
unfolding json_of
json_of-some line d text h = rw (is_utf8-from_IsUtf8 line text) h
