-- Names of objects: a word, and a number behind it.
use Rattle.std.proofs.Common.{◌≡◌, ◌==◌, ◌&&◌, ℕ, List, [], ◌∷◌, ◌++◌, Bool, true, false, length, drop, refl, sym, ap, subst, ◌∙◌, arith}
use Rattle.std.specs.List.{list_any, starts_with}
use Rattle.std.specs.Fmt.{decimal}
use Rattle.std.specs.Str.{bytes_eq}

pub behind_word : (word xs ys : List ℕ) → word ++ xs ≡ word ++ ys → xs ≡ ys
behind_word [] xs ys same = same
behind_word (w ∷ word) xs ys same = behind_word word xs ys (cc)
