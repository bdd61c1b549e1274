-- The JSON of lists of data and of what is shown as fields, one more at the end.
use Rattle.std.proofs.Common.{◌≡◌, ℕ, List, [], ◌∷◌, ◌++◌, refl, ap, ◌+◌, ◌<◌, length, take, get_or, map}
use Rattle.std.proofs.lemmas.List.{take_more}
use Rattle.serde_json.specs.Data.{item, Members, put}
use Rattle.serde_json.specs.View.{items_of as json_items}
use Rattle.refusals.specs.host_data.Tree.{Tree}
use Rattle.refusals.specs.host_data.View.{tree, trees, items_of, fields_of}
use Rattle.refusals.specs.host_data.declared.data.Data as D
use Rattle.turn_records.specs.PrintedData.{printed, printed_fields, printed_items}

-- each shown as a name and data
module _ {A : Type 0} (shown : A → List ℕ × Tree) where
  printed_fields-push : (xs : List A) (x : A) (found : Members)
      → printed_fields (fields_of (map shown (xs ++ x ∷ []))) found ≡ put (shown x).0 (printed (shown x).1) (printed_fields (fields_of (map shown xs)) found)
  printed_fields-push [] x found = refl
  printed_fields-push (y ∷ xs) x found = printed_fields-push xs x (put (shown y).0 (printed (shown y).1) found)

  pub printed_fields-more : (xs : List A) (i : ℕ) (x : A) (found : Members) → i < length xs → x ≡ get_or xs i x
      → printed_fields (fields_of (map shown (take (i + 1) xs))) found ≡ put (shown x).0 (printed (shown x).1) (printed_fields (fields_of (map shown (take i xs))) found)
  printed_fields-more xs i x found within is = rw (take_more xs i x within, ← is) (printed_fields-push (take i xs) x found)

pub printed_items-trees : (xs : List D.Data) → json_items (map (λ d. printed (tree d)) xs) ≡ printed_items (items_of (trees xs))
printed_items-trees [] = refl
printed_items-trees (x ∷ xs) = ap (item (printed (tree x))) (printed_items-trees xs)
