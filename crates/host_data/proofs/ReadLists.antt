-- A list that is read item by item.
use Rattle.std.proofs.Common.{◌≡◌, ℕ, ◌+◌, ◌<◌, ◌≤◌, Option, Some, None, List, [], ◌∷◌, ◌++◌, length, map, drop, get_or, refl, sym, ap, ◌∙◌}
use Rattle.std.proofs.lemmas.List.{append-nil, append_assoc, drop_all, drop_more}
use Rattle.std.specs.Option.{option_and_then, option_map}
use Rattle.host_data.specs.Amounts.{read_all}

module _ {X A B : Type 0} (f : A → Option B) (v : X → A) where
  -- what was read of the first i goes before what the others are read as
  pub record IsRead (xs : List X) (i : ℕ) (done : List B) : Type 0 where
    pub so_far : read_all f (map v xs) ≡ option_map (λ ys. done ++ ys) (read_all f (map v (drop i xs)))

  joined : (o : Option (List B)) (done : List B) (y : B) → option_map (λ ys. done ++ ys) (option_map (λ ys. y ∷ ys) o) ≡ option_map (λ ys. (done ++ y ∷ []) ++ ys) o
  joined None done y = refl
  joined (Some zs) done y = ap Some (sym (append_assoc done (y ∷ []) zs))

  unread : (o : Option (List B)) → option_map (λ ys. [] ++ ys) o ≡ o
  unread None = refl
  unread (Some ys) = refl

  pub read_none : (xs : List X) → IsRead xs 0 []
  read_none xs = record { so_far = sym (unread (read_all f (map v xs))) }

  module _ (xs : List X) (i : ℕ) (done : List B) (is : IsRead xs i done) where
    next : (x : X) → i < length xs → x ≡ get_or xs i x → read_all f (map v (drop i xs)) ≡ option_and_then (λ y. option_map (λ ys. y ∷ ys) (read_all f (map v (drop (i + 1) xs)))) (f (v x))
    next x lt at = ap (λ zs. read_all f (map v zs)) (drop_more xs i x lt) ∙ ap (λ z. option_and_then (λ y. option_map (λ ys. y ∷ ys) (read_all f (map v (drop (i + 1) xs)))) (f (v z))) (sym at)

    pub read_more : (x : X) (y : B) → i < length xs → x ≡ get_or xs i x → f (v x) ≡ Some y → IsRead xs (i + 1) (done ++ y ∷ [])
    read_more x y lt at read = record {
      so_far =
          is.so_far
          ∙ ap (option_map (λ ys. done ++ ys)) (next x lt at ∙ ap (option_and_then (λ z. option_map (λ ys. z ∷ ys) (read_all f (map v (drop (i + 1) xs))))) read)
          ∙ joined (read_all f (map v (drop (i + 1) xs))) done y;
    }

    pub read_stops : (x : X) → i < length xs → x ≡ get_or xs i x → f (v x) ≡ None → read_all f (map v xs) ≡ None
    read_stops x lt at read = is.so_far ∙ ap (option_map (λ ys. done ++ ys)) (next x lt at ∙ ap (option_and_then (λ z. option_map (λ ys. z ∷ ys) (read_all f (map v (drop (i + 1) xs))))) read)

    pub read_ends : length xs ≤ i → read_all f (map v xs) ≡ Some done
    read_ends past = is.so_far ∙ ap (λ zs. option_map (λ ys. done ++ ys) (read_all f (map v zs))) (drop_all i xs past) ∙ ap Some (append-nil done)
