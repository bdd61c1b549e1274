-- The first element of a content, in byte order, of which there are more than a bound.
use Rattle.std.specs.Prelude.{◌≡◌, ℕ, List, map, nat_lt, Option, option_map, IfSome}
use Rattle.std.specs.Borrow.{Bor}
use Rattle.std.specs.List.{find}
use Rattle.refusals.specs.amount_math.Content.{Content, count, entries}

-- the elements of a content, in byte order
abbrev pub elements : Content → List (List ℕ)
elements c = map (λ e. e.0) (entries c)

-- the first element, in byte order, of which there are more than the most
abbrev pub first_past : ℕ → Content → Option (List ℕ)
first_past most c = find (λ k. nat_lt most (count c k)) (elements c)

-- an element that was found, with how many of it there are
abbrev pub Found : Type 0
Found = Option (Bor (List ℕ) × ℕ)

abbrev pub element_of : Found → Option (List ℕ)
element_of found = option_map (λ p. p.0.now) found

-- the number is how many of it the content has
abbrev pub IsCountOf : Content → Found → Type 0
IsCountOf c found = IfSome found (λ p. p.1 ≡ count c p.0.now)
