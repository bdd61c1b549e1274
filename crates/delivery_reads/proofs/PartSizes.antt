-- What lists of data come to with one more behind them, and what is then left of what they were paid of.
use Rattle.std.proofs.Common.{◌≡◌, ℕ, ◌+◌, ◌-◌, Bool, true, false, nat_le, Option, Some, None, Ok, List, [], ◌∷◌, ◌++◌, length, refl, sym, ap, ◌∙◌, arith}
use Rattle.std.specs.Option.{ok_or}
use Rattle.std.specs.Prelude.{if◌then◌else◌}
use Rattle.std.proofs.lemmas.Bool.{leb-true}
use Rattle.std.proofs.lemmas.List.{map-append}
use Rattle.host_data.specs.Tree.{Tree, fields_size, items_size, size}
use Rattle.host_data.specs.View as views
use Rattle.host_data.specs.View.{fields_of, items_of, named_trees, tree, trees}
use Rattle.host_data.specs.declared.data.Data.{Data}

items_size-more : (ts : List Tree) (t : Tree) → items_size (items_of (ts ++ t ∷ [])) ≡ items_size (items_of ts) + size t
items_size-more [] t = omega arith
items_size-more (u ∷ us) t = omega (arith, items_size-more us t)

fields_size-more : (ms : List (List ℕ × Tree)) (m : List ℕ × Tree) → fields_size (fields_of (ms ++ m ∷ [])) ≡ fields_size (fields_of ms) + (length m.0 + size m.1)
fields_size-more [] m = omega arith
fields_size-more (n ∷ ns) m = omega (arith, fields_size-more ns m)

pub items_paid : (start before after : ℕ) (found : List Data) (d : Data) (pushed : List Data) → pushed ≡ found ++ d ∷ [] → before ≡ after + size (tree d)
    → start ≡ before + items_size (items_of (trees found)) → start ≡ after + items_size (items_of (trees pushed))
items_paid start before after found d pushed more paid so_far =
    let is = ap (λ (ds : List Data). items_size (items_of (trees ds))) more ∙ ap (λ (ts : List Tree). items_size (items_of ts)) (map-append tree found (d ∷ [])) ∙ items_size-more (trees found) (tree d) in
    omega (arith, is)

pub fields_paid : (start before after : ℕ) (found : List (List ℕ × Data)) (name : List ℕ) (d : Data) (pushed : List (List ℕ × Data)) → pushed ≡ found ++ (name, d) ∷ []
    → before ≡ after + (length name + size (tree d))
    → start ≡ before + fields_size (fields_of (named_trees found)) → start ≡ after + fields_size (fields_of (named_trees pushed))
fields_paid start before after found name d pushed more paid so_far =
    let is = ap (λ (ds : List (List ℕ × Data)). fields_size (fields_of (named_trees ds))) more ∙ ap (λ (ms : List (List ℕ × Tree)). fields_size (fields_of ms)) (map-append views.named found ((name, d) ∷ []))
    ∙ fields_size-more (named_trees found) (name, tree d) in
    omega (arith, is)

-- what is left once so much was paid
pub left_behind : (left n after : ℕ) → (if nat_le n left then Some (left - n) else None) ≡ Some after → left ≡ after + n
left_behind left n after is = by (nat_le n left) refl is
  where
    by : (b : Bool) → nat_le n left ≡ b → (if b then Some (left - n) else None) ≡ Some after → left ≡ after + n
    by true enough same = let e : left - n ≡ after = cc in omega (arith, e, leb-true n left enough)
    by false few same = absurd (cc)

-- what a result has in its place was there
pub was_there : {E : Type 0} (found : Option ℕ) (e : E) (n : ℕ) → Ok n ≡ ok_or found e → found ≡ Some n
was_there (Some m) e n is = cc
was_there None e n is = absurd (cc)
