-- Values as data, kind by kind.
use Rattle.std.proofs.Common.{◌≡◌, ℕ, pos, map, ap}
use Rattle.amount_math.specs.Content.{entries, of_nat, count-of_nat_unit}
use Rattle.amount_math.specs.ValueView.{ValueView}
use Rattle.amount_math.specs.declared.Kind.TheVariants.{Nat, Set, Bag}
use Rattle.host_data.specs.Tree.{array, number}
use Rattle.host_data.specs.View.{items_of}
use Rattle.host_data.specs.Values.{content_tree, counted_tree, key_tree, value_tree}

-- a number of units is shown as the number
pub value_of_number : (w : ValueView) (n : ℕ) → w ≡ record { kind = Nat; content = of_nat n } → value_tree w ≡ number (pos n)
unfolding value_tree
value_of_number w n is = rw is (ap (λ m. number (pos m)) (count-of_nat_unit n))

-- a set by its keys
pub value_of_set : (w : ValueView) → w.kind ≡ Set → value_tree w ≡ array (items_of (map key_tree (entries w.content)))
unfolding value_tree
value_of_set w is = ap (λ kind. content_tree kind w.content) is

-- a bag by its keys with their counts
pub value_of_bag : (w : ValueView) → w.kind ≡ Bag → value_tree w ≡ array (items_of (map counted_tree (entries w.content)))
unfolding value_tree
value_of_bag w is = ap (λ kind. content_tree kind w.content) is
