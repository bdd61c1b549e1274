use Rattle.std.proofs.Common.{◌≡◌, ap, sym, ◌∙◌, map}
use Rattle.std.proofs.lemmas.Result.{IfOk-weaker}
use Rattle.host_data.specs.Tree.{array}
use Rattle.host_data.specs.View.{items_of, trees}
use Rattle.host_data.specs.Values.{counted_tree, key_tree, value_tree}
use Rattle.host_data.proofs.ValueTrees.{value_of_bag, value_of_set}
use Rattle.host_data.proofs.values.keyed_data.Goals as goal

pub returns-in-Set : goal.returns-in-Set
returns-in-Set c =
    let whole = ap (λ es. array (items_of (map key_tree es))) c.in-Some.ensures.entries ∙ sym (value_of_set c.args.value.now (sym c.in-Set.ensures.kind)) in
    IfOk-weaker c.keys_data.result (λ made. trees made.items ≡ map key_tree c.in-Some.entries.now) (λ made. array (items_of (trees made.items)) ≡ value_tree c.args.value.now)
    (λ made is. ap (λ ts. array (items_of ts)) is ∙ whole) c.keys_data.ensures

pub returns-in-Bag : goal.returns-in-Bag
returns-in-Bag c =
    let whole = ap (λ es. array (items_of (map counted_tree es))) c.in-Some.ensures.entries ∙ sym (value_of_bag c.args.value.now (sym c.in-Bag.ensures.kind)) in
    IfOk-weaker c.counts_data.result (λ made. trees made.items ≡ map counted_tree c.in-Some.entries.now) (λ made. array (items_of (trees made.items)) ≡ value_tree c.args.value.now)
    (λ made is. ap (λ ts. array (items_of ts)) is ∙ whole) c.counts_data.ensures
