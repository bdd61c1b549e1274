use Rattle.std.proofs.Common.{◌≡◌, Some, length, ap, ◌∙◌, arith, rules}
use Rattle.std.proofs.lemmas.Int.{to_z-of_z}
use Rattle.host_data.specs.View.{trees}
use Rattle.jessie_values.specs.Records.{made_array}
use Rattle.jessie_values.specs.Accesses.{place_in}
use Rattle.jessie_values.proofs.NamedFields.{length_trees, trees_set}
use Rattle.jessie_values.proofs.built_ins.set_item_at.Goals as goal

pub returns-in-Some : goal.returns-in-Some
returns-in-Some c =
    let items = c.args.items.items in
    let fits = c.ranges.index in
    let n : length (trees items) ≡ c.len.result = omega (arith, length_trees items, c.args.items.ok.0, c.len.ensures) in
    let e : place_in (length (trees items)) c.args.index ≡ Some c.in-Some.place = rw n (first_of (search rules, grind (arith, to_z-of_z), cc)) in
    rw e (c.array_data.ensures ∙ ap made_array (ap trees c.set_item.ensures ∙ trees_set items c.in-Some.place c.args.value))
