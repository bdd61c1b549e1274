use Rattle.std.proofs.Common.{◌≡◌, Ok, length, pos, ap, ◌∙◌, arith}
use Rattle.host_data.specs.Tree.{count, listed, number}
use Rattle.host_data.specs.View.{fields_of, items_of, named_trees, trees}
use Rattle.host_data.proofs.Views.{count_back, tree-Array, tree-Record}
use Rattle.jessie_values.proofs.NamedFields.{length_listed}
use Rattle.jessie_values.proofs.built_ins.length_in.Goals as goal

pub returns-in-Array : goal.returns-in-Array
returns-in-Array c =
    let v = c.in-Array.items in
    let e : c.len-in-Array.result ≡ length (listed (items_of (trees v.items))) = omega (arith, length_listed v.items, v.ok.0, c.len-in-Array.ensures) in
    rw (c.in-Array.is, tree-Array v) (ap Ok (c.count_data-in-Array.ensures ∙ ap (λ n. number (pos n)) e))

pub returns-in-Record : goal.returns-in-Record
returns-in-Record c =
    let v = c.in-Record.fields in
    let e : c.len-in-Record.result ≡ count (fields_of (named_trees v.items)) = omega (arith, count_back v.items, v.ok.0, c.len-in-Record.ensures) in
    rw (c.in-Record.is, tree-Record v) (ap Ok (c.count_data-in-Record.ensures ∙ ap (λ n. number (pos n)) e))
