use Rattle.std.proofs.Common.{◌≡◌, Some, ap, arith}
use Rattle.host_data.specs.Tree.{count}
use Rattle.host_data.specs.View.{named_trees, fields_of}
use Rattle.host_data.proofs.Views.{count_back, tree-Record}
use Rattle.host_data.proofs.data.Data.field_count.Goals as goal

pub returns-in-Record : goal.returns-in-Record
returns-in-Record c =
    let v = c.in-Record.fields in
    let e : v.len ≡ count (fields_of (named_trees v.items)) = omega (arith, count_back v.items, v.ok.0) in
    rw (c.in-Record.is, tree-Record v, c.len.ensures) (ap Some e)
