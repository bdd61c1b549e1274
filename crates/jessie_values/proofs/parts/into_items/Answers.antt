use Rattle.std.proofs.Common.{Some, sym, ap}
use Rattle.host_data.specs.View.{trees}
use Rattle.host_data.proofs.Views.{listed_back, tree-Array}
use Rattle.jessie_values.proofs.parts.into_items.Goals as goal

pub returns-in-Array : goal.returns-in-Array
returns-in-Array c =
    let v = c.in-Array.items in
    rw (c.in-Array.is, tree-Array v) (ap Some (sym (listed_back (trees v.items))))
