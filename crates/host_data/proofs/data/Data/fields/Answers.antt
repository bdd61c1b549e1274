use Rattle.std.proofs.Common.{Some, sym, ap}
use Rattle.host_data.specs.View.{named_trees}
use Rattle.host_data.proofs.Views.{paired_back, tree-Record}
use Rattle.host_data.proofs.data.Data.fields.Goals as goal

pub returns-in-Record : goal.returns-in-Record
returns-in-Record c =
    let v = c.in-Record.fields in
    rw (c.in-Record.is, tree-Record v, c.as_slice.ensures.value) (ap Some (sym (paired_back (named_trees v.items))))
