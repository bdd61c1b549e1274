use Rattle.std.proofs.Common.{sym, ap, ◌∙◌}
use Rattle.host_data.specs.View.{tree, trees}
use Rattle.host_data.proofs.Views.{listed_back, tree-Array}
use Rattle.jessie_values.specs.Accesses.{item_under}
use Rattle.jessie_values.proofs.accesses.index_at.Goals as goal

pub returns-in-Array : goal.returns-in-Array
returns-in-Array c =
    let v = c.in-Array.items in
    rw (c.in-Array.is, tree-Array v) (c.item_under.ensures ∙ ap (λ ts. item_under ts (tree c.args.index.now)) (sym (listed_back (trees v.items))))
