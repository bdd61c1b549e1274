use Rattle.std.proofs.Common.{sym, ap, ◌∙◌}
use Rattle.host_data.specs.View.{tree, trees}
use Rattle.host_data.proofs.Views.{listed_back, tree-Array}
use Rattle.jessie_values.specs.BuiltIns.{replaced_item}
use Rattle.jessie_values.proofs.built_ins.replace_part.Goals as goal

pub returns-in-Array : goal.returns-in-Array
returns-in-Array c =
    let v = c.in-Array.items in
    rw (c.in-Array.is, tree-Array v) (c.replace_item.ensures ∙ ap (λ ts. replaced_item ts (tree c.args.index.now) (tree c.args.value)) (sym (listed_back (trees v.items))))
