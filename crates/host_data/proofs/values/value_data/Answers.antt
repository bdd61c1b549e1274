use Rattle.std.proofs.Common.{◌∙◌, sym, ap, arith}
use Rattle.std.proofs.lemmas.Int.{to_z_pos}
use Rattle.host_data.specs.Tree.{number}
use Rattle.host_data.proofs.Views.{tree-Number}
use Rattle.host_data.proofs.ValueTrees.{value_of_number}
use Rattle.host_data.proofs.values.value_data.Goals as goal

pub returns-in-Some : goal.returns-in-Some
returns-in-Some c =
    tree-Number _ ∙ ap number (to_z_pos mir.Syntax.w128 c.in-Some.number (omega (arith, c.in-Some.ensures.bounded)))
    ∙ sym (value_of_number c.args.value.now c.in-Some.number c.in-Some.ensures.number)
