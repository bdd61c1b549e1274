use Rattle.vault_model.specs.Lists.{moved, taken}
use Rattle.vault_model.specs.Tables.{no_hand, table_of}
use Rattle.rights_model.specs.Table as table
use Rattle.vault_model.proofs.Agreeing.{agrees_given, agrees_taken, one_table, table_agrees}
use Rattle.vault_model.proofs.laws.table_follows.Goals as goal

pub returns : goal.returns
returns g c =
    let m = c.args.step.now in
    one_table (moved g.lists m) no_hand _ _ (table_agrees (moved g.lists m))
    (agrees_given (taken g.lists m.from m.brand m.value) no_hand (table.taken (table_of g.lists) m.from m.brand m.value.content) m.brand m.value
    (agrees_taken g.lists no_hand (table_of g.lists) m.brand m.value (table_agrees g.lists) m.from c.requires.0)
    m.to c.requires.1)
