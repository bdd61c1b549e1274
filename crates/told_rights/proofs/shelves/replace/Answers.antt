use Rattle.std.proofs.Common.{None, Some, sym, ◌∙◌}
use Rattle.std.proofs.lemmas.Bool.{true≢false}
use Rattle.told_rights.proofs.Shelving.{none_is_some, some_is_some, stays_filled}
use Rattle.told_rights.proofs.shelves.replace.Goals as goal

pub returns-then-is_empty-clause-filled : goal.returns-then-is_empty-clause-filled
returns-then-is_empty-clause-filled g c = stays_filled g.K.Ord.cmp c.args.rows.now.entries c.remove.new.self.entries c.args.key None c.remove.ensures.updates.0 none_is_some

pub returns-in-Ok-clause-filled : goal.returns-in-Ok-clause-filled
returns-in-Ok-clause-filled g c =
    stays_filled g.K.Ord.cmp c.args.rows.now.entries c.insert.new.self.entries c.args.key (Some c.args.contents) c.in-Ok.ensures.updates.0
    (some_is_some c.args.contents (λ e. true≢false (sym (c.is_empty.ensures.1 e) ∙ c.if-is_empty.false)))
