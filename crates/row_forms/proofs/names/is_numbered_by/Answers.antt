use Rattle.std.proofs.Common.{rules}
use Rattle.std.proofs.lemmas.Iterator.{YieldsList-from_slice}
use Rattle.std.proofs.lemmas.Iterator.Search.{any_from_yields_List}
use Rattle.row_forms.specs.Names.{has_number}
use Rattle.row_forms.proofs.names.is_numbered_by.Goals as goal

pub returns : goal.returns
returns c = any_from_yields_List (λ w. has_number c.args.end c.args.name.now w.now) _ _ c.any.result c.any.ensures.ran (YieldsList-from_slice c.args.words.now cc) (λ x b q k. search rules)
