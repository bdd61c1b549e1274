use Rattle.std.proofs.Common.{rules}
use Rattle.std.proofs.lemmas.Iterator.{YieldsList-from_slice}
use Rattle.std.proofs.lemmas.Iterator.Search.{any_from_yields_List}
use Rattle.std.specs.Str.{bytes_eq}
use Rattle.row_forms.proofs.refusals.is_one_of.Goals as goal

pub returns : goal.returns
returns c = any_from_yields_List (λ known. bytes_eq c.args.code.now known.now) _ _ c.any.result c.any.ensures.ran (YieldsList-from_slice c.args.codes.now cc) (λ x b q k. search rules)
