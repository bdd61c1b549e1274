use Rattle.std.proofs.Common.{ap, ◌∙◌}
use Rattle.std.specs.Str.{bytes_eq}
use Rattle.row_records.specs.fair_rows.ExitCauses.{name}
use Rattle.told_causes.proofs.Named.{name_test}
use Rattle.told_causes.proofs.facets.number_in.Goals as goal

pub returns-in-Some-clause-tests : goal.returns-in-Some-clause-tests
returns-in-Some-clause-tests c = λ n low. ap (λ s. bytes_eq s (name c.args.word.now n)) c.in-Some.ensures.some.1 ∙ name_test c.args.word.now c.in-Some.number n low
