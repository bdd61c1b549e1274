use Rattle.std.proofs.Common.{ap, sym, ◌∙◌}
use Rattle.std.specs.Option.{option_copied, unwrap_or}
use Rattle.row_records.specs.amount_math.Content.{Content, count}
use Rattle.told_rights.proofs.Kept.{found_count}
use Rattle.told_rights.proofs.contents.Contents.count.Goals as goal

pub returns-in-Some : goal.returns-in-Some
returns-in-Some c = ap (λ o. unwrap_or (option_copied o) 0) (sym c.in-Some.is) ∙ ap (λ o. unwrap_or o 0) c.get.ensures.value ∙ found_count c.self.inside.counts.entries c.args.element.now ∙ ap (λ (t : Content). count t c.args.element.now) c.self.view_is

pub returns-in-None : goal.returns-in-None
returns-in-None c = ap (λ o. unwrap_or (option_copied o) 0) (sym c.in-None.is) ∙ ap (λ o. unwrap_or o 0) c.get.ensures.value ∙ found_count c.self.inside.counts.entries c.args.element.now ∙ ap (λ (t : Content). count t c.args.element.now) c.self.view_is
