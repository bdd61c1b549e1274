use Rattle.std.proofs.Common.{ap, subst, sym, ◌∙◌, Option}
use Rattle.row_records.specs.Views.{value_view}
use Rattle.told_rights.specs.BrandKinds.{AreTogether, seen_at, seen_with}
use Rattle.told_rights.specs.declared.brand_kinds.Seen.{Seen}
use Rattle.told_rights.proofs.Seeing.{are_together}
use Rattle.told_rights.proofs.brand_kinds.BrandKinds.seen_with.Goals as goal

pub returns : goal.returns
returns c = λ e form.
    subst (λ (o : Option Seen). AreTogether (seen_at c.args.self.now c.args.brand) (value_view c.args.value.now) o)
    (sym (c.with.ensures ∙ ap (λ (s : Seen). seen_with s c.of.result) c.at.ensures))
    (are_together (seen_at c.args.self.now c.args.brand) c.of.result (value_view c.args.value.now) (c.of.ensures e form))
