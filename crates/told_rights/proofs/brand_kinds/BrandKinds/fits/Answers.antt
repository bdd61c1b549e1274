use Rattle.std.proofs.Common.{subst, sym}
use Rattle.std.specs.Prelude.{◌↔◌, Bool, IsTrue}
use Rattle.row_records.specs.Views.{value_view}
use Rattle.told_rights.specs.BrandKinds.{Suits, seen_at}
use Rattle.told_rights.proofs.Seeing.{suits_some}
use Rattle.told_rights.proofs.brand_kinds.BrandKinds.fits.Goals as goal

pub returns : goal.returns
returns c = λ e form.
    subst (λ (b : Bool). IsTrue b ↔ Suits (seen_at c.args.self.now c.args.brand) (value_view c.args.value.now)) (sym c.is_some.ensures)
    (suits_some (seen_at c.args.self.now c.args.brand) (value_view c.args.value.now) c.seen_with.result (c.seen_with.ensures e form))
