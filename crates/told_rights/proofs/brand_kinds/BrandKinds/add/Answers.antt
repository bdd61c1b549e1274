use Rattle.std.proofs.Common.{Option, refl, subst}
use Rattle.std.proofs.lemmas.Bool.{false≢true}
use Rattle.row_records.specs.Views.{value_view}
use Rattle.told_rights.specs.BrandKinds.{AreTogether, seen_at}
use Rattle.told_rights.specs.declared.brand_kinds.Seen.{Seen}
use Rattle.told_rights.proofs.Seeing.{after_add, suits_both}
use Rattle.told_rights.proofs.brand_kinds.BrandKinds.add.Goals as goal

pub returns-in-None-clause-fits : goal.returns-in-None-clause-fits
returns-in-None-clause-fits c =
    let none = subst (λ (o : Option Seen). AreTogether (seen_at c.args.self.now c.args.brand) (value_view c.args.value.now) o) c.in-None.is (c.seen_with.ensures c.requires.form.0 c.requires.form.1) in
    (λ h. absurd (false≢true h), λ s. absurd (none s))

pub returns-in-Ok-clause-fits : goal.returns-in-Ok-clause-fits
returns-in-Ok-clause-fits c =
    let both = subst (λ (o : Option Seen). AreTogether (seen_at c.args.self.now c.args.brand) (value_view c.args.value.now) o) c.in-Some.is (c.seen_with.ensures c.requires.form.0 c.requires.form.1) in
    (λ h. suits_both (seen_at c.args.self.now c.args.brand) c.in-Some.seen (value_view c.args.value.now) both, λ s. refl)

pub returns-in-Ok-clause-ok : goal.returns-in-Ok-clause-ok
returns-in-Ok-clause-ok c =
    let both = subst (λ (o : Option Seen). AreTogether (seen_at c.args.self.now c.args.brand) (value_view c.args.value.now) o) c.in-Some.is (c.seen_with.ensures c.requires.form.0 c.requires.form.1) in
    λ yes. after_add c.args.self.now.seen c.insert.new.self c.args.brand c.in-Some.seen (value_view c.args.value.now) c.in-Ok.ensures.updates both
