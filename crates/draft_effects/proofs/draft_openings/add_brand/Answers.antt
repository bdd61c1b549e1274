use Rattle.std.proofs.Common.{refl, subst, sym}
use Rattle.draft_reads.specs.Views.{CanGoBack}
use Rattle.draft_reads.proofs.Undoing.{clean_back}
use Rattle.draft_reads.proofs.vault.Seated.{on_either}
use Rattle.draft_effects.proofs.Openings.{brand_back}
use Rattle.draft_effects.proofs.draft_openings.add_brand.Goals as goal

pub returns-clause-back : goal.returns-clause-back
returns-clause-back c =
    let d = c.args.draft.now in
    on_either c.add_brand.result
    (λ is. subst (CanGoBack d) (sym is) (brand_back d c.requires.clean c.valid.ensures c.args.kind))
    (λ is. subst (CanGoBack d) (sym is) (clean_back d d refl c.valid.ensures c.requires.clean))
    c.add_brand.ensures.ok c.add_brand.ensures.err
