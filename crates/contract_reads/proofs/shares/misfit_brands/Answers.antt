use Rattle.std.proofs.Common.{◌≡◌, ◌∙◌, ◌++◌, ◌∷◌, ℕ, [], true, false, ap, sym}
use Rattle.std.proofs.lemmas.List.{append-nil}
use Rattle.contract_reads.specs.Brands.{HasSmallBrand}
use Rattle.contract_reads.proofs.Failing.{all_next, next_failing, not_empty}
use Rattle.contract_reads.proofs.shares.misfit_brands.Goals as goal
use Rattle.contract_reads.proofs.shares.misfit_brands.Goals.{then-fails+in_ok-push, else-fails}

pub loop-share-preserved : goal.loop-share-preserved
loop-share-preserved g c =
    let shares = c.args.shares.now in
    let i = c.loop-share.share-index in
    let r = c.share-item.result in
    let p = g.T.ShareTest.is_misfit c.args.test.now in
    let inv = c.loop-share.invariant in
    elim c.if-fails.branch [
      | then-fails+in_ok-push w ↦
          let grown = ap (λ v. v.items) w.brands-is ∙ w.in_ok-push.ensures.items in
          record {
            brands = grown ∙ ap (λ l. l ++ r.amount.brand ∷ []) inv.brands ∙ sym (next_failing p shares i r true c.loop-share-test.true c.share-item.is (sym w.if-fails.true ∙ c.fails.ensures.is));
            small = λ none. absurd (not_empty c.loop-share.brands.items r.amount.brand (sym grown ∙ none));
          }
      | else-fails w ↦
          let same = ap (λ v. v.items) w.brands-is in
          record {
            brands = same ∙ inv.brands ∙ sym (next_failing p shares i r false c.loop-share-test.true c.share-item.is (sym w.if-fails.false ∙ c.fails.ensures.is) ∙ append-nil _);
            small = λ none. all_next HasSmallBrand shares i r c.loop-share-test.true c.share-item.is (inv.small (sym same ∙ none)) (c.fails.ensures.small w.if-fails.false);
          }
    ]
