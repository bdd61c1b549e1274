use Rattle.std.proofs.Common.{refl, subst, sym}
use Rattle.std.proofs.lemmas.Result.{on_err_weaker}
use Rattle.draft_reads.specs.Views.{CanGoBack}
use Rattle.draft_reads.proofs.Undoing.{clean_back}
use Rattle.draft_effects.proofs.EmptySlots.{on_err_anyhow}
use Rattle.draft_effects.proofs.movements.halves.take.Goals as goal

pub returns-in_err-value-in-Outside-clause-back : goal.returns-in_err-value-in-Outside-clause-back
returns-in_err-value-in-Outside-clause-back c = on_err_anyhow c.from_residual.result (clean_back c.args.draft.now c.args.draft.now refl c.valid.ensures c.requires.clean)

pub returns-in_ok-value-in-Outside-clause-back : goal.returns-in_ok-value-in-Outside-clause-back
returns-in_ok-value-in-Outside-clause-back c = on_err_weaker c.issue.result (λ same. subst (CanGoBack c.args.draft.now) (sym same) (clean_back c.args.draft.now c.args.draft.now refl c.valid.ensures c.requires.clean)) c.issue.ensures.err

pub returns-in-Purse-clause-back : goal.returns-in-Purse-clause-back
returns-in-Purse-clause-back c = on_err_weaker c.take_from_holder-in-Purse.result (λ same. subst (CanGoBack c.args.draft.now) (sym same) (clean_back c.args.draft.now c.args.draft.now refl c.valid.ensures c.requires.clean)) c.take_from_holder-in-Purse.ensures.err

pub returns-in-Payment-clause-back : goal.returns-in-Payment-clause-back
returns-in-Payment-clause-back c = on_err_weaker c.take_from_holder-in-Payment.result (λ same. subst (CanGoBack c.args.draft.now) (sym same) (clean_back c.args.draft.now c.args.draft.now refl c.valid.ensures c.requires.clean)) c.take_from_holder-in-Payment.ensures.err
