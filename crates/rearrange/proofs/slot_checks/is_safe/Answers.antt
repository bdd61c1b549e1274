use Rattle.rearrange.proofs.Slots.{if_safe, safe_if}
use Rattle.value_tests.proofs.Contents.{same_test}
use Rattle.rearrange.proofs.slot_checks.is_safe.Goals as goal

pub returns : goal.returns
returns c = same_test _ _ (λ h. if_safe c.args.proposal.now c.args.slots.now (c.is_offer_safe.ensures.0 h)) (λ h. c.is_offer_safe.ensures.1 (safe_if c.args.proposal.now c.args.slots.now h))
