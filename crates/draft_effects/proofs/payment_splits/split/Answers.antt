use Rattle.std.proofs.Common.{subst, sym}
use Rattle.std.proofs.lemmas.Result.{on_ok_weaker}
use Rattle.draft_effects.specs.HandStore.{StoresAll}
use Rattle.draft_effects.proofs.Splits.{can_put, payment_is, split_now, stores_all, took_so}
use Rattle.draft_effects.proofs.payment_splits.split.Goals as goal

pub store_payment-requires-clause-stores : goal.store_payment-requires-clause-stores
store_payment-requires-clause-stores c = subst StoresAll (sym c.count_anew.ensures) (stores_all c.args.draft.now c.requires.can.0 c.args.moves.now c.valid.ensures c.requires.clean c.requires.shape c.requires.can.1)

pub put_parts-requires-clause-can : goal.put_parts-requires-clause-can
put_parts-requires-clause-can c = can_put c.args.draft.now c.requires.can.0 c.args.moves.now c.valid.ensures c.requires.clean c.requires.shape c.requires.can.1 c.store_payment.new.draft (took_so c.args.draft.now c.count_anew.new.self c.store_payment.new.draft c.requires.shape.from c.in-Payment.payment c.count_anew.ensures (payment_is c.args.moves.now c.in-Some.first.now c.in-Payment.payment c.requires.shape c.in-Some.ensures.value c.in-Payment.is) c.in_ok-store_payment.ensures.ok)

pub returns-clause-ok : goal.returns-clause-ok
returns-clause-ok c = on_ok_weaker c.put_parts.result (λ is. split_now c.args.draft.now c.requires.can.0 c.args.moves.now c.valid.ensures c.requires.clean c.requires.shape c.requires.can.1 c.store_payment.new.draft (took_so c.args.draft.now c.count_anew.new.self c.store_payment.new.draft c.requires.shape.from c.in-Payment.payment c.count_anew.ensures (payment_is c.args.moves.now c.in-Some.first.now c.in-Payment.payment c.requires.shape c.in-Some.ensures.value c.in-Payment.is) c.in_ok-store_payment.ensures.ok) c.put_parts.new.draft is) c.put_parts.ensures.ok
