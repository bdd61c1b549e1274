use Rattle.std.proofs.Common.{refl}
use Rattle.proposals.proofs.Firsts.{apart_from_sum, apart_from_too_much}
use Rattle.proposals.proofs.gains.check_share_apart.Goals as goal

pub returns-in-Ok-clause-ok : goal.returns-in-Ok-clause-ok
returns-in-Ok-clause-ok c = λ _. apart_from_sum c.args.slots.now c.args.share.now (c.in-Ok.ensures.ok refl)

pub returns-in-Err-TooMuch-clause-ok : goal.returns-in-Err-TooMuch-clause-ok
returns-in-Err-TooMuch-clause-ok c = λ _. apart_from_too_much c.args.slots.now c.args.share.now c.in-Err-TooMuch._most (rw c.in-Err-TooMuch.field-0-is at c.in-Err-TooMuch.ensures.refused)
