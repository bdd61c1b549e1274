use Rattle.escrow.proofs.rows.ensure_share.Goals as goal

pub returns-in-Some-clause-same : goal.returns-in-Some-clause-same
returns-in-Some-clause-same c = λ i b. c.ensure_row.ensures.same (i, b)

pub returns-in-Some-clause-kept : goal.returns-in-Some-clause-kept
returns-in-Some-clause-kept c = λ i b. c.ensure_row.ensures.kept (i, b)
