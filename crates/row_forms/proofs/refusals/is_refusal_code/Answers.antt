use Rattle.row_forms.proofs.refusals.is_refusal_code.Goals as goal

pub returns : goal.returns
returns c = c.is_one_of.ensures
