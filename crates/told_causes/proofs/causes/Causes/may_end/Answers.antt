use Rattle.told_causes.proofs.causes.Causes.may_end.Goals as goal

pub returns-clause-decides : goal.returns-clause-decides
returns-clause-decides c = λ i told. c.may_end.ensures.decides i told.standings told.shows

pub returns-clause-told : goal.returns-clause-told
returns-clause-told c = λ yes i told. record { standings = c.may_end.ensures.told yes i told.standings; facets = told.facets }
