use Rattle.std.proofs.lemmas.Result.{on_ok_weaker}
use Rattle.ertp_mint.specs.declared.place.Change.TheVariants.{Issue}
use Rattle.ertp_mint.proofs.Placed.{on_err, units_allow, units_changed, value_allows, value_changed, value_same}
use Rattle.ertp_mint.proofs.keys_out.KeysOut.issue.Goals as goal

pub issue_all-requires : goal.issue_all-requires
issue_all-requires c = record { fits = value_allows Issue c.args.value.now.content c.in-Some.entries.now c.args.self.now c.self.inside.places.entries c.in-Some.ensures.entries c.self.view_is c.requires }

pub issue_at-requires : goal.issue_at-requires
issue_at-requires c = record { fits = units_allow Issue c.args.value.now.content c.units_of.result c.args.self.now c.self.inside.places.entries c.units_of.ensures.units c.self.view_is c.requires }

pub returns-in-Some-clause-ok : goal.returns-in-Some-clause-ok
returns-in-Some-clause-ok c = on_ok_weaker _ (value_changed Issue c.args.value.now.content c.in-Some.entries.now c.args.self.now c.self.inside.places.entries c.issue_all.new.places.entries c.in-Some.ensures.entries c.self.view_is) c.issue_all.ensures.ok

pub returns-in-Some-clause-err : goal.returns-in-Some-clause-err
returns-in-Some-clause-err c = on_err c.issue_all.result _ _ (value_same c.args.self.now c.self.inside.places.entries c.issue_all.new.places.entries c.self.view_is) c.issue_all.ensures.err

pub returns-in-None-clause-ok : goal.returns-in-None-clause-ok
returns-in-None-clause-ok c = on_ok_weaker _ (units_changed Issue c.args.value.now.content c.units_of.result c.args.self.now c.self.inside.places.entries c.issue_at.new.places.entries c.units_of.ensures.units c.self.view_is) c.issue_at.ensures.ok

pub returns-in-None-clause-err : goal.returns-in-None-clause-err
returns-in-None-clause-err c = on_err c.issue_at.result _ _ (value_same c.args.self.now c.self.inside.places.entries c.issue_at.new.places.entries c.self.view_is) c.issue_at.ensures.err
