use Rattle.ertp_mint.proofs.Placed.{units_allow, units_changed, value_allows, value_changed}
use Rattle.ertp_mint.proofs.keys_out.KeysOut.change.Goals as goal

pub change_all-requires-clause-allowed : goal.change_all-requires-clause-allowed
change_all-requires-clause-allowed c = value_allows c.args.change c.args.value.now.content c.in-Some.entries.now c.args.self.now c.self.inside.places.entries c.in-Some.ensures.entries c.self.view_is c.requires.allowed

pub change_at-requires-clause-allowed : goal.change_at-requires-clause-allowed
change_at-requires-clause-allowed c = units_allow c.args.change c.args.value.now.content c.units_of.result c.args.self.now c.self.inside.places.entries c.units_of.ensures.units c.self.view_is c.requires.allowed

pub returns-in-Some : goal.returns-in-Some
returns-in-Some c = value_changed c.args.change c.args.value.now.content c.in-Some.entries.now c.args.self.now c.self.inside.places.entries c.change_all.new.places.entries c.in-Some.ensures.entries c.self.view_is c.change_all.ensures

pub returns-in-None : goal.returns-in-None
returns-in-None c = units_changed c.args.change c.args.value.now.content c.units_of.result c.args.self.now c.self.inside.places.entries c.change_at.new.places.entries c.units_of.ensures.units c.self.view_is c.change_at.ensures
