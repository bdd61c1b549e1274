use Rattle.actors.proofs.Cuts.{facets_cut}
use Rattle.actors.proofs.instance_store.facets.Facets.back.Goals as goal

pub returns : goal.returns
returns c = facets_cut c.args.self.now.kept c.args.self.now.facets.items c.truncate.new.self.items c.truncate.ensures.items
