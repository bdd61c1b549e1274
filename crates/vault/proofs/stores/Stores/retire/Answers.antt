use Rattle.vault.proofs.Arms.{retired_given}
use Rattle.vault.proofs.stores.Stores.retire.Goals as goal

pub returns : goal.returns
returns c = retired_given c.args.self.now c.retire-value.new.self c.args.parcel.brand c.args.parcel.value c.requires.made c.retire-value.ensures.retired c.retire-value.ensures.back
