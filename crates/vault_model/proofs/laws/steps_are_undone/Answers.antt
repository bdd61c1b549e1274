use Rattle.std.proofs.Common.{◌∙◌, ap}
use Rattle.vault_model.specs.Lists.{Lists, taken, untaken}
use Rattle.vault_model.proofs.Undone.{ungiven-given, untaken-taken}
use Rattle.vault_model.proofs.laws.steps_are_undone.Goals as goal

pub returns : goal.returns
returns g c =
    let m = c.args.step.now in
    ap (λ (s : Lists). untaken s m.from m.brand m.value) (ungiven-given (taken g.lists m.from m.brand m.value) m.to m.brand m.value c.requires.1)
    ∙ untaken-taken g.lists m.from m.brand m.value c.requires.0
