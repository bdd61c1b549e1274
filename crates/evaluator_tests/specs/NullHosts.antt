-- A host to which everything is known, and which answers null: it keeps to its side.
use Rattle.std.specs.Prelude.{◌≡◌}
use Rattle.std.proofs.Common.{sym, subst}
use Rattle.jessie_interpreter.specs.host_data.Tree.{null}
use Rattle.jessie_interpreter.specs.jessie_semantics.Play.{given}
use Rattle.jessie_interpreter.specs.jessie_semantics.Keeping.{Known, Within, ReplyHas}
use Rattle.jessie_interpreter.specs.jessie_semantics.Hosts.{Keeps}

abbrev pub Everything : Known
Everything = λ r. Unit {0}

pub keeps_to_its_side : {W : Type 0} → Keeps {W = W} (λ w x v. x.reply ≡ given null) (λ w. Everything)
keeps_to_its_side w x v e h = (subst (λ r. ReplyHas (Within Everything) r) (sym e) tt, λ r k. k)
