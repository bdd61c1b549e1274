use Rattle.std.proofs.Common.{length, refl}
use Rattle.jessie_semantics.specs.Naming.{HasFieldNames, IsFieldName}
use Rattle.jessie_semantics.specs.Rules.{play}
use Rattle.jessie_semantics.proofs.Safe.{safe_after, play_safe}
use Rattle.jessie_semantics.proofs.NamesKept.{closed_named}
use Rattle.jessie_semantics.proofs.laws.names_stay_in_form.Goals as goal

pub returns : goal.returns
returns c = λ rs variables f vs values meter answers w n h i j.
    safe_after HasFieldNames (length variables) meter 0 (play rs variables f vs values meter) answers
    (play_safe HasFieldNames (length variables) meter IsFieldName rs (closed_named rs n) w variables f vs values h i refl) j
