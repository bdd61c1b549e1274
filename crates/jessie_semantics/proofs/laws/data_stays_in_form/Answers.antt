use Rattle.std.proofs.Common.{length, refl}
use Rattle.jessie_semantics.specs.Rules.{play}
use Rattle.jessie_semantics.specs.Form.{InForm}
use Rattle.jessie_semantics.proofs.Safe.{safe_after, play_safe}
use Rattle.jessie_semantics.proofs.FormKept.{closed_form}
use Rattle.jessie_semantics.proofs.Writes.{AnyName, any_names}
use Rattle.jessie_semantics.proofs.laws.data_stays_in_form.Goals as goal

pub returns : goal.returns
returns c = λ rs variables f vs values meter answers h i j.
    safe_after InForm (length variables) meter 0 (play rs variables f vs values meter) answers
    (play_safe InForm (length variables) meter AnyName rs (closed_form rs) (any_names rs) variables f vs values h i refl) j
