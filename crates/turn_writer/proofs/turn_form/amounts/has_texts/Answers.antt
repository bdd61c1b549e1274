use Rattle.std.proofs.Common.{refl, subst}
use Rattle.std.specs.List.{All}
use Rattle.std.specs.Str.{IsUtf8}
use Rattle.turn_writer.proofs.Texts.{nat_texts, texts}
use Rattle.turn_writer.proofs.turn_form.amounts.has_texts.Goals as goal

pub returns-in-Some : goal.returns-in-Some
returns-in-Some c = texts _ (subst (λ es. All (λ e. IsUtf8 e.0) es) c.in-Some.ensures.entries c.keys_are_texts.ensures)

pub returns-in-None : goal.returns-in-None
returns-in-None c = nat_texts _ (rw (c.in-None.ensures.none refl) at c.kind-kind.ensures.value)
