use Rattle.std.proofs.Common.{ℕ, List, ◌∷◌, ap, ◌∙◌}
use Rattle.std.specs.Fmt.{styled_decimal}
use Rattle.turn_stores.specs.Elements.{element}
use Rattle.turn_stores.proofs.Texts.{elements_ordered, padded-ten_digits}
use Rattle.turn_stores.proofs.invitations.element.element_text.Goals as goal

pub returns-in_err-text-clause-ordered : goal.returns-in_err-text-clause-ordered
returns-in_err-text-clause-ordered c = λ m h. elements_ordered m c.args.number c.ranges.number.fits h

pub returns-clause-text : goal.returns-clause-text
unfolding element
returns-clause-text c =
    c.from_string.ensures
    ∙ (c.in_ok-text.ensures.ok
    ∙ ap (λ (ds : List ℕ). 105 ∷ 110 ∷ 118 ∷ 58 ∷ ds) (ap (λ s. styled_decimal s c.args.number) c.laid_out.ensures ∙ padded-ten_digits c.args.number))

pub returns-clause-ordered : goal.returns-clause-ordered
returns-clause-ordered c = λ m h. elements_ordered m c.args.number c.ranges.number.fits h
