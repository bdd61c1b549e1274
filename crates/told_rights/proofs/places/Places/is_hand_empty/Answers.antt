use Rattle.std.proofs.Common.{◌≡◌, refl, subst}
use Rattle.std.specs.Prelude.{◌↔◌, IsTrue}
use Rattle.row_records.specs.rights_model.declared.Holder.{Holder}
use Rattle.row_records.specs.rights_model.declared.Holder.TheVariants.{Hand}
use Rattle.told_rights.proofs.Shelving.{empty_none, empty_some, hand_between, hand_from}
use Rattle.told_rights.proofs.places.Places.is_hand_empty.Goals as goal

pub returns-in-Some : goal.returns-in-Some
returns-in-Some c =
    let range = c.range.ensures.in_range tt in
    empty_some c.self.inside.shelves.entries c.range.result c.next.new.self c.args.self.now c.self.view_is c.self.invariant (Hand) hand_from hand_between c.of_hand.result c.of_hand.ensures c.in-Some.spot.now c.in-Some.field-0-1.now c.in-Some.ensures.steps range.1 (λ q low some. range.2 q (low, tt) some) c.is.result
    (subst (λ (x : Holder). IsTrue c.is.result ↔ (x ≡ Hand)) c.holder.ensures c.is.ensures)

pub returns-in-None : goal.returns-in-None
returns-in-None c =
    let range = c.range.ensures.in_range tt in
    (λ h. empty_none c.self.inside.shelves.entries c.range.result c.next.new.self c.args.self.now c.self.view_is c.self.invariant (Hand) hand_from hand_between c.of_hand.result c.of_hand.ensures (λ q low. range.5 c.in-None.ensures.steps.0 q (low, tt)), λ h. refl)
