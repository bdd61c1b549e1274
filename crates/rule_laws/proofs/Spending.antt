-- Payments that movements took from are spent; there are as many as before.
use Rattle.std.proofs.Common.{◌≡◌, List, [], ◌∷◌, length, refl, ◌∙◌}
use Rattle.world_laws.proofs.lemmas.ListEdits.{length_set}
use Rattle.rules.specs.holders.PaymentViews.{PaymentView, payment_view_at, spent_payment}
use Rattle.world_laws.specs.rights_model.declared.Holder.{Holder}
use Rattle.world_laws.specs.rights_model.declared.Holder.TheVariants.{Hand, Outside, Payment, Purse, Slot}
use Rattle.world_laws.specs.rights_model.declared.Movement.{Movement}
use Rattle.world_laws.specs.world_state.Rights.{all_spent, spent_from}

from_length : (h : Holder) (ps : List PaymentView) → length (spent_from h ps) ≡ length ps
from_length (Payment n) ps = length_set ps n (spent_payment (payment_view_at ps n).brand)
from_length (Purse n) ps = refl
from_length (Slot s k) ps = refl
from_length Hand ps = refl
from_length Outside ps = refl

pub spent_length : (ms : List Movement) (ps : List PaymentView) → length (all_spent ms ps) ≡ length ps
spent_length [] ps = refl
spent_length (m ∷ ms) ps = spent_length ms (spent_from m.from ps) ∙ from_length m.from ps
