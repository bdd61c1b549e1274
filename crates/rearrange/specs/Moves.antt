-- The movements that a rearrangement is written as (our own order): by the seats' numbers and the order of
-- their slots, first what each slot loses goes to the hand, then what each gains comes from it.
use Rattle.std.specs.Prelude.{ℕ, ◌-◌, nat_le, List, [], ◌∷◌, ◌++◌, length, flat_map, sum_by, if◌then◌else◌}
use Rattle.refusals.specs.amount_math.Content.{Content, difference}
use Rattle.refusals.specs.amount_math.ValueView.{with_content}
use Rattle.proposals.specs.Shares.{content_under}
use Rattle.proposals.specs.declared.allocations.Share.{Share}
use Rattle.proposals.specs.declared.plans.Touched.{Touched}
use Rattle.rights_model.specs.Table.{movement}
use Rattle.rights_model.specs.declared.Holder.TheVariants.{Hand, Slot}
use Rattle.rights_model.specs.declared.Movement.{Movement}
use Rattle.value_tests.specs.Tests.{is_nothing}

-- ---- what a slot loses and gains

-- a movement, where it moves something
abbrev pub if_some : Movement → List Movement
if_some m = if is_nothing m.value.content then [] else m ∷ []

-- by what it has after, beside the shares before
abbrev pub lost_by : List Share → Share → Content
lost_by before r = difference (content_under r.keyword before) r.amount.value.content

abbrev pub gained_by : List Share → Share → Content
gained_by before r = difference r.amount.value.content (content_under r.keyword before)

abbrev pub to_hand : ℕ → Share → Content → Movement
to_hand seat r c = movement r.amount.brand (Slot seat r.keyword) Hand (with_content r.amount.value c)

abbrev pub from_hand : ℕ → Share → Content → Movement
from_hand seat r c = movement r.amount.brand Hand (Slot seat r.keyword) (with_content r.amount.value c)

-- ---- all that is moved

abbrev pub losses_in : Touched → List Movement
losses_in t = flat_map (λ r. if_some (to_hand t.seat r (lost_by t.before r))) t.after

abbrev pub gains_in : Touched → List Movement
gains_in t = flat_map (λ r. if_some (from_hand t.seat r (gained_by t.before r))) t.after

-- touched seats by their numbers
abbrev pub placed : Touched → List Touched → List Touched
placed t [] = t ∷ []
placed t (u ∷ us) = if nat_le t.seat u.seat then t ∷ u ∷ us else u ∷ placed t us

abbrev pub by_number : List Touched → List Touched
by_number [] = []
by_number (t ∷ ts) = placed t (by_number ts)

unfoldable pub moves_of : List Touched → List Movement
moves_of touched = flat_map losses_in (by_number touched) ++ flat_map gains_in (by_number touched)

-- ---- slots that are opened

abbrev pub opened_at : Touched → ℕ
opened_at t = length t.after - length t.before

abbrev pub opened_by : List Touched → ℕ
opened_by touched = sum_by opened_at touched
