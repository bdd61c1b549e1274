-- Payments that calls are given: which are live, what they have, and how they go to slots.
use Rattle.std.specs.Prelude.{ℕ, ◌==◌, ◌&&◌, List, [], ◌∷◌, Bool, Option, Some, None, unwrap_or, Result, Ok, if◌then◌else◌}
use Rattle.call_arguments.specs.Amounts.{is_same}
use Rattle.call_arguments.specs.Arguments.{object_at}
use Rattle.call_arguments.specs.amount_math.Content.{nothing}
use Rattle.call_arguments.specs.amount_math.ValueView.{ValueView}
use Rattle.call_arguments.specs.amount_math.declared.Kind.TheVariants.{Nat}
use Rattle.call_arguments.specs.host_data.Tree.{Tree}
use Rattle.call_arguments.specs.host_data.declared.data.ObjKind.TheVariants as kinds
use Rattle.call_arguments.specs.proposals.declared.allocations.Share.{Share}
use Rattle.call_arguments.specs.refusals.Codes.{dead_payment, wrong_brand}
use Rattle.call_arguments.specs.refusals.Outcomes.{◌>>=◌, ◌>>◌, need, wanted}
use Rattle.call_arguments.specs.refusals.declared.codes.Refusal.{Refusal}
use Rattle.rearrange.specs.rights_model.Table.{movement}
use Rattle.rearrange.specs.rights_model.declared.Holder.TheVariants.{Payment, Slot}
use Rattle.rearrange.specs.rights_model.declared.Movement.{Movement}
use Rattle.world_state.specs.Worlds.{State}
use Rattle.world_state.specs.holders.PaymentViews as views
use Rattle.world_state.specs.holders.PaymentViews.{PaymentView, payment_view_at}

-- a live payment, by its number, with what it has
pub record LivePayment : Type 0 where
  pub number : ℕ
  pub value : ValueView

abbrev pub payment_view_of : State → ℕ → PaymentView
payment_view_of w payment = payment_view_at w.rights.payments payment

-- a payment of the brand stands at the place
unfoldable pub payment_at : State → ℕ → ℕ → List Tree → Result ℕ Refusal
payment_at w brand place args = do
  payment ← object_at kinds.Payment place args
  need ((payment_view_of w payment).brand == brand) (wrong_brand (payment_view_of w payment).brand)
  Ok payment

-- one that is live
unfoldable pub live_at : State → ℕ → ℕ → List Tree → Result LivePayment Refusal
live_at w brand place args = do
  payment ← payment_at w brand place args
  value ← wanted (payment_view_of w payment).held (dead_payment payment)
  Ok (record { number = payment; value = value })

-- ---- payments under keywords

abbrev pub is_live_in : State → ℕ → Bool
is_live_in w payment = views.is_live (payment_view_of w payment)

-- what a payment has, nothing where it was spent
abbrev pub held_by : State → ℕ → ValueView
held_by w payment = unwrap_or (payment_view_of w payment).held (record { kind = Nat; content = nothing })

-- a payment has just what a share says, of its brand
abbrev pub pays : State → Share → ℕ → Bool
pays w share payment = (payment_view_of w payment).brand == share.amount.brand && is_same (held_by w payment) share.amount.value

-- the value held and the value named, of the first payment that hasn't what its share says
abbrev pub first_wrong : State → List Share → List ℕ → Option (ValueView × ValueView)
first_wrong w [] ps = None
first_wrong w (r ∷ rs) [] = None
first_wrong w (r ∷ rs) (p ∷ ps) = if pays w r p then first_wrong w rs ps else Some (held_by w p, r.amount.value)

-- each payment goes whole to the slot of its share
abbrev pub escrows_of : ℕ → List Share → List ℕ → List Movement
escrows_of seat [] ps = []
escrows_of seat (r ∷ rs) [] = []
escrows_of seat (r ∷ rs) (p ∷ ps) = movement r.amount.brand (Payment p) (Slot seat r.keyword) r.amount.value ∷ escrows_of seat rs ps
