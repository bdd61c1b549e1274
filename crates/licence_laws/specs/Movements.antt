-- Which movements a turn may make, by the rows before each: from where, and to where.
use Rattle.std.specs.Prelude.{◌≡◌, ◌⊎◌, ◌≤◌, ℕ, suc, List, [], ◌∷◌, Option, Some, None, IsSomeAnd}
use Rattle.std.specs.Prelude.{codes}
use Rattle.std.specs.Prelude.{if◌then◌else◌, nat_lt}
use Rattle.fair_laws.specs.rules.Licence.{IsCall, NamesPayment, ServiceTakes}
use Rattle.fair_laws.specs.world_state.host_data.Tree.{Tree}
use Rattle.fair_laws.specs.world_state.host_data.declared.data.Obj.{Obj}
use Rattle.fair_laws.specs.world_state.host_data.declared.data.ObjKind.{ObjKind}
use Rattle.fair_laws.specs.world_state.host_data.declared.data.ObjKind.TheVariants as kinds
use Rattle.fair_laws.specs.world_state.rights_model.declared.Holder.{Holder}
use Rattle.fair_laws.specs.world_state.rights_model.declared.Holder.TheVariants.{Hand, Outside}
use Rattle.fair_laws.specs.world_state.rights_model.declared.Holder.TheVariants.{Payment, Purse}
use Rattle.fair_laws.specs.world_state.rights_model.declared.Holder.TheVariants.{Slot}
use Rattle.fair_laws.specs.world_state.rights_model.declared.Movement.{Movement}
use Rattle.fair_laws.specs.world_state.turn_records.Deliveries.{Delivery, Reading, call, deadline}
use Rattle.fair_laws.specs.world_state.turn_records.Deliveries.{send, target}
use Rattle.fair_laws.specs.world_state.turn_records.Events.{Answer, Call, Event, called}
use Rattle.fair_laws.specs.world_state.turn_records.Events.{exited, given, moved}
use Rattle.fair_laws.specs.world_state.turn_rows.Kinds as hows
use Rattle.fair_laws.specs.world_state.Known.{IsMadeBy, IsSeatOf}
use Rattle.fair_laws.specs.world_state.Worlds.{State, of_instance}

-- ---- what the rows before a movement tell

-- something that was told, and how many payments there were before it
pub record Told (A : Type 0) : Type 0 where
  pub what : A
  pub payments : ℕ

-- the last call, the seat that was left last since then, and how many payments there are
pub record RowsSoFar : Type 0 where
  pub call : Option (Told Call)
  pub exit : Option (Told ℕ)
  pub payments : ℕ

-- at a turn's start
abbrev pub no_rows : ℕ → RowsSoFar
no_rows payments = record { call = None; exit = None; payments = payments }

abbrev pub payments_with : Holder → ℕ → ℕ
payments_with (Payment n) payments = if nat_lt n payments then payments else suc n
payments_with _ payments = payments

-- after a row more
abbrev pub with_row : RowsSoFar → Event → RowsSoFar
with_row rows (called c) = record {
  call = Some (record { what = c; payments = rows.payments });
  exit = None;
  payments = rows.payments;
}
with_row rows (exited x) =
    record rows { exit = Some (record { what = x.seat; payments = rows.payments }) }
with_row rows (moved m) = record rows { payments = payments_with m.to rows.payments }
with_row rows _ = rows

-- ---- what is paid out

abbrev pub IsSlotOf : ℕ → Holder → Type 0
IsSlotOf seat (Slot s k) = s ≡ seat
IsSlotOf seat _ = ⊥

-- a payment that wasn't there when there were so many
abbrev pub IsNewPayment : ℕ → Holder → Type 0
IsNewPayment payments (Payment n) = payments ≤ n
IsNewPayment payments _ = ⊥

-- from a slot of the seat that is left to a payment that is made then
pub record IsPayout (left : Told ℕ) (m : Movement) : Type 0 where
  pub from_slot : IsSlotOf left.what m.from
  pub to_payment : IsNewPayment left.payments m.to

-- the seat that was left last is of those, and is paid out
abbrev pub IsOfExit : (ℕ → Type 0) → RowsSoFar → Movement → Type 0
IsOfExit IsOfThose rows m = IsSomeAnd rows.exit (λ left. IsOfThose left.what × IsPayout left m)

-- ---- the function of an instance

-- a call is of the method of that object
abbrev pub IsCallOf : ObjKind → ℕ → List ℕ → Call → Type 0
IsCallOf kind n method c = IsSomeAnd c.on (λ o. IsCall kind n method o c.method)

-- the instance made the brand, and the call is of the method of its ZCF mint
pub record IsOnOwnMint (new : State) (i : ℕ) (c : Call) (brand : ℕ) (method : List ℕ) : Type 0 where
  pub made : IsMadeBy new.makers (of_instance i) brand
  pub asked : IsCallOf kinds.Zmint brand method c

-- an invitation, which is of brand 0, to the instance
pub record IsInvitation (i : ℕ) (c : Call) (brand : ℕ) : Type 0 where
  pub brand_is : brand ≡ 0
  pub asked : IsCallOf kinds.Zcf i (codes "makeInvitation") c

-- from a slot of the instance, from the hand, from a payment that the call names, or from outside: by mintGains on
-- a ZCF mint of its own, or as an invitation to it; from no purse
abbrev pub TakesByRight : State → ℕ → Call → ℕ → Holder → Type 0
TakesByRight new i c brand (Slot s k) = IsSeatOf new.seats i s
TakesByRight new i c brand Hand = Unit {0}
TakesByRight new i c brand (Payment n) = NamesPayment c.arguments n
TakesByRight new i c brand Outside =
    IsOnOwnMint new i c brand (codes "mintGains") ⊎ IsInvitation i c brand
TakesByRight new i c brand (Purse n) = ⊥

-- to a slot of the instance, to the hand, to a payment that the call makes, or to outside, by burnLosses on a ZCF
-- mint of its own; to no purse
abbrev pub GivesByRight : State → ℕ → Told Call → ℕ → Holder → Type 0
GivesByRight new i told brand (Slot s k) = IsSeatOf new.seats i s
GivesByRight new i told brand Hand = Unit {0}
GivesByRight new i told brand (Payment n) = told.payments ≤ n
GivesByRight new i told brand Outside = IsOnOwnMint new i told.what brand (codes "burnLosses")
GivesByRight new i told brand (Purse n) = ⊥

abbrev pub IsGiven : Answer → Type 0
IsGiven (given t) = Unit {0}
IsGiven _ = ⊥

-- a method was called and answered, and the movement is by right of that call
pub record IsByRight (new : State) (i : ℕ) (m : Movement) (told : Told Call) : Type 0 where
  pub of_method : told.what.how ≡ hows.calls
  pub answered : IsGiven told.what.answer
  pub takes : TakesByRight new i told.what m.brand m.from
  pub gives : GivesByRight new i told m.brand m.to

-- of the last call, or a payout of a seat of the instance
abbrev pub IsOfFunction : State → ℕ → RowsSoFar → Movement → Type 0
IsOfFunction new i rows m =
    IsSomeAnd rows.call (IsByRight new i m) ⊎ IsOfExit (IsSeatOf new.seats i) rows m

-- ---- other turns

-- a party's call, or one that was sent: from the purse of which is withdrawn, from a payment that the arguments name,
-- from outside where the mint of the brand is asked, or a payout of the seat that tryExit is asked of
abbrev pub IsOfService : Obj → List ℕ → List Tree → RowsSoFar → Movement → Type 0
IsOfService o method args rows m =
    ServiceTakes o method args m.brand m.from
    ⊎ IsOfExit (λ seat. IsCall kinds.Seat seat (codes "tryExit") o method) rows m

abbrev pub IsOfReading : List ℕ → Reading → RowsSoFar → Movement → Type 0
IsOfReading method (target o args) rows m = IsOfService o method args rows m
IsOfReading method _ rows m = ⊥

-- the payouts of the seat whose deadline has come
abbrev pub IsOfDeadline : ℕ → RowsSoFar → Movement → Type 0
IsOfDeadline seat rows m = IsOfExit (λ left. left ≡ seat) rows m

-- without a function: a gift, a tick, and what is refused move nothing
abbrev pub IsOfHost : Delivery → Reading → RowsSoFar → Movement → Type 0
IsOfHost (call c) r rows m = IsOfReading c.method r rows m
IsOfHost (send s) r rows m = IsOfReading s.method r rows m
IsOfHost (deadline seat) r rows m = IsOfDeadline seat rows m
IsOfHost _ r rows m = ⊥

-- ---- any turn

abbrev pub MayMove : State → Option ℕ → Delivery → Reading → RowsSoFar → Movement → Type 0
MayMove new (Some i) d r rows m = IsOfFunction new i rows m
MayMove new None d r rows m = IsOfHost d r rows m

-- a row of a movement is such, by the rows before it
abbrev pub IsMovedBy : (RowsSoFar → Movement → Type 0) → RowsSoFar → Event → Type 0
IsMovedBy May rows (moved m) = May rows m
IsMovedBy May rows _ = Unit {0}

abbrev pub AreMovedBy : (RowsSoFar → Movement → Type 0) → RowsSoFar → List Event → Type 0
AreMovedBy May rows [] = Unit {0}
AreMovedBy May rows (e ∷ es) = IsMovedBy May rows e × AreMovedBy May (with_row rows e) es
