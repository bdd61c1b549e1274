-- ZCF mints, which have the number of their brand: by them an instance mints to its seats and burns of what they have
-- (Zoe; the order of the refusals is our own).
use Rattle.std.specs.Prelude.{ℕ, ◌==◌, ◌||◌, not, List, [], ◌∷◌, map, Bool, Result, Ok, if◌then◌else◌, codes}
use Rattle.std.specs.Str.{bytes_eq}
use Rattle.call_arguments.specs.Arguments.{arg}
use Rattle.call_arguments.specs.Records.{ShareData}
use Rattle.call_arguments.specs.amount_math.ValueView.{ValueView}
use Rattle.call_arguments.specs.host_data.Tree.{Tree, null}
use Rattle.call_arguments.specs.proposals.Gains.{with_gains}
use Rattle.call_arguments.specs.proposals.Losses.{with_losses}
use Rattle.call_arguments.specs.proposals.declared.allocations.Share.{Share}
use Rattle.call_arguments.specs.refusals.Codes.{not_offer_safe}
use Rattle.call_arguments.specs.refusals.Outcomes.{◌>>=◌, ◌>>◌, need, reading}
use Rattle.call_arguments.specs.refusals.declared.codes.Refusal.{Refusal}
use Rattle.rearrange.specs.Slots.{can_give, can_take, is_safe}
use Rattle.rearrange.specs.ertp_mint.BrandSupply.{supply_at}
use Rattle.rearrange.specs.rights_model.Table.{movement}
use Rattle.rearrange.specs.rights_model.declared.Holder.TheVariants.{Outside, Slot}
use Rattle.rearrange.specs.rights_model.declared.Movement.{Movement}
use Rattle.rearrange.specs.value_tests.Tests.{can_come_out}
use Rattle.rearrange.specs.value_tests.Totals.{total_of}
use Rattle.world_state.specs.Worlds.{Maker, State, maker_at, of_host, of_instance, of_kit}
use Rattle.rules.specs.Given.{is_other, own_seat, shares_at}
use Rattle.rules.specs.Outcomes.{Outcome}
use Rattle.rules.specs.Records.{issuer_record}
use Rattle.rules.specs.States.{allocation_of, changing, has_room, seat_of, touched_seat}
use Rattle.rules.specs.Words.{runs, without_method}

-- ---- the instance of a mint

abbrev pub instance_of : Maker → ℕ
instance_of (of_instance i) = i
instance_of of_host = 0
instance_of of_kit = 0

abbrev pub minting : State → ℕ → ℕ
minting w brand = instance_of (maker_at w.makers brand)

-- ---- what is minted and burned

-- the brand isn't the mint's, or the slot of the keyword has another
abbrev pub is_not_of : ℕ → List Share → ShareData → Bool
is_not_of brand slots r = not (r.amount.brand == brand) || is_other slots r

abbrev pub values_of : List Share → List ValueView
values_of shares = map (λ r. r.amount.value) shares

-- one movement for each share, in the order of the record
abbrev pub gain : ℕ → Share → Movement
gain seat r = movement r.amount.brand Outside (Slot seat r.keyword) r.amount.value

abbrev pub loss : ℕ → Share → Movement
loss seat r = movement r.amount.brand (Slot seat r.keyword) Outside r.amount.value

-- zmint.mintGains(record, seat)
unfoldable pub mint_gains : State → ℕ → List Tree → Outcome
mint_gains w brand args = do
  runs w (minting w brand)
  seat ← own_seat w (minting w brand) 2 args
  let slots = allocation_of w seat
  shares ← shares_at (is_not_of brand slots) 1 args
  can_come_out (supply_at w.rights.out brand) (total_of (values_of shares))
  can_give slots shares
  has_room w (touched_seat seat slots (with_gains slots shares) ∷ []) 0
  Ok (arg 2 args, changing (seat ∷ []) (map (gain seat) shares))

-- zmint.burnLosses(record, seat)
unfoldable pub burn_losses : State → ℕ → List Tree → Outcome
burn_losses w brand args = do
  runs w (minting w brand)
  seat ← own_seat w (minting w brand) 2 args
  let slots = allocation_of w seat
  shares ← shares_at (is_not_of brand slots) 1 args
  can_take slots shares
  need (is_safe (seat_of w seat).proposal (with_losses slots shares)) (not_offer_safe seat)
  has_room w (touched_seat seat slots (with_losses slots shares) ∷ []) 0
  Ok (null, changing (seat ∷ []) (map (loss seat) shares))

-- zmint.getIssuerRecord()
unfoldable pub get_issuer_record : State → ℕ → Result Tree Refusal
get_issuer_record w brand = Ok (issuer_record w brand)

-- ---- the table of methods

-- which rule a call of a ZCF mint is
abbrev pub of_zmint : State → ℕ → List ℕ → List Tree → Outcome
of_zmint w n m args =
    if bytes_eq m (codes "mintGains") then mint_gains w n args
    else if bytes_eq m (codes "burnLosses") then burn_losses w n args
    else if bytes_eq m (codes "getIssuerRecord") then reading (get_issuer_record w n)
    else without_method m
