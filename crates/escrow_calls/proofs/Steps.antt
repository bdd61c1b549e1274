-- Tests one after another, and rules, whose parts were put together.
use Rattle.std.proofs.Common.{◌≡◌, ℕ, List, [], ◌∷◌, length, Result, Ok, Err, refl, sym, ap, ◌∙◌}
use Rattle.rules.specs.proposals.Gains.{with_gains}
use Rattle.rules.specs.proposals.Losses.{with_losses}
use Rattle.rules.specs.call_arguments.Arguments.{arg, record_at}
use Rattle.rules.specs.call_arguments.Numbers.{first_repeated, least_failing}
use Rattle.rules.specs.Outcomes.{Outcome}
use Rattle.rules.specs.Words.{runs}
use Rattle.rules.specs.States.{allocation_of, changing, has_room, seat_of, touched_seat}
use Rattle.escrow_calls.specs.EscrowParts.{deposit_of_shares, deposit_outcome, withdrawal_outcome, withdrawal_of_shares}
use Rattle.escrow_calls.specs.MintParts.{burn_of_shares, burn_outcome, mint_of_shares, mint_outcome}
use Rattle.escrow_calls.specs.PaymentParts.{apart_payments, given_payments, live_payments, tested_payments}
use Rattle.escrow_calls.specs.SlotChanges.{mint_seat_and_shares, seat_and_shares}
use Rattle.host_data.specs.Tree.{Tree, null}
use Rattle.host_data.specs.declared.data.ObjKind.TheVariants as kinds
use Rattle.rules.specs.rearrange.Slots.{can_take, each_passes, fits_slot, is_safe}
use Rattle.rules.specs.proposals.declared.allocations.Share.{Share}
use Rattle.rules.specs.call_arguments.Records.{names, objects_under}
use Rattle.refusals.specs.Codes.{dead_payment, keyword_mismatch, not_offer_safe, repeated_payment, wrong_amount}
use Rattle.refusals.specs.Outcomes.{◌>>=◌, ◌>>◌, bind, need, none_such}
use Rattle.refusals.specs.declared.codes.Refusal.{Refusal}
use Rattle.rules.specs.GivenPayments.{escrows_of, first_wrong, is_live_in}
use Rattle.rules.specs.Proposals.{least_alone}
use Rattle.rules.specs.Zcf.{deposit_to_seat, payments_for, share_names, withdraw_from_seat}
use Rattle.rules.specs.Given.{is_misfit, issuers_of, own_seat, shares_at}
use Rattle.rules.specs.Zmint.{burn_losses, is_not_of, mint_gains, minting}
use Rattle.rules.specs.world_state.Worlds.{State, payments_tree, payout_moves}

abbrev Test : Type 0
Test = Result (Unit {0}) Refusal

abbrev Numbers : Type 0
Numbers = Result (List ℕ) Refusal

-- what the payments are tested for, once they are read
abbrev tests_of : State → List Share → List ℕ → Numbers
tests_of w shares ps =
    none_such (least_failing (is_live_in w) ps) dead_payment
    >> (none_such (first_repeated ps) repeated_payment
    >> (none_such (first_wrong w shares ps) (λ v. wrong_amount v.0 v.1) >> Ok ps))

abbrev live_of : State → List ℕ → Numbers
live_of w ps = none_such (least_failing (is_live_in w) ps) dead_payment >> Ok ps

abbrev once : List ℕ → Numbers
once ps = none_such (first_repeated ps) repeated_payment >> Ok ps

abbrev paying : State → List Share → List ℕ → Numbers
paying w shares ps = none_such (first_wrong w shares ps) (λ v. wrong_amount v.0 v.1) >> Ok ps

once_parted : (w : State) (shares : List Share) (ps : List ℕ) (r : Test) → (r >> paying w shares ps) ≡ ((r >> Ok ps) >>= paying w shares)
unfolding bind
once_parted w shares ps (Ok x) = refl
once_parted w shares ps (Err e) = refl

parted : (w : State) (shares : List Share) (ps : List ℕ) (live : Test) → (live >> (none_such (first_repeated ps) repeated_payment >> paying w shares ps)) ≡ (((live >> Ok ps) >>= once) >>= paying w shares)
unfolding bind
parted w shares ps (Err e) = refl
parted w shares ps (Ok x) = once_parted w shares ps (none_such (first_repeated ps) repeated_payment)

read_parted : (w : State) (shares : List Share) (read : Numbers) → (read >>= tests_of w shares) ≡ (((read >>= live_of w) >>= once) >>= paying w shares)
unfolding bind
read_parted w shares (Err e) = refl
read_parted w shares (Ok ps) = parted w shares ps (none_such (least_failing (is_live_in w) ps) dead_payment)

named_parted : (w : State) (shares : List Share) (named : Test) (live : Numbers) → (named >> ((live >>= once) >>= paying w shares)) ≡ ((named >> (live >>= once)) >>= paying w shares)
unfolding bind
named_parted w shares (Ok x) live = refl
named_parted w shares (Err e) live = refl

pub tested_same : (w : State) (shares : List Share) (given : List (List ℕ × Tree)) → payments_for w shares given ≡ tested_payments w shares given
unfolding payments_for tested_payments apart_payments live_payments
tested_same w shares given =
    let named = none_such (least_alone (share_names shares) (names given)) keyword_mismatch in
    let read = objects_under kinds.Payment 3 given in
    ap (λ (r : Numbers). named >> r) (read_parted w shares read) ∙ named_parted w shares named (read >>= live_of w)

-- ---- the rules, whose parts were put together

read_grouped : {A B : Type 0} (r : Result A Refusal) (f : A → Result B Refusal) (g : B → Outcome) → ((r >>= f) >>= g) ≡ (r >>= (λ a. f a >>= g))
unfolding bind
read_grouped (Ok a) f g = refl
read_grouped (Err e) f g = refl

-- of what is read the same is made
after_read : {A : Type 0} (r : Result A Refusal) (f g : A → Outcome) → ((a : A) → f a ≡ g a) → (r >>= f) ≡ (r >>= g)
unfolding bind
after_read (Ok a) f g same = same a
after_read (Err e) f g same = refl

-- what is made of a seat and of shares may be made once both are read
module _ (made : ℕ × List Share → Outcome) where
  of_shares : (seat : ℕ) (shares : Result (List Share) Refusal) → ((shares >>= (λ rs. Ok (seat, rs))) >>= made) ≡ (shares >>= (λ rs. made (seat, rs)))
  unfolding bind
  of_shares seat (Ok rs) = refl
  of_shares seat (Err e) = refl

  of_seat : (seat : Result ℕ Refusal) (shares : ℕ → Result (List Share) Refusal) → ((seat >>= (λ n. shares n >>= (λ rs. Ok (n, rs)))) >>= made) ≡ (seat >>= (λ n. shares n >>= (λ rs. made (n, rs))))
  unfolding bind
  of_seat (Ok n) shares = of_shares n (shares n)
  of_seat (Err e) shares = refl

  of_seat_and_shares : (ran : Test) (seat : Result ℕ Refusal) (shares : ℕ → Result (List Share) Refusal) → ((ran >> (seat >>= (λ n. shares n >>= (λ rs. Ok (n, rs))))) >>= made) ≡ (ran >> (seat >>= (λ n. shares n >>= (λ rs. made (n, rs)))))
  unfolding bind
  of_seat_and_shares (Ok done) seat shares = of_seat seat shares
  of_seat_and_shares (Err e) seat shares = refl

module _ (w : State) (i : ℕ) (args : List Tree) where
  abbrev shares_for : ℕ → Result (List Share) Refusal
  shares_for seat = shares_at (is_misfit (issuers_of w i) (allocation_of w seat)) 2 args

  pub withdrawn_same : withdraw_from_seat w i args ≡ withdrawal_outcome w i args
  unfolding seat_and_shares withdrawal_outcome withdrawal_of_shares withdraw_from_seat
  withdrawn_same = sym (of_seat_and_shares (λ a. withdrawal_of_shares w a.0 (allocation_of w a.0) a.1) (runs w i) (own_seat w i 1 args) shares_for)

  abbrev escrowed : ℕ → List Share → List Share → List ℕ → Outcome
  escrowed seat slots shares payments =
      each_passes (fits_slot slots) shares
      >> (has_room w (touched_seat seat slots (with_gains slots shares) ∷ []) 0
      >> Ok (null, changing (seat ∷ []) (escrows_of seat shares payments)))

  given_tested : (seat : ℕ) (slots shares : List Share) → (record_at 3 args >>= (λ given. payments_for w shares given >>= escrowed seat slots shares)) ≡ deposit_of_shares w seat slots shares args
  unfolding deposit_of_shares given_payments
  given_tested seat slots shares =
      after_read (record_at 3 args) _ _ (λ given. ap (λ (r : Numbers). r >>= escrowed seat slots shares) (tested_same w shares given))
      ∙ sym (read_grouped (record_at 3 args) (tested_payments w shares) (escrowed seat slots shares))

  pub deposited_same : deposit_to_seat w i args ≡ deposit_outcome w i args
  unfolding seat_and_shares deposit_outcome deposit_to_seat
  deposited_same =
      ap (λ (r : Outcome). runs w i >> r) (after_read (own_seat w i 1 args) _ _ (λ seat.
      after_read (shares_for seat) _ _ (λ shares. given_tested seat (allocation_of w seat) shares)))
      ∙ sym (of_seat_and_shares (λ a. deposit_of_shares w a.0 (allocation_of w a.0) a.1 args) (runs w i) (own_seat w i 1 args) shares_for)

-- a withdrawal whose tests pass
module _ (w : State) (seat : ℕ) (slots shares : List Share) where
  abbrev safe : Test
  safe = need (is_safe (seat_of w seat).proposal (with_losses slots shares)) (not_offer_safe seat)

  abbrev room : Test
  room = has_room w (touched_seat seat slots (with_losses slots shares) ∷ []) (length shares)

  abbrev paid_from : ℕ → Outcome
  paid_from first = Ok (payments_tree first shares, changing (seat ∷ []) (payout_moves seat first shares))

  pub withdrawn_is : can_take slots shares ≡ Ok tt → safe ≡ Ok tt → room ≡ Ok tt → (first : ℕ) → first ≡ length w.rights.payments → withdrawal_of_shares w seat slots shares ≡ paid_from first
  unfolding withdrawal_of_shares bind
  withdrawn_is taken stays_safe leaves_room first is =
      ap (λ (r : Test). r >> (safe >> (room >> paid_from (length w.rights.payments)))) taken
      ∙ ap (λ (r : Test). r >> (room >> paid_from (length w.rights.payments))) stays_safe
      ∙ ap (λ (r : Test). r >> paid_from (length w.rights.payments)) leaves_room
      ∙ ap paid_from (sym is)

module _ (w : State) (brand : ℕ) (args : List Tree) where
  abbrev shares_of_mint : ℕ → Result (List Share) Refusal
  shares_of_mint seat = shares_at (is_not_of brand (allocation_of w seat)) 1 args

  pub minted_same : mint_gains w brand args ≡ mint_outcome w brand args
  unfolding mint_seat_and_shares mint_gains mint_of_shares mint_outcome
  minted_same = sym (of_seat_and_shares (λ a. mint_of_shares w brand a.0 (allocation_of w a.0) a.1 (arg 2 args)) (runs w (minting w brand)) (own_seat w (minting w brand) 2 args) shares_of_mint)

  pub burned_same : burn_losses w brand args ≡ burn_outcome w brand args
  unfolding mint_seat_and_shares burn_losses burn_of_shares burn_outcome
  burned_same = sym (of_seat_and_shares (λ a. burn_of_shares w a.0 (allocation_of w a.0) a.1) (runs w (minting w brand)) (own_seat w (minting w brand) 2 args) shares_of_mint)
