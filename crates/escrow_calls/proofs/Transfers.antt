-- Movements between payments and slots are transfers: each payment is taken from once, and given to once.
use Rattle.std.specs.List.{AllByRecursion}
use Rattle.std.proofs.Common.{◌≡◌, ℕ, suc, ◌<◌, List, [], ◌∷◌, arith}
use Rattle.rules.specs.call_arguments.Numbers.{AreApart, IsNoneOf}
use Rattle.rules.specs.world_state.Shapes.{AreMovements, IsGivenOnce, IsTakenOnce}
use Rattle.rules.specs.proposals.declared.allocations.Share.{Share}
use Rattle.rules.specs.rights_model.declared.Holder.{Holder}
use Rattle.rules.specs.rights_model.declared.Holder.TheVariants.{Payment, Slot}
use Rattle.rules.specs.rights_model.declared.Movement.{Movement}
use Rattle.rules.specs.GivenPayments.{escrows_of}
use Rattle.rules.specs.world_state.Worlds.{payout_moves}

same_payment : (n m : ℕ) → ◌≡◌ {A = Holder} (Payment n) (Payment m) → n ≡ m
same_payment n m e = cc

-- nothing is given to a slot but by movements, of which each is one
pub slot_given : (seat : ℕ) (k : List ℕ) (ms : List Movement) → AllByRecursion (IsGivenOnce (Slot seat k)) ms
slot_given seat k [] = tt
slot_given seat k (m ∷ ms) = (tt, slot_given seat k ms)

pub slot_taken : (seat : ℕ) (k : List ℕ) (ms : List Movement) → AllByRecursion (IsTakenOnce (Slot seat k)) ms
slot_taken seat k [] = tt
slot_taken seat k (m ∷ ms) = (tt, slot_taken seat k ms)

-- ---- from payments to slots

taken_once : (seat p : ℕ) (shares : List Share) (ps : List ℕ) → IsNoneOf ps p → AllByRecursion (IsTakenOnce (Payment p)) (escrows_of seat shares ps)
taken_once seat p [] ps none = tt
taken_once seat p (r ∷ rs) [] none = tt
taken_once seat p (r ∷ rs) (q ∷ qs) none = (λ e. none.0 (same_payment q p e), taken_once seat p rs qs none.1)

pub escrows_apart : (seat : ℕ) (shares : List Share) (ps : List ℕ) → AreApart ps → AreMovements (escrows_of seat shares ps)
escrows_apart seat [] ps apart = tt
escrows_apart seat (r ∷ rs) [] apart = tt
escrows_apart seat (r ∷ rs) (p ∷ ps) apart = (
  record {
    from = tt;
    to = tt;
    taken = taken_once seat p rs ps apart.0;
    given = slot_given seat r.keyword (escrows_of seat rs ps);
  },
  escrows_apart seat rs ps apart.1,
)

-- ---- from slots to new payments

given_once : (seat p n : ℕ) (shares : List Share) → p < n → AllByRecursion (IsGivenOnce (Payment p)) (payout_moves seat n shares)
given_once seat p n [] below = tt
given_once seat p n (r ∷ rs) below = (λ e. absurd (omega (arith, same_payment n p e, below)), given_once seat p (suc n) rs (omega (arith, below)))

pub payouts_apart : (seat n : ℕ) (shares : List Share) → AreMovements (payout_moves seat n shares)
payouts_apart seat n [] = tt
payouts_apart seat n (r ∷ rs) = (
  record {
    from = tt;
    to = tt;
    taken = slot_taken seat r.keyword (payout_moves seat (suc n) rs);
    given = given_once seat n (suc n) rs (omega arith);
  },
  payouts_apart seat (suc n) rs,
)
