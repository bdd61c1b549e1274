-- The world of a new host is good.
use Rattle.std.proofs.Common.{◌≡◌, ℕ, zero, suc, List, [], ◌∷◌, Some, None, refl, arith}
use Rattle.world_state.specs.amount_math.Content.{count, count-nothing}
use Rattle.world_state.specs.amount_math.declared.Kind.TheVariants.{Set}
use Rattle.world_state.specs.brands.Brands.{brand_at, started}
use Rattle.world_state.specs.ertp_mint.BrandSupply.{new_supply, supply_at}
use Rattle.world_state.specs.proposals.declared.allocations.Share.{Share}
use Rattle.world_state.specs.Good.{IsGoodWorld}
use Rattle.world_state.specs.Rights.{kind_at}
use Rattle.world_laws.specs.First.{first_world}

none_out : (b : ℕ) (k : List ℕ) → count (supply_at (new_supply Set ∷ []) b).outstanding.content k ≡ 0
none_out zero k = count-nothing k
none_out (suc b) k = count-nothing k

same_kinds : (b : ℕ) → kind_at (new_supply Set ∷ []) b ≡ (brand_at started.now b).kind
same_kinds zero = refl
same_kinds (suc b) = refl

nothing_is : (shares : List Share) → None ≡ Some shares → ⊥
nothing_is shares e = cc

closed : (shares : List Share) → Some shares ≡ None → ⊥
closed shares e = cc

led : {q : ℕ} → None ≡ Some q → ⊥
led e = cc

pub first_is_good : IsGoodWorld first_world
first_is_good = record {
  balanced = record { each = λ b k. omega (arith, none_out b k) };
  purse_kinds = tt;
  payment_kinds = tt;
  slot_kinds = tt;
  valued = record { purses = tt; payments = tt; slots = tt };
  bounded = (record { each = λ k. omega (arith, count-nothing k) }, tt);
  minted = (omega arith, tt);
  brands = record { some = omega arith; few = omega arith; supplies = refl; made_by = refl; kinds = same_kinds; first = refl; host = refl };
  invited = record { once = omega arith; made = λ k none. count-nothing k };
  seats = record { staged = refl; slotted = refl; paired = refl; shares = tt; named = tt };
  paired = tt;
  placed = tt;
  at_work = record { each = λ s is. absurd (closed [] is) };
  proposed = record { each = λ s lt. absurd (omega (arith, lt)) };
  covered = record { each = λ s is. absurd (closed [] is) };
  room = record { left = omega arith };
  staged = record { each = λ s shares e. absurd (nothing_is shares e) };
  owed = record { made = tt; once = λ p. omega arith; pending = λ p some. absurd (omega (arith, some)) };
  asked = tt;
  following = record { forest = tt; made = tt; unsettled = λ p q e none. absurd (led e) };
  paid_out = record { each = λ s shares lt e. absurd (omega (arith, lt)) };
  settled = tt;
  requests = tt;
  modules = tt;
  instances = record { each = λ n lt. absurd (omega (arith, lt)) };
  invitations = tt;
  facets = tt;
  labels = tt;
  timed = tt;
  timely = record { time = omega arith; waiting = tt };
  waiting = tt;
}
