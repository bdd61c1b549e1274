-- What is read of a brand: of the whole, by its two parts.
use Rattle.std.proofs.Common.{◌≡◌, ℕ, ◌+◌, ◌-◌, ◌<◌, ◌≤◌, List, length, sym, ap, subst, ◌∙◌, arith}
use Rattle.ertp_mint.specs.amount_math.Content.{sum}
use Rattle.ertp_mint.specs.amount_math.Counted.{counted, counted-sum}
use Rattle.ertp_mint.specs.amount_math.Held.{Held}
use Rattle.ertp_mint.specs.amount_math.ValueView.{Fits}
use Rattle.ertp_mint.specs.amount_math.declared.Kind.{Kind}
use Rattle.ertp_mint.specs.BrandSupply.{AddsUp}
use Rattle.ertp_mint.specs.Circulating.{CirculationView, circulation_at}
use Rattle.transit.specs.Transit.{AreKept, held_at, whole_of, wholes}
use Rattle.transit.proofs.Calls.{is, reads}

module _ (out : List CirculationView) (hand : List Held) (are : AreKept out hand) (b : ℕ) (lt : b < length (wholes out hand)) where
  abbrev x : CirculationView
  x = circulation_at out b

  abbrev h : Held
  h = held_at hand b

  abbrev whole : CirculationView
  whole = circulation_at (wholes out hand) b

  is_whole : whole ≡ whole_of x h.value.content
  is_whole = reads out hand are b lt

  pub kind_read : (k : Kind) → k ≡ x.supply.outstanding.kind → k ≡ whole.supply.outstanding.kind
  kind_read k there = there ∙ ap (λ (y : CirculationView). y.supply.outstanding.kind) (sym is_whole)

  pub fits_read : Fits whole.supply.outstanding.kind whole.supply.outstanding.content
  fits_read = subst (λ (y : CirculationView). Fits y.supply.outstanding.kind y.supply.outstanding.content) (sym is_whole) (is out hand are b lt).fits

  pub adds_up_read : AddsUp x.supply → AddsUp whole.supply
  adds_up_read adds = subst (λ (y : CirculationView). AddsUp y.supply) (sym is_whole) both
    where
      both : counted (sum x.supply.outstanding.content h.value.content) + (x.supply.burned - counted h.value.content) ≡ x.supply.minted
      both = omega (arith, counted-sum x.supply.outstanding.content h.value.content, (is out hand are b lt).burned, adds)

  -- the hand's store, as the code reads it
  module _ (z : Held) (now : z ≡ h) where
    pub less_burned : (m n : ℕ) → m ≡ x.supply.burned → n ≡ counted z.value.content → n ≤ m
    less_burned m n burned of_hand = omega (arith, (is out hand are b lt).burned, burned, of_hand, ap (λ (g : Held). counted g.value.content) now)

    pub burned_read : (m n : ℕ) → m ≡ x.supply.burned → n ≡ counted z.value.content → m - n ≡ whole.supply.burned
    burned_read m n burned of_hand = omega (arith, burned, of_hand, ap (λ (g : Held). counted g.value.content) now, ap (λ (y : CirculationView). y.supply.burned) is_whole)
