-- Who holds what in a world: the table of its rights.
use Rattle.std.specs.Prelude.{◌≡◌, ℕ, suc, List, [], ◌∷◌, ◌++◌, map, Option, Some, None}
use Rattle.world_state.specs.amount_math.Content.{Content, nothing}
use Rattle.world_state.specs.amount_math.declared.Amount.{Amount}
use Rattle.world_state.specs.ertp_mint.BrandSupply.{supply_at}
use Rattle.world_state.specs.holders.PaymentViews.{payment_view_at}
use Rattle.world_state.specs.proposals.Shares.{amount_under}
use Rattle.world_state.specs.proposals.declared.allocations.Share.{Share}
use Rattle.world_state.specs.rights_model.declared.Holder.{Holder}
use Rattle.world_state.specs.rights_model.declared.Holder.TheVariants.{Purse, Payment, Slot, Hand, Outside}
use Rattle.world_state.specs.rights_model.Place.{Place}
use Rattle.world_state.specs.rights_model.Table.{Table, holds}
use Rattle.world_state.specs.rights_model.Tabulated.{tabulated}
use Rattle.world_state.specs.rights_model.Totals.{held_over, is_payment, is_purse, is_slot}
use Rattle.world_state.specs.rights_model.declared.Sum.{Sum}
use Rattle.world_state.specs.vault_model.Lists.{purse_at}
use Rattle.world_state.specs.vault_model.Tables.{in_brand, no_hand, numbered, right_in, right_on, slots_from}
use Rattle.world_state.specs.Rights.{Rights, slots_at}

-- what a slot has of a brand: nothing where there is no slot
abbrev pub in_slot : Option Amount → ℕ → Content
in_slot None b = nothing
in_slot (Some a) b = in_brand (right_in a) b

-- what each holder has of a brand, where the hand has this
abbrev pub content_at : Rights → (ℕ → Content) → Holder → ℕ → Content
content_at r hand (Purse n) b = in_brand (right_in (purse_at r.purses n)) b
content_at r hand (Payment n) b = in_brand (right_on (payment_view_at r.payments n)) b
content_at r hand (Slot s k) b = in_slot (amount_under k (slots_at r.slots s)) b
content_at r hand Hand b = hand b
content_at r hand Outside b = nothing

-- the places of the slots of all seats, numbered from n
abbrev pub seats_from : ℕ → List (List Share) → List Place
seats_from n [] = []
seats_from n (shares ∷ rest) = slots_from n shares ++ seats_from (suc n) rest

-- the places where something may be held
abbrev pub purse_places : Rights → List Place
purse_places r = numbered Purse 0 (map right_in r.purses)

abbrev pub payment_places : Rights → List Place
payment_places r = numbered Payment 0 (map right_on r.payments)

abbrev pub places_in : Rights → List Place
places_in r = (purse_places r ++ payment_places r) ++ seats_from 0 r.slots

-- the table of the rights, with nothing in the hand
unfoldable pub table_of : Rights → Table
table_of r = tabulated (λ p. content_at r no_hand p.0 p.1) (places_in r)

-- a table has what these rights and the hand have
pub record Agrees (r : Rights) (hand : ℕ → Content) (t : Table) : Type 0 where
  pub each : (h : Holder) (b : ℕ) → holds t h b ≡ content_at r hand h b

-- what there is of a brand: what was ever minted and burned of it, and what all purses, payments and slots have
abbrev pub sum_of : Rights → ℕ → Sum
sum_of r b = record {
  brand = b;
  minted = (supply_at r.out b).minted;
  burned = (supply_at r.out b).burned;
  purses = held_over is_purse (table_of r) b;
  payments = held_over is_payment (table_of r) b;
  slots = held_over is_slot (table_of r) b;
}
