-- What movements make of what is out of each brand, of the totals minted and burned, and of payments.
use Rattle.std.specs.Prelude.{◌≡◌, ℕ, zero, suc, ◌+◌, ◌≤◌, Bool, true, false, is_none, List, [], ◌∷◌, ◌++◌, length}
use Rattle.std.specs.List.{AllByRecursion}
use Rattle.fair_rows.specs.amount_math.Content.{Content, sum}
use Rattle.fair_rows.specs.amount_math.Counted.{counted}
use Rattle.delivery_laws.specs.ertp_mint.BrandSupply.{BrandSupply, supply_at}
use Rattle.fair_rows.specs.Movements.{names, takes_from}
use Rattle.delivery_laws.specs.holders.PaymentViews.{PaymentView}
use Rattle.delivery_laws.specs.vault_model.Lists.{amount_of}
use Rattle.fair_rows.specs.rights_model.Supply.{burned, minted}
use Rattle.fair_rows.specs.rights_model.Table as table
use Rattle.fair_rows.specs.rights_model.Table.{table_after}
use Rattle.fair_rows.specs.rights_model.declared.Movement.{Movement}
use Rattle.delivery_laws.specs.turn_records.Events.{Event, Opening, moved, moves_in, opened}
use Rattle.delivery_laws.specs.world_state.Good.{AreSharesOf, AreSharesValued, IsOfKind, IsValued}
use Rattle.delivery_laws.specs.world_state.Rights.{Rights}
use Rattle.delivery_laws.specs.world_state.Worlds.{Effect, State, moves}
use Rattle.delivery_laws.specs.world_laws.Tables.{table_of}
use Rattle.delivery_laws.specs.rules.Licence.{IsStored}

abbrev pub out_of : Rights → ℕ → Content
out_of r b = (supply_at r.out b).outstanding.content

abbrev pub minted_of : Rights → ℕ → ℕ
minted_of r b = (supply_at r.out b).minted

abbrev pub burned_of : Rights → ℕ → ℕ
burned_of r b = (supply_at r.out b).burned

-- a payment that was made, and that has been taken from
abbrev pub is_taken : List PaymentView → ℕ → Bool
is_taken [] p = false
is_taken (x ∷ xs) zero = is_none x.held
is_taken (x ∷ xs) (suc p) = is_taken xs p

-- each movement can be made of the table, and the table after them is that of the new rights; what came out and what
-- was burned is what they brought out and burned; payments that they name were made, and those that they took from
-- are taken
pub record Accounts (old new : Rights) (ms : List Movement) : Type 0 where
  pub defined : table.CanMoveAll (table_of old) ms
  pub table : table_of new ≡ table_after (table_of old) ms
  pub out : (b : ℕ) → sum (out_of new b) (burned ms b) ≡ sum (out_of old b) (minted ms b)
  pub minted_is : (b : ℕ) → minted_of new b ≡ minted_of old b + counted (minted ms b)
  pub burned_is : (b : ℕ) → burned_of new b ≡ burned_of old b + counted (burned ms b)
  pub payments : length old.payments ≤ length new.payments
  pub made : (p : ℕ) → length new.payments ≤ p → names p ms ≡ false
  pub live : (p : ℕ) → is_taken old.payments p ≡ true → names p ms ≡ false
  pub taken : (p : ℕ) → is_taken old.payments p ≡ false
      → is_taken new.payments p ≡ takes_from p ms
  pub stays_taken : (p : ℕ) → is_taken old.payments p ≡ true → is_taken new.payments p ≡ true

-- values that an event names are of brands that were made, and of their kinds
pub record IsKnownMove (out : List BrandSupply) (m : Movement) : Type 0 where
  pub of_kind : IsOfKind out (amount_of m.brand m.value)
  pub value : IsValued m.value

pub record IsKnownOpening (out : List BrandSupply) (o : Opening) : Type 0 where
  pub gives : AreSharesOf out o.proposal.give
  pub wants : AreSharesOf out o.proposal.want
  pub give_valued : AreSharesValued o.proposal.give
  pub want_valued : AreSharesValued o.proposal.want

abbrev pub IsKnownEvent : List BrandSupply → Event → Type 0
IsKnownEvent out (moved m) = IsKnownMove out m
IsKnownEvent out (opened o) = IsKnownOpening out o
IsKnownEvent out _ = Unit {0}

-- from one world to another: the events that were told between them account for what changed
pub record IsAccounted (w next : State) : Type 0 where
  pub events : List Event
  pub told : next.log ≡ w.log ++ events
  pub accounts : Accounts w.rights next.rights (moves_in events)
  pub known : AllByRecursion (IsKnownEvent next.rights.out) events

-- what an effect moves is to or from a purse, a payment or a slot
abbrev pub IsStoredEffect : Effect → Type 0
IsStoredEffect (moves ms) = AllByRecursion IsStored ms
IsStoredEffect _ = Unit {0}

abbrev pub AreStoredEffects : List Effect → Type 0
AreStoredEffects es = AllByRecursion IsStoredEffect es
