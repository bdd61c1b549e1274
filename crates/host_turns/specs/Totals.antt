-- What it is that running totals are told of rights, and of the events of a turn, one after another.
use Rattle.std.specs.Prelude.{◌≡◌, ℕ, suc, ◌+◌, ◌<◌, ◌≤◌, List, [], ◌∷◌, ◌++◌, length, map}
use Rattle.front_turns.specs.amount_math.ValueView.{minted_bound}
use Rattle.front_turns.specs.ertp_mint.BrandSupply.{supply_at}
use Rattle.front_turns.specs.escrow.Sums.{AreSums}
use Rattle.front_turns.specs.escrow.Told.{AreOpened, EscrowState, HasRows, IsSame, IsTold, KeepsRows}
use Rattle.front_turns.specs.escrow.Told.{minted_with, share_of, totals_of}
use Rattle.run_laws.specs.fair_laws.Accounts.{Accounts, minted_of}
use Rattle.front_turns.specs.rights_model.Table as table
use Rattle.front_turns.specs.rights_model.Table.{Table}
use Rattle.front_turns.specs.rights_model.declared.Holder.{Holder}
use Rattle.front_turns.specs.rights_model.declared.Holder.TheVariants.{Purse, Payment, Slot, Hand, Outside}
use Rattle.front_turns.specs.rights_model.declared.Movement.{Movement}
use Rattle.front_turns.specs.world_laws.Tables.{table_of}
use Rattle.front_turns.specs.turn_records.Events.{Event, Opening, moved, moves_in, opened}
use Rattle.front_turns.specs.world_state.Rights.{Rights}
use Rattle.front_turns.specs.world_state.Worlds.{Seat, State}

-- the totals are those of the rights, and know the instance of each seat
pub record Tells (r : Rights) (instances : List ℕ) (e : EscrowState) : Type 0 where
  pub sums : AreSums (table_of r) e
  pub minted : (b : ℕ) → (totals_of e b).minted ≡ (supply_at r.out b).minted
  pub burned : (b : ℕ) → (totals_of e b).burned ≡ (supply_at r.out b).burned
  pub seats : e.instances ≡ instances

-- ---- one event

-- a movement can be told: it can be made of the table that was told, between slots of seats that were told
pub record CanTellMove (e : EscrowState) (m : Movement) : Type 0 where
  pub before : Table
  pub sums : AreSums before e
  pub defined : table.CanMove before m
  pub opened : AreOpened e m
  pub minted : minted_with e m ≤ minted_bound

abbrev pub CanTell : EscrowState → Event → Type 0
CanTell e (moved m) = CanTellMove e m
CanTell e (opened o) = o.seat ≡ length e.instances
CanTell e _ = Unit {0}

-- a movement was told
pub record IsMoveTold (e f : EscrowState) (m : Movement) : Type 0 where
  pub can : CanTellMove e m
  pub told : IsTold e f m
  pub sums : (t : Table) → AreSums t e → table.CanMove t m → AreSums (table.moved t m) f
  pub made : HasRows f m
  pub rows : KeepsRows e f

-- an opening was told: one seat more, of this instance
pub record IsOpeningTold (e f : EscrowState) (i : ℕ) : Type 0 where
  pub totals : (b : ℕ) → totals_of f b ≡ totals_of e b
  pub shares : (j b : ℕ) → share_of f j b ≡ share_of e j b
  pub instances : f.instances ≡ e.instances ++ i ∷ []
  pub sums : (t : Table) → AreSums t e → AreSums t f
  pub rows : KeepsRows e f

abbrev pub IsStep : EscrowState → EscrowState → Event → Type 0
IsStep e f (moved m) = IsMoveTold e f m
IsStep e f (opened o) = IsOpeningTold e f o.instance
IsStep e f _ = f ≡ e

-- ---- events, one after another

abbrev pub AreSteps : EscrowState → EscrowState → List Event → Type 0
AreSteps e f [] = f ≡ e
AreSteps e f (v ∷ vs) = (mid : EscrowState) × IsStep e mid v × AreSteps mid f vs

-- each can be told after those before it
abbrev pub CanTellAll : EscrowState → List Event → Type 0
CanTellAll e [] = Unit {0}
CanTellAll e (v ∷ vs) = CanTell e v × ((mid : EscrowState) → IsStep e mid v → CanTellAll mid vs)

-- what is read is the same, and no row is lost
pub record IsRoomed (e f : EscrowState) : Type 0 where
  pub same : IsSame e f
  pub rows : KeepsRows e f

-- these events were told, and room may have been made since
pub record WereTold (e now : EscrowState) (vs : List Event) : Type 0 where
  pub mid : EscrowState
  pub steps : AreSteps e mid vs
  pub roomed : IsRoomed mid now

-- so was one
pub record WasTold (e now : EscrowState) (v : Event) : Type 0 where
  pub mid : EscrowState
  pub step : IsStep e mid v
  pub roomed : IsRoomed mid now

-- ---- a turn

-- seats are numbered as they are opened, and a movement names slots of seats that were opened before it
abbrev pub IsBelow : ℕ → Holder → Type 0
IsBelow n (Slot seat keyword) = seat < n
IsBelow n (Purse p) = Unit {0}
IsBelow n (Payment p) = Unit {0}
IsBelow n Hand = Unit {0}
IsBelow n Outside = Unit {0}

pub record AreBelow (n : ℕ) (m : Movement) : Type 0 where
  pub from : IsBelow n m.from
  pub to : IsBelow n m.to

abbrev pub AreSeated : ℕ → List Event → Type 0
AreSeated n [] = Unit {0}
AreSeated n (opened o ∷ vs) = (o.seat ≡ n) × AreSeated (suc n) vs
AreSeated n (moved m ∷ vs) = AreBelow n m × AreSeated n vs
AreSeated n (_ ∷ vs) = AreSeated n vs

-- the instances of the seats that are opened
abbrev pub instances_in : List Event → List ℕ
instances_in [] = []
instances_in (opened o ∷ vs) = o.instance ∷ instances_in vs
instances_in (_ ∷ vs) = instances_in vs

-- the totals tell the rights before these events, which account for the rights after them
pub record IsTurn (start after : Rights) (instances : List ℕ) (e : EscrowState)
    (vs : List Event) : Type 0 where
  pub told : Tells start instances e
  pub accounts : Accounts start after (moves_in vs)
  pub seated : AreSeated (length instances) vs
  pub minted : (b : ℕ) → minted_of after b ≤ minted_bound

-- from some rights they lead to some
pub record TurnOf (e : EscrowState) (vs : List Event) : Type 0 where
  pub start : Rights
  pub after : Rights
  pub instances : List ℕ
  pub turn : IsTurn start after instances e vs

-- ---- the world

-- the instances of seats, by the seats' numbers
abbrev pub instances_of : List Seat → List ℕ
instances_of seats = map (λ (s : Seat). s.instance) seats

-- the totals are those of the world's rights, and know its seats
abbrev pub TellsWorld : State → EscrowState → Type 0
TellsWorld w e = Tells w.rights (instances_of w.seats) e
