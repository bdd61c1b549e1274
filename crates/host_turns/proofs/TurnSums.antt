-- A turn's events can be told, and what is then told is told of the rights after them.
use Rattle.std.specs.Prelude.{◌&&◌}
use Rattle.std.proofs.Common.{◌≡◌, ℕ, suc, ◌+◌, ◌<◌, ◌≤◌, ◌==◌, Bool, true, false, cond, List, [], ◌∷◌, ◌++◌, length, map, Err, Ok, OnErr, Result, refl, sym, ◌∙◌, ap, subst, arith}
use Rattle.front_turns.specs.amount_math.Content.{Content, sum}
use Rattle.front_turns.specs.amount_math.Counted.{counted, counted-nothing, counted-sum}
use Rattle.front_turns.specs.amount_math.ValueView.{minted_bound}
use Rattle.front_turns.proofs.lemmas.ListEdits.{length_push}
use Rattle.front_turns.specs.escrow.Sums.{AreSums, HasNoSlots}
use Rattle.front_turns.specs.escrow.Told as told
use Rattle.front_turns.specs.escrow.Told.{EscrowState, IsOpened, IsSame, is_slot_of, totals_of}
use Rattle.run_laws.specs.fair_laws.Accounts.{Accounts}
use Rattle.front_turns.specs.rights_model.Supply.{burned, is_outside, minted}
use Rattle.front_turns.specs.rights_model.Table as table
use Rattle.front_turns.specs.rights_model.Totals.{held_over}
use Rattle.front_turns.specs.rights_model.Table.{Table, table_after}
use Rattle.front_turns.specs.rights_model.declared.Holder.{Holder}
use Rattle.front_turns.specs.rights_model.declared.Holder.TheVariants.{Purse, Payment, Slot, Hand, Outside}
use Rattle.front_turns.specs.rights_model.declared.Movement.{Movement}
use Rattle.front_turns.specs.world_laws.Tables.{sum_of, table_of}
use Rattle.front_turns.specs.world_state.Rights.{Rights}
use Rattle.front_turns.specs.turn_records.Events.{Event, called, exited, moved, moves_in, opened, settled}
use Rattle.host_turns.specs.Totals.{AreSeated, AreSteps, CanTellAll, IsBelow, IsStep, IsTurn, Tells, instances_in}

counted_more : (t : Bool) (c d : Content) → counted (cond t (sum c d) d) ≡ cond t (counted c) 0 + counted d
counted_more true c d = counted-sum c d
counted_more false c d = omega arith

opened_of : (l : List ℕ) (h : Holder) → IsBelow (length l) h → IsOpened l h
opened_of l (Slot seat keyword) below = below
opened_of l (Purse n) below = tt
opened_of l (Payment n) below = tt
opened_of l Hand below = tt
opened_of l Outside below = tt

-- events from a table can be told where the totals are its own, and none brings too much out
can_tell : (vs : List Event) (e : EscrowState) (t : Table) → AreSums t e → table.CanMoveAll t (moves_in vs) → AreSeated (length e.instances) vs
    → ((b : ℕ) → (totals_of e b).minted + counted (minted (moves_in vs) b) ≤ minted_bound) → CanTellAll e vs
can_tell [] e t sums can seated few = tt
can_tell (moved m ∷ vs) e t sums can seated few =
    let more : (b : ℕ) → counted (minted (m ∷ moves_in vs) b) ≡ cond (is_outside m.from && (m.brand == b)) (counted m.value.content) 0 + counted (minted (moves_in vs) b) = λ b. counted_more (is_outside m.from && (m.brand == b)) m.value.content (minted (moves_in vs) b) in (
      record {
        before = t;
        sums = sums;
        defined = can.0;
        opened = record { from = opened_of e.instances m.from seated.0.from; to = opened_of e.instances m.to seated.0.to };
        minted = omega (arith, few m.brand, more m.brand);
      },
      λ mid step. can_tell vs mid (table.moved t m) (step.sums t sums can.0) can.1 (subst (λ (l : List ℕ). AreSeated (length l) vs) (sym step.told.instances) seated.1) (λ b. omega (arith, few b, more b, (step.told.totals b).minted)),
    )
can_tell (opened o ∷ vs) e t sums can seated few = (
  seated.0,
  λ mid step.
      let longer : suc (length e.instances) ≡ length mid.instances = omega (arith, ap (λ l. length l) step.instances, length_push e.instances o.instance) in
      can_tell vs mid t (step.sums t sums) can
      (subst (λ (n : ℕ). AreSeated n vs) longer seated.1)
      (λ b. subst (λ (n : ℕ). n + counted (minted (moves_in vs) b) ≤ minted_bound) (sym (ap (λ x. x.minted) (step.totals b))) (few b)),
)
can_tell (called c ∷ vs) e t sums can seated few = (tt, λ mid step. subst (λ (x : EscrowState). CanTellAll x vs) (sym step) (can_tell vs e t sums can seated few))
can_tell (exited x ∷ vs) e t sums can seated few = (tt, λ mid step. subst (λ (y : EscrowState). CanTellAll y vs) (sym step) (can_tell vs e t sums can seated few))
can_tell (settled p s ∷ vs) e t sums can seated few = (tt, λ mid step. subst (λ (x : EscrowState). CanTellAll x vs) (sym step) (can_tell vs e t sums can seated few))

pub turn_can : (start after : Rights) (instances : List ℕ) (e : EscrowState) (vs : List Event) → IsTurn start after instances e vs → CanTellAll e vs
turn_can start after instances e vs turn = can_tell vs e (table_of start) turn.told.sums turn.accounts.defined
    (subst (λ (l : List ℕ). AreSeated (length l) vs) (sym turn.told.seats) turn.seated)
    (λ b. omega (arith, turn.minted b, turn.accounts.minted_is b, turn.told.minted b))

-- ---- what they come to

-- the totals once events were told
record Told (e f : EscrowState) (t : Table) (ms : List Movement) (instances : List ℕ) : Type 0 where
  sums : AreSums (table_after t ms) f
  minted_is : (b : ℕ) → (totals_of f b).minted ≡ (totals_of e b).minted + counted (minted ms b)
  burned_is : (b : ℕ) → (totals_of f b).burned ≡ (totals_of e b).burned + counted (burned ms b)
  seats : f.instances ≡ e.instances ++ instances

append_none : (xs : List ℕ) → xs ++ [] ≡ xs
append_none [] = refl
append_none (x ∷ xs) = ap (λ l. x ∷ l) (append_none xs)

append_one : (xs : List ℕ) (x : ℕ) (ys : List ℕ) → (xs ++ x ∷ []) ++ ys ≡ xs ++ x ∷ ys
append_one [] x ys = refl
append_one (z ∷ zs) x ys = ap (λ l. z ∷ l) (append_one zs x ys)

all_told : (vs : List Event) (e f : EscrowState) (t : Table) → AreSums t e → table.CanMoveAll t (moves_in vs) → AreSteps e f vs → Told e f t (moves_in vs) (instances_in vs)
all_told [] e f t sums can steps = subst (λ (x : EscrowState). Told e x t [] []) (sym steps) (record {
  sums = sums;
  minted_is = λ b. omega (arith, counted-nothing);
  burned_is = λ b. omega (arith, counted-nothing);
  seats = sym (append_none e.instances);
})
all_told (moved m ∷ vs) e f t sums can steps =
    let mid = steps.0 in
    let step = steps.1 in
    let rest = all_told vs mid f (table.moved t m) (step.sums t sums can.0) can.1 steps.2 in
    record {
      sums = rest.sums;
      minted_is = λ b. omega (arith, rest.minted_is b, (step.told.totals b).minted, counted_more (is_outside m.from && (m.brand == b)) m.value.content (minted (moves_in vs) b));
      burned_is = λ b. omega (arith, rest.burned_is b, (step.told.totals b).burned, counted_more (is_outside m.to && (m.brand == b)) m.value.content (burned (moves_in vs) b));
      seats = rest.seats ∙ ap (λ l. l ++ instances_in vs) step.told.instances;
    }
all_told (opened o ∷ vs) e f t sums can steps =
    let mid = steps.0 in
    let step = steps.1 in
    let rest = all_told vs mid f t (step.sums t sums) can steps.2 in
    record {
      sums = rest.sums;
      minted_is = λ b. omega (arith, rest.minted_is b, ap (λ x. x.minted) (step.totals b));
      burned_is = λ b. omega (arith, rest.burned_is b, ap (λ x. x.burned) (step.totals b));
      seats = rest.seats ∙ ap (λ l. l ++ instances_in vs) step.instances ∙ append_one e.instances o.instance (instances_in vs);
    }
all_told (called c ∷ vs) e f t sums can steps = subst (λ (x : EscrowState). Told x f t (moves_in vs) (instances_in vs)) steps.1 (all_told vs steps.0 f t (subst (λ (x : EscrowState). AreSums t x) (sym steps.1) sums) can steps.2)
all_told (exited x ∷ vs) e f t sums can steps = subst (λ (y : EscrowState). Told y f t (moves_in vs) (instances_in vs)) steps.1 (all_told vs steps.0 f t (subst (λ (y : EscrowState). AreSums t y) (sym steps.1) sums) can steps.2)
all_told (settled p s ∷ vs) e f t sums can steps = subst (λ (x : EscrowState). Told x f t (moves_in vs) (instances_in vs)) steps.1 (all_told vs steps.0 f t (subst (λ (x : EscrowState). AreSums t x) (sym steps.1) sums) can steps.2)

-- the totals are told of the rights after the turn
pub turn_told : (start after : Rights) (instances : List ℕ) (e f : EscrowState) (vs : List Event) → IsTurn start after instances e vs → AreSteps e f vs → Tells after (instances ++ instances_in vs) f
turn_told start after instances e f vs turn steps =
    let all = all_told vs e f (table_of start) turn.told.sums turn.accounts.defined steps in
    record {
      sums = subst (λ (t : Table). AreSums t f) (sym turn.accounts.table) all.sums;
      minted = λ b. omega (arith, all.minted_is b, turn.accounts.minted_is b, turn.told.minted b);
      burned = λ b. omega (arith, all.burned_is b, turn.accounts.burned_is b, turn.told.burned b);
      seats = all.seats ∙ ap (λ l. l ++ instances_in vs) turn.told.seats;
    }

-- and what is read of them are the sums of the rights
read_sum : (r : Rights) (instances : List ℕ) (e : EscrowState) → Tells r instances e → (b : ℕ) → told.sum_of e b ≡ sum_of r b
read_sum r instances e tells b = λ i. record {
  brand = b;
  minted = tells.minted b i;
  burned = tells.burned b i;
  purses = tells.sums.purses b i;
  payments = tells.sums.payments b i;
  slots = tells.sums.slots b i;
}

pub read_sums : (r : Rights) (instances : List ℕ) (e : EscrowState) → Tells r instances e → (bs : List ℕ) → map (told.sum_of e) bs ≡ map (sum_of r) bs
read_sums r instances e tells [] = refl
read_sums r instances e tells (b ∷ bs) = λ i. read_sum r instances e tells b i ∷ read_sums r instances e tells bs i

-- what reads the same tells the same
pub tells_same : (r : Rights) (instances : List ℕ) (e f : EscrowState) → IsSame e f → Tells r instances e → Tells r instances f
tells_same r instances e f same is = record {
  sums = record {
    purses = λ b. ap (λ x. x.purses) (same.totals b) ∙ is.sums.purses b;
    payments = λ b. ap (λ x. x.payments) (same.totals b) ∙ is.sums.payments b;
    slots = λ b. ap (λ x. x.slots) (same.totals b) ∙ is.sums.slots b;
    shares = λ i b. same.shares i b ∙ is.sums.shares i b ∙ ap (λ l. held_over (is_slot_of l i) (table_of r) b) (sym same.instances);
    whole = λ b. omega (arith, ap (λ x. x.minted) (same.totals b), ap (λ x. x.burned) (same.totals b), is.sums.whole b);
    seats = subst (λ (l : List ℕ). (seat : ℕ) → length l ≤ seat → HasNoSlots (table_of r) seat) (sym same.instances) is.sums.seats;
  };
  minted = λ b. ap (λ x. x.minted) (same.totals b) ∙ is.minted b;
  burned = λ b. ap (λ x. x.burned) (same.totals b) ∙ is.burned b;
  seats = same.instances ∙ is.seats;
}

pub on_err : {A B : Type 0} (r : Result A B) (P : Type 0) → P → OnErr r P
on_err (Ok x) P is = tt
on_err (Err e) P is = is
