-- The rows of movements and of settlements, as they are printed, and what they make of a table.
use Rattle.std.specs.Prelude.{◌≡◌, ℕ, List, [], ◌∷◌, ◌++◌, Option, Some, None, length, map, refl}
use Rattle.std.specs.List.{AllByRecursion}
use Rattle.std.proofs.Common.{append_assoc, sym, ◌∙◌, ap, subst}
use Rattle.std.proofs.lemmas.List.{append-nil}
use Rattle.fair_rows.specs.amount_math.Content.{Content}
use Rattle.fair_rows.specs.rights_model.Table as table
use Rattle.fair_rows.specs.rights_model.Table.{Table, table_after}
use Rattle.fair_rows.specs.rights_model.declared.Movement.{Movement}
use Rattle.delivery_laws.specs.promise_store.States.{SettlementView}
use Rattle.delivery_laws.specs.turn_records.Events as events
use Rattle.delivery_laws.specs.turn_records.Events.{Event}
use Rattle.delivery_laws.specs.turn_records.Printed.{printed_event, printed_move, printed_settlement}
use Rattle.fair_rows.specs.turn_rows.Turns as rows
use Rattle.fair_rows.specs.turn_rows.Turns.{Move}
use Rattle.fair_rows.specs.Acts.{Act, AreActs, Place, place_after, rows_of_acts}
use Rattle.fair_rows.specs.ExitCauses.{Owners}
use Rattle.fair_rows.specs.Movements.{movement_of, movements_in}
use Rattle.fair_rows.proofs.Acts.{singles_are_acts}
use Rattle.fair_rows.specs.turn_rows.Turns.{Turn}
use Rattle.delivery_laws.specs.world_state.Good.{AreValues, IsValued}
use Rattle.delivery_laws.specs.world_state.Promises.{CascadeStep, Flow, PromiseBook, all_stepped, cascade, flowing, following, notifies, resolving, resolving_to, settlement_at, settles, settling, stepped, target_of}
use Rattle.delivery_laws.specs.world_state.Rights.{CanMoveAll, Rights, hand_after, moved}
use Rattle.delivery_laws.specs.turn_records.Deliveries.{Delivery}
use Rattle.fair_laws.specs.Places.{rows_of}
use Rattle.delivery_laws.specs.rules.Licence.{IsStored}
use Rattle.fair_laws.proofs.Moves.{move_row, moved_valued, movement_valued}
use Rattle.fair_laws.proofs.Values as values

-- ---- lists

pub rows_append : (xs ys : List Event) → rows_of (xs ++ ys) ≡ rows_of xs ++ rows_of ys
rows_append [] ys = refl
rows_append (x ∷ xs) ys = ap (λ l. printed_event x ∷ l) (rows_append xs ys)

pub rows_of_moves : (ms : List Movement) → rows_of (map events.moved ms) ≡ map move_row ms
rows_of_moves [] = refl
rows_of_moves (m ∷ ms) = ap (λ l. move_row m ∷ l) (rows_of_moves ms)

pub move_rows : (ms : List Movement) → map rows.moved (map printed_move ms) ≡ map move_row ms
move_rows [] = refl
move_rows (m ∷ ms) = ap (λ l. move_row m ∷ l) (move_rows ms)

pub movements_of_rows : (ns : List Move) → movements_in (map rows.moved ns) ≡ map movement_of ns
movements_of_rows [] = refl
movements_of_rows (n ∷ ns) = ap (λ l. movement_of n ∷ l) (movements_of_rows ns)

-- ---- what movements make of a table

pub all_values : (r : Rights) (hand : ℕ → Content) (ms : List Movement) → CanMoveAll r hand ms → AreValues r → AllByRecursion IsStored ms → AllByRecursion (λ (m : Movement). IsValued m.value) ms
all_values r hand [] can v stored = tt
all_values r hand (m ∷ ms) can v stored = (movement_valued r hand m can.0 v stored.0, all_values (moved r m) (hand_after hand m) ms can.1 (moved_valued r hand m can.0 v) stored.1)

pub table_told : (t : Table) (ms : List Movement) → AllByRecursion (λ (m : Movement). IsValued m.value) ms → table_after t (map movement_of (map printed_move ms)) ≡ table_after t ms
table_told t [] all = refl
table_told t (m ∷ ms) all = ap (λ u. table_after u (map movement_of (map printed_move ms))) (values.told_moved t m all.0) ∙ table_told (table.moved t m) ms all.1

-- ---- settlements

-- what settling tells: settlements alone, whatever was told before
pub record Settles (before now : List Event) : Type 0 where
  pub promises : List (ℕ × SettlementView)
  pub told : now ≡ before ++ map (λ p. events.settled p.0 p.1) promises

none_settled : (log : List Event) → Settles log log
none_settled log = record { promises = []; told = sym (append-nil log) }

steps_settle : (v : SettlementView) (ss : List CascadeStep) (f : Flow) → Settles f.log (all_stepped v ss f).log
steps_settle v [] f = none_settled f.log
steps_settle v (settles p ∷ ss) f =
    let later = steps_settle v ss (stepped v (settles p) f) in
    record {
      promises = (p, v) ∷ later.promises;
      told = later.told ∙ append_assoc f.log (events.settled p v ∷ []) (map (λ p. events.settled p.0 p.1) later.promises);
    }
steps_settle v (notifies p ∷ ss) f = steps_settle v ss (stepped v (notifies p) f)

pub settling_settles : (p : ℕ) (v : SettlementView) (b : PromiseBook) (ws : List Delivery) (log : List Event) → Settles log (settling p v b ws log).log
settling_settles p v b ws log = steps_settle v (cascade (length b.settled) b.follows p) (flowing b ws log)

pub resolving_settles : (p : ℕ) (v : SettlementView) (b : PromiseBook) (ws : List Delivery) (log : List Event) → Settles log (resolving p v b ws log).log
resolving_settles p v b ws log = to (target_of v)
  where
    by : (s : Option SettlementView) (q : ℕ) → Settles log (following s p q b ws log).log
    by (Some u) q = settling_settles p u b ws log
    by None q = none_settled log

    to : (t : Option ℕ) → Settles log (resolving_to t p v b ws log).log
    to None = settling_settles p v b ws log
    to (Some q) = by (settlement_at b.settled q) q

-- each is an act, which leaves the place as it is
module _ (owners : Owners) (t : Turn) (w : Place) where
  abbrev pub settle_acts : List (ℕ × SettlementView) → List Act
  settle_acts [] = []
  settle_acts (p ∷ ps) = record { rows = rows.settled p.0 (printed_settlement p.1) ∷ []; next = w } ∷ settle_acts ps

  pub settlements_are_acts : (here : List rows.Event) (ps : List (ℕ × SettlementView)) → AreActs owners t here w (settle_acts ps)
  settlements_are_acts here [] = tt
  settlements_are_acts here (p ∷ ps) = ((singles_are_acts owners t here w).settlement p.0 (printed_settlement p.1), settlements_are_acts (here ++ rows.settled p.0 (printed_settlement p.1) ∷ []) ps)

  pub settlements_told : (ps : List (ℕ × SettlementView)) → rows_of (map (λ p. events.settled p.0 p.1) ps) ≡ rows_of_acts (settle_acts ps)
  settlements_told [] = refl
  settlements_told (p ∷ ps) = ap (λ l. rows.settled p.0 (printed_settlement p.1) ∷ l) (settlements_told ps)

  pub settlements_stay : (ps : List (ℕ × SettlementView)) → place_after w (settle_acts ps) ≡ w
  settlements_stay [] = refl
  settlements_stay (p ∷ ps) = settlements_stay ps

-- ---- acts after acts

pub acts_append : (owners : Owners) (t : Turn) (here : List rows.Event) (w : Place) (xs ys : List Act) → AreActs owners t here w xs → AreActs owners t (here ++ rows_of_acts xs) (place_after w xs) ys → AreActs owners t here w (xs ++ ys)
acts_append owners t here w [] ys a b = subst (λ (l : List rows.Event). AreActs owners t l w ys) (append-nil here) b
acts_append owners t here w (x ∷ xs) ys a b =
    (a.0, acts_append owners t (here ++ x.rows) x.next xs ys a.1 (subst (λ (l : List rows.Event). AreActs owners t l (place_after x.next xs) ys) (sym (append_assoc here x.rows (rows_of_acts xs))) b))

pub acts_rows : (xs ys : List Act) → rows_of_acts (xs ++ ys) ≡ rows_of_acts xs ++ rows_of_acts ys
acts_rows [] ys = refl
acts_rows (x ∷ xs) ys = ap (λ l. x.rows ++ l) (acts_rows xs ys) ∙ sym (append_assoc x.rows (rows_of_acts xs) (rows_of_acts ys))

pub acts_place : (w : Place) (xs ys : List Act) → place_after w (xs ++ ys) ≡ place_after (place_after w xs) ys
acts_place w [] ys = refl
acts_place w (x ∷ xs) ys = acts_place x.next xs ys
