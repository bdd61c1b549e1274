-- Where movements are defined and the hand is empty after each turn, the stores add up.
use Rattle.std.proofs.Common.{◌≡◌, ℕ, List, [], ◌∷◌, refl, sym, ap, subst, ◌∙◌}
use Rattle.fair_rows.specs.amount_math.Content.{nothing}
use Rattle.fair_rows.specs.rights_model.Supply.{is_store, total_of}
use Rattle.fair_rows.specs.rights_model.Table.{CanMove, CanMoveAll, holds, moved as table_moved, no_holdings, table_after}
use Rattle.fair_rows.specs.rights_model.declared.Holder.TheVariants.{Hand}
use Rattle.fair_rows.proofs.rights_model.SupplyLaws.{adds_up_after}
use Rattle.fair_rows.proofs.rights_model.TableLaws.{CanMoveAll-push, table_after-push}
use Rattle.fair_rows.specs.turn_rows.Turns.{Event, Turn, called, exited, moved, opened, settled}
use Rattle.fair_rows.specs.turn_rows.declared.editions.Edition.{Edition}
use Rattle.fair_rows.specs.Movements.{movement_of}
use Rattle.fair_rows.specs.Rows.{InTurn, after_event}
use Rattle.fair_rows.specs.SoFar.{SoFar, nothing_so_far, with_turn}
use Rattle.fair_rows.specs.Turns.{after_events, after_turn_row}
use Rattle.fair_rows.proofs.Steps.{now_is}
use Rattle.fair_samples.specs.Claims.{LeaveNothing, StoresAddUp}
use Rattle.fair_samples.specs.Sentences.{AddsUp, MeetsFrom, MeetsRows, movements_are_defined, tables_balance}

record IsTraced (s : SoFar) : Type 0 where
  can : CanMoveAll no_holdings s.moves
  made_of : s.table ≡ table_after no_holdings s.moves

traced_after : (i : InTurn) (es : List Event) → IsTraced i.now → MeetsRows movements_are_defined i es → IsTraced (after_events i es).now
traced_after i [] traced h = traced
traced_after i (moved m ∷ es) traced h = traced_after (after_event i (moved m)) es (record {
  can = CanMoveAll-push no_holdings i.now.moves (movement_of m) traced.can (subst (λ t. CanMove t (movement_of m)) traced.made_of h.0);
  made_of = ap (λ t. table_moved t (movement_of m)) traced.made_of ∙ sym (table_after-push no_holdings i.now.moves (movement_of m));
}) h.1
traced_after i (called c ∷ es) traced h = traced_after (after_event i (called c)) es (record { can = traced.can; made_of = traced.made_of }) h.1
traced_after i (opened o ∷ es) traced h = traced_after (after_event i (opened o)) es (record { can = traced.can; made_of = traced.made_of }) h.1
traced_after i (exited x ∷ es) traced h = traced_after (after_event i (exited x)) es (record { can = traced.can; made_of = traced.made_of }) h.1
traced_after i (settled p r ∷ es) traced h = traced_after (after_event i (settled p r)) es (record { can = traced.can; made_of = traced.made_of }) h.1

nothing_asked : (i : InTurn) (es : List Event) → MeetsRows tables_balance i es
nothing_asked i [] = tt
nothing_asked i (e ∷ es) = (tt, nothing_asked (after_event i e) es)

sums_up : (s : SoFar) → IsTraced s → ((b : ℕ) → holds s.table Hand b ≡ nothing) → AddsUp s
sums_up s traced empty = record {
  stores = λ b k. ap (λ t. total_of is_store t b k) traced.made_of ∙ adds_up_after s.moves traced.can (λ e. ap (λ t. holds t Hand e) (sym traced.made_of) ∙ empty e) b k;
  hand_empty = empty;
}

from : (d : Edition) (s : SoFar) (ts : List Turn) → IsTraced s → MeetsFrom d movements_are_defined s ts → LeaveNothing s ts → MeetsFrom d tables_balance s ts
from d s [] traced h empty = tt
from d s (t ∷ ts) traced h empty =
    let i = after_turn_row s t in
    let end = traced_after i t.events (record { can = traced.can; made_of = traced.made_of }) h.0.1 in
    let same = now_is i t.events in
    let next : IsTraced (with_turn s t) = record { can = subst (λ (n : SoFar). CanMoveAll no_holdings n.moves) same end.can; made_of = subst (λ (n : SoFar). n.table ≡ table_after no_holdings n.moves) same end.made_of } in
    ((tt, nothing_asked i t.events, sums_up (after_events i t.events).now end (λ b. ap (λ (n : SoFar). holds n.table Hand b) same ∙ empty.0 b)), from d (with_turn s t) ts next h.1 empty.1)

pub stores_add_up : StoresAddUp
stores_add_up d ts h empty = from d nothing_so_far ts (record { can = tt; made_of = refl }) h empty
