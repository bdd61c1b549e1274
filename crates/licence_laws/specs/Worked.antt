-- Worked turns: movements that are called for by what their turn shows, and others that aren't.
use Rattle.std.specs.Prelude.{ℕ, List, [], ◌∷◌, codes}
use Rattle.fair_laws.specs.world_state.rights_model.declared.Holder.{Holder}
use Rattle.fair_laws.specs.world_state.rights_model.declared.Holder.TheVariants.{Outside, Payment}
use Rattle.fair_laws.specs.world_state.rights_model.declared.Holder.TheVariants.{Purse, Slot}
use Rattle.serde_json.specs.Data as json
use Rattle.fair_laws.specs.world_state.turn_rows.Kinds as kinds
use Rattle.fair_laws.specs.world_state.turn_rows.Kinds.{Kind}
use Rattle.fair_laws.specs.world_state.turn_rows.Turns.{Answer, Event, Turn, called, moved, number}
use Rattle.fair_laws.specs.world_state.turn_rows.Turns.{ok, refused}
use Rattle.licence_laws.specs.Minting.{IsCalledForTurn}

-- ---- rows

abbrev pub turn : Kind → List ℕ → List ℕ → Answer → List Event → Turn
turn kind on method answer events = record {
  number = 1;
  kind = kind;
  by = codes "alice";
  on = on;
  method = method;
  arguments = json.no_items;
  answer = answer;
  events = events;
  sums = [];
}

abbrev pub call : List ℕ → List ℕ → Answer → Event
call on method answer = called (record {
  how = kinds.calls;
  on = on;
  method = method;
  arguments = json.no_items;
  answer = answer;
})

abbrev pub move : ℕ → Holder → Holder → Event
move b from to = moved (record { brand = b; from = from; to = to; value = number 5 })

abbrev pub done : Answer
done = ok json.null

abbrev pub not_done : Answer
not_done = refused (codes "TooMuch") json.no_items

-- ---- turns

abbrev pub mint_turn : List ℕ → ℕ → Turn
mint_turn method b = turn kinds.service (codes "mint1") method done (move b Outside (Payment 0) ∷ [])

-- a handler, of which one call is told before the movement
abbrev pub call_turn : List ℕ → List ℕ → Answer → ℕ → Turn
call_turn on method answer b =
    turn kinds.handler (codes "zseat0") (codes "h") done
    (call on method answer ∷ move b Outside (Slot 0 (codes "Price")) ∷ [])

abbrev pub purse_turn : List ℕ → ℕ → Turn
purse_turn method n =
    turn kinds.service (codes "purse1") method done (move 1 (Purse n) (Payment 0) ∷ [])

abbrev pub tick_turn : Turn
tick_turn = turn kinds.tick (codes "timer0") [] done (move 1 Outside (Payment 0) ∷ [])

-- ---- what holds of them

-- what is called for: a payment of the mint, gains, an invitation, a withdrawal
pub record AreShown : Type 0 where
  pub payment : IsCalledForTurn (mint_turn (codes "mintPayment") 1)
  pub gains : IsCalledForTurn (call_turn (codes "zmint2") (codes "mintGains") done 2)
  pub invitation : IsCalledForTurn (call_turn (codes "zcf7") (codes "makeInvitation") done 0)
  pub withdrawal : IsCalledForTurn (purse_turn (codes "withdraw") 1)

-- what isn't: of another brand, by another method, by a refused call, an invitation's call for another brand, from
-- another purse, unasked
pub record AreNotShown : Type 0 where
  pub other_brand : IsCalledForTurn (mint_turn (codes "mintPayment") 2) → ⊥
  pub other_method : IsCalledForTurn (mint_turn (codes "getIssuer") 1) → ⊥
  pub other_mint : IsCalledForTurn (call_turn (codes "zmint2") (codes "mintGains") done 1) → ⊥
  pub refused_call : IsCalledForTurn (call_turn (codes "zmint2") (codes "mintGains") not_done 2) → ⊥
  pub not_invitations : IsCalledForTurn (call_turn (codes "zcf7") (codes "makeInvitation") done 1) → ⊥
  pub other_purse : IsCalledForTurn (purse_turn (codes "withdraw") 2) → ⊥
  pub deposit : IsCalledForTurn (purse_turn (codes "deposit") 1) → ⊥
  pub unasked : IsCalledForTurn tick_turn → ⊥
