-- What the turn of a delivery moves, which is to or from what is stored, can be told to the running totals.
use Rattle.std.specs.Prelude.{◌≡◌, ℕ, List, []}
use Rattle.run_laws.proofs.rule_laws.Methods.{calls_are, services_are}
use Rattle.front_turns.specs.contract_texts.Reader.{reader}
use Rattle.front_turns.proofs.contract_texts.Modules.{reads_modules}
use Rattle.run_laws.proofs.delivery_laws.Works.{turn_good}
use Rattle.run_laws.specs.delivery_turns.Turns.{delivery_turn}
use Rattle.run_laws.specs.fair_laws.Accounts.{AreStoredEffects}
use Rattle.front_turns.specs.turn_records.Deliveries.{Delivery}
use Rattle.host_turns.specs.Totals.{IsTurn, TellsWorld, instances_of}
use Rattle.host_turns.proofs.SeatNumbers.{log_told}
use Rattle.front_turns.specs.escrow.Told.{EscrowState}
use Rattle.front_turns.proofs.world_laws.Fronts.{good_behind}
use Rattle.front_turns.specs.world_state.Good.{AreGood, IsGoodWorld}
use Rattle.front_turns.specs.world_state.Worlds.{Effect, State, after_all, in_front}

module _ (meter : ℕ) (w : State) (d : Delivery) (good : IsGoodWorld (in_front d w)) where
  abbrev effects : List Effect
  effects = (delivery_turn reader meter w d).effects

  pub effects_good : AreGood w effects
  effects_good = turn_good reader (services_are reader reads_modules) calls_are meter w d good

  -- the turn leads from the totals of the world before it to those of the world after it
  pub effects_told : AreStoredEffects effects → w.log ≡ [] → (e : EscrowState) → TellsWorld w e → IsTurn w.rights (after_all w effects).rights (instances_of w.seats) e (after_all w effects).log
  effects_told stored empty e tells = log_told w effects e (good_behind w d good) effects_good stored empty tells
