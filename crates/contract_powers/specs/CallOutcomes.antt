-- What a call came to.
use Rattle.std.specs.Prelude.{◌≡◌}
use Rattle.world_effects.specs.call_outcomes.Lists.{IsEachShaped, effects_view}
use Rattle.delivery_laws.specs.rules.Outcomes.{Outcome}
use Rattle.delivery_laws.specs.delivery_turns.HostCalls.{reply_of, told_effects}
use Rattle.jessie_machine.specs.Host as machine
use Rattle.jessie_machine.specs.jessie_semantics.Play.{Call}
use Rattle.contract_powers.specs.declared.host_calls.answers.Answered.{Answered}

-- the call is told, and has the effects of its rule; what is answered is the rule's
pub record IsAnswered (c : Call) (row : Outcome) (a : Answered) : Type 0 where
  pub reply : machine.reply_of a.reply ≡ reply_of row
  pub effects : effects_view a.effects ≡ told_effects c row
  pub shaped : IsEachShaped a.effects
