use Rattle.std.proofs.Common.{false}
use Rattle.std.proofs.Math.Logic.{∥∥₁_map}
use Rattle.jessie_machine.specs.Host.{reply_of}
use Rattle.jessie_machine.specs.jessie_semantics.Play as plays
use Rattle.refusals.specs.host_data.View.{trees}
use Rattle.contract_powers.specs.Situations.{situation}
use Rattle.contract_powers.proofs.ReadyRuns.{running_of}
use Rattle.contract_powers.proofs.RunSteps.{failed_ready, goes_back, is_answered, ready, runs_on}
use Rattle.contract_powers.proofs.powers.ContractPowersPowers.send.Goals as goal

pub send-requires-clause-turn : goal.send-requires-clause-turn
send-requires-clause-turn g c =
    let s = situation c.args.self.now.world c.args.self.now.instance c.args.self.now.failed in
    (running_of s c.args.self.now.ready c.if-self.false).turn

pub send-requires-clause-made : goal.send-requires-clause-made
send-requires-clause-made g c =
    let s = situation c.args.self.now.world c.args.self.now.instance c.args.self.now.failed in
    (running_of s c.args.self.now.ready c.if-self.false).made

pub invariant_of-self : goal.invariant_of-self
invariant_of-self g c = record {
  ready = ∣ failed_ready c.send.new.world c.args.self.now.instance ∣₁;
  back = ∥∥₁_map c.args.self.now.back (goes_back g.T.Turn.base c.args.self.now.world c.send.new.world c.send.ensures.back);
}

pub invariant_of-self-2 : goal.invariant_of-self-2
invariant_of-self-2 g c =
    let s = situation c.args.self.now.world c.args.self.now.instance c.args.self.now.failed in
    record {
      ready = ∣ ready (situation c.send.new.world c.args.self.now.instance false) (runs_on s c.send.new.world (plays.send c.args.target c.args.method.now (trees c.args.args.items)) (reply_of c.in_ok-answer.answer) (running_of s c.args.self.now.ready c.if-self.false) c.in_ok-answer.ensures.answered) ∣₁;
      back = ∥∥₁_map c.args.self.now.back (goes_back g.T.Turn.base c.args.self.now.world c.send.new.world c.send.ensures.back);
    }

pub returns : goal.returns
returns g c =
    let s = situation c.args.self.now.world c.args.self.now.instance c.args.self.now.failed in
    is_answered s c.send.new.world (plays.send c.args.target c.args.method.now (trees c.args.args.items)) (reply_of c.in_ok-answer.answer) (running_of s c.args.self.now.ready c.if-self.false) c.in_ok-answer.ensures.answered
