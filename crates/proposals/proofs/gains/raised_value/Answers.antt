use Rattle.std.proofs.Common.{ap, sym, ◌∙◌}
use Rattle.host_data.specs.amount_math.Content.{sum, sum-nothing}
use Rattle.host_data.specs.amount_math.ValueView.{ValueView, with_content}
use Rattle.proposals.proofs.Sums.{changed_there, changed_none}
use Rattle.proposals.proofs.gains.raised_value.Goals as goal
use Rattle.proposals.proofs.gains.raised_value.Goals.{in-Some+in_ok-add_known, in_default}

pub add_known-requires-clause-kind : goal.add_known-requires-clause-kind
add_known-requires-clause-kind c = ap (λ (v : ValueView). v.kind) c.in_ok-value.ensures ∙ (c.requires c.in-Some.gain.now (sym c.in-Some.ensures)).meet.kind

pub returns : goal.returns
returns c = elim c.match-amount_of.branch [
  | in-Some+in_ok-add_known w ↦
      w.value-is
      ∙ w.in_ok-add_known.ensures
      ∙ ap (λ (v : ValueView). with_content v (sum v.content w.in-Some.gain.now.value.content)) c.in_ok-value.ensures
      ∙ changed_there sum c.args.gains.now c.args.slot.now w.in-Some.gain.now (sym w.in-Some.ensures)
  | in_default w ↦ w.value-is ∙ c.in_ok-value.ensures ∙ changed_none sum c.args.gains.now c.args.slot.now sum-nothing (sym w.in_default.ensures)
]
