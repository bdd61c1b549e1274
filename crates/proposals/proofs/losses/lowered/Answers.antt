use Rattle.std.proofs.Common.{ap, sym, ◌∙◌}
use Rattle.host_data.specs.amount_math.Content.{difference, difference-nothing}
use Rattle.host_data.specs.amount_math.ValueView.{ValueView, with_content}
use Rattle.proposals.specs.declared.allocations.Share.{Share}
use Rattle.proposals.specs.Shares.{keyed_share}
use Rattle.proposals.proofs.Sums.{changed_there, changed_none}
use Rattle.proposals.proofs.losses.lowered.Goals as goal
use Rattle.proposals.proofs.losses.lowered.Goals.{in-Some, in_default}

pub lessen-requires-clause-kind : goal.lessen-requires-clause-kind
lessen-requires-clause-kind c = ap (λ (r : Share). r.amount.value.kind) c.in_ok-after.ensures ∙ (c.requires c.in-Some.loss.now (sym c.in-Some.ensures)).meet.kind

pub returns : goal.returns
returns c =
    let with : ValueView → Share = λ v. keyed_share c.args.slot.now.keyword (record { brand = c.args.slot.now.amount.brand; value = v }) in
    elim c.match-amount_of.branch [
      | in-Some w ↦
          w.after-is
          ∙ ap (λ (r : Share). keyed_share r.keyword (record { brand = r.amount.brand; value = w.lessen.new.self })) c.in_ok-after.ensures
          ∙ ap with (w.lessen.ensures ∙ ap (λ (r : Share). with_content r.amount.value (difference r.amount.value.content w.in-Some.loss.now.value.content)) c.in_ok-after.ensures ∙ changed_there difference c.args.shares.now c.args.slot.now w.in-Some.loss.now (sym w.in-Some.ensures))
      | in_default w ↦ w.after-is ∙ c.in_ok-after.ensures ∙ ap with (changed_none difference c.args.shares.now c.args.slot.now difference-nothing (sym w.in_default.ensures))
    ]
