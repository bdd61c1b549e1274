use Rattle.std.proofs.Common.{get_or, not, ap, sym, ◌∙◌}
use Rattle.call_arguments.specs.Records.{has_name}
use Rattle.call_arguments.specs.Keywords.{first_alone, texts}
use Rattle.call_arguments.proofs.Found.{found_later, no_name}
use Rattle.call_arguments.proofs.keyword_arguments.first_alone.Goals as goal

pub loop-name-preserved : goal.loop-name-preserved
unfolding first_alone
loop-name-preserved c =
    let ns = c.args.names.now in
    let i = c.loop-name.name-index in
    let absent = sym (c.in_ok-set.ensures (get_or ns i no_name)) ∙ sym c.contains.ensures ∙ c.if-not-contains.false in
    sym (found_later (λ k. not (has_name k (texts c.args.others.now))) ns i no_name c.loop-name-test.true (ap not (absent))) ∙ c.loop-name.invariant
