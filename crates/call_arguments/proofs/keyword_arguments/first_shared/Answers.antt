use Rattle.std.proofs.Common.{get_or, sym, ◌∙◌}
use Rattle.call_arguments.specs.Records.{has_name}
use Rattle.call_arguments.specs.Keywords.{first_shared, texts}
use Rattle.call_arguments.proofs.Found.{found_later, no_name}
use Rattle.call_arguments.proofs.keyword_arguments.first_shared.Goals as goal

pub loop-name-preserved : goal.loop-name-preserved
unfolding first_shared
loop-name-preserved c =
    let ns = c.args.names.now in
    let i = c.loop-name.name-index in
    let absent = sym (c.in_ok-set.ensures (get_or ns i no_name)) ∙ sym c.contains.ensures ∙ c.if-contains.false in
    sym (found_later (λ k. has_name k (texts c.args.others.now)) ns i no_name c.loop-name-test.true (absent)) ∙ c.loop-name.invariant
