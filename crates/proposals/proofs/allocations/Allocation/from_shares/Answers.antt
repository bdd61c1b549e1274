use Rattle.std.proofs.Common.{◌≡◌, ◌∙◌, ◌++◌, ◌∷◌, List, ap, sym}
use Rattle.std.specs.Vec.Iter.{into_iter_items}
use Rattle.proposals.specs.declared.allocations.Share.{Share}
use Rattle.proposals.proofs.SharesKeyed.{free_before}
use Rattle.proposals.proofs.allocations.Allocation.from_shares.Goals as goal

pub add-requires-clause-free : goal.add-requires-clause-free
add-requires-clause-free c =
    let at = c.loop-share in
    let left = into_iter_items c.next.new.self in
    let steps : into_iter_items at.share-iterator ≡ c.in-Some.share ∷ left = c.in-Some.ensures.steps.0 in
    free_before c.args.shares.items at.made c.in-Some.share left c.requires (ap (λ (shares : List Share). at.made ++ shares) (sym steps) ∙ at.invariant.whole)
