use Rattle.std.proofs.Common.{◌≡◌, ℕ, ◌+◌, ◌≤◌, List, drop, length, arith, sym, ap, ◌∙◌}
use Rattle.std.proofs.lemmas.List.{drop_all}
use Rattle.rule_laws.proofs.SlotLists.{fresh_in}
use Rattle.rules.specs.proposals.declared.allocations.Share.{Share}
use Rattle.contract_reads.proofs.Fresh.{further_fresh}
use Rattle.contract_reads.proofs.seat_changes.counts.fresh_slots.Goals as goal

ended : (slots shares : List Share) (i n : ℕ) → length shares ≤ i → n + fresh_in slots (drop i shares) ≡ fresh_in slots shares → n ≡ fresh_in slots shares
ended slots shares i n past is =
    let none : fresh_in slots (drop i shares) ≡ 0 = ap (fresh_in slots) (drop_all i shares past) in
    omega (arith, none, is)

pub returns-clause-many : goal.returns-clause-many
returns-clause-many c = ended c.args.slots.now c.args.shares.now c.loop-share.share-index c.loop-share.fresh c.loop-share-test.false c.loop-share.invariant.many ∙ sym (further_fresh c.args.slots.now c.args.shares.now)
