use Rattle.std.proofs.Common.{Some, ◌∙◌, ap, refl, sym}
use Rattle.ertp_mint.proofs.Placed.{at_text, change_written, nothing_written}
use Rattle.ertp_mint.proofs.places.change_at.Goals as goal

pub returns-then-is_empty : goal.returns-then-is_empty
returns-then-is_empty c =
    let w = c.change.new.self in
    let there = sym c.in-Some.ensures.value in
    let written = (c.get_mut.follows.holds w).3 (rw there refl) in
    λ q. nothing_written c.args.key.now (c.get_mut.follows.lender w) c.remove.new.self _ c.remove.ensures.updates refl (ap at_text written.1 ∙ c.is_empty.ensures.0 c.if-is_empty.true) q
    ∙ change_written c.args.key.now c.args.places.now (c.get_mut.follows.lender w) (Some w) written c.args.change c.args.count c.in-Some.place.now there c.change.ensures q

pub returns-else-is_empty : goal.returns-else-is_empty
returns-else-is_empty c =
    let w = c.change.new.self in
    let there = sym c.in-Some.ensures.value in
    let written = (c.get_mut.follows.holds w).3 (rw there refl) in
    λ q. change_written c.args.key.now c.args.places.now (c.get_mut.follows.lender w) (Some w) written c.args.change c.args.count c.in-Some.place.now there c.change.ensures q
