use Rattle.std.proofs.Common.{◌≡◌, ◌-◌, refl, sym, ap, ◌∙◌, take, length, arith}
use Rattle.std.proofs.lemmas.List.{take_all, length-take-le}
use Rattle.jessie_index.proofs.Indexed.{shorter}
use Rattle.jessie_index.proofs.index.NameIndex.truncate.Goals as goal

pub last-init : goal.last-init
last-init c = refl

pub last-smaller : goal.last-smaller
last-smaller c =
    let xs = c.last.self in
    let left : length (take (length xs - 1) xs) ≡ length xs - 1 = length-take-le (length xs - 1) xs (omega arith) in
    let new : length c.pop.new.self ≡ length (take (length xs - 1) xs) = ap length c.pop.ensures in
    omega (arith, left, new, c.last-test.true, c.len.ensures)

pub last-preserved : goal.last-preserved
last-preserved c =
    ap (take c.args.n) c.pop.ensures ∙ (shorter c.args.n (length c.last.self - 1) c.last.self (omega (arith, c.last-test.true, c.len.ensures)) ∙ c.last.invariant)

pub returns : goal.returns
returns c = sym (take_all c.args.n c.last.self (omega (arith, c.last-test.false, c.len.ensures))) ∙ c.last.invariant
