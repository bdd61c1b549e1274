use Rattle.std.proofs.Common.{arith, refl}
use Rattle.ertp_mint.specs.amount_math.declared.Kind.TheVariants.{Nat}
use Rattle.lemmas.proofs.ListEdits.{read_now}
use Rattle.transit.specs.Transit.{empty_hand}
use Rattle.transit.proofs.Calls.{made, made_too}
use Rattle.transit.proofs.ReadOff.{burned_read, less_burned}
use Rattle.transit.proofs.Transit.burned.Goals as goal

pub burned-requires : goal.burned-requires
burned-requires c = let there = rw (← c.self.view_is) at c.requires in made c.self.inside.out c.self.inside.hand.items c.self.invariant c.args.brand there

pub index-requires : goal.index-requires
index-requires c =
    let there = rw (← c.self.view_is) at c.requires in
    omega (arith, made_too c.self.inside.out c.self.inside.hand.items c.self.invariant c.args.brand there)

pub overflow_sub-result : goal.overflow_sub-result
overflow_sub-result c =
    let there = rw (← c.self.view_is) at c.requires in
    let now = read_now c.self.inside.hand.items c.args.brand c.args.brand c.index.result.now (empty_hand Nat) (made_too c.self.inside.out c.self.inside.hand.items c.self.invariant c.args.brand there) refl c.index.ensures in
    less_burned c.self.inside.out c.self.inside.hand.items c.self.invariant c.args.brand there c.index.result.now now c.burned.result c.total.result c.burned.ensures c.total.ensures

pub returns : goal.returns
returns c =
    let there = rw (← c.self.view_is) at c.requires in
    let now = read_now c.self.inside.hand.items c.args.brand c.args.brand c.index.result.now (empty_hand Nat) (made_too c.self.inside.out c.self.inside.hand.items c.self.invariant c.args.brand there) refl c.index.ensures in
    rw (← c.self.view_is) (burned_read c.self.inside.out c.self.inside.hand.items c.self.invariant c.args.brand there c.index.result.now now c.burned.result c.total.result c.burned.ensures c.total.ensures)
