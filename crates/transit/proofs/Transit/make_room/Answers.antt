use Rattle.std.proofs.Common.{◌∙◌, arith, ap, refl}
use Rattle.std.proofs.lemmas.Result.{on_ok_weaker}
use Rattle.lemmas.proofs.ListEdits.{read_now}
use Rattle.transit.specs.Transit.{empty_hand}
use Rattle.ertp_mint.specs.amount_math.Held.{Held}
use Rattle.ertp_mint.specs.amount_math.declared.Kind.TheVariants.{Nat}
use Rattle.transit.proofs.Calls.{has_room, made_too, roomed_keeps, roomed_view}
use Rattle.transit.proofs.Transit.make_room.Goals as goal

pub index_mut-requires : goal.index_mut-requires
index_mut-requires c =
    let there = rw (← c.self.view_is) at c.requires in
    omega (arith, made_too c.self.inside.out c.self.inside.hand.items c.self.invariant c.args.brand there)

pub invariant_of-self : goal.invariant_of-self
invariant_of-self c =
    let there = rw (← c.self.view_is) at c.requires in
    let now = read_now c.self.inside.hand.items c.args.brand c.args.brand c.index_mut.result.now (empty_hand Nat) (made_too c.self.inside.out c.self.inside.hand.items c.self.invariant c.args.brand there) refl c.index_mut.ensures.value in
    roomed_keeps c.self.inside.out c.self.inside.hand.items c.self.invariant c.args.brand there c.reserve.new.self (c.reserve.ensures.same ∙ ap (λ (z : Held). z.value) now)

pub returns-clause-same : goal.returns-clause-same
returns-clause-same c =
    let there = rw (← c.self.view_is) at c.requires in
    let now = read_now c.self.inside.hand.items c.args.brand c.args.brand c.index_mut.result.now (empty_hand Nat) (made_too c.self.inside.out c.self.inside.hand.items c.self.invariant c.args.brand there) refl c.index_mut.ensures.value in
    rw (← c.self.view_is) (roomed_view c.self.inside.out c.self.inside.hand.items c.self.invariant c.args.brand there c.reserve.new.self (c.reserve.ensures.same ∙ ap (λ (z : Held). z.value) now))

pub returns-clause-ok : goal.returns-clause-ok
returns-clause-ok c =
    let there = rw (← c.self.view_is) at c.requires in
    let now = read_now c.self.inside.hand.items c.args.brand c.args.brand c.index_mut.result.now (empty_hand Nat) (made_too c.self.inside.out c.self.inside.hand.items c.self.invariant c.args.brand there) refl c.index_mut.ensures.value in
    rw (← c.self.view_is) (on_ok_weaker _ (has_room c.self.inside.out c.self.inside.hand.items c.self.invariant c.args.brand there c.reserve.new.self (c.reserve.ensures.same ∙ ap (λ (z : Held). z.value) now) c.index_mut.result.now now c.args.keys) c.reserve.ensures.ok)
