use Rattle.std.proofs.Common.{◌∙◌, arith, ap, set, refl}
use Rattle.ertp_mint.specs.amount_math.Held.{Held, with_less}
use Rattle.lemmas.proofs.ListEdits.{read_now}
use Rattle.transit.specs.Transit.{empty_hand}
use Rattle.ertp_mint.specs.amount_math.declared.Kind.TheVariants.{Nat}
use Rattle.transit.proofs.Calls.{comes_out_at, go_keeps, go_part, go_view, made, made_too}
use Rattle.transit.proofs.Transit.let_go.Goals as goal

pub index_mut-requires : goal.index_mut-requires
index_mut-requires c =
    let there = rw (← c.self.view_is) at c.requires in
    omega (arith, made_too c.self.inside.out c.self.inside.hand.items c.self.invariant c.args.brand there.made)

pub take_out-requires : goal.take_out-requires
take_out-requires c =
    let there = rw (← c.self.view_is) at c.requires in
    comes_out_at c.self.inside.out c.self.inside.hand.items c.self.invariant c.args.brand there.made c.args.value there _
    (read_now c.self.inside.hand.items c.args.brand c.args.brand c.index_mut.result.now (empty_hand Nat) (made_too c.self.inside.out c.self.inside.hand.items c.self.invariant c.args.brand there.made) refl c.index_mut.ensures.value)

pub undo_retire-requires-clause-made : goal.undo_retire-requires-clause-made
undo_retire-requires-clause-made c =
    let there = rw (← c.self.view_is) at c.requires in
    made c.self.inside.out c.self.inside.hand.items c.self.invariant c.args.brand there.made

pub undo_retire-requires-clause-back : goal.undo_retire-requires-clause-back
undo_retire-requires-clause-back c =
    let there = rw (← c.self.view_is) at c.requires in
    go_part c.self.inside.out c.self.inside.hand.items c.self.invariant c.args.brand there.made c.args.value there

pub invariant_of-self : goal.invariant_of-self
invariant_of-self c =
    let there = rw (← c.self.view_is) at c.requires in
    let now = read_now c.self.inside.hand.items c.args.brand c.args.brand c.index_mut.result.now (empty_hand Nat) (made_too c.self.inside.out c.self.inside.hand.items c.self.invariant c.args.brand there.made) refl c.index_mut.ensures.value in
    go_keeps c.self.inside.out c.self.inside.hand.items c.self.invariant c.args.brand there.made c.args.value there _ _ c.undo_retire.ensures.unretired
    (ap (set c.self.inside.hand.items c.args.brand) (c.take_out.ensures.less ∙ ap (λ (z : Held). with_less z c.args.value.content) now))

pub returns-clause-made : goal.returns-clause-made
returns-clause-made c =
    let there = rw (← c.self.view_is) at c.requires in
    rw (← c.self.view_is) (made_too c.self.inside.out c.self.inside.hand.items c.self.invariant c.args.brand there.made)

pub returns-clause-less : goal.returns-clause-less
returns-clause-less c =
    let there = rw (← c.self.view_is) at c.requires in
    let now = read_now c.self.inside.hand.items c.args.brand c.args.brand c.index_mut.result.now (empty_hand Nat) (made_too c.self.inside.out c.self.inside.hand.items c.self.invariant c.args.brand there.made) refl c.index_mut.ensures.value in
    rw (← c.self.view_is)
    (go_view c.self.inside.out c.self.inside.hand.items c.self.invariant c.args.brand there.made c.args.value there _ _ c.undo_retire.ensures.unretired
    (ap (set c.self.inside.hand.items c.args.brand) (c.take_out.ensures.less ∙ ap (λ (z : Held). with_less z c.args.value.content) now)))
