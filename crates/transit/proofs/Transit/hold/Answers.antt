use Rattle.std.proofs.Common.{◌∙◌, arith, set}
use Rattle.ertp_mint.specs.amount_math.Held.{with_more}
use Rattle.lemmas.proofs.ListEdits.{read_now}
use Rattle.transit.specs.Transit.{empty_hand}
use Rattle.ertp_mint.specs.amount_math.declared.Kind.TheVariants.{Nat}
use Rattle.transit.proofs.Calls.{goes_in_at, hold_keeps, hold_view, made, made_too, way_out}
use Rattle.transit.proofs.Transit.hold.Goals as goal

pub retire-value-requires-clause-made : goal.retire-value-requires-clause-made
retire-value-requires-clause-made c =
    let can = rw (← c.self.view_is) at c.requires in
    made c.self.inside.out c.self.inside.hand.items c.self.invariant c.args.parcel.brand can.way.made

pub retire-value-requires-clause-out : goal.retire-value-requires-clause-out
retire-value-requires-clause-out c =
    let can = rw (← c.self.view_is) at c.requires in
    way_out c.self.inside.out c.self.inside.hand.items c.self.invariant c.args.parcel.brand can.way.made c.args.parcel.value can.way

pub index_mut-requires : goal.index_mut-requires
index_mut-requires c =
    let can = rw (← c.self.view_is) at c.requires in
    omega (arith, made_too c.self.inside.out c.self.inside.hand.items c.self.invariant c.args.parcel.brand can.way.made, c.brand-brand.ensures)

pub put_back-requires : goal.put_back-requires
put_back-requires c =
    let can = rw (← c.self.view_is) at c.requires in
    goes_in_at c.self.inside.out c.self.inside.hand.items c.self.invariant c.args.parcel.brand can.way.made c.args.parcel.value can _ _
    (read_now c.self.inside.hand.items c.brand-brand.result c.args.parcel.brand c.index_mut.result.now (empty_hand Nat) (made_too c.self.inside.out c.self.inside.hand.items c.self.invariant c.args.parcel.brand can.way.made) c.brand-brand.ensures c.index_mut.ensures.value)
    c.retire-value.ensures.value

pub invariant_of-self : goal.invariant_of-self
invariant_of-self c =
    let can = rw (← c.self.view_is) at c.requires in
    let now = read_now c.self.inside.hand.items c.brand-brand.result c.args.parcel.brand c.index_mut.result.now (empty_hand Nat) (made_too c.self.inside.out c.self.inside.hand.items c.self.invariant c.args.parcel.brand can.way.made) c.brand-brand.ensures c.index_mut.ensures.value in
    hold_keeps c.self.inside.out c.self.inside.hand.items c.self.invariant c.args.parcel.brand can.way.made c.args.parcel.value can.way _ _ c.retire-value.ensures.retired
    (λ i. set c.self.inside.hand.items (c.brand-brand.ensures i) ((c.put_back.ensures.more ∙ (λ j. with_more (now j) (c.retire-value.ensures.value j).content)) i))

pub returns-clause-made : goal.returns-clause-made
returns-clause-made c =
    let can = rw (← c.self.view_is) at c.requires in
    rw (← c.self.view_is) (made_too c.self.inside.out c.self.inside.hand.items c.self.invariant c.args.parcel.brand can.way.made)

pub returns-clause-held : goal.returns-clause-held
returns-clause-held c =
    let can = rw (← c.self.view_is) at c.requires in
    let now = read_now c.self.inside.hand.items c.brand-brand.result c.args.parcel.brand c.index_mut.result.now (empty_hand Nat) (made_too c.self.inside.out c.self.inside.hand.items c.self.invariant c.args.parcel.brand can.way.made) c.brand-brand.ensures c.index_mut.ensures.value in
    rw (← c.self.view_is)
    (hold_view c.self.inside.out c.self.inside.hand.items c.self.invariant c.args.parcel.brand can.way.made c.args.parcel.value can.way _ _ c.retire-value.ensures.retired
    (λ i. set c.self.inside.hand.items (c.brand-brand.ensures i) ((c.put_back.ensures.more ∙ (λ j. with_more (now j) (c.retire-value.ensures.value j).content)) i)))
