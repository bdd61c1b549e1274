use Rattle.std.proofs.Common.{◌≡◌, ◌+◌, ◌-◌, Some, None, ap, ◌∙◌, take, drop, length, arith}
use Rattle.jessie_index.specs.Places.{names_of, place}
use Rattle.jessie_index.proofs.Indexed.{inner, outer, within_list, behind}
use Rattle.jessie_index.proofs.locals.Locals.place.Goals as goal

pub returns-in-Some-clause-place : goal.returns-in-Some-clause-place
returns-in-Some-clause-place g c =
    let x = c.args.name.now in
    let bs = c.self.inside.bindings.items in
    let n = c.len-known.result in
    let at : Some c.in-Some.i ≡ place x (names_of (drop n bs)) =
    c.in-Some.ensures ∙ (ap (λ d. place x (names_of (take (length d - n) (drop n d)))) c.deref.ensures.value ∙ ap (λ d. place x (names_of d)) (behind n bs)) in
    inner x bs c.self.inside.index n c.in-Some.i c.self.invariant c.len-known.ensures at ∙ ap (λ bs. place x (names_of bs)) c.self.view_is

pub returns-in-Some-clause-within : goal.returns-in-Some-clause-within
returns-in-Some-clause-within g c = within_list c.args.name.now c.args.self.now (Some (c.len-known.result + c.in-Some.i)) (returns-in-Some-clause-place g c)

pub overflow_add-result : goal.overflow_add-result
overflow_add-result g c = omega (arith, returns-in-Some-clause-within g c, ap length c.self.view_is, ap length c.deref.ensures.value, c.deref.type_inv.0)

pub returns-in-None-clause-place : goal.returns-in-None-clause-place
returns-in-None-clause-place g c =
    let x = c.args.name.now in
    let bs = c.self.inside.bindings.items in
    let n = c.len-known.result in
    let at : None ≡ place x (names_of (drop n bs)) =
    c.in-None.ensures ∙ (ap (λ d. place x (names_of (take (length d - n) (drop n d)))) c.deref.ensures.value ∙ ap (λ d. place x (names_of d)) (behind n bs)) in
    c.place.ensures ∙ (outer x bs c.self.inside.index n c.self.invariant c.len-known.ensures at ∙ ap (λ bs. place x (names_of bs)) c.self.view_is)

pub returns-in-None-clause-within : goal.returns-in-None-clause-within
returns-in-None-clause-within g c = within_list c.args.name.now c.args.self.now c.place.result (returns-in-None-clause-place g c)
