use Rattle.std.proofs.Common.{◌++◌, ◌∷◌, [], sym, ap, subst, ◌∙◌, take}
use Rattle.jessie_index.specs.Places.{IsFront, names_of}
use Rattle.jessie_index.proofs.Indexed.{front_here, front_more}
use Rattle.jessie_index.proofs.locals.index_rest.Goals as goal

pub loop-i-init : goal.loop-i-init
loop-i-init g c = c.requires ∙ ap (λ n. take n (names_of c.args.bindings.now)) (sym c.len-i.ensures)

pub returns-in_err-push : goal.returns-in_err-push
returns-in_err-push g c =
    let names = names_of c.args.bindings.now in
    subst (λ f. IsFront f names) (sym c.in_err-push.ensures.err) (front_here names c.loop-i.index c.loop-i.i c.loop-i.invariant)

pub loop-i-preserved : goal.loop-i-preserved
loop-i-preserved g c =
    let item = c.index-bindings-i in
    c.in_ok-push.ensures.ok ∙ (ap (λ b. c.loop-i.index ++ b.0 ∷ []) (sym item.is) ∙ front_more c.args.bindings.now c.loop-i.index c.loop-i.i item.result c.loop-i.invariant c.loop-i-test.true item.is)

pub returns : goal.returns
returns g c = front_here (names_of c.args.bindings.now) c.loop-i.index c.loop-i.i c.loop-i.invariant
