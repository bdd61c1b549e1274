use Rattle.std.proofs.Common.{Some, length, refl, sym, ap, ◌∙◌, subst}
use Rattle.host_data.specs.View.{tree}
use Rattle.jessie_values.specs.Named.{IsFirstNamed, Named, NotBefore}
use Rattle.jessie_values.specs.Outcomes.{there}
use Rattle.jessie_values.proofs.NamedFields.{Entry, get_first, get_none}
use Rattle.jessie_values.proofs.accesses.take_field.Goals as goal

pub returns-in-Some : goal.returns-in-Some
returns-in-Some c =
    let h = subst (λ (fs : Named). IsFirstNamed c.args.name.now fs c.in-Some.place) c.as_slice.ensures.value c.in-Some.ensures.found in
    let s = c.swap_remove.ensures in
    sym (ap there (get_first _ _ _ h c.swap_remove.result ∙ ap (λ (e : Entry). Some (tree e.1)) (sym s.value)))

pub returns : goal.returns
returns c =
    let h = subst (λ (fs : Named). NotBefore c.args.name.now fs (length fs)) c.as_slice.ensures.value (c.in-None.ensures.none refl) in
    sym (ap there (get_none c.args.name.now c.args.fields.items h))
