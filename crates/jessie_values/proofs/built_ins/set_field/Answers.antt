use Rattle.std.proofs.Common.{[], length, refl, sym, ap, ◌∙◌, subst}
use Rattle.host_data.specs.Tree.{fields}
use Rattle.host_data.specs.View.{fields_of, named_trees}
use Rattle.host_data.proofs.Views.{tree-Record}
use Rattle.jessie_values.specs.Named.{IsFirstNamed, Named, NotBefore}
use Rattle.jessie_values.specs.Records.{made}
use Rattle.jessie_values.proofs.NamedFields.{Entry, changed_first, get_first, get_none}
use Rattle.jessie_values.proofs.built_ins.set_field.Goals as goal

pub returns-in-Some : goal.returns-in-Some
returns-in-Some c =
    let h = subst (λ (fs : Named). IsFirstNamed c.args.name.now fs c.in-Some.place) c.as_slice.ensures.value c.in-Some.ensures.found in
    let d : Entry = ([], c.args.value) in
    rw (get_first c.args.name.now c.args.fields.items c.in-Some.place h d) (
    c.within_depth.ensures
    ∙ ap made (tree-Record _ ∙ ap (λ (fs : Named). fields (fields_of (named_trees fs))) (c.set_second.ensures d) ∙ ap fields (sym (changed_first c.args.name.now c.args.value c.args.fields.items c.in-Some.place h d))))

pub returns-in-None : goal.returns-in-None
returns-in-None c =
    let h = subst (λ (fs : Named). NotBefore c.args.name.now fs (length fs)) c.as_slice.ensures.value (c.in-None.ensures.none refl) in
    rw (get_none c.args.name.now c.args.fields.items h) refl
