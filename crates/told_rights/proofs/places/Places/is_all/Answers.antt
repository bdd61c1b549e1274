use Rattle.std.proofs.Common.{◌≡◌, ap, subst, sym, ◌∙◌}
use Rattle.std.specs.Option.{option_copied, unwrap_or}
use Rattle.std.specs.Prelude.{◌↔◌, IsTrue}
use Rattle.row_records.specs.Views.{value_view}
use Rattle.row_records.specs.amount_math.Content.{Content, nothing}
use Rattle.row_records.specs.fair_rows.Amounts.{IsPrinted}
use Rattle.row_records.specs.fair_rows.Values.{content_of}
use Rattle.row_records.specs.rights_model.Table.{holds}
use Rattle.told_rights.proofs.Shelving.{read_there}
use Rattle.told_rights.proofs.places.Places.is_all.Goals as goal

pub returns-in-Some-clause-content : goal.returns-in-Some-clause-content
returns-in-Some-clause-content c =
    let found : c.in-Some.contents.now ≡ holds c.args.self.now c.args.holder.now c.args.brand = ap (λ o. unwrap_or (option_copied o) nothing) (sym c.in-Some.is) ∙ ap (λ o. unwrap_or o nothing) c.get.ensures.value ∙ read_there c.self.inside.shelves.entries c.args.self.now c.args.holder.now c.args.brand c.in_ok-spot.spot c.self.view_is c.in_ok-spot.ensures in
    λ e form. subst (λ (x : Content). IsTrue c.is.result ↔ (x ≡ content_of (value_view c.args.value.now))) found (c.is.ensures.content e form)

pub returns-clause-content : goal.returns-clause-content
returns-clause-content c =
    let none : nothing ≡ holds c.args.self.now c.args.holder.now c.args.brand = ap (λ o. unwrap_or (option_copied o) nothing) (sym c.in-None.is) ∙ ap (λ o. unwrap_or o nothing) c.get.ensures.value ∙ read_there c.self.inside.shelves.entries c.args.self.now c.args.holder.now c.args.brand c.in_ok-spot.spot c.self.view_is c.in_ok-spot.ensures in
    λ e form. subst (λ (x : Content). IsTrue c.is-in-None-2.result ↔ (x ≡ content_of (value_view c.args.value.now))) (c.new.ensures ∙ none) (c.is-in-None-2.ensures.content e form)

pub returns-in-Some-clause-printed : goal.returns-in-Some-clause-printed
returns-in-Some-clause-printed c =
    let found : c.in-Some.contents.now ≡ holds c.args.self.now c.args.holder.now c.args.brand = ap (λ o. unwrap_or (option_copied o) nothing) (sym c.in-Some.is) ∙ ap (λ o. unwrap_or o nothing) c.get.ensures.value ∙ read_there c.self.inside.shelves.entries c.args.self.now c.args.holder.now c.args.brand c.in_ok-spot.spot c.self.view_is c.in_ok-spot.ensures in
    λ e form. subst (λ (x : Content). IsTrue c.is.result ↔ (IsPrinted x (value_view c.args.value.now))) found (c.is.ensures.printed e form)

pub returns-clause-printed : goal.returns-clause-printed
returns-clause-printed c =
    let none : nothing ≡ holds c.args.self.now c.args.holder.now c.args.brand = ap (λ o. unwrap_or (option_copied o) nothing) (sym c.in-None.is) ∙ ap (λ o. unwrap_or o nothing) c.get.ensures.value ∙ read_there c.self.inside.shelves.entries c.args.self.now c.args.holder.now c.args.brand c.in_ok-spot.spot c.self.view_is c.in_ok-spot.ensures in
    λ e form. subst (λ (x : Content). IsTrue c.is-in-None-2.result ↔ (IsPrinted x (value_view c.args.value.now))) (c.new.ensures ∙ none) (c.is-in-None-2.ensures.printed e form)
