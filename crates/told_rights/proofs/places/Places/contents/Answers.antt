use Rattle.std.proofs.Common.{◌≡◌, ap, subst, sym, ◌∙◌}
use Rattle.std.specs.Option.{option_copied, unwrap_or}
use Rattle.std.specs.Prelude.{IfOk}
use Rattle.row_records.specs.amount_math.Content.{Content, nothing}
use Rattle.row_records.specs.rights_model.Table.{holds}
use Rattle.told_rights.proofs.Shelving.{read_there}
use Rattle.told_rights.proofs.places.Places.contents.Goals as goal

pub returns-in-Some : goal.returns-in-Some
returns-in-Some c =
    let found : c.in-Some.contents.now ≡ holds c.args.self.now c.args.holder.now c.args.brand = ap (λ o. unwrap_or (option_copied o) nothing) (sym c.in-Some.is) ∙ ap (λ o. unwrap_or o nothing) c.get.ensures.value ∙ read_there c.self.inside.shelves.entries c.args.self.now c.args.holder.now c.args.brand c.in_ok-spot.spot c.self.view_is c.in_ok-spot.ensures in
    subst (λ (x : Content). IfOk c.copy.result (λ copy. copy ≡ x)) found c.copy.ensures

pub returns : goal.returns
returns c =
    let none : nothing ≡ holds c.args.self.now c.args.holder.now c.args.brand = ap (λ o. unwrap_or (option_copied o) nothing) (sym c.in-None.is) ∙ ap (λ o. unwrap_or o nothing) c.get.ensures.value ∙ read_there c.self.inside.shelves.entries c.args.self.now c.args.holder.now c.args.brand c.in_ok-spot.spot c.self.view_is c.in_ok-spot.ensures in
    c.new.ensures ∙ none
