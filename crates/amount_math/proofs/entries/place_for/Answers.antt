use Rattle.std.proofs.Common.{rules}
use Rattle.std.proofs.lemmas.Fn.{always_returns_same}
use Rattle.amount_math.specs.Content.{key_cmp}
use Rattle.amount_math.proofs.Searched.{absent_if, if_found, if_missed, searched}
use Rattle.amount_math.proofs.entries.place_for.Goals as goal

pub returns-clause-found : goal.returns-clause-found
returns-clause-found c =
    let by_key = c.binary_search_by.ensures.position (λ e. key_cmp e.0 c.args.key.now) (always_returns_same _ _ _ (λ a r g called. (search rules, search rules))) in
    if_found c.binary_search_by.result _ _ (searched _ c.requires c.args.key.now _ c.binary_search_by.ensures.bound by_key)

pub returns-clause-gap : goal.returns-clause-gap
returns-clause-gap c =
    let by_key = c.binary_search_by.ensures.position (λ e. key_cmp e.0 c.args.key.now) (always_returns_same _ _ _ (λ a r g called. (search rules, search rules))) in
    if_missed c.binary_search_by.result _ _ (searched _ c.requires c.args.key.now _ c.binary_search_by.ensures.bound by_key)

pub returns-clause-absent : goal.returns-clause-absent
returns-clause-absent c =
    let by_key = c.binary_search_by.ensures.position (λ e. key_cmp e.0 c.args.key.now) (always_returns_same _ _ _ (λ a r g called. (search rules, search rules))) in
    absent_if _ c.requires c.args.key.now c.binary_search_by.result (if_missed c.binary_search_by.result _ _ (searched _ c.requires c.args.key.now _ c.binary_search_by.ensures.bound by_key))
