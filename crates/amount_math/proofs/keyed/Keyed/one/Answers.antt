use Rattle.std.proofs.Common.{[], ◌∷◌, ◌++◌, ◌∙◌, ap}
use Rattle.amount_math.specs.Content.{of_entries, of_entries-one}
use Rattle.amount_math.specs.Entries.{Entries}
use Rattle.amount_math.proofs.keyed.Keyed.one.Goals as goal

pub returns-in-Ok-clause-ok : goal.returns-in-Ok-clause-ok
returns-in-Ok-clause-ok c =
    ap of_entries c.in-Ok.ensures.items
    ∙ ap (λ (es : Entries). of_entries (es ++ c.new.result ∷ [])) c.new-entries.ensures.items
    ∙ ap (λ e. of_entries (e ∷ [])) c.new.ensures
    ∙ of_entries-one c.args.key
