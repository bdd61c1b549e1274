use Rattle.std.proofs.Common.{◌≡◌, ◌∙◌, ap, sym}
use Rattle.amount_math.specs.Content.{Content, nothing, difference, nothing-difference, of_entries-nil}
use Rattle.amount_math.specs.Held.{Roomed}
use Rattle.amount_math.proofs.keyed.Keyed.lessen.Goals as goal

pub returns-in_default : goal.returns-in_default
returns-in_default c =
    let empty : c.args.self.now.content ≡ nothing = ap (λ (x : Roomed). x.content) (sym (rw c.in_default.is at c.self.view_is)) ∙ of_entries-nil in
    let left = sym (ap (λ a. difference a c.args.part.now.content) empty ∙ nothing-difference c.args.part.now.content) in
    c.self.view_is ∙ ap (λ (x : Content). record { content = x; room = c.args.self.now.room }) (empty ∙ left)
