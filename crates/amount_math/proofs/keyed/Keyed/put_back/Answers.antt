use Rattle.std.proofs.Common.{◌≡◌, ◌∙◌, ap, sym, arith}
use Rattle.amount_math.specs.Content.{Content, nothing, of_entries-nil, sum, sum-nothing}
use Rattle.amount_math.specs.Held.{Roomed}
use Rattle.amount_math.proofs.Places.{no_keys}
use Rattle.amount_math.proofs.keyed.Keyed.put_back.Goals as goal

pub returns-in_default : goal.returns-in_default
returns-in_default c =
    let empty : c.args.other.content ≡ nothing = ap (λ (x : Roomed). x.content) (sym (rw c.in_default.is at c.other.view_is)) ∙ of_entries-nil in
    ap (λ (x : Content). record { content = x; room = c.args.self.now.room }) (sym (ap (sum c.args.self.now.content) empty ∙ sum-nothing c.args.self.now.content))

pub returns-in_default-entries : goal.returns-in_default-entries
returns-in_default-entries c =
    let seen = rw c.in_default-entries.is at c.self.view_is in
    let whole : sum c.args.self.now.content c.args.other.content ≡ nothing = no_keys _ (omega (arith, c.requires.room, ap (λ (x : Roomed). x.room) seen)) in
    let empty : c.args.self.now.content ≡ nothing = ap (λ (x : Roomed). x.content) (sym seen) ∙ of_entries-nil in
    c.self.view_is ∙ ap (λ (x : Content). record { content = x; room = c.args.self.now.room }) (empty ∙ sym whole)
