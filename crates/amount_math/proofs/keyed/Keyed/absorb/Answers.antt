use Rattle.std.proofs.Common.{◌≡◌, [], ◌∙◌, ap, sym}
use Rattle.std.proofs.lemmas.Result.{on_ok_weaker}
use Rattle.amount_math.specs.Content.{nothing, sum, nothing-sum, sum-nothing, of_entries, of_entries-nil}
use Rattle.amount_math.specs.Held.{Roomed}
use Rattle.amount_math.proofs.keyed.Keyed.absorb.Goals as goal

pub returns-in_default-clause-ok : goal.returns-in_default-clause-ok
returns-in_default-clause-ok c =
    let empty : c.args.self.now.content ≡ nothing = ap (λ (x : Roomed). x.content) (sym (rw c.in_default.is at c.self.view_is)) ∙ of_entries-nil in
    ap (λ (x : Roomed). x.content) c.swap.ensures.x_after ∙ sym (ap (λ a. sum a c.args.other.now.content) empty ∙ nothing-sum c.args.other.now.content)

pub returns-in_default-clause-taken : goal.returns-in_default-clause-taken
returns-in_default-clause-taken c = ap (λ (x : Roomed). x.content) c.swap.ensures.y_after ∙ rw c.in_default.is of_entries-nil

pub returns-in_default-entries-clause-ok : goal.returns-in_default-entries-clause-ok
returns-in_default-entries-clause-ok c =
    let empty : c.args.other.now.content ≡ nothing = ap (λ (x : Roomed). x.content) (sym (rw c.in_default-entries.is at c.other.view_is)) ∙ of_entries-nil in
    ap (λ (x : Roomed). x.content) (rw c.in-Some.is at c.self.view_is) ∙ sym (ap (sum c.args.self.now.content) empty ∙ sum-nothing c.args.self.now.content)

pub returns-in_default-entries-clause-taken : goal.returns-in_default-entries-clause-taken
returns-in_default-entries-clause-taken c = rw c.in_default-entries.is of_entries-nil

pub returns-clause-taken : goal.returns-clause-taken
returns-clause-taken c = on_ok_weaker _ (λ (gone : c.merge.new.more.items ≡ []). ap of_entries gone ∙ of_entries-nil) c.merge.ensures.taken
