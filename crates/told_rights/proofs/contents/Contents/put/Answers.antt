use Rattle.std.proofs.Common.{◌≡◌, ◌≢◌, ℕ, List, Option, None, Some, ap, sym, refl, ◌∙◌, string_bytes}
use Rattle.row_records.specs.amount_math.Content.{Content, counts}
use Rattle.row_records.specs.amount_math.Sparse.{put}
use Rattle.told_rights.proofs.Kept.{after_change, held_in, some_after}
use Rattle.told_rights.proofs.contents.Contents.put.Goals as goal

none : ◌≡◌ {A = Option ℕ} None (Some 0) → ⊥
none e = cc

other : (n : ℕ) → n ≢ 0 → ◌≡◌ {A = Option ℕ} (Some n) (Some 0) → ⊥
other n apart e = apart (same e)
  where
    same : ◌≡◌ {A = Option ℕ} (Some n) (Some 0) → n ≡ 0
    same h = cc

pub invariant_of-self : goal.invariant_of-self
invariant_of-self c = some_after c.self.inside.counts c.remove.new.self c.args.element.now None c.remove.ensures.updates c.self.invariant none

pub returns-then-number-eq0 : goal.returns-then-number-eq0
returns-then-number-eq0 c = after_change c.self.inside.counts c.remove.new.self c.args.element.now None c.remove.ensures.updates c.args.number (sym c.if-number-eq0.true) ∙ ap (λ (t : Content). put counts t c.args.element.now c.args.number) c.self.view_is

pub invariant_of-self-2 : goal.invariant_of-self-2
invariant_of-self-2 c = some_after c.self.inside.counts c.insert.new.self (string_bytes c.in_ok-text.text) (Some c.args.number) c.in-Ok.ensures.updates c.self.invariant (other c.args.number c.if-number-eq0.false)

pub returns : goal.returns
returns c =
    after_change c.self.inside.counts c.insert.new.self (string_bytes c.in_ok-text.text) (Some c.args.number) c.in-Ok.ensures.updates c.args.number refl
    ∙ ap (λ (b : List ℕ). put counts (held_in c.self.inside.counts.entries) b c.args.number) c.in_ok-text.ensures.ok
    ∙ ap (λ (t : Content). put counts t c.args.element.now c.args.number) c.self.view_is
