use Rattle.std.proofs.Common.{◌≡◌, length, ap, sym, ◌∙◌, arith}
use Rattle.std.proofs.lemmas.Bool.Decides.{nat_tests}
use Rattle.amount_math.specs.Content.{Content, entries, of_entries, of_entries-nil}
use Rattle.amount_math.specs.Entries.{Entries}
use Rattle.amount_math.proofs.Listed.{no_entries}
use Rattle.amount_math.proofs.Poured.{emptied}
use Rattle.amount_math.proofs.keyed.Keyed.is_empty.Goals as goal

pub returns : goal.returns
returns c =
    let list = c.entries.result.now in (
      λ is. let none : length list ≡ 0 = grind (arith, nat_tests) in sym c.entries.ensures.content ∙ ap of_entries (emptied list none) ∙ of_entries-nil,
      λ e. let none : length list ≡ 0 = ap (λ (es : Entries). length es) (c.entries.ensures.list ∙ ap (λ (x : Content). entries x) e ∙ no_entries) in grind (arith, nat_tests, none),
    )
