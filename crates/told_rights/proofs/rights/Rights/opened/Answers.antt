use Rattle.std.proofs.Common.{◌≡◌, true, false, ◌++◌, map, rules, refl, sym, ◌∙◌, subst}
use Rattle.std.proofs.lemmas.Bool.{true≢false}
use Rattle.row_records.specs.Views.{amount_view, open_view}
use Rattle.row_records.specs.fair_rows.Values.{HaveKinds}
use Rattle.told_rights.specs.Rights.{named_amounts}
use Rattle.told_rights.proofs.KindsTold.{kinds_before}
use Rattle.told_rights.proofs.Told.{amounts_opened, opened_told}
use Rattle.told_rights.proofs.rights.Rights.opened.Goals as goal

pub returns-then-not-given-clause-fits : goal.returns-then-not-given-clause-fits
returns-then-not-given-clause-fits c = λ i t. (
  λ f. absurd (true≢false (sym f)),
  λ have.
      let no : c.in_ok-given.given ≡ false = search rules in
      let row = c.args.row.now in
      let fits = rw c.deref.ensures.value at c.in_ok-given.ensures.fits in
      let both = subst HaveKinds (sym (amounts_opened i.now (open_view row))) have in
      let front = kinds_before (i.now.amounts ++ named_amounts (map amount_view row.give.items)) (named_amounts (map amount_view row.want.items)) both in
      absurd (true≢false (sym ((fits i.now.amounts t.kinds).1 front) ∙ no)),
)

pub returns-clause-fits : goal.returns-clause-fits
returns-clause-fits c = λ i t.
    let yes : c.in_ok-given.given ≡ true = search rules in
    let row = c.args.row.now in
    let told = rw c.deref.ensures.value at c.in_ok-given.ensures.told in
    let fits = rw c.deref-2.ensures.value at c.in_ok-wanted.ensures.fits in
    let first = told yes i.now.amounts t.kinds in
    let is = fits (i.now.amounts ++ named_amounts (map amount_view row.give.items)) first in
    (λ w. subst HaveKinds (amounts_opened i.now (open_view row)) (is.0 w), λ h. is.1 (subst HaveKinds (sym (amounts_opened i.now (open_view row))) h))

pub returns-clause-told : goal.returns-clause-told
returns-clause-told c = λ w i t.
    let yes : c.in_ok-given.given ≡ true = search rules in
    let row = c.args.row.now in
    let told = rw c.deref.ensures.value at c.in_ok-given.ensures.told in
    let more = rw c.deref-2.ensures.value at c.in_ok-wanted.ensures.told in
    let first = told yes i.now.amounts t.kinds in
    opened_told c.args.self.now _ i (open_view row) (record { edition = refl; places = refl; supplies = refl; sums = refl; payments = refl }) t
    (more w (i.now.amounts ++ named_amounts (map amount_view row.give.items)) first)
