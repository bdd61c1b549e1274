use Rattle.std.proofs.Common.{◌≡◌, ◌<◌, ◌≤◌, ◌+◌, true, false, List, [], ◌∷◌, ◌++◌, length, take, rules, refl, sym, ◌∙◌, ap, subst, arith}
use Rattle.std.proofs.lemmas.Bool.{true≢false}
use Rattle.std.proofs.lemmas.List.{take_all}
use Rattle.row_records.specs.Views.{value_view}
use Rattle.row_records.specs.fair_rows.Values.{HaveKinds, Named}
use Rattle.told_rights.specs.Rights.{TellsKinds}
use Rattle.told_rights.proofs.Seen.{amount_form, kinds_of_front, length_named, named_more, named_of}
use Rattle.told_rights.proofs.KindsTold.{have_kinds, more_kinds, suits}
use Rattle.told_rights.proofs.rights.see.Goals as goal

pub add-requires : goal.add-requires
add-requires c =
    let lt : c.loop-amount.amount-index < length c.args.amounts.now = omega arith in
    record { form = (c.requires.form.0, (amount_form c.args.amounts.now c.loop-amount.amount-index c.amount-item.result lt c.amount-item.is c.requires.form.0 c.requires.form.1).value) }

pub returns-then-not-branch-clause-fits : goal.returns-then-not-branch-clause-fits
returns-then-not-branch-clause-fits c = λ before t. (
  λ f. absurd (true≢false (sym f)),
  λ have.
      let xs = c.args.amounts.now in
      let i = c.loop-amount.amount-index in
      let x = c.amount-item.result in
      let lt : i < length xs = omega arith in
      let no : c.in_ok-add.field-0 ≡ false = search rules in
      let front = subst HaveKinds (named_more xs i x lt c.amount-item.is before) (kinds_of_front before (named_of xs) (i + 1) have) in
      let suit = suits c.loop-amount.kinds (before ++ take i (named_of xs)) x.brand (value_view x.value) (c.loop-amount.invariant before t) front in
      absurd (true≢false (sym (c.in_ok-add.ensures.fits.1 suit) ∙ no)),
)

pub loop-amount-preserved : goal.loop-amount-preserved
loop-amount-preserved c = λ before t.
    let xs = c.args.amounts.now in
    let i = c.loop-amount.amount-index in
    let x = c.amount-item.result in
    let lt : i < length xs = omega arith in
    let yes : c.in_ok-add.field-0 ≡ true = search rules in
    subst (λ ys. TellsKinds c.add.new.self ys) (sym (named_more xs i x lt c.amount-item.is before))
    (more_kinds c.loop-amount.kinds (before ++ take i (named_of xs)) x.brand (value_view x.value) (c.loop-amount.invariant before t) c.add.new.self (c.in_ok-add.ensures.ok yes))

pub returns-clause-fits : goal.returns-clause-fits
returns-clause-fits c = λ before t.
    let xs = c.args.amounts.now in
    let all : length (named_of xs) ≤ c.loop-amount.amount-index = omega (arith, length_named xs) in
    let told = subst (λ ys. TellsKinds c.loop-amount.kinds (before ++ ys)) (take_all c.loop-amount.amount-index (named_of xs) all) (c.loop-amount.invariant before t) in
    (λ x. have_kinds c.loop-amount.kinds (before ++ named_of xs) told, λ h. refl)

pub returns-clause-told : goal.returns-clause-told
returns-clause-told c = λ x before t.
    let xs = c.args.amounts.now in
    let all : length (named_of xs) ≤ c.loop-amount.amount-index = omega (arith, length_named xs) in
    subst (λ ys. TellsKinds c.loop-amount.kinds (before ++ ys)) (take_all c.loop-amount.amount-index (named_of xs) all) (c.loop-amount.invariant before t)
