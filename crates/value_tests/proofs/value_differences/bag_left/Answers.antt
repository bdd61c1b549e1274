use Rattle.refusals.specs.amount_math.KindData.{signed}
use Rattle.std.proofs.Common.{◌≡◌, ℕ, ℤ, List, map, sym, ap, subst, ◌∙◌}
use Rattle.refusals.specs.amount_math.Content.{Content, difference, entries}
use Rattle.refusals.specs.amount_math.Entries.{Entries}
use Rattle.refusals.specs.amount_math.ValueView.{IsValue, ValueView}
use Rattle.refusals.specs.amount_math.declared.Kind.{Kind}
use Rattle.refusals.specs.amount_math.declared.kinds.MakeFault.{MakeFault}
use Rattle.refusals.specs.amount_math.declared.kinds.MakeFault.TheVariants.{BadValue, NoMemory}
use Rattle.value_tests.specs.Left.{left_of}
use Rattle.value_tests.proofs.Differences.{made_bag, makes_bag}
use Rattle.value_tests.proofs.value_differences.bag_left.Goals as goal

abbrev pairs_of : Entries → List (List ℕ × ℤ)
pairs_of es = map signed es

abbrev of_kind : Content → Kind → ValueView
of_kind content kind = record { kind = kind; content = content }

other_fault : ◌≡◌ {A = MakeFault} BadValue NoMemory → ⊥
other_fault e = absurd (cc)

pub unreachable-requires : goal.unreachable-requires
unreachable-requires c =
    let a = c.args.value.now.content in
    let b = c.args.less.now.content in
    let value = subst (λ (k : Kind). IsValue k a) c.requires.value c.kind-kind.ensures.value in
    let are = c.in_ok-pairs.ensures
    ∙ ap (λ (es : Entries). pairs_of (left_of es c.entries_of.result.now)) c.entries_of-2.ensures.list
    ∙ ap (λ (es : Entries). pairs_of (left_of (entries b) es)) c.entries_of.ensures.list in
    makes_bag a b value c.in_ok-pairs.pairs.items are (c.in-Err-BadValue.ensures.bad_value (λ e. other_fault (sym c.in-Err-BadValue.field-0-is ∙ e)))

pub returns-in-Ok : goal.returns-in-Ok
returns-in-Ok c =
    let a = c.args.value.now.content in
    let b = c.args.less.now.content in
    let value = subst (λ (k : Kind). IsValue k a) c.requires.value c.kind-kind.ensures.value in
    let are = c.in_ok-pairs.ensures
    ∙ ap (λ (es : Entries). pairs_of (left_of es c.entries_of.result.now)) c.entries_of-2.ensures.list
    ∙ ap (λ (es : Entries). pairs_of (left_of (entries b) es)) c.entries_of.ensures.list in
    made_bag a b value c.in_ok-pairs.pairs.items are c.in-Ok.left c.in-Ok.ensures.ok.0 c.in-Ok.ensures.ok.1 c.in-Ok.ensures.value
    ∙ ap (of_kind (difference a b)) (sym c.requires.value)
