-- When two values are one, by their entries.
use Rattle.std.proofs.Common.{◌≡◌, ℕ, Bool, true, false, eqb, ◌&&◌, List, [], ◌∷◌, refl, sym, ◌∙◌, ap, subst}
use Rattle.std.specs.Str.{bytes_eq}
use Rattle.std.proofs.lemmas.Bool.{eqb-true, eq-eqb}
use Rattle.std.proofs.lemmas.Slice.Eq.{bytes_eq-Decides}
use Rattle.refusals.specs.amount_math.Content.{Content, entries, of_entries, of_entries-entries}
use Rattle.refusals.specs.amount_math.ValueView.{ValueView}
use Rattle.call_arguments.specs.Amounts.{is_same, same_entries}

both_true : (a b : Bool) → (a && b) ≡ true → (a ≡ true) × (b ≡ true)
both_true true b is = (refl, is)
both_true false b is = absurd (cc)

entries_same : (es fs : List (List ℕ × ℕ)) → same_entries es fs ≡ true → es ≡ fs
entries_same [] [] is = refl
entries_same [] (f ∷ fs) is = absurd (cc)
entries_same (e ∷ es) [] is = absurd (cc)
entries_same (e ∷ es) (f ∷ fs) is =
    let first = both_true (bytes_eq e.0 f.0 && eqb e.1 f.1) (same_entries es fs) is in
    let here = both_true (bytes_eq e.0 f.0) (eqb e.1 f.1) first.0 in
    λ i. ((bytes_eq-Decides e.0 f.0).0 here.0 i, eqb-true e.1 f.1 here.1 i) ∷ entries_same es fs first.1 i

content_same : (a b : Content) → same_entries (entries a) (entries b) ≡ true → a ≡ b
content_same a b is = sym (of_entries-entries a) ∙ ap of_entries (entries_same (entries a) (entries b) is) ∙ of_entries-entries b

both_hold : (a b : Bool) → a ≡ true → b ≡ true → (a && b) ≡ true
both_hold true true is too = refl
both_hold false b is too = absurd (cc)
both_hold true false is too = absurd (cc)

entries_own : (es : List (List ℕ × ℕ)) → same_entries es es ≡ true
entries_own [] = refl
entries_own (e ∷ es) = both_hold (bytes_eq e.0 e.0 && eqb e.1 e.1) (same_entries es es) (both_hold (bytes_eq e.0 e.0) (eqb e.1 e.1) ((bytes_eq-Decides e.0 e.0).1 refl) (eq-eqb e.1 e.1 refl)) (entries_own es)

pub same_is : (a b : ValueView) → a.kind ≡ b.kind → is_same a b ≡ true → a ≡ b
unfolding is_same
same_is a b kind is =
    let content = content_same a.content b.content is in
    λ i. record { kind = kind i; content = content i }

pub same_itself : (a b : ValueView) → a ≡ b → is_same a b ≡ true
unfolding is_same
same_itself a b is = subst (λ (w : ValueView). same_entries (entries a.content) (entries w.content) ≡ true) is (entries_own (entries a.content))

pub decided : (b t : Bool) → (b ≡ true → t ≡ true) → (t ≡ true → b ≡ true) → b ≡ t
decided true t there back = sym (there refl)
decided false true there back = back refl
decided false false there back = refl
