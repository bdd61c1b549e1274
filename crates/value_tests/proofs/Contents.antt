-- The tests of contents beside what they stand for.
use Rattle.std.proofs.Common.{◌≡◌, ℕ, List, [], ◌∷◌, Bool, true, false, map, refl, sym, ap, ◌∙◌, arith}
use Rattle.std.proofs.lemmas.Bool.{false≢true}
use Rattle.refusals.specs.amount_math.Content.{Content, Contains, count, count_listed, count-difference, count-nothing, difference, entries, listed, nothing, same_content}
use Rattle.refusals.specs.amount_math.Entries.{Entries}
use Rattle.refusals.specs.amount_math.ValueView.{ValueView}
use Rattle.refusals.proofs.amount_math.Listed.{no_entries}
use Rattle.value_tests.specs.Tests.{are_none, has, is_nothing}

none_listed : (es : Entries) → are_none (map (λ e. e.0) es) ≡ true → (k : List ℕ) → listed es k ≡ 0
none_listed [] h k = refl
none_listed (e ∷ es) h k = absurd (false≢true h)

pub nothing_is : is_nothing nothing ≡ true
nothing_is = ap (λ (es : Entries). are_none (map (λ e. e.0) es)) no_entries

pub is_nothing-true : (c : Content) → is_nothing c ≡ true → c ≡ nothing
is_nothing-true c h = same_content c nothing (λ k. count_listed c k ∙ none_listed (entries c) h k ∙ sym (count-nothing k))

pub true-is_nothing : (c : Content) → c ≡ nothing → is_nothing c ≡ true
true-is_nothing c e = ap is_nothing e ∙ nothing_is

pub has-true : (a b : ValueView) → has a b ≡ true → Contains a.content b.content
unfolding has
has-true a b h = record { each = λ k. omega (arith, count-difference b.content a.content k, ap (λ c. count c k) (is_nothing-true (difference b.content a.content) h), count-nothing k) }

pub true-has : (a b : ValueView) → Contains a.content b.content → has a b ≡ true
unfolding has
true-has a b h = true-is_nothing (difference b.content a.content) (same_content _ _ (λ k. omega (arith, count-difference b.content a.content k, h.each k, count-nothing k)))

-- a test that is true where the other is
pub same_test : (a b : Bool) → (a ≡ true → b ≡ true) → (b ≡ true → a ≡ true) → a ≡ b
same_test true true p q = refl
same_test true false p q = absurd (false≢true (p refl))
same_test false true p q = absurd (false≢true (q refl))
same_test false false p q = refl
