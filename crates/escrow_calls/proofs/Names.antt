-- The test of keywords of two records, as both definitions make it.
use Rattle.std.specs.Prelude.{find, not}
use Rattle.std.specs.Cmp.Lexicographic.{slice_cmp}
use Rattle.std.specs.List.{list_any}
use Rattle.std.specs.Ordering.{is_le, is_lt, nat_cmp, ordering_reverse}
use Rattle.std.specs.declared.cmp.Ordering.{Ordering}
use Rattle.std.specs.declared.cmp.Ordering.TheVariants.{Less, Equal, Greater}
use Rattle.std.specs.Str.{bytes_eq}
use Rattle.std.proofs.Common.{◌≡◌, ℕ, Bool, true, false, ◌||◌, List, [], ◌∷◌, Option, Some, None, refl, sym, ap, ◌∙◌, if◌then◌else◌}
use Rattle.std.proofs.lemmas.Cmp.{nat_list_cmp_total}
use Rattle.std.proofs.lemmas.Slice.Eq.{bytes_eq-Decides}
use Rattle.rules.specs.call_arguments.Keywords as arguments
use Rattle.rules.specs.call_arguments.Records.{has_name}
use Rattle.rules.specs.Proposals.{first_alone, is_among, least_alone, lesser}

turned : (a b : List ℕ) → bytes_eq a b ≡ bytes_eq b a
turned a b = by (bytes_eq a b) (bytes_eq b a) refl refl
  where
    by : (x y : Bool) → bytes_eq a b ≡ x → bytes_eq b a ≡ y → x ≡ y
    by true true p q = refl
    by false false p q = refl
    by true false p q = sym ((bytes_eq-Decides b a).1 (sym ((bytes_eq-Decides a b).0 p))) ∙ q
    by false true p q = sym p ∙ (bytes_eq-Decides a b).1 (sym ((bytes_eq-Decides b a).0 q))

among_same : (k : List ℕ) (js : List (List ℕ)) → has_name k js ≡ is_among js k
unfolding has_name
among_same k [] = refl
among_same k (j ∷ js) = ap (λ b. b || list_any (λ q. bytes_eq q k) js) (turned j k) ∙ ap (λ b. bytes_eq k j || b) (among_same k js)

module _ (p q : List ℕ → Bool) (same : (k : List ℕ) → p k ≡ q k) where
  found_same : (ks : List (List ℕ)) → find p ks ≡ find q ks
  found_same [] = refl
  found_same (k ∷ ks) = ap (λ b. if b then Some k else find p ks) (same k) ∙ ap (λ o. if q k then Some k else o) (found_same ks)

alone_each : (ks js : List (List ℕ)) → arguments.first_alone ks js ≡ first_alone ks js
unfolding arguments.first_alone
alone_each ks js = found_same (λ k. not (has_name k js)) (λ k. not (is_among js k)) (λ k. ap not (among_same k js)) ks

lesser_same : (a b : Option (List ℕ)) → arguments.lesser a b ≡ lesser a b
lesser_same None b = refl
lesser_same (Some k) None = refl
lesser_same (Some k) (Some j) =
    ap (λ o. if is_lt o then Some j else Some k) (nat_list_cmp_total.antisymm j k) ∙ by (slice_cmp nat_cmp k j)
  where
    by : (o : Ordering) → (if is_lt (ordering_reverse o) then Some j else Some k) ≡ Some (if is_le o then k else j)
    by Less = refl
    by Equal = refl
    by Greater = refl

pub alone_same : (ks js : List (List ℕ)) → arguments.least_alone ks js ≡ least_alone ks js
unfolding least_alone
alone_same ks js = lesser_same (arguments.first_alone ks js) (arguments.first_alone js ks) ∙ ap (λ a. lesser a (arguments.first_alone js ks)) (alone_each ks js) ∙ ap (lesser (first_alone ks js)) (alone_each js ks)
