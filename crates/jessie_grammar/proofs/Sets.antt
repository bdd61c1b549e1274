-- Sets of kinds. Whether one is in another, or apart from it, is computed.
use Rattle.std.proofs.Common.{◌≡◌, ◌==◌, Bool, true, false, not, ◌||◌, ◌&&◌, List, [], ◌∷◌, ◌++◌, refl, sym, ◌∙◌}
use Rattle.std.proofs.lemmas.Bool.{eqb-true, eq-eqb}
use Rattle.jessie_grammar.specs.declared.jessie_lexer.token.Kind.{Kind}
use Rattle.jessie_grammar.specs.Tokens.{has, number_of}

abbrev pub within : List Kind → List Kind → Bool
within [] t = true
within (j ∷ js) t = has t j && within js t

abbrev pub apart : List Kind → List Kind → Bool
apart [] t = true
apart (j ∷ js) t = not (has t j) && apart js t

-- there is one in it
abbrev pub filled : List Kind → Bool
filled [] = false
filled (j ∷ js) = true

pub both : (a b : Bool) → (a && b) ≡ true → (a ≡ true) × (b ≡ true)
both true b e = (refl, e)
both false b e = (e, absurd (cc))

pub or_left : (x y : Bool) → x ≡ true → (x || y) ≡ true
or_left true y e = refl
or_left false y e = absurd (cc)

pub or_right : (x y : Bool) → y ≡ true → (x || y) ≡ true
or_right true y e = refl
or_right false y e = e

has_same : (t : List Kind) (j k : Kind) → number_of j ≡ number_of k → has t j ≡ has t k
has_same [] j k e = refl
has_same (i ∷ t) j k e = rw (e, has_same t j k e) refl

has_split : (b c : Bool) → (b || c) ≡ true → (x : Bool) → (b ≡ true → x ≡ true) → (c ≡ true → x ≡ true) → x ≡ true
has_split true c e x f g = f refl
has_split false c e x f g = g e

pub within_has : (s t : List Kind) (k : Kind) → within s t ≡ true → has s k ≡ true → has t k ≡ true
within_has [] t k w h = absurd (cc)
within_has (j ∷ js) t k w h =
    has_split (number_of j == number_of k) (has js k) h (has t k)
    (λ e. sym (has_same t j k (eqb-true _ _ e)) ∙ (both _ _ w).0)
    (λ e. within_has js t k (both _ _ w).1 e)

not_true : (b : Bool) → not b ≡ true → b ≡ false
not_true true e = sym e
not_true false e = refl

pub apart_has : (s t : List Kind) (k : Kind) → apart s t ≡ true → has s k ≡ true → has t k ≡ false
apart_has [] t k w h = absurd (cc)
apart_has (j ∷ js) t k w h =
    has_false (number_of j == number_of k) (has js k) h (has t k)
    (λ e. sym (has_same t j k (eqb-true _ _ e)) ∙ not_true _ (both _ _ w).0)
    (λ e. apart_has js t k (both _ _ w).1 e)
  where
    has_false : (b c : Bool) → (b || c) ≡ true → (x : Bool) → (b ≡ true → x ≡ false) → (c ≡ true → x ≡ false) → x ≡ false
    has_false true c e x f g = f refl
    has_false false c e x f g = g e

pub has_append : (b c : List Kind) (k : Kind) → has (b ++ c) k ≡ (has b k || has c k)
has_append [] c k = refl
has_append (j ∷ b) c k = rw (has_append b c k) (or_assoc (number_of j == number_of k) (has b k) (has c k))
  where
    or_assoc : (x y z : Bool) → (x || (y || z)) ≡ ((x || y) || z)
    or_assoc true y z = refl
    or_assoc false y z = refl

pub self : (k : Kind) (s : List Kind) → has (k ∷ s) k ≡ true
self k s = or_left _ _ (eq-eqb (number_of k) (number_of k) refl)

-- one that is in it
pub one_of : (s : List Kind) → filled s ≡ true → (k : Kind) × (has s k ≡ true)
one_of [] h = absurd (cc)
one_of (j ∷ s) h = (j, self j s)

and_true : (x y : Bool) → x ≡ true → y ≡ true → (x && y) ≡ true
and_true true y e f = f
and_true false y e f = absurd (cc)

within_more : (s t : List Kind) (k : Kind) → within s t ≡ true → within s (k ∷ t) ≡ true
within_more [] t k e = refl
within_more (j ∷ s) t k e = and_true _ _ (or_right _ _ (both (has t j) (within s t) e).0) (within_more s t k (both (has t j) (within s t) e).1)

pub within_self : (s : List Kind) → within s s ≡ true
within_self [] = refl
within_self (j ∷ s) = and_true _ _ (self j s) (within_more s s j (within_self s))
