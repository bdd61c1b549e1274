-- The first refusal is one.
use Rattle.jessie_grammar.specs.declared.jessie_language.fault.Limit.{Limit}
use Rattle.std.proofs.Common.{◌≡◌, List, [], ◌∷◌, ◌++◌, Option, Some, None, refl, sym, ap, subst, ◌∙◌}
use Rattle.jessie_grammar.specs.declared.jessie_lexer.token.Token.{Token}
use Rattle.jessie_grammar.specs.Tokens.{first}
use Rattle.jessie_grammar.specs.Refused.{Marked, Lang, clean, plain, GoesOn, Refused, Determined}

begins : {A : Type 0} (w : Lang A) (g s : List Token) (k : Option Limit) → Refused w g s k → GoesOn w (clean g)
begins w g s None x = x.0
begins w g s (Some k) x = ((x.0, Some k) ∷ x.2, x.3, x.4)

here : {A : Type 0} (w : Lang A) (r s : List Token) (j k : Option Limit) → Determined w → r ≡ s → Refused w [] r j → Refused w [] s k → j ≡ k
here w r s None None d e x y = refl
here w r s None (Some k) d e x y = absurd (x.1 ((y.0, Some k) ∷ y.2) y.3 (sym y.1 ∙ ap first (sym e)) y.4)
here w r s (Some j) None d e x y = absurd (y.1 ((x.0, Some j) ∷ x.2) x.3 (sym x.1 ∙ ap first e) x.4)
here w r s (Some j) (Some k) d e x y =
    let same : x.0 ≡ y.0 = cc in
    d [] y.0 (Some j) (Some k) x.2 y.2 x.3 y.3 (subst (λ t. w ((t, Some j) ∷ x.2) x.3) same x.4) y.4

plain_first : (t : Token) (g : List Token) (ms : List Marked) → first (plain (clean (t ∷ g) ++ ms)) ≡ Some t
plain_first t g ms = refl

earlier : {A : Type 0} (w : Lang A) (t : Token) (g r : List Token) (j : Option Limit) → Determined w → first r ≡ Some t → Refused w [] r j → GoesOn w (clean (t ∷ g)) → ⊥
earlier w t g r None d e x y = x.1 (clean (t ∷ g) ++ y.0) y.1 (sym e) y.2
earlier w t g r (Some j) d e x y =
    let same : x.0 ≡ t = cc in
    let no : Some j ≡ None = d [] t (Some j) None x.2 (clean g ++ y.0) x.3 y.1 (subst (λ t. w ((t, Some j) ∷ x.2) x.3) same x.4) y.2 in
    absurd (cc)

later : {A : Type 0} (w : Lang A) (t : Token) (f r : List Token) (j : Option Limit) → Refused w (t ∷ f) r j → Refused (λ ms a. w ((t, None) ∷ ms) a) f r j
later w t f r None x = x
later w t f r (Some j) x = x

pub unique : {A : Type 0} (w : Lang A) (f g r s : List Token) (j k : Option Limit) → Determined w → f ++ r ≡ g ++ s → Refused w f r j → Refused w g s k → (f ≡ g) × (j ≡ k)
unique w [] [] r s j k d e x y = (refl, here w r s j k d e x y)
unique w [] (t ∷ g) r s j k d e x y = absurd (earlier w t g r j d (ap first e) x (begins w (t ∷ g) s k y))
unique w (t ∷ f) [] r s j k d e x y = absurd (earlier w t f s k d (ap first (sym e)) y (begins w (t ∷ f) r j x))
unique w (t ∷ f) (u ∷ g) r s j k d e x y =
    let head : t ≡ u = cc in
    let rest : f ++ r ≡ g ++ s = cc in
    let z = unique (λ ms a. w ((u, None) ∷ ms) a) f g r s j k (λ front. d (u ∷ front)) rest (later w u f r j (subst (λ t. Refused w (t ∷ f) r j) head x)) (later w u g s k y) in
    let tails : f ≡ g = z.0 in
    (cc, z.1)
