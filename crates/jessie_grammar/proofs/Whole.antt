-- What follows, for a whole text, from the facts of a language and its parser: the laws, for any language.
use Rattle.jessie_grammar.specs.declared.jessie_language.fault.Limit.{Limit}
use Rattle.std.proofs.Common.{◌≡◌, ℕ, suc, ◌<◌, ◌≤◌, List, [], ◌∷◌, ◌++◌, length, Option, Some, None, Ok, Err, refl, sym, ap, subst, ◌∙◌, length-append, arith}
use Rattle.std.proofs.lemmas.List.{append-nil}
use Rattle.jessie_grammar.specs.declared.jessie_lexer.token.Kind.{Kind}
use Rattle.jessie_grammar.specs.declared.jessie_lexer.token.Kind.TheVariants as k
use Rattle.jessie_grammar.specs.declared.jessie_lexer.token.Token.{Token}
use Rattle.jessie_grammar.specs.Tokens.{first}
use Rattle.jessie_grammar.specs.Refused.{Marked, Lang, clean, plain, NoneGoesOn, Refused, Determined}
use Rattle.jessie_grammar.specs.Parse.{Fault, Parser, Outcome, ending, refuse, whole, and_then, judged}
use Rattle.jessie_grammar.proofs.Good.{Good, Halts, Goes, Meets, done}
use Rattle.jessie_grammar.proofs.Unique.{unique}

-- ---- all of the tokens

end_more : {A : Type 0} (a : A) (us : List Token) (t : Token) → first us ≡ Some t → ending a us ≡ refuse us
end_more a [] t h = absurd (cc)
end_more a (u ∷ us) t h = refl

end_none : {A : Type 0} (a : A) (us : List Token) → first us ≡ None → ending a us ≡ Ok (a, us)
end_none a [] h = refl
end_none a (t ∷ us) h = absurd (cc)

-- a whole text was read, or refused at a place
abbrev Stops : {A : Type 0} → Lang A → Parser A → List Token → Outcome A → Type 0
Stops w q ts (Ok x) = (x.1 ≡ []) × w (clean ts) x.0
Stops w q ts (Err f) = (front : List Token) × (rest : List Token) × (ts ≡ front ++ rest) × (f.1 ≡ length rest)
    × ((us : List Token) → first us ≡ first rest → q (front ++ us) ≡ Err (f.0, length us)) × Goes w front rest f.0

stops_at : {A : Type 0} (w : Lang A) (p : Parser A) (ts front rest : List Token) (a : A) → ts ≡ front ++ rest → w (clean front) a → ((us : List Token) → first us ≡ first rest → p (front ++ us) ≡ Ok (a, us))
    → Stops w (whole p) ts (ending a rest)
unfolding whole
stops_at w p ts front [] a e h same = (refl, subst (λ z. w (clean z) a) (sym (e ∙ append-nil front)) h)
stops_at w p ts front (t ∷ rest) a e h same =
    (front, t ∷ rest, e, refl, (λ us i. ap (λ o. and_then o ending) (same us i) ∙ end_more a us t i), ([], a, tt, subst (λ z. w z a) (sym (append-nil (clean front))) h))

stops_by : {A : Type 0} (w : Lang A) (p : Parser A) (ts : List Token) (o : Outcome A) → Halts w p ts o → Stops w (whole p) ts (and_then o ending)
unfolding whole
stops_by w p ts (Ok x) h = stops_at w p ts h.0 x.1 x.0 h.1 h.2 h.3
stops_by w p ts (Err f) h = (h.0, h.1, h.2, h.3, (λ us i. ap (λ o. and_then o ending) (h.4 us i)), h.5)

stops : {A : Type 0} {w : Lang A} {p : Parser A} {b : List Kind} → Good w p b (k.End ∷ []) → (ts : List Token) → Stops w (whole p) ts (whole p ts)
unfolding whole
stops {w = w} {p = p} g ts = stops_by w p ts (p ts) (g.halts ts)

judged_end : {A : Type 0} (k : Option Limit) (n : ℕ) (o : Outcome A) → and_then o ending ≡ o → and_then (judged k n o) ending ≡ judged k n o
judged_end None n o h = h
judged_end (Some k) n o h = refl

done_end : {A : Type 0} (ms : List Marked) (a : A) → and_then (done ms [] a) ending ≡ done ms [] a
done_end [] a = refl
done_end (m ∷ ms) a = judged_end m.1 _ (done ms [] a) (done_end ms a)

-- every text, marked as it is, is read up to its first mark
goes : {A : Type 0} {w : Lang A} {p : Parser A} {b : List Kind} → Good w p b (k.End ∷ []) → (ms : List Marked) (a : A) → w ms a → whole p (plain ms) ≡ done ms [] a
unfolding whole
goes {p = p} g ms a h = ap (λ z. and_then (p z) ending) (sym (append-nil (plain ms))) ∙ (ap (λ o. and_then o ending) (g.reads ms [] a h refl) ∙ done_end ms a)

-- ---- marks

done_front : {A : Type 0} (front : List Token) (ms : List Marked) (us : List Token) (a : A) → done (clean front ++ ms) us a ≡ done ms us a
done_front [] ms us a = refl
done_front (t ∷ front) ms us a = done_front front ms us a

plain_front : (front : List Token) (ms : List Marked) → plain (clean front ++ ms) ≡ front ++ plain ms
plain_front [] ms = refl
plain_front (t ∷ front) ms = ap (λ z. t ∷ z) (plain_front front ms)

goes_on : {A : Type 0} {w : Lang A} {p : Parser A} {b : List Kind} → Good w p b (k.End ∷ []) → (front : List Token) (ms : List Marked) (a : A) → w (clean front ++ ms) a → whole p (front ++ plain ms) ≡ done ms [] a
goes_on {p = p} g front ms a h = ap (whole p) (sym (plain_front front ms)) ∙ (goes g (clean front ++ ms) a h ∙ done_front front ms [] a)

-- a word is never refused for no limit, and its first token that breaks one stands in it
abbrev Within : {A : Type 0} → ℕ → Outcome A → Type 0
Within n (Ok x) = Unit {0}
Within n (Err f) = (k : Limit) × (f.0 ≡ Some k) × (f.1 ≤ n)

within_judged : {A : Type 0} (k : Option Limit) (n m : ℕ) (o : Outcome A) → Within n o → n ≤ m → Within m (judged k m o)
within_judged None n m (Ok x) h i = tt
within_judged None n m (Err f) h i = (h.0, h.1, let j : f.1 ≤ n = h.2 in omega arith)
within_judged (Some k) n m o h i = (k, refl, omega arith)

done_within : {A : Type 0} (ms : List Marked) (a : A) → Within (length (plain ms)) (done ms [] a)
done_within [] a = tt
done_within (m ∷ ms) a =
    let e : length (plain ms ++ []) ≡ length (plain ms) = ap length (append-nil (plain ms)) in
    subst (λ n. Within n (done (m ∷ ms) [] a)) (ap suc e) (within_judged m.1 (length (plain ms)) (suc (length (plain ms ++ []))) (done ms [] a) (done_within ms a) (omega arith))

-- two ways to cut a list that leave equally much are one
same_front : (f g a b : List Token) → f ++ a ≡ g ++ b → length a ≡ length b → (f ≡ g) × (a ≡ b)
same_front [] [] a b e i = (refl, e)
same_front [] (t ∷ g) a b e i = absurd (omega (arith, ap length e, length-append g b, i))
same_front (t ∷ f) [] a b e i = absurd (omega (arith, ap length e, length-append f a, i))
same_front (t ∷ f) (u ∷ g) a b e i = let head : t ≡ u = cc in let rest : f ++ a ≡ g ++ b = cc in let z = same_front f g a b rest i in let same : f ≡ g = z.0 in (cc, z.1)

-- a refusal looked at nothing after the token that is refused
local_at : {A : Type 0} (w : Lang A) (q : Parser A) (front rest : List Token) (k : Option Limit) (o : Outcome A) → Stops w q (front ++ rest) o → o ≡ Err (k, length rest) → (us : List Token) → first us ≡ first rest
    → q (front ++ us) ≡ Err (k, length us)
local_at w q front rest k (Ok x) h e us i = absurd (cc)
local_at w q front rest k (Err f) h e us i =
    let same : f ≡ (k, length rest) = cc in
    let left : length h.1 ≡ length rest = sym h.3 ∙ ap (λ z. z.1) same in
    let cut = same_front front h.0 rest h.1 h.2 (sym left) in
    ap (λ z. q (z ++ us)) cut.0 ∙ (h.4 us (i ∙ ap first cut.1) ∙ ap (λ z. Err (z.0, length us)) same)

local : {A : Type 0} {w : Lang A} {p : Parser A} {b : List Kind} → Good w p b (k.End ∷ []) → (front rest : List Token) (k : Option Limit) → whole p (front ++ rest) ≡ Err (k, length rest) → (us : List Token) → first us ≡ first rest
    → whole p (front ++ us) ≡ Err (k, length us)
local {w = w} {p = p} g front rest k e us i = local_at w (whole p) front rest k (whole p (front ++ rest)) (stops g (front ++ rest)) e us i

-- no word is refused there, for no limit
no_syntax : {A : Type 0} (ms : List Marked) (n left : ℕ) (o : Outcome A) → Within n o → o ≡ Err (None, left) → ⊥
no_syntax ms n left (Ok x) h e = absurd (cc)
no_syntax ms n left (Err f) h e = let same : f ≡ (None, left) = cc in absurd (let z : Some h.0 ≡ None = sym h.1 ∙ ap (λ z. z.0) same in cc)

-- nor at a place before it
no_earlier : {A : Type 0} (n left : ℕ) (k : Option Limit) (o : Outcome A) → Within n o → o ≡ Err (k, left) → n < left → ⊥
no_earlier n left k (Ok x) h e i = absurd (cc)
no_earlier n left k (Err f) h e i = let same : f.1 ≡ left = ap (λ z. fault_left z) e in absurd (let z : f.1 ≤ n = h.2 in omega arith)
  where
    fault_left : {A : Type 0} → Outcome A → ℕ
    fault_left (Ok x) = 0
    fault_left (Err f) = f.1

-- ---- the marks of a text are determined

abbrev kind_of : {A : Type 0} → Outcome A → Option Limit
kind_of (Ok x) = None
kind_of (Err f) = f.0

abbrev over : List Marked → Token → ℕ
over ms t = length (t ∷ (plain ms ++ []))

mark_is : {A : Type 0} {w : Lang A} {p : Parser A} {b : List Kind} → Good w p b (k.End ∷ []) → (front : List Token) (t : Token) (j : Limit) (k : Option Limit) (ms ns : List Marked) (a c : A)
    → w (clean front ++ ((t, Some j) ∷ ms)) a → w (clean front ++ ((t, k) ∷ ns)) c → Some j ≡ k
mark_is {w = w} {p = p} g front t j k ms ns a c h i =
    let e = goes_on g front ((t, Some j) ∷ ms) a h in
    let left : over ms t ≡ length (t ∷ plain ms) = ap (λ z. suc (length z)) (append-nil (plain ms)) in
    let there = local g front (t ∷ plain ms) (Some j) (e ∙ ap (λ n. Err (Some j, n)) left) (t ∷ plain ns) refl in
    by k (sym (goes_on g front ((t, k) ∷ ns) c i) ∙ there)
  where
    by : (k : Option Limit) → done ((t, k) ∷ ns) [] c ≡ Err (Some j, length (t ∷ plain ns)) → Some j ≡ k
    by None e = absurd (no_earlier (length (plain ns)) (length (t ∷ plain ns)) (Some j) (done ns [] c) (done_within ns c) e (omega arith))
    by (Some k) e = sym (ap kind_of e)

pub determined : {A : Type 0} {w : Lang A} {p : Parser A} {b : List Kind} → Good w p b (k.End ∷ []) → Determined w
determined g front t None None ms ns a c h i = refl
determined g front t None (Some k) ms ns a c h i = sym (mark_is g front t k None ns ms c a i h)
determined g front t (Some j) k ms ns a c h i = mark_is g front t j k ms ns a c h i

-- ---- what is refused

none_goes_on : {A : Type 0} {w : Lang A} {p : Parser A} {b : List Kind} → Good w p b (k.End ∷ []) → (front rest : List Token) → whole p (front ++ rest) ≡ Err (None, length rest) → NoneGoesOn w front rest
none_goes_on g front rest e ms a i h =
    no_syntax ms (length (plain ms)) (length (plain ms)) (done ms [] a) (done_within ms a) (sym (goes_on g front ms a h) ∙ local g front rest None e (plain ms) i)

-- the one of a text that goes on with this mark
marked_on : {A : Type 0} (w : Lang A) (front rest : List Token) (k : Limit) → Goes w front rest (Some k) → Refused w front rest (Some k)
marked_on w front rest k h = at h.0 h.2 h.3
  where
    at : (ms : List Marked) → Meets (Some k) rest ms → w (clean front ++ ms) h.1 → Refused w front rest (Some k)
    at [] m i = absurd (cc)
    at (n ∷ ms) m i = let same : n ≡ (m.0, Some k) = cc in (m.0, m.1, ms, h.1, subst (λ z. w (clean front ++ z ∷ ms) h.1) same i)

refused_by : {A : Type 0} {w : Lang A} {p : Parser A} {b : List Kind} → Good w p b (k.End ∷ []) → (front rest : List Token) (k : Option Limit) → whole p (front ++ rest) ≡ Err (k, length rest) → Goes w front rest k → Refused w front rest k
refused_by g front rest None e h = ((h.0, h.1, h.3), none_goes_on g front rest e)
refused_by {w = w} g front rest (Some k) e h = marked_on w front rest k h

abbrev RefusedAt : {A : Type 0} → Lang A → List Token → Fault → Type 0
RefusedAt w ts f = (front : List Token) × (rest : List Token) × (ts ≡ front ++ rest) × (f.1 ≡ length rest) × Refused w front rest f.0

refused_at : {A : Type 0} {w : Lang A} {p : Parser A} {b : List Kind} → Good w p b (k.End ∷ []) → (ts : List Token) (f : Fault) (o : Outcome A) → Stops w (whole p) ts o → o ≡ Err f → RefusedAt w ts f
refused_at g ts f (Ok x) h e = absurd (cc)
refused_at {w = w} g ts f (Err d) h e =
    let same : d ≡ f = cc in
    subst (RefusedAt w ts) same (h.0, h.1, h.2, h.3, refused_by g h.0 h.1 d.0 (h.4 h.1 refl) h.5)

-- what is refused is refused as the language says
pub refuses : {A : Type 0} {w : Lang A} {p : Parser A} {b : List Kind} → Good w p b (k.End ∷ []) → (ts : List Token) (f : Fault) → whole p ts ≡ Err f → RefusedAt w ts f
refuses {p = p} g ts f e = refused_at g ts f (whole p ts) (stops g ts) e

-- ---- what is read

clean_plain : (ts : List Token) → plain (clean ts) ≡ ts
clean_plain [] = refl
clean_plain (t ∷ ts) = ap (λ z. t ∷ z) (clean_plain ts)

done_clean : {A : Type 0} (ts us : List Token) (a : A) → done (clean ts) us a ≡ Ok (a, us)
done_clean [] us a = refl
done_clean (t ∷ ts) us a = done_clean ts us a

pub reads_text : {A : Type 0} {w : Lang A} {p : Parser A} {b : List Kind} → Good w p b (k.End ∷ []) → (ts : List Token) (a : A) → w (clean ts) a → whole p ts ≡ Ok (a, [])
reads_text {p = p} g ts a h = ap (whole p) (sym (clean_plain ts)) ∙ (goes g (clean ts) a h ∙ done_clean ts [] a)

is_text_by : {A : Type 0} (w : Lang A) (q : Parser A) (ts us : List Token) (a : A) (o : Outcome A) → Stops w q ts o → o ≡ Ok (a, us) → (us ≡ []) × w (clean ts) a
is_text_by w q ts us a (Ok x) h e = let same : x ≡ (a, us) = cc in (sym (ap (λ z. z.1) same) ∙ h.0, subst (λ z. w (clean ts) z.0) same h.1)
is_text_by w q ts us a (Err f) h e = absurd (cc)

pub is_text : {A : Type 0} {w : Lang A} {p : Parser A} {b : List Kind} → Good w p b (k.End ∷ []) → (ts us : List Token) (a : A) → whole p ts ≡ Ok (a, us) → (us ≡ []) × w (clean ts) a
is_text {w = w} {p = p} g ts us a e = is_text_by w (whole p) ts us a (whole p ts) (stops g ts) e

abbrev got : {A : Type 0} → A → Outcome A → A
got a (Ok x) = x.0
got a (Err f) = a

pub one_value : {A : Type 0} {w : Lang A} {p : Parser A} {b : List Kind} → Good w p b (k.End ∷ []) → (ts : List Token) (x y : A) → w (clean ts) x → w (clean ts) y → x ≡ y
one_value g ts x y h i = ap (got x) (sym (reads_text g ts x h) ∙ reads_text g ts y i)

-- ---- what is refused by the language is refused by the parser

clean_front : (front rest : List Token) → clean (front ++ rest) ≡ clean front ++ clean rest
clean_front [] rest = refl
clean_front (t ∷ front) rest = ap (λ z. (t, None) ∷ z) (clean_front front rest)

-- a text that is read isn't refused
not_both : {A : Type 0} (w : Lang A) (front rest : List Token) (k : Option Limit) (a : A) → Determined w → w (clean front ++ clean rest) a → Refused w front rest k → ⊥
not_both w front rest None a d h x = x.1 (clean rest) a (ap first (clean_plain rest)) h
not_both w front [] (Some k) a d h x = absurd (let e : None ≡ Some x.0 = x.1 in cc)
not_both w front (t ∷ rest) (Some k) a d h x =
    let same : x.0 ≡ t = cc in
    let no : Some k ≡ None = d front t (Some k) None x.2 (clean rest) x.3 a (subst (λ t. w (clean front ++ ((t, Some k) ∷ x.2)) x.3) same x.4) h in
    absurd (cc)

refused_by_it : {A : Type 0} {w : Lang A} {p : Parser A} {b : List Kind} → Good w p b (k.End ∷ []) → (front rest : List Token) (k : Option Limit) (o : Outcome A) → whole p (front ++ rest) ≡ o → Refused w front rest k → o ≡ Err (k, length rest)
refused_by_it {w = w} g front rest k (Ok x) e h =
    absurd (not_both w front rest k x.0 (determined g) (subst (λ z. w z x.0) (clean_front front rest) (is_text g (front ++ rest) x.1 x.0 e).1) h)
refused_by_it {w = w} g front rest k (Err f) e h =
    let z = refuses g (front ++ rest) f e in
    let u = unique w front z.0 rest z.1 k f.0 (determined g) z.2 h z.4 in
    let same : rest ≡ z.1 = tails front z.0 rest z.1 u.0 z.2 in
    ap Err (pair f k (length rest) (sym u.1) (z.3 ∙ sym (ap length same)))
  where
    tails : (f g r s : List Token) → f ≡ g → f ++ r ≡ g ++ s → r ≡ s
    tails [] [] r s e i = i
    tails [] (t ∷ g) r s e i = absurd (cc)
    tails (t ∷ f) [] r s e i = absurd (cc)
    tails (t ∷ f) (u ∷ g) r s e i = let a : f ≡ g = cc in let b : f ++ r ≡ g ++ s = cc in tails f g r s a b

    pair : (f : Fault) (k : Option Limit) (n : ℕ) → f.0 ≡ k → f.1 ≡ n → f ≡ (k, n)
    pair f k n h i = ap (λ a. (a, f.1)) h ∙ ap (λ m. (k, m)) i

pub refuses_each : {A : Type 0} {w : Lang A} {p : Parser A} {b : List Kind} → Good w p b (k.End ∷ []) → (front rest : List Token) (k : Option Limit) → Refused w front rest k → whole p (front ++ rest) ≡ Err (k, length rest)
refuses_each {p = p} g front rest k h = refused_by_it g front rest k (whole p (front ++ rest)) refl h
