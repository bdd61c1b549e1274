-- What holds of a parser and of what it reads, kept by each way of putting parsers together.
use Rattle.jessie_grammar.specs.declared.jessie_language.fault.Limit.{Limit}
use Rattle.jessie_grammar.specs.declared.jessie_language.fault.Limit.TheVariants as limit
use Rattle.std.proofs.Common.{◌≡◌, ℕ, zero, suc, ◌<◌, Bool, true, false, ◌&&◌, ◌⊎◌, inl, inr, if◌then◌else◌, List, [], ◌∷◌, ◌++◌, length, Option, Some, None, Ok, Err, refl, sym, ap, subst, ◌∙◌, arith, append_assoc, length-append}
use Rattle.jessie_grammar.specs.declared.jessie_lexer.token.Kind.{Kind}
use Rattle.jessie_grammar.specs.declared.jessie_lexer.token.Kind.TheVariants as k
use Rattle.jessie_grammar.specs.declared.jessie_lexer.token.Token.{Token}
use Rattle.jessie_grammar.specs.Tokens.{has, kind, first}
use Rattle.jessie_grammar.specs.Refused.{Marked, Lang, clean, plain}
use Rattle.jessie_grammar.specs.Parse.{Outcome, Parser, and_then, ◌>>=◌, ◌>>◌, pure, refuse, judged, one, either, loop, loop_from, opening, bracketed, symbol, nothing, free, deep}
use Rattle.jessie_grammar.specs.Lang.{◌>>=◌ as ◌followed_by◌, ◌or◌, ◌>>◌ as ◌and◌}
use Rattle.jessie_grammar.specs.Lang as lang
use Rattle.jessie_grammar.proofs.Sets.{within, apart, filled, within_has, apart_has, has_append, both, or_left, or_right, one_of, within_self}

-- ---- first tokens

abbrev kind_at : Option Token → Kind
kind_at None = k.End
kind_at (Some t) = t.kind

kind_first : (ts : List Token) → kind ts ≡ kind_at (first ts)
kind_first [] = refl
kind_first (t ∷ ts) = refl

same_kind : (ts us : List Token) → first ts ≡ first us → kind ts ≡ kind us
same_kind ts us e = kind_first ts ∙ (ap kind_at e ∙ sym (kind_first us))

first_after : (front us vs : List Token) → first us ≡ first vs → first (front ++ us) ≡ first (front ++ vs)
first_after [] us vs e = e
first_after (t ∷ front) us vs e = refl

-- ---- marks

pub clean_append : (f g : List Token) → clean (f ++ g) ≡ clean f ++ clean g
clean_append [] g = refl
clean_append (t ∷ f) g = ap (λ z. (t, None) ∷ z) (clean_append f g)

pub plain_append : (f g : List Marked) → plain (f ++ g) ≡ plain f ++ plain g
plain_append [] g = refl
plain_append (m ∷ f) g = ap (λ z. m.0 ∷ z) (plain_append f g)

-- words one after the other, and then tokens
split : (ms f g : List Marked) (us : List Token) → ms ≡ f ++ g → plain ms ++ us ≡ plain f ++ (plain g ++ us)
split ms f g us e = ap (λ z. plain z ++ us) e ∙ (ap (λ z. z ++ us) (plain_append f g) ∙ append_assoc (plain f) (plain g) us)

clean_more : (f g : List Token) (ms : List Marked) → clean (f ++ g) ++ ms ≡ clean f ++ (clean g ++ ms)
clean_more f g ms = ap (λ z. z ++ ms) (clean_append f g) ∙ append_assoc (clean f) (clean g) ms

-- reading a word: it's read, or its first token that breaks a limit is refused
abbrev pub done : {A : Type 0} → List Marked → List Token → A → Outcome A
done [] us a = Ok (a, us)
done (m ∷ ms) us a = judged m.1 (length (m.0 ∷ (plain ms ++ us))) (done ms us a)

judged_then : {A B : Type 0} (k : Option Limit) (n m : ℕ) (o : Outcome A) (c : Outcome B) (q : A → Parser B) → n ≡ m → and_then o q ≡ c → and_then (judged k n o) q ≡ judged k m c
judged_then None n m o c q e h = h
judged_then (Some k) n m o c q e h = ap (λ i. Err (Some k, i)) e

done_then : {A B : Type 0} (f g : List Marked) (us : List Token) (a : A) (b : B) (q : A → Parser B) → q a (plain g ++ us) ≡ done g us b → and_then (done f (plain g ++ us) a) q ≡ done (f ++ g) us b
done_then [] g us a b q h = h
done_then (m ∷ f) g us a b q h =
    judged_then m.1 _ _ _ _ q (ap (λ z. suc (length z)) (sym (split (f ++ g) f g us refl))) (done_then f g us a b q h)

-- the first of what is left bears the mark k in these
abbrev pub Meets : Option Limit → List Token → List Marked → Type 0
Meets None rest ms = Unit {0}
Meets (Some k) rest ms = (t : Token) × (first rest ≡ Some t) × (first ms ≡ Some (t, Some k))

meets_more : (k : Option Limit) (rest : List Token) (ms more : List Marked) → Meets k rest ms → Meets k rest (ms ++ more)
meets_more None rest ms more h = tt
meets_more (Some k) rest [] more h = absurd (cc)
meets_more (Some k) rest (m ∷ ms) more h = h

-- after front a text of l goes on, with rest's first token and the limit k that it breaks
abbrev pub Goes : {A : Type 0} → Lang A → List Token → List Token → Option Limit → Type 0
Goes {A} l front rest k = (ms : List Marked) × (a : A) × Meets k rest ms × l (clean front ++ ms) a

abbrev pub Word : {A : Type 0} → Lang A → Type 0
Word {A} l = (ms : List Marked) × (a : A) × l ms a

-- Of an outcome at ts: what was read is of the language; a refusal has its place, and what stands before it goes on;
-- and only the tokens up to the first one that is left, or refused, were looked at.
abbrev pub Halts : {A : Type 0} → Lang A → Parser A → List Token → Outcome A → Type 0
Halts l p ts (Ok x) = (front : List Token) × (ts ≡ front ++ x.1) × l (clean front) x.0 × ((us : List Token) → first us ≡ first x.1 → p (front ++ us) ≡ Ok (x.0, us))
Halts l p ts (Err f) = (front : List Token) × (rest : List Token) × (ts ≡ front ++ rest) × (f.1 ≡ length rest)
    × ((us : List Token) → first us ≡ first rest → p (front ++ us) ≡ Err (f.0, length us)) × Goes l front rest f.0

-- p reads l from the front, which begins with a kind of b, where a kind of e follows; and l has a word
pub record Good {A : Type 0} (l : Lang A) (p : Parser A) (b e : List Kind) : Type 0 where
  pub halts : (ts : List Token) → Halts l p ts (p ts)
  pub reads : (ms : List Marked) (us : List Token) (a : A) → l ms a → has e (kind us) ≡ true → p (plain ms ++ us) ≡ done ms us a
  pub starts : (ms : List Marked) (us : List Token) (a : A) → l ms a → has e (kind us) ≡ true → has b (kind (plain ms ++ us)) ≡ true
  pub word : Word l

-- ---- nothing

pub pure_good : {A : Type 0} (a : A) (e : List Kind) → Good (lang.pure a) (pure a) e e
pure_good a e = record {
  halts = λ ts. ([], refl, (refl, refl), λ us h. refl);
  reads = λ ms us x g h. ap (λ y. Ok (y, plain ms ++ us)) g.1 ∙ (ap (λ f. Ok (x, plain f ++ us)) g.0 ∙ ap (λ f. done f us x) (sym g.0));
  starts = λ ms us x g h. subst (λ f. has e (kind (plain f ++ us)) ≡ true) (sym g.0) h;
  word = ([], a, (refl, refl));
}

-- ---- one token

one_at : {A : Type 0} (set : List Kind) (value : Token → A) (mark : Token → Option Limit) (t : Token) (us : List Token) (k : Option Limit) → has set t.kind ≡ true → mark t ≡ k
    → one set value mark (t ∷ us) ≡ judged k (length (t ∷ us)) (Ok (value t, us))
one_at set value mark t us k h e = rw (h, e) refl

one_over : {A : Type 0} (set : List Kind) (value : Token → A) (mark : Token → Option Limit) (t : Token) (us : List Token) (k : Limit) → has set t.kind ≡ true → mark t ≡ Some k
    → first us ≡ Some t → one set value mark us ≡ Err (Some k, length us)
one_over set value mark t [] k h e i = absurd (cc)
one_over set value mark t (u ∷ us) k h e i = let same : u ≡ t = cc in rw (same, h, e) refl

one_none : {A : Type 0} (set : List Kind) (value : Token → A) (mark : Token → Option Limit) (us : List Token) → has set (kind us) ≡ false → one set value mark us ≡ refuse us
one_none set value mark [] h = refl
one_none set value mark (t ∷ us) h = rw h refl

one_end : {A : Type 0} (set : List Kind) (value : Token → A) (mark : Token → Option Limit) (us : List Token) → first us ≡ None → one set value mark us ≡ refuse us
one_end set value mark [] i = refl
one_end set value mark (u ∷ us) i = absurd (cc)

-- where a parser refuses what doesn't begin so
refuses : {A : Type 0} (l : Lang A) (p : Parser A) (set : List Kind) (ts : List Token)
    → ((us : List Token) → has set (kind us) ≡ false → p us ≡ refuse us) → has set (kind ts) ≡ false → Word l → Halts l p ts (refuse ts)
refuses l p set ts other h w = ([], ts, refl, refl, λ us i. other us (ap (has set) (same_kind us ts i) ∙ h), (w.0, w.1, tt, w.2))

one_judged : {A : Type 0} (set : List Kind) (value : Token → A) (mark : Token → Option Limit) (t : Token) (ts : List Token) → has set t.kind ≡ true
    → (k : Option Limit) → mark t ≡ k → Halts (lang.one set value mark) (one set value mark) (t ∷ ts) (judged k (length (t ∷ ts)) (Ok (value t, ts)))
one_judged set value mark t ts h None e = (t ∷ [], refl, (t, ap (λ k. (t, k) ∷ []) (sym e), h, refl), λ us _. one_at set value mark t us None h e)
one_judged set value mark t ts h (Some k) e =
    ([], t ∷ ts, refl, refl, (λ us i. one_over set value mark t us k h e i), ((t, Some k) ∷ [], value t, (t, refl, refl), (t, ap (λ k. (t, k) ∷ []) (sym e), h, refl)))

one_by : {A : Type 0} (set : List Kind) (value : Token → A) (mark : Token → Option Limit) (t : Token) (ts : List Token) → Word (lang.one set value mark) → (b : Bool) → has set t.kind ≡ b
    → Halts (lang.one set value mark) (one set value mark) (t ∷ ts) (if b then judged (mark t) (length (t ∷ ts)) (Ok (value t, ts)) else refuse (t ∷ ts))
one_by set value mark t ts w true h = one_judged set value mark t ts h (mark t) refl
one_by set value mark t ts w false h = refuses (lang.one set value mark) (one set value mark) set (t ∷ ts) (one_none set value mark) h w

one_halts : {A : Type 0} (set : List Kind) (value : Token → A) (mark : Token → Option Limit) → Word (lang.one set value mark) → (ts : List Token)
    → Halts (lang.one set value mark) (one set value mark) ts (one set value mark ts)
one_halts set value mark w [] = ([], [], refl, refl, (λ us i. one_end set value mark us i), (w.0, w.1, tt, w.2))
one_halts set value mark w (t ∷ ts) = one_by set value mark t ts w (has set t.kind) refl

abbrev sample : Kind → Token
sample k = record { kind = k; at = 0; text = []; number = 0 }

one_word : {A : Type 0} (set : List Kind) (value : Token → A) (mark : Token → Option Limit) → filled set ≡ true → Word (lang.one set value mark)
one_word set value mark f = let k = one_of set f in ((sample k.0, mark (sample k.0)) ∷ [], value (sample k.0), (sample k.0, refl, k.1, refl))

pub one_good : {A : Type 0} (set : List Kind) (value : Token → A) (mark : Token → Option Limit) (e : List Kind) → filled set ≡ true → Good (lang.one set value mark) (one set value mark) set e
one_good set value mark e f = record {
  halts = one_halts set value mark (one_word set value mark f);
  reads = λ ms us a g h.
      ap (λ z. one set value mark (plain z ++ us)) g.1
      ∙ (one_at set value mark g.0 us (mark g.0) g.2 refl ∙ (ap (λ v. judged (mark g.0) (length (g.0 ∷ us)) (Ok (v, us))) g.3 ∙ ap (λ z. done z us a) (sym g.1)));
  starts = λ ms us a g h. subst (λ z. has set (kind (plain z ++ us)) ≡ true) (sym g.1) g.2;
  word = one_word set value mark f;
}

pub symbol_good : (k : Kind) (e : List Kind) → Good (lang.symbol k) (symbol k) (k ∷ []) e
unfolding symbol
symbol_good k e = one_good (k ∷ []) nothing free e refl

-- ---- one after the other

along : {A B : Type 0} (p : Parser A) (q : A → Parser B) (front back us rest : List Token) (a : A) (vs : List Token)
    → us ≡ back ++ rest → first vs ≡ first rest → ((vs : List Token) → first vs ≡ first us → p (front ++ vs) ≡ Ok (a, vs))
    → (p >>= q) ((front ++ back) ++ vs) ≡ q a (back ++ vs)
along p q front back us rest a vs e i same =
    ap (λ z. and_then (p z) q) (append_assoc front back vs) ∙ ap (λ o. and_then o q) (same (back ++ vs) (first_after back vs rest i ∙ sym (ap first e)))

bound : {A B : Type 0} (l : Lang A) (m : A → Lang B) (p : Parser A) (q : A → Parser B) (ts us front : List Token) (a : A)
    → ts ≡ front ++ us → l (clean front) a → ((vs : List Token) → first vs ≡ first us → p (front ++ vs) ≡ Ok (a, vs))
    → (o : Outcome B) → Halts (m a) (q a) us o → Halts (l followed_by m) (p >>= q) ts o
bound l m p q ts us front a e g same (Ok x) h = (
  front ++ h.0,
  e ∙ (ap (λ z. front ++ z) h.1 ∙ sym (append_assoc front h.0 x.1)),
  (a, clean front, clean h.0, clean_append front h.0, g, h.2),
  λ vs i. along p q front h.0 us x.1 a vs h.1 i same ∙ h.3 vs i,
)
bound l m p q ts us front a e g same (Err f) h = (
  front ++ h.0,
  h.1,
  e ∙ (ap (λ z. front ++ z) h.2 ∙ sym (append_assoc front h.0 h.1)),
  h.3,
  (λ vs i. along p q front h.0 us h.1 a vs h.2 i same ∙ h.4 vs i),
  (h.5.0, h.5.1, h.5.2, (a, clean front, clean h.0 ++ h.5.0, clean_more front h.0 h.5.0, g, h.5.3)),
)

bind_halts : {A B : Type 0} (l : Lang A) (m : A → Lang B) (p : Parser A) (q : A → Parser B) (ts : List Token) → ((a : A) → Word (m a))
    → ((a : A) (us : List Token) → p ts ≡ Ok (a, us) → Halts (m a) (q a) us (q a us)) → (o : Outcome A) → Halts l p ts o → p ts ≡ o → Halts (l followed_by m) (p >>= q) ts (and_then o q)
bind_halts l m p q ts some after (Ok x) h e = bound l m p q ts x.1 h.0 x.0 h.1 h.2 h.3 (q x.0 x.1) (after x.0 x.1 e)
bind_halts l m p q ts some after (Err f) h e =
    let z = h.5 in
    let w = some z.1 in
    (h.0, h.1, h.2, h.3, (λ us i. ap (λ o. and_then o q) (h.4 us i)), (z.0 ++ w.0, w.1, meets_more f.0 h.1 z.0 w.0 z.2, (z.1, clean h.0 ++ z.0, w.0, sym (append_assoc (clean h.0) z.0 w.0), z.3, w.2)))

pub then_word : {A B : Type 0} {l : Lang A} {m : A → Lang B} → Word l → ((a : A) → Word (m a)) → Word (l followed_by m)
then_word v some = let w = some v.1 in (v.0 ++ w.0, w.1, (v.1, v.0, w.0, refl, v.2, w.2))

-- what the second begins with, the first may end before
pub then_good : {A B : Type 0} {l : Lang A} {m : A → Lang B} {p : Parser A} {q : A → Parser B} {b e b2 e2 : List Kind}
    → Good l p b e → ((a : A) → Good (m a) (q a) b2 e2) → within b2 e ≡ true → Good (l followed_by m) (p >>= q) b e2
then_good {l = l} {m = m} {p = p} {q = q} {b = b} {e = e} {b2 = b2} {e2 = e2} g after w = record {
  halts = λ ts. bind_halts l m p q ts (λ a. (after a).word) (λ a us _. (after a).halts us) (p ts) (g.halts ts) refl;
  reads = λ ms us x h i.
      ap (p >>= q) (split ms h.1 h.2 us h.3)
      ∙ (ap (λ o. and_then o q) (g.reads h.1 (plain h.2 ++ us) h.0 h.4 (within_has b2 e _ w ((after h.0).starts h.2 us x h.5 i)))
      ∙ (done_then h.1 h.2 us h.0 x q ((after h.0).reads h.2 us x h.5 i) ∙ ap (λ z. done z us x) (sym h.3)));
  starts = λ ms us x h i.
      subst (λ z. has b (kind z) ≡ true) (sym (split ms h.1 h.2 us h.3))
      (g.starts h.1 (plain h.2 ++ us) h.0 h.4 (within_has b2 e _ w ((after h.0).starts h.2 us x h.5 i)));
  word = then_word g.word (λ a. (after a).word);
}

-- a value made of what was read
pub made_good : {A B : Type 0} {l : Lang A} {p : Parser A} {b e : List Kind} (f : A → B) → Good l p b e → Good (l followed_by (λ a. lang.pure (f a))) (p >>= λ a. pure (f a)) b e
made_good {e = e} f g = then_good g (λ a. pure_good (f a) e) (within_self e)

-- the last token, and then a value
pub closed_good : {A : Type 0} (k : Kind) (a : A) (e : List Kind) → Good (lang.symbol k and lang.pure a) (symbol k >> pure a) (k ∷ []) e
closed_good k a e = made_good (λ _. a) (symbol_good k e)

-- ---- the one or the other

pub either_yes : {A : Type 0} (b : List Kind) (p q : Parser A) (us : List Token) → has b (kind us) ≡ true → either b p q us ≡ p us
either_yes b p q us h = rw h refl

pub either_not : {A : Type 0} (b : List Kind) (p q : Parser A) (us : List Token) → has b (kind us) ≡ false → either b p q us ≡ q us
either_not b p q us h = rw h refl

-- the choice goes by the first token, which is in front or is the first that is left
chose : {A : Type 0} (l m : Lang A) (p s : Parser A) (ts : List Token)
    → ((front : List Marked) (a : A) → l front a → m front a) → ((us : List Token) → first us ≡ first ts → s us ≡ p us)
    → (o : Outcome A) → Halts l p ts o → Halts m s ts o
chose l m p s ts up same (Ok x) h = (h.0, h.1, up (clean h.0) x.0 h.2, λ us i. same (h.0 ++ us) (first_after h.0 us x.1 i ∙ sym (ap first h.1)) ∙ h.3 us i)
chose l m p s ts up same (Err f) h = let z = h.5 in (
  h.0,
  h.1,
  h.2,
  h.3,
  (λ us i. same (h.0 ++ us) (first_after h.0 us h.1 i ∙ sym (ap first h.2)) ∙ h.4 us i),
  (z.0, z.1, z.2, up (clean h.0 ++ z.0) z.1 z.3),
)

either_halts : {A : Type 0} (l m : Lang A) (p q : Parser A) (b1 b2 e : List Kind) → Good l p b1 e → Good m q b2 e → (ts : List Token) (x : Bool) → has b1 (kind ts) ≡ x
    → Halts (l or m) (either b1 p q) ts (if x then p ts else q ts)
either_halts l m p q b1 b2 e g h ts true i =
    chose l (l or m) p (either b1 p q) ts (λ f a w. inl w) (λ us s. either_yes b1 p q us (ap (has b1) (same_kind us ts s) ∙ i)) (p ts) (g.halts ts)
either_halts l m p q b1 b2 e g h ts false i =
    chose m (l or m) q (either b1 p q) ts (λ f a w. inr w) (λ us s. either_not b1 p q us (ap (has b1) (same_kind us ts s) ∙ i)) (q ts) (h.halts ts)

either_reads : {A : Type 0} (l m : Lang A) (p q : Parser A) (b1 b2 e : List Kind) → Good l p b1 e → Good m q b2 e → apart b2 b1 ≡ true
    → (ms : List Marked) (us : List Token) (a : A) → l ms a ⊎ m ms a → has e (kind us) ≡ true → either b1 p q (plain ms ++ us) ≡ done ms us a
either_reads l m p q b1 b2 e g h w ms us a (inl x) i = either_yes b1 p q (plain ms ++ us) (g.starts ms us a x i) ∙ g.reads ms us a x i
either_reads l m p q b1 b2 e g h w ms us a (inr x) i = either_not b1 p q (plain ms ++ us) (apart_has b2 b1 _ w (h.starts ms us a x i)) ∙ h.reads ms us a x i

either_starts : {A : Type 0} (l m : Lang A) (p q : Parser A) (b1 b2 e : List Kind) → Good l p b1 e → Good m q b2 e
    → (ms : List Marked) (us : List Token) (a : A) → l ms a ⊎ m ms a → has e (kind us) ≡ true → has (b1 ++ b2) (kind (plain ms ++ us)) ≡ true
either_starts l m p q b1 b2 e g h ms us a (inl x) i = has_append b1 b2 _ ∙ or_left _ _ (g.starts ms us a x i)
either_starts l m p q b1 b2 e g h ms us a (inr x) i = has_append b1 b2 _ ∙ or_right _ _ (h.starts ms us a x i)

-- no token begins both
pub or_good : {A : Type 0} {l m : Lang A} {p q : Parser A} {b1 b2 e : List Kind} → Good l p b1 e → Good m q b2 e → apart b2 b1 ≡ true
    → Good (l or m) (either b1 p q) (b1 ++ b2) e
or_good {l = l} {m = m} {p = p} {q = q} {b1 = b1} {b2 = b2} {e = e} g h w = record {
  halts = λ ts. either_halts l m p q b1 b2 e g h ts (has b1 (kind ts)) refl;
  reads = either_reads l m p q b1 b2 e g h w;
  starts = either_starts l m p q b1 b2 e g h;
  word = let v = g.word in (v.0, v.1, inl v.2);
}

-- ---- weaker: it begins with more, or less may follow

pub weaken : {A : Type 0} {l : Lang A} {p : Parser A} {b e : List Kind} (b2 e2 : List Kind) → Good l p b e → within b b2 ≡ true → within e2 e ≡ true → Good l p b2 e2
weaken {b = b} {e = e} b2 e2 g v w = record {
  halts = g.halts;
  reads = λ ms us a h i. g.reads ms us a h (within_has e2 e _ w i);
  starts = λ ms us a h i. within_has b b2 _ v (g.starts ms us a h (within_has e2 e _ w i));
  word = g.word;
}

-- the same language
pub same_good : {A : Type 0} {l : Lang A} (m : Lang A) {p : Parser A} {b e : List Kind} → Good l p b e → ((ms : List Marked) (a : A) → l ms a → m ms a) → ((ms : List Marked) (a : A) → m ms a → l ms a) → Good m p b e
same_good {l = l} m {p = p} g up down = record {
  halts = λ ts. chose l m p p ts up (λ us i. refl) (p ts) (g.halts ts);
  reads = λ ms us a h i. g.reads ms us a (down ms a h) i;
  starts = λ ms us a h i. g.starts ms us a (down ms a h) i;
  word = let v = g.word in (v.0, v.1, up v.0 v.1 v.2);
}

-- a text of any of these languages, which one parser reads
pub any_good : {A : Type 0} (l : ℕ → Lang A) (p : Parser A) (b e : List Kind) → ((n : ℕ) → Good (l n) p b e) → Good (lang.any l) p b e
any_good l p b e g = record {
  halts = λ ts. chose (l 0) (lang.any l) p p ts (λ ms a h. (0, h)) (λ us i. refl) (p ts) ((g 0).halts ts);
  reads = λ ms us a h i. (g h.0).reads ms us a h.1 i;
  starts = λ ms us a h i. (g h.0).starts ms us a h.1 i;
  word = let v = (g 0).word in (v.0, v.1, (0, v.2));
}

-- ---- brackets. Where none may be open its body isn't read, and needs no parser

closed_up : {B : Type 0} (k : Kind) (q : Unit {0} → Parser B) (t : Token) (us : List Token) → has (k ∷ []) t.kind ≡ true → (opening 0 k >>= q) (t ∷ us) ≡ Err (Some limit.TooDeep, length (t ∷ us))
unfolding opening
closed_up k q t us h = rw h refl

never : (k : Kind) (ts us : List Token) (x : Unit {0}) → opening 0 k ts ≡ Ok (x, us) → ⊥
unfolding opening
never k [] us x e = absurd (cc)
never k (t ∷ ts) us x e = by (has (k ∷ []) t.kind) e
  where
    by : (b : Bool) → (if b then judged (Some limit.TooDeep) (length (t ∷ ts)) (Ok (tt, ts)) else refuse (t ∷ ts)) ≡ Ok (x, us) → ⊥
    by true e = absurd (cc)
    by false e = absurd (cc)

opening_good : (n : ℕ) (k : Kind) (e : List Kind) → Good (lang.opening n k) (opening n k) (k ∷ []) e
unfolding opening
opening_good n k e = one_good (k ∷ []) nothing (deep n) e refl

over_good : {B : Type 0} (k : Kind) (m : Unit {0} → Lang B) (q : Unit {0} → Parser B) (e : List Kind) → ((x : Unit {0}) → Word (m x)) → Good (lang.opening 0 k followed_by m) (opening 0 k >>= q) (k ∷ []) e
over_good k m q e some = record {
  halts = λ ts. bind_halts (lang.opening 0 k) m (opening 0 k) q ts some (λ a us i. absurd (never k ts us a i)) (opening 0 k ts) ((opening_good 0 k e).halts ts) refl;
  reads = λ ms us x h i.
      let same : ms ≡ (h.4.0, Some limit.TooDeep) ∷ h.2 = h.3 ∙ ap (λ z. z ++ h.2) h.4.1 in
      ap (λ z. (opening 0 k >>= q) (plain z ++ us)) same ∙ (closed_up k q h.4.0 (plain h.2 ++ us) h.4.2 ∙ ap (λ z. done z us x) (sym same));
  starts = λ ms us x h i. subst (λ z. has (k ∷ []) (kind (plain z ++ us)) ≡ true) (sym (h.3 ∙ ap (λ z. z ++ h.2) h.4.1)) h.4.2;
  word = then_word (opening_good 0 k e).word some;
}

closing_word : {A : Type 0} (l : Lang A) (k : Kind) → Word l → Word (l followed_by (λ a. lang.symbol k and lang.pure a))
closing_word l k w = then_word w (λ a. (closed_good k a []).word)

pub bracketed_good : {A : Type 0} {l : Lang A} {q : Parser A} {b : List Kind} (n : ℕ) (from to : Kind) (e : List Kind) → (0 < n → Good l q b (to ∷ [])) → Word l
    → Good (lang.bracketed n from to l) (bracketed n from to q) (from ∷ []) e
unfolding bracketed
bracketed_good {l = l} zero from to e h w = over_good from _ _ e (λ _. closing_word l to w)
bracketed_good {b = b} (suc n) from to e h w = then_good (opening_good (suc n) from b) (λ _. then_good (h (omega arith)) (λ a. closed_good to a e) (within_self (to ∷ []))) (within_self b)

-- ---- one step after another

-- a step that is taken takes a token
abbrev pub Falls : {S : Type 0} → (S → Bool) → List Kind → (S → Parser S) → Type 0
Falls {S} more set p = (s : S) (ts us : List Token) (t : S) → more s ≡ true → p s ts ≡ Ok (t, us) → length us < length ts

same_then : {A B : Type 0} (q s : A → Parser B) (o : Outcome A) → ((a : A) (us : List Token) → o ≡ Ok (a, us) → q a us ≡ s a us) → and_then o q ≡ and_then o s
same_then q s (Ok x) h = h x.0 x.1 refl
same_then q s (Err f) h = refl

same_if : {A : Type 0} (b c : Bool) (x y z : A) → (b ≡ true → x ≡ y) → (if b && c then x else z) ≡ (if b && c then y else z)
same_if true true x y z h = h refl
same_if true false x y z h = refl
same_if false c x y z h = refl

fuel : {S : Type 0} (more : S → Bool) (set : List Kind) (p : S → Parser S) → Falls more set p → (n m : ℕ) (s : S) (ts : List Token) → length ts < n → length ts < m
    → loop_from n more set p s ts ≡ loop_from m more set p s ts
unfolding loop_from
fuel more set p f zero m s ts i j = absurd (omega arith)
fuel more set p f (suc n) zero s ts i j = absurd (omega arith)
fuel more set p f (suc n) (suc m) s ts i j =
    same_if (more s) (has set (kind ts)) _ _ _ (λ y. same_then (loop_from n more set p) (loop_from m more set p) (p s ts)
    (λ a us e. fuel more set p f n m a us (omega (arith, f s ts us a y e)) (omega (arith, f s ts us a y e))))

-- what a loop is, without its count
pub loop_step : {S : Type 0} (more : S → Bool) (set : List Kind) (p : S → Parser S) → Falls more set p → (s : S) (ts : List Token)
    → loop more set p s ts ≡ (if more s && has set (kind ts) then and_then (p s ts) (loop more set p) else Ok (s, ts))
unfolding loop loop_from
loop_step more set p f s ts =
    same_if (more s) (has set (kind ts)) _ _ _ (λ y. same_then (loop_from (length ts) more set p) (loop more set p) (p s ts)
    (λ a us e. fuel more set p f (length ts) (suc (length us)) a us (f s ts us a y e) (omega arith)))

pub loop_more : {S : Type 0} (more : S → Bool) (set : List Kind) (p : S → Parser S) → Falls more set p → (s : S) (ts : List Token) → more s ≡ true → has set (kind ts) ≡ true
    → loop more set p s ts ≡ and_then (p s ts) (loop more set p)
loop_more more set p f s ts y h = loop_step more set p f s ts ∙ ap (λ b. if b then and_then (p s ts) (loop more set p) else Ok (s, ts)) (let e : (more s && has set (kind ts)) ≡ (true && true) = ap (λ b. b && has set (kind ts)) y ∙ h in e)

no_more : (b c : Bool) → (b ≡ true → c ≡ false) → (b && c) ≡ false
no_more true c h = h refl
no_more false c h = refl

-- no more may come, or none that begins so
pub loop_done : {S : Type 0} (more : S → Bool) (set : List Kind) (p : S → Parser S) → Falls more set p → (s : S) (ts : List Token) → (more s ≡ true → has set (kind ts) ≡ false)
    → loop more set p s ts ≡ Ok (s, ts)
loop_done more set p f s ts h = loop_step more set p f s ts ∙ ap (λ b. if b then and_then (p s ts) (loop more set p) else Ok (s, ts)) (no_more (more s) (has set (kind ts)) h)

-- a step begins with none of what may follow it: so it takes a token
taken : {A : Type 0} (l : Lang A) (p : Parser A) (set ep e : List Kind) → Good l p set ep → within e ep ≡ true → apart e set ≡ true → filled e ≡ true → (ms : List Marked) (a : A) → l ms a → 0 < length ms
taken l p set ep e g w v f [] a h =
    let c = one_of e f in
    let yes : has set c.0 ≡ true = g.starts [] (sample c.0 ∷ []) a h (within_has e ep _ w c.1) in
    let no : has set c.0 ≡ false = apart_has e set _ v c.1 in
    absurd (cc)
taken l p set ep e g w v f (m ∷ ms) a h = omega arith

clean_length : (f : List Token) → length (clean f) ≡ length f
clean_length [] = refl
clean_length (t ∷ f) = ap suc (clean_length f)

shorter : {A : Type 0} (l : Lang A) (p : Parser A) (ts us : List Token) (a : A) (o : Outcome A) → ((ms : List Marked) (a : A) → l ms a → 0 < length ms) → Halts l p ts o → o ≡ Ok (a, us) → length us < length ts
shorter l p ts us a (Ok x) t h e =
    let same : x.1 ≡ us = ap (rest us) e in
    let some : 0 < length (clean h.0) = t (clean h.0) x.0 h.2 in
    omega (arith, some, clean_length h.0, ap length h.1, length-append h.0 x.1, ap length same)
  where
    rest : {A : Type 0} → List Token → Outcome A → List Token
    rest vs (Ok y) = y.1
    rest vs (Err f) = vs
shorter l p ts us a (Err f) t h e = absurd (cc)

-- what is needed of the steps: each begins with set and may end before what begins a step, and before e; no step begins so
pub record Steps {S : Type 0} (more : S → Bool) (l : S → Lang S) (p : S → Parser S) (set e : List Kind) : Type 0 where
  pub ends : List Kind
  pub each : (s : S) → more s ≡ true → Good (l s) (p s) set ends
  pub on : within (set ++ e) ends ≡ true
  pub off : apart e set ≡ true
  pub some : filled e ≡ true

within_right : (s e t : List Kind) → within (s ++ e) t ≡ true → within e t ≡ true
within_right [] e t w = w
within_right (j ∷ s) e t w = within_right s e t (both (has t j) (within (s ++ e) t) w).1

pub falls : {S : Type 0} {more : S → Bool} {l : S → Lang S} {p : S → Parser S} {set e : List Kind} → Steps more l p set e → Falls more set p
falls {l = l} {p = p} {set = set} {e = e} k s ts us t y i =
    let g = k.each s y in
    shorter (l s) (p s) ts us t (p s ts) (taken (l s) (p s) set k.ends e g (within_right set e k.ends k.on) k.off k.some) (g.halts ts) i

step_on : {S : Type 0} (more : S → Bool) (l : S → Lang S) (s : S) → more s ≡ true → (ms : List Marked) (t : S) → (l s followed_by lang.iterate more l) ms t → lang.iterate more l s ms t
step_on more l s y ms t h = (suc h.5.0, (y, (h.0, h.1, h.2, h.3, h.4, h.5.1)))

loop_by : {S : Type 0} (more : S → Bool) (l : S → Lang S) (p : S → Parser S) (set e : List Kind) → Steps more l p set e → (s : S) (ts : List Token)
    → ((t : S) (us : List Token) → length us < length ts → Halts (lang.iterate more l t) (loop more set p t) us (loop more set p t us))
    → (x y : Bool) → more s ≡ x → has set (kind ts) ≡ y → Halts (lang.iterate more l s) (loop more set p s) ts (if x && y then and_then (p s ts) (loop more set p) else Ok (s, ts))
loop_by more l p set e k s ts next true true i h =
    chose (l s followed_by lang.iterate more l) (lang.iterate more l s) (p s >>= loop more set p) (loop more set p s) ts (step_on more l s i)
    (λ us j. loop_more more set p (falls k) s us i (ap (has set) (same_kind us ts j) ∙ h)) _
    (bind_halts (l s) (lang.iterate more l) (p s) (loop more set p) ts (λ t. ([], t, (0, (refl, refl)))) (λ t us j. next t us (falls k s ts us t i j)) (p s ts) ((k.each s i).halts ts) refl)
loop_by more l p set e k s ts next true false i h = ([], refl, (0, (refl, refl)), λ us j. loop_done more set p (falls k) s us (λ _. ap (has set) (same_kind us ts j) ∙ h))
loop_by more l p set e k s ts next false y i h = ([], refl, (0, (refl, refl)), λ us j. loop_done more set p (falls k) s us (λ z. absurd (let no : true ≡ false = sym z ∙ i in cc)))

loop_halts : {S : Type 0} (more : S → Bool) (l : S → Lang S) (p : S → Parser S) (set e : List Kind) → Steps more l p set e → (n : ℕ) (s : S) (ts : List Token) → length ts < n
    → Halts (lang.iterate more l s) (loop more set p s) ts (loop more set p s ts)
loop_halts more l p set e k zero s ts i = absurd (omega arith)
loop_halts more l p set e k (suc n) s ts i =
    subst (λ o. Halts (lang.iterate more l s) (loop more set p s) ts o) (sym (loop_step more set p (falls k) s ts))
    (loop_by more l p set e k s ts (λ t us j. loop_halts more l p set e k n t us (omega arith)) (more s) (has set (kind ts)) refl refl)

turns_start : {S : Type 0} (more : S → Bool) (l : S → Lang S) (p : S → Parser S) (set e : List Kind) → Steps more l p set e → (n : ℕ) (s t : S) (ms : List Marked) (us : List Token)
    → lang.turns n more l s ms t → has e (kind us) ≡ true → has (set ++ e) (kind (plain ms ++ us)) ≡ true
turns_start more l p set e k zero s t ms us h i = subst (λ z. has (set ++ e) (kind (plain z ++ us)) ≡ true) (sym h.0) (has_append set e _ ∙ or_right _ _ i)
turns_start more l p set e k (suc n) s t ms us h i =
    let z = h.1 in
    subst (λ z. has (set ++ e) (kind z) ≡ true) (sym (split ms z.1 z.2 us z.3))
    (has_append set e _ ∙ or_left _ _ ((k.each s h.0).starts z.1 (plain z.2 ++ us) z.0 z.4 (within_has (set ++ e) k.ends _ k.on (turns_start more l p set e k n z.0 t z.2 us z.5 i))))

turns_read : {S : Type 0} (more : S → Bool) (l : S → Lang S) (p : S → Parser S) (set e : List Kind) → Steps more l p set e → (n : ℕ) (s t : S) (ms : List Marked) (us : List Token)
    → lang.turns n more l s ms t → has e (kind us) ≡ true → loop more set p s (plain ms ++ us) ≡ done ms us t
turns_read more l p set e k zero s t ms us h i =
    ap (λ z. loop more set p s (plain z ++ us)) h.0
    ∙ (loop_done more set p (falls k) s us (λ _. apart_has e set _ k.off i) ∙ (ap (λ z. Ok (z, us)) h.1 ∙ ap (λ z. done z us t) (sym h.0)))
turns_read more l p set e k (suc n) s t ms us h i =
    let z = h.1 in
    let g = k.each s h.0 in
    let f : has k.ends (kind (plain z.2 ++ us)) ≡ true = within_has (set ++ e) k.ends _ k.on (turns_start more l p set e k n z.0 t z.2 us z.5 i) in
    ap (loop more set p s) (split ms z.1 z.2 us z.3)
    ∙ (loop_more more set p (falls k) s (plain z.1 ++ (plain z.2 ++ us)) h.0 (g.starts z.1 (plain z.2 ++ us) z.0 z.4 f)
    ∙ (ap (λ o. and_then o (loop more set p)) (g.reads z.1 (plain z.2 ++ us) z.0 z.4 f)
    ∙ (done_then z.1 z.2 us z.0 t (loop more set p) (turns_read more l p set e k n z.0 t z.2 us z.5 i) ∙ ap (λ y. done y us t) (sym z.3))))

pub loop_good : {S : Type 0} {more : S → Bool} {l : S → Lang S} {p : S → Parser S} {set e : List Kind} (s : S) → Steps more l p set e → Good (lang.iterate more l s) (loop more set p s) (set ++ e) e
loop_good {more = more} {l = l} {p = p} {set = set} {e = e} s k = record {
  halts = λ ts. loop_halts more l p set e k (suc (length ts)) s ts (omega arith);
  reads = λ ms us t h i. turns_read more l p set e k h.0 s t ms us h.1 i;
  starts = λ ms us t h i. turns_start more l p set e k h.0 s t ms us h.1 i;
  word = ([], s, (0, (refl, refl)));
}
