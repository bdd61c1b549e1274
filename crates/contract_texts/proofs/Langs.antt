-- What a language gives of a text's tokens, where they break no limit.
use Rattle.std.proofs.Common.{◌≡◌, inl, inr, ℕ, zero, suc, Bool, true, List, [], ◌∷◌, ◌++◌, Option, None, refl, subst}
use Rattle.std.specs.List.{AllByRecursion}
use Rattle.rules.specs.jessie_grammar.Lang.{◌>>=◌, ◌>>◌, ◌or◌, pure, one, symbol, turns, iterate, opening, bracketed, any}
use Rattle.rules.specs.jessie_grammar.Parse.{deep, nothing}
use Rattle.rules.specs.jessie_grammar.Refused.{Lang, Marked, clean}
use Rattle.rules.specs.jessie_grammar.declared.jessie_language.fault.Limit.{Limit}
use Rattle.rules.specs.jessie_grammar.Tokens.{has}
use Rattle.rules.specs.jessie_grammar.declared.jessie_lexer.token.Kind.{Kind}
use Rattle.rules.specs.jessie_grammar.declared.jessie_lexer.token.Token.{Token}
use Rattle.contract_texts.proofs.Tokens.{IsToken}

-- tokens of a text, which break no limit
abbrev pub AreSound : List Marked → Type 0
AreSound [] = Unit {0}
AreSound (m ∷ ms) = IsToken m.0 × (m.1 ≡ None) × AreSound ms

pub clean_sound : (ts : List Token) → AllByRecursion IsToken ts → AreSound (clean ts)
clean_sound [] h = tt
clean_sound (t ∷ ts) h = (h.0, refl, clean_sound ts h.1)

front_sound : (xs ys : List Marked) → AreSound (xs ++ ys) → AreSound xs
front_sound [] ys h = tt
front_sound (x ∷ xs) ys h = (h.0, h.1, front_sound xs ys h.2)

back_sound : (xs ys : List Marked) → AreSound (xs ++ ys) → AreSound ys
back_sound [] ys h = h
back_sound (x ∷ xs) ys h = back_sound xs ys h.2

-- all that a language gives of them is so
abbrev pub Gives : {A : Type 0} → Lang A → (A → Type 0) → Type 0
Gives {A} l P = (ts : List Marked) (a : A) → AreSound ts → l ts a → P a

-- of which nothing is said
abbrev pub Any : {A : Type 0} → A → Type 0
Any a = Unit {0}

pub anything : {A : Type 0} (l : Lang A) → Gives l Any
anything l ts a sound given = tt

module _ {A B : Type 0} where
  pub then_gives : (l : Lang A) (m : A → Lang B) (P : A → Type 0) (Q : B → Type 0) → Gives l P → ((a : A) → P a → Gives (m a) Q) → Gives (l >>= m) Q
  then_gives l m P Q first next ts b sound (a, front, back, e, is, goes) =
      let whole : AreSound (front ++ back) = subst AreSound e sound in
      next a (first front a (front_sound front back whole) is) back b (back_sound front back whole) goes

module _ {A : Type 0} (P : A → Type 0) where
  pub pure_gives : (a : A) → P a → Gives (pure a) P
  pure_gives a is ts b sound given = subst P given.1 is

  pub or_gives : (l m : Lang A) → Gives l P → Gives m P → Gives (l or m) P
  or_gives l m h i ts a sound (inl given) = h ts a sound given
  or_gives l m h i ts a sound (inr given) = i ts a sound given

  pub one_gives : (set : List Kind) (value : Token → A) (mark : Token → Option Limit) → ((t : Token) → IsToken t → has set t.kind ≡ true → mark t ≡ None → P (value t)) → Gives (one set value mark) P
  one_gives set value mark h ts a sound (t, e, among, is) =
      let here : AreSound ((t, mark t) ∷ []) = subst AreSound e sound in
      subst P is (h t here.0 among here.1)

  pub turns_give : (n : ℕ) (more : A → Bool) (l : A → Lang A) → ((s : A) → P s → Gives (l s) P) → (s : A) → P s → Gives (turns n more l s) P
  turns_give zero more l h s is = pure_gives s is
  turns_give (suc n) more l h s is = λ ts a sound given. then_gives (l s) (turns n more l) P P (h s is) (λ t next. turns_give n more l h t next) ts a sound given.1

  pub iterate_gives : (more : A → Bool) (l : A → Lang A) → ((s : A) → P s → Gives (l s) P) → (s : A) → P s → Gives (iterate more l s) P
  iterate_gives more l h s is ts a sound given = turns_give given.0 more l h s is ts a sound given.1

  pub any_gives : (l : ℕ → Lang A) → ((n : ℕ) → Gives (l n) P) → Gives (any l) P
  any_gives l h ts a sound given = h given.0 ts a sound given.1

-- what stands behind others
pub after_gives : {A B : Type 0} (l : Lang A) (m : Lang B) (Q : B → Type 0) → Gives m Q → Gives (l >> m) Q
after_gives {A} {B} l m Q h = then_gives l (λ a. m) Any Q (anything l) (λ a is. h)

-- room for one more bracket
abbrev pub HasRoom : ℕ → Type 0
HasRoom zero = ⊥
HasRoom (suc n) = Unit {0}

opened : (room : ℕ) (t : Token) → deep room t ≡ None → HasRoom room
opened zero t e = absurd (cc)
opened (suc n) t e = tt

open_gives : (room : ℕ) (k : Kind) → Gives (opening room k) (λ (u : Unit {0}). HasRoom room)
open_gives room k = one_gives (λ (u : Unit {0}). HasRoom room) (k ∷ []) nothing (deep room) (λ t is among e. opened room t e)

pub bracketed_gives : {A : Type 0} (room : ℕ) (from to : Kind) (body : Lang A) (P : A → Type 0) → (HasRoom room → Gives body P) → Gives (bracketed room from to body) P
bracketed_gives {A} room from to body P h =
    then_gives (opening room from) (λ u. (body >>= λ a. symbol to >> pure a)) (λ (u : Unit {0}). HasRoom room) P (open_gives room from)
    (λ u room_is. then_gives body (λ a. symbol to >> pure a) P P (h room_is) (λ a is. after_gives (symbol to) (pure a) P (pure_gives P a is)))
