-- Names, and lists of what a grammar gives.
use Rattle.std.proofs.Common.{◌≡◌, Bool, true, false, List, [], ◌∷◌, ◌++◌, None, Some, refl}
use Rattle.std.specs.Prelude.{length, nat_le, if◌then◌else◌}
use Rattle.std.specs.List.{AllByRecursion}
use Rattle.jessie_reader.specs.host_text.Words.{is_field_name}
use Rattle.rules.specs.jessie_grammar.Grammar.{comma_step, listed, name}
use Rattle.rules.specs.jessie_grammar.Lang.{◌>>=◌, ◌or◌, pure, one, symbol, iterate}
use Rattle.rules.specs.jessie_grammar.Refused.{Lang}
use Rattle.rules.specs.jessie_grammar.Words.{Found, Named, declared, long, more, ongoing, spotted, words}
use Rattle.rules.specs.jessie_grammar.declared.jessie_language.fault.Limit.{Limit}
use Rattle.rules.specs.jessie_grammar.declared.jessie_lexer.token.Kind.TheVariants as k
use Rattle.rules.specs.jessie_grammar.declared.jessie_scopes.name_use.NameUse.{NameUse}
use Rattle.contract_texts.proofs.Langs.{Gives, after_gives, iterate_gives, one_gives, or_gives, pure_gives, then_gives}

-- ---- names

pub in_length : (b : Bool) (l : Limit) → (if b then None else Some l) ≡ None → b ≡ true
in_length true l e = refl
in_length false l e = absurd (cc)

pub in_declared : (b c : Bool) (j l : Limit) → (if b then (if c then None else Some j) else Some l) ≡ None → b ≡ true
in_declared true c j l e = refl
in_declared false c j l e = absurd (cc)

-- a name that is spotted is one
abbrev pub IsSpotted : Named → Type 0
IsSpotted x = is_field_name x.1 ≡ true

pub name_gives : Gives name IsSpotted
unfolding name
name_gives = one_gives IsSpotted words spotted long (λ t is among e. is.words among (in_length (nat_le (length t.text) 64) _ e))

pub declared_gives : (free : Bool) → Gives (one words spotted (declared free)) IsSpotted
declared_gives free = one_gives IsSpotted words spotted (declared free) (λ t is among e. is.words among (in_declared (nat_le (length t.text) 64) free _ _ e))

-- what is found is so
abbrev pub Holds : {A : Type 0} → (A → Type 0) → Found A → Type 0
Holds P x = P x.0

-- ---- lists

pub push : {A : Type 0} (P : A → Type 0) (xs : List A) (x : A) → AllByRecursion P xs → P x → AllByRecursion P (xs ++ x ∷ [])
push P [] x h i = (i, tt)
push P (y ∷ ys) x h i = (h.0, push P ys x h.1 i)

module _ {A : Type 0} (P : A → Type 0) (item : List NameUse → Lang (Found A)) (each : (es : List NameUse) → Gives (item es) (Holds P)) where
  -- so far
  abbrev AreSoFar : Found (List A) × Bool → Type 0
  AreSoFar s = AllByRecursion P s.0.0

  comma_gives : (s : Found (List A) × Bool) → AreSoFar s → Gives (comma_step item s) AreSoFar
  comma_gives s is =
      after_gives (symbol k.Comma) (pure (s.0, false) or (item s.0.1 >>= λ a. pure (more s.0.0 a, true))) AreSoFar
      (or_gives AreSoFar (pure (s.0, false)) (item s.0.1 >>= λ a. pure (more s.0.0 a, true)) (pure_gives AreSoFar (s.0, false) is)
      (then_gives (item s.0.1) (λ a. pure (more s.0.0 a, true)) (Holds P) AreSoFar (each s.0.1) (λ a here. pure_gives AreSoFar (more s.0.0 a, true) (push P s.0.0 a.0 is here))))

  pub listed_gives : (es : List NameUse) → Gives (listed item es) (Holds (AllByRecursion P))
  listed_gives es =
      or_gives (Holds (AllByRecursion P)) (pure ([], es)) (item es >>= λ a. (iterate ongoing (comma_step item) (more [] a, true) >>= λ s. pure s.0)) (pure_gives (Holds (AllByRecursion P)) ([], es) tt)
      (then_gives (item es) (λ a. (iterate ongoing (comma_step item) (more [] a, true) >>= λ s. pure s.0)) (Holds P) (Holds (AllByRecursion P)) (each es)
      (λ a here. then_gives (iterate ongoing (comma_step item) (more [] a, true)) (λ s. pure s.0) AreSoFar (Holds (AllByRecursion P))
      (iterate_gives AreSoFar ongoing (comma_step item) comma_gives (more [] a, true) (here, tt)) (λ s is. pure_gives (Holds (AllByRecursion P)) s.0 is)))
