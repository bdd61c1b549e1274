-- The invitation that a key names: there is one at most of its text.
use Rattle.std.specs.Prelude.{IfSome}
use Rattle.std.specs.Str.{bytes_eq}
use Rattle.std.proofs.Common.{◌≡◌, ◌≢◌, ℕ, zero, suc, ◌<◌, ◌≤◌, ◌^◌, nat_lt, Bool, true, false, List, Option, Some, None, refl, sym, ap, ◌∙◌, arith, if◌then◌else◌}
use Rattle.std.proofs.lemmas.Bool.{ltb-true}
use Rattle.std.proofs.lemmas.Option.{same_Some}
use Rattle.std.proofs.lemmas.Slice.Eq.{bytes_eq-Decides}
use Rattle.rules.specs.turn_stores.Elements.{element}
use Rattle.rules.specs.Zoe.{named_by}
use Rattle.rule_laws.proofs.world_laws.Elements.{elements_apart}

same_number : (n m : ℕ) → n < 2 ^ 32 → m < 2 ^ 32 → element n ≡ element m → n < suc m → m < suc n
same_number n m few less same low = by (nat_lt n m) refl
  where
    by : (b : Bool) → nat_lt n m ≡ b → m < suc n
    by true is = absurd (elements_apart m n few (ltb-true n m is) (sym same))
    by false is = grind arith

pub named_found : (n m : ℕ) (key : List ℕ) → n ≤ 2 ^ 32 → m < n → key ≡ element m → named_by n key ≡ Some m
named_found zero m key few lt is = absurd (omega arith)
named_found (suc n) m key few lt is = by (bytes_eq key (element n)) refl (λ (low : m < n). named_found n m key (omega arith) low is)
  where
    here : key ≡ element n → n ≡ m
    here same =
        let back = same_number m n (omega arith) (omega arith) (sym is ∙ same) (omega arith) in
        omega (arith, back)

    by : (b : Bool) → bytes_eq key (element n) ≡ b → (m < n → named_by n key ≡ Some m) → (if b then Some n else named_by n key) ≡ Some m
    by true at found = ap Some (here ((bytes_eq-Decides key (element n)).0 at))
    by false at found = found (omega (arith, apart))
      where
        apart : n ≢ m
        apart same = cc ((bytes_eq-Decides key (element n)).1 (is ∙ ap element (sym same)))

pub named_none : (n : ℕ) (key : List ℕ) → ((m : ℕ) → m < n → key ≡ element m → ⊥) → named_by n key ≡ None
named_none zero key none = refl
named_none (suc n) key none = by (bytes_eq key (element n)) refl (named_none n key (λ m lt. none m (omega (arith, lt))))
  where
    by : (b : Bool) → bytes_eq key (element n) ≡ b → named_by n key ≡ None → (if b then Some n else named_by n key) ≡ None
    by true at rest = absurd (none n (omega arith) ((bytes_eq-Decides key (element n)).0 at))
    by false at rest = rest

-- ---- as a reader of texts finds it

module _ (n : ℕ) (key : List ℕ) (r : Option ℕ) (few : n ≤ 2 ^ 32) (all : (m : ℕ) → m < 2 ^ 32 → key ≡ element m → r ≡ Some m) where
  pub none_named : r ≡ None → named_by n key ≡ None
  none_named none = named_none n key (λ m lt is. let found : r ≡ Some m = all m (omega (arith, few, lt)) is in cc)

  pub late_named : (k : ℕ) → r ≡ Some k → n ≤ k → named_by n key ≡ None
  late_named k is late = named_none n key (λ m lt named.
      let found : r ≡ Some m = all m (omega (arith, few, lt)) named in
      let same : k ≡ m = same_Some k m (sym is ∙ found) in
      omega (arith, same, late, lt))
