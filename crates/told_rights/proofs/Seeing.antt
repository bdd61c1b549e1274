-- What was seen of a brand, and of which kinds a value in form is.
use Rattle.std.proofs.Common.{◌≡◌, ◌↔◌, inl, inr, ℕ, ◌<◌, Option, Some, None, List, [], ◌∷◌, arith, get_or, length, map, refl, sym, ap, subst, ◌∙◌}
use Rattle.std.specs.Prelude.{IsTrue, is_some, unwrap_or}
use Rattle.std.proofs.lemmas.Bool.{cases_eq, false≢true, true≢false}
use Rattle.std.specs.BTreeMap.{BTreeMap, Updates, get}
use Rattle.std.specs.Ordering.{nat_cmp}
use Rattle.row_records.specs.amount_math.declared.Kind.{Kind}
use Rattle.row_records.specs.amount_math.declared.Kind.TheVariants as kinds
use Rattle.row_records.specs.Views.{element_view}
use Rattle.row_records.specs.declared.rows.Element.{Element as CodeElement}
use Rattle.row_records.specs.fair_rows.Values.{IsValueOf}
use Rattle.row_records.specs.turn_rows.Form.{HasValueForm}
use Rattle.row_records.specs.turn_rows.Turns.{Element, Value, counted, elements, key, number}
use Rattle.row_records.specs.turn_rows.declared.editions.Edition.{Edition}
use Rattle.told_rights.specs.BrandKinds.{Allows, AreTogether, Shows, Suits, kind_shown, seen_with}
use Rattle.told_rights.specs.declared.brand_kinds.Seen.{Seen}
use Rattle.told_rights.specs.declared.brand_kinds.Seen.TheVariants.{Any, Keyed, Nat, Set, Bag}
use Rattle.told_rights.proofs.Formed.{bag_has_counts, bag_is_no_number, counted_are, keys_are, nat_has_none, number_is, set_has_keys, set_is_no_number, within}
use Rattle.told_rights.proofs.Joined.{at_other}
use Rattle.told_rights.proofs.ValueElements.{first_of}

-- ---- what a value shows

number_shows : (e : Edition) (n : ℕ) → HasValueForm e (number n) → (kind : Kind) → Allows Nat kind ↔ IsValueOf kind (number n)
number_shows e n form kinds.Nat = (λ h. number_is n (within e n form), λ v. tt)
number_shows e n form kinds.Set = (λ h. absurd h, λ v. set_is_no_number n v)
number_shows e n form kinds.Bag = (λ h. absurd h, λ v. bag_is_no_number n v)

pub shows_number : (e : Edition) (n : ℕ) → HasValueForm e (number n) → Shows Nat (number n)
shows_number e n form = record { is = number_shows e n form }

none_shows : (e : Edition) → HasValueForm e (elements []) → (kind : Kind) → Allows Keyed kind ↔ IsValueOf kind (elements [])
none_shows e form kinds.Nat = (λ h. absurd h, λ v. nat_has_none [] v)
none_shows e form kinds.Set = (λ h. keys_are [] form tt, λ v. tt)
none_shows e form kinds.Bag = (λ h. counted_are [] form tt, λ v. tt)

pub shows_none : (e : Edition) → HasValueForm e (elements []) → Shows Keyed (elements [])
shows_none e form = record { is = none_shows e form }

keys_show : (e : Edition) (s : List ℕ) (es : List Element) → HasValueForm e (elements (key s ∷ es)) → (kind : Kind) → Allows Set kind ↔ IsValueOf kind (elements (key s ∷ es))
keys_show e s es form kinds.Nat = (λ h. absurd h, λ v. nat_has_none (key s ∷ es) v)
keys_show e s es form kinds.Set = (
  λ h. elim form.of_one_kind [
    | inl keys ↦ keys_are (key s ∷ es) form keys
    | inr counts ↦ absurd (true≢false counts.0)
  ],
  λ v. tt,
)
keys_show e s es form kinds.Bag = (λ h. absurd h, λ v. true≢false (bag_has_counts (key s ∷ es) v).0)

pub shows_keys : (e : Edition) (s : List ℕ) (es : List Element) → HasValueForm e (elements (key s ∷ es)) → Shows Set (elements (key s ∷ es))
shows_keys e s es form = record { is = keys_show e s es form }

counts_show : (e : Edition) (s : List ℕ) (n : ℕ) (es : List Element) → HasValueForm e (elements (counted s n ∷ es)) → (kind : Kind) → Allows Bag kind ↔ IsValueOf kind (elements (counted s n ∷ es))
counts_show e s n es form kinds.Nat = (λ h. absurd h, λ v. nat_has_none (counted s n ∷ es) v)
counts_show e s n es form kinds.Set = (λ h. absurd h, λ v. false≢true (set_has_keys (counted s n ∷ es) v).0)
counts_show e s n es form kinds.Bag = (
  λ h. elim form.of_one_kind [
    | inl keys ↦ absurd (false≢true keys.0)
    | inr counts ↦ counted_are (counted s n ∷ es) form counts
  ],
  λ v. tt,
)

pub shows_counts : (e : Edition) (s : List ℕ) (n : ℕ) (es : List Element) → HasValueForm e (elements (counted s n ∷ es)) → Shows Bag (elements (counted s n ∷ es))
shows_counts e s n es form = record { is = counts_show e s n es form }

pub number_at : (w : Value) (n : ℕ) → w ≡ number n → (e : Edition) → HasValueForm e w → Shows Nat w
number_at w n is e form = subst (λ v. HasValueForm e v → Shows Nat v) (sym is) (shows_number e n) form

pub none_at : (w : Value) (es : List CodeElement) → w ≡ elements (map element_view es) → length es ≡ 0 → (e : Edition) → HasValueForm e w → Shows Keyed w
none_at w [] is none e form = subst (λ v. HasValueForm e v → Shows Keyed v) (sym is) (shows_none e) form
none_at w (x ∷ es) is none e form = absurd (omega (arith, none))

pub keys_at : (w : Value) (es : List CodeElement) (r : CodeElement) (s : List ℕ) → w ≡ elements (map element_view es) → 0 < length es → r ≡ get_or es 0 r → element_view r ≡ key s → (e : Edition) → HasValueForm e w → Shows Set w
keys_at w es r s is some at shows e form =
    let it = first_of es r some at in
    subst (λ v. HasValueForm e v → Shows Set v) (sym (is ∙ ap elements (it.1 ∙ ap (λ (x : Element). x ∷ it.0) shows))) (shows_keys e s it.0) form

pub counts_at : (w : Value) (es : List CodeElement) (r : CodeElement) (s : List ℕ) (n : ℕ) → w ≡ elements (map element_view es) → 0 < length es → r ≡ get_or es 0 r → element_view r ≡ counted s n → (e : Edition) → HasValueForm e w → Shows Bag w
counts_at w es r s n is some at shows e form =
    let it = first_of es r some at in
    subst (λ v. HasValueForm e v → Shows Bag v) (sym (is ∙ ap elements (it.1 ∙ ap (λ (x : Element). x ∷ it.0) shows))) (shows_counts e s n it.0) form

-- ---- what two show together

abbrev Joins : Seen → Seen → Option Seen → Type 0
Joins a b (Some both) = (kind : Kind) → Allows both kind ↔ (Allows a kind × Allows b kind)
Joins a b None = (kind : Kind) → Allows a kind → Allows b kind → ⊥

abbrev Within : Seen → Seen → Type 0
Within a b = (kind : Kind) → Allows a kind → Allows b kind

left : (a b : Seen) → Within a b → Joins a b (Some a)
left a b imp = λ kind. (λ h. (h, imp kind h), λ p. p.0)

right : (a b : Seen) → Within b a → Joins a b (Some b)
right a b imp = λ kind. (λ h. (imp kind h, h), λ p. p.1)

in_any : (a : Seen) → Within a Any
in_any a kind h = tt

in_itself : (a : Seen) → Within a a
in_itself a kind h = h

set_keyed : Within Set Keyed
set_keyed kinds.Nat h = absurd h
set_keyed kinds.Set h = tt
set_keyed kinds.Bag h = absurd h

bag_keyed : Within Bag Keyed
bag_keyed kinds.Nat h = absurd h
bag_keyed kinds.Set h = absurd h
bag_keyed kinds.Bag h = tt

keyed_nat : (kind : Kind) → Allows Keyed kind → Allows Nat kind → ⊥
keyed_nat kinds.Nat x y = x
keyed_nat kinds.Set x y = y
keyed_nat kinds.Bag x y = y

nat_set : (kind : Kind) → Allows Nat kind → Allows Set kind → ⊥
nat_set kinds.Nat x y = y
nat_set kinds.Set x y = x
nat_set kinds.Bag x y = x

nat_bag : (kind : Kind) → Allows Nat kind → Allows Bag kind → ⊥
nat_bag kinds.Nat x y = y
nat_bag kinds.Set x y = x
nat_bag kinds.Bag x y = x

set_bag : (kind : Kind) → Allows Set kind → Allows Bag kind → ⊥
set_bag kinds.Nat x y = x
set_bag kinds.Set x y = y
set_bag kinds.Bag x y = x

joins : (a b : Seen) → Joins a b (seen_with a b)
joins Any b = right Any b (in_any b)
joins Keyed Any = left Keyed Any (in_any Keyed)
joins Keyed Keyed = right Keyed Keyed (in_itself Keyed)
joins Keyed Nat = keyed_nat
joins Keyed Set = right Keyed Set set_keyed
joins Keyed Bag = right Keyed Bag bag_keyed
joins Nat Any = left Nat Any (in_any Nat)
joins Nat Keyed = λ kind x y. keyed_nat kind y x
joins Nat Nat = left Nat Nat (in_itself Nat)
joins Nat Set = nat_set
joins Nat Bag = nat_bag
joins Set Any = left Set Any (in_any Set)
joins Set Keyed = left Set Keyed set_keyed
joins Set Nat = λ kind x y. nat_set kind y x
joins Set Set = left Set Set (in_itself Set)
joins Set Bag = set_bag
joins Bag Any = left Bag Any (in_any Bag)
joins Bag Keyed = left Bag Keyed bag_keyed
joins Bag Nat = λ kind x y. nat_bag kind y x
joins Bag Set = λ kind x y. set_bag kind y x
joins Bag Bag = left Bag Bag (in_itself Bag)

with_value : (a b : Seen) (v : Value) (o : Option Seen) → Joins a b o → Shows b v → AreTogether a v o
with_value a b v (Some both) joined shows = λ kind. (λ h. let p = (joined kind).0 h in (p.0, (shows.is kind).0 p.1), λ q. (joined kind).1 (q.0, (shows.is kind).1 q.1))
with_value a b v None joined shows = λ suits. joined suits.kind suits.allowed ((shows.is suits.kind).1 suits.value)

pub are_together : (a b : Seen) (v : Value) → Shows b v → AreTogether a v (seen_with a b)
are_together a b v shows = with_value a b v (seen_with a b) (joins a b) shows

-- ---- whether some kind is left

-- what is shown of a brand is allowed
pub is_allowed : (s : Seen) → Allows s (kind_shown s)
is_allowed Any = tt
is_allowed Keyed = tt
is_allowed Nat = tt
is_allowed Set = tt
is_allowed Bag = tt

pub suits_both : (a both : Seen) (v : Value) → AreTogether a v (Some both) → Suits a v
suits_both a both v together = let p = (together (kind_shown both)).0 (is_allowed both) in record { kind = kind_shown both; allowed = p.0; value = p.1 }

pub suits_some : (a : Seen) (v : Value) (o : Option Seen) → AreTogether a v o → IsTrue (is_some o) ↔ Suits a v
suits_some a v (Some both) together = (λ h. suits_both a both v together, λ s. refl)
suits_some a v None together = (λ h. absurd (false≢true h), λ s. absurd (together s))

-- ---- after one more value

module _ (old new : BTreeMap ℕ Seen) (brand : ℕ) (both : Seen) (v : Value) (updates : Updates nat_cmp old new brand (Some both)) (together : AreTogether (unwrap_or (get nat_cmp old brand) Any) v (Some both)) where
  pub after_add : (b : ℕ) (kind : Kind) → Allows (unwrap_or (get nat_cmp new b) Any) kind ↔ (Allows (unwrap_or (get nat_cmp old b) Any) kind × (b ≡ brand → IsValueOf kind v))
  after_add b kind = elim (cases_eq b brand) [
    | inl same ↦ subst (λ x. Allows (unwrap_or (get nat_cmp new x) Any) kind ↔ (Allows (unwrap_or (get nat_cmp old x) Any) kind × (x ≡ brand → IsValueOf kind v))) (sym same) here
    | inr other ↦
        let alike : unwrap_or (get nat_cmp new b) Any ≡ unwrap_or (get nat_cmp old b) Any = ap (λ o. unwrap_or o Any) (updates.2 b (at_other brand b (λ e. other (sym e)))) in
        (λ h. (subst (λ s. Allows s kind) alike h, λ is. absurd (other is)), λ p. subst (λ s. Allows s kind) (sym alike) p.0)
  ]
    where
      seen : unwrap_or (get nat_cmp new brand) Any ≡ both
      seen = ap (λ o. unwrap_or o Any) updates.1

      here : Allows (unwrap_or (get nat_cmp new brand) Any) kind ↔ (Allows (unwrap_or (get nat_cmp old brand) Any) kind × (brand ≡ brand → IsValueOf kind v))
      here = (λ h. let p = (together kind).0 (subst (λ s. Allows s kind) seen h) in (p.0, λ is. p.1), λ p. subst (λ s. Allows s kind) (sym seen) ((together kind).1 (p.0, p.1 refl)))
