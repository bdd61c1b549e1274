-- Issuers in a map, each under the text of its keyword, and issuers that are added one after another.
use Rattle.std.proofs.Common.{◌≡◌, ℕ, ◌+◌, ◌<◌, List, [], ◌∷◌, ◌++◌, length, take, drop, get_or, All, Bool, true, false, cond, Option, Some, None, option_map, refl, sym, ap, subst, ◌∙◌, arith, length-append, take-append-drop, Global, String, string_bytes, HashMap}
use Rattle.std.proofs.lemmas.List.{drop_more, map-append}
use Rattle.std.proofs.lemmas.List.Elements.{All-head, All-push, All-tail}
use Rattle.std.proofs.lemmas.Slice.Eq.{bytes_eq-Decides}
use Rattle.std.specs.Map.{lookup, values_of}
use Rattle.std.specs.Str.{bytes_eq}
use Rattle.std.specs.String.{string_eq}
use Rattle.indexmap.specs.IndexMap.{insert_entry, values}
use Rattle.indexmap.proofs.CallerLemmas.{insert_entry-new}
use Rattle.brands.specs.declared.issuer_record.Issuer.{Issuer}
use Rattle.brands.specs.IssuerRecords.{AreApart, AreIssuers, AreKeyed, brand_under, most_issuers}

-- ---- keywords apart

-- bytes that don't match don't match the other way round
bytes_eq-turned : (a b : List ℕ) → bytes_eq a b ≡ false → bytes_eq b a ≡ false
bytes_eq-turned a b h = by (bytes_eq b a) (λ e. (bytes_eq-Decides b a).0 e)
  where
    both : b ≡ a → true ≡ false
    both e = sym ((bytes_eq-Decides a b).1 (sym e)) ∙ h

    by : (t : Bool) → (t ≡ true → b ≡ a) → t ≡ false
    by true f = both (f refl)
    by false f = refl

-- what stands nowhere stands neither first nor later
module _ (keyword : List ℕ) (i : Issuer) (is : List Issuer) where
  first_by : (t : Bool) → cond t (Some i.brand) (brand_under keyword is) ≡ None → t ≡ false
  first_by true e = absurd (cc)
  first_by false e = refl

  later_by : (t : Bool) → cond t (Some i.brand) (brand_under keyword is) ≡ None → brand_under keyword is ≡ None
  later_by true e = absurd (cc)
  later_by false e = e

  not_first : brand_under keyword (i ∷ is) ≡ None → bytes_eq keyword i.keyword ≡ false
  not_first h = first_by (bytes_eq keyword i.keyword) h

  not_later : brand_under keyword (i ∷ is) ≡ None → brand_under keyword is ≡ None
  not_later h = later_by (bytes_eq keyword i.keyword) h

  none_under-cons : bytes_eq keyword i.keyword ≡ false → brand_under keyword is ≡ None → brand_under keyword (i ∷ is) ≡ None
  none_under-cons other none = ap (λ t. cond t (Some i.brand) (brand_under keyword is)) other ∙ none

none_under-append : (keyword : List ℕ) (is js : List Issuer) → brand_under keyword is ≡ None → brand_under keyword js ≡ None → brand_under keyword (is ++ js) ≡ None
none_under-append keyword [] js h k = k
none_under-append keyword (i ∷ is) js h k = none_under-cons keyword i (is ++ js) (not_first keyword i is h) (none_under-append keyword is js (not_later keyword i is h) k)

AreApart-push : (is : List Issuer) (j : Issuer) → AreApart is → brand_under j.keyword is ≡ None → AreApart (is ++ j ∷ [])
AreApart-push [] j apart free = (refl, tt)
AreApart-push (i ∷ is) j apart free = (
  none_under-append i.keyword is (j ∷ []) apart.0 (none_under-cons i.keyword j [] (bytes_eq-turned j.keyword i.keyword (not_first j.keyword i is free)) refl),
  AreApart-push is j apart.1 (not_later j.keyword i is free),
)

-- a keyword more
AreIssuers-push : (is : List Issuer) (j : Issuer) → AreIssuers is → brand_under j.keyword is ≡ None → length is < most_issuers → AreIssuers (is ++ j ∷ [])
AreIssuers-push is j issuers free room = record { few = omega (arith, length-append is (j ∷ []), room); apart = AreApart-push is j issuers.apart free }

-- ---- look-ups

abbrev Entry : Type 0
Entry = String Global × Issuer

abbrev IsNamed : Entry → Type 0
IsNamed e = string_bytes e.0 ≡ e.1.keyword

-- a look-up of the map finds what stands under the keyword
brand_under-lookup : (keyword : List ℕ) (es : List Entry) → All IsNamed es → option_map (λ i. i.brand) (lookup (λ k. bytes_eq keyword (string_bytes k)) es) ≡ brand_under keyword (values_of es)
brand_under-lookup keyword [] texts = refl
brand_under-lookup keyword (e ∷ es) texts =
    by (bytes_eq keyword (string_bytes e.0)) _ _ (brand_under-lookup keyword es (All-tail IsNamed e es texts))
    ∙ ap (λ k. cond (bytes_eq keyword k) (Some e.1.brand) (brand_under keyword (values_of es))) (All-head IsNamed e es texts)
  where
    by : (b : Bool) (s : Option Issuer) (r : Option ℕ) → option_map (λ x. x.brand) s ≡ r → option_map (λ x. x.brand) (cond b (Some e.1) s) ≡ cond b (Some e.1.brand) r
    by true s r h = refl
    by false s r h = h

-- what a look-up by a keyword's text finds stands under the keyword
pub brand_under-found : (keyword text : List ℕ) (es : List Entry) (r : Option Issuer) → AreKeyed es → text ≡ keyword → r ≡ lookup (λ k. bytes_eq text (string_bytes k)) es → option_map (λ x. x.brand) r ≡ brand_under keyword (values_of es)
brand_under-found keyword text es r keyed same found = ap (option_map (λ x. x.brand)) found ∙ brand_under-lookup text es keyed.texts ∙ ap (λ k. brand_under k (values_of es)) same

none_below : (r : Option Issuer) → option_map (λ x. x.brand) r ≡ None → r ≡ None
none_below None h = refl
none_below (Some issuer) h = absurd (cc)

-- ---- an entry more

module _ {S : Type 0} (m : HashMap (String Global) Issuer S) (name : String Global) (issuer : Issuer) (named : string_bytes name ≡ issuer.keyword) (keyed : AreKeyed m.entries) (free : brand_under issuer.keyword (values m) ≡ None) where
  -- it stands last
  entries-insert : insert_entry string_eq m.entries name issuer ≡ m.entries ++ (name, issuer) ∷ []
  entries-insert =
      let absent : brand_under (string_bytes name) (values m) ≡ None = rw named free in
      insert_entry-new string_eq m name issuer (none_below _ (brand_under-lookup (string_bytes name) m.entries keyed.texts ∙ absent))

  pub values-insert : values_of (insert_entry string_eq m.entries name issuer) ≡ values m ++ issuer ∷ []
  values-insert = ap values_of entries-insert ∙ map-append (λ e. e.1) m.entries ((name, issuer) ∷ [])

  pub AreKeyed-insert : length (values m) < most_issuers → AreKeyed (insert_entry string_eq m.entries name issuer)
  AreKeyed-insert room = record {
    issuers = subst AreIssuers (sym values-insert) (AreIssuers-push (values m) issuer keyed.issuers free room);
    texts = subst (All IsNamed) (sym entries-insert) (All-push IsNamed m.entries (name, issuer) keyed.texts named);
  }

-- ---- issuers added one after another

-- a keyword that stands nowhere is not that of an issuer
other_among : (keyword : List ℕ) (done : List Issuer) (i : Issuer) (rest : List Issuer) → brand_under keyword (done ++ i ∷ rest) ≡ None → bytes_eq keyword i.keyword ≡ false
other_among keyword [] i rest none = not_first keyword i rest none
other_among keyword (x ∷ done) i rest none = other_among keyword done i rest (not_later keyword x (done ++ i ∷ rest) none)

none_before : (done : List Issuer) (i : Issuer) (rest : List Issuer) → AreApart (done ++ i ∷ rest) → brand_under i.keyword done ≡ None
none_before [] i rest apart = refl
none_before (x ∷ done) i rest apart = none_under-cons i.keyword x done (bytes_eq-turned x.keyword i.keyword (other_among x.keyword done i rest apart.0)) (none_before done i rest apart.1)

-- the issuers at a place of a list
parted_at : (is : List Issuer) (n : ℕ) (i : Issuer) → n < length is → i ≡ get_or is n i → take n is ++ i ∷ drop (n + 1) is ≡ is
parted_at is n i within at = ap (λ (x : Issuer). take n is ++ x ∷ drop (n + 1) is) at ∙ ap (λ (xs : List Issuer). take n is ++ xs) (sym (drop_more is n i within)) ∙ take-append-drop n is

-- those before an issuer have not its keyword
pub free_before : (is : List Issuer) (n : ℕ) (i : Issuer) → AreIssuers is → n < length is → i ≡ get_or is n i → brand_under i.keyword (take n is) ≡ None
free_before is n i issuers within at = none_before (take n is) i (drop (n + 1) is) (subst AreApart (sym (parted_at is n i within at)) issuers.apart)
