-- Shares in a map, each under the text of its keyword, and shares that are added one after another.
use Rattle.std.proofs.Common.{◌≡◌, ℕ, ◌+◌, ◌<◌, List, [], ◌∷◌, ◌++◌, length, take, drop, get_or, All, Bool, true, false, cond, Option, Some, None, option_map, refl, sym, ap, subst, ◌∙◌, arith, length-append, take-append-drop, Global, String, string_bytes, HashMap}
use Rattle.std.proofs.lemmas.List.{drop_more, map-append}
use Rattle.std.proofs.lemmas.List.Elements.{All-head, All-push, All-tail}
use Rattle.std.specs.Map.{lookup, values_of}
use Rattle.std.specs.Str.{bytes_eq}
use Rattle.std.specs.String.{string_eq}
use Rattle.indexmap.specs.IndexMap.{insert_entry, values}
use Rattle.indexmap.proofs.CallerLemmas.{insert_entry-new}
use Rattle.host_data.specs.amount_math.declared.Amount.{Amount}
use Rattle.proposals.specs.declared.allocations.Share.{Share}
use Rattle.proposals.specs.Shares.{AreApart, AreKeyed, AreShares, amount_under, most_shares}
use Rattle.proposals.proofs.ShareLists.{AreShares-push, bytes_eq-turned, none_under-cons, not_first, not_later}

abbrev Entry : Type 0
Entry = String Global × Share

-- ---- look-ups

abbrev IsNamed : Entry → Type 0
IsNamed e = string_bytes e.0 ≡ e.1.keyword

-- a look-up of the map finds what stands under the keyword
pub amount_under-lookup : (keyword : List ℕ) (es : List Entry) → All IsNamed es → option_map (λ r. r.amount) (lookup (λ k. bytes_eq keyword (string_bytes k)) es) ≡ amount_under keyword (values_of es)
amount_under-lookup keyword [] texts = refl
amount_under-lookup keyword (e ∷ es) texts =
    by (bytes_eq keyword (string_bytes e.0)) _ _ (amount_under-lookup keyword es (All-tail IsNamed e es texts))
    ∙ ap (λ k. cond (bytes_eq keyword k) (Some e.1.amount) (amount_under keyword (values_of es))) (All-head IsNamed e es texts)
  where
    by : (b : Bool) (s : Option Share) (r : Option Amount) → option_map (λ x. x.amount) s ≡ r → option_map (λ x. x.amount) (cond b (Some e.1) s) ≡ cond b (Some e.1.amount) r
    by true s r h = refl
    by false s r h = h

-- what a look-up by a keyword's text finds stands under the keyword
pub amount_under-found : (keyword text : List ℕ) (es : List Entry) (r : Option Share) → AreKeyed es → text ≡ keyword → r ≡ lookup (λ k. bytes_eq text (string_bytes k)) es → option_map (λ x. x.amount) r ≡ amount_under keyword (values_of es)
amount_under-found keyword text es r keyed same found = ap (option_map (λ x. x.amount)) found ∙ amount_under-lookup text es keyed.texts ∙ ap (λ k. amount_under k (values_of es)) same

none_below : (r : Option Share) → option_map (λ x. x.amount) r ≡ None → r ≡ None
none_below None h = refl
none_below (Some share) h = absurd (cc)

-- ---- an entry more

module _ {S : Type 0} (m : HashMap (String Global) Share S) (name : String Global) (share : Share) (named : string_bytes name ≡ share.keyword) (keyed : AreKeyed m.entries) (free : amount_under share.keyword (values m) ≡ None) where
  -- it stands last
  pub entries-insert : insert_entry string_eq m.entries name share ≡ m.entries ++ (name, share) ∷ []
  entries-insert =
      let absent : amount_under (string_bytes name) (values m) ≡ None = rw named free in
      insert_entry-new string_eq m name share (none_below _ (amount_under-lookup (string_bytes name) m.entries keyed.texts ∙ absent))

  pub values-insert : values_of (insert_entry string_eq m.entries name share) ≡ values m ++ share ∷ []
  values-insert = ap values_of entries-insert ∙ map-append (λ e. e.1) m.entries ((name, share) ∷ [])

  pub AreKeyed-insert : length (values m) < most_shares → AreKeyed (insert_entry string_eq m.entries name share)
  AreKeyed-insert room = record {
    shares = subst AreShares (sym values-insert) (AreShares-push (values m) share keyed.shares free room);
    texts = subst (All IsNamed) (sym entries-insert) (All-push IsNamed m.entries (name, share) keyed.texts named);
  }

-- ---- shares added one after another

-- a keyword that stands nowhere is not that of a share
other_among : (keyword : List ℕ) (done : List Share) (r : Share) (rest : List Share) → amount_under keyword (done ++ r ∷ rest) ≡ None → bytes_eq keyword r.keyword ≡ false
other_among keyword [] r rest none = not_first keyword r rest none
other_among keyword (x ∷ done) r rest none = other_among keyword done r rest (not_later keyword x (done ++ r ∷ rest) none)

none_before : (done : List Share) (r : Share) (rest : List Share) → AreApart (done ++ r ∷ rest) → amount_under r.keyword done ≡ None
none_before [] r rest apart = refl
none_before (x ∷ done) r rest apart = none_under-cons r.keyword x done (bytes_eq-turned x.keyword r.keyword (other_among x.keyword done r rest apart.0)) (none_before done r rest apart.1)

-- those before a share have not its keyword, and room for it
module _ (rs done : List Share) (r : Share) (rest : List Share) (shares : AreShares rs) (are : done ++ r ∷ rest ≡ rs) where
  pub free_before : amount_under r.keyword done ≡ None
  free_before = none_before done r rest (subst AreApart (sym are) shares.apart)

  pub room_before : length done < most_shares
  room_before = omega (arith, shares.few, ap length are, length-append done (r ∷ rest))

-- the shares at a place of a list
pub parted_at : (rs : List Share) (i : ℕ) (r : Share) → i < length rs → r ≡ get_or rs i r → take i rs ++ r ∷ drop (i + 1) rs ≡ rs
parted_at rs i r within at = ap (λ (x : Share). take i rs ++ x ∷ drop (i + 1) rs) at ∙ ap (λ (xs : List Share). take i rs ++ xs) (sym (drop_more rs i r within)) ∙ take-append-drop i rs
