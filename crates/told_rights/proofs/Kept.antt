-- Contents beside the map that they are kept in: what the map has at an element, and what a change there makes of it.
use Rattle.std.proofs.Common.{◌≡◌, ◌≢◌, ◌⊎◌, inl, inr, ℕ, Bool, true, false, cond, Option, Some, None, List, [], ◌∷◌, length, refl, sym, ap, subst, ◌∙◌, arith}
use Rattle.std.specs.Prelude.{String, string_bytes, string_cmp}
use Rattle.std.specs.declared.alloc.Global.{Global}
use Rattle.std.proofs.lemmas.Bool.{cases_Bool}
use Rattle.std.proofs.lemmas.List.{length-map}
use Rattle.std.proofs.lemmas.Map.Text.{btree_map_updates_text, is_eq-slice_cmp}
use Rattle.std.specs.BTreeMap.{BTreeMap, UpdatesBy, is_at}
use Rattle.std.specs.Cmp.{eq_by_cmp_equiv}
use Rattle.std.specs.Cmp.Lexicographic.{nat_list_cmp_total, slice_cmp}
use Rattle.std.specs.FinMap.{find}
use Rattle.std.specs.List.{AllZip}
use Rattle.std.specs.Map.{lookup}
use Rattle.std.specs.Option.{unwrap_or}
use Rattle.std.specs.Ordering.{eq_by_cmp, is_eq, nat_cmp}
use Rattle.std.specs.Str.{bytes_eq}
use Rattle.row_records.specs.amount_math.Content.{Content, count, count-nothing, count-of_entries, counts, key_cmp, listed, nothing, of_entries, of_entries-nil, same_content}
use Rattle.row_records.specs.amount_math.Sparse.{at-put, put}
use Rattle.row_records.proofs.fair_rows.amount_math.Listed.{tied}
use Rattle.told_rights.specs.Listing.{AreSome, listing}

abbrev Pairs : Type 0
Pairs = List (String Global × ℕ)

abbrev Counts : Type 0
Counts = BTreeMap (String Global) ℕ

abbrev pub held_in : Pairs → Content
held_in es = of_entries (listing es)

-- ---- what is there

pub find-lookup : (q : List ℕ) (es : Pairs) → lookup (is_at (λ k. slice_cmp nat_cmp q (string_bytes k))) es ≡ find key_cmp q (listing es)
find-lookup q [] = refl
find-lookup q (e ∷ es) = ap (cond (is_eq (slice_cmp nat_cmp q (string_bytes e.0))) (Some e.1)) (find-lookup q es)

pub found_count : (es : Pairs) (q : List ℕ) → unwrap_or (lookup (is_at (λ k. slice_cmp nat_cmp q (string_bytes k))) es) 0 ≡ count (held_in es) q
found_count es q = ap (λ o. unwrap_or o 0) (find-lookup q es) ∙ sym (count-of_entries (listing es) q)

pub none_there : (es : Pairs) → es ≡ [] → held_in es ≡ nothing
none_there es e = ap held_in e ∙ of_entries-nil

pub none_some : (es : Pairs) → es ≡ [] → AreSome es
none_some es e = subst AreSome (sym e) (record { some = λ k is. absurd (never is) })
  where
    never : ◌≡◌ {A = Option ℕ} None (Some 0) → ⊥
    never is = cc

pub is_none : (es : Pairs) → AreSome es → held_in es ≡ nothing → length es ≡ 0
is_none [] some e = refl
is_none (e ∷ es) some is = absurd (some.some k (found ∙ ap Some (sym counted ∙ ap (λ c. count c k) is ∙ count-nothing k)))
  where
    k : List ℕ
    k = string_bytes e.0

    found : find key_cmp k (listing (e ∷ es)) ≡ Some e.1
    found = ap (λ b. cond b (Some e.1) (find key_cmp k (listing es))) (tied k)

    counted : count (held_in (e ∷ es)) k ≡ e.1
    counted = count-of_entries (listing (e ∷ es)) k ∙ ap (λ o. unwrap_or o 0) found

pub no_length : (es : Pairs) → length es ≡ 0 → es ≡ []
no_length [] e = refl
no_length (e ∷ es) h = absurd (omega (arith, h))

pub length-listing : (es : Pairs) → length (listing es) ≡ length es
length-listing es = length-map es (λ e. (string_bytes e.0, e.1))

-- ---- what a change makes of it

test_same : (bs q : List ℕ) → bytes_eq bs q ≡ eq_by_cmp key_cmp q bs
test_same bs q = sym (is_eq-slice_cmp bs q) ∙ (eq_by_cmp_equiv nat_list_cmp_total).symm bs q

chosen : (b : Bool) (v w : Option ℕ) → unwrap_or (cond b v w) 0 ≡ cond b (unwrap_or v 0) (unwrap_or w 0)
chosen true v w = refl
chosen false v w = refl

module _ (m n : Counts) (bs : List ℕ) (w : Option ℕ) (updates : UpdatesBy string_cmp (λ k. slice_cmp nat_cmp bs (string_bytes k)) m n w) where
  read : (q : List ℕ) → find key_cmp q (listing n.entries) ≡ cond (bytes_eq bs q) w (find key_cmp q (listing m.entries))
  read q = sym (find-lookup q n.entries) ∙ btree_map_updates_text bs m n w updates q ∙ ap (cond (bytes_eq bs q) w) (find-lookup q m.entries)

  pub after_change : (number : ℕ) → unwrap_or w 0 ≡ number → held_in n.entries ≡ put counts (held_in m.entries) bs number
  after_change number is = same_content _ _ (λ q.
      count-of_entries (listing n.entries) q
      ∙ ap (λ o. unwrap_or o 0) (read q)
      ∙ chosen (bytes_eq bs q) w (find key_cmp q (listing m.entries))
      ∙ ap (λ v. cond (bytes_eq bs q) v (listed (listing m.entries) q)) is
      ∙ ap (λ v. cond (bytes_eq bs q) number v) (sym (count-of_entries (listing m.entries) q))
      ∙ ap (λ b. cond b number (count (held_in m.entries) q)) (test_same bs q)
      ∙ sym (at-put counts (held_in m.entries) bs number q))

  pub some_after : AreSome m.entries → w ≢ Some 0 → AreSome n.entries
  some_after some other = record { some = λ q is. either q (cases_Bool (bytes_eq bs q)) (sym (read q) ∙ is) }
    where
      either : (q : List ℕ) → (bytes_eq bs q ≡ true) ⊎ (bytes_eq bs q ≡ false) → cond (bytes_eq bs q) w (find key_cmp q (listing m.entries)) ≡ Some 0 → ⊥
      either q (inl hit) is = other (ap (λ b. cond b w (find key_cmp q (listing m.entries))) (sym hit) ∙ is)
      either q (inr miss) is = some.some q (ap (λ b. cond b w (find key_cmp q (listing m.entries))) (sym miss) ∙ is)

-- ---- a copy

pub listing-clone : (es fs : Pairs) → AllZip (λ p q. (string_bytes q.0 ≡ string_bytes p.0) × (q.1 ≡ p.1)) es fs → listing fs ≡ listing es
listing-clone [] [] h = refl
listing-clone [] (f ∷ fs) h = absurd h
listing-clone (e ∷ es) [] h = absurd h
listing-clone (e ∷ es) (f ∷ fs) h = λ i. (h.0.0 i, h.0.1 i) ∷ listing-clone es fs h.1 i

pub some_alike : (es fs : Pairs) → listing fs ≡ listing es → AreSome es → AreSome fs
some_alike es fs alike some = record { some = λ k is. some.some k (ap (find key_cmp k) (sym alike) ∙ is) }
