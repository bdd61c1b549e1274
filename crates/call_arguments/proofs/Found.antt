-- Names that are looked for one after another, and the set in which they are looked up.
use Rattle.std.proofs.Common.{◌≡◌, ℕ, ◌+◌, ◌<◌, ◌||◌, Bool, true, false, cond, Some, List, [], ◌∷◌, drop, get_or, length, take, refl, sym, ap, ◌∙◌}
use Rattle.std.specs.Borrow.{Bor}
use Rattle.std.specs.BTreeMap.{is_at}
use Rattle.std.specs.List.{find, list_any}
use Rattle.std.specs.Str.{bytes_eq}
use Rattle.std.proofs.lemmas.List.{drop_more, map-append, take_more}
use Rattle.std.proofs.lemmas.List.Folds.{list_any-append}
use Rattle.std.proofs.lemmas.Map.Text.{is_eq-slice_cmp}
use Rattle.call_arguments.specs.Records.{has_name}
use Rattle.call_arguments.specs.Keywords.{by_text, texts}

-- what stands behind the last name
abbrev pub no_name : Bor (List ℕ)
no_name = record { ref_ptr = (0, 0); now = [] }

module _ (p : List ℕ → Bool) (ns : List (Bor (List ℕ))) (i : ℕ) (d : Bor (List ℕ)) (lt : i < length ns) where
  next : texts (drop i ns) ≡ (get_or ns i d).now ∷ texts (drop (i + 1) ns)
  next = ap texts (drop_more ns i d lt)

  pub found_later : p (get_or ns i d).now ≡ false → find p (texts (drop i ns)) ≡ find p (texts (drop (i + 1) ns))
  found_later is = ap (find p) next ∙ ap (λ b. cond b (Some (get_or ns i d).now) (find p (texts (drop (i + 1) ns)))) is

pub more_seen : (ns : List (Bor (List ℕ))) (i : ℕ) (d q : Bor (List ℕ)) (was now : Bool) → i < length ns → was ≡ has_name q.now (texts (take i ns)) → now ≡ cond (is_at (by_text (get_or ns i d)) q) true was → now ≡ has_name q.now (texts (take (i + 1) ns))
unfolding has_name
more_seen ns i d q was now lt before is =
    let x = get_or ns i d in
    is
    ∙ rw (is_eq-slice_cmp x.now q.now, before) (by (bytes_eq x.now q.now) (list_any (λ k. bytes_eq k q.now) (texts (take i ns))))
    ∙ sym (list_any-append (λ k. bytes_eq k q.now) (texts (take i ns)) (x.now ∷ []))
    ∙ sym (ap (λ ms. list_any (λ k. bytes_eq k q.now) ms) (ap texts (take_more ns i d lt) ∙ map-append (λ (k : Bor (List ℕ)). k.now) (take i ns) (x ∷ [])))
  where
    by : (it any : Bool) → cond it true any ≡ (any || (it || false))
    by true true = refl
    by true false = refl
    by false true = refl
    by false false = refl
