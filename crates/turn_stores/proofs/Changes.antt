-- The places after a change: those that the turn's end is to see to are listed, and there is room to list each.
use Rattle.std.proofs.Common.{◌≡◌, ℕ, ◌+◌, ◌≤◌, List, [], ◌∷◌, ◌++◌, length, refl, sym, ap, subst, ◌∙◌, arith, Bool, true, false, not, cond, ◌||◌, ◌&&◌, length-append}
use Rattle.std.specs.Prelude.{Option, None, Some, is_some}
use Rattle.std.specs.Option.{option_map, unwrap_or}
use Rattle.std.specs.declared.cmp.Ordering.{Ordering}
use Rattle.std.specs.Ordering.{eq_by_cmp}
use Rattle.std.specs.Cmp.{IsTotalOrder}
use Rattle.std.proofs.lemmas.Cmp.{eq_by_cmp_equiv}
use Rattle.std.specs.List.{IsDistinct, sum_by}
use Rattle.std.specs.List.Sorted.{IsStrictlySortedBy}
use Rattle.std.specs.Map.{keys_of, values_of, lookup, set_value}
use Rattle.std.specs.BTreeMap.{insert_entry, is_at}
use Rattle.std.proofs.lemmas.Map.{keys-set_value, length-set_value, lookup-set_value}
use Rattle.std.proofs.lemmas.Map.Entries.{sum_by-insert_entry, sum_by-set_value}
use Rattle.std.proofs.lemmas.Map.Keys.{IsDistinct-from_sorted}
use Rattle.turn_stores.specs.declared.undo_map.place.Place.{Place}
use Rattle.turn_stores.specs.declared.undo_map.place.End.{End}
use Rattle.turn_stores.specs.declared.undo_map.place.End.TheVariants.{Back}
use Rattle.turn_stores.specs.UndoPlaces.{ArePlaces, changes, value_now, has, is_unsettled_at, is_listed, is_same, had, entries_of, settled}
use Rattle.turn_stores.proofs.Written.{entries_same, lookup-entries, of_place, settled_same}

listed_step : (a b c d : Bool) → a ≡ b → (c ≡ true → d ≡ true) → a || c ≡ true → b || d ≡ true
listed_step true b c d e r h = rw (← e) refl
listed_step false b c d e r h = rw (← e) (r h)

or_true : (b : Bool) → b || true ≡ true
or_true true = refl
or_true false = refl

changed_or : {V : Type 0} (b : Bool) (w : Place V) (x : Option (Place V)) (P : Bool) → is_unsettled_at (cond b (Some w) x) ≡ true → (b ≡ true → P ≡ true) → (is_unsettled_at x ≡ true → P ≡ true) → P ≡ true
changed_or true w x P h here there = here refl
changed_or false w x P h here there = there h

of_cond : {V : Type 0} (b : Bool) (w : Place V) (x : Option (Place V)) → of_place has (cond b (Some w) x) ≡ cond b w.now (of_place has x)
of_cond true w x = refl
of_cond false w x = refl

none_at : {X : Type 0} (b : Bool) (x y : Option X) → (b ≡ true → x ≡ y) → y ≡ None → x ≡ cond b None x
none_at true x y h n = h refl ∙ n
none_at false x y h n = refl

-- ---- the turn's end, key by key

pub rest_listed : {V : Type 0} (b l : Bool) (before after : Option (Place V)) → (b ≡ true → is_unsettled_at after ≡ false) → (b ≡ false → after ≡ before) → (is_unsettled_at before ≡ true → b || l ≡ true) → is_unsettled_at after ≡ true → l ≡ true
rest_listed true l before after same others h t = let unchanged : is_unsettled_at after ≡ false = same refl in cc
rest_listed false l before after same others h t = h (ap (λ x. is_unsettled_at x) (sym (others refl)) ∙ t)

pub not_true : (b : Bool) → (b ≡ true → false ≡ true) → b ≡ false
not_true true h = sym (h refl)
not_true false h = refl

module _ {K : Type 0} (cmp : K → K → Ordering) where
  -- ---- keys that the order does not tell apart

  listed_like : (o : IsTotalOrder cmp) (k q : K) (ks : List K) → eq_by_cmp cmp k q ≡ true → is_listed cmp k ks ≡ true → is_listed cmp q ks ≡ true
  listed_like o k q [] e h = h
  listed_like o k q (x ∷ xs) e h =
      let laws = eq_by_cmp_equiv o in
      let same : eq_by_cmp cmp x k ≡ eq_by_cmp cmp x q = laws.symm x k ∙ (laws.congr k q x e ∙ laws.symm q x) in
      let rest : is_listed cmp k xs ≡ true → is_listed cmp q xs ≡ true = listed_like o k q xs e in
      listed_step (eq_by_cmp cmp x k) (eq_by_cmp cmp x q) (is_listed cmp k xs) (is_listed cmp q xs) same rest h

  listed_more : (q k : K) (ks : List K) → is_listed cmp q ks ≡ true → is_listed cmp q (ks ++ k ∷ []) ≡ true
  listed_more q k [] h = cc
  listed_more q k (x ∷ xs) h = listed_step (is_at (cmp x) q) (is_at (cmp x) q) (is_listed cmp q xs) (is_listed cmp q (xs ++ k ∷ [])) refl (listed_more q k xs) h

  listed_last : (q k : K) (ks : List K) → is_at (cmp k) q ≡ true → is_listed cmp q (ks ++ k ∷ []) ≡ true
  listed_last q k [] h = rw h refl
  listed_last q k (x ∷ xs) h = listed_step (is_at (cmp x) q) (is_at (cmp x) q) true (is_listed cmp q (xs ++ k ∷ [])) refl (λ _. listed_last q k xs h) (or_true (is_at (cmp x) q))

  -- ---- a place is written

  one_key : (o : IsTotalOrder cmp) (key x y : K) → eq_by_cmp cmp key x ≡ true → eq_by_cmp cmp key y ≡ eq_by_cmp cmp x y
  one_key o key x y h = (eq_by_cmp_equiv o).congr key x y h

  pub lookup_written : {V : Type 0} (o : IsTotalOrder cmp) (es : List (K × Place V)) (key q : K) (p w : Place V) → lookup (is_at (cmp key)) es ≡ Some p → lookup (is_at (cmp q)) (set_value (is_at (cmp key)) es w) ≡ cond (is_at (cmp key) q) (Some w) (lookup (is_at (cmp q)) es)
  lookup_written o es key q p w h = lookup-set_value (eq_by_cmp_equiv o) (is_at (cmp key)) (one_key o key) q w es (rw h refl)

  -- the key's first change, which is listed
  pub first_change : {V : Type 0} (o : IsTotalOrder cmp) (es : List (K × Place V)) (changed listed : List K) (room : ℕ) (key : K) (p w : Place V) → ArePlaces cmp es changed room → lookup (is_at (cmp key)) es ≡ Some p → is_same p ≡ true → is_same w ≡ false → listed ≡ changed ++ key ∷ [] → ArePlaces cmp (set_value (is_at (cmp key)) es w) listed room
  first_change o es changed listed room key p w t at same other is = record {
    ordered = subst (λ ks. IsStrictlySortedBy cmp ks) (sym (keys-set_value (is_at (cmp key)) es w)) t.ordered;
    listed = λ q h. rw is (changed_or (is_at (cmp key) q) w (lookup (is_at (cmp q)) es) (is_listed cmp q (changed ++ key ∷ [])) (rw (lookup_written o es key q p w at) at h) (listed_last q key changed) (λ k. listed_more q key changed (t.listed q k)));
    few = (let sums = sum_by-set_value changes (is_at (cmp key)) es p w at in
        let before : changes p ≡ 0 = ap (λ b. cond b 0 1) same in
        let after : changes w ≡ 1 = ap (λ b. cond b 0 1) other in
        let longer : length listed ≡ length changed + 1 = ap length is ∙ length-append changed (key ∷ []) in
        let few = t.few in
        omega arith);
    room_for_all = (let l = length-set_value (is_at (cmp key)) es w in let r = t.room_for_all in omega arith);
  }

  -- a later change of it
  pub later_change : {V : Type 0} (o : IsTotalOrder cmp) (es : List (K × Place V)) (changed : List K) (room : ℕ) (key : K) (p w : Place V) → ArePlaces cmp es changed room → lookup (is_at (cmp key)) es ≡ Some p → is_same p ≡ false → is_same w ≡ false → ArePlaces cmp (set_value (is_at (cmp key)) es w) changed room
  later_change o es changed room key p w t at same other = record {
    ordered = subst (λ ks. IsStrictlySortedBy cmp ks) (sym (keys-set_value (is_at (cmp key)) es w)) t.ordered;
    listed = λ q h. changed_or (is_at (cmp key) q) w (lookup (is_at (cmp q)) es) (is_listed cmp q changed) (rw (lookup_written o es key q p w at) at h) (λ e. listed_like o key q changed e (t.listed key (rw at (ap (λ b. not (b && is_some p.now)) same)))) (t.listed q);
    few = (let sums = sum_by-set_value changes (is_at (cmp key)) es p w at in
        let before : changes p ≡ 1 = ap (λ b. cond b 0 1) same in
        let after : changes w ≡ 1 = ap (λ b. cond b 0 1) other in
        let few = t.few in
        omega arith);
    room_for_all = (let l = length-set_value (is_at (cmp key)) es w in let r = t.room_for_all in omega arith);
  }

  -- ---- what keys have

  pub distinct : {V : Type 0} (es : List (K × Place V)) → IsStrictlySortedBy cmp (keys_of es) → IsDistinct (eq_by_cmp cmp) (keys_of es)
  distinct es s = IsDistinct-from_sorted cmp (keys_of es) s

  pub value_now_of : {V : Type 0} (o : IsTotalOrder cmp) (es : List (K × Place V)) (q : K) → IsStrictlySortedBy cmp (keys_of es) → value_now cmp es q ≡ of_place has (lookup (is_at (cmp q)) es)
  value_now_of o es q s = lookup-entries (eq_by_cmp_equiv o) has q es (distinct es s)

  pub has_written : {V : Type 0} (o : IsTotalOrder cmp) (es : List (K × Place V)) (key q : K) (p w : Place V) (value : Option V) → IsStrictlySortedBy cmp (keys_of es) → lookup (is_at (cmp key)) es ≡ Some p → w.now ≡ value → value_now cmp (set_value (is_at (cmp key)) es w) q ≡ cond (is_at (cmp key) q) value (value_now cmp es q)
  has_written o es key q p w value s at is =
      let sorted : IsStrictlySortedBy cmp (keys_of (set_value (is_at (cmp key)) es w)) = subst (λ ks. IsStrictlySortedBy cmp ks) (sym (keys-set_value (is_at (cmp key)) es w)) s in
      value_now_of o (set_value (is_at (cmp key)) es w) q sorted
      ∙ (ap (of_place has) (lookup_written o es key q p w at)
      ∙ (of_cond (is_at (cmp key) q) w (lookup (is_at (cmp q)) es)
      ∙ (ap (λ v. cond (is_at (cmp key) q) v (of_place has (lookup (is_at (cmp q)) es))) is
      ∙ ap (λ x. cond (is_at (cmp key) q) value x) (sym (value_now_of o es q s)))))

  -- a key without a place has no value, whatever f gives
  pub absent_entry : {V : Type 0} (o : IsTotalOrder cmp) (f : Place V → Option V) (es : List (K × Place V)) (key : K) → IsStrictlySortedBy cmp (keys_of es) → lookup (is_at (cmp key)) es ≡ None → lookup (is_at (cmp key)) (entries_of f es) ≡ None
  absent_entry o f es key s h = lookup-entries (eq_by_cmp_equiv o) f key es (distinct es s) ∙ ap (of_place f) h

  -- ---- a place is made

  pub places_made : {V : Type 0} (o : IsTotalOrder cmp) (es made : List (K × Place V)) (changed listed : List K) (room more : ℕ) (key : K) (w : Place V) → ArePlaces cmp es changed room → lookup (is_at (cmp key)) es ≡ None → is_same w ≡ false → IsStrictlySortedBy cmp (keys_of made) → made ≡ insert_entry cmp es key w → ((q : K) → lookup (is_at (cmp q)) made ≡ cond (is_at (cmp key) q) (Some w) (lookup (is_at (cmp q)) es)) → length made ≡ length es + 1 → length es + 1 ≤ more → listed ≡ changed ++ key ∷ [] → ArePlaces cmp made listed more
  places_made o es made changed listed room more key w t absent same sorted is looks long fits by = record {
    ordered = sorted;
    listed = λ q h. rw by (changed_or (is_at (cmp key) q) w (lookup (is_at (cmp q)) es) (is_listed cmp q (changed ++ key ∷ [])) (rw (looks q) at h) (listed_last q key changed) (λ k. listed_more q key changed (t.listed q k)));
    few = (let sums = sum_by-insert_entry changes o es key w t.ordered in
        let none : unwrap_or (option_map changes (lookup (is_at (cmp key)) es)) 0 ≡ 0 = rw absent refl in
        let after : changes w ≡ 1 = ap (λ b. cond b 0 1) same in
        let is_sum : sum_by changes (values_of made) ≡ sum_by changes (values_of (insert_entry cmp es key w)) = ap (λ xs. sum_by changes (values_of xs)) is in
        let longer : length listed ≡ length changed + 1 = ap length by ∙ length-append changed (key ∷ []) in
        let few = t.few in
        omega arith);
    room_for_all = omega arith;
  }

  pub places_roomier : {V : Type 0} (es : List (K × Place V)) (changed : List K) (room more : ℕ) → ArePlaces cmp es changed room → room ≤ more → ArePlaces cmp es changed more
  places_roomier es changed room more t h = record { ordered = t.ordered; listed = t.listed; few = t.few; room_for_all = (let r = t.room_for_all in omega arith) }

  -- ---- the turn's end

  pub ended : {V : Type 0} (o : IsTotalOrder cmp) (end : End) (es ends : List (K × Place V)) → IsStrictlySortedBy cmp (keys_of ends) → entries_of (settled end) ends ≡ entries_of (settled end) es → ((q : K) → is_unsettled_at (lookup (is_at (cmp q)) ends) ≡ false) → (entries_of had ends ≡ entries_of (settled end) es) × (entries_of has ends ≡ entries_of (settled end) es)
  ended o end es ends s h same =
      let laws = eq_by_cmp_equiv o in
      let d = distinct ends s in (
        entries_same laws had (settled end) (λ p k. settled_same Back p k ∙ sym (settled_same end p k)) ends d same ∙ h,
        entries_same laws has (settled end) (λ p k. sym (settled_same end p k)) ends d same ∙ h,
      )

  pub places_ended : {V : Type 0} (es ends : List (K × Place V)) (changed : List K) (room more : ℕ) → length es ≤ room → IsStrictlySortedBy cmp (keys_of ends) → length ends ≤ length es → room ≡ more → changed ≡ [] → ((q : K) → is_unsettled_at (lookup (is_at (cmp q)) ends) ≡ false) → ArePlaces cmp ends changed more
  places_ended es ends changed room more fits s few same none h = record {
    ordered = s;
    listed = λ q k. let unchanged : is_unsettled_at (lookup (is_at (cmp q)) ends) ≡ false = h q in cc;
    few = (let zero : length changed ≡ 0 = ap length none in omega arith);
    room_for_all = omega arith;
  }

  -- ---- a key without a value

  lookup_like : {X : Type 0} (o : IsTotalOrder cmp) (k q : K) (es : List (K × X)) → is_at (cmp k) q ≡ true → lookup (is_at (cmp q)) es ≡ lookup (is_at (cmp k)) es
  lookup_like o k q [] h = refl
  lookup_like o k q (e ∷ es) h =
      let same : is_at (cmp q) e.0 ≡ is_at (cmp k) e.0 = sym ((eq_by_cmp_equiv o).congr k q e.0 h) in
      ap (λ b. cond b (Some e.1) (lookup (is_at (cmp q)) es)) same ∙ ap (λ x. cond (is_at (cmp k) e.0) (Some e.1) x) (lookup_like o k q es h)

  pub none_taken : {V : Type 0} (o : IsTotalOrder cmp) (es : List (K × V)) (key q : K) → lookup (is_at (cmp key)) es ≡ None → lookup (is_at (cmp q)) es ≡ cond (is_at (cmp key) q) None (lookup (is_at (cmp q)) es)
  none_taken o es key q h = none_at (is_at (cmp key) q) (lookup (is_at (cmp q)) es) (lookup (is_at (cmp key)) es) (lookup_like o key q es) h
