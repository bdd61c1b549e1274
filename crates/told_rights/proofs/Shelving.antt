-- Contents by keys: what a change at a key makes of them, and of the table that they stand for.
use Rattle.std.proofs.Common.{◌≡◌, ◌≢◌, ◌⊎◌, inl, inr, ℕ, zero, suc, ◌<◌, ◌≤◌, ◌==◌, Bool, true, false, cond, Option, Some, None, Result, Ok, Err, List, [], ◌∷◌, refl, sym, ap, subst, ◌∙◌, arith}
use Rattle.std.specs.Prelude.{◌↔◌, IfSome, IsTrue, OnOk, not, slice_get, ⊤}
use Rattle.std.proofs.lemmas.Bool.{cases_Bool, cases_lt, false≢true, le-ltb, lt-ltb, ne_eqb, true≢false}
use Rattle.std.specs.BTreeMap.{is_at}
use Rattle.std.specs.Cmp.{eq_by_cmp_equiv, nat_cmp_total, tied_itself}
use Rattle.std.specs.Map.{lookup}
use Rattle.std.specs.Option.{IsSome, unwrap_or}
use Rattle.std.specs.Ordering.{eq_by_cmp, is_eq, is_gt, nat_cmp, ordering_then}
use Rattle.std.specs.declared.cmp.Ordering.{Ordering}
use Rattle.std.specs.declared.cmp.Ordering.TheVariants.{Less, Equal, Greater}
use Rattle.row_records.specs.amount_math.Content.{Content, difference, nothing, sum}
use Rattle.row_records.specs.amount_math.Sparse.{at, at-empty, at-put, put, same_sparse}
use Rattle.row_records.specs.amount_math.Totals.{equal}
use Rattle.row_records.specs.rights_model.Place.{Place, place_cmp, place_same, place_total}
use Rattle.row_records.specs.rights_model.Table.{Table, given, holdings, holds, taken}
use Rattle.row_records.specs.rights_model.declared.Holder.{Holder}
use Rattle.row_records.specs.rights_model.declared.Holder.TheVariants.{Purse, Payment, Slot, Hand, Outside}
use Rattle.told_rights.specs.Shelves.{AreFilled, IsPut, content_at, table_of}
use Rattle.told_rights.specs.Spots.{spot_cmp, spot_same, spot_total}
use Rattle.told_rights.proofs.Joined.{same_test}

pub ok_map : {A E : Type 0} {P Q : Type 0} (r : Result A E) → (P → Q) → OnOk r P → OnOk r Q
ok_map (Ok x) f h = f h
ok_map (Err e) f h = tt

-- ---- at any keys

chosen : (b : Bool) (v w : Option Content) → unwrap_or (cond b v w) nothing ≡ cond b (unwrap_or v nothing) (unwrap_or w nothing)
chosen true v w = refl
chosen false v w = refl

module _ {K : Type 0} (cmp : K → K → Ordering) (old new : List (K × Content)) (key : K) (w : Option Content) (read : (q : K) → lookup (is_at (cmp q)) new ≡ cond (is_at (cmp key) q) w (lookup (is_at (cmp q)) old)) where
  pub put_read : IsPut cmp old new key (unwrap_or w nothing)
  put_read = record { each = λ q. ap (λ o. unwrap_or o nothing) (read q) ∙ chosen (is_at (cmp key) q) w (lookup (is_at (cmp q)) old) }

  pub stays_filled : w ≢ Some nothing → AreFilled cmp old → AreFilled cmp new
  stays_filled some filled = record { filled = λ q is. either q (cases_Bool (is_at (cmp key) q)) (sym (read q) ∙ is) }
    where
      either : (q : K) → (is_at (cmp key) q ≡ true) ⊎ (is_at (cmp key) q ≡ false) → cond (is_at (cmp key) q) w (lookup (is_at (cmp q)) old) ≡ Some nothing → ⊥
      either q (inl hit) is = some (ap (λ b. cond b w (lookup (is_at (cmp q)) old)) (sym hit) ∙ is)
      either q (inr miss) is = filled.filled q (ap (λ b. cond b w (lookup (is_at (cmp q)) old)) (sym miss) ∙ is)

pub none_is_some : ◌≡◌ {A = Option Content} None (Some nothing) → ⊥
none_is_some e = cc

pub some_is_some : (c : Content) → c ≢ nothing → ◌≡◌ {A = Option Content} (Some c) (Some nothing) → ⊥
some_is_some c other e = other (same e)
  where
    same : ◌≡◌ {A = Option Content} (Some c) (Some nothing) → c ≡ nothing
    same h = cc

pub same_put : {K : Type 0} (cmp : K → K → Ordering) (old new : List (K × Content)) (key : K) (c d : Content) → c ≡ d → IsPut cmp old new key c → IsPut cmp old new key d
same_put cmp old new key c d is put = subst (λ x. IsPut cmp old new key x) is put

pub unchanged_filled : {K : Type 0} (cmp : K → K → Ordering) (old new : List (K × Content)) → new ≡ old → AreFilled cmp old → AreFilled cmp new
unchanged_filled cmp old new is filled = subst (λ rows. AreFilled cmp rows) (sym is) filled

pub none_filled : {K : Type 0} (cmp : K → K → Ordering) (rows : List (K × Content)) → rows ≡ [] → AreFilled cmp rows
none_filled cmp rows is = subst (λ rows. AreFilled cmp rows) (sym is) (record { filled = λ k e. none_is_some e })

-- ---- at places

same_tests : (p q : Place) → is_at (spot_cmp p) q ≡ eq_by_cmp place_cmp p q
same_tests p q = same_test _ _
    (λ h. subst (λ x. eq_by_cmp place_cmp p x ≡ true) (spot_same p q (equal _ h)) (ap is_eq (tied_itself place_total p)))
    (λ h. subst (λ x. is_at (spot_cmp p) x ≡ true) (place_same p q (equal _ h)) (ap is_eq (tied_itself spot_total p)))

pub found_there : (rows : List (Place × Content)) (p : Place) → content_at spot_cmp rows p ≡ at holdings (table_of rows) p
found_there [] p = sym (at-empty holdings p)
found_there (e ∷ es) p =
    ap (λ b. unwrap_or (cond b (Some e.1) (lookup (is_at (spot_cmp p)) es)) nothing) (same_tests p e.0)
    ∙ chosen (eq_by_cmp place_cmp p e.0) (Some e.1) (lookup (is_at (spot_cmp p)) es)
    ∙ ap (λ c. cond (eq_by_cmp place_cmp p e.0) e.1 c) (found_there es p)
    ∙ sym (at-put holdings (table_of es) e.0 e.1 p)

pub table_put : (old new : List (Place × Content)) (p : Place) (c : Content) → IsPut spot_cmp old new p c → table_of new ≡ put holdings (table_of old) p c
table_put old new p c is = same_sparse holdings _ _ (λ q.
    sym (found_there new q)
    ∙ is.each q
    ∙ ap (λ x. cond (is_at (spot_cmp p) q) c x) (found_there old q)
    ∙ ap (λ b. cond b c (at holdings (table_of old) q)) (same_tests p q ∙ (eq_by_cmp_equiv place_total).symm p q)
    ∙ sym (at-put holdings (table_of old) p c q))

put_again : (t : Table) (p : Place) (c d : Content) → put holdings (put holdings t p d) p c ≡ put holdings t p c
put_again t p c d = same_sparse holdings _ _ (λ q.
    at-put holdings (put holdings t p d) p c q
    ∙ ap (λ x. cond (eq_by_cmp place_cmp q p) c x) (at-put holdings t p d q)
    ∙ twice (eq_by_cmp place_cmp q p) (at holdings t q)
    ∙ sym (at-put holdings t p c q))
  where
    twice : (b : Bool) (x : Content) → cond b c (cond b d x) ≡ cond b c x
    twice true x = refl
    twice false x = refl

given_inside : (t : Table) (h : Holder) (b : ℕ) (c : Content) → h ≢ Outside → put holdings t (h, b) (sum (holds t h b) c) ≡ given t h b c
unfolding given
given_inside t (Purse n) b c other = refl
given_inside t (Payment n) b c other = refl
given_inside t (Slot seat keyword) b c other = refl
given_inside t Hand b c other = refl
given_inside t Outside b c other = absurd (other refl)

taken_inside : (t : Table) (h : Holder) (b : ℕ) (c : Content) → h ≢ Outside → put holdings t (h, b) (difference (holds t h b) c) ≡ taken t h b c
unfolding taken
taken_inside t (Purse n) b c other = refl
taken_inside t (Payment n) b c other = refl
taken_inside t (Slot seat keyword) b c other = refl
taken_inside t Hand b c other = refl
taken_inside t Outside b c other = absurd (other refl)

pub given_outside : (t : Table) (b : ℕ) (c : Content) → t ≡ given t Outside b c
unfolding given
given_outside t b c = refl

pub taken_outside : (t : Table) (b : ℕ) (c : Content) → t ≡ taken t Outside b c
unfolding taken
taken_outside t b c = refl

module _ (old mid new : List (Place × Content)) (t : Table) (view : table_of old ≡ t) (h : Holder) (b : ℕ) (spot : Place) (there : spot ≡ (h, b)) (held after : Content) (pulled : held ≡ content_at spot_cmp old spot) (gone : IsPut spot_cmp old mid spot nothing) (back : IsPut spot_cmp mid new spot after) where
  pub held_there : held ≡ holds t h b
  held_there = pulled ∙ found_there old spot ∙ ap (λ u. at holdings u spot) view ∙ ap (at holdings t) there

  after_both : table_of new ≡ put holdings t (h, b) after
  after_both =
      table_put mid new spot after back
      ∙ ap (λ u. put holdings u spot after) (table_put old mid spot nothing gone)
      ∙ put_again (table_of old) spot after nothing
      ∙ ap (λ u. put holdings u spot after) view
      ∙ ap (λ p. put holdings t p after) there

  pub are_given : h ≢ Outside → (c : Content) → after ≡ sum held c → table_of new ≡ given t h b c
  are_given inside c is = after_both ∙ ap (put holdings t (h, b)) (is ∙ ap (λ x. sum x c) held_there) ∙ given_inside t h b c inside

  pub are_taken : h ≢ Outside → (c : Content) → after ≡ difference held c → table_of new ≡ taken t h b c
  are_taken inside c is = after_both ∙ ap (put holdings t (h, b)) (is ∙ ap (λ x. difference x c) held_there) ∙ taken_inside t h b c inside

-- what is read at a spot
pub read_there : (rows : List (Place × Content)) (t : Table) (h : Holder) (b : ℕ) (spot : Place) → table_of rows ≡ t → spot ≡ (h, b) → content_at spot_cmp rows spot ≡ holds t h b
read_there rows t h b spot view there = found_there rows spot ∙ ap (λ u. at holdings u spot) view ∙ ap (at holdings t) there

-- ---- the places of one holder

less_then : (a b : ℕ) (r : Ordering) → is_gt (ordering_then (nat_cmp a b) r) ≡ false → a ≤ b
less_then a b r h = elim (cases_lt b a) [
  | inl lt ↦ absurd (true≢false (ap (λ o. is_gt (ordering_then o r)) (sym (above a b lt)) ∙ h))
  | inr le ↦ le
]
  where
    above : (a b : ℕ) → b < a → nat_cmp a b ≡ Greater
    above a b lt =
        let not_less : b ≤ a = omega arith in
        let not_same : a ≡ b → ⊥ = λ e. absurd (omega (arith, e, lt)) in
        ap (λ t. cond t Less (cond (a == b) Equal Greater)) (le-ltb a b not_less) ∙ ap (λ t. cond t Equal Greater) (ne_eqb a b not_same)

same_then : (n : ℕ) (r : Ordering) → ordering_then (nat_cmp n n) r ≡ r
same_then n r = ap (λ o. ordering_then o r) (tied_itself nat_cmp_total n)

from_zero : (b : ℕ) (r : Ordering) → is_gt r ≡ false → is_gt (ordering_then (nat_cmp 0 b) r) ≡ false
from_zero zero r h = h
from_zero (suc b) r h = ap (λ t. is_gt (ordering_then (cond t Less (cond (0 == suc b) Equal Greater)) r)) (lt-ltb 0 (suc b) (omega arith))

pub payments_from : (p b : ℕ) → is_gt (spot_cmp (Payment p, 0) (Payment p, b)) ≡ false
payments_from p b = ap is_gt (same_then p (ordering_then (nat_cmp 0 b) Equal)) ∙ from_zero b Equal refl

pub hand_from : (b : ℕ) → is_gt (spot_cmp (Hand, 0) (Hand, b)) ≡ false
hand_from b = from_zero b Equal refl

pub payments_between : (p b : ℕ) (h : Holder) (c : ℕ) → is_gt (spot_cmp (Payment p, 0) (h, c)) ≡ false → is_gt (spot_cmp (h, c) (Payment p, b)) ≡ false → h ≡ Payment p
payments_between p b (Purse n) c low high = absurd (true≢false low)
payments_between p b (Payment n) c low high =
    let one : p ≤ n = less_then p n _ low in
    let other : n ≤ p = less_then n p _ high in
    let same : n ≡ p = omega (arith, one, other) in
    ap Payment same
payments_between p b (Slot seat keyword) c low high = absurd (true≢false high)
payments_between p b Hand c low high = absurd (true≢false high)
payments_between p b Outside c low high = absurd (true≢false high)

pub hand_between : (b : ℕ) (h : Holder) (c : ℕ) → is_gt (spot_cmp (Hand, 0) (h, c)) ≡ false → is_gt (spot_cmp (h, c) (Hand, b)) ≡ false → h ≡ Hand
hand_between b (Purse n) c low high = absurd (true≢false low)
hand_between b (Payment n) c low high = absurd (true≢false low)
hand_between b (Slot seat keyword) c low high = absurd (true≢false low)
hand_between b Hand c low high = refl
hand_between b Outside c low high = absurd (true≢false high)

module _ (rows : List (Place × Content)) (t : Table) (view : table_of rows ≡ t) (filled : AreFilled spot_cmp rows) (h : Holder) (from : (b : ℕ) → is_gt (spot_cmp (h, 0) (h, b)) ≡ false) (between : (b : ℕ) (g : Holder) (c : ℕ) → is_gt (spot_cmp (h, 0) (g, c)) ≡ false → is_gt (spot_cmp (g, c) (h, b)) ≡ false → g ≡ h) where
  nothing_at : (b : ℕ) → lookup (is_at (spot_cmp (h, b))) rows ≡ None → holds t h b ≡ nothing
  nothing_at b none = sym (read_there rows t h b (h, b) view refl) ∙ ap (λ o. unwrap_or o nothing) none

  -- there is no place from the holder's first on
  pub all_past : ((q : Place) → is_gt (spot_cmp (h, 0) q) ≡ false → lookup (is_at (spot_cmp q)) rows ≡ None) → (b : ℕ) → holds t h b ≡ nothing
  all_past none b = nothing_at b (none (h, b) (from b))

  module _ (first : Place) (c : Content) (is : lookup (is_at (spot_cmp first)) rows ≡ Some c) (low : is_gt (spot_cmp (h, 0) first) ≡ false) (least : (q : Place) → is_gt (spot_cmp (h, 0) q) ≡ false → IsSome (lookup (is_at (spot_cmp q)) rows) → is_gt (spot_cmp first q) ≡ false) where
    -- the first of those is another holder's
    pub first_other : first.0 ≢ h → (b : ℕ) → holds t h b ≡ nothing
    first_other other b = elim (lookup (is_at (spot_cmp (h, b))) rows) as (λ o. lookup (is_at (spot_cmp (h, b))) rows ≡ o → holds t h b ≡ nothing) [
      | None ↦ λ none. nothing_at b none
      | Some d ↦ λ some. absurd (other (between b first.0 first.1 low (least (h, b) (from b) (subst IsSome (sym some) refl))))
    ] refl

    pub first_own : first.0 ≡ h → ((b : ℕ) → holds t h b ≡ nothing) → ⊥
    first_own own none =
        let here : first ≡ (h, first.1) = λ i. (own i, first.1) in
        filled.filled first (is ∙ ap Some (sym (ap (λ o. unwrap_or o nothing) is) ∙ read_there rows t h first.1 first view here ∙ none first.1))

-- a test that the first is its own, and that the holder has nothing
not_own : (b : Bool) (P Q : Type 0) → (IsTrue b ↔ P) → (P → Q → ⊥) → ((P → ⊥) → Q) → IsTrue (not b) ↔ Q
not_own true P Q iff own other = (λ h. absurd (false≢true h), λ q. absurd (own (iff.0 refl) q))
not_own false P Q iff own other = (λ h. other (λ p. false≢true (iff.1 p)), λ q. refl)

module _ (rows r rest : List (Place × Content)) (t : Table) (view : table_of rows ≡ t) (filled : AreFilled spot_cmp rows) (h : Holder) (from : (b : ℕ) → is_gt (spot_cmp (h, 0) (h, b)) ≡ false) (between : (b : ℕ) (g : Holder) (c : ℕ) → is_gt (spot_cmp (h, 0) (g, c)) ≡ false → is_gt (spot_cmp (g, c) (h, b)) ≡ false → g ≡ h) (start : Place) (starts : start ≡ (h, 0)) where
  pub empty_none : ((q : Place) → is_gt (spot_cmp start q) ≡ false → lookup (is_at (spot_cmp q)) rows ≡ None) → (b : ℕ) → holds t h b ≡ nothing
  empty_none none = all_past rows t view filled h from between (λ q low. none q (subst (λ s. is_gt (spot_cmp s q) ≡ false) (sym starts) low))

  pub empty_some : (first : Place) (c : Content) → r ≡ (first, c) ∷ rest
      → IfSome (slice_get r 0) (λ e. ((is_gt (spot_cmp start e.0) ≡ false) × ⊤) × (lookup (is_at (spot_cmp e.0)) rows ≡ Some e.1))
      → ((q : Place) → is_gt (spot_cmp start q) ≡ false → IsSome (lookup (is_at (spot_cmp q)) rows) → IfSome (slice_get r 0) (λ e. is_gt (spot_cmp e.0 q) ≡ false))
      → (b : Bool) → IsTrue b ↔ (first.0 ≡ h) → IsTrue (not b) ↔ ((n : ℕ) → holds t h n ≡ nothing)
  empty_some first c steps at_first least b iff =
      let here = subst (λ (l : List (Place × Content)). IfSome (slice_get l 0) (λ e. ((is_gt (spot_cmp start e.0) ≡ false) × ⊤) × (lookup (is_at (spot_cmp e.0)) rows ≡ Some e.1))) steps at_first in
      let low : is_gt (spot_cmp (h, 0) first) ≡ false = subst (λ s. is_gt (spot_cmp s first) ≡ false) starts here.0.0 in
      let least_of : (q : Place) → is_gt (spot_cmp (h, 0) q) ≡ false → IsSome (lookup (is_at (spot_cmp q)) rows) → is_gt (spot_cmp first q) ≡ false
      = λ q from_start some. subst (λ (l : List (Place × Content)). IfSome (slice_get l 0) (λ e. is_gt (spot_cmp e.0 q) ≡ false)) steps (least q (subst (λ s. is_gt (spot_cmp s q) ≡ false) (sym starts) from_start) some) in
      not_own b (first.0 ≡ h) ((n : ℕ) → holds t h n ≡ nothing) iff
      (first_own rows t view filled h from between first c here.1 low least_of)
      (first_other rows t view filled h from between first c here.1 low least_of)
