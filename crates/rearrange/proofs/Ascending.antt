-- Numbers that are listed once, and the state of a seat where the seats ascend.
use Rattle.std.proofs.Common.{◌⊎◌, inl, inr, ◌≡◌, ℕ, zero, suc, ◌-◌, ◌<◌, ◌≤◌, ◌↔◌, ◌==◌, ◌||◌, eqb, List, [], ◌∷◌, ◌++◌, length, get_or, All, Bool, true, false, cond, Some, None, Result, Ok, Err, IsTrue, nat_lt, refl, sym, ap, subst, ◌∙◌, arith}
use Rattle.std.specs.List.{dedup, dedup_from, list_any}
use Rattle.std.specs.List.Sorted.{IsBinarySearchResult, IsNonDecreasingBy, IsSearchInRange}
use Rattle.std.specs.Ordering.{nat_cmp, ordering_index}
use Rattle.std.proofs.lemmas.Bool.{cases_lt, eq-eqb, eqb-true, ne_eqb}
use Rattle.std.proofs.lemmas.Bool.Decides.{nat_tests}
use Rattle.std.proofs.lemmas.Cmp.{ranked}
use Rattle.std.proofs.lemmas.List.{get_or_default}
use Rattle.std.proofs.lemmas.List.Elements.{All-head, All-nil, All-push, All-tail}
use Rattle.std.proofs.lemmas.List.Kept.{AllPairs-cons}
use Rattle.proposals.specs.declared.plans.SeatState.{SeatState}
use Rattle.rearrange.specs.Seats.{state_of}
use Rattle.rearrange.specs.States.{AreAscending}

-- ---- numbers

twice : (b c : Bool) → (b || c) ≡ (b || (b || c))
twice true c = refl
twice false c = refl

module _ (n : ℕ) where
  any_once_from : (k : ℕ) (xs : List ℕ) → list_any (λ m. m == n) (dedup_from eqb k xs) ≡ list_any (λ m. m == n) (k ∷ xs)
  any_once_from k [] = refl
  any_once_from k (x ∷ xs) = by (eqb x k) refl (any_once_from k xs) (any_once_from x xs)
    where
      by : (b : Bool) → eqb x k ≡ b → list_any (λ m. m == n) (dedup_from eqb k xs) ≡ list_any (λ m. m == n) (k ∷ xs) → list_any (λ m. m == n) (dedup_from eqb x xs) ≡ list_any (λ m. m == n) (x ∷ xs) → list_any (λ m. m == n) (cond b (dedup_from eqb k xs) (k ∷ dedup_from eqb x xs)) ≡ list_any (λ m. m == n) (k ∷ x ∷ xs)
      by true same here later = here ∙ twice (k == n) (list_any (λ m. m == n) xs) ∙ ap (λ m. (k == n) || ((m == n) || list_any (λ j. j == n) xs)) (sym (eqb-true x k same))
      by false other here later = ap (λ b. (k == n) || b) later

  pub any_once : (xs : List ℕ) → list_any (λ m. m == n) (dedup eqb xs) ≡ list_any (λ m. m == n) xs
  any_once [] = refl
  any_once (x ∷ xs) = any_once_from x xs

-- ---- the state of a seat

below_others : (s : SeatState) (ss : List SeatState) (k : ℕ) (d : SeatState) → AreAscending (s ∷ ss) → k < length ss → s.seat < (get_or ss k d).seat
below_others s ss k d rise lt = rise 0 (suc k) d (omega arith) (omega (arith, lt))

rise_after : (s : SeatState) (ss : List SeatState) → AreAscending (s ∷ ss) → AreAscending ss
rise_after s ss rise = λ i j d lt within. rise (suc i) (suc j) d (omega (arith, lt)) (omega (arith, within))

found : (states : List SeatState) (seat at : ℕ) (d : SeatState) → AreAscending states → at < length states → (get_or states at d).seat ≡ seat → state_of states seat ≡ Some (get_or states at d)
found [] seat at d rise lt is = absurd (omega (arith, lt))
found (s ∷ ss) seat zero d rise lt is = ap (λ b. cond b (Some s) (state_of ss seat)) (eq-eqb s.seat seat is)
found (s ∷ ss) seat (suc k) d rise lt is =
    let within : k < length ss = omega (arith, lt) in
    let less : s.seat < (get_or ss k d).seat = below_others s ss k d rise within in
    let other : eqb s.seat seat ≡ false = ne_eqb s.seat seat (λ same. absurd (omega (arith, less, same, is))) in
    ap (λ b. cond b (Some s) (state_of ss seat)) other ∙ found ss seat k d (rise_after s ss rise) within is

absent : (states : List SeatState) (seat : ℕ) → All (λ s. ¬ (s.seat ≡ seat)) states → state_of states seat ≡ None
absent [] seat none = refl
absent (s ∷ ss) seat none =
    let other : eqb s.seat seat ≡ false = ne_eqb s.seat seat (All-head (λ (t : SeatState). ¬ (t.seat ≡ seat)) s ss none) in
    ap (λ b. cond b (Some s) (state_of ss seat)) other ∙ absent ss seat (All-tail (λ (t : SeatState). ¬ (t.seat ≡ seat)) s ss none)

module _ (states : List SeatState) (seat : ℕ) (rise : AreAscending states) where
  -- the comparisons with the seat rise along the list, as a binary search asks
  comparisons_rise : IsNonDecreasingBy (λ (s : SeatState). ordering_index (nat_cmp s.seat seat)) states
  comparisons_rise = λ i j d le within.
      let seats_rise : (get_or states i d).seat ≤ (get_or states j d).seat = grind (arith, rise i j d, within, λ (same : i ≡ j). ap (λ k. (get_or states k d).seat) same) in
      grind (arith, nat_tests, seats_rise)

  abbrev pub IsSearched : Result ℕ ℕ → Type 0
  IsSearched (Ok at) = (d : SeatState) → state_of states seat ≡ Some (get_or states at d)
  IsSearched (Err at) = state_of states seat ≡ None

  -- a search by the seat ends at its state, or it has none
  pub searched : (r : Result ℕ ℕ) → IsSearchInRange r (length states) → IsBinarySearchResult (λ (s : SeatState). nat_cmp s.seat seat) states r → IsSearched r
  searched (Ok at) within equal = λ d. found states seat at d rise within (ranked _ seat _ (sym (equal d)))
  searched (Err at) within parted = absent states seat (λ k d lt. other k d lt)
    where
      other : (k : ℕ) (d : SeatState) → k < length states → ¬ ((get_or states k d).seat ≡ seat)
      other k d lt same = by (cases_lt k at)
        where
          by : (k < at) ⊎ (at ≤ k) → ⊥
          by (inl before) = absurd (omega (arith, same, ranked _ seat _ (sym ((parted comparisons_rise).0 k d (omega arith) before))))
          by (inr from) = absurd (omega (arith, same, ranked _ seat _ (sym ((parted comparisons_rise).1 k d from lt))))

-- ---- one state more

pub ascend_more : (states : List SeatState) (s : SeatState) → AreAscending states → All (λ t. t.seat < s.seat) states → AreAscending (states ++ s ∷ [])
ascend_more [] s rise above = AllPairs-cons (λ (a b : SeatState). a.seat < b.seat) s [] (All-nil (λ (t : SeatState). s.seat < t.seat)) rise
ascend_more (t ∷ ts) s rise above =
    AllPairs-cons (λ (a b : SeatState). a.seat < b.seat) t (ts ++ s ∷ [])
    (All-push (λ (x : SeatState). t.seat < x.seat) ts s (λ k d lt. below_others t ts k d rise lt) (All-head (λ (x : SeatState). x.seat < s.seat) t ts above))
    (ascend_more ts s (rise_after t ts rise) (All-tail (λ (x : SeatState). x.seat < s.seat) t ts above))

-- a seat is above all where it is above the last
pub above_last : (states : List SeatState) (last : SeatState) (seat : ℕ) → AreAscending states → 0 < length states → last ≡ get_or states (length states - 1) last → IsTrue (nat_lt last.seat seat) ↔ All (λ s. s.seat < seat) states
above_last states last seat rise some is = (to, from)
  where
    to : IsTrue (nat_lt last.seat seat) → All (λ s. s.seat < seat) states
    to above = λ k d within. by k d within (cases_lt k (length states - 1))
      where
        less : last.seat < seat
        less = grind (arith, nat_tests, above)

        at_end : (d : SeatState) → (get_or states (length states - 1) d).seat < seat
        at_end d = subst (λ (s : SeatState). s.seat < seat) (is ∙ get_or_default states (length states - 1) last d (omega (arith, some))) less

        by : (k : ℕ) (d : SeatState) → k < length states → (k < length states - 1) ⊎ (length states - 1 ≤ k) → (get_or states k d).seat < seat
        by k d within (inl before) = omega (arith, rise k (length states - 1) d before (omega (arith, some)), at_end d)
        by k d within (inr end) = subst (λ (j : ℕ). (get_or states j d).seat < seat) {x = length states - 1} (omega (arith, within, end)) (at_end d)

    from : All (λ s. s.seat < seat) states → IsTrue (nat_lt last.seat seat)
    from all =
        let less : last.seat < seat = subst (λ (s : SeatState). s.seat < seat) (sym is) (all (length states - 1) last (omega (arith, some))) in
        grind (arith, nat_tests, less)
