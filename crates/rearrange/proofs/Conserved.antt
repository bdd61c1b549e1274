-- What parts have at each place is what touched seats have.
use Rattle.std.proofs.Common.{◌≡◌, ◌≢◌, ℕ, ◌+◌, ◌<◌, ◌≤◌, ◌↔◌, cond, false, Option, Some, None, IsTrue, MatchOption, is_none, List, [], ◌∷◌, ◌++◌, length, get_or, map, take, refl, sym, ap, ◌∙◌, arith}
use Rattle.std.proofs.lemmas.List.Sums.{sum_by-append}
use Rattle.std.proofs.lemmas.List.{map-append, take_more}
use Rattle.std.proofs.lemmas.List.Sorted.{sum_by-IsPermutation}
use Rattle.std.proofs.lemmas.Bool.{false≢true}
use Rattle.std.specs.Cmp.{nat_cmp_total, ranks, tied_itself}
use Rattle.std.specs.List.Sorted.{IsPermutation}
use Rattle.std.specs.Ordering.{MatchOrdering, is_lt, nat_cmp, ordering_then}
use Rattle.std.specs.declared.cmp.Ordering.{Ordering}
use Rattle.std.specs.declared.cmp.Ordering.TheVariants.{Less, Equal, Greater}
use Rattle.refusals.specs.amount_math.Content.{key_cmp}
use Rattle.proposals.specs.declared.plans.SeatState.{SeatState}
use Rattle.proposals.specs.declared.plans.Touched.{Touched}
use Rattle.rearrange.specs.Parts.{AreEven, HaveAll, HaveMore, HaveSeat, HaveTouched, IsFirstUneven, is_at, parts_after, parts_before}
use Rattle.rearrange.specs.Sums.{AreConserved, IsFirstUnkept, all_touched, count_after, count_before, shares_count, touched_of}
use Rattle.rearrange.specs.declared.parts.Part.{Part}
use Rattle.rearrange.specs.declared.parts.Side.TheVariants.{Before, After}
use Rattle.rearrange.specs.declared.sums.SeatShares.{SeatShares}
use Rattle.rearrange.specs.declared.sums.Unkept.{Unkept}

-- what a seat has before and then what it has after
pub seat_on : (t : Touched) (old mid new : List Part) → HaveMore Before (λ x. shares_count x.0 x.1 t.before) old mid → HaveMore After (λ x. shares_count x.0 x.1 t.after) mid new → HaveSeat old t new
seat_on t old mid new a b = record {
  before = λ x. omega (arith, a.before x, b.before x);
  after = λ x. omega (arith, a.after x, b.after x);
}

-- one seat after another
pub all_on : (states : List SeatState) (list : List SeatShares) (i : ℕ) (s : SeatShares) (mid new : List Part) → i < length list → s ≡ get_or list i s → HaveAll [] (all_touched states (take i list)) mid → HaveSeat mid (touched_of states s) new → HaveAll [] (all_touched states (take (i + 1) list)) new
all_on states list i s mid new lt is all seat =
    let whole : all_touched states (take (i + 1) list) ≡ all_touched states (take i list) ++ touched_of states s ∷ [] =
    ap (map (touched_of states)) (take_more list i s lt ∙ ap (λ x. take i list ++ x ∷ []) (sym is)) ∙ map-append (touched_of states) (take i list) (s ∷ [])
    in
    record {
      before = λ x. omega (arith, all.before x, seat.before x, ap (count_before x.0 x.1) whole, sum_by-append (λ (t : Touched). shares_count x.0 x.1 t.before) (all_touched states (take i list)) (touched_of states s ∷ []));
      after = λ x. omega (arith, all.after x, seat.after x, ap (count_after x.0 x.1) whole, sum_by-append (λ (t : Touched). shares_count x.0 x.1 t.after) (all_touched states (take i list)) (touched_of states s ∷ []));
    }

-- ---- sorted

module _ (touched : List Touched) (ps qs : List Part) (all : HaveAll [] touched ps) (same : IsPermutation ps qs) where
  before : (x : ℕ × List ℕ) → parts_before x qs ≡ count_before x.0 x.1 touched
  before x = omega (arith, sum_by-IsPermutation (λ (p : Part). cond (is_at x p) p.before 0) ps qs same, all.before x)

  after : (x : ℕ × List ℕ) → parts_after x qs ≡ count_after x.0 x.1 touched
  after x = omega (arith, sum_by-IsPermutation (λ (p : Part). cond (is_at x p) p.after 0) ps qs same, all.after x)

  brand_by : (b d : ℕ) (r s : Ordering) → MatchOrdering r (b < d) (b ≡ d) (d < b) → is_lt (ordering_then r s) ≡ false → d ≤ b
  brand_by b d Less s h e = absurd (false≢true (sym e))
  brand_by b d Equal s h e = omega arith
  brand_by b d Greater s h e = omega arith

  element_by : (r s : Ordering) → r ≡ Equal → is_lt (ordering_then r s) ≡ false → s ≢ Less
  element_by r s tied e less = false≢true (sym e ∙ ap (λ r. is_lt (ordering_then r s)) tied ∙ ap is_lt less)

  unkept_from : (u : Unkept) → IsFirstUneven qs u → IsFirstUnkept touched u
  unkept_from u is = record {
    before = is.left ∙ before (u.brand, u.element);
    after = is.right ∙ after (u.brand, u.element);
    differ = is.differ;
    least = λ b k differ. brand_by b u.brand (nat_cmp b u.brand) (key_cmp k u.element) (ranks b u.brand) (is.first (b, k) (λ e. differ (sym (before (b, k)) ∙ e ∙ after (b, k))));
    first = λ k differ. element_by (nat_cmp u.brand u.brand) (key_cmp k u.element) (tied_itself nat_cmp_total u.brand) (is.first (u.brand, k) (λ e. differ (sym (before (u.brand, k)) ∙ e ∙ after (u.brand, k))));
  }

  pub answer_from : (found : Option Unkept) → MatchOption found (AreEven qs) (IsFirstUneven qs) → MatchOption found (AreConserved touched) (IsFirstUnkept touched)
  answer_from None even = record { each = λ b k. sym (before (b, k)) ∙ even (b, k) ∙ after (b, k) }
  answer_from (Some u) is = unkept_from u is

-- ---- what differs, sorted

module _ (touched : List Touched) (ps qs : List Part) (change : HaveTouched touched [] ps) (same : IsPermutation ps qs) where
  changed : (x : ℕ × List ℕ) → parts_before x qs + count_after x.0 x.1 touched ≡ parts_after x qs + count_before x.0 x.1 touched
  changed x = omega (arith, sum_by-IsPermutation (λ (p : Part). cond (is_at x p) p.before 0) ps qs same, sum_by-IsPermutation (λ (p : Part). cond (is_at x p) p.after 0) ps qs same, change.each x)

  pub conserved_from : (found : Option Unkept) → MatchOption found (AreEven qs) (IsFirstUneven qs) → IsTrue (is_none found) ↔ AreConserved touched
  conserved_from None even = ((λ _. record { each = λ b k. omega (arith, changed (b, k), even (b, k)) }), (λ _. refl))
  conserved_from (Some u) is = ((λ e. absurd (false≢true e)), (λ kept. absurd (is.differ (omega (arith, changed (u.brand, u.element), kept.each u.brand u.element, is.left, is.right)))))
