-- What parts become where what is alike before and after is left out.
use Rattle.std.proofs.Common.{◌≡◌, ℕ, ◌+◌, ◌<◌, ◌≤◌, ◌==◌, Bool, true, false, cond, List, [], ◌∷◌, ◌++◌, length, get_or, map, take, drop, refl, sym, ◌∙◌, ap, arith}
use Rattle.std.proofs.lemmas.List.{map-append, take-append-drop, take_all, take_more}
use Rattle.std.proofs.lemmas.List.Sums.{sum_by-append, sum_by-cons}
use Rattle.refusals.specs.amount_math.Content.{entries}
use Rattle.refusals.specs.amount_math.Entries.{Entries, tally}
use Rattle.refusals.proofs.amount_math.Listed.{tally-append}
use Rattle.proposals.specs.declared.allocations.Share.{Share}
use Rattle.proposals.specs.declared.plans.SeatState.{SeatState}
use Rattle.proposals.specs.declared.plans.Touched.{Touched}
use Rattle.rearrange.specs.Parts.{HaveChange, HaveEntries, HaveMore, HaveShare, HaveShares, HaveTouched, entries_count}
use Rattle.rearrange.specs.Sums.{all_touched, count_after, count_before, share_count, shares_count, touched_of}
use Rattle.rearrange.specs.declared.parts.Part.{Part}
use Rattle.rearrange.specs.declared.parts.Side.TheVariants.{Before, After}
use Rattle.rearrange.specs.declared.sums.SeatShares.{SeatShares}
use Rattle.rearrange.proofs.PartCounts.{entries_count-share, tally-entries}

-- what is added on both sides
pub added_on : (f g : ℕ × List ℕ → ℕ) (old mid new : List Part) → HaveMore Before f old mid → HaveMore After g mid new → HaveChange f g old new
added_on f g old mid new a b = record {
  each = λ x. omega (arith, a.before x, a.after x, b.before x, b.after x);
}

-- ---- lists that have at each place what their elements have together

module _ {X : Type 0} (has : ℕ × List ℕ → List X → ℕ) (both : (x : ℕ × List ℕ) (xs ys : List X) → has x (xs ++ ys) ≡ has x xs + has x ys) where
  pub nothing_passed : (after : List X) (old : List Part) → HaveChange (λ x. has x ([] ++ after)) (λ x. has x after) old old
  nothing_passed after old = record { each = λ x. omega arith }

  -- one element of before, against some of those after
  pub passed_more : (before after : List X) (i : ℕ) (e : X) (rest left : List X) (old mid new : List Part) → i < length before → e ≡ get_or before i e → HaveChange (λ x. has x (take i before ++ rest)) (λ x. has x after) old mid → HaveChange (λ x. has x (e ∷ left)) (λ x. has x rest) mid new → HaveChange (λ x. has x (take (i + 1) before ++ left)) (λ x. has x after) old new
  passed_more before after i e rest left old mid new lt is a b =
      let more : take (i + 1) before ≡ take i before ++ e ∷ [] = take_more before i e lt ∙ ap (λ y. take i before ++ y ∷ []) (sym is) in
      record {
        each = λ x. omega (arith, a.each x, b.each x, both x (take i before) rest, both x (take (i + 1) before) left, ap (has x) more, both x (take i before) (e ∷ []), both x (e ∷ []) left);
      }

  -- what is left after is added
  pub passed_all : (before after : List X) (i : ℕ) (rest : List X) (old mid new : List Part) → length before ≤ i → HaveChange (λ x. has x (take i before ++ rest)) (λ x. has x after) old mid → HaveMore After (λ x. has x rest) mid new → HaveChange (λ x. has x before) (λ x. has x after) old new
  passed_all before after i rest old mid new le a b = record {
    each = λ x. omega (arith, a.each x, b.before x, b.after x, both x (take i before) rest, ap (has x) (take_all i before le));
  }

  -- some of those after are added, and the next one is left out on both sides
  pub passed_alike : (after : List X) (n : ℕ) (e : X) (rest : List X) (old new : List Part) → drop n after ≡ e ∷ rest → HaveMore After (λ x. has x (take n after)) old new → HaveChange (λ x. has x (e ∷ rest)) (λ x. has x after) old new
  passed_alike after n e rest old new is a = record {
    each = λ x. omega (arith, a.before x, a.after x, both x (take n after) (drop n after), ap (has x) (take-append-drop n after), ap (has x) is);
  }

  -- some of those after are added, and one before
  pub passed_unlike : (after : List X) (n : ℕ) (e : X) (old mid new : List Part) → HaveMore After (λ x. has x (take n after)) old mid → HaveMore Before (λ x. has x (e ∷ [])) mid new → HaveChange (λ x. has x (e ∷ drop n after)) (λ x. has x after) old new
  passed_unlike after n e old mid new a b = record {
    each = λ x. omega (arith, a.before x, a.after x, b.before x, b.after x, both x (take n after) (drop n after), ap (has x) (take-append-drop n after), both x (e ∷ []) (drop n after));
  }

pub entries_count-append : (brand : ℕ) (x : ℕ × List ℕ) (xs ys : Entries) → entries_count brand x (xs ++ ys) ≡ entries_count brand x xs + entries_count brand x ys
entries_count-append brand x xs ys = by (brand == x.0) (tally (xs ++ ys) x.1) (tally xs x.1) (tally ys x.1) (tally-append xs ys x.1)
  where
    by : (b : Bool) (s m n : ℕ) → s ≡ m + n → cond b s 0 ≡ cond b m 0 + cond b n 0
    by true s m n e = e
    by false s m n e = refl

pub shares_count-append : (x : ℕ × List ℕ) (xs ys : List Share) → shares_count x.0 x.1 (xs ++ ys) ≡ shares_count x.0 x.1 xs + shares_count x.0 x.1 ys
shares_count-append x xs ys = sum_by-append (share_count x.0 x.1) xs ys

-- a share against the first of those after
pub pair_passed : (share first : Share) (after rest : List Share) (old new : List Part) → after ≡ first ∷ rest → HaveShare share first old new → HaveShares (share ∷ rest) after old new
pair_passed share first after rest old new whole pair = record {
  each = λ x. omega (arith, pair.each x, ap (shares_count x.0 x.1) whole, sum_by-cons (share_count x.0 x.1) first rest, sum_by-cons (share_count x.0 x.1) share rest);
}

-- a share against none
pub share_passed : (share : Share) (after : List Share) (old new : List Part) → HaveMore Before (λ x. share_count x.0 x.1 share) old new → HaveShares (share ∷ after) after old new
share_passed share after old new more = record {
  each = λ x. omega (arith, more.before x, more.after x, sum_by-cons (share_count x.0 x.1) share after);
}

-- the entries of two shares of one brand
pub shares_changed : (share other : Share) (old new : List Part) → share.amount.brand ≡ other.amount.brand → HaveEntries share.amount.brand (entries share.amount.value.content) (entries other.amount.value.content) old new → HaveShare share other old new
shares_changed share other old new brand change = record {
  each = λ x. omega (
    arith,
    change.each x,
    entries_count-share share (entries share.amount.value.content) (tally-entries share.amount.value.content) x,
    entries_count-share other (entries other.amount.value.content) (tally-entries other.amount.value.content) x,
    ap (λ b. entries_count b x (entries other.amount.value.content)) brand,
  );
}

-- one seat after another
pub all_changed : (states : List SeatState) (list : List SeatShares) (i : ℕ) (s : SeatShares) (mid new : List Part) → i < length list → s ≡ get_or list i s → HaveTouched (all_touched states (take i list)) [] mid → HaveShares (touched_of states s).before (touched_of states s).after mid new → HaveTouched (all_touched states (take (i + 1) list)) [] new
all_changed states list i s mid new lt is all seat =
    let whole : all_touched states (take (i + 1) list) ≡ all_touched states (take i list) ++ touched_of states s ∷ [] =
    ap (map (touched_of states)) (take_more list i s lt ∙ ap (λ x. take i list ++ x ∷ []) (sym is)) ∙ map-append (touched_of states) (take i list) (s ∷ [])
    in
    record {
      each = λ x. omega (
        arith,
        all.each x,
        seat.each x,
        ap (count_before x.0 x.1) whole,
        sum_by-append (λ (t : Touched). shares_count x.0 x.1 t.before) (all_touched states (take i list)) (touched_of states s ∷ []),
        ap (count_after x.0 x.1) whole,
        sum_by-append (λ (t : Touched). shares_count x.0 x.1 t.after) (all_touched states (take i list)) (touched_of states s ∷ []),
      );
    }
