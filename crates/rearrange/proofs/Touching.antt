-- Lists of touched seats: the least one that isn't safe, and one that has too many slots.
use Rattle.std.proofs.Common.{◌≡◌, ℕ, ◌+◌, ◌<◌, ◌≤◌, List, [], ◌∷◌, ◌++◌, length, get_or, map, take, All, Any, Option, Some, None, MatchOption, min, ◌⊎◌, inl, inr, sym, ap, ◌∙◌, subst, arith, length-append}
use Rattle.std.proofs.Math.Seq.{get_or-append_seam}
use Rattle.std.proofs.lemmas.List.{get_or_append_left, map-append, take_more}
use Rattle.std.proofs.lemmas.List.Elements.{All-append, All-cons, All-nil, All-weaker}
use Rattle.proposals.specs.Leasts.{least_of}
use Rattle.proposals.specs.declared.plans.SeatState.{SeatState}
use Rattle.proposals.specs.declared.plans.Touched.{Touched}
use Rattle.rearrange.specs.Safety.{AreSafe, IsLeastUnsafe, IsSafeAfter}
use Rattle.rearrange.specs.Sums.{all_touched, touched_of}
use Rattle.rearrange.specs.declared.sums.SeatShares.{SeatShares}

le_or_ge : (m n : ℕ) → (m ≤ n) ⊎ (n ≤ m)
le_or_ge m n = grind arith

pub touched_more : (states : List SeatState) (list : List SeatShares) (i : ℕ) (s : SeatShares) → i < length list → s ≡ get_or list i s → all_touched states (take (i + 1) list) ≡ all_touched states (take i list) ++ touched_of states s ∷ []
touched_more states list i s lt is = ap (map (touched_of states)) (take_more list i s lt ∙ ap (λ x. take i list ++ x ∷ []) (sym is)) ∙ map-append (touched_of states) (take i list) (s ∷ [])

-- ---- some element

module _ {X : Type 0} (P : X → Type 0) where
  pub any_at : (xs : List X) (x : X) (ys : List X) → P x → Any P (xs ++ x ∷ ys)
  any_at xs x ys p = (length xs, x, within, get_or-append_seam xs x ys x, p)
    where
      within : length xs < length (xs ++ x ∷ ys)
      within = omega (arith, length-append xs (x ∷ ys))

  pub any_left : (xs ys : List X) → Any P xs → Any P (xs ++ ys)
  any_left xs ys any = (any.0, any.1, within, get_or_append_left xs ys any.1 any.0 any.2 ∙ any.3, any.4)
    where
      within : any.0 < length (xs ++ ys)
      within = omega (arith, any.2, length-append xs ys)

-- ---- the least that isn't safe

module _ (states : List SeatState) (touched : List Touched) (t : Touched) where
  abbrev Lies : ℕ → Touched → Type 0
  Lies seat x = ¬ IsSafeAfter states x → seat ≤ x.seat

  abbrev Shown : ℕ → Touched → Type 0
  Shown seat x = (x.seat ≡ seat) × ¬ IsSafeAfter states x

  one : (P : Touched → Type 0) → P t → All P (t ∷ [])
  one P p = All-cons P t [] p (All-nil P)

  pub safe_more : (o : Option ℕ) → IsSafeAfter states t → MatchOption o (AreSafe states touched) (IsLeastUnsafe states touched) → MatchOption o (AreSafe states (touched ++ t ∷ [])) (IsLeastUnsafe states (touched ++ t ∷ []))
  safe_more None safe all = All-append (IsSafeAfter states) touched (t ∷ []) all (one (IsSafeAfter states) safe)
  safe_more (Some seat) safe is = record {
    unsafe = any_left (Shown seat) touched (t ∷ []) is.unsafe;
    least = All-append (Lies seat) touched (t ∷ []) is.least (one (Lies seat) (λ unsafe. absurd (unsafe safe)));
  }

  some_is : (m n : ℕ) → ◌≡◌ {A = Option ℕ} (Some m) (Some n) → m ≡ n
  some_is m n e = cc

  pub unsafe_more : (o : Option ℕ) (m : ℕ) → ¬ IsSafeAfter states t → Some m ≡ least_of o (Some t.seat) → MatchOption o (AreSafe states touched) (IsLeastUnsafe states touched) → IsLeastUnsafe states (touched ++ t ∷ []) m
  unsafe_more None m unsafe e all = let is : m ≡ t.seat = some_is m t.seat e in record {
    unsafe = any_at (Shown m) touched t [] (sym is, unsafe);
    least = All-append (Lies m) touched (t ∷ []) (All-weaker (IsSafeAfter states) (Lies m) (λ x safe not_safe. absurd (not_safe safe)) touched all) (one (Lies m) (λ _. omega arith));
  }
  unsafe_more (Some seat) m unsafe e is = by (le_or_ge seat t.seat)
    where
      lesser : m ≡ min seat t.seat
      lesser = some_is m (min seat t.seat) e

      all_least : All (Lies m) (touched ++ t ∷ [])
      all_least = All-append (Lies m) touched (t ∷ []) (All-weaker (Lies seat) (Lies m) (λ x lies not_safe. omega (arith, lies not_safe, lesser)) touched is.least) (one (Lies m) (λ _. omega (arith, lesser)))

      by : (seat ≤ t.seat) ⊎ (t.seat ≤ seat) → IsLeastUnsafe states (touched ++ t ∷ []) m
      by (inl le) = let same : m ≡ seat = omega (arith, lesser, le) in record { unsafe = any_left (Shown m) touched (t ∷ []) (subst (λ n. Any (Shown n) touched) (sym same) is.unsafe); least = all_least }
      by (inr le) = let same : m ≡ t.seat = omega (arith, lesser, le) in record { unsafe = any_at (Shown m) touched t [] (sym same, unsafe); least = all_least }
