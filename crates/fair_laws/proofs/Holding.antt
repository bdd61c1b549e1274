-- What holds of a world within a turn, and that effects which tell no call keep it, where the turn's own row shows what
-- they need.
use Rattle.std.specs.Prelude.{◌≡◌, ◌++◌, ℕ, List, [], ◌∷◌, Option, Some, true}
use Rattle.std.specs.List.{AllByRecursion}
use Rattle.std.proofs.Common.{sym, ◌∙◌, ap, subst}
use Rattle.fair_laws.specs.Owed.{IsUncalled, Owes}
use Rattle.fair_laws.specs.Accounts.{AreStoredEffects, IsStoredEffect}
use Rattle.fair_laws.specs.ShownEffects.{AreShown, IsShown}
use Rattle.delivery_laws.specs.rules.Licence.{IsStored}
use Rattle.fair_rows.specs.ExitCauses.{Owners, cause_by_row, either}
use Rattle.fair_laws.specs.Places.{rows_of}
use Rattle.fair_rows.specs.Rows.{FollowsKit, is_offer}
use Rattle.fair_rows.specs.turn_rows.Causes.{Cause}
use Rattle.fair_rows.specs.turn_rows.Turns.{Turn}
use Rattle.delivery_laws.proofs.world_laws.Kept.{good-after}
use Rattle.delivery_laws.specs.world_state.Good.{AreGood, IsGoodEffect, IsGoodWorld}
use Rattle.delivery_laws.specs.world_state.Worlds.{Effect, State, after, after_all, empty_seat, exit, make_facet, moves, note_call, offer, seat_at}
use Rattle.fair_laws.specs.Views.{IsSteady}
use Rattle.fair_laws.proofs.Counts.{counted_after}
use Rattle.fair_laws.proofs.Left.{left_after}
use Rattle.fair_laws.proofs.Owned.{FacetsTold, IsNoFacet, facets_kept}
use Rattle.fair_laws.proofs.Telling.{AllHaveCauses, LeavesFor, Showing, causes_after, owes_after_it}

-- the world is good, all seats that were left in the turn have their causes, facets that were made are told, numbers
-- are of 32 bits, and slots keep their names
pub record Holds (row : Showing) (owners : Owners) (i : Option (List ℕ)) (w : State) : Type 0 where
  pub good : IsGoodWorld w
  pub causes : AllHaveCauses row w
  pub facets : FacetsTold owners i w
  pub steady : IsSteady w

pub holds_after : (row : Showing) (owners : Owners) (i : Option (List ℕ)) (w : State) (e : Effect) → IsUncalled e → IsNoFacet e → IsGoodEffect w e → LeavesFor row w e → Holds row owners i w → Holds row owners i (after w e)
holds_after row owners i w e un bare can leaves is = record {
  good = good-after w e can is.good;
  causes = causes_after row w e un can leaves is.causes;
  facets = facets_kept owners i w is.facets e un bare;
  steady = record { counted = counted_after w e can is.steady.counted; left = left_after w e is.good can is.steady.left };
}

-- ---- effects that need nothing but the turn's own row

abbrev pub row_of : Owners → Turn → Showing
row_of owners t i n = cause_by_row t.kind t.answer owners t i n

abbrev pub IsFit : Turn → Showing → State → Effect → Type 0
IsFit t row w (moves ms) = AllByRecursion IsStored ms
IsFit t row w (offer o) = (is_offer t ≡ true) × (FollowsKit (rows_of w.log) → ⊥)
IsFit t row w (empty_seat i rule) = ⊥
IsFit t row w (exit s cause) = row (seat_at w.seats s).instance s ≡ Some cause
IsFit t row w (make_facet f) = ⊥
IsFit t row w (note_call c) = ⊥
IsFit t row w _ = Unit {0}

abbrev pub AreFit : Turn → Showing → State → List Effect → Type 0
AreFit t row w [] = Unit {0}
AreFit t row w (e ∷ es) = IsFit t row w e × AreFit t row (after w e) es

fit_uncalled : (t : Turn) (row : Showing) (w : State) (e : Effect) → IsFit t row w e → IsUncalled e
fit_uncalled t row w (note_call c) is = is
fit_uncalled t row w e is = tt

fit_no_facet : (t : Turn) (row : Showing) (w : State) (e : Effect) → IsFit t row w e → IsNoFacet e
fit_no_facet t row w (make_facet f) is = is
fit_no_facet t row w e is = tt

fit_stored : (t : Turn) (row : Showing) (w : State) (e : Effect) → IsFit t row w e → IsStoredEffect e
fit_stored t row w (moves ms) is = is
fit_stored t row w e is = tt

fit_leaves : (t : Turn) (row : Showing) (w : State) (e : Effect) → IsGoodEffect w e → Owes w [] → IsFit t row w e → LeavesFor row w e
fit_leaves t row w (exit s cause) good owes is = ap (λ c. either c (row (seat_at w.seats s).instance s)) (owes.shown s good) ∙ is
fit_leaves t row w e good owes is = tt

-- the turn's own row shows all that this one shows
abbrev pub IsOfRow : Owners → Turn → Showing → Type 0
IsOfRow owners t row = (i n : ℕ) (cause : Cause) → row i n ≡ Some cause → row_of owners t i n ≡ Some cause

fit_shown : (owners : Owners) (t : Turn) (row : Showing) (w : State) (e : Effect) → IsOfRow owners t row → IsGoodEffect w e → Owes w [] → IsFit t row w e → IsShown owners t w e
fit_shown owners t row w (moves ms) same good owes is = is
fit_shown owners t row w (offer o) same good owes is = is
fit_shown owners t row w (empty_seat i rule) same good owes is = absurd is
fit_shown owners t row w (exit s cause) same good owes is = fit_leaves t (row_of owners t) w (exit s cause) good owes (same (seat_at w.seats s).instance s cause is)
fit_shown owners t row w (note_call c) same good owes is = absurd is
fit_shown owners t row w e same good owes is = tt

-- what such effects show, and what then holds
pub record Shows (owners : Owners) (t : Turn) (row : Showing) (i : Option (List ℕ)) (w : State) (es : List Effect) : Type 0 where
  pub shown : AreShown owners t w es
  pub stored : AreStoredEffects es
  pub owes : Owes (after_all w es) []
  pub holds : Holds row owners i (after_all w es)

module _ (owners : Owners) (t : Turn) (row : Showing) (same : IsOfRow owners t row) (i : Option (List ℕ)) where
  pub fit_all : (w : State) (es : List Effect) → Holds row owners i w → Owes w [] → AreGood w es → AreFit t row w es → Shows owners t row i w es
  fit_all w [] is owes good fit = record { shown = tt; stored = tt; owes = owes; holds = is }
  fit_all w (e ∷ es) is owes good fit =
      let un = fit_uncalled t row w e fit.0 in
      let leaves = fit_leaves t row w e good.0 owes fit.0 in
      let then = holds_after row owners i w e un (fit_no_facet t row w e fit.0) good.0 leaves is in
      let rest = fit_all (after w e) es then (owes_after_it w e good.0 un owes) good.1 fit.1 in
      record {
        shown = (fit_shown owners t row w e same good.0 owes fit.0, rest.shown);
        stored = (fit_stored t row w e fit.0, rest.stored);
        owes = rest.owes;
        holds = rest.holds;
      }

-- ---- one part after another

pub shown_both : (owners : Owners) (t : Turn) (w : State) (es fs : List Effect) → AreShown owners t w es → AreShown owners t (after_all w es) fs → AreShown owners t w (es ++ fs)
shown_both owners t w [] fs one two = two
shown_both owners t w (e ∷ es) fs one two = (one.0, shown_both owners t (after w e) es fs one.1 two)

pub stored_both : (es fs : List Effect) → AreStoredEffects es → AreStoredEffects fs → AreStoredEffects (es ++ fs)
stored_both [] fs one two = two
stored_both (e ∷ es) fs one two = (one.0, stored_both es fs one.1 two)

pub fit_both : (t : Turn) (row : Showing) (w : State) (es fs : List Effect) → AreFit t row w es → AreFit t row (after_all w es) fs → AreFit t row w (es ++ fs)
fit_both t row w [] fs one two = two
fit_both t row w (e ∷ es) fs one two = (one.0, fit_both t row (after w e) es fs one.1 two)

pub shows_both : (owners : Owners) (t : Turn) (row : Showing) (i : Option (List ℕ)) (w : State) (es fs : List Effect) → after_all w (es ++ fs) ≡ after_all (after_all w es) fs → Shows owners t row i w es → Shows owners t row i (after_all w es) fs → Shows owners t row i w (es ++ fs)
shows_both owners t row i w es fs same one two = record {
  shown = shown_both owners t w es fs one.shown two.shown;
  stored = stored_both es fs one.stored two.stored;
  owes = subst (λ v. Owes v []) (sym same) two.owes;
  holds = subst (Holds row owners i) (sym same) two.holds;
}
