-- The facets that a turn makes are those that its Far rows name, each of the instance that the turn is of.
use Rattle.std.specs.Prelude.{◌≡◌, ◌+◌, ℕ, suc, List, [], ◌∷◌, ◌++◌, Option, Some, length, map, refl}
use Rattle.std.specs.List.{AllByRecursion, flat_map}
use Rattle.std.proofs.Common.{append_assoc, sym, ◌∙◌, ap, arith}
use Rattle.std.proofs.lemmas.List.{append-nil}
use Rattle.fair_laws.specs.Owed.{IsUncalled}
use Rattle.fair_laws.proofs.Shown.{IsNoCall}
use Rattle.fair_laws.specs.Places.{rows_of}
use Rattle.fair_laws.proofs.Rows.{rows_append}
use Rattle.fair_rows.specs.ExitCauses.{Owners, facets_at, facets_made}
use Rattle.delivery_laws.specs.actors.Facets.{FacetView}
use Rattle.delivery_laws.specs.host_data.declared.data.ObjKind.TheVariants.{Facet, Instance}
use Rattle.delivery_laws.specs.turn_records.Events as events
use Rattle.delivery_laws.specs.turn_records.Events.{Call}
use Rattle.delivery_laws.specs.turn_records.Printed.{named, printed_call}
use Rattle.fair_rows.specs.turn_rows.Turns.{Event, called, exited, moved, opened, settled}
use Rattle.delivery_laws.specs.world_state.Worlds.{Effect, State, after, make_facet, note_call}
use Rattle.fair_laws.specs.Views.{owners_from, owners_told}
use Rattle.fair_laws.proofs.Telling.{effect_told, uncalled_rows}

-- ---- lists

flat_both : {A B : Type 0} (f : A → List B) (xs ys : List A) → flat_map f (xs ++ ys) ≡ flat_map f xs ++ flat_map f ys
flat_both f [] ys = refl
flat_both f (x ∷ xs) ys = ap (λ l. f x ++ l) (flat_both f xs ys) ∙ sym (append_assoc (f x) (flat_map f xs) (flat_map f ys))

map_both : {A B : Type 0} (f : A → B) (xs ys : List A) → map f (xs ++ ys) ≡ map f xs ++ map f ys
map_both f [] ys = refl
map_both f (x ∷ xs) ys = ap (λ l. f x ∷ l) (map_both f xs ys)

-- a facet by its name, of an instance
abbrev pub Owned : Type 0
Owned = List ℕ × Option (List ℕ)

made_both : (i : Option (List ℕ)) (a b : List Event) → facets_made i (a ++ b) ≡ facets_made i a ++ facets_made i b
made_both i a b = ap (map (λ facet. (facet, i))) (flat_both facets_at a b) ∙ map_both (λ facet. (facet, i)) (flat_map facets_at a) (flat_map facets_at b)

none_made : (i : Option (List ℕ)) (es : List Event) → AllByRecursion IsNoCall es → facets_made i es ≡ []
none_made i [] all = refl
none_made i (called c ∷ es) all = absurd all.0
none_made i (opened o ∷ es) all = none_made i es all.1
none_made i (moved m ∷ es) all = none_made i es all.1
none_made i (exited x ∷ es) all = none_made i es all.1
none_made i (settled p s ∷ es) all = none_made i es all.1

-- one more, of the next number
owners_push : (q : ℕ) (fs : List FacetView) (f : FacetView) → owners_from q (fs ++ f ∷ []) ≡ owners_from q fs ++ (named Facet (q + length fs), Some (named Instance f.instance)) ∷ []
owners_push q [] f = ap (λ n. (named Facet n, Some (named Instance f.instance)) ∷ []) (let e : q ≡ q + 0 = omega arith in e)
owners_push q (x ∷ xs) f =
    let head : Owned = (named Facet q, Some (named Instance x.instance)) in
    ap (λ l. head ∷ l) (owners_push (suc q) xs f ∙ ap (λ n. owners_from (suc q) xs ++ (named Facet n, Some (named Instance f.instance)) ∷ []) (let e : suc q + length xs ≡ q + suc (length xs) = omega arith in e))

-- ---- what a turn has made so far

abbrev pub FacetsTold : Owners → Option (List ℕ) → State → Type 0
FacetsTold owners i w = owners_told w ≡ owners ++ facets_made i (rows_of w.log)

abbrev pub IsNoFacet : Effect → Type 0
IsNoFacet (make_facet f) = ⊥
IsNoFacet _ = Unit {0}

facets_same : (w : State) (e : Effect) → IsNoFacet e → (after w e).facets ≡ w.facets
facets_same w (make_facet f) bare = absurd bare
facets_same w e bare = refl

module _ (owners : Owners) (i : Option (List ℕ)) (w : State) (told : FacetsTold owners i w) where
  pub facets_kept : (e : Effect) → IsUncalled e → IsNoFacet e → FacetsTold owners i (after w e)
  facets_kept e un bare =
      let t = effect_told w e un in
      ap (owners_from 0) (facets_same w e bare)
      ∙ told
      ∙ ap (λ l. owners ++ l) (sym (
      ap (facets_made i) (ap rows_of t.told ∙ rows_append w.log t.events)
      ∙ made_both i (rows_of w.log) (rows_of t.events)
      ∙ ap (λ l. facets_made i (rows_of w.log) ++ l) (none_made i (rows_of t.events) (uncalled_rows e (length w.seats) t.events t.are))
      ∙ append-nil (facets_made i (rows_of w.log))))

  -- a call's row, with what it names
  row_more : (c : Call) → facets_made i (rows_of (after w (note_call c)).log) ≡ facets_made i (rows_of w.log) ++ facets_made i (called (printed_call c) ∷ [])
  row_more c = ap (facets_made i) (rows_append w.log (events.called c ∷ [])) ∙ made_both i (rows_of w.log) (called (printed_call c) ∷ [])

  pub facets_called : (c : Call) → facets_at (called (printed_call c)) ≡ [] → FacetsTold owners i (after w (note_call c))
  facets_called c none =
      told ∙ ap (λ l. owners ++ l) (sym (
      row_more c
      ∙ ap (λ l. facets_made i (rows_of w.log) ++ map (λ facet. (facet, i)) (l ++ [])) none
      ∙ append-nil (facets_made i (rows_of w.log))))

  pub facets_far : (c : Call) (f : FacetView) → facets_at (called (printed_call c)) ≡ named Facet (length w.facets) ∷ [] → i ≡ Some (named Instance f.instance)
      → FacetsTold owners i (after (after w (note_call c)) (make_facet f))
  facets_far c f one of =
      let new : Owned = (named Facet (length w.facets), Some (named Instance f.instance)) in
      owners_push 0 w.facets f
      ∙ ap (λ n. owners_told w ++ (named Facet n, Some (named Instance f.instance)) ∷ []) (let e : 0 + length w.facets ≡ length w.facets = omega arith in e)
      ∙ ap (λ l. l ++ new ∷ []) told
      ∙ append_assoc owners (facets_made i (rows_of w.log)) (new ∷ [])
      ∙ ap (λ l. owners ++ l) (sym (
      row_more c
      ∙ ap (λ l. facets_made i (rows_of w.log) ++ map (λ facet. (facet, i)) (l ++ [])) one
      ∙ ap (λ j. facets_made i (rows_of w.log) ++ (named Facet (length w.facets), j) ∷ []) of))
