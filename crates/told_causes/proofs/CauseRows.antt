-- What Causes keeps, row by row.
use Rattle.std.specs.Prelude.{IsTrue}
use Rattle.std.proofs.Common.{◌≡◌, ℕ, ◌↔◌, Bool, true, false, List, [], ◌∷◌, ◌++◌, map, Option, Some, None, refl, sym, ap, subst, ◌∙◌, append_assoc, append-nil}
use Rattle.std.specs.List.{flat_map}
use Rattle.std.proofs.lemmas.Grind.{flat_map-append}
use Rattle.std.proofs.lemmas.List.{map-append}
use Rattle.row_records.specs.fair_rows.ExitCauses.{Owners, facets_at, facets_made, first_cause, instance_of}
use Rattle.row_records.specs.fair_rows.Rows.{FollowsKit, InTurn, after_event, is_offer}
use Rattle.row_records.specs.fair_rows.Seats.{IsOpen, Seat}
use Rattle.row_records.specs.fair_rows.SoFar.{SoFar}
use Rattle.row_records.specs.fair_rows.Turns.{HasFirstCause, after_turn_row}
use Rattle.row_records.specs.turn_records.Views.{cause_view}
use Rattle.row_records.specs.turn_records.declared.events.Cause as code
use Rattle.row_records.specs.turn_rows.Turns.{Call, Event, SeatExit, Turn, called, exited, moved, opened, settled}
use Rattle.told_causes.specs.ToldCauses.{IsKitCall, IsNoDeed, IsShownByRow, TellsCauses, TellsStandings, owners_here}
use Rattle.told_causes.specs.ToldFacets.{TellsOwners, owner_name}
use Rattle.told_causes.specs.declared.causes.Causes.{Causes}
use Rattle.told_causes.proofs.Appended.{is_call_row}
use Rattle.told_causes.proofs.Ended.{one_cause}

-- ---- facets

facets_more : (inst : Option (List ℕ)) (es : List Event) (e : Event) → facets_made inst (es ++ e ∷ []) ≡ facets_made inst es ++ facets_made inst (e ∷ [])
facets_more inst es e = ap (map (λ facet. (facet, inst))) (flat_map-append facets_at es (e ∷ [])) ∙ map-append (λ facet. (facet, inst)) (flat_map facets_at es) (flat_map facets_at (e ∷ []))

owners_more : (i : InTurn) (e : Event) → owners_here (after_event i e) ≡ owners_here i ++ facets_made (instance_of i.before.owners i.row.kind i.row) (e ∷ [])
owners_more i e =
    ap (λ os. i.before.owners ++ os) (facets_more (instance_of i.before.owners i.row.kind i.row) i.here e)
    ∙ sym (append_assoc i.before.owners (facets_made (instance_of i.before.owners i.row.kind i.row) i.here) (facets_made (instance_of i.before.owners i.row.kind i.row) (e ∷ [])))

no_facets : (inst : Option (List ℕ)) (e : Event) → is_call_row e ≡ false → facets_made inst (e ∷ []) ≡ []
no_facets inst (called c) h = absurd (cc)
no_facets inst (opened o) h = refl
no_facets inst (moved m) h = refl
no_facets inst (exited x) h = refl
no_facets inst (settled p r) h = refl

owners_kept : (i : InTurn) (e : Event) → is_call_row e ≡ false → owners_here (after_event i e) ≡ owners_here i
owners_kept i e plain = owners_more i e ∙ ap (λ os. owners_here i ++ os) (no_facets (instance_of i.before.owners i.row.kind i.row) e plain) ∙ append-nil (owners_here i)

-- ---- the last row

last_same : {A : Type 0} (xs ys : List A) (x y : A) → xs ++ x ∷ [] ≡ ys ++ y ∷ [] → x ≡ y
last_same [] [] x y h = cc
last_same [] (b ∷ []) x y h = absurd (cc h)
last_same [] (b ∷ c ∷ ys) x y h = absurd (cc h)
last_same (a ∷ []) [] x y h = absurd (cc h)
last_same (a ∷ b ∷ xs) [] x y h = absurd (cc h)
last_same (a ∷ xs) (b ∷ ys) x y h = last_same xs ys x y cc

pub kit_first : FollowsKit [] → ⊥
kit_first f = by f.more f.last
  where
    by : (xs : List Event) → [] ≡ xs ++ called f.call ∷ [] → ⊥
    by [] h = cc
    by (x ∷ xs) h = cc

kit_more : (here : List Event) (c : Call) (b : Bool) → IsTrue b ↔ IsKitCall c → IsTrue b ↔ FollowsKit (here ++ called c ∷ [])
kit_more here c b is = (there, back)
  where
    there : IsTrue b → FollowsKit (here ++ called c ∷ [])
    there h = let kit = is.0 h in record { more = here; call = c; last = refl; instance = kit.instance; made = kit.made }

    back : FollowsKit (here ++ called c ∷ []) → IsTrue b
    back f =
        let events : called c ≡ called f.call = last_same here f.more (called c) (called f.call) f.last in
        let one : f.call ≡ c = cc in
        let kit : IsKitCall f.call = record { instance = f.instance; made = f.made } in
        is.1 (subst IsKitCall one kit)

no_kit : (here : List Event) (e : Event) → is_call_row e ≡ false → IsTrue false ↔ FollowsKit (here ++ e ∷ [])
no_kit here e plain = ((λ h. absurd (cc h)), (λ f. absurd (by e plain (last_same here f.more e (called f.call) f.last))))
  where
    by : {c : Call} (e : Event) → is_call_row e ≡ false → e ≡ called c → ⊥
    by {c} e h is = let no : is_call_row e ≡ true = ap is_call_row is in cc

-- ---- rows

pub called_kept : (old new : Causes) (i : InTurn) (c : Call) → TellsCauses old i → TellsStandings new.standings (after_event i (called c))
    → ((os : Owners) → TellsOwners old.facets os → TellsOwners new.facets (os ++ facets_made (owner_name old.instance) (called c ∷ [])))
    → new.instance ≡ old.instance → new.shows ≡ old.shows → new.is_offer ≡ old.is_offer → IsTrue new.follows_kit ↔ IsKitCall c → TellsCauses new (after_event i (called c))
called_kept old new i c told standings facets instance shows offer kit = record {
  standings = standings;
  facets = subst (TellsOwners new.facets) (sym (owners_more i (called c))) (subst (λ inst. TellsOwners new.facets (owners_here i ++ facets_made inst (called c ∷ []))) told.instance (facets (owners_here i) told.facets));
  instance = ap owner_name instance ∙ told.instance;
  shows = subst (λ s. IsShownByRow s i) (sym shows) told.shows;
  offer = offer ∙ told.offer;
  kit = kit_more i.here c new.follows_kit kit;
}

pub other_kept : (old new : Causes) (i : InTurn) (e : Event) → is_call_row e ≡ false → TellsCauses old i → TellsStandings new.standings (after_event i e)
    → new.facets ≡ old.facets → new.instance ≡ old.instance → new.shows ≡ old.shows → new.is_offer ≡ old.is_offer → new.follows_kit ≡ false → TellsCauses new (after_event i e)
other_kept old new i e plain told standings facets instance shows offer kit = record {
  standings = standings;
  facets = subst (TellsOwners new.facets) (sym (owners_kept i e plain)) (subst (λ f. TellsOwners f (owners_here i)) (sym facets) told.facets);
  instance = ap owner_name instance ∙ told.instance;
  shows = subst (λ s. IsShownByRow s i) (sym shows) told.shows;
  offer = offer ∙ told.offer;
  kit = subst (λ b. IsTrue b ↔ FollowsKit (i.here ++ e ∷ [])) (sym kit) (no_kit i.here e plain);
}

pub plain_row : (e : Event) → IsNoDeed e → is_call_row e ≡ false
plain_row (called c) h = absurd h
plain_row (opened o) h = refl
plain_row (moved m) h = refl
plain_row (exited x) h = refl
plain_row (settled p r) h = refl

pub begun : (k : Causes) (s : SoFar) (t : Turn) → TellsStandings k.standings (after_turn_row s t) → TellsOwners k.facets s.owners → owner_name k.instance ≡ instance_of s.owners t.kind t
    → IsShownByRow k.shows (after_turn_row s t) → k.is_offer ≡ is_offer t → k.follows_kit ≡ false → TellsCauses k (after_turn_row s t)
begun k s t standings facets instance shows offer kit = record {
  standings = standings;
  facets = subst (TellsOwners k.facets) (sym (append-nil s.owners)) facets;
  instance = instance;
  shows = shows;
  offer = offer;
  kit = subst (λ b. IsTrue b ↔ FollowsKit []) (sym kit) ((λ h. absurd (cc h)), (λ f. absurd (kit_first f)));
}

-- ---- the first cause

module _ (i : InTurn) (x : SeatExit) (other : code.Cause) (cause_is : x.cause ≡ cause_view other) (is_open : IsOpen i.now.seats x.seat) where
  pub first_is : (b : Bool) (cause : code.Cause) → IsTrue b ↔ (cause ≡ other) → Some (cause_view cause) ≡ first_cause i.before.owners i.row i.here is_open.seat.opening.instance x.seat → IsTrue b ↔ HasFirstCause i.now.seats i.before.owners i.row i.here x
  first_is b cause test is = (there, back)
    where
      there : IsTrue b → HasFirstCause i.now.seats i.before.owners i.row i.here x
      there h = record { seat = is_open.seat; was_opened = is_open.was_opened; first = sym is ∙ ap (λ c. Some (cause_view c)) (test.0 h) ∙ ap Some (sym cause_is) }

      back : HasFirstCause i.now.seats i.before.owners i.row i.here x → IsTrue b
      back h =
          let one : h.seat ≡ is_open.seat = (let e : Some h.seat ≡ Some is_open.seat = sym h.was_opened ∙ is_open.was_opened in cc) in
          let shown : Some (cause_view cause) ≡ Some x.cause = is ∙ subst (λ (s : Seat). first_cause i.before.owners i.row i.here s.opening.instance x.seat ≡ Some x.cause) one h.first in
          test.1 (one_cause cause other (let e : cause_view cause ≡ cause_view other = cc in e))

  pub first_none : None ≡ first_cause i.before.owners i.row i.here is_open.seat.opening.instance x.seat → IsTrue false ↔ HasFirstCause i.now.seats i.before.owners i.row i.here x
  first_none is = (
    (λ h. absurd (cc h)),
    (λ h. absurd (
        let one : h.seat ≡ is_open.seat = (let e : Some h.seat ≡ Some is_open.seat = sym h.was_opened ∙ is_open.was_opened in cc) in
        let shown : None ≡ Some x.cause = is ∙ subst (λ (s : Seat). first_cause i.before.owners i.row i.here s.opening.instance x.seat ≡ Some x.cause) one h.first in
        cc)),
  )
