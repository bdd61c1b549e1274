-- A plan passes its tests where it keeps what there is, is safe and small, and is refused else as plans say.
use Rattle.std.specs.Prelude.{not, slice_index_or}
use Rattle.std.specs.List.{All, AllByRecursion, Any, list_all}
use Rattle.std.specs.Option.{option_map_or}
use Rattle.std.proofs.Common.{◌≡◌, ℕ, zero, suc, ◌<◌, ◌≤◌, Bool, true, false, cond, List, [], ◌∷◌, length, filter, map, IfSome, Option, Some, None, Result, Ok, inl, inr, refl, sym, ap, subst, ◌∙◌, arith}
use Rattle.std.proofs.lemmas.Bool.{and_from, le-leb, lt-leb}
use Rattle.std.proofs.lemmas.List.Elements.{recursion_from_All}
use Rattle.std.proofs.lemmas.List.Folds.{list_all_at}
use Rattle.rearrange.specs.TestedPlans.{is_safe_after, is_small, keeps, least_unsafe}
use Rattle.rearrange.specs.Slots.{is_safe}
use Rattle.rearrange.specs.Told.{plan_told}
use Rattle.proposals.specs.OfferSafety.{IsOfferSafe}
use Rattle.proposals.specs.Leasts.{least}
use Rattle.proposals.specs.Shares.{most_shares}
use Rattle.proposals.specs.declared.plans.SeatState.{SeatState}
use Rattle.proposals.specs.declared.plans.Touched.{Touched}
use Rattle.rearrange.specs.Plans.{IsPlanRefusal}
use Rattle.rearrange.specs.Safety.{AreSafe, IsLeastUnsafe, IsSafeAfter}
use Rattle.rearrange.specs.Seats.{state_of}
use Rattle.rearrange.specs.Sums.{AreConserved}
use Rattle.rearrange.specs.declared.plans.PlanFault.{PlanFault}
use Rattle.rearrange.specs.declared.plans.PlanFault.TheVariants as plan
use Rattle.refusals.specs.Codes.{limit, not_offer_safe}
use Rattle.refusals.specs.Outcomes.{Fails, ◌>>◌, bind, need, none_such}
use Rattle.refusals.specs.declared.codes.Refusal.{Refusal}
use Rattle.refusals.specs.declared.codes.Refusal.TheVariants.{NotConserved}
use Rattle.refusals.specs.declared.stops.Stop.{Stop}
use Rattle.refusals.specs.declared.stops.Stop.TheVariants as stops
use Rattle.rearrange.proofs.TestedConservation.{Named, if_conserved}
use Rattle.rearrange.proofs.Leasts.{AllFrom, least_is}
use Rattle.rearrange.proofs.Slots.{if_safe, safe_if}
use Rattle.rearrange.proofs.Unkept.{unkept_first}

abbrev Test : Type 0
Test = Result (Unit {0}) Refusal

-- ---- safety

module _ (states : List SeatState) where
  passes_safe : (t : Touched) → IsSafeAfter states t → is_safe_after states t ≡ true
  passes_safe t safe = by (state_of states t.seat) safe
    where
      by : (o : Option SeatState) → IfSome o (λ s. IsOfferSafe s.proposal t.after) → option_map_or (λ (s : SeatState). is_safe s.proposal t.after) o true ≡ true
      by None is = refl
      by (Some s) is = if_safe s.proposal t.after is

  safe_passed : (t : Touched) → is_safe_after states t ≡ true → IsSafeAfter states t
  safe_passed t is = by (state_of states t.seat) is
    where
      by : (o : Option SeatState) → option_map_or (λ (s : SeatState). is_safe s.proposal t.after) o true ≡ true → IfSome o (λ s. IsOfferSafe s.proposal t.after)
      by None passes = tt
      by (Some s) passes = safe_if s.proposal t.after passes

  unsafe_fails : (t : Touched) → ¬ IsSafeAfter states t → is_safe_after states t ≡ false
  unsafe_fails t unsafe = by (is_safe_after states t) refl
    where
      by : (b : Bool) → is_safe_after states t ≡ b → b ≡ false
      by false is = refl
      by true is = absurd (unsafe (safe_passed t is))

  fails_unsafe : (t : Touched) → is_safe_after states t ≡ false → ¬ IsSafeAfter states t
  fails_unsafe t fails safe = let clash : true ≡ false = sym (passes_safe t safe) ∙ fails in absurd (cc)

  abbrev is_unsafe : Touched → Bool
  is_unsafe t = not (is_safe_after states t)

  abbrev unsafe_seats : List Touched → List ℕ
  unsafe_seats ts = map (λ t. t.seat) (filter is_unsafe ts)

  none_unsafe : (ts : List Touched) → AllByRecursion (IsSafeAfter states) ts → unsafe_seats ts ≡ []
  none_unsafe [] all = refl
  none_unsafe (t ∷ ts) all =
      ap (λ b. map (λ (x : Touched). x.seat) (cond (not b) (t ∷ filter is_unsafe ts) (filter is_unsafe ts))) (passes_safe t all.0)
      ∙ none_unsafe ts all.1

  pub safe_none : (touched : List Touched) → AreSafe states touched → least_unsafe states touched ≡ None
  unfolding least_unsafe
  safe_none touched safe = ap least (none_unsafe touched (recursion_from_All (IsSafeAfter states) touched safe))

  module _ (seat : ℕ) where
    unsafe_named : (ts : List Touched) (k : ℕ) (x : Touched) → k < length ts → slice_index_or ts k x ≡ x → x.seat ≡ seat → is_safe_after states x ≡ false → Named seat (unsafe_seats ts)
    unsafe_named [] k x lt at same fails = absurd (omega (arith, lt))
    unsafe_named (t ∷ ts) zero x lt at same fails =
        subst (λ b. Named seat (map (λ (y : Touched). y.seat) (cond (not b) (t ∷ filter is_unsafe ts) (filter is_unsafe ts)))) (sym (ap (is_safe_after states) at ∙ fails))
        (inl (ap (λ (y : Touched). y.seat) at ∙ same))
    unsafe_named (t ∷ ts) (suc k) x lt at same fails = by (is_safe_after states t) (unsafe_named ts k x (omega (arith, lt)) at same fails)
      where
        by : (b : Bool) → Named seat (unsafe_seats ts) → Named seat (map (λ (y : Touched). y.seat) (cond (not b) (t ∷ filter is_unsafe ts) (filter is_unsafe ts)))
        by true later = later
        by false later = inr later

    all_from : (ts : List Touched) → AllByRecursion (λ t. ¬ IsSafeAfter states t → seat ≤ t.seat) ts → AllFrom seat (unsafe_seats ts)
    all_from [] all = tt
    all_from (t ∷ ts) all = by (is_safe_after states t) refl (all_from ts all.1)
      where
        by : (b : Bool) → is_safe_after states t ≡ b → AllFrom seat (unsafe_seats ts) → AllFrom seat (map (λ (y : Touched). y.seat) (cond (not b) (t ∷ filter is_unsafe ts) (filter is_unsafe ts)))
        by true is later = later
        by false is later = (all.0 (fails_unsafe t is), later)

    pub unsafe_least : (touched : List Touched) → IsLeastUnsafe states touched seat → least_unsafe states touched ≡ Some seat
    unfolding least_unsafe
    unsafe_least touched is =
        let any = is.unsafe in
        least_is seat (unsafe_seats touched)
        (unsafe_named touched any.0 any.1 any.2 any.3 any.4.0 (unsafe_fails any.1 any.4.1))
        (all_from touched (recursion_from_All (λ (t : Touched). ¬ IsSafeAfter states t → seat ≤ t.seat) touched is.least))

-- ---- size

all_small : (ts : List Touched) → AllByRecursion (λ (t : Touched). length t.after ≤ most_shares) ts → list_all is_small ts ≡ true
all_small [] all = refl
all_small (t ∷ ts) all = and_from (is_small t) (list_all is_small ts) (le-leb (length t.after) most_shares all.0) (all_small ts all.1)

some_large : (ts : List Touched) → Any (λ (t : Touched). most_shares < length t.after) ts → list_all is_small ts ≡ false
some_large ts any = list_all_at is_small ts any.0 any.1 any.2 (ap is_small any.3 ∙ lt-leb (length any.1.after) most_shares any.4)

-- ---- all three

module _ (states : List SeatState) (touched : List Touched) where
  abbrev after_kept : Option ℕ → Bool → Test
  after_kept unsafe small = none_such unsafe not_offer_safe >> need small (limit most_shares)

  past_kept : AreConserved touched → keeps states touched ≡ after_kept (least_unsafe states touched) (list_all is_small touched)
  unfolding keeps bind none_such
  past_kept kept = ap (λ o. bind (none_such o NotConserved) (λ _. after_kept (least_unsafe states touched) (list_all is_small touched))) (if_conserved touched kept)

  past_safe : AreConserved touched → AreSafe states touched → keeps states touched ≡ need (list_all is_small touched) (limit most_shares)
  unfolding bind none_such
  past_safe kept safe = past_kept kept ∙ ap (λ o. after_kept o (list_all is_small touched)) (safe_none states touched safe)

  pub plan_passes : AreConserved touched → AreSafe states touched → All (λ t. length t.after ≤ most_shares) touched → keeps states touched ≡ Ok tt
  unfolding need
  plan_passes kept safe small =
      past_safe kept safe
      ∙ ap (λ b. need b (limit most_shares)) (all_small touched (recursion_from_All (λ (t : Touched). length t.after ≤ most_shares) touched small))

  pub plan_fails : (fault : PlanFault) → IsPlanRefusal states touched fault → Fails (plan_told fault) (keeps states touched)
  unfolding keeps bind none_such need
  plan_fails (plan.NotConserved u) is = ap (λ o. bind (none_such o NotConserved) (λ _. after_kept (least_unsafe states touched) (list_all is_small touched))) (unkept_first touched u is)
  plan_fails (plan.NotOfferSafe seat) is = past_kept is.0 ∙ ap (λ o. after_kept o (list_all is_small touched)) (unsafe_least states seat touched is.1)
  plan_fails plan.Limit is = past_safe is.0 is.1.0 ∙ ap (λ b. need b (limit most_shares)) (some_large touched is.1.1)
  plan_fails plan.NoMemory is = tt
  plan_fails (plan.Seats fault) is = absurd is

-- ---- what comes after a test

pub past : {B : Type 0} (test : Test) (next : Result B Refusal) → test ≡ Ok tt → (test >> next) ≡ next
unfolding bind
past test next is = ap (λ (t : Test). t >> next) is

pub fails_then : {B : Type 0} (stop : Stop) (test : Test) (next : Result B Refusal) → Fails stop test → Fails stop (test >> next)
unfolding bind
fails_then stops.NoMemory test next fails = tt
fails_then (stops.Refused r) test next fails = ap (λ (t : Test). t >> next) fails
