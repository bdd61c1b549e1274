-- Shares that are not added to slots are refused by what the tests of plans show.
use Rattle.std.proofs.Common.{◌≡◌, List, [], ◌∷◌, inl, inr, Result, Ok, Err, refl, ap, ◌∙◌}
use Rattle.std.specs.List.{All}
use Rattle.std.proofs.lemmas.List.Elements.{All-head, All-tail}
use Rattle.proposals.specs.Gains.{CanGain, IsApart, IsGainsRefusal, IsRefused, together}
use Rattle.proposals.specs.ChangedShares.{FirstShows}
use Rattle.refusals.specs.amount_math.Content.{Content}
use Rattle.refusals.specs.amount_math.ValueView.{Fits}
use Rattle.refusals.specs.amount_math.declared.Kind.{Kind}
use Rattle.refusals.specs.amount_math.declared.Kind.TheVariants.{Nat, Set, Bag}
use Rattle.refusals.specs.amount_math.declared.PutFault.{PutFault}
use Rattle.refusals.specs.amount_math.declared.PutFault.TheVariants as put_fault
use Rattle.rearrange.specs.Slots.{can_give, each_passes, fits_slot, is_apart}
use Rattle.proposals.specs.declared.allocations.Share.{Share}
use Rattle.refusals.specs.Outcomes.{Fails, ◌>>◌, bind}
use Rattle.refusals.specs.Told.{put_told}
use Rattle.refusals.specs.declared.codes.Refusal.{Refusal}
use Rattle.value_tests.specs.Tests.{overlap_free}
use Rattle.value_tests.proofs.Sums.{overlap_none, overlap_there, refused, value_passes}

abbrev Test : Type 0
Test = Share → Result (Unit {0}) Refusal

-- ---- each share passes, or the first that doesn't

pub each_ok : (test : Test) (P : Share → Type 0) → ((r : Share) → P r → test r ≡ Ok tt) → (rs : List Share) → All P rs → each_passes test rs ≡ Ok tt
unfolding bind
each_ok test P passes [] all = refl
each_ok test P passes (r ∷ rs) all = ap (λ (t : Result (Unit {0}) Refusal). bind t (λ _. each_passes test rs)) (passes r (All-head P r rs all)) ∙ each_ok test P passes rs (All-tail P r rs all)

first_fails : (test : Test) (P S : Share → Type 0) (refusal : Refusal) → ((r : Share) → P r → test r ≡ Ok tt) → ((r : Share) → S r → test r ≡ Err refusal) → (rs : List Share) → FirstShows P S rs → each_passes test rs ≡ Err refusal
unfolding bind
first_fails test P S refusal passes fails [] shows = absurd shows
first_fails test P S refusal passes fails (r ∷ rs) (inl here) = ap (λ (t : Result (Unit {0}) Refusal). bind t (λ _. each_passes test rs)) (fails r here)
first_fails test P S refusal passes fails (r ∷ rs) (inr (p, later)) = ap (λ (t : Result (Unit {0}) Refusal). bind t (λ _. each_passes test rs)) (passes r p) ∙ first_fails test P S refusal passes fails rs later

-- ---- a share beside its slot

apart_passes : (slots : List Share) (r : Share) → IsApart slots r → is_apart slots r ≡ Ok tt
unfolding overlap_free
apart_passes slots r apart = by r.amount.value.kind (together slots r) apart
  where
    by : (kind : Kind) (c : Content) → (kind ≡ Set → Fits Set c) → overlap_free kind c ≡ Ok tt
    by Nat c fits = refl
    by Set c fits = overlap_none Set c (fits refl)
    by Bag c fits = refl

pub fits_passes : (slots : List Share) (r : Share) → CanGain slots r → fits_slot slots r ≡ Ok tt
fits_passes slots r value = value_passes r.amount.value.kind (together slots r) value

-- ---- all shares

pub both : (a b : Result (Unit {0}) Refusal) → a ≡ Ok tt → (a >> b) ≡ b
unfolding bind
both a b is = ap (λ (t : Result (Unit {0}) Refusal). bind t (λ _. b)) is

pub gains_fail : (slots gains : List Share) (fault : PutFault) → IsGainsRefusal slots gains fault → Fails (put_told fault) (can_give slots gains)
unfolding can_give bind
gains_fail slots gains (put_fault.Overlap key) shows =
    ap (λ (t : Result (Unit {0}) Refusal). bind t (λ _. each_passes (fits_slot slots) gains))
    (first_fails (is_apart slots) (IsApart slots) (IsRefused slots (put_fault.Overlap key)) _ (apart_passes slots) (λ r is. overlap_there r.amount.value.kind (together slots r) key is) gains shows)
gains_fail slots gains (put_fault.TooMuch over) (apart, shows) =
    both (each_passes (is_apart slots) gains) (each_passes (fits_slot slots) gains) (each_ok (is_apart slots) (IsApart slots) (apart_passes slots) gains apart)
    ∙ first_fails (fits_slot slots) (CanGain slots) (IsRefused slots (put_fault.TooMuch over)) _ (fits_passes slots) (λ r is. refused r.amount.value.kind (together slots r) (put_fault.TooMuch over) is) gains shows
gains_fail slots gains put_fault.NoMemory shows = tt
