-- The first share that doesn't pass, where the shares before it did.
use Rattle.std.proofs.Common.{◌≡◌, ◌≢◌, ◌<◌, ◌≤◌, ℕ, zero, suc, List, [], ◌∷◌, length, get_or, take, All, inl, inr, refl, sym, subst, arith}
use Rattle.std.proofs.lemmas.List.{take_all}
use Rattle.std.proofs.lemmas.List.Elements.{All-head, All-same, All-tail}
use Rattle.host_data.specs.amount_math.ValueView.{Fits, fits_from_value}
use Rattle.host_data.specs.amount_math.declared.Kind.{Kind}
use Rattle.host_data.specs.amount_math.declared.PutFault.{PutFault}
use Rattle.host_data.specs.amount_math.declared.PutFault.TheVariants.{NoMemory, Overlap, TooMuch}
use Rattle.host_data.specs.amount_math.declared.TooMuch as over
use Rattle.proposals.specs.declared.allocations.Share.{Share}
use Rattle.proposals.specs.Gains.{CanGain, IsApart, IsGainsRefusal, IsRefused, together}
use Rattle.proposals.specs.ChangedShares.{FirstShows}

pub first_shows : (Passes Shows : Share → Type 0) (rs : List Share) (i : ℕ) (d : Share) → i < length rs → All Passes (take i rs) → Shows (get_or rs i d) → FirstShows Passes Shows rs
first_shows Passes Shows [] i d within passed shows = absurd (omega arith)
first_shows Passes Shows (r ∷ rs) zero d within passed shows = inl shows
first_shows Passes Shows (r ∷ rs) (suc i) d within passed shows = inr (All-head Passes r (take i rs) passed, first_shows Passes Shows rs i d (omega arith) (All-tail Passes r (take i rs) passed) shows)

-- what passed as far as the end, passed
pub all_taken : (P : Share → Type 0) (rs : List Share) (n : ℕ) → length rs ≤ n → All P (take n rs) → All P rs
all_taken P rs n past all = All-same P rs (take n rs) (sym (take_all n rs past)) all

pub first_at : (Passes Shows : Share → Type 0) (rs : List Share) (i : ℕ) (r : Share) → i < length rs → r ≡ get_or rs i r → All Passes (take i rs) → Shows r → FirstShows Passes Shows rs
first_at Passes Shows rs i r within is passed shows = first_shows Passes Shows rs i r within passed (subst Shows is shows)

-- ---- gains

pub apart_from_sum : (slots : List Share) (r : Share) → CanGain slots r → IsApart slots r
apart_from_sum slots r can = λ is. subst (λ (k : Kind). Fits k (together slots r)) is (fits_from_value r.amount.value.kind (together slots r) can)

pub apart_from_too_much : (slots : List Share) (r : Share) (most : over.TooMuch) → IsRefused slots (TooMuch most) r → IsApart slots r
apart_from_too_much slots r most (inl past) = λ is. absurd (past.0 is)
apart_from_too_much slots r most (inr past) = λ is. subst (λ (k : Kind). Fits k (together slots r)) is past.1.fits

pub apart_refused : (slots gains : List Share) (i : ℕ) (r : Share) → i < length gains → r ≡ get_or gains i r → All (IsApart slots) (take i gains) → (fault : PutFault) → IsRefused slots fault r → ((most : over.TooMuch) → fault ≢ TooMuch most) → IsGainsRefusal slots gains fault
apart_refused slots gains i r within is passed (Overlap key) refused other = first_at (IsApart slots) (IsRefused slots (Overlap key)) gains i r within is passed refused
apart_refused slots gains i r within is passed (TooMuch most) refused other = absurd (other most refl)
apart_refused slots gains i r within is passed NoMemory refused other = tt

not_both : (slots : List Share) (r : Share) (key : List ℕ) → IsRefused slots (Overlap key) r → ¬ IsApart slots r
not_both slots r key refused apart = omega (arith, (apart refused.0).each key, refused.1.passes)

pub sums_refused : (slots gains : List Share) (i : ℕ) (r : Share) → i < length gains → r ≡ get_or gains i r → All (IsApart slots) gains → All (CanGain slots) (take i gains) → (fault : PutFault) → IsRefused slots fault r → IsGainsRefusal slots gains fault
sums_refused slots gains i r within is apart passed (Overlap key) refused = absurd (not_both slots r key refused (subst (IsApart slots) (sym is) (apart i r within)))
sums_refused slots gains i r within is apart passed (TooMuch most) refused = (apart, first_at (CanGain slots) (IsRefused slots (TooMuch most)) gains i r within is passed refused)
sums_refused slots gains i r within is apart passed NoMemory refused = tt
