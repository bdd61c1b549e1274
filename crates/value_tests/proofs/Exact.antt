-- The tests fail exactly where the rules of amounts do: what follows of each outcome.
use Rattle.std.proofs.Common.{◌≡◌, ◌≢◌, ℕ, ◌+◌, ◌<◌, ◌≤◌, Bool, true, false, Option, Some, None, Result, Ok, Err, List, refl, sym, ap, ◌∙◌, inl, inr}
use Rattle.std.specs.Prelude.{nat_le}
use Rattle.std.proofs.lemmas.Bool.{false≢true, le-leb, leb-false, leb-true}
use Rattle.refusals.specs.amount_math.Content.{Content, count}
use Rattle.refusals.specs.amount_math.Counted.{counted}
use Rattle.refusals.specs.amount_math.ValueView.{Fits, HasFew, bound, keys_of, minted_bound, most_keys, with_content}
use Rattle.refusals.specs.amount_math.declared.Kind.{Kind}
use Rattle.refusals.specs.amount_math.declared.Kind.TheVariants.{Nat, Set, Bag}
use Rattle.refusals.specs.amount_math.declared.PutFault.TheVariants as put_fault
use Rattle.value_tests.specs.Firsts.{first_past}
use Rattle.value_tests.proofs.Firsts.{first_is_past, fits_where_none}
use Rattle.refusals.specs.Codes.{too_much}
use Rattle.refusals.specs.Outcomes.{bind, need, none_such}
use Rattle.refusals.specs.declared.codes.Refusal.{Refusal}
use Rattle.refusals.specs.declared.codes.Refusal.TheVariants.{Overlap}
use Rattle.refusals.specs.declared.stops.Stop.TheVariants.{Refused}
use Rattle.refusals.proofs.Steps.{none_is}
use Rattle.transit.specs.ertp_mint.BrandSupply.{BrandSupply, MayIssue, out_with}
use Rattle.value_tests.specs.Causes.{IsCountCause, IsMintCause, IsOverlapCause, IsPutCause}
use Rattle.value_tests.specs.Tests.{can_come_out, counts_fit, counts_then_keys, has_few, keys_fit, minted_fits, overlap_free, past_refusal, value_fits}
use Rattle.value_tests.proofs.Sums.{comes_out, counts_pass, mint_refused, out_refused, overlap_there, refused}

some_is : {A : Type 0} (o : Option A) (refusal : A → Refusal) (r : Refusal) → none_such o refusal ≡ Err r → (x : A) × (o ≡ Some x) × (refusal x ≡ r)
unfolding none_such
some_is None refusal r e = cc
some_is (Some x) refusal r e = (x, refl, same e)
  where
    same : ◌≡◌ {A = Result (Unit {0}) Refusal} (Err (refusal x)) (Err r) → refusal x ≡ r
    same h = cc

-- ---- counts

pub counts_fits : (kind : Kind) (c : Content) → counts_fit kind c ≡ Ok tt → Fits kind c
unfolding counts_fit
counts_fits kind c e = record { each = fits_where_none (bound kind) c (none_is (first_past (bound kind) c) (past_refusal kind c) tt e) }

by_kind : (kind : Kind) (c : Content) (r : Refusal) (k : List ℕ) → first_past (bound kind) c ≡ Some k → past_refusal kind c k ≡ r → IsCountCause kind c r
by_kind Nat c r k at is =
    let past = first_is_past (bound Nat) c k at in
    (put_fault.TooMuch (record { sum = count c k; bound = bound Nat }), (λ e. cc, record { element = k; counted = refl; bounded = refl; passes = past.passes; first = past.first }), ap Refused is)
by_kind Set c r k at is = (put_fault.Overlap k, (refl, first_is_past 1 c k at), ap Refused is)
by_kind Bag c r k at is =
    let past = first_is_past (bound Bag) c k at in
    (put_fault.TooMuch (record { sum = count c k; bound = bound Bag }), (λ e. cc, record { element = k; counted = refl; bounded = refl; passes = past.passes; first = past.first }), ap Refused is)

pub counts_cause : (kind : Kind) (c : Content) (r : Refusal) → counts_fit kind c ≡ Err r → IsCountCause kind c r
unfolding counts_fit
counts_cause kind c r e = let it = some_is (first_past (bound kind) c) (past_refusal kind c) r e in by_kind kind c r it.0 it.1 it.2

same_refusal : (s r : Refusal) → Refused s ≡ Refused r → s ≡ r
same_refusal s r e = cc

pub cause_counts : (kind : Kind) (c : Content) (r : Refusal) → IsCountCause kind c r → counts_fit kind c ≡ Err r
cause_counts kind c r (put_fault.NoMemory, cause, told) = cc
cause_counts kind c r (put_fault.Overlap key, cause, told) = out_refused kind c (put_fault.Overlap key) cause ∙ ap Err (same_refusal _ r told)
cause_counts kind c r (put_fault.TooMuch over, cause, told) = out_refused kind c (put_fault.TooMuch over) cause ∙ ap Err (same_refusal _ r told)

-- ---- counts, then keys

few_is : (kind : Kind) (c : Content) → has_few kind c ≡ true → HasFew kind c
few_is Nat c e = tt
few_is Set c e = leb-true (keys_of c) most_keys e
few_is Bag c e = leb-true (keys_of c) most_keys e

is_few : (kind : Kind) (c : Content) → HasFew kind c → has_few kind c ≡ true
is_few Nat c h = refl
is_few Set c h = le-leb (keys_of c) most_keys h
is_few Bag c h = le-leb (keys_of c) most_keys h

pub value_passed : (kind : Kind) (c : Content) → value_fits kind c ≡ Ok tt → Fits kind c × HasFew kind c
unfolding value_fits bind need
value_passed kind c e = by (counts_fit kind c) (has_few kind c) refl refl e
  where
    by : (r : Result (Unit {0}) Refusal) (b : Bool) → counts_fit kind c ≡ r → has_few kind c ≡ b → bind r (λ _. need b (too_much (keys_of c) most_keys)) ≡ Ok tt → Fits kind c × HasFew kind c
    by (Ok x) true counts few h = (counts_fits kind c counts, few_is kind c few)
    by (Ok x) false counts few h = cc
    by (Err s) b counts few h = cc

pub passes_value : (kind : Kind) (c : Content) → Fits kind c × HasFew kind c → value_fits kind c ≡ Ok tt
unfolding value_fits bind need
passes_value kind c (fits, few) = ap (counts_then_keys kind c) (counts_pass kind c fits) ∙ ap (keys_fit kind c) (is_few kind c few)

wider : (kind : Kind) (c : Content) (r : Refusal) → IsCountCause kind c r → IsPutCause kind c r
wider kind c r (put_fault.NoMemory, cause, told) = cc
wider kind c r (put_fault.Overlap key, cause, told) = (put_fault.Overlap key, cause, told)
wider kind c r (put_fault.TooMuch over, cause, told) = (put_fault.TooMuch over, inl cause, told)

-- too many keys is a fault of sets and bags alone
keyed : (kind : Kind) (c : Content) → has_few kind c ≡ false → (kind ≢ Nat) × (most_keys < keys_of c)
keyed Nat c e = absurd (false≢true (sym e))
keyed Set c e = ((λ n. cc), leb-false (keys_of c) most_keys e)
keyed Bag c e = ((λ n. cc), leb-false (keys_of c) most_keys e)

pub value_cause : (kind : Kind) (c : Content) (r : Refusal) → value_fits kind c ≡ Err r → IsPutCause kind c r
unfolding value_fits bind need
value_cause kind c r e = by (counts_fit kind c) (has_few kind c) refl refl e
  where
    same : (s : Refusal) → ◌≡◌ {A = Result (Unit {0}) Refusal} (Err s) (Err r) → s ≡ r
    same s h = cc

    by : (d : Result (Unit {0}) Refusal) (b : Bool) → counts_fit kind c ≡ d → has_few kind c ≡ b → bind d (λ _. need b (too_much (keys_of c) most_keys)) ≡ Err r → IsPutCause kind c r
    by (Ok x) true counts few h = cc
    by (Ok x) false counts few h =
        let many = keyed kind c few in
        (put_fault.TooMuch (record { sum = keys_of c; bound = most_keys }), inr (many.0, record { fits = counts_fits kind c counts; counted = refl; bounded = refl; passes = many.1 }), ap Refused (same _ h))
    by (Err s) b counts few h = wider kind c r (counts_cause kind c r (counts ∙ h))

pub cause_value : (kind : Kind) (c : Content) (r : Refusal) → IsPutCause kind c r → value_fits kind c ≡ Err r
cause_value kind c r (put_fault.NoMemory, cause, told) = cc
cause_value kind c r (put_fault.Overlap key, cause, told) = refused kind c (put_fault.Overlap key) cause ∙ ap Err (same_refusal _ r told)
cause_value kind c r (put_fault.TooMuch over, cause, told) = refused kind c (put_fault.TooMuch over) cause ∙ ap Err (same_refusal _ r told)

-- ---- counts, then what was minted

minted_passed : (s : BrandSupply) (c : Content) → minted_fits s c ≡ Ok tt → s.minted + counted c ≤ minted_bound
unfolding minted_fits need
minted_passed s c e = by (nat_le (s.minted + counted c) minted_bound) refl e
  where
    by : (b : Bool) → nat_le (s.minted + counted c) minted_bound ≡ b → need b (too_much (s.minted + counted c) minted_bound) ≡ Ok tt → s.minted + counted c ≤ minted_bound
    by true le h = leb-true (s.minted + counted c) minted_bound le
    by false le h = cc

minted_cause : (s : BrandSupply) (c : Content) (r : Refusal) → minted_fits s c ≡ Err r → (minted_bound < s.minted + counted c) × (too_much (s.minted + counted c) minted_bound ≡ r)
unfolding minted_fits need
minted_cause s c r e = by (nat_le (s.minted + counted c) minted_bound) refl e
  where
    same : (q : Refusal) → ◌≡◌ {A = Result (Unit {0}) Refusal} (Err q) (Err r) → q ≡ r
    same q h = cc

    by : (b : Bool) → nat_le (s.minted + counted c) minted_bound ≡ b → need b (too_much (s.minted + counted c) minted_bound) ≡ Err r → (minted_bound < s.minted + counted c) × (too_much (s.minted + counted c) minted_bound ≡ r)
    by true le h = cc
    by false le h = (leb-false (s.minted + counted c) minted_bound le, same _ h)

pub out_passed : (s : BrandSupply) (c : Content) → can_come_out s c ≡ Ok tt → MayIssue s (with_content s.outstanding c)
unfolding can_come_out bind
out_passed s c e = by (counts_fit s.outstanding.kind (out_with s c)) refl e
  where
    by : (d : Result (Unit {0}) Refusal) → counts_fit s.outstanding.kind (out_with s c) ≡ d → bind d (λ _. minted_fits s c) ≡ Ok tt → MayIssue s (with_content s.outstanding c)
    by (Ok x) counts h = record { fits = counts_fits s.outstanding.kind (out_with s c) counts; minted = minted_passed s c h }
    by (Err q) counts h = cc

pub passes_out : (s : BrandSupply) (c : Content) → MayIssue s (with_content s.outstanding c) → can_come_out s c ≡ Ok tt
passes_out s c may = comes_out s c may.fits may.minted

issued_for : (s : BrandSupply) (c : Content) (r : Refusal) → IsCountCause s.outstanding.kind (out_with s c) r → IsMintCause s c r
issued_for s c r (put_fault.NoMemory, cause, told) = cc
issued_for s c r (put_fault.Overlap key, cause, told) = (put_fault.Overlap key, cause, told)
issued_for s c r (put_fault.TooMuch over, cause, told) = (put_fault.TooMuch over, inl cause, told)

pub out_cause : (s : BrandSupply) (c : Content) (r : Refusal) → can_come_out s c ≡ Err r → IsMintCause s c r
unfolding can_come_out bind
out_cause s c r e = by (counts_fit s.outstanding.kind (out_with s c)) refl e
  where
    by : (d : Result (Unit {0}) Refusal) → counts_fit s.outstanding.kind (out_with s c) ≡ d → bind d (λ _. minted_fits s c) ≡ Err r → IsMintCause s c r
    by (Ok x) counts h =
        let past = minted_cause s c r h in
        (put_fault.TooMuch (record { sum = s.minted + counted c; bound = minted_bound }), inr (record { fits = counts_fits s.outstanding.kind (out_with s c) counts; shown = refl; bounded = refl; passes = past.0 }), ap Refused past.1)
    by (Err q) counts h = issued_for s c r (counts_cause s.outstanding.kind (out_with s c) r (counts ∙ h))

pub cause_out : (s : BrandSupply) (c : Content) (r : Refusal) → IsMintCause s c r → can_come_out s c ≡ Err r
cause_out s c r (put_fault.NoMemory, cause, told) = cc
cause_out s c r (put_fault.Overlap key, cause, told) = mint_refused s (with_content s.outstanding c) refl (put_fault.Overlap key) cause ∙ ap Err (same_refusal _ r told)
cause_out s c r (put_fault.TooMuch over, cause, told) = mint_refused s (with_content s.outstanding c) refl (put_fault.TooMuch over) cause ∙ ap Err (same_refusal _ r told)

-- ---- a key that is in both

pub overlap_cause : (kind : Kind) (c : Content) (r : Refusal) → overlap_free kind c ≡ Err r → IsOverlapCause kind c r
unfolding overlap_free
overlap_cause Nat c r e = cc
overlap_cause Set c r e = let it = some_is (first_past 1 c) Overlap r e in (it.0, refl, first_is_past 1 c it.0 it.1, sym it.2)
overlap_cause Bag c r e = cc

pub cause_overlap : (kind : Kind) (c : Content) (r : Refusal) → IsOverlapCause kind c r → overlap_free kind c ≡ Err r
cause_overlap kind c r (key, set, past, told) = overlap_there kind c key (set, past) ∙ ap Err (sym told)

-- behind the test of overlaps no sum is refused for one
pub then_too_much : (kind : Kind) (c : Content) (key : List ℕ) → overlap_free kind c ≡ Ok tt → value_fits kind c ≢ Err (Overlap key)
then_too_much kind c key free e = by (value_cause kind c (Overlap key) e)
  where
    by : IsPutCause kind c (Overlap key) → ⊥
    by (put_fault.NoMemory, cause, told) = cc
    by (put_fault.Overlap k, cause, told) = let no = overlap_there kind c k cause in cc
    by (put_fault.TooMuch over, cause, told) = cc
