-- When a sum is a value, and what it is refused for else; and when a value may come out.
use Rattle.std.proofs.Common.{◌≡◌, ◌≢◌, ℕ, ◌+◌, ◌<◌, ◌≤◌, List, Bool, true, false, Option, Result, Ok, Err, refl, sym, ap, subst, ◌∙◌, inl, inr}
use Rattle.std.proofs.lemmas.Bool.{le-leb, lt-leb}
use Rattle.refusals.specs.amount_math.Content.{Content}
use Rattle.refusals.specs.amount_math.Counted.{counted}
use Rattle.refusals.specs.amount_math.ValueView.{Fits, IsFirstPast, IsCountRefusal, IsPutRefusal, IsValue, PassesBound, PassesKeys, ValueView, bag_bound, bound, fits_from_value, keys_of, minted_bound, most_keys, nat_bound}
use Rattle.refusals.specs.amount_math.declared.Kind.{Kind}
use Rattle.refusals.specs.amount_math.declared.Kind.TheVariants.{Nat, Set, Bag}
use Rattle.refusals.specs.amount_math.declared.PutFault.{PutFault}
use Rattle.refusals.specs.amount_math.declared.PutFault.TheVariants as put_fault
use Rattle.refusals.specs.amount_math.declared.TooMuch.{TooMuch}
use Rattle.refusals.specs.Codes.{too_much}
use Rattle.refusals.specs.Outcomes.{Fails, bind, need, none_such}
use Rattle.refusals.specs.Told.{put_told}
use Rattle.refusals.specs.declared.codes.Refusal.{Refusal}
use Rattle.refusals.specs.declared.codes.Refusal.TheVariants.{Overlap}
use Rattle.transit.specs.ertp_mint.BrandSupply.{BrandSupply, IsMintRefusal, PassesMintedBound, out_with}
use Rattle.value_tests.proofs.Firsts.{find_first, none_past}
use Rattle.value_tests.specs.Tests.{can_come_out, counts_fit, counts_then_keys, from_first, has_few, keys_fit, minted_fits, overlap_free, value_fits}

-- ---- what passes

pub counts_pass : (kind : Kind) (c : Content) → Fits kind c → counts_fit kind c ≡ Ok tt
unfolding counts_fit none_such
counts_pass kind c fits = ap (from_first kind c) (none_past (bound kind) c fits.each)

few : (kind : Kind) (c : Content) → IsValue kind c → has_few kind c ≡ true
few Nat c v = refl
few Set c v = le-leb (keys_of c) most_keys v.keyed.few
few Bag c v = le-leb (keys_of c) most_keys v.keyed.few

pub value_passes : (kind : Kind) (c : Content) → IsValue kind c → value_fits kind c ≡ Ok tt
unfolding value_fits bind need
value_passes kind c v = ap (counts_then_keys kind c) (counts_pass kind c (fits_from_value kind c v)) ∙ ap (keys_fit kind c) (few kind c v)

-- ---- what doesn't pass

overlaps : (kind : Kind) (c : Content) (k : List ℕ) → kind ≡ Set → IsFirstPast 1 c k → counts_fit kind c ≡ Err (Overlap k)
unfolding counts_fit none_such
overlaps Nat c k e is = cc
overlaps Set c k e is = ap (from_first Set c) (find_first 1 c k is)
overlaps Bag c k e is = cc

passes : (kind : Kind) (c : Content) (over : TooMuch) → kind ≢ Set → PassesBound kind c over → counts_fit kind c ≡ Err (too_much over.sum over.bound)
unfolding counts_fit none_such
passes Nat c over ne p =
    ap (from_first Nat c) (find_first nat_bound c p.element (record { passes = p.passes; first = p.first }))
    ∙ ap (λ n. Err (too_much n nat_bound)) (sym p.counted) ∙ ap (λ n. Err (too_much over.sum n)) (sym p.bounded)
passes Set c over ne p = absurd (ne refl)
passes Bag c over ne p =
    ap (from_first Bag c) (find_first bag_bound c p.element (record { passes = p.passes; first = p.first }))
    ∙ ap (λ n. Err (too_much n bag_bound)) (sym p.counted) ∙ ap (λ n. Err (too_much over.sum n)) (sym p.bounded)

many : (kind : Kind) (c : Content) → kind ≢ Nat → most_keys < keys_of c → has_few kind c ≡ false
many Nat c ne h = absurd (ne refl)
many Set c ne h = lt-leb (keys_of c) most_keys h
many Bag c ne h = lt-leb (keys_of c) most_keys h

passes_keys : (kind : Kind) (c : Content) (over : TooMuch) → kind ≢ Nat → PassesKeys kind c over → value_fits kind c ≡ Err (too_much over.sum over.bound)
unfolding value_fits bind need
passes_keys kind c over ne p =
    ap (counts_then_keys kind c) (counts_pass kind c p.fits)
    ∙ ap (keys_fit kind c) (many kind c ne p.passes)
    ∙ ap (λ n. Err (too_much n most_keys)) (sym p.counted) ∙ ap (λ n. Err (too_much over.sum n)) (sym p.bounded)

-- what fails by its counts fails
counted_out : (kind : Kind) (c : Content) (r : _) → counts_fit kind c ≡ Err r → value_fits kind c ≡ Err r
unfolding value_fits bind
counted_out kind c r e = ap (counts_then_keys kind c) e

pub out_refused : (kind : Kind) (c : Content) (fault : PutFault) → IsCountRefusal kind c fault → Fails (put_told fault) (counts_fit kind c)
out_refused kind c (put_fault.Overlap key) h = overlaps kind c key h.0 h.1
out_refused kind c (put_fault.TooMuch over) h = passes kind c over h.0 h.1
out_refused kind c put_fault.NoMemory h = tt

pub refused : (kind : Kind) (c : Content) (fault : PutFault) → IsPutRefusal kind c fault → Fails (put_told fault) (value_fits kind c)
refused kind c (put_fault.Overlap key) h = counted_out kind c _ (overlaps kind c key h.0 h.1)
refused kind c (put_fault.TooMuch over) h = elim h as (λ _. value_fits kind c ≡ Err (too_much over.sum over.bound)) [
  | inl p ↦ counted_out kind c _ (passes kind c over p.0 p.1)
  | inr p ↦ passes_keys kind c over p.0 p.1
]
refused kind c put_fault.NoMemory h = tt

-- ---- that no key is in both

pub overlap_none : (kind : Kind) (c : Content) → Fits kind c → overlap_free kind c ≡ Ok tt
unfolding overlap_free none_such
overlap_none Nat c fits = refl
overlap_none Set c fits = ap (λ (o : Option (List ℕ)). none_such o Overlap) (none_past 1 c fits.each)
overlap_none Bag c fits = refl

pub overlap_there : (kind : Kind) (c : Content) (k : List ℕ) → IsPutRefusal kind c (put_fault.Overlap k) → overlap_free kind c ≡ Err (Overlap k)
unfolding overlap_free none_such
overlap_there Nat c k h = let e = h.0 in cc
overlap_there Set c k h = ap (λ (o : Option (List ℕ)). none_such o Overlap) (find_first 1 c k h.1)
overlap_there Bag c k h = let e = h.0 in cc

pub overlap_else : (kind : Kind) (c : Content) (over : TooMuch) → IsPutRefusal kind c (put_fault.TooMuch over) → overlap_free kind c ≡ Ok tt
unfolding overlap_free none_such
overlap_else Nat c over h = refl
overlap_else Set c over h = elim h as (λ _. overlap_free Set c ≡ Ok tt) [
  | inl p ↦ absurd (p.0 refl)
  | inr p ↦ overlap_none Set c p.1.fits
]
overlap_else Bag c over h = refl

-- ---- what comes out of a brand

minted_pass : (s : BrandSupply) (c : Content) → s.minted + counted c ≤ minted_bound → minted_fits s c ≡ Ok tt
unfolding minted_fits need
minted_pass s c h = ap (λ (b : Bool). need b (too_much (s.minted + counted c) minted_bound)) (le-leb (s.minted + counted c) minted_bound h)

minted_past : (s : BrandSupply) (c : Content) → minted_bound < s.minted + counted c → minted_fits s c ≡ Err (too_much (s.minted + counted c) minted_bound)
unfolding minted_fits need
minted_past s c h = ap (λ (b : Bool). need b (too_much (s.minted + counted c) minted_bound)) (lt-leb (s.minted + counted c) minted_bound h)

after_counts : (s : BrandSupply) (c : Content) (r : Result (Unit {0}) Refusal) → counts_fit s.outstanding.kind (out_with s c) ≡ r → can_come_out s c ≡ bind r (λ _. minted_fits s c)
unfolding can_come_out
after_counts s c r e = ap (λ (x : Result (Unit {0}) Refusal). bind x (λ _. minted_fits s c)) e

pub comes_out : (s : BrandSupply) (c : Content) → Fits s.outstanding.kind (out_with s c) → s.minted + counted c ≤ minted_bound → can_come_out s c ≡ Ok tt
unfolding bind
comes_out s c fits minted = after_counts s c (Ok tt) (counts_pass s.outstanding.kind (out_with s c) fits) ∙ minted_pass s c minted

by_counts : (s : BrandSupply) (c : Content) (r : Refusal) → counts_fit s.outstanding.kind (out_with s c) ≡ Err r → can_come_out s c ≡ Err r
unfolding bind
by_counts s c r e = after_counts s c (Err r) e

by_minted : (s : BrandSupply) (c : Content) → Fits s.outstanding.kind (out_with s c) → minted_bound < s.minted + counted c → can_come_out s c ≡ Err (too_much (s.minted + counted c) minted_bound)
unfolding bind
by_minted s c fits past = after_counts s c (Ok tt) (counts_pass s.outstanding.kind (out_with s c) fits) ∙ minted_past s c past

-- why a value isn't issued is why its content can't come out
module _ (s : BrandSupply) (w : ValueView) (kind : s.outstanding.kind ≡ w.kind) where
  by_issue : (fault : PutFault) → IsCountRefusal w.kind (out_with s w.content) fault → Fails (put_told fault) (counts_fit s.outstanding.kind (out_with s w.content))
  by_issue fault h = out_refused s.outstanding.kind (out_with s w.content) fault (subst (λ (k : Kind). IsCountRefusal k (out_with s w.content) fault) (sym kind) h)

  past : (over : TooMuch) → PassesMintedBound s w over → can_come_out s w.content ≡ Err (too_much over.sum over.bound)
  past over p =
      by_minted s w.content (subst (λ (k : Kind). Fits k (out_with s w.content)) (sym kind) p.fits) p.passes
      ∙ ap (λ n. Err (too_much n minted_bound)) (sym p.shown) ∙ ap (λ n. Err (too_much over.sum n)) (sym p.bounded)

  pub mint_refused : (fault : PutFault) → IsMintRefusal s w fault → Fails (put_told fault) (can_come_out s w.content)
  mint_refused (put_fault.Overlap key) h = by_counts s w.content (Overlap key) (by_issue (put_fault.Overlap key) h)
  mint_refused (put_fault.TooMuch over) h = elim h as (λ _. can_come_out s w.content ≡ Err (too_much over.sum over.bound)) [
    | inl p ↦ by_counts s w.content (too_much over.sum over.bound) (by_issue (put_fault.TooMuch over) p)
    | inr p ↦ past over p
  ]
  mint_refused put_fault.NoMemory h = tt
