-- Tests of slots beside what they stand for.
use Rattle.std.specs.Prelude.{◌&&◌, ◌||◌, not, cond}
use Rattle.std.specs.List.{find}
use Rattle.std.proofs.Common.{◌≡◌, zero, suc, Bool, true, false, List, [], ◌∷◌, Option, Some, Result, Ok, Err, inl, inr, refl, sym, ap, subst, ◌∙◌, arith}
use Rattle.std.proofs.lemmas.Bool.{and_from, and_parts, false≢true, false_from_ne_true, or_left, or_right}
use Rattle.proposals.specs.Losses.{IsLossesRefusal, IsShort, held_under}
use Rattle.proposals.specs.ChangedShares.{FirstShows}
use Rattle.refusals.specs.amount_math.ValueView.{ValueView}
use Rattle.refusals.specs.amount_math.declared.shortfall.LossFault.TheVariants as takes
use Rattle.refusals.specs.amount_math.declared.shortfall.Shortfall.{Shortfall}
use Rattle.rearrange.specs.Slots.{are_covered, can_take, is_covered, is_safe, shortfall}
use Rattle.proposals.specs.OfferSafety.{AreCovered, IsCovered, IsOfferSafe}
use Rattle.proposals.specs.declared.allocations.Share.{Share}
use Rattle.proposals.specs.declared.offers.Proposal.{Proposal}
use Rattle.refusals.specs.Outcomes.{none_such}
use Rattle.refusals.specs.declared.codes.Refusal.{Refusal}
use Rattle.refusals.specs.declared.codes.Refusal.TheVariants.{NotEnough}
use Rattle.value_tests.proofs.Contents.{has-true, true-has}

-- ---- one share

pub covered_if : (slots : List Share) (share : Share) → is_covered slots share ≡ true → IsCovered slots share
covered_if slots share is = has-true (held_under slots share) share.amount.value is

pub if_covered : (slots : List Share) (share : Share) → IsCovered slots share → is_covered slots share ≡ true
if_covered slots share has = true-has (held_under slots share) share.amount.value has

-- ---- shares

pub all_covered : (slots shares : List Share) → are_covered slots shares ≡ true → AreCovered slots shares
all_covered slots [] is k d low = absurd (omega (arith, low))
all_covered slots (r ∷ rs) is zero d low = covered_if slots r (and_parts (is_covered slots r) (are_covered slots rs) is).0
all_covered slots (r ∷ rs) is (suc k) d low = all_covered slots rs (and_parts (is_covered slots r) (are_covered slots rs) is).1 k d (omega (arith, low))

pub if_all_covered : (slots shares : List Share) → AreCovered slots shares → are_covered slots shares ≡ true
if_all_covered slots [] all = refl
if_all_covered slots (r ∷ rs) all =
    and_from (is_covered slots r) (are_covered slots rs) (if_covered slots r (all 0 r (omega arith)))
    (if_all_covered slots rs (λ k d low. all (suc k) d (omega (arith, low))))

-- ---- offer safety

pub safe_if : (p : Proposal) (slots : List Share) → is_safe p slots ≡ true → IsOfferSafe p slots
unfolding is_safe
safe_if p slots is = by (are_covered slots p.want) (are_covered slots p.give) refl refl is
  where
    by : (b c : Bool) → are_covered slots p.want ≡ b → are_covered slots p.give ≡ c → (b || c) ≡ true → IsOfferSafe p slots
    by true c want give h = inl (all_covered slots p.want want)
    by false true want give h = inr (all_covered slots p.give give)
    by false false want give h = absurd (false≢true h)

pub if_safe : (p : Proposal) (slots : List Share) → IsOfferSafe p slots → is_safe p slots ≡ true
unfolding is_safe
if_safe p slots (inl want) = or_left (are_covered slots p.want) (are_covered slots p.give) (if_all_covered slots p.want want)
if_safe p slots (inr give) = or_right (are_covered slots p.want) (are_covered slots p.give) (if_all_covered slots p.give give)

-- ---- what is taken

abbrev short_of : List Share → List Share → Option Share
short_of slots shares = find (λ r. not (is_covered slots r)) shares

none_short : (slots shares : List Share) → none_such (short_of slots shares) (shortfall slots) ≡ Ok tt → are_covered slots shares ≡ true
unfolding none_such
none_short slots [] is = refl
none_short slots (r ∷ rs) is = by (is_covered slots r) refl (none_short slots rs) is
  where
    by : (b : Bool) → is_covered slots r ≡ b → (none_such (short_of slots rs) (shortfall slots) ≡ Ok tt → are_covered slots rs ≡ true) → none_such (cond (not b) (Some r) (short_of slots rs)) (shortfall slots) ≡ Ok tt → (is_covered slots r && are_covered slots rs) ≡ true
    by true covers later h = and_from (is_covered slots r) (are_covered slots rs) covers (later h)
    by false covers later h = absurd (cc)

covers_none : (slots shares : List Share) → are_covered slots shares ≡ true → none_such (short_of slots shares) (shortfall slots) ≡ Ok tt
unfolding none_such
covers_none slots [] is = refl
covers_none slots (r ∷ rs) is =
    let both = and_parts (is_covered slots r) (are_covered slots rs) is in
    ap (λ b. none_such (cond (not b) (Some r) (short_of slots rs)) (shortfall slots)) both.0 ∙ covers_none slots rs both.1

pub taken_if : (slots losses : List Share) → can_take slots losses ≡ Ok tt → AreCovered slots losses
unfolding can_take
taken_if slots losses is = all_covered slots losses (none_short slots losses is)

pub if_taken : (slots losses : List Share) → AreCovered slots losses → can_take slots losses ≡ Ok tt
unfolding can_take
if_taken slots losses has = covers_none slots losses (if_all_covered slots losses has)

-- ---- what isn't

same_short : (s t : Shortfall) → ◌≡◌ {A = Result (Unit {0}) Refusal} (Err (NotEnough s)) (Err (NotEnough t)) → s ≡ t
same_short s t is = cc

not_true : (b : Bool) → b ≡ false → b ≡ true → ⊥
not_true b off on = false≢true (sym off ∙ on)

shows_if : (slots shares : List Share) (short : Shortfall) → none_such (short_of slots shares) (shortfall slots) ≡ Err (NotEnough short) → FirstShows (IsCovered slots) (IsShort slots short) shares
unfolding none_such
shows_if slots [] short is = absurd (cc)
shows_if slots (r ∷ rs) short is = by (is_covered slots r) refl (shows_if slots rs short) is
  where
    by : (b : Bool) → is_covered slots r ≡ b → (none_such (short_of slots rs) (shortfall slots) ≡ Err (NotEnough short) → FirstShows (IsCovered slots) (IsShort slots short) rs) → none_such (cond (not b) (Some r) (short_of slots rs)) (shortfall slots) ≡ Err (NotEnough short) → FirstShows (IsCovered slots) (IsShort slots short) (r ∷ rs)
    by true covers later h = inr (covered_if slots r covers, later h)
    by false covers later h =
        let same : record { held = held_under slots r; asked = r.amount.value } ≡ short = same_short _ short h in
        inl (record {
          less = λ has. not_true (is_covered slots r) covers (if_covered slots r has);
          shown = record {
            held = ap (λ (s : Shortfall). s.held) (sym same);
            asked = ap (λ (s : Shortfall). s.asked) (sym same);
          };
        })

shown_as : (short : Shortfall) (held asked : ValueView) → short.held ≡ held → short.asked ≡ asked → ◌≡◌ {A = Shortfall} (record { held = held; asked = asked }) short
shown_as short held asked p q = subst (λ h. ◌≡◌ {A = Shortfall} (record { held = h; asked = asked }) short) p (subst (λ a. ◌≡◌ {A = Shortfall} (record { held = short.held; asked = a }) short) q refl)

if_shows : (slots shares : List Share) (short : Shortfall) → FirstShows (IsCovered slots) (IsShort slots short) shares → none_such (short_of slots shares) (shortfall slots) ≡ Err (NotEnough short)
unfolding none_such
if_shows slots [] short shows = absurd shows
if_shows slots (r ∷ rs) short (inl s) =
    ap (λ b. none_such (cond (not b) (Some r) (short_of slots rs)) (shortfall slots)) (false_from_ne_true (is_covered slots r) (λ is. s.less (covered_if slots r is)))
    ∙ ap (λ (x : Shortfall). Err (NotEnough x)) (shown_as short (held_under slots r) r.amount.value s.shown.held s.shown.asked)
if_shows slots (r ∷ rs) short (inr both) =
    ap (λ b. none_such (cond (not b) (Some r) (short_of slots rs)) (shortfall slots)) (if_covered slots r both.0) ∙ if_shows slots rs short both.1

pub refused_if : (slots losses : List Share) (short : Shortfall) → can_take slots losses ≡ Err (NotEnough short) → IsLossesRefusal slots losses (takes.NotEnough short)
unfolding can_take
refused_if slots losses short is = shows_if slots losses short is

pub if_refused : (slots losses : List Share) (short : Shortfall) → IsLossesRefusal slots losses (takes.NotEnough short) → can_take slots losses ≡ Err (NotEnough short)
unfolding can_take
if_refused slots losses short is = if_shows slots losses short is
