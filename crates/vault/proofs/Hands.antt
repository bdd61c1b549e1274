-- What the hand has of drafts of one turn: after a take, after a put, and after a parcel was given up.
use Rattle.std.proofs.Common.{◌≡◌, ◌≢◌, ℕ, zero, suc, ◌+◌, ◌<◌, ◌≤◌, ◌==◌, inl, inr, Bool, true, false, cond, List, [], ◌∷◌, length, reverse, refl, sym, ◌∙◌, ap, subst, arith}
use Rattle.std.specs.Prelude.{◌⊎◌, slice_index_or, slice_set}
use Rattle.std.proofs.lemmas.Bool.{cases_eq, eq-eqb, ne_eqb}
use Rattle.std.proofs.lemmas.List.{reverse-append}
use Rattle.vault_model.specs.amount_math.Content.{Content, Contains, count, count-difference, count-nothing, count-sum, difference, nothing, same_content, sum}
use Rattle.vault_model.specs.amount_math.ValueView.{ValueView}
use Rattle.vault_model.specs.amount_math.declared.Amount.{Amount}
use Rattle.vault_model.specs.amount_math.declared.Kind.{Kind}
use Rattle.vault_model.proofs.lemmas.ListEdits.{length_set, read_other, read_set}
use Rattle.vault_model.specs.rights_model.declared.Holder.{Holder}
use Rattle.vault_model.specs.rights_model.declared.Holder.TheVariants.{Purse, Payment, Slot, Hand, Outside}
use Rattle.vault_model.specs.rights_model.declared.Movement.{Movement}
use Rattle.vault_model.specs.rights_model.Table.{movement}
use Rattle.vault_model.specs.Backwards.{from_hand, in_hand, to_hand}
use Rattle.vault_model.specs.Flows.{IsApart, Part, combined, content_of, gathered, split_up, spread, whole_of}
use Rattle.vault_model.specs.Lists.{Lists, given, taken}
use Rattle.vault_model.specs.Tables.{no_hand}
use Rattle.vault.specs.Drafts.{DraftState, HandGoes, after, given_at, given_up_too, hand_now}
use Rattle.vault.specs.Together.{AreTogether, HandHoldsGiven, HandStays, HasMore, IsListed, after_all, only}
use Rattle.vault.proofs.Tables.{after_append}

-- ---- hands

pub only_here : (b : ℕ) (c : Content) (k : List ℕ) → count (only b c b) k ≡ count c k
only_here b c k = ap (λ t. count (cond t c nothing) k) (eq-eqb b b refl)

pub only_elsewhere : (b e : ℕ) (c : Content) (k : List ℕ) → b ≢ e → count (only b c e) k ≡ 0
only_elsewhere b e c k apart = ap (λ t. count (cond t c nothing) k) (ne_eqb b e apart) ∙ count-nothing k

one_together : (t : Bool) (c d : Content) (k : List ℕ) → count (cond t (sum c d) nothing) k ≡ count (cond t c nothing) k + count (cond t d nothing) k
one_together true c d k = count-sum c d k
one_together false c d k = omega (arith, count-nothing k)

pub together : (b : ℕ) (c d : Content) → AreTogether (only b (sum c d)) (only b c) (only b d)
together b c d = record { each = λ e k. one_together (b == e) c d k }

pub alone : (b : ℕ) (c : Content) → AreTogether (only b c) no_hand (only b c)
alone b c = record { each = λ e k. omega (arith, count-nothing k) }

-- ---- drafts

pub no_more : (d : DraftState) → HasMore d d no_hand
no_more d = record { kept = refl; brands = refl; hand = λ e k. omega (arith, count-nothing k) }

pub more_and_more : (x y z : DraftState) (whole part rest : ℕ → Content) → AreTogether whole part rest → HasMore x y part → HasMore y z rest → HasMore x z whole
more_and_more x y z whole part rest is first next = record {
  kept = first.kept ∙ next.kept;
  brands = first.brands ∙ next.brands;
  hand = λ e k. omega (arith, is.each e k, first.hand e k, next.hand e k);
}

pub flipped : (whole part rest : ℕ → Content) → AreTogether whole part rest → AreTogether whole rest part
flipped whole part rest is = record { each = λ e k. omega (arith, is.each e k) }

pub less_by : (x y z : DraftState) (whole part rest : ℕ → Content) → AreTogether whole part rest → HasMore x y part → HasMore x z whole → HasMore y z rest
less_by x y z whole part rest is some both = record {
  kept = sym some.kept ∙ both.kept;
  brands = sym some.brands ∙ both.brands;
  hand = λ e k. omega (arith, is.each e k, some.hand e k, both.hand e k);
}

-- the same hand, written otherwise
pub as_much : (x y : DraftState) (one other : ℕ → Content) → ((e : ℕ) (k : List ℕ) → count (one e) k ≡ count (other e) k) → HasMore x y one → HasMore x y other
as_much x y one other same has = record { kept = has.kept; brands = has.brands; hand = λ e k. omega (arith, has.hand e k, same e k) }

brands_taken : (s : Lists) (h : Holder) (b : ℕ) (w : ValueView) → length (taken s h b w).out ≡ length s.out
brands_taken s (Purse n) b w = refl
brands_taken s (Payment n) b w = refl
brands_taken s (Slot n k) b w = refl
brands_taken s Hand b w = refl
brands_taken s Outside b w = length_set s.out b _

brands_given : (s : Lists) (h : Holder) (b : ℕ) (w : ValueView) → length (given s h b w).out ≡ length s.out
brands_given s (Purse n) b w = refl
brands_given s (Payment n) b w = refl
brands_given s (Slot n k) b w = refl
brands_given s Hand b w = refl
brands_given s Outside b w = length_set s.out b _

pub brands_after : (d : DraftState) (m : Movement) → length (after d m).now.out ≡ length d.now.out
brands_after d m = brands_given (taken d.now m.from m.brand m.value) m.to m.brand m.value ∙ brands_taken d.now m.from m.brand m.value

pub listed_after : (d : DraftState) (m : Movement) → IsListed d → IsListed (after d m)
listed_after d m listed = listed ∙ sym (brands_after d m)

hand_after : (d : DraftState) (m : Movement) (e : ℕ) → hand_now (after d m) e ≡ in_hand (m ∷ reverse d.movements) e
hand_after d m e = ap (λ (l : List Movement). in_hand l e) (reverse-append d.movements (m ∷ []))

from_elsewhere : (h : Holder) (c d : Content) → h ≢ Hand → from_hand h c d ≡ c
from_elsewhere (Purse n) c d apart = refl
from_elsewhere (Payment n) c d apart = refl
from_elsewhere (Slot n k) c d apart = refl
from_elsewhere Hand c d apart = absurd (apart refl)
from_elsewhere Outside c d apart = refl

to_elsewhere : (h : Holder) (c d : Content) → h ≢ Hand → to_hand h c d ≡ c
to_elsewhere (Purse n) c d apart = refl
to_elsewhere (Payment n) c d apart = refl
to_elsewhere (Slot n k) c d apart = refl
to_elsewhere Hand c d apart = absurd (apart refl)
to_elsewhere Outside c d apart = refl

module _ (d : DraftState) (h : Holder) (b : ℕ) (w : ValueView) (apart : h ≢ Hand) where
  hand_taken : (e : ℕ) → hand_now (after d (movement b h Hand w)) e ≡ cond (b == e) (sum (hand_now d e) w.content) (hand_now d e)
  hand_taken e = hand_after d (movement b h Hand w) e ∙ ap (λ x. cond (b == e) (sum x w.content) (hand_now d e)) (from_elsewhere h (hand_now d e) w.content apart)

  hand_put : (e : ℕ) → hand_now (after d (movement b Hand h w)) e ≡ cond (b == e) (difference (hand_now d e) w.content) (hand_now d e)
  hand_put e = hand_after d (movement b Hand h w) e ∙ ap (λ x. cond (b == e) x (hand_now d e)) (to_elsewhere h (difference (hand_now d e) w.content) w.content apart)

  taken_count : (t : Bool) (x : Content) (k : List ℕ) → count (cond t (sum x w.content) x) k ≡ count x k + count (cond t w.content nothing) k
  taken_count true x k = count-sum x w.content k
  taken_count false x k = omega (arith, count-nothing k)

  -- after a take the hand has the part more
  pub more_taken : HasMore (after d (movement b h Hand w)) d (only b w.content)
  more_taken = record {
    kept = refl;
    brands = brands_after d (movement b h Hand w);
    hand = λ e k. omega (arith, ap (λ x. count x k) (hand_taken e), taken_count (b == e) (hand_now d e) k);
  }

  put_count : (e : ℕ) (k : List ℕ) → Contains (hand_now d b) w.content → (b ≡ e) ⊎ (b ≢ e) → count (hand_now d e) k ≡ count (hand_now (after d (movement b Hand h w)) e) k + count (only b w.content e) k
  put_count e k has (inl same) = subst (λ f. count (hand_now d f) k ≡ count (hand_now (after d (movement b Hand h w)) f) k + count (only b w.content f) k) same
      (omega (
        arith,
        has.each k,
        only_here b w.content k,
        ap (λ x. count x k) (hand_put b ∙ ap (λ t. cond t (difference (hand_now d b) w.content) (hand_now d b)) (eq-eqb b b refl)),
        count-difference (hand_now d b) w.content k,
      ))
  put_count e k has (inr differs) = omega (
    arith,
    only_elsewhere b e w.content k differs,
    ap (λ x. count x k) (hand_put e ∙ ap (λ t. cond t (difference (hand_now d e) w.content) (hand_now d e)) (ne_eqb b e differs)),
  )

  -- and before a put it had
  pub more_put : Contains (hand_now d b) w.content → HasMore d (after d (movement b Hand h w)) (only b w.content)
  more_put has = record {
    kept = refl;
    brands = sym (brands_after d (movement b Hand h w));
    hand = λ e k. omega (arith, put_count e k has (cases_eq b e));
  }

module _ (d : DraftState) (a : Amount) where
  abbrev all_given : Content
  all_given = sum (given_at d a.brand) a.value.content

  given_count : (e : ℕ) (k : List ℕ) → a.brand < length d.given_up → (a.brand ≡ e) ⊎ (a.brand ≢ e) → count (given_at (given_up_too d a) e) k ≡ count (given_at d e) k + count (only a.brand a.value.content e) k
  given_count e k made (inl same) = subst (λ f. count (given_at (given_up_too d a) f) k ≡ count (given_at d f) k + count (only a.brand a.value.content f) k) same
      (omega (
        arith,
        only_here a.brand a.value.content k,
        ap (λ x. count x k) (read_set d.given_up a.brand all_given nothing made),
        count-sum (given_at d a.brand) a.value.content k,
      ))
  given_count e k made (inr differs) = omega (
    arith,
    only_elsewhere a.brand e a.value.content k differs,
    ap (λ x. count x k) (read_other d.given_up a.brand e all_given nothing differs),
  )

  -- before a parcel was given up the hand had it more
  pub more_given_up : a.brand < length d.given_up → HasMore d (given_up_too d a) (only a.brand a.value.content)
  more_given_up made = record {
    kept = refl;
    brands = refl;
    hand = λ e k. omega (arith, given_count e k made (cases_eq a.brand e));
  }

  pub listed_given_up : IsListed d → IsListed (given_up_too d a)
  listed_given_up listed = length_set d.given_up a.brand all_given ∙ listed

-- what is read where something was written is that, or what is read past the end
read_written : {X : Type 0} (xs : List X) (n : ℕ) (x d : X) → (slice_index_or (slice_set xs n x) n d ≡ x) ⊎ (slice_index_or (slice_set xs n x) n d ≡ d)
read_written [] n x d = inr refl
read_written (y ∷ ys) zero x d = inl refl
read_written (y ∷ ys) (suc n) x d = read_written ys n x d

-- ---- what the hand keeps

module _ (d : DraftState) (b : ℕ) where
  -- a parcel in hand has a part taken to it
  pub keeps_more : (h : Holder) (c : Content) (w : ValueView) → h ≢ Hand → Contains (hand_now d b) (sum (given_at d b) c) → Contains (hand_now (after d (movement b h Hand w)) b) (sum (given_at d b) (sum c w.content))
  keeps_more h c w apart has = record {
    each = λ k. omega (
      arith,
      has.each k,
      (more_taken d h b w apart).hand b k,
      only_here b w.content k,
      count-sum (given_at d b) c k,
      count-sum (given_at d b) (sum c w.content) k,
      count-sum c w.content k,
    );
  }

  given_most : (c : Content) (k : List ℕ) → (slice_index_or (slice_set d.given_up b (sum (given_at d b) c)) b nothing ≡ sum (given_at d b) c) ⊎ (slice_index_or (slice_set d.given_up b (sum (given_at d b) c)) b nothing ≡ nothing)
      → count (slice_index_or (slice_set d.given_up b (sum (given_at d b) c)) b nothing) k ≤ count (given_at d b) k + count c k
  given_most c k (inl is) = omega (arith, ap (λ x. count x k) is, count-sum (given_at d b) c k)
  given_most c k (inr is) = omega (arith, ap (λ x. count x k) is, count-nothing k)

  -- two parcels are in hand, and the second is given up
  pub keeps_first : (c : Content) (w : ValueView) → Contains (hand_now d b) (sum (given_at d b) (sum c w.content)) → Contains (hand_now d b) (sum (given_at (given_up_too d (record { brand = b; value = w })) b) c)
  keeps_first c w has = record {
    each = λ k. omega (
      arith,
      has.each k,
      given_most w.content k (read_written d.given_up b (sum (given_at d b) w.content) nothing),
      count-sum (given_at d b) (sum c w.content) k,
      count-sum c w.content k,
      count-sum (slice_index_or (slice_set d.given_up b (sum (given_at d b) w.content)) b nothing) c k,
    );
  }

-- ---- what stays

-- where the hand stays, a draft can be undone as before
pub goes_still : (old new : DraftState) → HandStays old new → HandGoes old → HandGoes new
goes_still old new stays goes = record {
  each = λ b made. same_content (given_at new b) (hand_now new b) (λ k. omega (
    arith,
    stays.hand b k,
    count-nothing k,
    ap (λ x. count x k) (goes.each b (omega (arith, made, stays.brands))),
  ));
}

pub holds_still : (old new : DraftState) → HandStays old new → HandHoldsGiven old → HandHoldsGiven new
holds_still old new stays holds = record { each = λ b. record { each = λ k. omega (arith, stays.hand b k, count-nothing k, (holds.each b).each k) } }

-- ---- what is done together

nothing_only : (t : Bool) (k : List ℕ) → count nothing k ≡ count (cond t nothing nothing) k
nothing_only true k = refl
nothing_only false k = refl

-- the hand has all that was gathered
pub gathered_more : (d : DraftState) (b : ℕ) (ps : List Part) → IsApart Hand ps → HasMore (after_all d (gathered b Hand ps)) d (only b (content_of ps))
gathered_more d b [] apart = as_much d d no_hand (only b nothing) (λ e k. nothing_only (b == e) k) (no_more d)
gathered_more d b (p ∷ ps) apart = more_and_more (after_all mid (gathered b Hand ps)) mid d (only b (sum p.1.content (content_of ps))) (only b (content_of ps)) (only b p.1.content)
    (flipped (only b (sum p.1.content (content_of ps))) (only b p.1.content) (only b (content_of ps)) (together b p.1.content (content_of ps)))
    (gathered_more mid b ps apart.1)
    (more_taken d p.0 b p.1 apart.0)
  where
    mid : DraftState
    mid = after d (movement b p.0 Hand p.1)

-- and had all that was spread from it
pub spread_less : (d : DraftState) (b : ℕ) (ps : List Part) → IsApart Hand ps → Contains (hand_now d b) (content_of ps) → HasMore d (after_all d (spread b Hand ps)) (only b (content_of ps))
spread_less d b [] apart has = as_much d d no_hand (only b nothing) (λ e k. nothing_only (b == e) k) (no_more d)
spread_less d b (p ∷ ps) apart has = more_and_more d mid (after_all mid (spread b Hand ps)) (only b (sum p.1.content (content_of ps))) (only b p.1.content) (only b (content_of ps))
    (together b p.1.content (content_of ps))
    first
    (spread_less mid b ps apart.1 (record {
      each = λ k. omega (arith, has.each k, count-sum p.1.content (content_of ps) k, first.hand b k, only_here b p.1.content k);
    }))
  where
    mid : DraftState
    mid = after d (movement b Hand p.0 p.1)

    first : HasMore d mid (only b p.1.content)
    first = more_put d p.0 b p.1 apart.0 (record { each = λ k. omega (arith, has.each k, count-sum p.1.content (content_of ps) k) })

pub has_it : (d mid : DraftState) (b : ℕ) (c : Content) → HandHoldsGiven d → HasMore mid d (only b c) → Contains (hand_now mid b) c
has_it d mid b c holds more = record { each = λ k. omega (arith, more.hand b k, only_here b c k, (holds.each b).each k) }

-- what came to the hand has left it
pub stays : (d mid new : DraftState) (b : ℕ) (c : Content) → HasMore mid d (only b c) → HasMore mid new (only b c) → HandStays d new
stays d mid new b c came went = less_by mid d new (only b c) (only b c) no_hand (flipped (only b c) no_hand (only b c) (alone b c)) came went

pub combined_stays : (d : DraftState) (b : ℕ) (kind : Kind) (to : Holder) (ps : List Part) → IsApart Hand ps → to ≢ Hand → HandHoldsGiven d → HandStays d (after_all d (combined b kind to ps))
combined_stays d b kind to ps apart other holds =
    subst (λ (x : DraftState). HandStays d x) (sym (after_append d (gathered b Hand ps) (movement b Hand to (whole_of kind ps) ∷ [])))
    (stays d mid (after mid (movement b Hand to (whole_of kind ps))) b (content_of ps) more
    (more_put mid to b (whole_of kind ps) other (has_it d mid b (content_of ps) holds more)))
  where
    mid : DraftState
    mid = after_all d (gathered b Hand ps)

    more : HasMore mid d (only b (content_of ps))
    more = gathered_more d b ps apart

pub split_stays : (d : DraftState) (b : ℕ) (kind : Kind) (from : Holder) (ps : List Part) → IsApart Hand ps → from ≢ Hand → HandHoldsGiven d → HandStays d (after_all d (split_up b kind from ps))
split_stays d b kind from ps apart other holds = stays d mid (after_all mid (spread b Hand ps)) b (content_of ps) more (spread_less mid b ps apart (has_it d mid b (content_of ps) holds more))
  where
    mid : DraftState
    mid = after d (movement b from Hand (whole_of kind ps))

    more : HasMore mid d (only b (content_of ps))
    more = more_taken d from b (whole_of kind ps) other
