-- What is kept of a brand stays so, whatever is done.
use Rattle.std.proofs.Common.{◌≡◌, inl, inr, ℕ, zero, suc, ◌+◌, ◌<◌, ◌≤◌, List, [], ◌∷◌, ◌++◌, length, take, refl, sym, ◌∙◌, ap, subst, arith}
use Rattle.std.specs.Prelude.{slice_set}
use Rattle.std.proofs.lemmas.Bool.{cases_eq}
use Rattle.ertp_mint.specs.amount_math.Content.{Content, Contains, count-difference, count-nothing, count-sum, difference, nothing, same_content, sum, sum-nothing}
use Rattle.ertp_mint.specs.amount_math.Counted.{counted, counted-difference, counted-nothing, counted-sum}
use Rattle.ertp_mint.specs.amount_math.Held.{Held, with_less, with_more}
use Rattle.ertp_mint.specs.amount_math.ValueView.{Fits, ValueView, fits_within}
use Rattle.ertp_mint.specs.amount_math.declared.Kind.{Kind}
use Rattle.ertp_mint.specs.amount_math.declared.Kind.TheVariants.{Nat}
use Rattle.ertp_mint.specs.Circulating.{CanReturn, CirculationView, circulation_at, new_circulation, with_forgotten, with_issued, with_retired, with_unissued, with_unretired}
use Rattle.lemmas.proofs.ListEdits.{length_push, length_set, read_before, read_other, read_pushed, read_set, read_take, set_same}
use Rattle.transit.specs.Transit.{AreKept, IsKept, empty_hand, held_at, whole_of}

module _ (x : CirculationView) (h : Held) (w : ValueView) (is : IsKept x h) where
  abbrev out : Content
  out = x.supply.outstanding.content

  abbrev hand : Content
  hand = h.value.content

  abbrev kind : Kind
  kind = x.supply.outstanding.kind

  -- what is on its way is among what isn't in the hand's store
  pub on_its_way : Contains (sum out hand) (sum hand w.content) → Contains out w.content
  on_its_way has = record { each = λ k. omega (arith, has.each k, count-sum out hand k, count-sum hand w.content k) }

  fit : (c : Content) → Contains (sum out hand) c → Fits kind c
  fit c has = fits_within kind (sum out hand) c has is.fits

  left_in : Contains out w.content → Contains (sum out hand) (sum (difference out w.content) hand)
  left_in has = record { each = λ k. omega (arith, count-sum out hand k, count-sum (difference out w.content) hand k, count-difference out w.content k) }

  pub kept_retired : Contains out w.content → IsKept (with_retired x w.content) h
  kept_retired has = record {
    kind = is.kind;
    burned = omega (arith, is.burned);
    fits = fit _ (left_in has);
    kept = record { each = λ k. omega (arith, is.kept.each k, count-sum x.kept w.content k) };
  }

  pub kept_unissued : Contains out w.content → IsKept (with_unissued x w.content) h
  kept_unissued has = record {
    kind = is.kind;
    burned = is.burned;
    fits = fit _ (left_in has);
    kept = is.kept;
  }

  same_whole : Contains out w.content → sum (difference out w.content) (sum hand w.content) ≡ sum out hand
  same_whole has = same_content _ _ (λ k. omega (arith, count-sum (difference out w.content) (sum hand w.content) k, count-difference out w.content k, count-sum hand w.content k, count-sum out hand k, has.each k))

  pub kept_held : Contains out w.content → IsKept (with_retired x w.content) (with_more h w.content)
  kept_held has = record {
    kind = is.kind;
    burned = omega (arith, is.burned, counted-sum hand w.content);
    fits = subst (Fits kind) (sym (same_whole has)) is.fits;
    kept = record { each = λ k. omega (arith, is.kept.each k, count-sum x.kept w.content k, count-sum hand w.content k) };
  }

  whole_again : Contains hand w.content → sum (sum out w.content) (difference hand w.content) ≡ sum out hand
  whole_again has = same_content _ _ (λ k. omega (arith, count-sum (sum out w.content) (difference hand w.content) k, count-difference hand w.content k, count-sum out w.content k, count-sum out hand k, has.each k))

  pub kept_let_go : Contains hand w.content → IsKept (with_unretired x w.content) (with_less h w.content)
  kept_let_go has = record {
    kind = is.kind;
    burned = omega (arith, is.burned, counted-difference hand w.content has);
    fits = subst (Fits kind) (sym (whole_again has)) is.fits;
    kept = record { each = λ k. omega (arith, is.kept.each k, count-difference x.kept w.content k, count-difference hand w.content k) };
  }

  pub can_let_go : h.value.kind ≡ w.kind → Contains hand w.content → CanReturn x w
  can_let_go same has = record {
    kind = is.kind ∙ same;
    kept = record { each = λ k. omega (arith, is.kept.each k, has.each k) };
    fits = fit _ (within has);
  }
    where
      within : Contains hand w.content → Contains (sum out hand) (sum out w.content)
      within has = record { each = λ k. omega (arith, count-sum out hand k, count-sum out w.content k, has.each k) }

  -- what the hand's store takes in fits in it
  pub fits_hand : Contains (sum out hand) (sum hand w.content) → Fits h.value.kind (sum hand w.content)
  fits_hand has = subst (λ k. Fits k (sum hand w.content)) is.kind (fit _ has)

  -- what is retired can be out again, beside what the hand's store has
  pub can_return : kind ≡ w.kind → Contains out w.content → CanReturn (whole_of (with_retired x w.content) hand) w
  can_return same has = record {
    kind = same;
    kept = record { each = λ k. omega (arith, is.kept.each k, count-difference (sum x.kept w.content) hand k, count-sum x.kept w.content k) };
    fits = subst (Fits kind) (sym back) is.fits;
  }
    where
      back : sum (sum (difference out w.content) hand) w.content ≡ sum out hand
      back = same_content _ _ (λ k. omega (arith, count-sum (sum (difference out w.content) hand) w.content k, count-sum (difference out w.content) hand k, count-difference out w.content k, count-sum out hand k, has.each k))

  module _ (can : CanReturn (whole_of x hand) w) where
    beside : sum (sum out hand) w.content ≡ sum (sum out w.content) hand
    beside = same_content _ _ (λ k. omega (arith, count-sum (sum out hand) w.content k, count-sum out hand k, count-sum (sum out w.content) hand k, count-sum out w.content k))

    among : Contains (sum (sum out hand) w.content) (sum out w.content)
    among = record { each = λ k. omega (arith, count-sum (sum out hand) w.content k, count-sum out hand k, count-sum out w.content k) }

    pub can_return_part : CanReturn x w
    can_return_part = record {
      kind = can.kind;
      kept = record { each = λ k. omega (arith, can.kept.each k, count-difference x.kept hand k) };
      fits = fits_within kind (sum (sum out hand) w.content) (sum out w.content) among can.fits;
    }

    pub kept_unretired : counted w.content + counted hand ≤ x.supply.burned → IsKept (with_unretired x w.content) h
    kept_unretired burned = record {
      kind = is.kind;
      burned = omega (arith, burned);
      fits = subst (Fits kind) beside can.fits;
      kept = record { each = λ k. omega (arith, can.kept.each k, is.kept.each k, count-difference x.kept hand k, count-difference x.kept w.content k) };
    }

  pub kept_forgotten : Contains (whole_of x hand).kept w.content → IsKept (with_forgotten x w.content) h
  kept_forgotten has = record {
    kind = is.kind;
    burned = is.burned;
    fits = is.fits;
    kept = record { each = λ k. omega (arith, has.each k, is.kept.each k, count-difference x.kept hand k, count-difference x.kept w.content k) };
  }

-- what was issued, where the hand's store has nothing
pub kept_issued : (x : CirculationView) (h : Held) (w : ValueView) → IsKept x h → h.value.content ≡ nothing → x.supply.outstanding.kind ≡ w.kind → Fits w.kind (sum x.supply.outstanding.content w.content) → IsKept (with_issued x w.content) h
kept_issued x h w is empty same fits =
    let new = sum x.supply.outstanding.content w.content in
    let whole : sum new h.value.content ≡ new = ap (sum new) empty ∙ sum-nothing new in
    record {
      kind = is.kind;
      burned = is.burned;
      fits = subst (Fits x.supply.outstanding.kind) (sym whole) (subst (λ k. Fits k new) (sym same) fits);
      kept = is.kept;
    }

-- ---- of all brands

module _ (out : List CirculationView) (hand : List Held) (are : AreKept out hand) where
  pub kept_set : (b : ℕ) (y : CirculationView) (g : Held) → b < length out → IsKept y g → AreKept (slice_set out b y) (slice_set hand b g)
  kept_set b y g lt is = record {
    same = length_set out b y ∙ are.same ∙ sym (length_set hand b g);
    each = λ q less. elim (cases_eq b q) [
      | inl at ↦ subst (λ n. IsKept (circulation_at (slice_set out b y) n) (held_at (slice_set hand b g) n)) at
          (subst (λ z. IsKept z (held_at (slice_set hand b g) b)) (sym (read_set out b y (new_circulation Nat) lt))
          (subst (λ z. IsKept y z) (sym (read_set hand b g (empty_hand Nat) (omega (arith, lt, are.same)))) is))
      | inr apart ↦
          subst (λ z. IsKept z (held_at (slice_set hand b g) q)) (sym (read_other out b q y (new_circulation Nat) apart))
          (subst (λ z. IsKept (circulation_at out q) z) (sym (read_other hand b q g (empty_hand Nat) apart)) (are.each q (omega (arith, less, length_set out b y))))
    ];
  }

  pub kept_set_out : (b : ℕ) (y : CirculationView) → b < length out → IsKept y (held_at hand b) → AreKept (slice_set out b y) hand
  kept_set_out b y lt is = subst (λ l. AreKept (slice_set out b y) l) (set_same hand b (empty_hand Nat)) (kept_set b y (held_at hand b) lt is)

  pub kept_set_hand : (b : ℕ) (g : Held) → b < length out → IsKept (circulation_at out b) g → AreKept out (slice_set hand b g)
  kept_set_hand b g lt is = subst (λ l. AreKept l (slice_set hand b g)) (set_same out b (new_circulation Nat)) (kept_set b (circulation_at out b) g lt is)

  pub kept_push : (k : Kind) → AreKept (out ++ new_circulation k ∷ []) (hand ++ empty_hand k ∷ [])
  kept_push k = record {
    same = omega (arith, are.same, length_push out (new_circulation k), length_push hand (empty_hand k));
    each = λ q less. elim (cases_eq (length out) q) [
      | inl at ↦
          subst (λ z. IsKept z (held_at (hand ++ empty_hand k ∷ []) q)) (sym (read_pushed out (new_circulation k) (new_circulation Nat) q (sym at)))
          (subst (λ z. IsKept (new_circulation k) z) (sym (read_pushed hand (empty_hand k) (empty_hand Nat) q (sym at ∙ are.same))) (fresh k))
      | inr apart ↦
          subst (λ z. IsKept z (held_at (hand ++ empty_hand k ∷ []) q)) (sym (read_before out (new_circulation k) (new_circulation Nat) q apart))
          (subst (λ z. IsKept (circulation_at out q) z) (sym (read_before hand (empty_hand k) (empty_hand Nat) q (λ e. apart (are.same ∙ e))))
          (are.each q (omega (arith, less, length_push out (new_circulation k), apart))))
    ];
  }
    where
      fresh : (k : Kind) → IsKept (new_circulation k) (empty_hand k)
      fresh k = record {
        kind = refl;
        burned = omega (arith, counted-nothing);
        fits = record { each = λ e. omega (arith, count-sum nothing nothing e, count-nothing e) };
        kept = record { each = λ e. omega arith };
      }

  pub kept_take : (n : ℕ) → AreKept (take n out) (take n hand)
  kept_take n = record {
    same = same out hand n are.same;
    each = λ q less.
        subst (λ z. IsKept z (held_at (take n hand) q)) (sym (read_take out n q (new_circulation Nat) less))
        (subst (λ z. IsKept (circulation_at out q) z) (sym (read_take hand n q (empty_hand Nat) (omega (arith, less, same out hand n are.same)))) (are.each q (shorter out n q less)));
  }
    where
      same : (xs : List CirculationView) (hs : List Held) (n : ℕ) → length xs ≡ length hs → length (take n xs) ≡ length (take n hs)
      same [] [] zero e = refl
      same [] [] (suc n) e = refl
      same [] (g ∷ gs) n e = absurd (omega arith)
      same (y ∷ ys) [] n e = absurd (omega arith)
      same (y ∷ ys) (g ∷ gs) zero e = refl
      same (y ∷ ys) (g ∷ gs) (suc n) e = omega (arith, same ys gs n (omega arith))

      shorter : (xs : List CirculationView) (n q : ℕ) → q < length (take n xs) → q < length xs
      shorter [] zero q lt = lt
      shorter [] (suc n) q lt = lt
      shorter (y ∷ ys) zero q lt = absurd (omega arith)
      shorter (y ∷ ys) (suc n) zero lt = omega arith
      shorter (y ∷ ys) (suc n) (suc q) lt = omega (arith, shorter ys n q (omega arith))
