-- What the whole supply is, of a brand and of all: what a step makes of the two parts, it makes of the whole.
use Rattle.std.proofs.Common.{◌≡◌, ℕ, zero, suc, ◌+◌, ◌-◌, ◌<◌, ◌≤◌, List, [], ◌∷◌, ◌++◌, length, take, refl, sym, ◌∙◌, ap, arith}
use Rattle.std.specs.Prelude.{slice_set}
use Rattle.ertp_mint.specs.amount_math.Content.{Content, Contains, count-difference, count-sum, difference, same_content, sum}
use Rattle.ertp_mint.specs.amount_math.Counted.{counted, counted-difference, counted-sum}
use Rattle.ertp_mint.specs.amount_math.Held.{Held}
use Rattle.ertp_mint.specs.amount_math.ValueView.{with_content}
use Rattle.ertp_mint.specs.amount_math.declared.Kind.TheVariants.{Nat}
use Rattle.ertp_mint.specs.BrandSupply.{BrandSupply, issued, retired}
use Rattle.ertp_mint.specs.Circulating.{CirculationView, circulation_at, new_circulation, unissued, unretired, with_forgotten, with_issued, with_retired, with_unissued, with_unretired}
use Rattle.lemmas.proofs.ListEdits.{set_same}
use Rattle.transit.specs.Transit.{empty_hand, held_at, whole_of, wholes}

-- ---- of all brands

pub wholes-length : (out : List CirculationView) (hand : List Held) → length (wholes out hand) ≡ length out
wholes-length [] hs = refl
wholes-length (x ∷ xs) [] = refl
wholes-length (x ∷ xs) (h ∷ hs) = omega (arith, wholes-length xs hs)

pub wholes-read : (out : List CirculationView) (hand : List Held) (b : ℕ) → length out ≡ length hand → b < length out → circulation_at (wholes out hand) b ≡ whole_of (circulation_at out b) (held_at hand b).value.content
wholes-read [] hs b same lt = absurd (omega arith)
wholes-read (x ∷ xs) [] b same lt = absurd (omega arith)
wholes-read (x ∷ xs) (h ∷ hs) zero same lt = refl
wholes-read (x ∷ xs) (h ∷ hs) (suc b) same lt = wholes-read xs hs b (omega arith) (omega arith)

pub wholes-set : (out : List CirculationView) (hand : List Held) (b : ℕ) (x : CirculationView) (h : Held) → length out ≡ length hand → wholes (slice_set out b x) (slice_set hand b h) ≡ slice_set (wholes out hand) b (whole_of x h.value.content)
wholes-set [] [] b x h same = refl
wholes-set [] (g ∷ gs) b x h same = absurd (omega arith)
wholes-set (y ∷ ys) [] b x h same = absurd (omega arith)
wholes-set (y ∷ ys) (g ∷ gs) zero x h same = refl
wholes-set (y ∷ ys) (g ∷ gs) (suc b) x h same = ap (λ l. whole_of y g.value.content ∷ l) (wholes-set ys gs b x h (omega arith))

pub wholes-push : (out : List CirculationView) (hand : List Held) (x : CirculationView) (h : Held) → length out ≡ length hand → wholes (out ++ x ∷ []) (hand ++ h ∷ []) ≡ wholes out hand ++ whole_of x h.value.content ∷ []
wholes-push [] [] x h same = refl
wholes-push [] (g ∷ gs) x h same = absurd (omega arith)
wholes-push (y ∷ ys) [] x h same = absurd (omega arith)
wholes-push (y ∷ ys) (g ∷ gs) x h same = ap (λ l. whole_of y g.value.content ∷ l) (wholes-push ys gs x h (omega arith))

pub wholes-take : (out : List CirculationView) (hand : List Held) (n : ℕ) → length out ≡ length hand → wholes (take n out) (take n hand) ≡ take n (wholes out hand)
wholes-take [] [] zero same = refl
wholes-take [] [] (suc n) same = refl
wholes-take [] (g ∷ gs) n same = absurd (omega arith)
wholes-take (y ∷ ys) [] n same = absurd (omega arith)
wholes-take (y ∷ ys) (g ∷ gs) zero same = refl
wholes-take (y ∷ ys) (g ∷ gs) (suc n) same = ap (λ l. whole_of y g.value.content ∷ l) (wholes-take ys gs n (omega arith))

module _ (out : List CirculationView) (hand : List Held) (b : ℕ) (same : length out ≡ length hand) (lt : b < length out) where
  -- where the hand's store stays
  pub wholes-set_out : (x : CirculationView) → wholes (slice_set out b x) hand ≡ slice_set (wholes out hand) b (whole_of x (held_at hand b).value.content)
  wholes-set_out x = ap (wholes (slice_set out b x)) (sym (set_same hand b (empty_hand Nat))) ∙ wholes-set out hand b x (held_at hand b) same

  -- where both change so that the whole stays
  pub wholes-kept : (x : CirculationView) (h : Held) → whole_of x h.value.content ≡ whole_of (circulation_at out b) (held_at hand b).value.content → wholes (slice_set out b x) (slice_set hand b h) ≡ wholes out hand
  wholes-kept x h is =
      wholes-set out hand b x h same
      ∙ ap (slice_set (wholes out hand) b) (is ∙ sym (wholes-read out hand b same lt))
      ∙ set_same (wholes out hand) b (new_circulation Nat)

  -- where the hand's store has the same, in another room
  pub wholes-roomed : (h : Held) → h.value.content ≡ (held_at hand b).value.content → wholes out (slice_set hand b h) ≡ wholes out hand
  wholes-roomed h is = ap (λ l. wholes l (slice_set hand b h)) (sym (set_same out b (new_circulation Nat))) ∙ wholes-kept (circulation_at out b) h (ap (whole_of (circulation_at out b)) is)

-- ---- of one brand

module _ (s : BrandSupply) (hand part : Content) where
  abbrev out : Content
  out = s.outstanding.content

  less_then_more : Contains out part → sum (difference out part) hand ≡ difference (sum out hand) part
  less_then_more has = same_content _ _ (λ k. omega (arith, count-sum (difference out part) hand k, count-difference out part k, count-difference (sum out hand) part k, count-sum out hand k, has.each k))

  more_then_more : sum (sum out part) hand ≡ sum (sum out hand) part
  more_then_more = same_content _ _ (λ k. omega (arith, count-sum (sum out part) hand k, count-sum out part k, count-sum (sum out hand) part k, count-sum out hand k))

  pub issued_whole : unretired (issued s part) hand ≡ issued (unretired s hand) part
  issued_whole i = record { outstanding = with_content s.outstanding (more_then_more i); minted = s.minted + counted part; burned = s.burned - counted hand }

  pub unissued_whole : Contains out part → unretired (unissued s part) hand ≡ unissued (unretired s hand) part
  unissued_whole has i = record { outstanding = with_content s.outstanding (less_then_more has i); minted = s.minted - counted part; burned = s.burned - counted hand }

  pub retired_whole : counted hand ≤ s.burned → Contains out part → unretired (retired s part) hand ≡ retired (unretired s hand) part
  retired_whole burned has i = record { outstanding = with_content s.outstanding (less_then_more has i); minted = s.minted; burned = later i }
    where
      later : (s.burned + counted part) - counted hand ≡ (s.burned - counted hand) + counted part
      later = omega (arith, burned)

  pub unretired_whole : unretired (unretired s part) hand ≡ unretired (unretired s hand) part
  unretired_whole i = record { outstanding = with_content s.outstanding (more_then_more i); minted = s.minted; burned = either i }
    where
      either : (s.burned - counted part) - counted hand ≡ (s.burned - counted hand) - counted part
      either = omega arith

  pub held_whole : Contains out part → unretired (retired s part) (sum hand part) ≡ unretired s hand
  held_whole has i = record { outstanding = with_content s.outstanding (same i); minted = s.minted; burned = less i }
    where
      same : sum (difference out part) (sum hand part) ≡ sum out hand
      same = same_content _ _ (λ k. omega (arith, count-sum (difference out part) (sum hand part) k, count-difference out part k, count-sum hand part k, count-sum out hand k, has.each k))

      less : (s.burned + counted part) - counted (sum hand part) ≡ s.burned - counted hand
      less = omega (arith, counted-sum hand part)

  pub let_go_whole : Contains hand part → unretired (unretired s part) (difference hand part) ≡ unretired s hand
  let_go_whole has i = record { outstanding = with_content s.outstanding (same i); minted = s.minted; burned = less i }
    where
      same : sum (sum out part) (difference hand part) ≡ sum out hand
      same = same_content _ _ (λ k. omega (arith, count-sum (sum out part) (difference hand part) k, count-difference hand part k, count-sum out part k, count-sum out hand k, has.each k))

      less : (s.burned - counted part) - counted (difference hand part) ≡ s.burned - counted hand
      less = omega (arith, counted-difference hand part has)

-- ---- with what is kept

module _ (x : CirculationView) (hand part : Content) where
  pub issued_circulation : whole_of (with_issued x part) hand ≡ with_issued (whole_of x hand) part
  issued_circulation i = record { supply = issued_whole x.supply hand part i; kept = difference x.kept hand }

  pub unissued_circulation : Contains x.supply.outstanding.content part → whole_of (with_unissued x part) hand ≡ with_unissued (whole_of x hand) part
  unissued_circulation has i = record { supply = unissued_whole x.supply hand part has i; kept = difference x.kept hand }

  pub retired_circulation : counted hand ≤ x.supply.burned → Contains x.kept hand → Contains x.supply.outstanding.content part → whole_of (with_retired x part) hand ≡ with_retired (whole_of x hand) part
  retired_circulation burned keeps has i = record { supply = retired_whole x.supply hand part burned has i; kept = later i }
    where
      later : difference (sum x.kept part) hand ≡ sum (difference x.kept hand) part
      later = same_content _ _ (λ k. omega (arith, count-difference (sum x.kept part) hand k, count-sum x.kept part k, count-sum (difference x.kept hand) part k, count-difference x.kept hand k, keeps.each k))

  either : difference (difference x.kept part) hand ≡ difference (difference x.kept hand) part
  either = same_content _ _ (λ k. omega (arith, count-difference (difference x.kept part) hand k, count-difference x.kept part k, count-difference (difference x.kept hand) part k, count-difference x.kept hand k))

  pub unretired_circulation : whole_of (with_unretired x part) hand ≡ with_unretired (whole_of x hand) part
  unretired_circulation i = record { supply = unretired_whole x.supply hand part i; kept = either i }

  pub forgotten_circulation : whole_of (with_forgotten x part) hand ≡ with_forgotten (whole_of x hand) part
  forgotten_circulation i = record { supply = unretired x.supply hand; kept = either i }

  pub held_circulation : Contains x.supply.outstanding.content part → whole_of (with_retired x part) (sum hand part) ≡ whole_of x hand
  held_circulation has i = record { supply = held_whole x.supply hand part has i; kept = same i }
    where
      same : difference (sum x.kept part) (sum hand part) ≡ difference x.kept hand
      same = same_content _ _ (λ k. omega (arith, count-difference (sum x.kept part) (sum hand part) k, count-sum x.kept part k, count-sum hand part k, count-difference x.kept hand k))

  pub let_go_circulation : Contains hand part → whole_of (with_unretired x part) (difference hand part) ≡ whole_of x hand
  let_go_circulation has i = record { supply = let_go_whole x.supply hand part has i; kept = same i }
    where
      same : difference (difference x.kept part) (difference hand part) ≡ difference x.kept hand
      same = same_content _ _ (λ k. omega (arith, count-difference (difference x.kept part) (difference hand part) k, count-difference x.kept part k, count-difference hand part k, count-difference x.kept hand k, has.each k))
