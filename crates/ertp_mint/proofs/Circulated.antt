-- What is out of a brand and what is kept of it, after each change.
use Rattle.std.proofs.Common.{◌≡◌, ℕ, ◌+◌, ◌≤◌, List, refl, sym, subst, arith}
use Rattle.amount_math.specs.Content.{Content, Contains, count, count-difference, count-nothing, count-sum, counts, difference, sum, sum-difference}
use Rattle.amount_math.specs.Counted.{counted, counted-difference, counted-nothing, counted-sum}
use Rattle.amount_math.specs.Totals.{total-put}
use Rattle.amount_math.specs.ValueView.{Fits, ValueView, bound}
use Rattle.amount_math.specs.declared.Kind.{Kind}
use Rattle.amount_math.specs.declared.Kind.TheVariants.{Nat, Set, Bag}
use Rattle.ertp_mint.specs.BrandSupply.{MayIssue}
use Rattle.ertp_mint.specs.Circulating.{CanReturn, CirculationView, Circulates, IsOut, new_circulation, with_forgotten, with_issued, with_retired, with_unissued, with_unretired}
use Rattle.ertp_mint.specs.Places.{AllowsAll, OutAndKept, most_placed}
use Rattle.ertp_mint.specs.declared.place.Change.TheVariants.{Issue, UndoIssue, Retire, UndoRetire, Forget}

-- how it is kept
abbrev pub view_of : Kind → OutAndKept → ℕ → ℕ → CirculationView
view_of kind keys minted burned = record { supply = record { outstanding = record { kind = kind; content = keys.out }; minted = minted; burned = burned }; kept = keys.kept }

-- ---- which changes may be made

bound_is_small : (kind : Kind) → bound kind ≤ most_placed
bound_is_small Nat = omega arith
bound_is_small Set = omega arith
bound_is_small Bag = omega arith

count_is_counted : (c : Content) (k : List ℕ) → count c k ≤ counted c
count_is_counted c k = omega (arith, total-put (λ q n. n) counts (λ _. refl) c k 0)

pub may_issue : (kind : Kind) (s : OutAndKept) (c : Content) → Fits kind (sum s.out c) → AllowsAll Issue c s
may_issue kind s c fits = λ k. omega (arith, fits.each k, count-sum s.out c k, bound_is_small kind)

pub may_undo_issue : (s : OutAndKept) (c : Content) → Contains s.out c → AllowsAll UndoIssue c s
may_undo_issue s c has = λ k. has.each k

pub may_retire : (s : OutAndKept) (c : Content) → Contains s.out c → counted s.kept + counted c ≤ most_placed → AllowsAll Retire c s
may_retire s c has small = λ k. (has.each k, omega (arith, small, count_is_counted s.kept k, count_is_counted c k))

pub may_undo_retire : (kind : Kind) (s : OutAndKept) (c : Content) → Contains s.kept c → Fits kind (sum s.out c) → AllowsAll UndoRetire c s
may_undo_retire kind s c kept fits = λ k. (kept.each k, omega (arith, fits.each k, count-sum s.out c k, bound_is_small kind))

pub may_forget : (s : OutAndKept) (c : Content) → Contains s.kept c → AllowsAll Forget c s
may_forget s c kept = λ k. kept.each k

-- ---- all goes on adding up

pub circulates_new : (kind : Kind) → Circulates (new_circulation kind)
circulates_new kind = record {
  adds_up = omega (arith, counted-nothing);
  fits = record { each = λ k. omega (arith, count-nothing k) };
  minted = omega arith;
  kept = omega (arith, counted-nothing);
}

pub circulates_issued : (s : CirculationView) (w : ValueView) → Circulates s → s.supply.outstanding.kind ≡ w.kind → MayIssue s.supply w → Circulates (with_issued s w.content)
circulates_issued s w h kind may = record {
  adds_up = omega (arith, h.adds_up, counted-sum s.supply.outstanding.content w.content);
  fits = subst (λ k. Fits k (sum s.supply.outstanding.content w.content)) (sym kind) may.fits;
  minted = may.minted;
  kept = h.kept;
}

-- what is taken away leaves what fits
fits_less : (kind : Kind) (a b : Content) → Fits kind a → Fits kind (difference a b)
fits_less kind a b fits = record { each = λ k. omega (arith, fits.each k, count-difference a b k) }

pub circulates_unissued : (s : CirculationView) (c : Content) → Circulates s → Contains s.supply.outstanding.content c → Circulates (with_unissued s c)
circulates_unissued s c h has = record {
  adds_up = omega (arith, h.adds_up, counted-difference s.supply.outstanding.content c has);
  fits = fits_less _ _ c h.fits;
  minted = omega (arith, h.minted);
  kept = h.kept;
}

pub circulates_retired : (s : CirculationView) (c : Content) → Circulates s → Contains s.supply.outstanding.content c → Circulates (with_retired s c)
circulates_retired s c h has = record {
  adds_up = omega (arith, h.adds_up, counted-difference s.supply.outstanding.content c has);
  fits = fits_less _ _ c h.fits;
  minted = h.minted;
  kept = omega (arith, h.kept, counted-sum s.kept c);
}

pub circulates_unretired : (s : CirculationView) (c : Content) → Circulates s → Contains s.kept c → Fits s.supply.outstanding.kind (sum s.supply.outstanding.content c) → Circulates (with_unretired s c)
circulates_unretired s c h kept fits = record {
  adds_up = omega (arith, h.adds_up, h.kept, counted-sum s.supply.outstanding.content c, counted-difference s.kept c kept);
  fits = fits;
  minted = h.minted;
  kept = omega (arith, h.kept, counted-difference s.kept c kept);
}

pub circulates_forgotten : (s : CirculationView) (c : Content) → Circulates s → Contains s.kept c → Circulates (with_forgotten s c)
circulates_forgotten s c h kept = record {
  adds_up = h.adds_up;
  fits = h.fits;
  minted = h.minted;
  kept = omega (arith, h.kept, counted-difference s.kept c kept);
}

-- what is retired was minted
pub retired_is_small : (s : CirculationView) (c : Content) → Circulates s → Contains s.supply.outstanding.content c → s.supply.burned + counted c ≤ s.supply.minted
retired_is_small s c h has = omega (arith, h.adds_up, counted-difference s.supply.outstanding.content c has)

-- what is worked backwards was minted, or burned
pub unissued_is_minted : (s : CirculationView) (c : Content) → Circulates s → Contains s.supply.outstanding.content c → counted c ≤ s.supply.minted
unissued_is_minted s c h has = omega (arith, h.adds_up, counted-difference s.supply.outstanding.content c has)

pub kept_is_burned : (s : CirculationView) (c : Content) → Circulates s → Contains s.kept c → counted c ≤ s.supply.burned
kept_is_burned s c h kept = omega (arith, h.kept, counted-difference s.kept c kept)

-- what was retired can return
pub retired_can_return : (s : CirculationView) (w : ValueView) → Circulates s → IsOut s w → CanReturn (with_retired s w.content) w
retired_can_return s w h out = record {
  kind = out.kind;
  kept = record { each = λ k. omega (arith, count-sum s.kept w.content k) };
  fits = subst (λ c. Fits s.supply.outstanding.kind c) (sym (sum-difference s.supply.outstanding.content w.content out.has)) h.fits;
}

-- what was issued is out
pub issued_is_out : (s : CirculationView) (w : ValueView) → s.supply.outstanding.kind ≡ w.kind → IsOut (with_issued s w.content) w
issued_is_out s w kind = record {
  kind = kind;
  has = record { each = λ k. omega (arith, count-sum s.supply.outstanding.content w.content k) };
}
