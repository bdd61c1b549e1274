-- A line's delivery comes in: the host stays good, and the running totals are those of its world.
use Rattle.std.specs.Prelude.{IsSomeAnd, OnErr, OnOk, Result, Ok, Err}
use Rattle.std.proofs.Common.{◌≡◌, ℕ, ◌≤◌, List, Option, Some, refl, sym, ap, subst, ◌∙◌}
use Rattle.std.specs.declared.alloc.AllocError.{AllocError}
use Rattle.run_laws.specs.delivery_laws.Hosts.{IsGoodHost}
use Rattle.run_laws.specs.delivery_laws.Works.{most_meter}
use Rattle.run_laws.proofs.fair_laws.Fair.{steady_first}
use Rattle.run_laws.specs.fair_laws.Views.{IsSteady}
use Rattle.front_turns.specs.host_world.Turns.{IsBetween, arrived}
use Rattle.front_turns.specs.host_world.Worlds.{kept_state}
use Rattle.front_turns.specs.host_world.declared.Ledger.{Ledger}
use Rattle.host_turns.specs.HostSteps.{IsSubmitted, Waits}
use Rattle.host_turns.specs.declared.steps.Submitted.{Submitted}
use Rattle.host_turns.specs.declared.steps.Submitted.TheVariants as submitted
use Rattle.run_laws.proofs.FormedLines.{line_is_line}
use Rattle.run_laws.specs.message_lines.Meanings.{Meaning, blank, delivered, meaning_of, run}
use Rattle.front_turns.specs.turn_records.Deliveries.{Delivery}
use Rattle.host_turns.specs.Totals.{TellsWorld}
use Rattle.host_turns.proofs.SeatNumbers.{first_told}
use Rattle.front_turns.specs.escrow.Told.{nothing_told}
use Rattle.front_turns.specs.world_laws.First.{first_world}
use Rattle.front_turns.proofs.world_laws.First.{first_is_good}
use Rattle.front_turns.proofs.world_laws.Kept.{good-after}
use Rattle.front_turns.specs.world_state.Worlds.{State, arrive}
use Rattle.host_turns.specs.HostStates.{HostParts, IsArrived, IsKept, IsRested, host_of, world_kept}
use Rattle.host_turns.specs.TurnSteps.{parts}
use Rattle.host_turns.specs.LineSteps.{IsTaken}

-- ---- a new host

pub first_kept : (meter : ℕ) (k : Ledger) → meter ≤ most_meter → kept_state k ≡ first_world → IsBetween k → k.sums ≡ nothing_told → IsKept (parts meter (Some k) 0)
first_kept meter k few is between sums = record {
  good = subst (λ v. IsGoodHost (record { meter = meter; world = v; turns = 0 })) (sym is) (record { meter = few; world = first_is_good; untold = refl });
  steady = subst IsSteady (sym is) steady_first;
  rests = record { between = between; sums = subst (λ e. TellsWorld (kept_state k) e) (sym sums) (subst (λ v. TellsWorld v nothing_told) (sym is) first_told) };
}

-- ---- one more waits

steady_more : (w : State) (d : Delivery) → IsSteady w → IsSteady (arrived d w)
steady_more w d is = record {
  counted = record { seats = is.counted.seats; instances = is.counted.instances; facets = is.counted.facets; purses = is.counted.purses };
  left = record { each = is.left.each };
}

-- it stays at rest, whatever came of it
pub rests_on : {A B : Type 0} (r : Result A B) (d : Delivery) (old new : Ledger) → IsRested old → OnOk r (kept_state new ≡ arrived d (kept_state old)) → OnErr r (kept_state new ≡ kept_state old)
    → IsBetween new → new.sums ≡ old.sums → IsRested new
rests_on (Ok x) d old new is ok err between sums = record { between = between; sums = subst (λ e. TellsWorld (kept_state new) e) (sym sums) (subst (λ v. TellsWorld v old.sums) (sym ok) is.sums) }
rests_on (Err x) d old new is ok err between sums = record { between = between; sums = subst (λ e. TellsWorld (kept_state new) e) (sym sums) (subst (λ v. TellsWorld v old.sums) (sym err) is.sums) }

module _ (p : HostParts) (world : Option Ledger) (rests : IsSomeAnd world IsRested) (is : IsKept p) where
  -- the delivery of a line
  pub line_kept : (line : List ℕ) (d : Delivery) → delivered d ≡ meaning_of line → IsArrived d p.world world → IsKept (record { meter = p.meter; world = world; turns = p.turns })
  line_kept line d means came =
      let w = world_kept p.world in
      record {
        good = subst (λ v. IsGoodHost (record { meter = p.meter; world = v; turns = p.turns })) (sym came)
            (record { meter = is.good.meter; world = good-after w (arrive d) (line_is_line line d (sym means)) is.good.world; untold = is.good.untold });
        steady = subst IsSteady (sym came) (steady_more w d is.steady);
        rests = rests;
      }

  -- nothing came of it
  pub same_kept : world_kept world ≡ world_kept p.world → IsKept (record { meter = p.meter; world = world; turns = p.turns })
  same_kept same = record {
    good = subst (λ v. IsGoodHost (record { meter = p.meter; world = v; turns = p.turns })) (sym same) is.good;
    steady = subst IsSteady (sym same) is.steady;
    rests = rests;
  }

pub waits_now : (p : HostParts) (world : Option Ledger) (m : Meaning) (d : Delivery) → delivered d ≡ m → IsArrived d p.world world → Waits (host_of p) (host_of (record { meter = p.meter; world = world; turns = p.turns })) m
waits_now p world m d means came = subst (Waits (host_of p) (host_of (record { meter = p.meter; world = world; turns = p.turns }))) means (ap (λ v. record { meter = p.meter; world = v; turns = p.turns }) came)

-- whatever came of it
pub taken_kept : (r : Result Submitted AllocError) (p : HostParts) (world : Option Ledger) (line : List ℕ) (m : Meaning) → m ≡ meaning_of line → IsKept p → IsTaken p.world world m r → IsSomeAnd world IsRested
    → IsKept (record { meter = p.meter; world = world; turns = p.turns })
taken_kept (Ok submitted.Blank) p world line m means is taken rests = same_kept p world rests is taken.same
taken_kept (Ok (submitted.Run n)) p world line m means is taken rests = same_kept p world rests is taken.same
taken_kept (Ok submitted.Queued) p world line blank means is taken rests = absurd taken
taken_kept (Ok submitted.Queued) p world line (delivered d) means is taken rests = line_kept p world rests is line d means taken
taken_kept (Ok submitted.Queued) p world line (run n) means is taken rests = absurd taken
taken_kept (Err e) p world line m means is taken rests = same_kept p world rests is taken

-- and it is what runs ask of a host
pub submitted_so : (r : Result Submitted AllocError) (p q : HostParts) → p ≡ q → (world : Option Ledger) (line : List ℕ) (m : Meaning) → m ≡ meaning_of line → IsTaken p.world world m r
    → IsSubmitted (host_of q) (host_of (record { meter = p.meter; world = world; turns = p.turns })) line r
submitted_so r p q seen world line m means taken =
    let new : HostParts = record { meter = p.meter; world = world; turns = p.turns } in
    let to : world_kept world ≡ world_kept p.world → host_of new ≡ host_of p = λ same. ap (λ v. record { meter = p.meter; world = v; turns = p.turns }) same in
    subst (λ x. IsSubmitted (host_of x) (host_of new) line r) seen (by r m means taken to)
  where
    by : (r : Result Submitted AllocError) (m : Meaning) → m ≡ meaning_of line → IsTaken p.world world m r → (world_kept world ≡ world_kept p.world → host_of (record { meter = p.meter; world = world; turns = p.turns }) ≡ host_of p)
        → IsSubmitted (host_of p) (host_of (record { meter = p.meter; world = world; turns = p.turns })) line r
    by (Ok submitted.Blank) m means taken to = record { meaning = sym means ∙ taken.meaning; same = to taken.same }
    by (Ok (submitted.Run n)) m means taken to = record { meaning = sym means ∙ taken.meaning; same = to taken.same }
    by (Ok submitted.Queued) blank means taken to = absurd taken
    by (Ok submitted.Queued) (delivered d) means taken to = waits_now p world (meaning_of line) d means taken
    by (Ok submitted.Queued) (run n) means taken to = absurd taken
    by (Err e) m means taken to = to taken
