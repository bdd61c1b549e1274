-- The end of a turn: what is kept of it is the host after its step; what is undone leaves the host as it was.
use Rattle.std.specs.Prelude.{IfSome}
use Rattle.std.proofs.Common.{◌≡◌, ℕ, ◌+◌, ◌<◌, List, [], ◌∷◌, ◌++◌, Option, Some, None, length, map, refl, sym, ap, subst, ◌∙◌, append_assoc}
use Rattle.front_turns.specs.world_effects.CarriedEffects.{AreCarried}
use Rattle.run_laws.proofs.rule_laws.Methods.{calls_are, services_are}
use Rattle.front_turns.specs.contract_texts.Reader.{reader}
use Rattle.front_turns.proofs.contract_texts.Modules.{reads_modules}
use Rattle.run_laws.specs.delivery_laws.Hosts.{IsGoodHost}
use Rattle.run_laws.proofs.delivery_laws.Hosts.{steps_good}
use Rattle.run_laws.proofs.delivery_laws.Runs.{after_both}
use Rattle.run_laws.specs.delivery_turns.Endings.{binds, departs, ending, publishes, settles}
use Rattle.run_laws.specs.delivery_turns.Hosts.{Step, step_after, step_from, step_of, sums_of, untold}
use Rattle.run_laws.specs.delivery_turns.Tasks.{beginning, task_work}
use Rattle.run_laws.specs.delivery_turns.Turns.{DeliveryTurn, delivery_turn}
use Rattle.run_laws.specs.fair_laws.Turns.{IsTurnStep}
use Rattle.run_laws.proofs.fair_laws.Whole.{steps_are}
use Rattle.run_laws.specs.fair_laws.Views.{IsSteady}
use Rattle.front_turns.proofs.world_laws.FrontDeliveries.{effects_pass}
use Rattle.front_turns.specs.host_world.Turns.{IsBetween, ended}
use Rattle.front_turns.specs.host_world.Worlds.{kept_state, vault_state, world_at_start, world_now, world_of}
use Rattle.front_turns.specs.host_world.declared.Ledger.{Ledger}
use Rattle.front_turns.specs.host_world.declared.World.{World}
use Rattle.front_turns.specs.registers.RegisterStates.{front_of, turn_ended}
use Rattle.front_turns.specs.registers.Stores.{registers_at_start, registers_now}
use Rattle.front_turns.specs.proposals.declared.allocations.Share.{Share}
use Rattle.front_turns.specs.rights_model.declared.Sum.{Sum}
use Rattle.run_laws.proofs.fair_laws.HeldReads.{calls_read, services_read}
use Rattle.front_turns.specs.turn_records.Settlements.{settled_after}
use Rattle.front_turns.specs.turn_records.Views.{turn_view}
use Rattle.front_turns.specs.turn_records.declared.turns.TurnRecord.{TurnRecord}
use Rattle.front_turns.specs.turn_records.Deliveries.{Delivery, Reading, promise_of}
use Rattle.front_turns.specs.turn_records.Events.{Answer, moves_in}
use Rattle.host_turns.specs.Totals.{TellsWorld}
use Rattle.front_turns.specs.world_state.Worlds.{Effect, State, after, after_all, behind, end_staging, in_front, no_shares}
use Rattle.front_turns.specs.FrontTurns.{turn_in}
use Rattle.host_turns.specs.HostStates.{IsKept, host_of}
use Rattle.host_turns.specs.TurnSteps.{IsAsBefore, IsMade, parts}
use Rattle.front_turns.proofs.EffectLists.{fronted, split_front}

-- ---- staging has ended

none_twice : (ss : List (Option (List Share))) → map no_shares (map no_shares ss) ≡ map no_shares ss
none_twice [] = refl
none_twice (s ∷ ss) = ap (λ rest. None ∷ rest) (none_twice ss)

unstaged : (w : State) (es : List Effect) → map no_shares (after_all w (es ++ end_staging ∷ [])).staging ≡ (after_all w (es ++ end_staging ∷ [])).staging
unstaged w [] = none_twice w.staging
unstaged w (e ∷ es) = unstaged (after w e) es

unstaged_end : (w : State) (d : Delivery) (a : Answer) → map no_shares (after_all w (ending d a w)).staging ≡ (after_all w (ending d a w)).staging
unfolding ending
unstaged_end w d a =
    let p = publishes d a in
    let s = settles w.promises.follows (promise_of d) (settled_after d a) in
    let q = departs d a w in
    let b = binds d a in
    let same : (p ++ (s ++ (q ++ b))) ++ end_staging ∷ [] ≡ p ++ (s ++ (q ++ (b ++ end_staging ∷ []))) =
    append_assoc p (s ++ (q ++ b)) (end_staging ∷ []) ∙ ap (λ l. p ++ l) (append_assoc s (q ++ b) (end_staging ∷ []) ∙ ap (λ l. s ++ l) (append_assoc q b (end_staging ∷ []))) in
    subst (λ (l : List Effect). map no_shares (after_all w l).staging ≡ (after_all w l).staging) same (unstaged w (p ++ (s ++ (q ++ b))))

unstaged_turn : (meter : ℕ) (w : State) (d : Delivery) → map no_shares (after_all w (delivery_turn reader meter w d).effects).staging ≡ (after_all w (delivery_turn reader meter w d).effects).staging
unfolding delivery_turn
unstaged_turn meter w d =
    let work = task_work reader meter w (beginning w d).task in
    let u = after_all w work.effects in
    subst (λ (v : State). map no_shares v.staging ≡ v.staging) (sym (after_both w work.effects (ending d work.answer u))) (unstaged_end u d work.answer)

-- what is kept of a world of which no rows are staged
ended_is : (x : State) → map no_shares (behind x).staging ≡ (behind x).staging → ended x ≡ untold (behind x)
ended_is x none = ap (λ l. record (untold (behind x)) { staging = l }) none

-- ---- a turn that is kept

-- what was read and answered is the turn's, its effects were carried out, and it was told to the running totals, which
-- gave its sums
pub record IsDone (meter : ℕ) (old new : World) (r : Reading) (a : Answer) (ss : List Sum) : Type 0 where
  pub reading : r ≡ (turn_in meter old).reading
  pub answer : a ≡ (turn_in meter old).answer
  pub effects : AreCarried old new (turn_in meter old).effects
  pub sums : ss ≡ sums_of (world_of new).rights (moves_in (world_of new).log)
  pub tells : TellsWorld (world_of new) new.sums

module _ (meter turns : ℕ) (k : Ledger) (is : IsKept (parts meter (Some k) turns)) (waits : 0 < length (kept_state k).waiting)
    (w : World) (now : world_now w ≡ kept_state k) (m : World) (reading : Reading) (answer : Answer) (ss : List Sum) (made : IsDone meter w m reading answer ss) where
  abbrev s : State
  s = kept_state k

  abbrev d : Delivery
  d = front_of s.waiting

  abbrev turn : DeliveryTurn
  turn = delivery_turn reader meter (behind s) d

  turn_is : turn_in meter w ≡ turn
  turn_is = ap (λ (v : State). delivery_turn reader meter (behind v) (front_of v.waiting)) now

  there : world_of m ≡ after_all (behind s) turn.effects
  there = made.effects.world ∙ (λ i. after_all (behind (now i)) (turn_is i).effects)

  front_stays : front_of (world_now m).waiting ≡ d
  front_stays =
      let all : world_now m ≡ after_all s turn.effects = made.effects.now ∙ (λ i. after_all (now i) (turn_is i).effects) in
      let passed : after_all s turn.effects ≡ in_front d (after_all (behind s) turn.effects) = ap (λ v. after_all v turn.effects) (fronted s waits) ∙ effects_pass d (behind s) turn.effects in
      ap (λ (v : State). front_of v.waiting) (all ∙ passed)

  module _ (new : Ledger) (t : TurnRecord) (world : kept_state new ≡ ended (world_now m)) (between : IsBetween new)
      (record_is : turn_view t ≡ turn_ended (turns + 1) reading answer ss (registers_now m.registers)) (sums : new.sums ≡ m.sums) where
    next_is : kept_state new ≡ untold (after_all (behind s) turn.effects)
    next_is =
        let none : map no_shares (world_of m).staging ≡ (world_of m).staging = subst (λ (v : State). map no_shares v.staging ≡ v.staging) (sym there) (unstaged_turn meter (behind s) d) in
        world ∙ ended_is (world_now m) none ∙ ap untold there

    told_is : turn_view t ≡ (step_after (host_of (parts meter (Some k) turns)) d turn).turn
    told_is =
        record_is
        ∙ (λ i. record {
          number = turns + 1;
          delivery = front_stays i;
          reading = (made.reading ∙ ap (λ (x : DeliveryTurn). x.reading) turn_is) i;
          answer = (made.answer ∙ ap (λ (x : DeliveryTurn). x.answer) turn_is) i;
          events = (there i).log;
          sums = (made.sums ∙ ap (λ (v : State). sums_of v.rights (moves_in v.log)) there) i;
        })

    stepped : step_of reader (host_of (parts meter (Some k) turns)) ≡ Some (step_after (host_of (parts meter (Some k) turns)) d turn)
    unfolding step_of
    stepped = ap (step_from reader (host_of (parts meter (Some k) turns))) (split_front s.waiting waits)

    step_is : step_of reader (host_of (parts meter (Some k) turns)) ≡ Some (record { next = host_of (parts meter (Some new) (turns + 1)); turn = turn_view t })
    step_is =
        stepped ∙ (λ i. Some (record {
          next = record { meter = meter; world = sym next_is i; turns = turns + 1 };
          turn = sym told_is i;
        }))

    step_there : Step
    step_there = record { next = host_of (parts meter (Some new) (turns + 1)); turn = turn_view t }

    kept_then : IsKept (parts meter (Some new) (turns + 1))
    kept_then =
        let h = host_of (parts meter (Some k) turns) in
        let served = services_are reader reads_modules in
        let P : Option Step → Type 0 = λ o. IfSome o (λ x. IsGoodHost x.next) in
        let Q : Option Step → Type 0 = λ o. IfSome o (IsTurnStep h) in
        let steady = subst Q step_is (steps_are reader served calls_are calls_read (services_read reader) h is.good is.steady) in
        record {
          good = subst P step_is (steps_good reader served calls_are h is.good);
          steady = steady.steady;
          rests = record {
            between = between;
            sums = subst (λ e. TellsWorld (kept_state new) e) (sym sums) (subst (λ v. TellsWorld v m.sums) (sym world) made.tells);
          };
        }

    pub turn_made : IsMade meter turns (Some k) (Some new) t
    turn_made = record { step = step_is; kept = kept_then }

-- ---- a turn that is undone

module _ (meter turns : ℕ) (k : Ledger) (is : IsKept (parts meter (Some k) turns))
    (w : World) (now : world_now w ≡ kept_state k) (start : world_at_start w ≡ kept_state k) (m : World) (kept : m.draft.kept ≡ w.draft.kept) (registers : registers_at_start m.registers ≡ registers_at_start w.registers) (tells : TellsWorld (world_of w) m.sums)
    (new : Ledger) (world : kept_state new ≡ world_at_start m) (between : IsBetween new) (sums : new.sums ≡ m.sums) where
  undone_same : kept_state new ≡ kept_state k
  undone_same = world ∙ (λ i. vault_state (kept i) (registers i)) ∙ start

  undone_kept : IsKept (parts meter (Some new) turns)
  undone_kept =
      let same : host_of (parts meter (Some new) turns) ≡ host_of (parts meter (Some k) turns) = ap (λ v. record { meter = meter; world = v; turns = turns }) undone_same in
      record {
        good = subst IsGoodHost (sym same) is.good;
        steady = subst IsSteady (sym undone_same) is.steady;
        rests = record {
          between = between;
          sums = subst (λ e. TellsWorld (kept_state new) e) (sym sums) (subst (λ v. TellsWorld v m.sums) (ap behind now ∙ ap behind (sym undone_same)) tells);
        };
      }

  pub as_before : IsAsBefore meter turns (Some k) (Some new)
  as_before = record { same = undone_same; kept = undone_kept }
