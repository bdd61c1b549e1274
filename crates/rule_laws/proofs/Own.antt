-- Calls by which an instance opens a seat for itself, asks to be woken, or asks what would be safe have good rules.
use Rattle.std.specs.Prelude.{not, ◌-◌, ◌^◌}
use Rattle.std.proofs.Common.{◌≡◌, ◌≢◌, ℕ, ◌+◌, true, List, [], ◌∷◌, ◌++◌, length, Option, Some, Ok, IfOk, IfSome, codes, refl, sym, ◌∙◌, ap, subst, arith}
use Rattle.std.proofs.lemmas.Bool.{false≢true, leb-true}
use Rattle.rules.specs.call_arguments.Arguments.{arg}
use Rattle.world_laws.specs.ertp_mint.Stocks.{most_made}
use Rattle.rules.specs.call_arguments.Exits.{exit, exit_in}
use Rattle.world_laws.specs.actors.declared.instance_store.instance.Standing.{Standing}
use Rattle.world_laws.specs.actors.declared.instance_store.instance.Standing.TheVariants.{Halted}
use Rattle.world_laws.specs.host_data.Tree.{Tree}
use Rattle.world_laws.specs.host_data.declared.data.ObjKind.TheVariants as kinds
use Rattle.world_laws.proofs.lemmas.ListEdits.{length_push, read_pushed}
use Rattle.rules.specs.proposals.declared.offers.Exit.{Exit}
use Rattle.world_laws.proofs.refusals.Steps.{after_check, after_known, after_need, after_step, need_holds, wanted_there}
use Rattle.world_laws.specs.refusals.Outcomes.{reading}
use Rattle.world_laws.specs.world_state.Good.{IsAtWork, IsRule}
use Rattle.world_laws.specs.world_state.Known.{IsFormed, IsSeatOf}
use Rattle.world_laws.specs.world_state.Worlds.{Seat, State, new_seat, no_seat, of_own, promises_made}
use Rattle.rules.specs.Obligations.{CanCall, IsGoodOutcome}
use Rattle.rules.specs.Words.{has_halted, runs, standing_of}
use Rattle.rule_laws.proofs.Forms.{boolean_formed, null_formed}
use Rattle.rule_laws.proofs.Next.{after_next_of}
use Rattle.rule_laws.proofs.Reading.{reads}
use Rattle.rule_laws.proofs.ExitRules.{exit_read}
use Rattle.rule_laws.specs.GoodContracts.{IsGoodCall, numbered}
use Rattle.rules.specs.Zcf.{make_empty_seat_kit, seat_kit, wake_at}
use Rattle.rules.specs.Zseat.{is_offer_safe}
use Rattle.rule_laws.proofs.Read.{function_given, number_given, of_caller}

-- ---- wakeups

woken : (w : State) (i n : ℕ) (args : List Tree) → CanCall w (Some i) (numbered kinds.Zcf n) args → IsGoodOutcome w (Some i) (numbered kinds.Zcf i) (codes "wakeAt") args (wake_at w i args)
unfolding wake_at
woken w i n args can = after_check _ _ _ (after_step _ _ _ (λ timer at. after_step _ _ _ (λ time within. after_step _ _ _ (λ f is. record {
  good = (
    record {
      wakeup = record { function = function_given w i 3 args f (can.arguments 3) is; held = can.arguments 4 };
      timely = omega (arith, number_given 0 (2 ^ 63 - 1) 2 args time within);
    },
    tt,
  );
  known = null_formed _ (Some i);
  leaves = refl;
  opens = refl;
  licensed = tt;
  stored = tt;
  acts = (refl, tt);
  calls = omega arith;
}))))

pub wake_is : IsGoodCall kinds.Zcf (codes "wakeAt") wake_at
wake_is w i n args can = of_caller w i n (codes "wakeAt") args (λ k. wake_at w k args) can.target (woken w i n args can)

-- ---- seats of an instance's own

rule_given : (t : Tree) (rule : Exit) → exit t ≡ Ok rule → IsRule rule
unfolding exit
rule_given t rule is = subst (λ (o : Option Exit). IfSome o IsRule) (wanted_there (exit_in t) _ rule is) (exit_read t)

not_halted : (s : Standing) → not (has_halted s) ≡ true → s ≢ Halted
not_halted s is e = false≢true (subst (λ q. not (has_halted q) ≡ true) e is)

at_work : (w : State) (i : ℕ) → runs w i ≡ Ok tt → IsAtWork w i
unfolding runs
at_work w i is = not_halted (standing_of w i) (need_holds (not (has_halted (standing_of w i))) _ tt is)

kit_formed : (v : State) (i seat : ℕ) → IsSeatOf v.seats i seat → IsFormed v (Some i) (seat_kit seat)
kit_formed v i seat is = record {
  objects = (tt, (is.made, (is, tt)));
  functions = (tt, (tt, (tt, tt)));
  named = ((refl, (refl, tt)), (tt, (tt, tt)));
  ordered = ((refl, (tt, tt)), (tt, (tt, tt)));
  shallow = (omega arith, (tt, (tt, tt)));
}

-- the next seat is of the instance
next_seat : (seats : List Seat) (i n : ℕ) (rule : Exit) → n ≡ i → IsSeatOf (seats ++ new_seat n (of_own rule) ∷ []) i (length seats)
next_seat seats i n rule own = record {
  made = omega (arith, length_push seats (new_seat n (of_own rule)));
  own = ap (λ (s : Seat). s.instance) (read_pushed seats (new_seat n (of_own rule)) no_seat (length seats) refl) ∙ own;
}

pub seat_is : IsGoodCall kinds.Zcf (codes "makeEmptySeatKit") make_empty_seat_kit
unfolding make_empty_seat_kit
seat_is w i n args can = after_known _ _ _ (λ running. after_step _ _ _ (λ rule is. after_next_of _ _ _ _ (λ few. after_need _ _ _ _ (λ room. record {
  good = (
    record {
      made = omega (arith, can.hosted, can.target);
      at_work = at_work w n running;
      timely = rule_given (arg 1 args) rule is;
      seats = few;
      promises = leb-true (promises_made w + 2) most_made room;
    },
    tt,
  );
  known = kit_formed _ i (length w.seats) (next_seat w.seats i n rule can.target);
  leaves = refl;
  opens = refl;
  licensed = tt;
  stored = tt;
  acts = (ap Some (sym can.target), tt);
  calls = omega arith;
}))))

-- ---- what would be safe

safe_formed : (w : State) (i n : ℕ) (args : List Tree) → IfOk (is_offer_safe w n args) (IsFormed w (Some i))
unfolding is_offer_safe
safe_formed w i n args = after_check _ _ _ (after_step _ _ _ (λ rows is. boolean_formed w (Some i) _))

pub safe_is : IsGoodCall kinds.Zseat (codes "isOfferSafe") (λ w n args. reading (is_offer_safe w n args))
safe_is w i n args can = reads w (Some i) _ (codes "isOfferSafe") args (is_offer_safe w n args) refl refl (safe_formed w i n args)
