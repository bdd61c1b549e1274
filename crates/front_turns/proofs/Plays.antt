-- A play that was carried out call by call, of which the host keeps what the definition says.
use Rattle.std.specs.Prelude.{IfOk}
use Rattle.std.specs.declared.alloc.AllocError.{AllocError}
use Rattle.std.proofs.Common.{Result, Ok, Err, ◌≡◌, inl, inr, ℕ, ◌+◌, List, [], ◌∷◌, ◌++◌, Some, refl, sym, ap, ◌∙◌, subst, append_assoc}
use Rattle.contract_powers.specs.world_effects.CarriedEffects.{AreCarried}
use Rattle.contract_powers.specs.CallReplies.{IsCallAnswered, IsCallDone}
use Rattle.contract_powers.proofs.HostSide.{answered_grows}
use Rattle.contract_powers.specs.Situations.{IsAnswered, IsRunning, Situation}
use Rattle.fair_laws.proofs.delivery_laws.Asking.{replies_so}
use Rattle.fair_laws.proofs.delivery_laws.Runs.{after_both, after_more, grows_itself, grows_on, have_end}
use Rattle.fair_laws.specs.delivery_laws.Works.{Evaluates}
use Rattle.delivery_tasks.specs.delivery_turns.Functions.{Run, ended, ran_out, run, run_after}
use Rattle.delivery_tasks.specs.delivery_turns.HostCalls.{call_effects, call_reply}
use Rattle.front_turns.specs.FunctionRuns.{WentOn}
use Rattle.contract_powers.specs.host_world.Worlds.{world_now, world_of}
use Rattle.contract_powers.specs.host_world.declared.World.{World}
use Rattle.jessie_interpreter.specs.Outcomes.{outcome}
use Rattle.jessie_interpreter.specs.declared.evaluation.Outcome.{Outcome}
use Rattle.delivery_tasks.specs.host_data.Tree.{Tree}
use Rattle.jessie_interpreter.specs.jessie_semantics.Keeping.{CallHas, NextHas, RepliesHave, ReplyHas}
use Rattle.jessie_interpreter.specs.jessie_semantics.Play.{Answered, Asks, Call, Ends, Exchange, Follows, Play, Reply, Spends, after, replies}
use Rattle.jessie_interpreter.specs.jessie_semantics.Runs.{Path}
use Rattle.contract_powers.proofs.world_laws.Forms.{formed_grows}
use Rattle.contract_powers.specs.world_state.Known.{Grows, IsKnownTo}
use Rattle.contract_powers.specs.world_state.Worlds.{Effect, State, after_all}

-- ---- effects, one list behind another

pub carried_both : (a b c : World) (es fs : List Effect) → AreCarried a b es → AreCarried b c fs → AreCarried a c (es ++ fs)
carried_both a b c es fs first next = record {
  now = next.now ∙ ap (λ (w : State). after_all w fs) first.now ∙ sym (after_both (world_now a) es fs);
  world = next.world ∙ ap (λ (w : State). after_all w fs) first.world ∙ sym (after_both (world_of a) es fs);
  turn = next.turn;
}

after_none : (r : Run) → run_after [] r ≡ r
after_none (ended e values es) = refl
after_none ran_out = refl

after_twice : (es fs : List Effect) (r : Run) → run_after es (run_after fs r) ≡ run_after (es ++ fs) r
after_twice es fs (ended e values gs) = ap (λ (hs : List Effect). ended e values hs) (sym (append_assoc es fs gs))
after_twice es fs ran_out = refl

-- ---- one call

done_of : (old new : World) (i : ℕ) (c : Call) (reply : Reply) → CallHas (IsKnownTo (world_of old) i) c → IsCallAnswered old new i c reply → IsCallDone old new i c reply
done_of old new i c reply known (inl done) = done
done_of old new i c reply known (inr stray) = absurd (stray.unknown known)

reply_known : (old new : World) (i : ℕ) (c : Call) (reply : Reply) → IsCallDone old new i c reply → ReplyHas (IsKnownTo (world_of new) i) reply
reply_known old new i c reply done =
    subst (λ (r : Reply). ReplyHas (IsKnownTo (world_of new) i) r) (sym done.replied)
    (subst (λ (w : State). ReplyHas (IsKnownTo w i) (call_reply (world_of old) i c)) (sym done.carried.world) done.work.known)

-- ---- one call after another

-- as an evaluation tells a host's steps
abbrev pub Steps : Situation → Exchange → Situation → Type 0
Steps s x v = IsAnswered s v x

module _ (start : State) (i n : ℕ) (p0 : Play) (asks : Evaluates start i n p0) where
  going : (xs : List Exchange) (s v : Situation) (p q : Play) (rs : List Reply) → after p0 rs ≡ p → IsRunning s → s.instance ≡ i → Grows start (world_of s.world) → RepliesHave (IsKnownTo (world_of s.world) i) rs
      → Answered Steps s xs v → Path p xs q → WentOn i p s.world v.world q
  going [] s v p q rs is running here grown known a path = record {
    effects = [];
    carried = subst (λ (x : Situation). AreCarried s.world x.world []) a (record { now = refl; world = refl; turn = running.turn });
    is = let e : run (world_of s.world) i p ≡ run (world_of v.world) i q = λ k. run (world_of (a k).world) i (path k) in e ∙ sym (after_none _);
  }
  going (x ∷ xs) s v (Ends e values) q rs is running here grown known a path = absurd path
  going (x ∷ xs) s v Spends q rs is running here grown known a path = absurd path
  going (x ∷ xs) s v (Asks c go) q rs is running here grown known a path =
      let u : Situation = a.0 in
      let step : IsAnswered s u x = a.1.0 in
      let w = world_of s.world in
      let next : CallHas (IsKnownTo w i) c = subst (λ (p : Play). NextHas (IsKnownTo w i) n p) is (asks.each w grown rs known) in
      let has : CallHas (IsKnownTo w i) x.call = subst (λ (c : Call). CallHas (IsKnownTo w i) c) path.0 next in
      let was : IsCallAnswered s.world u.world i x.call x.reply = subst (λ (j : ℕ). IsCallAnswered s.world u.world j x.call x.reply) here step.answered in
      let done : IsCallDone s.world u.world i x.call x.reply = done_of s.world u.world i x.call x.reply has was in
      let grows : Grows w (world_of u.world) = answered_grows s.world u.world i x.call x.reply was in
      let es = call_effects w i x.call in
      let rest : WentOn i (go x.reply) u.world v.world q = going xs u v (go x.reply) q (rs ++ x.reply ∷ []) (after_more p0 rs c go x.reply is) step.running (step.instance ∙ here) (grows_on start w (world_of u.world) grown grows)
      (have_end (world_of u.world) i rs x.reply (replies_so (formed_grows w (world_of u.world) grows (Some i)) rs known) (reply_known s.world u.world i x.call x.reply done)) a.1.1 path.1 in
      let asked : run w i (Asks c go) ≡ run_after es (run (after_all w es) i (go (call_reply w i x.call))) = ap (λ (d : Call). run w i (Asks d go)) path.0 in
      let told : run (after_all w es) i (go (call_reply w i x.call)) ≡ run (world_of u.world) i (go x.reply) = λ k. run (sym done.carried.world k) i (go (sym done.replied k)) in
      record {
        effects = es ++ rest.effects;
        carried = carried_both s.world u.world v.world es rest.effects done.carried rest.carried;
        is = asked ∙ ap (λ (r : Run). run_after es r) (told ∙ rest.is) ∙ after_twice es rest.effects (run (world_of v.world) i q);
      }

-- ---- as an evaluation tells it

path_of : (p : Play) (xs : List Exchange) (r : Play) → ((before : List Exchange) (x : Exchange) (rest : List Exchange) → xs ≡ before ++ x ∷ rest → (go : Reply → Play) × (after p (replies before) ≡ Asks x.call go))
    → after p (replies xs) ≡ r → Path p xs r
path_of p [] r asks ends = ends
path_of p (x ∷ xs) r asks ends =
    let first = asks [] x xs refl in
    subst (λ (q : Play). Path q (x ∷ xs) r) (sym first.1) (
      refl,
      path_of (first.0 x.reply) xs r
          (λ before y rest e. let next = asks (x ∷ before) y rest (ap (λ (ys : List Exchange). x ∷ ys) e) in (next.0, sym (ap (λ (q : Play). after q (x.reply ∷ replies before)) first.1) ∙ next.1))
          (sym (ap (λ (q : Play). after q (x.reply ∷ replies xs)) first.1) ∙ ends),
    )

answered_along : {W V : Type 0} (see : W → V) (step : V → Exchange → V → Type 0) (w : W) (xs : List Exchange) (v : W) → Answered (λ a x b. step (see a) x (see b)) w xs v → Answered step (see w) xs (see v)
answered_along see step w [] v a = ap see a
answered_along see step w (x ∷ xs) v a = (see a.0, (a.1.0, answered_along see step a.0 xs v a.1.1))

pub went_on : {W : Type 0} (see : W → Situation) (i n : ℕ) (p q : Play) (w v : W) → Evaluates (world_of (see w).world) i n p → IsRunning (see w) → (see w).instance ≡ i
    → Follows (λ a x b. IsAnswered (see a) (see b) x) p w v q → WentOn i p (see w).world (see v).world q
went_on see i n p q w v asks running here follows =
    going (world_of (see w).world) i n p asks follows.since (see w) (see v) p q [] refl running here (grows_itself _) tt (answered_along see Steps w follows.since v follows.answered) (path_of p follows.since q follows.asks follows.ends)

pub went_so : {W : Type 0} (w v : W) (see : W → Situation) (i n : ℕ) (p : Play) (r : Result Outcome AllocError) (values : List Tree) → Evaluates (world_of (see w).world) i n p → IsRunning (see w) → (see w).instance ≡ i
    → IfOk r (λ o. Follows (λ a x b. IsAnswered (see a) (see b) x) p w v (outcome o values)) → IfOk r (λ o. WentOn i p (see w).world (see v).world (outcome o values))
went_so w v see i n p (Ok o) values asks running here follows = went_on see i n p (outcome o values) w v asks running here follows
went_so w v see i n p (Err e) values asks running here follows = tt
