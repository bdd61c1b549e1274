-- What is to be shown of effects is shown of what the function of an instance does where it is of each of its calls.
use Rattle.std.specs.Prelude.{◌≡◌, ◌<◌, ◌++◌, ℕ, List, [], ◌∷◌, Some, length}
use Rattle.std.proofs.Common.{subst, arith}
use Rattle.fair_laws.specs.delivery_laws.Works.{AreGoodHostCalls, Evaluates}
use Rattle.fair_laws.proofs.delivery_laws.Asking.{replies_so}
use Rattle.fair_laws.proofs.delivery_laws.Replies.{call_is}
use Rattle.fair_laws.proofs.delivery_laws.Runs.{after_more, all_grow, grows_on, have_end}
use Rattle.fair_laws.specs.delivery_turns.Functions.{Run, ended, ran_out, run, run_after}
use Rattle.fair_laws.specs.delivery_turns.HostCalls.{call_effects, call_reply}
use Rattle.fair_laws.specs.jessie_semantics.Keeping.{CallHas, NextHas, RepliesHave}
use Rattle.fair_laws.specs.jessie_semantics.Play.{Asks, Call, Ends, Play, Reply, Spends, after}
use Rattle.fair_laws.proofs.world_laws.Forms.{formed_grows}
use Rattle.fair_laws.proofs.world_laws.Kept.{good-after_all}
use Rattle.fair_laws.specs.world_state.Good.{IsGoodWorld}
use Rattle.fair_laws.specs.world_state.Known.{Grows, IsKnownTo}
use Rattle.fair_laws.specs.world_state.Worlds.{Effect, State, after_all}

-- of the effects of a run that ended, from its world
abbrev pub RunShows : (State → List Effect → Type 0) → State → Run → Type 0
RunShows T w (ended e values es) = T w es
RunShows T w ran_out = Unit {0}

module _ (T : State → List Effect → Type 0) (none : (v : State) → T v []) (both : (v : State) (es fs : List Effect) → T v es → T (after_all v es) fs → T v (es ++ fs)) where
  -- behind the effects before it
  then_shows : (v : State) (es : List Effect) (r : Run) → T v es → RunShows T (after_all v es) r → RunShows T v (run_after es r)
  then_shows v es ran_out one two = tt
  then_shows v es (ended e values fs) one two = both v es fs one two

  module _ (served : AreGoodHostCalls) (start : State) (i n : ℕ) (made : i < length start.tables.instances) (p0 : Play) (asks : Evaluates start i n p0)
      (calls : (v : State) (c : Call) → IsGoodWorld v → Grows start v → i < length v.tables.instances → CallHas (IsKnownTo v i) c → T v (call_effects v i c)) where
    pub run_shows : (p : Play) (rs : List Reply) (w : State) → after p0 rs ≡ p → IsGoodWorld w → Grows start w → RepliesHave (IsKnownTo w i) rs → RunShows T w (run w i p)
    run_shows (Ends e values) rs w is good grown known = none w
    run_shows Spends rs w is good grown known = tt
    run_shows (Asks c go) rs w is good grown known =
        let next : CallHas (IsKnownTo w i) c = subst (λ q. NextHas (IsKnownTo w i) n q) is (asks.each w grown rs known) in
        let here : i < length w.tables.instances = omega (arith, made, grown.instances.more) in
        let work = call_is served w i good here c next in
        let es = call_effects w i c in
        let r = call_reply w i c in
        let known_then : RepliesHave (IsKnownTo (after_all w es) i) (rs ++ r ∷ []) = have_end (after_all w es) i rs r (replies_so (formed_grows w (after_all w es) (all_grow w es) (Some i)) rs known) work.known in
        then_shows w es (run (after_all w es) i (go r)) (calls w c good grown here next)
        (run_shows (go r) (rs ++ r ∷ []) (after_all w es) (after_more p0 rs c go r is) (good-after_all w es work.good good) (grows_on start w (after_all w es) grown (all_grow w es)) known_then)
