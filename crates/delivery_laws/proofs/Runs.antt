-- What the function of an instance comes to is good: each of its calls, one after another, what it gives or throws,
-- and the values of its state.
use Rattle.std.specs.List.{AllByRecursion}
use Rattle.std.proofs.Common.{◌≡◌, ℕ, ◌<◌, List, [], ◌∷◌, ◌++◌, Some, length, refl, sym, ap, subst, arith}
use Rattle.rule_laws.specs.jessie_semantics.Keeping.{AllHave, CallHas, EndingHas, NextHas, RepliesHave, ReplyHas}
use Rattle.rule_laws.specs.jessie_semantics.Play.{Asks, Call, Ends, Play, Reply, Spends, after}
use Rattle.delivery_turns.specs.world_state.Good.{AreGood, IsGoodWorld}
use Rattle.delivery_turns.specs.world_state.Known.{Grows, IsKnownTo}
use Rattle.delivery_turns.specs.world_state.Worlds.{Effect, State, after_all}
use Rattle.delivery_turns.specs.world_state.Worlds as worlds
use Rattle.rule_laws.proofs.world_laws.Forms.{formed_grows}
use Rattle.rule_laws.proofs.world_laws.Growing.{grows-after}
use Rattle.rule_laws.proofs.world_laws.Kept.{good-after_all}
use Rattle.rule_laws.proofs.world_laws.Lists.{extends_refl, extends_trans, keeps_refl, keeps_trans}
use Rattle.delivery_turns.specs.Functions.{Run, ended, ran_out, run, run_after}
use Rattle.delivery_turns.specs.HostCalls.{call_effects, call_reply}
use Rattle.delivery_laws.specs.Works.{AreGoodHostCalls, Evaluates, IsOfCall, IsRun}
use Rattle.delivery_laws.proofs.Asking.{replies_so}
use Rattle.delivery_laws.proofs.Replies.{call_is}

-- ---- what grows, grows further

pub grows_itself : (w : State) → Grows w w
grows_itself w = record {
  brands = extends_refl _ _ _;
  makers = extends_refl _ _ _;
  purses = omega arith;
  payments = omega arith;
  seats = extends_refl _ _ _;
  pairs = extends_refl _ _ _;
  invitations = extends_refl _ _ _;
  installations = extends_refl _ _ _;
  instances = extends_refl _ _ _;
  facets = extends_refl _ _ _;
  promises = omega arith;
  settled = keeps_refl _ _ _;
  left = keeps_refl _ _ _;
  spent = keeps_refl _ _ _;
}

pub grows_on : (u v w : State) → Grows u v → Grows v w → Grows u w
grows_on u v w g h = record {
  brands = extends_trans _ _ _ _ _ g.brands h.brands;
  makers = extends_trans _ _ _ _ _ g.makers h.makers;
  purses = omega (arith, g.purses, h.purses);
  payments = omega (arith, g.payments, h.payments);
  seats = extends_trans _ _ _ _ _ g.seats h.seats;
  pairs = extends_trans _ _ _ _ _ g.pairs h.pairs;
  invitations = extends_trans _ _ _ _ _ g.invitations h.invitations;
  installations = extends_trans _ _ _ _ _ g.installations h.installations;
  instances = extends_trans _ _ _ _ _ g.instances h.instances;
  facets = extends_trans _ _ _ _ _ g.facets h.facets;
  promises = omega (arith, g.promises, h.promises);
  settled = keeps_trans _ _ _ _ _ g.promises g.settled h.settled;
  left = keeps_trans _ _ _ _ _ g.seats.more g.left h.left;
  spent = keeps_trans _ _ _ _ _ g.payments g.spent h.spent;
}

pub all_grow : (w : State) (es : List Effect) → Grows w (after_all w es)
all_grow w [] = grows_itself w
all_grow w (e ∷ es) = grows_on w (worlds.after w e) (after_all (worlds.after w e) es) (grows-after w e) (all_grow (worlds.after w e) es)

-- ---- effects, one list behind another

pub after_both : (w : State) (es fs : List Effect) → after_all w (es ++ fs) ≡ after_all (after_all w es) fs
after_both w [] fs = refl
after_both w (e ∷ es) fs = after_both (worlds.after w e) es fs

pub good_both : (w : State) (es fs : List Effect) → AreGood w es → AreGood (after_all w es) fs → AreGood w (es ++ fs)
good_both w [] fs g h = h
good_both w (e ∷ es) fs g h = (g.0, good_both (worlds.after w e) es fs g.1 h)

pub calm_both : (es fs : List Effect) → AllByRecursion IsOfCall es → AllByRecursion IsOfCall fs → AllByRecursion IsOfCall (es ++ fs)
calm_both [] fs g h = h
calm_both (e ∷ es) fs g h = (g.0, calm_both es fs g.1 h)

-- ---- answers so far

pub have_end : (v : State) (i : ℕ) (rs : List Reply) (r : Reply) → RepliesHave (IsKnownTo v i) rs → ReplyHas (IsKnownTo v i) r → RepliesHave (IsKnownTo v i) (rs ++ r ∷ [])
have_end v i [] r h k = (k, tt)
have_end v i (q ∷ rs) r h k = (h.0, have_end v i rs r h.1 k)

pub after_more : (p : Play) (rs : List Reply) (c : Call) (go : Reply → Play) (r : Reply) → after p rs ≡ Asks c go → after p (rs ++ r ∷ []) ≡ go r
after_more p [] c go r e = ap (λ q. after q (r ∷ [])) e
after_more (Ends x s) (q ∷ rs) c go r e = cc
after_more Spends (q ∷ rs) c go r e = cc
after_more (Asks d f) (q ∷ rs) c go r e = after_more (f q) rs c go r e

-- ---- a run behind the calls before it

then_run : (w : State) (i n : ℕ) (es : List Effect) (r : Run) → AreGood w es → AllByRecursion IsOfCall es → IsRun (after_all w es) i n r → IsRun w i n (run_after es r)
then_run w i n es ran_out good calm is = tt
then_run w i n es (ended e values fs) good calm is = record {
  good = good_both w es fs good is.good;
  calm = calm_both es fs calm is.calm;
  ending = subst (λ (x : State). EndingHas (IsKnownTo x i) e) (sym (after_both w es fs)) is.ending;
  kept = subst (λ (x : State). AllHave (IsKnownTo x i) values) (sym (after_both w es fs)) is.kept;
  many = is.many;
}

module _ (served : AreGoodHostCalls) (start : State) (i n : ℕ) (made : i < length start.tables.instances) (p0 : Play) (asks : Evaluates start i n p0) where
  pub run_is : (p : Play) (rs : List Reply) (w : State) → after p0 rs ≡ p → IsGoodWorld w → Grows start w → RepliesHave (IsKnownTo w i) rs → IsRun w i n (run w i p)
  run_is (Ends e values) rs w is good grown known =
      let next : NextHas (IsKnownTo w i) n (Ends e values) = subst (λ q. NextHas (IsKnownTo w i) n q) is (asks.each w grown rs known) in
      record { good = tt; calm = tt; ending = next.0; kept = next.1.0; many = next.1.1 }
  run_is Spends rs w is good grown known = tt
  run_is (Asks c go) rs w is good grown known =
      let next : CallHas (IsKnownTo w i) c = subst (λ q. NextHas (IsKnownTo w i) n q) is (asks.each w grown rs known) in
      let here : i < length w.tables.instances = omega (arith, made, grown.instances.more) in
      let work = call_is served w i good here c next in
      let es = call_effects w i c in
      let r = call_reply w i c in
      let known_then : RepliesHave (IsKnownTo (after_all w es) i) (rs ++ r ∷ []) = have_end (after_all w es) i rs r (replies_so (formed_grows w (after_all w es) (all_grow w es) (Some i)) rs known) work.known in
      then_run w i n es (run (after_all w es) i (go r)) work.good work.calm
      (run_is (go r) (rs ++ r ∷ []) (after_all w es) (after_more p0 rs c go r is) (good-after_all w es work.good good) (grows_on start w (after_all w es) grown (all_grow w es)) known_then)
