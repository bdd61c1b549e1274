-- What the function of an instance does is shown by the rows of its calls, one after another.
use Rattle.std.specs.Prelude.{Option, ◌≡◌, ◌<◌, ◌++◌, ℕ, false, List, [], ◌∷◌, Some, length, refl}
use Rattle.std.specs.List.{AllByRecursion}
use Rattle.std.proofs.Common.{sym, ◌∙◌, ap, subst, arith}
use Rattle.std.proofs.lemmas.List.{append-nil}
use Rattle.delivery_laws.proofs.rule_laws.Methods.{calls_are}
use Rattle.delivery_laws.specs.Works.{AreGoodHostCalls, Evaluates}
use Rattle.delivery_laws.proofs.Asking.{replies_so}
use Rattle.delivery_laws.proofs.Replies.{call_is}
use Rattle.delivery_laws.proofs.Runs.{after_both, after_more, all_grow, grows_itself, grows_on, have_end}
use Rattle.delivery_laws.specs.delivery_turns.Functions.{Run, ended, ran_out, run, run_after}
use Rattle.delivery_laws.specs.delivery_turns.HostCalls.{call_effects, call_reply}
use Rattle.fair_laws.specs.Owed.{Owes}
use Rattle.fair_laws.proofs.Others.{owes_at_start}
use Rattle.fair_laws.specs.Places.{rows_of}
use Rattle.fair_rows.specs.ExitCauses.{Owners, facets_made}
use Rattle.fair_rows.specs.Rows.{is_offer}
use Rattle.delivery_laws.specs.jessie_semantics.Keeping.{CallHas, NextHas, RepliesHave}
use Rattle.delivery_laws.specs.jessie_semantics.Play.{Asks, Ends, Play, Reply, Spends, after}
use Rattle.delivery_laws.specs.host_data.declared.data.ObjKind.TheVariants as kinds
use Rattle.delivery_laws.specs.turn_records.Printed.{named}
use Rattle.fair_rows.specs.turn_rows.Turns.{Turn}
use Rattle.delivery_laws.proofs.world_laws.Forms.{formed_grows}
use Rattle.delivery_laws.specs.world_state.Good.{IsGoodWorld}
use Rattle.delivery_laws.specs.world_state.Known.{Grows, IsKnownTo}
use Rattle.delivery_laws.specs.world_state.Worlds.{Effect, State, after_all}
use Rattle.fair_laws.specs.ShownRuns.{IsShownRun}
use Rattle.fair_laws.specs.Views.{IsSteady, owners_told}
use Rattle.fair_laws.proofs.HeldReads.{calls_read}
use Rattle.fair_laws.specs.Reads.{CallsRead}
use Rattle.fair_laws.proofs.RunCalls.{call_shows}
use Rattle.fair_laws.proofs.Holding.{Holds, Shows, shows_both}
use Rattle.fair_laws.proofs.Telling.{HasItsCause, Showing, none_shown}

module _ (owners : Owners) (t : Turn) (i : ℕ) where
  abbrev pub RunShows : State → Run → Type 0
  RunShows w (ended e values es) = Shows owners t none_shown (Some (named kinds.Instance i)) w es
  RunShows w ran_out = Unit {0}

  -- behind the calls before it
  then_shows : (w : State) (es : List Effect) (r : Run) → Shows owners t none_shown (Some (named kinds.Instance i)) w es → RunShows (after_all w es) r → RunShows w (run_after es r)
  then_shows w es ran_out one two = tt
  then_shows w es (ended e values fs) one two = shows_both owners t none_shown (Some (named kinds.Instance i)) w es fs (after_both w es fs) one two

  module _ (served : AreGoodHostCalls) (reads : CallsRead) (runs_none : is_offer t ≡ false) (start : State) (n : ℕ) (made : i < length start.tables.instances) (p0 : Play) (asks : Evaluates start i n p0) where
    pub run_shows : (p : Play) (rs : List Reply) (w : State) → after p0 rs ≡ p → Holds none_shown owners (Some (named kinds.Instance i)) w → Owes w [] → Grows start w → RepliesHave (IsKnownTo w i) rs
        → RunShows w (run w i p)
    run_shows (Ends e values) rs w is holds owes grown known = record { shown = tt; stored = tt; owes = owes; holds = holds }
    run_shows Spends rs w is holds owes grown known = tt
    run_shows (Asks c go) rs w is holds owes grown known =
        let next : CallHas (IsKnownTo w i) c = subst (λ q. NextHas (IsKnownTo w i) n q) is (asks.each w grown rs known) in
        let here : i < length w.tables.instances = omega (arith, made, grown.instances.more) in
        let work = call_is served w i holds.good here c next in
        let shows = call_shows served reads owners t runs_none w i here holds owes c next in
        let es = call_effects w i c in
        let r = call_reply w i c in
        let known_then : RepliesHave (IsKnownTo (after_all w es) i) (rs ++ r ∷ []) = have_end (after_all w es) i rs r (replies_so (formed_grows w (after_all w es) (all_grow w es) (Some i)) rs known) work.known in
        then_shows w es (run (after_all w es) i (go r)) shows
        (run_shows (go r) (rs ++ r ∷ []) (after_all w es) (after_more p0 rs c go r is) shows.holds shows.owes (grows_on start w (after_all w es) grown (all_grow w es)) known_then)

-- ---- from a turn's start

-- no seat was left, and no facet was made
pub holds_at_start : (row : Showing) (i : Option (List ℕ)) (w : State) → IsGoodWorld w → IsSteady w → w.log ≡ [] → Holds row (owners_told w) i w
holds_at_start row i w good steady empty = record {
  good = good;
  causes = subst (AllByRecursion (HasItsCause row w)) (sym empty) tt;
  facets = sym (ap (λ l. owners_told w ++ facets_made i (rows_of l)) empty ∙ append-nil (owners_told w));
  steady = steady;
}

shown_there : (owners : Owners) (t : Turn) (i : ℕ) (w : State) (r : Run) → RunShows owners t i w r → IsShownRun owners t w r
shown_there owners t i w (ended e values es) is = is.shown
shown_there owners t i w ran_out is = tt

pub run_is_shown : (t : Turn) (start : State) (i n : ℕ) (p : Play) → is_offer t ≡ false → i < length start.tables.instances → Evaluates start i n p
    → IsGoodWorld start → IsSteady start → start.log ≡ [] → IsShownRun (owners_told start) t start (run start i p)
run_is_shown t start i n p runs_none made asks good steady empty =
    shown_there (owners_told start) t i start (run start i p)
    (run_shows (owners_told start) t i calls_are calls_read runs_none start n made p asks p [] start refl
    (holds_at_start none_shown (Some (named kinds.Instance i)) start good steady empty) (owes_at_start start empty) (grows_itself start) tt)
