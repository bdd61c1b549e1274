-- A step keeps a host good.
use Rattle.std.specs.Prelude.{IfSome, cond, is_none}
use Rattle.std.specs.List.{AllByRecursion}
use Rattle.std.proofs.Common.{◌≡◌, ℕ, Bool, true, false, List, [], ◌∷◌, ◌++◌, Option, Some, None, refl, subst}
use Rattle.delivery_turns.specs.actors.Tables.{instance_at}
use Rattle.delivery_turns.specs.promise_store.States.{SettlementView}
use Rattle.delivery_turns.specs.promise_store.declared.links.Following.{Following}
use Rattle.turn_writer.specs.host_data.Tree.{Tree}
use Rattle.rule_laws.specs.GoodServices.{AreGoodServices}
use Rattle.delivery_turns.specs.rules.Zoe.{TextReader}
use Rattle.delivery_turns.specs.turn_records.Settlements.{settled_after}
use Rattle.delivery_turns.specs.turn_records.Deliveries as deliveries
use Rattle.delivery_turns.specs.turn_records.Deliveries.{Delivery, promise_of}
use Rattle.delivery_turns.specs.turn_records.Events.{Answer, Event, given, threw}
use Rattle.delivery_turns.specs.turn_rows.Causes.{Cause}
use Rattle.delivery_turns.specs.world_state.Good.{IsDue, IsFacet, IsGoodWorld, IsInvitation, IsLabel, IsNotice, IsSettled, IsTimedEntry}
use Rattle.delivery_turns.specs.world_state.Worlds.{Effect, State, after_all, behind, end_staging, halt, in_front, invite, moves, note_call, offer, seat_at}
use Rattle.rule_laws.proofs.world_laws.Forms.{due_grows, facet_grows, instance_grows, invitation_grows, label_grows, notice_grows, settled_grows, timed_grows}
use Rattle.rule_laws.proofs.world_laws.Fronts.{begins, good_behind}
use Rattle.rule_laws.proofs.world_laws.Kept.{good-after_all}
use Rattle.rule_laws.proofs.world_laws.Lists.{all_map}
use Rattle.delivery_turns.specs.rules.Methods.{serve as serve_call}
use Rattle.delivery_turns.specs.Endings.{binds, binds_to, departs, ending, publishes, settles}
use Rattle.delivery_turns.specs.Hosts.{HostState, step_after, step_from, step_of, untold}
use Rattle.delivery_turns.specs.Tasks.{exits_with}
use Rattle.delivery_turns.specs.Turns.{delivery_turn}
use Rattle.delivery_laws.specs.Hosts.{IsGoodHost}
use Rattle.delivery_laws.specs.Told.{with_log}
use Rattle.delivery_laws.specs.Works.{AreGoodHostCalls}
use Rattle.delivery_laws.proofs.Logs.{log_grows}
use Rattle.delivery_laws.proofs.Works.{turn_good}

-- ---- what was told is no matter of the world's

pub good_told : (l : List Event) (w : State) → IsGoodWorld w → IsGoodWorld (with_log l w)
good_told l w is =
    let g = log_grows l w in
    let v = with_log l w in
    record {
      balanced = is.balanced;
      purse_kinds = is.purse_kinds;
      payment_kinds = is.payment_kinds;
      slot_kinds = is.slot_kinds;
      valued = is.valued;
      bounded = is.bounded;
      minted = is.minted;
      brands = is.brands;
      invited = is.invited;
      seats = is.seats;
      paired = is.paired;
      placed = is.placed;
      at_work = is.at_work;
      proposed = is.proposed;
      covered = is.covered;
      room = is.room;
      staged = is.staged;
      owed = is.owed;
      asked = is.asked;
      following = is.following;
      paid_out = is.paid_out;
      settled = all_map (IsSettled w) (IsSettled v) (settled_grows w v g) w.promises.settled is.settled;
      requests = all_map (IsNotice w) (IsNotice v) (notice_grows w v g) w.promises.requests is.requests;
      modules = is.modules;
      instances = record { each = λ n lt. instance_grows w v g n (instance_at w.tables.instances n) (is.instances.each n lt) };
      invitations = all_map (IsInvitation w) (IsInvitation v) (invitation_grows w v g) w.invitations is.invitations;
      facets = all_map (IsFacet w) (IsFacet v) (facet_grows w v g) w.facets is.facets;
      labels = all_map (IsLabel w) (IsLabel v) (label_grows w v g) w.labels is.labels;
      timed = all_map (IsTimedEntry w) (IsTimedEntry v) (λ (e : ℕ × Delivery). timed_grows w v g e.1) w.schedule.waiting is.timed;
      timely = is.timely;
      waiting = all_map (IsDue w) (IsDue v) (due_grows w v g) w.waiting is.waiting;
    }

-- ---- a turn's end brings nothing, and tells of no call

abbrev pub IsQuiet : Effect → Type 0
IsQuiet (moves ms) = ⊥
IsQuiet (offer o) = ⊥
IsQuiet (invite d) = ⊥
IsQuiet (note_call c) = ⊥
IsQuiet _ = Unit {0}

pub quiet_both : (es fs : List Effect) → AllByRecursion IsQuiet es → AllByRecursion IsQuiet fs → AllByRecursion IsQuiet (es ++ fs)
quiet_both [] fs q r = r
quiet_both (e ∷ es) fs q r = (q.0, quiet_both es fs q.1 r)

quiet_if : (b : Bool) (e : Effect) → IsQuiet e → AllByRecursion IsQuiet (cond b (e ∷ []) [])
quiet_if true e q = (q, tt)
quiet_if false e q = tt

pub quiet_exits : (cause : Cause) (ns : List ℕ) → AllByRecursion IsQuiet (exits_with cause ns)
quiet_exits cause [] = tt
quiet_exits cause (n ∷ ns) = (tt, quiet_exits cause ns)

quiet_publication : (d : Delivery) (a : Answer) → AllByRecursion IsQuiet (publishes d a)
quiet_publication (deliveries.start s) (given v) = (tt, tt)
quiet_publication d a = tt

quiet_settlement : (fs : List Following) (o : Option ℕ) (v : SettlementView) → AllByRecursion IsQuiet (settles fs o v)
quiet_settlement fs None v = tt
quiet_settlement fs (Some p) v = (tt, tt)

quiet_departure : (d : Delivery) (a : Answer) (w : State) → AllByRecursion IsQuiet (departs d a w)
quiet_departure (deliveries.offer o) (threw t) w = quiet_if (is_none (seat_at w.seats o.seat).last) _ tt
quiet_departure (deliveries.start s) (threw t) w = quiet_both _ (halt s.instance ∷ []) (quiet_exits _ _) (tt, tt)
quiet_departure d a w = tt

quiet_label : (party : List ℕ) (label : Option (List ℕ)) (t : Tree) → AllByRecursion IsQuiet (binds_to party label t)
quiet_label party None t = tt
quiet_label party (Some l) t = (tt, tt)

quiet_binding : (d : Delivery) (a : Answer) → AllByRecursion IsQuiet (binds d a)
quiet_binding (deliveries.call c) (given t) = quiet_label c.by c.label t
quiet_binding d a = tt

pub quiet_end : (w : State) (d : Delivery) (a : Answer) → AllByRecursion IsQuiet (ending d a w)
unfolding ending
quiet_end w d a =
    quiet_both (publishes d a) _ (quiet_publication d a)
    (quiet_both (settles w.promises.follows (promise_of d) (settled_after d a)) _ (quiet_settlement w.promises.follows (promise_of d) (settled_after d a))
    (quiet_both (departs d a w) _ (quiet_departure d a w) (quiet_both (binds d a) (end_staging ∷ []) (quiet_binding d a) (tt, tt))))

-- ---- a step

module _ (read : TextReader) (served : AreGoodServices (serve_call read)) (called : AreGoodHostCalls) where
  step_good : (s : HostState) (d : Delivery) (ds : List Delivery) → s.world.waiting ≡ d ∷ ds → IsGoodHost s → IsGoodHost (step_after s d (delivery_turn read s.meter (behind s.world) d)).next
  step_good s d ds front host =
      let w = behind s.world in
      let good : IsGoodWorld (in_front d w) = subst IsGoodWorld (begins s.world d ds front) host.world in
      let es = (delivery_turn read s.meter w d).effects in
      let are = turn_good read served called s.meter w d good in
      record {
        meter = host.meter;
        world = good_told [] (after_all w es) (good-after_all w es are (good_behind w d good));
        untold = refl;
      }

  from_good : (s : HostState) (ws : List Delivery) → s.world.waiting ≡ ws → IsGoodHost s → IfSome (step_from read s ws) (λ t. IsGoodHost t.next)
  from_good s [] front host = tt
  from_good s (d ∷ ds) front host = step_good s d ds front host

  pub steps_good : (s : HostState) → IsGoodHost s → IfSome (step_of read s) (λ t. IsGoodHost t.next)
  unfolding step_of
  steps_good s host = from_good s s.world.waiting refl host
