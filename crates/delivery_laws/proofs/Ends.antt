-- How a turn ends is good: its promise can be resolved, seats that are left are open, labels are free.
use Rattle.std.specs.Prelude.{IfSome, ◌==◌, cond, is_none, unwrap_or, codes}
use Rattle.std.specs.Option.{option_map_or}
use Rattle.std.proofs.Common.{◌≡◌, ℕ, ◌<◌, Bool, true, false, List, [], ◌∷◌, ◌++◌, Option, Some, None, length, refl, sym, ap, ◌∙◌, arith}
use Rattle.std.proofs.lemmas.Bool.{eq-eqb, eqb-true}
use Rattle.delivery_turns.specs.actors.Labels.{bound_to}
use Rattle.delivery_turns.specs.rules.Traces.{all_open}
use Rattle.rule_laws.proofs.Fields.{FormedAt, formed_here, record_formed}
use Rattle.rule_laws.proofs.Forms.{field_formed, got, null_formed}
use Rattle.rule_laws.proofs.OpenSeats.{AreAllOpen, all_are_open, others_are_open}
use Rattle.turn_writer.specs.host_data.Tree as trees
use Rattle.turn_writer.specs.host_data.Tree.{Tree, fields, field_of, get, null}
use Rattle.delivery_turns.specs.promise_store.Linked.{IsForest, LeadsTo, here, leader, through}
use Rattle.delivery_turns.specs.promise_store.States.{SettlementView, broken}
use Rattle.delivery_turns.specs.promise_store.declared.links.Following.{Following}
use Rattle.turn_writer.specs.proposals.declared.allocations.Share.{Share}
use Rattle.turn_writer.specs.refusals.Codes.{promise_cycle, refusal_tree}
use Rattle.turn_writer.specs.refusals.Codes as codes_of
use Rattle.delivery_turns.specs.turn_records.Settlements.{part, settled_after, start_record}
use Rattle.delivery_turns.specs.turn_records.Deliveries as deliveries
use Rattle.delivery_turns.specs.turn_records.Deliveries.{Delivery, promise_of}
use Rattle.delivery_turns.specs.turn_records.Events.{Answer, given, refused, spent, threw}
use Rattle.delivery_turns.specs.turn_rows.Causes as causes
use Rattle.delivery_turns.specs.turn_rows.Causes.{Cause}
use Rattle.delivery_turns.specs.world_state.Good.{AreGood, CanPublish, CanResolve, IsGoodWorld, IsInHand, IsSettling}
use Rattle.delivery_turns.specs.world_state.Known.{IsFormed, IsHanded}
use Rattle.delivery_turns.specs.world_state.Promises.{target_of}
use Rattle.delivery_turns.specs.world_state.Rights.{slots_at}
use Rattle.delivery_turns.specs.world_state.Worlds.{Effect, State, after, end_staging, exit, halt, in_front, publish, resolve, seat_at}
use Rattle.rule_laws.proofs.world_laws.Forms.{formed_grows}
use Rattle.rule_laws.proofs.world_laws.Growing.{grows-after}
use Rattle.rule_laws.proofs.world_laws.Fronts.{due_behind, front-after, good_behind, in_hand}
use Rattle.delivery_turns.specs.Endings.{binds, binds_to, departs, ending, last_followed, leads_back, settles, without_cycle}
use Rattle.delivery_turns.specs.Tasks.{exit_if_open, exits_with, halt_with}
use Rattle.delivery_laws.specs.Works.{IsOut, LabelIsFree}
use Rattle.delivery_laws.proofs.Replies.{refusal_formed}

-- ---- what follows what

not_equal : (m k : ℕ) → (k == m) ≡ false → (m == k) ≡ false
not_equal m k e = by (m == k) refl
  where
    by : (b : Bool) → (m == k) ≡ b → b ≡ false
    by true is = let same : (k == m) ≡ true = eq-eqb k m (sym (eqb-true m k is)) in cc
    by false is = refl

last_alone : (fs : List Following) (n : ℕ) → IsForest fs → leader fs n ≡ None → last_followed fs n ≡ n
last_alone [] n forest alone = refl
last_alone (f ∷ fs) n forest alone = by (f.promise == n) refl alone (last_alone fs n forest.2)
  where
    by : (b : Bool) → (f.promise == n) ≡ b → cond b (Some f.target) (leader fs n) ≡ None → (leader fs n ≡ None → last_followed fs n ≡ n) → last_followed (f ∷ fs) n ≡ n
    by true is none before = cc
    by false is none before =
        let as_it_was : last_followed fs n ≡ n = before none in
        let apart : (n == f.promise) ≡ false = not_equal n f.promise is in
        let passed : (last_followed fs n == f.promise) ≡ false = ap (λ k. k == f.promise) as_it_was ∙ apart in
        ap (λ b. cond b (last_followed fs f.target) (last_followed fs n)) passed ∙ as_it_was

either_way : (b : Bool) (x y : ℕ) → y ≡ x → cond b x y ≡ x
either_way true x y e = refl
either_way false x y e = e

last_led : (fs : List Following) (n q : ℕ) → IsForest fs → leader fs n ≡ Some q → last_followed fs n ≡ last_followed fs q
last_led [] n q forest led = cc
last_led (f ∷ fs) n q forest led = by (f.promise == n) refl led (last_led fs n q forest.2)
  where
    by : (b : Bool) → (f.promise == n) ≡ b → cond b (Some f.target) (leader fs n) ≡ Some q → (leader fs n ≡ Some q → last_followed fs n ≡ last_followed fs q) → last_followed (f ∷ fs) n ≡ last_followed (f ∷ fs) q
    by true is at before =
        let same : f.promise ≡ n = eqb-true f.promise n is in
        let target : f.target ≡ q = cc in
        let alone : last_followed fs f.promise ≡ f.promise = last_alone fs f.promise forest.2 forest.0 in
        let here_is : (last_followed fs n == f.promise) ≡ true = eq-eqb (last_followed fs n) f.promise (ap (last_followed fs) (sym same) ∙ alone) in
        let left : last_followed (f ∷ fs) n ≡ last_followed fs f.target = ap (λ b. cond b (last_followed fs f.target) (last_followed fs n)) here_is in
        let right : last_followed (f ∷ fs) q ≡ last_followed fs f.target = either_way (last_followed fs q == f.promise) (last_followed fs f.target) (last_followed fs q) (ap (last_followed fs) (sym target)) in
        left ∙ sym right
    by false is at before = ap (λ k. cond (k == f.promise) (last_followed fs f.target) k) (before at)

leads_end : (fs : List Following) (p n : ℕ) → IsForest fs → leader fs p ≡ None → LeadsTo fs p n → last_followed fs n ≡ p
leads_end fs p _ forest alone here = last_alone fs p forest alone
leads_end fs p _ forest alone (through n q e l) = last_led fs n q forest e ∙ leads_end fs p q forest alone l

-- ---- a promise is resolved

module _ (fs : List Following) (p : ℕ) (forest : IsForest fs) (alone : leader fs p ≡ None) where
  back : (o : Option ℕ) (q : ℕ) → o ≡ Some q → option_map_or (λ k. last_followed fs k == p) o false ≡ false → LeadsTo fs p q → ⊥
  back None q e is leads = cc
  back (Some k) q e is leads =
      let same : k ≡ q = cc in
      let there : (last_followed fs k == p) ≡ true = eq-eqb (last_followed fs k) p (ap (last_followed fs) same ∙ leads_end fs p q forest alone leads) in
      cc

  straight : (v : SettlementView) (q : ℕ) → target_of (without_cycle fs p v) ≡ Some q → LeadsTo fs p q → ⊥
  straight v q = by (leads_back fs p v) refl
    where
      by : (b : Bool) → leads_back fs p v ≡ b → target_of (cond b (broken (refusal_tree (promise_cycle p))) v) ≡ Some q → LeadsTo fs p q → ⊥
      by true is e leads = cc
      by false is e leads = back (target_of v) q e is leads

settling_either : (w : State) (b : Bool) (u v : SettlementView) → IsSettling w u → IsSettling w v → IsSettling w (cond b u v)
settling_either w true u v h k = h
settling_either w false u v h k = k

can_resolve : (w : State) (d : Delivery) (p : ℕ) (v : SettlementView) → IsGoodWorld (in_front d w) → promise_of d ≡ Some p → IsSettling w v → CanResolve w p (without_cycle w.promises.follows p v)
can_resolve w d p v good own handed =
    let mine : IsInHand w p = in_hand w d p good own in
    let whole : IsGoodWorld w = good_behind w d good in
    record {
      pending = mine.pending;
      free = mine.free;
      handed = settling_either w (leads_back w.promises.follows p v) _ v (refusal_formed w None (promise_cycle p)) handed;
      straight = straight w.promises.follows p whole.following.forest mine.pending.alone v;
    }

-- ---- what a start gives

module _ (w : State) (h : Option ℕ) where
  null_at : FormedAt w h 1 null
  null_at = record { objects = tt; functions = tt; named = tt; ordered = tt; shallow = tt }

  part_at : (name : List ℕ) (t : Tree) → IsFormed w h t → FormedAt w h 1 (part name t)
  part_at name (trees.fields fs) is = by (get name fs) refl
    where
      by : (o : Option Tree) → get name fs ≡ o → FormedAt w h 1 (unwrap_or o null)
      by None e = null_at
      by (Some x) e = record {
        objects = got _ 1 name fs x is.objects.1 e;
        functions = got _ 1 name fs x is.functions.1 e;
        named = got _ 1 name fs x is.named.1 e;
        ordered = got _ 1 name fs x is.ordered.1 e;
        shallow = got _ 1 name fs x is.shallow.1 e;
      }
  part_at name _ is = null_at

  pub part_formed : (name : List ℕ) (t : Tree) → IsFormed w h t → IsFormed w h (part name t)
  part_formed name t is = by (field_of name t) refl
    where
      by : (o : Option Tree) → field_of name t ≡ o → IsFormed w h (unwrap_or o null)
      by None e = null_formed w h
      by (Some x) e = field_formed w h name t x is e

start_handed : (w : State) (i : ℕ) (t : Tree) → i < length w.tables.instances → IsHanded w t → IsHanded w (start_record i t)
start_handed w i t made is =
    let facet = part_at w None (codes "creatorFacet") t is in
    let invitation = part_at w None (codes "creatorInvitation") t is in
    let public = part_at w None (codes "publicFacet") t is in
    formed_here w None (start_record i t) (record_formed w None 0 _ (omega arith) (record {
      objects = (facet.objects, (invitation.objects, (made, (public.objects, tt))));
      functions = (facet.functions, (invitation.functions, (tt, (public.functions, tt))));
      names = (refl, (refl, (refl, (refl, tt))));
      named = (facet.named, (invitation.named, (tt, (public.named, tt))));
      order = (refl, (refl, (refl, (tt, tt))));
      ordered = (facet.ordered, (invitation.ordered, (tt, (public.ordered, tt))));
      shallow = (facet.shallow, (invitation.shallow, (tt, (public.shallow, tt))));
    }))

-- what an answer settles a promise with can be handed out
settles_out : (w : State) (d : Delivery) (a : Answer) → IsGoodWorld (in_front d w) → IsOut w a → IsSettling w (settled_after d a)
settles_out w (deliveries.start s) (given t) good out = start_handed w s.instance t (due_behind w (deliveries.start s) good).made out
settles_out w d (given t) good out = out
settles_out w d (threw t) good out = out
settles_out w d (refused r) good out = refusal_formed w None r
settles_out w d (spent meter) good out = refusal_formed w None (codes_of.spent meter)

-- ---- seats that are left

pub open_there : (o : Option (List Share)) → is_none o ≡ true → o ≡ None
open_there None e = refl
open_there (Some rows) e = cc

pub exit_good : (w : State) (seat : ℕ) (cause : Cause) (rest : List Effect) → AreGood w rest → ((rows : Unit {0}) → AreGood (after w (exit seat cause)) rest) → AreGood w (exit_if_open w seat cause ++ rest)
exit_good w seat cause rest stays leaves = by (is_none (seat_at w.seats seat).last) refl
  where
    by : (b : Bool) → is_none (seat_at w.seats seat).last ≡ b → AreGood w (cond b (exit seat cause ∷ []) [] ++ rest)
    by true e = (open_there (seat_at w.seats seat).last e, leaves tt)
    by false e = stays

all_left : (w : State) (i : ℕ) (cause : Cause) (ns : List ℕ) → i < length w.tables.instances → AreAllOpen w.seats i ns → AreGood w ((exits_with cause ns ++ halt i ∷ []) ++ end_staging ∷ [])
all_left w i cause [] made are = (record { made = made; left = λ s is own. are.all s is own }, (tt, tt))
all_left w i cause (n ∷ ns) made are = (are.are_open.0, all_left (after w (exit n cause)) i cause ns made (others_are_open w.seats n (slots_at w.rights.slots n) i ns are))

pub halts_good : (w : State) (i : ℕ) (cause : Cause) → i < length w.tables.instances → AreGood w (halt_with cause w i ++ end_staging ∷ [])
halts_good w i cause made = all_left w i cause (all_open w i) made (all_are_open i w.seats)

-- ---- the end

-- behind the publication, if any
abbrev rest_of : Delivery → Answer → State → List Effect
rest_of d a w = settles w.promises.follows (promise_of d) (settled_after d a) ++ (departs d a w ++ (binds d a ++ end_staging ∷ []))

bound_good : (w : State) (party : List ℕ) (label : Option (List ℕ)) (t : Tree) → IfSome label (λ l. bound_to w.labels party l ≡ None) → IsHanded w t → AreGood w (binds_to party label t ++ end_staging ∷ [])
bound_good w party None t free out = (tt, tt)
bound_good w party (Some label) t free out = (record { free = free; handed = out }, (tt, tt))

settled_then : (w : State) (d : Delivery) (a : Answer) (rest : List Effect) → IsGoodWorld (in_front d w) → IsOut w a → AreGood w rest
    → ((p : ℕ) (v : SettlementView) → AreGood (after w (resolve p v)) rest) → AreGood w (settles w.promises.follows (promise_of d) (settled_after d a) ++ rest)
settled_then w d a rest good out none some = by (promise_of d) refl
  where
    by : (o : Option ℕ) → promise_of d ≡ o → AreGood w (settles w.promises.follows o (settled_after d a) ++ rest)
    by None e = none
    by (Some p) e = (can_resolve w d p (settled_after d a) good e (settles_out w d a good out), some p _)

rest_good : (w : State) (d : Delivery) (a : Answer) → IsGoodWorld (in_front d w) → IsOut w a → LabelIsFree w d a → AreGood w (rest_of d a w)
rest_good w (deliveries.offer o) (threw t) good out free =
    settled_then w (deliveries.offer o) (threw t) (exit_if_open w o.seat causes.threw ++ end_staging ∷ []) good out
    (exit_good w o.seat causes.threw (end_staging ∷ []) (tt, tt) (λ _. (tt, tt)))
    (λ p v. exit_good (after w (resolve p v)) o.seat causes.threw (end_staging ∷ []) (tt, tt) (λ _. (tt, tt)))
rest_good w (deliveries.start s) (threw t) good out free =
    let made = (due_behind w (deliveries.start s) good).made in
    settled_then w (deliveries.start s) (threw t) (halt_with causes.halted w s.instance ++ end_staging ∷ []) good out
    (halts_good w s.instance causes.halted made)
    (λ p v. halts_good (after w (resolve p v)) s.instance causes.halted made)
rest_good w (deliveries.call c) (given t) good out free = bound_good w c.by c.label t free out
rest_good w d a good out free = settled_then w d a (end_staging ∷ []) good out (tt, tt) (λ p v. (tt, tt))

pub ending_good : (w : State) (d : Delivery) (a : Answer) → IsGoodWorld (in_front d w) → IsOut w a → LabelIsFree w d a → AreGood w (ending d a w)
unfolding ending
ending_good w (deliveries.start s) (given t) good out free =
    let made = (due_behind w (deliveries.start s) good).made in
    let can : CanPublish w s.instance (part (codes "publicFacet") t) = record { made = made; handed = part_formed w None (codes "publicFacet") t out } in
    (can, rest_good (after w (publish s.instance (part (codes "publicFacet") t))) (deliveries.start s) (given t) (front-after w (deliveries.start s) (publish s.instance (part (codes "publicFacet") t)) can tt good) (formed_grows w _ (grows-after w (publish s.instance (part (codes "publicFacet") t))) None t out) tt)
ending_good w d a good out free = rest_good w d a good out free
