-- What is formed, due, known or a function's stays so while the world grows.
use Rattle.std.specs.Prelude.{IfSome}
use Rattle.std.specs.List.{AllByRecursion}
use Rattle.std.proofs.Common.{◌≡◌, ℕ, ◌<◌, List, Some, None, Option, length, sym, ◌∙◌, ap, subst, arith}
use Rattle.world_state.specs.actors.Labels.{Bound}
use Rattle.world_state.specs.brands.declared.Brand.{Brand}
use Rattle.world_state.specs.brands.declared.issuer_record.Issuer.{Issuer}
use Rattle.world_state.specs.host_data.Nodes.{FunctionIs, ObjectIs}
use Rattle.world_state.proofs.host_data.Nodes.{weaker}
use Rattle.world_state.specs.actors.Facets.{FacetView}
use Rattle.world_state.specs.actors.Tables.{InstanceView, instance_at, module_at}
use Rattle.world_state.specs.actors.declared.instance_store.seat_promises.SeatPair.{SeatPair}
use Rattle.world_state.specs.turn_stores.Details.{DetailsView}
use Rattle.world_state.specs.jessie_grammar.Syntax.{routines}
use Rattle.world_state.specs.host_data.Tree.{Tree, object, function}
use Rattle.world_state.specs.host_data.declared.data.Obj.{Obj}
use Rattle.world_state.specs.host_data.declared.data.ObjKind.{ObjKind}
use Rattle.world_state.specs.host_data.declared.data.ObjKind.TheVariants as kinds
use Rattle.world_state.specs.jessie_grammar.declared.syntax.Module.{Module}
use Rattle.world_state.specs.promise_store.States.{SettlementView, broken, ok}
use Rattle.world_state.specs.proposals.declared.offers.Proposal.{Proposal}
use Rattle.world_state.specs.turn_records.Deliveries.{Delivery, Notice, Offer, Send, Start, Wakeup, bad, call, deadline, give, notify, offer, send, start, tick, wake}
use Rattle.world_state.specs.Good.{IsDue, IsFacet, IsFinal, IsInstance, IsInvitation, IsIssuer, IsLabel, IsMethod, IsNews, IsNotice, IsOfferCall, IsSend, IsSettled, IsSettling, IsStart, IsTimed, IsWakeup}
use Rattle.world_state.specs.Known.{FunctionKnown, Grows, HasFunction, IsFormed, IsHanded, IsKnownTo, IsNamed, IsPlain, IsSeatOf, ObjectKnown, known_as, made_as, module_of}
use Rattle.world_state.specs.Worlds.{State}
use Rattle.world_laws.proofs.Lists.{all_map}

module _ (w : State) (h : Option ℕ) where
  no_object : (n : ℕ) (t : Tree) → ObjectIs (λ o. ⊥) n t → ObjectIs (ObjectKnown h w) n t
  no_object n (object o) is = absurd is
  no_object n _ is = tt

  no_function : (n : ℕ) (t : Tree) → FunctionIs (λ f. ⊥) n t → FunctionIs (FunctionKnown h w) n t
  no_function n (function f) is = absurd is
  no_function n _ is = tt

  -- data that names nothing is formed for anyone
  pub plain_formed : (t : Tree) → IsPlain t → IsFormed w h t
  plain_formed t plain = record {
    objects = weaker (ObjectIs (λ o. ⊥)) (ObjectIs (ObjectKnown h w)) no_object 0 t plain.objects;
    functions = weaker (FunctionIs (λ f. ⊥)) (FunctionIs (FunctionKnown h w)) no_function 0 t plain.functions;
    named = plain.named;
    ordered = plain.ordered;
    shallow = plain.shallow;
  }

module _ (v w : State) (g : Grows v w) where
  instance_stays : (i : ℕ) → i < length v.tables.instances → (instance_at w.tables.instances i).installation ≡ (instance_at v.tables.instances i).installation
  instance_stays i made = ap (λ (p : ℕ × Tree). p.0) (g.instances.same i made)

  pub module_stays : (i : ℕ) → i < length v.tables.instances → (instance_at v.tables.instances i).installation < length v.tables.installations → module_of w.tables i ≡ module_of v.tables i
  module_stays i made installed = ap (λ n. module_at w.tables.installations n) (instance_stays i made) ∙ g.installations.same _ installed

  pub function_grows : (i : ℕ) (f : List ℕ) → HasFunction v.tables i f → HasFunction w.tables i f
  function_grows i f has = record {
    made = omega (arith, has.made, g.instances.more);
    installed = rw (instance_stays i has.made) (omega (arith, has.installed, g.installations.more));
    named = subst (λ m. IsNamed f (routines m)) (sym (module_stays i has.made has.installed)) has.named;
  }

  pub seat_grows : (i n : ℕ) → IsSeatOf v.seats i n → IsSeatOf w.seats i n
  seat_grows i n is = record {
    made = omega (arith, is.made, g.seats.more);
    own = ap (λ (p : ℕ × Proposal). p.0) (g.seats.same n is.made) ∙ is.own;
  }

  made_grows : (k : ObjKind) (n : ℕ) → made_as v k n → made_as w k n
  made_grows kinds.Ertp n made = made
  made_grows kinds.Zoe n made = made
  made_grows kinds.Timer n made = made
  made_grows (kinds.Brand kind) n made = record { made = omega (arith, made.made, g.brands.more); kind_is = ap (λ (b : Brand). b.kind) (g.brands.same n made.made) ∙ made.kind_is }
  made_grows kinds.Issuer n made = omega (arith, made, g.brands.more)
  made_grows kinds.Mint n made = record { made = omega (arith, made.made, g.makers.more); is = g.makers.same n made.made ∙ made.is }
  made_grows kinds.Purse n made = omega (arith, made, g.purses)
  made_grows kinds.Deposit n made = omega (arith, made, g.purses)
  made_grows kinds.Payment n made = omega (arith, made, g.payments)
  made_grows kinds.Installation n made = omega (arith, made, g.installations.more)
  made_grows kinds.Instance n made = omega (arith, made, g.instances.more)
  made_grows kinds.Zcf n made = made
  made_grows kinds.Seat n made = omega (arith, made, g.seats.more)
  made_grows kinds.Zseat n made = made
  made_grows kinds.Zmint n made = made
  made_grows kinds.Facet n made = omega (arith, made, g.facets.more)
  made_grows kinds.Promise n made = omega (arith, made, g.promises)

  known_grows : (i : ℕ) (k : ObjKind) (n : ℕ) → known_as i v k n → known_as i w k n
  known_grows i kinds.Zcf n known = known
  known_grows i kinds.Zseat n known = seat_grows i n known
  known_grows i kinds.Zmint n known = record { made = omega (arith, known.made, g.makers.more); is = g.makers.same n known.made ∙ known.is }
  known_grows i k n known = made_grows k n known

  object_grows : (h : Option ℕ) (o : Obj) → ObjectKnown h v o → ObjectKnown h w o
  object_grows None o is = made_grows o.kind o.number is
  object_grows (Some i) o is = known_grows i o.kind o.number is

  function_known_grows : (h : Option ℕ) (f : List ℕ) → FunctionKnown h v f → FunctionKnown h w f
  function_known_grows None f is = is
  function_known_grows (Some i) f is = function_grows i f is

  object_fact : (h : Option ℕ) (n : ℕ) (t : Tree) → ObjectIs (ObjectKnown h v) n t → ObjectIs (ObjectKnown h w) n t
  object_fact h n (object o) is = object_grows h o is
  object_fact h n _ is = tt

  function_fact : (h : Option ℕ) (n : ℕ) (t : Tree) → FunctionIs (FunctionKnown h v) n t → FunctionIs (FunctionKnown h w) n t
  function_fact h n (function f) is = function_known_grows h f is
  function_fact h n _ is = tt

  pub formed_grows : (h : Option ℕ) (t : Tree) → IsFormed v h t → IsFormed w h t
  formed_grows h t is = record {
    objects = weaker (ObjectIs (ObjectKnown h v)) (ObjectIs (ObjectKnown h w)) (object_fact h) 0 t is.objects;
    functions = weaker (FunctionIs (FunctionKnown h v)) (FunctionIs (FunctionKnown h w)) (function_fact h) 0 t is.functions;
    named = is.named;
    ordered = is.ordered;
    shallow = is.shallow;
  }

  pub handed_all_grow : (ts : List Tree) → AllByRecursion (IsHanded v) ts → AllByRecursion (IsHanded w) ts
  handed_all_grow ts all = all_map (IsHanded v) (IsHanded w) (formed_grows None) ts all

  pub settling_grows : (s : SettlementView) → IsSettling v s → IsSettling w s
  settling_grows (ok t) is = formed_grows None t is
  settling_grows (broken t) is = formed_grows None t is

  pub final_grows : (s : SettlementView) → IsFinal v s → IsFinal w s
  final_grows s is = record { ends = is.ends; handed = settling_grows s is.handed }

  pub settled_grows : (s : Option SettlementView) → IsSettled v s → IsSettled w s
  settled_grows None is = tt
  settled_grows (Some s) is = final_grows s is

  pub invitation_grows : (d : DetailsView) → IsInvitation v d → IsInvitation w d
  invitation_grows d is = record {
    handler = function_grows d.instance d.handler is.handler;
    installation = is.installation ∙ sym (instance_stays d.instance is.handler.made);
    held = formed_grows (Some d.instance) d.held is.held;
  }

  pub facet_grows : (f : FacetView) → IsFacet v f → IsFacet w f
  facet_grows f is = record {
    made = omega (arith, is.made, g.instances.more);
    methods = all_map (IsMethod v f.instance) (IsMethod w f.instance) (λ (m : List ℕ × List ℕ). function_grows f.instance m.1) f.methods is.methods;
    held = formed_grows (Some f.instance) f.held is.held;
  }

  pub label_grows : (b : Bound) → IsLabel v b → IsLabel w b
  label_grows b is = formed_grows None b.value is

  pub wakeup_grows : (d : Wakeup) → IsWakeup v d → IsWakeup w d
  wakeup_grows d is = record { function = function_grows d.instance d.function is.function; held = formed_grows (Some d.instance) d.held is.held }

  pub notice_grows : (n : Notice) → IsNotice v n → IsNotice w n
  notice_grows n is = record { promise = omega (arith, is.promise, g.promises); function = function_grows n.instance n.function is.function; held = formed_grows (Some n.instance) n.held is.held }

  news_grows : (n : Notice) → IsNews v n → IsNews w n
  news_grows n is = record { notice = notice_grows n is.notice; settled = g.settled.each n.promise is.notice.promise is.settled }

  start_grows : (s : Start) → IsStart v s → IsStart w s
  start_grows s is = record { made = omega (arith, is.made, g.instances.more); arguments = formed_grows None s.private_arguments is.arguments }

  offer_grows : (o : Offer) → IsOfferCall v o → IsOfferCall w o
  offer_grows o is = record {
    seat = seat_grows o.instance o.seat is.seat;
    paired = omega (arith, is.paired, g.pairs.more);
    promise = is.promise ∙ sym (ap (λ (q : SeatPair). q.«result») (g.pairs.same o.seat is.paired));
    function = function_grows o.instance o.function is.function;
    arguments = formed_grows None o.offer_arguments is.arguments;
    held = formed_grows (Some o.instance) o.held is.held;
  }

  send_grows : (s : Send) → IsSend v s → IsSend w s
  send_grows s is = record { made = omega (arith, is.made, g.instances.more); target = formed_grows None (object s.target) is.target; arguments = handed_all_grow s.arguments is.arguments }

  pub due_grows : (d : Delivery) → IsDue v d → IsDue w d
  due_grows (call c) is = is
  due_grows (give c) is = is
  due_grows (tick t) is = is
  due_grows (bad r) is = tt
  due_grows (send s) is = send_grows s is
  due_grows (start s) is = start_grows s is
  due_grows (offer o) is = offer_grows o is
  due_grows (wake d) is = wakeup_grows d is
  due_grows (notify n) is = news_grows n is
  due_grows (deadline s) is = omega (arith, is, g.seats.more)

  pub timed_grows : (d : Delivery) → IsTimed v d → IsTimed w d
  timed_grows (wake d) is = wakeup_grows d is
  timed_grows (deadline s) is = omega (arith, is, g.seats.more)
  timed_grows _ is = is

  pub issuer_grows : (i : Issuer) → IsIssuer v i → IsIssuer w i
  issuer_grows i is = record { made = omega (arith, is.made, g.brands.more); named = is.named }

  pub issuers_all_grow : (is : List Issuer) → AllByRecursion (IsIssuer v) is → AllByRecursion (IsIssuer w) is
  issuers_all_grow is all = all_map (IsIssuer v) (IsIssuer w) issuer_grows is all

  pub facet_given_grows : (t : Option Tree) → IfSome t (IsHanded v) → IfSome t (IsHanded w)
  facet_given_grows None is = tt
  facet_given_grows (Some t) is = formed_grows None t is

  pub known_all_grow : (n : ℕ) (ts : List Tree) → AllByRecursion (IsKnownTo v n) ts → AllByRecursion (IsKnownTo w n) ts
  known_all_grow n ts all = all_map (IsKnownTo v n) (IsKnownTo w n) (formed_grows (Some n)) ts all

  pub instance_grows : (n : ℕ) (x : InstanceView) → IsInstance v n x → IsInstance w n x
  instance_grows n x is = record {
    installed = omega (arith, is.installed, g.installations.more);
    issuers = issuers_all_grow x.issuers is.issuers;
    apart = is.apart;
    terms = formed_grows None x.terms is.terms;
    bare = is.bare;
    facet = facet_given_grows x.public_facet is.facet;
    whole = is.whole ∙ sym (ap (λ (m : Module). length m.variables) (g.installations.same x.installation is.installed));
    state = known_all_grow n x.state is.state;
  }
