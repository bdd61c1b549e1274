-- Rows of calls come from outside and from purses just where the row of the call, or that of its turn, shows it.
use Rattle.std.specs.Prelude.{◌≡◌, ◌&&◌, ◌<◌, ◌-◌, ℕ, true, List, [], ◌∷◌, Some, None, Ok, Err, IfOk, codes, length, refl}
use Rattle.std.specs.List.{AllByRecursion}
use Rattle.std.specs.Str.{bytes_eq}
use Rattle.std.proofs.Common.{inl, inr, ◌∙◌, ap}
use Rattle.std.proofs.lemmas.Slice.Eq.{bytes_eq-Decides}
use Rattle.fair_laws.specs.call_arguments.Arguments.{is_kind}
use Rattle.fair_laws.proofs.rule_laws.Forms.{null_formed}
use Rattle.fair_laws.proofs.rule_laws.Next.{after_next_of}
use Rattle.fair_laws.specs.rules.Acts.{MayAct}
use Rattle.fair_laws.specs.rules.Licence.{AreLicensed, ContractTakes, IsLicensed, IsObject, NamesPayment, ServiceTakes}
use Rattle.fair_laws.specs.rules.Obligations.{CanCall, IsRule}
use Rattle.fair_laws.specs.rules.Outcomes.{Outcome}
use Rattle.fair_laws.specs.rules.Traces.{movements_in}
use Rattle.fair_laws.specs.world_state.turn_records.Names.{object_name}
use Rattle.fair_laws.proofs.delivery_laws.Asking.{all_have}
use Rattle.fair_laws.specs.delivery_laws.Works.{AreGoodHostCalls}
use Rattle.fair_laws.specs.delivery_turns.HostCalls.{call_effects, told_call, told_effects}
use Rattle.fair_laws.specs.rules.PromisesAndFacets.{far_rule, send_rule, when_rule}
use Rattle.fair_laws.specs.ertp_mint.Stocks.{most_made}
use Rattle.fair_laws.specs.fair_rows.ExitCauses.{is_ok, name, serves}
use Rattle.fair_laws.specs.fair_rows.Rows.{is_service}
use Rattle.fair_laws.specs.jessie_semantics.Keeping.{AllHave, CallHas}
use Rattle.fair_laws.specs.jessie_semantics.Play.{Call, call, far, send, when}
use Rattle.fair_laws.specs.world_state.host_data.Nodes.{EachNode, HasFieldsInOrder}
use Rattle.fair_laws.specs.world_state.host_data.Tree as trees
use Rattle.fair_laws.specs.world_state.host_data.Tree.{Tree}
use Rattle.fair_laws.specs.world_state.host_data.declared.data.Obj.{Obj}
use Rattle.fair_laws.specs.world_state.host_data.declared.data.ObjKind.{ObjKind}
use Rattle.fair_laws.specs.world_state.host_data.declared.data.ObjKind.TheVariants as kinds
use Rattle.fair_laws.proofs.delivery_laws.refusals.Steps.{after_need}
use Rattle.fair_laws.specs.world_state.rights_model.declared.Holder.{Holder}
use Rattle.fair_laws.specs.world_state.rights_model.declared.Holder.TheVariants.{Purse, Payment, Slot, Hand, Outside}
use Rattle.fair_laws.specs.world_state.rights_model.declared.Movement.{Movement}
use Rattle.fair_laws.specs.rules.Methods.{serve_own}
use Rattle.fair_laws.specs.world_state.turn_records.Events as events
use Rattle.fair_laws.specs.world_state.turn_records.Printed.{kind_on, object, printed_trees}
use Rattle.fair_laws.specs.world_state.turn_rows.Kinds as turn_kinds
use Rattle.fair_laws.specs.world_state.turn_rows.Turns.{Turn}
use Rattle.fair_laws.proofs.world_laws.Lists.{all_map, all_read_or}
use Rattle.fair_laws.specs.world_state.Good.{IsGoodWorld}
use Rattle.fair_laws.specs.world_state.Known.{IsHanded, IsKnownTo}
use Rattle.fair_laws.specs.world_state.Worlds.{Effect, State, burn_and_escrows, invite, moves, note_call, offer, promises_made}
use Rattle.licence_laws.specs.Minting.{has_call, is_call_row, is_served}
use Rattle.licence_laws.specs.Spending.{ShowsSpending, is_call_with, items_name, served_with}
use Rattle.licence_laws.proofs.PrintedNames.{arguments_named, payment_name}
use Rattle.licence_laws.proofs.Effects.{AllTakeAsShown, AreShown, IsShownAt, IsStill, all_still_take, first_all, second_all}
use Rattle.licence_laws.proofs.Told.{IsToldIn}

-- ---- names of objects

same_bytes : (s : List ℕ) → bytes_eq s s ≡ true
same_bytes s = (bytes_eq-Decides s s).1 refl

mint_kind : (k : ObjKind) → is_kind kinds.Mint k ≡ true → k ≡ kinds.Mint
mint_kind kinds.Mint e = refl
mint_kind k e = cc

zmint_kind : (k : ObjKind) → is_kind kinds.Zmint k ≡ true → k ≡ kinds.Zmint
zmint_kind kinds.Zmint e = refl
zmint_kind k e = cc

purse_kind : (k : ObjKind) → is_kind kinds.Purse k ≡ true → k ≡ kinds.Purse
purse_kind kinds.Purse e = refl
purse_kind k e = cc

zcf_kind : (k : ObjKind) → is_kind kinds.Zcf k ≡ true → k ≡ kinds.Zcf
zcf_kind kinds.Zcf e = refl
zcf_kind k e = cc

-- an object of the kind and the number
object_is : (kind : ObjKind) (n : ℕ) (o : Obj) → o.kind ≡ kind → o.number ≡ n → o ≡ object kind n
object_is kind n o k m = λ i. object (k i) (m i)

mint_name : (n : ℕ) (o : Obj) → IsObject kinds.Mint n o → object_name o ≡ name (codes "mint") n
unfolding object_name
mint_name n o is = ap object_name (object_is kinds.Mint n o (mint_kind o.kind is.kind_is) is.number_is)

zmint_name : (n : ℕ) (o : Obj) → IsObject kinds.Zmint n o → object_name o ≡ name (codes "zmint") n
unfolding object_name
zmint_name n o is = ap object_name (object_is kinds.Zmint n o (zmint_kind o.kind is.kind_is) is.number_is)

purse_name : (n : ℕ) (o : Obj) → IsObject kinds.Purse n o → object_name o ≡ name (codes "purse") n
unfolding object_name
purse_name n o is = ap object_name (object_is kinds.Purse n o (purse_kind o.kind is.kind_is) is.number_is)

zcf_name : (n : ℕ) (o : Obj) → IsObject kinds.Zcf n o → object_name o ≡ name (codes "zcf") n
unfolding object_name
zcf_name n o is = ap object_name (object_is kinds.Zcf n o (zcf_kind o.kind is.kind_is) is.number_is)

-- ---- calls of the host's own objects

-- the turn's row is that of a call of the method on the object, that was answered
pub record IsRowOf (t : Turn) (o : Obj) (m : List ℕ) (args : List Tree) : Type 0 where
  pub kind : t.kind ≡ kind_on o.kind
  pub on : t.on ≡ object_name o
  pub method : t.method ≡ m
  pub arguments : t.arguments ≡ printed_trees args
  pub answered : is_ok t.answer ≡ true

-- data whose records stand in order
abbrev pub AreOrdered : List Tree → Type 0
AreOrdered ts = AllByRecursion (λ (t : Tree). EachNode HasFieldsInOrder 0 t) ts

module _ (t : Turn) (o : Obj) (m : List ℕ) (args : List Tree) (row : IsRowOf t o m args) (service : kind_on o.kind ≡ turn_kinds.service) (ordered : AreOrdered args) where
  served_by : (on method : List ℕ) → object_name o ≡ on → m ≡ method → is_served on method t ≡ true
  served_by on method named so =
      ap (λ k. is_service k && serves on method t) (row.kind ∙ service)
      ∙ ap (λ b. b && bytes_eq t.on on && bytes_eq t.method method) row.answered
      ∙ ap (λ x. true && bytes_eq x on && bytes_eq t.method method) (row.on ∙ named)
      ∙ ap (λ b. true && b && bytes_eq t.method method) (same_bytes on)
      ∙ ap (λ x. true && true && bytes_eq x method) (row.method ∙ so)
      ∙ same_bytes method

  served_naming : (n : ℕ) → NamesPayment args n → served_with (payment_name n) t ≡ true
  served_naming n is =
      ap (λ k. is_service k && is_ok t.answer && items_name (payment_name n) t.arguments) (row.kind ∙ service)
      ∙ ap (λ b. b && items_name (payment_name n) t.arguments) row.answered
      ∙ ap (items_name (payment_name n)) row.arguments
      ∙ arguments_named n args ordered is

  service_takes : (b : ℕ) (h : Holder) → ServiceTakes o m args b h → IsShownAt t h b
  service_takes b (Purse n) is = (served_by (name (codes "purse") n) (codes "withdraw") (purse_name n o is.target) is.method_is, tt)
  service_takes b Outside is = (inl (served_by (name (codes "mint") b) (codes "mintPayment") (mint_name b o is.target) is.method_is), tt)
  service_takes b (Payment n) is = (tt, inl (served_naming n is))
  service_takes b (Slot s k) is = absurd is
  service_takes b Hand is = absurd is

  services_take : (w : State) (ms : List Movement) → AreLicensed w None o m args ms → AreShown t ms
  services_take w [] are = tt
  services_take w (x ∷ ms) are = (service_takes x.brand x.from are.0, services_take w ms are.1)

  service_effects : (w : State) (es : List Effect) → AllByRecursion (MayAct w None o m) es → AreLicensed w None o m args (movements_in es) → AllTakeAsShown t es
  service_effects w [] acts are = tt
  service_effects w (moves ms ∷ es) acts are = (
    services_take w ms (first_all (IsLicensed w None o m args) ms (movements_in es) are),
    service_effects w es acts.1 (second_all (IsLicensed w None o m args) ms (movements_in es) are),
  )
  service_effects w (offer x ∷ es) acts are = (
    services_take w (burn_and_escrows x) (first_all (IsLicensed w None o m args) (burn_and_escrows x) (movements_in es) are),
    service_effects w es acts.1 (second_all (IsLicensed w None o m args) (burn_and_escrows x) (movements_in es) are),
  )
  service_effects w (invite d ∷ es) acts are = let none = acts.0.by in cc
  service_effects w (e ∷ es) acts are = (tt, service_effects w es acts.1 are)

  pub service_row_takes : (w : State) (answer : Tree) (es : List Effect) → IsRule w None o m args answer es → AllTakeAsShown t es
  service_row_takes w answer es is = service_effects w es is.acts is.licensed

-- ---- calls of a contract's functions

module _ (t : Turn) (o : Obj) (m : List ℕ) (args : List Tree) (told : (on method : List ℕ) → object_name o ≡ on → m ≡ method → has_call on method t ≡ true) (named : (n : ℕ) → NamesPayment args n → ShowsSpending t n) where
  contract_takes : (w : State) (i : ℕ) (b : ℕ) (h : Holder) → ContractTakes w i o m args b h → IsShownAt t h b
  contract_takes w i b Outside is = (inr (inl (told (name (codes "zmint") b) (codes "mintGains") (zmint_name b o is.1.target) is.1.method_is)), tt)
  contract_takes w i b (Purse n) is = absurd is
  contract_takes w i b (Payment n) is = (tt, named n is)
  contract_takes w i b (Slot s k) is = (tt, tt)
  contract_takes w i b Hand is = (tt, tt)

  contracts_take : (w : State) (i : ℕ) (ms : List Movement) → AreLicensed w (Some i) o m args ms → AreShown t ms
  contracts_take w i [] are = tt
  contracts_take w i (x ∷ ms) are = (contract_takes w i x.brand x.from are.0.takes, contracts_take w i ms are.1)

  contract_effects : (w : State) (i : ℕ) (es : List Effect) → AllByRecursion (MayAct w (Some i) o m) es → AreLicensed w (Some i) o m args (movements_in es) → AllTakeAsShown t es
  contract_effects w i [] acts are = tt
  contract_effects w i (moves ms ∷ es) acts are = (
    contracts_take w i ms (first_all (IsLicensed w (Some i) o m args) ms (movements_in es) are),
    contract_effects w i es acts.1 (second_all (IsLicensed w (Some i) o m args) ms (movements_in es) are),
  )
  contract_effects w i (offer x ∷ es) acts are = let none = acts.0 in cc
  contract_effects w i (invite d ∷ es) acts are = (
    inr (inr (
      refl,
      record {
        instance = d.instance;
        asked = told (name (codes "zcf") d.instance) (codes "makeInvitation") (zcf_name d.instance o acts.0.target) acts.0.method;
      },
    )),
    contract_effects w i es acts.1 are,
  )
  contract_effects w i (e ∷ es) acts are = (tt, contract_effects w i es acts.1 are)

-- ---- any call of a function

pub call_can : (w : State) (i : ℕ) (o : Obj) (m : List ℕ) (args : List Tree) → IsGoodWorld w → i < length w.tables.instances → CallHas (IsKnownTo w i) (call o m args) → CanCall w (Some i) o args
call_can w i o m args good made known = record {
  good = good;
  hosted = made;
  target = known.0.objects;
  arguments = λ place. all_read_or (IsKnownTo w i) args (place - 1) trees.null (all_have (IsKnownTo w i) args known.1) (null_formed w (Some i));
}

-- data that is known to an instance, or can be handed out, has its records in order
known_ordered : (w : State) (i : ℕ) (ts : List Tree) → AllHave (IsKnownTo w i) ts → AreOrdered ts
known_ordered w i ts known = all_map (IsKnownTo w i) (λ (t : Tree). EachNode HasFieldsInOrder 0 t) (λ t is. is.ordered) ts (all_have (IsKnownTo w i) ts known)

pub handed_ordered : (w : State) (ts : List Tree) → AllByRecursion (IsHanded w) ts → AreOrdered ts
handed_ordered w ts handed = all_map (IsHanded w) (λ (t : Tree). EachNode HasFieldsInOrder 0 t) (λ t is. is.ordered) ts handed

-- a call that is answered is told in the turn's rows
answered_told : (t : Turn) (o : Obj) (m : List ℕ) (args : List Tree) (answer : Tree) → IsToldIn t (note_call (told_call (call o m args) (events.given answer)))
    → (on method : List ℕ) → object_name o ≡ on → m ≡ method → has_call on method t ≡ true
answered_told t o m args answer told on method named so =
    told (is_call_row on method)
    (ap (λ x. true && true && bytes_eq x on && bytes_eq m method) named
    ∙ ap (λ b. true && true && b && bytes_eq m method) (same_bytes on)
    ∙ ap (λ x. true && true && true && bytes_eq x method) so
    ∙ same_bytes method)

-- so is one whose arguments name a payment
answered_naming : (t : Turn) (o : Obj) (m : List ℕ) (args : List Tree) (answer : Tree) → AreOrdered args → IsToldIn t (note_call (told_call (call o m args) (events.given answer)))
    → (n : ℕ) → NamesPayment args n → ShowsSpending t n
answered_naming t o m args answer ordered told n is = inr (told (is_call_with (payment_name n)) (arguments_named n args ordered is))

-- what is sent, asked for and made moves nothing
abbrev pub AreStill : Tree × List Effect → Type 0
AreStill d = AllByRecursion IsStill d.1

pub send_is_still : (w : State) (i : ℕ) (target : Obj) (m : List ℕ) (args : List Tree) → IfOk (send_rule w i target m args) AreStill
unfolding send_rule
send_is_still w i target m args = after_need AreStill _ _ _ (λ e. after_next_of AreStill (promises_made w) most_made _ (λ room. (tt, tt)))

pub when_is_still : (w : State) (i : ℕ) (promise : Obj) (f : List ℕ) (held : Tree) → IfOk (when_rule w i promise f held) AreStill
unfolding when_rule
when_is_still w i promise f held = after_next_of AreStill (promises_made w) most_made _ (λ room. (tt, tt))

pub far_is_still : (w : State) (i : ℕ) (ms : List (List ℕ × List ℕ)) (held : Tree) → IfOk (far_rule w i ms held) AreStill
unfolding far_rule
far_is_still w i ms held = after_next_of AreStill (length w.facets) most_made _ (λ room. (tt, tt))

module _ (t : Turn) where
  still_told : (c : Call) (row : Outcome) → IfOk row AreStill → AllTakeAsShown t (told_effects c row)
  still_told c (Ok (answer, es)) still = (tt, all_still_take t es still)
  still_told c (Err r) still = (tt, tt)

  called_takes : (w : State) (i : ℕ) (o : Obj) (m : List ℕ) (args : List Tree) → AreOrdered args → (row : Outcome) → IfOk row (λ d. IsRule w (Some i) o m args d.0 d.1) → AllByRecursion (IsToldIn t) (told_effects (call o m args) row) → AllTakeAsShown t (told_effects (call o m args) row)
  called_takes w i o m args ordered (Err r) is told = (tt, tt)
  called_takes w i o m args ordered (Ok (answer, es)) is told =
      (tt, contract_effects t o m args (answered_told t o m args answer told.0) (answered_naming t o m args answer ordered told.0) w i es is.acts is.licensed)

  pub call_takes : (served : AreGoodHostCalls) (w : State) (i : ℕ) → IsGoodWorld w → i < length w.tables.instances → (c : Call) → CallHas (IsKnownTo w i) c
      → AllByRecursion (IsToldIn t) (call_effects w i c) → AllTakeAsShown t (call_effects w i c)
  call_takes served w i good made (call o m args) known told = called_takes w i o m args (known_ordered w i args known.1) (serve_own w o m args) (served w i o m args (call_can w i o m args good made known)) told
  call_takes served w i good made (send o m args) known told = still_told (send o m args) (send_rule w i o m args) (send_is_still w i o m args)
  call_takes served w i good made (when o f held) known told = still_told (when o f held) (when_rule w i o f held) (when_is_still w i o f held)
  call_takes served w i good made (far x ms held) known told = still_told (far x ms held) (far_rule w i ms held) (far_is_still w i ms held)
