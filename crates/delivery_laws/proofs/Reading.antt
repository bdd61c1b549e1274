-- What a party's message comes to, and the target of a call that was sent, can be handed out.
use Rattle.std.specs.Prelude.{IfOk, IfSome, cond, nat_le, nat_lt, not, is_some, slice_get, option_and_then, codes}
use Rattle.std.specs.List.{AllByRecursion}
use Rattle.std.proofs.Common.{◌≡◌, ℕ, zero, suc, ◌+◌, ◌≤◌, max, Bool, true, false, List, [], ◌∷◌, Option, Some, None, Result, Ok, Err, refl, subst, arith}
use Rattle.std.proofs.lemmas.Bool.{leb-true, ltb-true}
use Rattle.std.specs.Option.{ok_or, option_map_or}
use Rattle.std.specs.Str.{bytes_eq}
use Rattle.delivery_turns.specs.actors.Labels.{Bound, bound_to, is_of, label_in}
use Rattle.delivery_turns.specs.actors.Paths.{Found, and_then, followed, fulfilled, part_at, part_met, steps_of, walked, walked_from}
use Rattle.delivery_turns.specs.actors.declared.paths.ResolveFault.{ResolveFault}
use Rattle.delivery_turns.specs.actors.declared.paths.ResolveFault.TheVariants.{UnknownName}
use Rattle.rule_laws.proofs.Forms.{field_formed, object_formed, raised}
use Rattle.turn_writer.specs.host_data.Nodes.{AreInOrder, EachField, EachItem, EachNode, FunctionIs, HasFieldsInOrder, IsShallow, NodeFact, ObjectIs}
use Rattle.turn_writer.proofs.host_data.Nodes.{shallow}
use Rattle.delivery_turns.specs.turn_records.Printable.{HaveFieldNames, most_nested}
use Rattle.turn_writer.specs.host_data.Tree as trees
use Rattle.turn_writer.specs.host_data.Tree.{Before, Fields, Items, Tree, get, items_nesting, listed, nesting, object_of}
use Rattle.turn_writer.specs.host_data.declared.data.Obj.{Obj}
use Rattle.turn_writer.specs.host_data.declared.data.ObjKind.TheVariants as kinds
use Rattle.delivery_turns.specs.promise_store.Linked.{leader}
use Rattle.delivery_turns.specs.promise_store.States.{SettlementView, broken, is_promise_kind, ok, pending}
use Rattle.turn_writer.specs.refusals.Outcomes.{◌>>=◌, bind}
use Rattle.turn_writer.specs.refusals.declared.codes.Refusal.{Refusal}
use Rattle.turn_writer.proofs.refusals.Steps.{after_known, after_need, after_wanted, need_holds}
use Rattle.delivery_turns.specs.turn_records.Deliveries.{Send}
use Rattle.delivery_turns.specs.turn_records.Messages as parts
use Rattle.delivery_turns.specs.turn_records.Messages.{FieldParts, LineCall, LineGift, Part, Parts}
use Rattle.delivery_turns.specs.world_state.Good.{IsGoodWorld, IsLabel, IsSend, IsSettled}
use Rattle.delivery_turns.specs.world_state.Known.{FunctionKnown, HasNames, IsHanded, ObjectKnown}
use Rattle.delivery_turns.specs.world_state.Lines.{AreFormedFields, AreFormedParts, IsBefore, IsFormedCall, IsFormedPart}
use Rattle.delivery_turns.specs.world_state.Promises.{no_promise, settlement_at, state_by}
use Rattle.delivery_turns.specs.world_state.Worlds.{State, promises_made}
use Rattle.rule_laws.proofs.world_laws.Lists.{all_read}
use Rattle.delivery_turns.specs.Messages.{Addressed, addressed, found_or_refused, gift_of, label_is_free, promise_states, resolved, resolved_all, resolved_fields, sent_to, value_at}

-- ---- results

after_has : {A B : Type 0} (Q : A → Type 0) (P : B → Type 0) (r : Result A Refusal) (f : A → Result B Refusal) → IfOk r Q → ((x : A) → Q x → IfOk (f x) P) → IfOk (r >>= f) P
unfolding bind
after_has Q P (Ok x) f h next = next x h
after_has Q P (Err e) f h next = tt

pub weaker_ok : {A : Type 0} (P Q : A → Type 0) (r : Result A Refusal) → ((x : A) → P x → Q x) → IfOk r P → IfOk r Q
weaker_ok P Q (Ok x) to h = to x h
weaker_ok P Q (Err e) to h = tt

most_left : (a b n : ℕ) → max a b ≤ n → a ≤ n
most_left a b n h = grind arith

most_right : (a b n : ℕ) → max a b ≤ n → b ≤ n
most_right a b n h = grind arith

abbrev FoundHas : (Tree → Type 0) → Found → Type 0
FoundHas P (Ok t) = P t
FoundHas P (Err fault) = Unit {0}

then_has : (P Q : Tree → Type 0) (r : Found) (next : Tree → Found) → FoundHas P r → ((t : Tree) → P t → FoundHas Q (next t)) → FoundHas Q (and_then r next)
then_has P Q (Ok t) next h to = to t h
then_has P Q (Err fault) next h to = tt

refused_has : (P : Tree → Type 0) (path : List ℕ) (r : Found) → FoundHas P r → IfOk (found_or_refused path r) P
refused_has P path (Ok t) h = h
refused_has P path (Err fault) h = tt

-- ---- facts of nodes at whatever depth

abbrev Anywhere : NodeFact → Type 0
Anywhere F = (n m : ℕ) (t : Tree) → F n t → F m t

module _ (F : NodeFact) (anywhere : Anywhere F) where
  mutual
    elsewhere : (n m : ℕ) (t : Tree) → EachNode F n t → EachNode F m t
    elsewhere n m (trees.array ts) h = (anywhere n m _ h.0, items_elsewhere (n + 1) (m + 1) ts h.1)
    elsewhere n m (trees.fields fs) h = (anywhere n m _ h.0, fields_elsewhere (n + 1) (m + 1) fs h.1)
    elsewhere n m trees.null h = anywhere n m _ h
    elsewhere n m (trees.boolean b) h = anywhere n m _ h
    elsewhere n m (trees.number z) h = anywhere n m _ h
    elsewhere n m (trees.text s) h = anywhere n m _ h
    elsewhere n m (trees.object o) h = anywhere n m _ h
    elsewhere n m (trees.function f) h = anywhere n m _ h

    items_elsewhere : (n m : ℕ) (ts : Items) → EachItem F n ts → EachItem F m ts
    items_elsewhere n m trees.no_items h = tt
    items_elsewhere n m (trees.item t ts) h = (elsewhere n m t h.0, items_elsewhere n m ts h.1)

    fields_elsewhere : (n m : ℕ) (fs : Fields) → EachField F n fs → EachField F m fs
    fields_elsewhere n m trees.no_fields h = tt
    fields_elsewhere n m (trees.field x t fs) h = (elsewhere n m t h.0, fields_elsewhere n m fs h.1)

object_anywhere : (P : Obj → Type 0) → Anywhere (ObjectIs P)
object_anywhere P n m (trees.object o) h = h
object_anywhere P n m _ h = tt

function_anywhere : (P : List ℕ → Type 0) → Anywhere (FunctionIs P)
function_anywhere P n m (trees.function f) h = h
function_anywhere P n m _ h = tt

names_anywhere : Anywhere HasNames
names_anywhere n m (trees.fields fs) h = h
names_anywhere n m (trees.function f) h = h
names_anywhere n m _ h = tt

order_anywhere : Anywhere HasFieldsInOrder
order_anywhere n m (trees.fields fs) h = h
order_anywhere n m _ h = tt

-- ---- what can be handed out but for its depth

pub record IsLoose (w : State) (n : ℕ) (t : Tree) : Type 0 where
  pub objects : EachNode (ObjectIs (ObjectKnown None w)) n t
  pub functions : EachNode (FunctionIs (FunctionKnown None w)) n t
  pub named : EachNode HasNames n t
  pub ordered : EachNode HasFieldsInOrder n t

record AreLoose (w : State) (n : ℕ) (ts : Items) : Type 0 where
  objects : EachItem (ObjectIs (ObjectKnown None w)) n ts
  functions : EachItem (FunctionIs (FunctionKnown None w)) n ts
  named : EachItem HasNames n ts
  ordered : EachItem HasFieldsInOrder n ts

record LooseFields (w : State) (n : ℕ) (fs : Fields) : Type 0 where
  objects : EachField (ObjectIs (ObjectKnown None w)) n fs
  functions : EachField (FunctionIs (FunctionKnown None w)) n fs
  names : HaveFieldNames fs
  named : EachField HasNames n fs
  order : AreInOrder fs
  ordered : EachField HasFieldsInOrder n fs

module _ (w : State) where
  loose_at : (n m : ℕ) (t : Tree) → IsLoose w n t → IsLoose w m t
  loose_at n m t is = record {
    objects = elsewhere (ObjectIs (ObjectKnown None w)) (object_anywhere (ObjectKnown None w)) n m t is.objects;
    functions = elsewhere (FunctionIs (FunctionKnown None w)) (function_anywhere (FunctionKnown None w)) n m t is.functions;
    named = elsewhere HasNames names_anywhere n m t is.named;
    ordered = elsewhere HasFieldsInOrder order_anywhere n m t is.ordered;
  }

  pub loose_of : (n : ℕ) (t : Tree) → IsHanded w t → IsLoose w n t
  loose_of n t is = loose_at 0 n t (record { objects = is.objects; functions = is.functions; named = is.named; ordered = is.ordered })

  handed_if : (t : Tree) → nesting t ≤ 32 → IsLoose w 0 t → IsHanded w t
  handed_if t low is = record { objects = is.objects; functions = is.functions; named = is.named; ordered = is.ordered; shallow = shallow 32 0 t (omega (arith, low)) }

  -- ---- paths

  settled_met : (n : ℕ) (s : Option SettlementView) (q : Option ℕ) → IsSettled w s → FoundHas (IsHanded w) (fulfilled n (state_by s q))
  settled_met n (Some (ok t)) q is = is.handed
  settled_met n (Some (broken t)) q is = tt
  settled_met n None (Some q) is = tt
  settled_met n None None is = tt

  module _ (good : IsGoodWorld w) where
    promise_met : (n : ℕ) → FoundHas (IsHanded w) (fulfilled n (promise_states w n))
    promise_met n = by (nat_lt n (promises_made w)) refl
      where
        by : (b : Bool) → nat_lt n (promises_made w) ≡ b → FoundHas (IsHanded w) (fulfilled n (cond b (state_by (settlement_at w.promises.settled n) (leader w.promises.follows n)) pending))
        by true is = settled_met n (settlement_at w.promises.settled n) (leader w.promises.follows n) (all_read (IsSettled w) w.promises.settled n no_promise good.settled (ltb-true _ _ is))
        by false is = tt

    object_met : (o : Obj) → IsHanded w (trees.object o) → FoundHas (IsHanded w) (followed (promise_states w) (trees.object o))
    object_met o is = by (is_promise_kind o.kind)
      where
        by : (b : Bool) → FoundHas (IsHanded w) (cond b (fulfilled o.number (promise_states w o.number)) (Ok (trees.object o)))
        by true = promise_met o.number
        by false = is

    met : (t : Tree) → IsHanded w t → FoundHas (IsHanded w) (followed (promise_states w) t)
    met (trees.object o) is = object_met o is
    met trees.null is = is
    met (trees.boolean b) is = is
    met (trees.number z) is = is
    met (trees.text s) is = is
    met (trees.array ts) is = is
    met (trees.fields fs) is = is
    met (trees.function f) is = is

    -- ---- parts

    depth_lower : (n : ℕ) (t : Tree) → IsShallow 32 (n + 1) t → IsShallow 32 n t
    depth_lower n (trees.array ts) h = omega (arith, h)
    depth_lower n (trees.fields fs) h = omega (arith, h)
    depth_lower n _ h = tt

    items_handed : (ts : Items) → AreLoose w 1 ts → EachItem (IsShallow 32) 1 ts → AllByRecursion (IsHanded w) (listed ts)
    items_handed trees.no_items is low = tt
    items_handed (trees.item t ts) is low =
        let here : IsLoose w 0 t = loose_at 1 0 t (record { objects = is.objects.0; functions = is.functions.0; named = is.named.0; ordered = is.ordered.0 }) in (
          record { objects = here.objects; functions = here.functions; named = here.named; ordered = here.ordered; shallow = raised (IsShallow 32) depth_lower 0 t low.0 },
          items_handed ts (record { objects = is.objects.1; functions = is.functions.1; named = is.named.1; ordered = is.ordered.1 }) low.1,
        )

    at_place : (P : Tree → Type 0) (vs : List Tree) (n : ℕ) → AllByRecursion P vs → IfSome (slice_get vs n) P
    at_place P [] n h = tt
    at_place P (v ∷ vs) zero h = h.0
    at_place P (v ∷ vs) (suc n) h = at_place P vs n h.1

    chosen_place : (P : Tree → Type 0) (vs : List Tree) (o : Option ℕ) → AllByRecursion P vs → IfSome (option_and_then (λ n. slice_get vs n) o) P
    chosen_place P vs None h = tt
    chosen_place P vs (Some n) h = at_place P vs n h

    field_there : (step : List ℕ) (fs : Fields) → IsHanded w (trees.fields fs) → IfSome (get step fs) (IsHanded w)
    field_there step fs is = by (get step fs) refl
      where
        by : (o : Option Tree) → get step fs ≡ o → IfSome o (IsHanded w)
        by None e = tt
        by (Some x) e = field_formed w None step (trees.fields fs) x is e

    part_there : (t : Tree) (step : List ℕ) → IsHanded w t → IfSome (part_at t step) (IsHanded w)
    part_there (trees.fields fs) step is = field_there step fs is
    part_there (trees.array ts) step is =
        chosen_place (IsHanded w) (listed ts) _ (items_handed ts (record { objects = is.objects.1; functions = is.functions.1; named = is.named.1; ordered = is.ordered.1 }) is.shallow.1)
    part_there trees.null step is = tt
    part_there (trees.boolean b) step is = tt
    part_there (trees.number z) step is = tt
    part_there (trees.text s) step is = tt
    part_there (trees.object o) step is = tt
    part_there (trees.function f) step is = tt

    found_there : (o : Option Tree) (fault : ResolveFault) → IfSome o (IsHanded w) → FoundHas (IsHanded w) (ok_or o fault)
    found_there None fault h = tt
    found_there (Some t) fault h = h

    part_met_there : (t : Tree) (step : List ℕ) → IsHanded w t → FoundHas (IsHanded w) (part_met (promise_states w) t step)
    part_met_there t step is = then_has (IsHanded w) (IsHanded w) (followed (promise_states w) t) _ (met t is) (λ x h. found_there (part_at x step) _ (part_there x step h))

    walked_there : (steps : List (List ℕ)) (t : Tree) → IsHanded w t → FoundHas (IsHanded w) (walked (promise_states w) t steps)
    walked_there [] t is = met t is
    walked_there (step ∷ steps) t is = then_has (IsHanded w) (IsHanded w) (part_met (promise_states w) t step) _ (part_met_there t step is) (λ x h. walked_there steps x h)

    -- ---- labels

    one_of_both : (b : Bool) (t : Tree) (o : Option Tree) → IsHanded w t → IfSome o (IsHanded w) → IfSome (cond b (Some t) o) (IsHanded w)
    one_of_both true t o h k = h
    one_of_both false t o h k = k

    label_there : (party label : List ℕ) (bs : List Bound) → AllByRecursion (IsLabel w) bs → IfSome (label_in party label bs) (IsHanded w)
    label_there party label [] h = tt
    label_there party label (b ∷ bs) h = one_of_both (is_of party label b) b.value (label_in party label bs) h.0 (label_there party label bs h.1)

    first_service : (b c d : Bool) (other : Option Tree) → IfSome other (IsHanded w)
        → IfSome (option_map_or (λ o. Some (trees.object o)) (cond b (Some (record { kind = kinds.Ertp; number = 0 })) (cond c (Some (record { kind = kinds.Zoe; number = 0 })) (cond d (Some (record { kind = kinds.Timer; number = 0 })) None))) other) (IsHanded w)
    first_service true c d other h = object_formed w None (record { kind = kinds.Ertp; number = 0 }) refl
    first_service false true d other h = object_formed w None (record { kind = kinds.Zoe; number = 0 }) refl
    first_service false false true other h = object_formed w None (record { kind = kinds.Timer; number = 0 }) refl
    first_service false false false other h = h

    bound_there : (party label : List ℕ) → IfSome (bound_to w.labels party label) (IsHanded w)
    bound_there party label = first_service (bytes_eq label (codes "ertp")) (bytes_eq label (codes "zoe")) (bytes_eq label (codes "timer")) (label_in party label w.labels) (label_there party label w.labels good.labels)

    walked_from_there : (party : List ℕ) (steps : List (List ℕ)) → FoundHas (IsHanded w) (walked_from (promise_states w) w.labels party steps)
    walked_from_there party [] = tt
    walked_from_there party (label ∷ steps) = then_has (IsHanded w) (IsHanded w) (ok_or (bound_to w.labels party label) UnknownName) _ (found_there (bound_to w.labels party label) UnknownName (bound_there party label)) (λ t h. walked_there steps t h)

    pub value_there : (party path : List ℕ) → IfOk (value_at w party path) (IsHanded w)
    unfolding value_at
    value_there party path = refused_has (IsHanded w) path _ (walked_from_there party (steps_of path))

    -- ---- arguments

    record HaveFields (n : ℕ) (given : FieldParts) (fs : Fields) : Type 0 where
      loose : LooseFields w n fs
      first : (name : List ℕ) → IsBefore name given → Before name fs

    mutual
      resolved_there : (party : List ℕ) (n : ℕ) (p : Part) → IsFormedPart n p → IfOk (resolved w party p) (IsLoose w n)
      resolved_there party n parts.null is = record { objects = tt; functions = tt; named = tt; ordered = tt }
      resolved_there party n (parts.boolean b) is = record { objects = tt; functions = tt; named = tt; ordered = tt }
      resolved_there party n (parts.number z) is = record { objects = tt; functions = tt; named = tt; ordered = tt }
      resolved_there party n (parts.text s) is = record { objects = tt; functions = tt; named = tt; ordered = tt }
      resolved_there party n (parts.array ps) is =
          after_has (AreLoose w (n + 1)) (IsLoose w n) (resolved_all w party ps) _ (all_there party (n + 1) ps is.1)
          (λ ts h. record { objects = (tt, h.objects); functions = (tt, h.functions); named = (tt, h.named); ordered = (tt, h.ordered) })
      resolved_there party n (parts.fields fs) is =
          after_has (HaveFields (n + 1) fs) (IsLoose w n) (resolved_fields w party fs) _ (fields_there party (n + 1) fs is.1)
          (λ ts h. record { objects = (tt, h.loose.objects); functions = (tt, h.loose.functions); named = (h.loose.names, h.loose.named); ordered = (h.loose.order, h.loose.ordered) })
      resolved_there party n (parts.path p) is = weaker_ok (IsHanded w) (IsLoose w n) (value_at w party p) (λ t h. loose_of n t h) (value_there party p)

      all_there : (party : List ℕ) (n : ℕ) (ps : Parts) → AreFormedParts n ps → IfOk (resolved_all w party ps) (AreLoose w n)
      all_there party n parts.no_parts is = record { objects = tt; functions = tt; named = tt; ordered = tt }
      all_there party n (parts.part p ps) is =
          after_has (IsLoose w n) (AreLoose w n) (resolved w party p) _ (resolved_there party n p is.0)
          (λ t h. after_has (AreLoose w n) (AreLoose w n) (resolved_all w party ps) _ (all_there party n ps is.1)
          (λ ts k. record { objects = (h.objects, k.objects); functions = (h.functions, k.functions); named = (h.named, k.named); ordered = (h.ordered, k.ordered) }))

      fields_there : (party : List ℕ) (n : ℕ) (fs : FieldParts) → AreFormedFields n fs → IfOk (resolved_fields w party fs) (HaveFields n fs)
      fields_there party n parts.no_fields is = record { loose = record { objects = tt; functions = tt; names = tt; named = tt; order = tt; ordered = tt }; first = λ name b. tt }
      fields_there party n (parts.field x p fs) is =
          after_has (IsLoose w n) (HaveFields n (parts.field x p fs)) (resolved w party p) _ (resolved_there party n p is.2)
          (λ t h. after_has (HaveFields n fs) (HaveFields n (parts.field x p fs)) (resolved_fields w party fs) _ (fields_there party n fs is.3)
          (λ ts k. record {
            loose = record { objects = (h.objects, k.loose.objects); functions = (h.functions, k.loose.functions); names = (is.0, k.loose.names); named = (h.named, k.loose.named); order = (k.first x is.1, k.loose.order); ordered = (h.ordered, k.loose.ordered) };
            first = λ name b. b;
          }))

    -- ---- messages

    free_there : (party : List ℕ) (label : Option (List ℕ)) → label_is_free w party label ≡ Ok tt → IfSome label (λ l. bound_to w.labels party l ≡ None)
    free_there party None e = tt
    free_there party (Some l) e = none_there (bound_to w.labels party l) (need_holds _ _ tt e)
      where
        none_there : (o : Option Tree) → not (is_some o) ≡ true → o ≡ None
        none_there None e = refl
        none_there (Some t) e = cc

    object_there : (t : Tree) (o : Obj) → object_of t ≡ Some o → IsHanded w t → IsHanded w (trees.object o)
    object_there (trees.object x) o e is = let same : x ≡ o = cc in subst (λ y. IsHanded w (trees.object y)) same is
    object_there trees.null o e is = cc
    object_there (trees.boolean b) o e is = cc
    object_there (trees.number z) o e is = cc
    object_there (trees.text s) o e is = cc
    object_there (trees.array ts) o e is = cc
    object_there (trees.fields fs) o e is = cc
    object_there (trees.function f) o e is = cc

    listed_there : (ts : Items) → items_nesting ts ≤ 32 → AreLoose w 0 ts → AllByRecursion (IsHanded w) (listed ts)
    listed_there trees.no_items low is = tt
    listed_there (trees.item t ts) low is = (
      handed_if t (most_left (nesting t) (items_nesting ts) 32 low) (record { objects = is.objects.0; functions = is.functions.0; named = is.named.0; ordered = is.ordered.0 }),
      listed_there ts (most_right (nesting t) (items_nesting ts) 32 low) (record { objects = is.objects.1; functions = is.functions.1; named = is.named.1; ordered = is.ordered.1 }),
    )

    -- the target and the arguments can be handed out
    pub record IsAddressed (a : Addressed) : Type 0 where
      pub target : IsHanded w (trees.object a.target)
      pub arguments : AllByRecursion (IsHanded w) a.arguments

    pub record IsCalled (c : LineCall) (a : Addressed) : Type 0 where
      pub addressed_to : IsAddressed a
      pub free : IfSome c.label (λ l. bound_to w.labels c.by l ≡ None)

    pub addressed_there : (c : LineCall) → IsFormedCall c → IfOk (addressed w c) (IsCalled c)
    unfolding addressed
    addressed_there c is =
        after_known (IsCalled c) (label_is_free w c.by c.label) _ (λ free.
        after_has (IsHanded w) (IsCalled c) (value_at w c.by c.on) _ (value_there c.by c.on) (λ on at.
        after_has (AreLoose w 0) (IsCalled c) (resolved_all w c.by c.arguments) _ (all_there c.by 0 c.arguments is.arguments) (λ args loose.
        after_need (IsCalled c) (nat_le (items_nesting args) most_nested) _ _ (λ low.
        after_wanted (IsCalled c) (object_of on) _ _ (λ target found.
        record {
          addressed_to = record { target = object_there on target found at; arguments = listed_there args (leb-true _ _ low) loose };
          free = free_there c.by c.label free;
        })))))

    pub sent_there : (s : Send) → IsSend w s → IfOk (sent_to w s) IsAddressed
    unfolding sent_to
    sent_there s is =
        after_has (IsHanded w) IsAddressed (found_or_refused [] (followed (promise_states w) (trees.object s.target))) _ (refused_has (IsHanded w) [] _ (met (trees.object s.target) is.target)) (λ on at.
        after_wanted IsAddressed (object_of on) _ _ (λ target found. record { target = object_there on target found at; arguments = is.arguments }))

    pub record IsGift (g : LineGift) (t : Tree) : Type 0 where
      pub handed : IsHanded w t
      pub free : bound_to w.labels g.to g.label ≡ None

    pub gift_there : (g : LineGift) → IfOk (gift_of w g) (IsGift g)
    unfolding gift_of
    gift_there g =
        after_known (IsGift g) (label_is_free w g.to (Some g.label)) _ (λ free.
        weaker_ok (IsHanded w) (IsGift g) (value_at w g.by g.given) (λ t h. record { handed = h; free = free_there g.to (Some g.label) free }) (value_there g.by g.given))
