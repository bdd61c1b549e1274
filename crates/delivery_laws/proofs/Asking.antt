-- A function of an instance of a good world asks the host for nothing but what its instance may name, whatever the
-- host answers of such; and so is what it comes to.
use Rattle.std.specs.List.{AllByRecursion}
use Rattle.std.proofs.Common.{◌≡◌, inl, inr, ℕ, ◌<◌, true, List, [], ◌∷◌, Some, length, refl}
use Rattle.turn_writer.specs.host_text.Words.{is_field_name}
use Rattle.delivery_turns.specs.actors.Tables.{instance_at, no_module}
use Rattle.rule_laws.specs.jessie_semantics.Form.{InForm}
use Rattle.rule_laws.specs.jessie_semantics.Keeping.{AllHave, CallHas, EndingHas, FunctionsKnown, NextHas, RepliesHave, ReplyHas, Within}
use Rattle.rule_laws.specs.jessie_semantics.Naming.{HasFieldNames, IsFieldName, RoutinesNamed}
use Rattle.rule_laws.specs.jessie_semantics.Play.{Asks, Call, Ending, Ends, Play, Reply, Spends, after, call, far, given, refused, returned, send, threw, when}
use Rattle.rule_laws.proofs.jessie_semantics.FormKept.{closed_form}
use Rattle.rule_laws.proofs.jessie_semantics.NamesKept.{closed_named}
use Rattle.rule_laws.proofs.jessie_semantics.Safe.{play_safe, safe_after}
use Rattle.rule_laws.proofs.jessie_semantics.Within.{closed_within}
use Rattle.rule_laws.proofs.jessie_semantics.Writes.{AnyName, any_names}
use Rattle.rule_laws.specs.jessie_grammar.Syntax.{Routine, routines, variable_names}
use Rattle.rule_laws.specs.jessie_grammar.declared.syntax.Module.{Module}
use Rattle.turn_writer.specs.host_data.Tree.{Tree}
use Rattle.delivery_turns.specs.world_state.Good.{IsGoodWorld, IsModule}
use Rattle.delivery_turns.specs.world_state.Known.{Grows, HasFunction, IsKnownTo, IsNamed, module_of}
use Rattle.delivery_turns.specs.world_state.Worlds.{State}
use Rattle.rule_laws.proofs.world_laws.Forms.{formed_grows, function_grows}
use Rattle.rule_laws.proofs.world_laws.Lists.{all_read}
use Rattle.delivery_turns.specs.Functions.{module_play}
use Rattle.delivery_laws.specs.Works.{Evaluates}
use Rattle.delivery_laws.proofs.Knowing.{Refers, form_of, known_of, names_of, within_of}

-- ---- facts of all values

module _ {A B : Tree → Type 0} (to : (t : Tree) → A t → B t) where
  pub all_so : (vs : List Tree) → AllHave A vs → AllHave B vs
  all_so [] h = tt
  all_so (v ∷ vs) h = (to v h.0, all_so vs h.1)

  pub reply_so : (r : Reply) → ReplyHas A r → ReplyHas B r
  reply_so (given v) h = to v h
  reply_so (refused v) h = to v h

  pub replies_so : (rs : List Reply) → RepliesHave A rs → RepliesHave B rs
  replies_so [] h = tt
  replies_so (r ∷ rs) h = (reply_so r h.0, replies_so rs h.1)

pub have_all : (P : Tree → Type 0) (vs : List Tree) → AllByRecursion P vs → AllHave P vs
have_all P [] h = tt
have_all P (v ∷ vs) h = (h.0, have_all P vs h.1)

pub all_have : (P : Tree → Type 0) (vs : List Tree) → AllHave P vs → AllByRecursion P vs
all_have P [] h = tt
all_have P (v ∷ vs) h = (h.0, all_have P vs h.1)

module _ {A B C D : Tree → Type 0} (join : (t : Tree) → A t → B t → C t → D t) where
  join_all : (vs : List Tree) → AllHave A vs → AllHave B vs → AllHave C vs → AllHave D vs
  join_all [] a b c = tt
  join_all (v ∷ vs) a b c = (join v a.0 b.0 c.0, join_all vs a.1 b.1 c.1)

  join_call : (x : Call) → CallHas A x → CallHas B x → CallHas C x → CallHas D x
  join_call (call o m vs) a b c = (join _ a.0 b.0 c.0, join_all vs a.1 b.1 c.1)
  join_call (send o m vs) a b c = (join _ a.0 b.0 c.0, join_all vs a.1 b.1 c.1)
  join_call (when o f v) a b c = (a.0, join _ a.1 b.1 c.1, join _ a.2 b.2 c.2, join _ a.3 b.3 c.3)
  join_call (far x ms v) a b c = (join _ a.0 b.0 c.0, join _ a.1 b.1 c.1)

  join_ending : (e : Ending) → EndingHas A e → EndingHas B e → EndingHas C e → EndingHas D e
  join_ending (returned v) a b c = join v a b c
  join_ending (threw v) a b c = join v a b c

  join_next : (n : ℕ) (p : Play) → NextHas A n p → NextHas B n p → NextHas C n p → NextHas D n p
  join_next n (Ends e values) a b c = (join_ending e a.0 b.0 c.0, (join_all values a.1.0 b.1.0 c.1.0, a.1.1))
  join_next n Spends a b c = tt
  join_next n (Asks x go) a b c = join_call x a b c

-- ---- functions

pub function_there : (w : State) (i : ℕ) (f : List ℕ) → IsGoodWorld w → i < length w.tables.instances → IsNamed f (routines (module_of w.tables i)) → HasFunction w.tables i f
function_there w i f good made named = record { made = made; installed = (good.instances.each i made).installed; named = named }

functions_refer : (v : State) (i : ℕ) (rs : List Routine) → ((f : List ℕ) → IsNamed f rs → HasFunction v.tables i f) → FunctionsKnown (Refers v i) rs
functions_refer v i [] h = tt
functions_refer v i (r ∷ rs) h = (h r.name (inl refl), functions_refer v i rs (λ f is. h f (inr is)))

routines_named : (rs : List Routine) → AllByRecursion (λ (r : Routine). is_field_name r.name ≡ true) rs → RoutinesNamed IsFieldName rs
routines_named [] h = tt
routines_named (r ∷ rs) h = (h.0, routines_named rs h.1)

pub module_is : (w : State) (i : ℕ) → IsGoodWorld w → i < length w.tables.instances → IsModule (module_of w.tables i)
module_is w i good made = all_read IsModule w.tables.installations (instance_at w.tables.instances i).installation no_module good.modules (good.instances.each i made).installed

-- ---- evaluations

module _ (w : State) (i : ℕ) (good : IsGoodWorld w) (made : i < length w.tables.instances) where
  abbrev m : Module
  m = module_of w.tables i

  module _ (f : List ℕ) (args values : List Tree) (meter : ℕ) (known : AllHave (IsKnownTo w i) args) (kept : AllHave (IsKnownTo w i) values) where
    next_known : (v : State) → Grows w v → (rs : List Reply) → RepliesHave (IsKnownTo v i) rs → NextHas (IsKnownTo v i) (length (variable_names m)) (after (module_play m f args values meter) rs)
    next_known v g rs h =
        let p = module_play m f args values meter in
        let n = length (variable_names m) in
        let known_then : AllHave (IsKnownTo v i) args = all_so (formed_grows w v g (Some i)) args known in
        let kept_then : AllHave (IsKnownTo v i) values = all_so (formed_grows w v g (Some i)) values kept in
        let functions : FunctionsKnown (Refers v i) (routines m) = functions_refer v i (routines m) (λ q is. function_grows w v g i q (function_there w i q good made is)) in
        let within : NextHas (Within (Refers v i)) n (after p rs) =
        safe_after (Within (Refers v i)) n meter 0 p rs
        (play_safe (Within (Refers v i)) n meter AnyName (routines m) (closed_within (Refers v i) (routines m) functions) (any_names (routines m)) (variable_names m) f args values
        (all_so (within_of v i) args known_then) (all_so (within_of v i) values kept_then) refl) (replies_so (within_of v i) rs h) in
        let form : NextHas InForm n (after p rs) =
        safe_after InForm n meter 0 p rs
        (play_safe InForm n meter AnyName (routines m) (closed_form (routines m)) (any_names (routines m)) (variable_names m) f args values
        (all_so (form_of v i) args known_then) (all_so (form_of v i) values kept_then) refl) (replies_so (form_of v i) rs h) in
        let names : NextHas HasFieldNames n (after p rs) =
        safe_after HasFieldNames n meter 0 p rs
        (play_safe HasFieldNames n meter IsFieldName (routines m) (closed_named (routines m) (routines_named (routines m) (module_is w i good made).named)) (module_is w i good made).writes (variable_names m) f args values
        (all_so (names_of v i) args known_then) (all_so (names_of v i) values kept_then) refl) (replies_so (names_of v i) rs h) in
        join_next (known_of v i) n (after p rs) within form names

    pub evaluates : Evaluates w i (length (variable_names m)) (module_play m f args values meter)
    evaluates = record { each = next_known }
