-- What the rules make by themselves refers to nothing but the module's functions, and what they make of
-- values to nothing that the values don't refer to: so each object that an evaluation shows was handed to it.
use Rattle.std.proofs.Common.{ℕ, List, [], ◌∷◌, ◌++◌, map, inl, inr, refl, subst, length}
use Rattle.host_data.specs.Tree.{Tree, null, boolean, number, text, array, fields, object, function, Items, no_items, item, Fields, no_fields, field}
use Rattle.host_data.specs.declared.data.Obj.{Obj}
use Rattle.jessie_values.specs.jessie_grammar.Syntax.{Routine}
use Rattle.jessie_semantics.specs.Play.{Reply, given, refused, Exchange, Play, after, Follows, replies}
use Rattle.jessie_semantics.specs.Rules.{play}
use Rattle.jessie_semantics.specs.Keeping.{Known, to_object, to_function, Within, ItemsWithin, FieldsWithin, AllHave, ReplyHas, RepliesHave, NextHas, FunctionsKnown, Occurs, OccursItems, OccursFields, OccursAny, Handed, reply_tree, handed, Licensed}
use Rattle.jessie_semantics.proofs.Safe.{safe_after, play_safe}
use Rattle.jessie_semantics.proofs.Within.{closed_within}
use Rattle.jessie_semantics.proofs.Writes.{AnyName, any_names}

-- what a tree holds stands in it

mutual
  pub held : (K : Known) (t : Tree) → ((o : Obj) → Occurs o t → K (to_object o)) → ((f : List ℕ) → K (to_function f)) → Within K t
  held K null h g = tt
  held K (boolean b) h g = tt
  held K (number z) h g = tt
  held K (text t) h g = tt
  held K (array ts) h g = held_items K ts h g
  held K (fields fs) h g = held_fields K fs h g
  held K (object o) h g = h o refl
  held K (function f) h g = g f

  held_items : (K : Known) (ts : Items) → ((o : Obj) → OccursItems o ts → K (to_object o)) → ((f : List ℕ) → K (to_function f)) → ItemsWithin K ts
  held_items K no_items h g = tt
  held_items K (item t ts) h g = (held K t (λ o i. h o (inl i)) g, held_items K ts (λ o i. h o (inr i)) g)

  held_fields : (K : Known) (fs : Fields) → ((o : Obj) → OccursFields o fs → K (to_object o)) → ((f : List ℕ) → K (to_function f)) → FieldsWithin K fs
  held_fields K no_fields h g = tt
  held_fields K (field x t fs) h g = (held K t (λ o i. h o (inl i)) g, held_fields K fs (λ o i. h o (inr i)) g)

pub held_all : (K : Known) (vs : List Tree) → ((o : Obj) → OccursAny o vs → K (to_object o)) → ((f : List ℕ) → K (to_function f)) → AllHave (Within K) vs
held_all K [] h g = tt
held_all K (v ∷ vs) h g = (held K v (λ o i. h o (inl i)) g, held_all K vs (λ o i. h o (inr i)) g)

parted : (W : Tree → Type 0) (vs ws : List Tree) → AllHave W (vs ++ ws) → AllHave W vs × AllHave W ws
parted W [] ws h = (tt, h)
parted W (v ∷ vs) ws h = let r = parted W vs ws h.1 in ((h.0, r.0), r.1)

replies_held : (W : Tree → Type 0) (rs : List Reply) → AllHave W (map reply_tree rs) → RepliesHave W rs
replies_held W [] h = tt
replies_held W (given v ∷ rs) h = (h.0, replies_held W rs h.1)
replies_held W (refused v ∷ rs) h = (h.0, replies_held W rs h.1)

pub reply_all : (W : Tree → Type 0) → ((t : Tree) → W t) → (r : Reply) → ReplyHas W r
reply_all W h (given v) = h v
reply_all W h (refused v) = h v

pub all_functions : (K : Known) → ((f : List ℕ) → K (to_function f)) → (rs : List Routine) → FunctionsKnown K rs
all_functions K h [] = tt
all_functions K h (r ∷ rs) = (h r.name, all_functions K h rs)

pub licence : (rs : List Routine) (variables : List (List ℕ)) (f : List ℕ) (vs values : List Tree) (meter : ℕ) (answers : List Reply)
    → NextHas (Within (Handed (handed vs values answers))) (length variables) (after (play rs variables f vs values meter) answers)
licence rs variables f vs values meter answers =
    let K = Handed (handed vs values answers) in
    let all = held_all K (handed vs values answers) (λ o i. i) (λ f. tt) in
    let parts = parted (Within K) vs _ all in
    let rest = parted (Within K) values (map reply_tree answers) parts.1 in
    let p = play rs variables f vs values meter in
    safe_after (Within K) (length variables) meter 0 p answers
    (play_safe (Within K) (length variables) meter AnyName rs (closed_within K rs (all_functions K (λ f. tt) rs)) (any_names rs) variables f vs values parts.0 rest.0 refl) (replies_held (Within K) answers rest.1)

pub licensed : {W : Type 0} {step : W → Exchange → W → Type 0} {old new : W} {r : Play} (rs : List Routine) (variables : List (List ℕ)) (f : List ℕ) (vs values : List Tree) (meter : ℕ)
    → Follows step (play rs variables f vs values meter) old new r → Licensed step old new vs values (length variables) r
licensed rs variables f vs values meter h = record {
  since = h.since;
  answered = h.answered;
  asks = λ before x rest e. subst (λ p. NextHas (Within (Handed (handed vs values (replies before)))) (length variables) p) (h.asks before x rest e).1 (licence rs variables f vs values meter (replies before));
  ends = subst (λ p. NextHas (Within (Handed (handed vs values (replies h.since)))) (length variables) p) h.ends (licence rs variables f vs values meter (replies h.since));
}
