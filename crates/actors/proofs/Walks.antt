-- Walking the steps of a path, one after another.
use Rattle.std.proofs.Common.{◌≡◌, ℕ, ◌+◌, List, [], ◌∷◌, length, get_or, MatchOption, Bool, true, false, cond, Option, Some, None, IsSome, Result, Ok, Err, codes, refl, sym, ap, ◌∙◌, Bor, arith, eqb}
use Rattle.std.specs.List.{slice_split, count_by}
use Rattle.std.specs.Option.{ok_or, option_map_or}
use Rattle.std.specs.Str.{bytes_eq}
use Rattle.std.proofs.lemmas.Bool.{ne_eqb}
use Rattle.std.proofs.lemmas.List.{get_or_default}
use Rattle.std.proofs.lemmas.List.Splits.{length-slice_split, slice_split_at, slice_split_none}
use Rattle.std.proofs.lemmas.Str.Pattern.{IsSplitOnceResult, split_parts}
use Rattle.promise_store.specs.host_data.Tree.{Tree, object}
use Rattle.promise_store.specs.host_data.declared.data.Obj.{Obj}
use Rattle.promise_store.specs.States.{StateView, is_promise_kind}
use Rattle.actors.specs.Labels.{Bound, label_in, service, service_of}
use Rattle.actors.specs.Paths.{and_then, followed, part_at, part_met, stands_at, steps_behind, steps_of, stood, walked, walked_from}
use Rattle.promise_store.specs.host_data.declared.data.ObjKind.TheVariants.{Ertp, Zoe, Timer}
use Rattle.actors.specs.declared.paths.Stands.{Stands}
use Rattle.actors.specs.declared.paths.Stands.TheVariants.{Service}
use Rattle.actors.specs.declared.paths.ResolveFault.{ResolveFault}
use Rattle.actors.specs.declared.paths.ResolveFault.TheVariants.{UnknownName}

-- what each party has from the start is no promise
pub service_kind : (label : List ℕ) (o : Obj) → service_of label ≡ Some o → is_promise_kind o.kind ≡ false
service_kind label o h = ap kind_of (sym h) ∙ by (bytes_eq label (codes "ertp")) (bytes_eq label (codes "zoe")) (bytes_eq label (codes "timer"))
  where
    kind_of : Option Obj → Bool
    kind_of r = option_map_or (λ (x : Obj). is_promise_kind x.kind) r false

    by : (a b c : Bool) → kind_of (cond a (Some (service Ertp)) (cond b (Some (service Zoe)) (cond c (Some (service Timer)) None))) ≡ false
    by true b c = refl
    by false true c = refl
    by false false true = refl
    by false false false = refl

module _ (states : ℕ → StateView) where
  -- it has no parts
  at_object : (o : Obj) → is_promise_kind o.kind ≡ false → followed states (object o) ≡ Ok (object o)
  at_object o kind = rw kind refl

  behind_object : (o : Obj) (steps : List (List ℕ)) (n : ℕ) → is_promise_kind o.kind ≡ false → length steps ≡ n + 1 → walked states (object o) steps ≡ Err UnknownName
  behind_object o [] n kind e = absurd (omega (arith, e))
  behind_object o (step ∷ steps) n kind e = ap (λ r. and_then (and_then r (λ met. ok_or (part_at met step) UnknownName)) (λ part. walked states part steps)) (at_object o kind)

  pub service_stands : (label : List ℕ) (o : Obj) (left : Option (Bor (List ℕ))) (r : Result Stands ResolveFault) → service_of label ≡ Some o
      → (left ≡ None → r ≡ Ok (Service o)) → (IsSome left → r ≡ Err UnknownName) → stood r ≡ walked states (object o) (steps_behind left)
  service_stands label o None r h none some = ap stood (none refl) ∙ sym (at_object o (service_kind label o h))
  service_stands label o (Some path) r h none some =
      ap stood (some refl) ∙ sym (behind_object o (steps_of path.now) (count_by (λ b. eqb b 46) path.now) (service_kind label o h) (length-slice_split (λ b. eqb b 46) path.now))

  -- what stands at a path, from what stands under its label
  module _ (bs : List Bound) (party path label : List ℕ) (behind : List (List ℕ)) (e : steps_of path ≡ label ∷ behind) where
    pub from_service : (o : Obj) → service_of label ≡ Some o → stands_at states bs party path ≡ walked states (object o) behind
    from_service o h =
        ap (walked_from states bs party) e
        ∙ ap (λ s. and_then (ok_or (option_map_or (λ (x : Obj). Some (object x)) s (label_in party label bs)) UnknownName) (λ t. walked states t behind)) h

    pub from_bound : (there : Option Tree) → service_of label ≡ None → there ≡ label_in party label bs
        → stands_at states bs party path ≡ and_then (ok_or there UnknownName) (λ t. walked states t behind)
    from_bound there h found =
        ap (walked_from states bs party) e
        ∙ ap (λ s. and_then (ok_or (option_map_or (λ (x : Obj). Some (object x)) s (label_in party label bs)) UnknownName) (λ t. walked states t behind)) h
        ∙ ap (λ there. and_then (ok_or there UnknownName) (λ t. walked states t behind)) (sym found)

  -- a step more, and the step at which the walk ends
  pub walked_on : (t part : Tree) (path step : List ℕ) (behind : List (List ℕ)) → steps_of path ≡ step ∷ behind → Ok part ≡ part_met states t step
      → walked states t (steps_of path) ≡ walked states part behind
  walked_on t part path step behind e met = ap (walked states t) e ∙ ap (λ r. and_then r (λ u. walked states u behind)) (sym met)

  pub walked_off : (t : Tree) (fault : ResolveFault) (path step : List ℕ) (behind : List (List ℕ)) → steps_of path ≡ step ∷ behind → Err fault ≡ part_met states t step
      → walked states t (steps_of path) ≡ Err fault
  walked_off t fault path step behind e met = ap (walked states t) e ∙ ap (λ r. and_then r (λ u. walked states u behind)) (sym met)

-- where a path is cut at its first dot, or has none
pub cut_steps : (path : List ℕ) (r : Option (Bor (List ℕ) × Bor (List ℕ))) → IsSplitOnceResult 46 path r → MatchOption r (steps_of path ≡ path ∷ []) (λ x. steps_of path ≡ x.0.now ∷ steps_of x.1.now)
cut_steps path None h =
    slice_split_none (λ b. eqb b 46) path (λ k d l. ne_eqb (get_or path k d) 46 (λ e. split_parts 46 path None h (omega arith) k l (sym (get_or_default path k d 0 l) ∙ e)))
cut_steps path (Some x) h =
    let parts = split_parts 46 path (Some x) h (omega arith) in
    ap (slice_split (λ b. eqb b 46)) parts.0
    ∙ slice_split_at (λ b. eqb b 46) x.0.now 46 x.1.now (λ k d l. ne_eqb (get_or x.0.now k d) 46 (λ e. parts.1 k l (sym (get_or_default x.0.now k d 0 l) ∙ e))) refl
