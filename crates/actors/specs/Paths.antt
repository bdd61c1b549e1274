-- What stands at a path of a party's.
use Rattle.std.specs.Prelude.{ℕ, ℤ, pos, negsuc, List, [], ◌∷◌, ◌==◌, slice_get, Option, Some, None, option_and_then, Result, Ok, Err, if◌then◌else◌, nat_lt}
use Rattle.std.specs.Borrow.{Bor}
use Rattle.std.specs.List.{slice_split}
use Rattle.std.specs.Option.{ok_or, option_map_or}
use Rattle.std.specs.Result.{result_map_both}
use Rattle.brands.specs.host_text.Numbers.{number_in}
use Rattle.promise_store.specs.host_data.Tree.{Tree, array, fields, get, listed, object}
use Rattle.promise_store.specs.host_data.View.{tree}
use Rattle.promise_store.specs.host_data.declared.data.Data.{Data}
use Rattle.promise_store.specs.States.{StateView, broken, follows, is_promise_kind, ok, pending, settled}
use Rattle.promise_store.specs.Turns.{Store, state_at}
use Rattle.actors.specs.Labels.{Bound, bound_to}
use Rattle.actors.specs.declared.paths.Stands.{Stands}
use Rattle.actors.specs.declared.paths.Stands.TheVariants as variant
use Rattle.actors.specs.declared.paths.ResolveFault.{ResolveFault}
use Rattle.actors.specs.declared.paths.ResolveFault.TheVariants.{Broken, Pending, UnknownName}

-- what stands between the dots of a path
abbrev pub steps_of : List ℕ → List (List ℕ)
steps_of path = slice_split (λ b. b == 46) path

-- the steps of what is left of a path, where something is
abbrev pub steps_behind : Option (Bor (List ℕ)) → List (List ℕ)
steps_behind left = option_map_or (λ path. steps_of path.now) left []

-- what is found, or why nothing is
abbrev pub Found : Type 0
Found = Result Tree ResolveFault

abbrev pub found : Result (Bor Data) ResolveFault → Found
found r = result_map_both (λ d. tree d.now) (λ f. f) r

abbrev pub stands : Stands → Tree
stands (variant.Service o) = object o
stands (variant.Data d) = tree d.now

abbrev pub stood : Result Stands ResolveFault → Found
stood r = result_map_both stands (λ f. f) r

abbrev pub and_then : Found → (Tree → Found) → Found
and_then (Ok t) next = next t
and_then (Err f) next = Err f

-- ---- the part that a step names

-- the place in an array that a step writes
abbrev pub place_of : ℤ → Option ℕ
place_of (pos n) = Some n
place_of (negsuc n) = None

abbrev pub item_at : List Tree → List ℕ → Option Tree
item_at ts step = option_and_then (λ n. slice_get ts n) (option_and_then place_of (number_in step))

-- the field of a record, or the part of an array
abbrev pub part_at : Tree → List ℕ → Option Tree
part_at (fields fs) step = get step fs
part_at (array ts) step = item_at (listed ts) step
part_at _ step = None

-- ---- promises that are met

-- what a promise is; one that wasn't made is pending
abbrev pub states_in : {R : Type 0} → Store R → ℕ → StateView
states_in s n = if nat_lt n s.links.made then state_at s n else pending

-- what the promise n, which is in this state, was fulfilled with
abbrev pub fulfilled : ℕ → StateView → Found
fulfilled n pending = Err Pending
fulfilled n (follows q) = Err Pending
fulfilled n (settled (ok t)) = Ok t
fulfilled n (settled (broken t)) = Err (Broken n)

module _ (states : ℕ → StateView) where
  -- a promise is followed to what it was fulfilled with
  abbrev pub followed : Tree → Found
  followed (object o) = if is_promise_kind o.kind then fulfilled o.number (states o.number) else Ok (object o)
  followed t = Ok t

  -- the part that a step names of what is met
  abbrev pub part_met : Tree → List ℕ → Found
  part_met t step = and_then (followed t) (λ met. ok_or (part_at met step) UnknownName)

  -- what is met at the end of the steps
  abbrev pub walked : Tree → List (List ℕ) → Found
  walked t [] = followed t
  walked t (step ∷ steps) = and_then (part_met t step) (λ part. walked part steps)

  -- what is met at the end of the steps from a label of the party's
  abbrev pub walked_from : List Bound → List ℕ → List (List ℕ) → Found
  walked_from bs party [] = Err UnknownName
  walked_from bs party (label ∷ steps) = and_then (ok_or (bound_to bs party label) UnknownName) (λ whole. walked whole steps)

  -- what stands at a path of the party's, where promises are in these states
  abbrev pub stands_at : List Bound → List ℕ → List ℕ → Found
  stands_at bs party path = walked_from bs party (steps_of path)
