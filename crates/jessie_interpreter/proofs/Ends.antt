-- The whole evaluation: where it starts, and the values of the state variables that it leaves.
use Rattle.std.proofs.Common.{◌≡◌, ℕ, zero, suc, ◌+◌, ◌≤◌, List, [], ◌∷◌, Option, Some, None, refl, sym, ap, ◌∙◌, length, arith}
use Rattle.std.specs.Prelude.{slice_set}
use Rattle.jessie_machine.specs.host_data.Tree.{Tree, null}
use Rattle.jessie_machine.specs.host_data.View.{tree, trees, named_trees}
use Rattle.jessie_machine.specs.host_data.declared.data.Data.{Data}
use Rattle.jessie_machine.specs.jessie_grammar.Syntax.{Routine}
use Rattle.jessie_machine.specs.jessie_semantics.Play.{Exchange}
use Rattle.jessie_machine.specs.jessie_semantics.Actions.{State}
use Rattle.jessie_machine.specs.jessie_semantics.Rules.{calls_of, finish, pairs, play, values_in}
use Rattle.jessie_machine.specs.jessie_semantics.Runs.{Leads, Come, resume, IsFinished, Runs}
use Rattle.jessie_machine.proofs.jessie_semantics.Plays.{leads_from}
use Rattle.jessie_machine.specs.Machine.{current, changes, or_else, head_or, tail_of}
use Rattle.jessie_interpreter.specs.Outcomes.{kept, kept_at}

-- at the start no state variable was given a value

current_first : (xs : List (List ℕ)) (vs : List Tree) → current xs vs [] ≡ pairs xs vs
current_first [] vs = refl
current_first (x ∷ xs) [] = ap (λ r. (x, null) ∷ r) (current_first xs [])
current_first (x ∷ xs) (v ∷ vs) = ap (λ r. (x, v) ∷ r) (current_first xs vs)

globals_first : (xs : List (List ℕ)) (here old : List Data) (changed : List (Option Data)) → here ≡ old → changed ≡ [] → current xs (trees here) (changes changed) ≡ pairs xs (trees old)
globals_first xs here old changed q r = ap (λ l. current xs (trees l) (changes changed)) q ∙ (ap (λ c. current xs (trees old) (changes c)) r ∙ current_first xs (trees old))

pub evaluated : {W : Type 0} {step : W → Exchange → W → Type 0} {v w : W} (rs : List Routine) (xs : List (List ℕ)) (f : List ℕ) (vs : List Tree) (locals : List (List ℕ × Data)) (here old : List Data) (changed : List (Option Data)) (meter : ℕ) (c : Come Tree) (u : State)
    → locals ≡ [] → here ≡ old → changed ≡ [] → IsFinished c → Runs step v w (calls_of rs 32 f vs) (record { locals = named_trees locals; globals = current xs (trees here) (changes changed); meter = meter }) c u
    → Leads step v w (play rs xs f vs (trees old) meter) (resume finish c u)
evaluated rs xs f vs locals here old changed meter c u p q r z h =
    leads_from (ap (λ l. calls_of rs 32 f vs (record { locals = named_trees l; globals = pairs xs (trees old); meter = meter }) finish) (sym p)
    ∙ ap (λ g. calls_of rs 32 f vs (record { locals = named_trees locals; globals = g; meter = meter }) finish) (sym (globals_first xs here old changed q r))) (h.goes z finish)

-- at the end each has the value that it was given, if any

trees_length : (ds : List Data) → length (trees ds) ≡ length ds
trees_length [] = refl
trees_length (d ∷ ds) = ap suc (trees_length ds)

values_kept : (xs : List (List ℕ)) (vs : List Tree) (cs : List (Option Tree)) → length vs ≡ length xs → values_in (current xs vs cs) ≡ kept vs cs
values_kept [] [] cs h = refl
values_kept [] (v ∷ vs) cs h = absurd (omega (arith, h))
values_kept (x ∷ xs) [] cs h = absurd (omega (arith, h))
values_kept (x ∷ xs) (v ∷ vs) cs h = ap (λ r. or_else (head_or None cs) v ∷ r) (values_kept xs vs (tail_of cs) (omega (arith, h)))

pub ended_values : (xs : List (List ℕ)) (here old new : List Data) (cs : List (Option Data)) → here ≡ old → length old ≡ length xs → trees new ≡ kept (trees old) (changes cs) → values_in (current xs (trees here) (changes cs)) ≡ trees new
ended_values xs here old new cs q h e = ap (λ l. values_in (current xs (trees l) (changes cs))) q ∙ (values_kept xs (trees old) (changes cs) (trees_length old ∙ h) ∙ sym e)

kept_length : (vs : List Tree) (cs : List (Option Tree)) → length (kept vs cs) ≡ length vs
kept_length [] cs = refl
kept_length (v ∷ vs) cs = ap suc (kept_length vs (tail_of cs))

pub count_kept : (new old : List Data) (cs : List (Option Tree)) → trees new ≡ kept (trees old) cs → length new ≡ length old
count_kept new old cs e = sym (trees_length new) ∙ (ap length e ∙ (kept_length (trees old) cs ∙ trees_length old))

-- one value after another

pub kept_none : (vs : List Tree) (i : ℕ) → kept_at vs i None ≡ vs
kept_none [] i = refl
kept_none (v ∷ vs) zero = refl
kept_none (v ∷ vs) (suc i) = ap (λ r. v ∷ r) (kept_none vs i)

pub set_kept : (ds : List Data) (i : ℕ) (d : Data) → trees (slice_set ds i d) ≡ kept_at (trees ds) i (Some (tree d))
set_kept [] i d = refl
set_kept (x ∷ ds) zero d = refl
set_kept (x ∷ ds) (suc i) d = ap (λ r. tree x ∷ r) (set_kept ds i d)

-- the changes from some place on
abbrev pub kept_from : List Tree → ℕ → List (Option Tree) → List Tree
kept_from vs zero cs = kept vs cs
kept_from [] (suc i) cs = []
kept_from (v ∷ vs) (suc i) cs = v ∷ kept_from vs i cs

kept_more : (vs : List Tree) (i : ℕ) (c : Option Tree) (cs : List (Option Tree)) → kept_from vs i (c ∷ cs) ≡ kept_from (kept_at vs i c) (suc i) cs
kept_more [] zero c cs = refl
kept_more (v ∷ vs) zero c cs = refl
kept_more [] (suc i) c cs = refl
kept_more (v ∷ vs) (suc i) c cs = ap (λ r. v ∷ r) (kept_more vs i c cs)

one_more : (n i : ℕ) → n ≡ i + 1 → suc i ≡ n
one_more n i e = omega (arith, e)

pub kept_next : (ds new : List Data) (i n : ℕ) (cs : List (Option Tree)) (all : List Tree) (o : Option Tree) → n ≡ i + 1 → trees new ≡ kept_at (trees ds) i o → kept_from (trees ds) i (o ∷ cs) ≡ all → kept_from (trees new) n cs ≡ all
kept_next ds new i n cs all o q e h = ap (λ l. kept_from l n cs) e ∙ (ap (λ n. kept_from (kept_at (trees ds) i o) n cs) (sym (one_more n i q)) ∙ (sym (kept_more (trees ds) i o cs) ∙ h))

pub kept_all : (vs : List Tree) (i : ℕ) → kept_from vs i [] ≡ vs
kept_all [] zero = refl
kept_all (v ∷ vs) zero = ap (λ r. v ∷ r) (kept_all vs zero)
kept_all [] (suc i) = refl
kept_all (v ∷ vs) (suc i) = ap (λ r. v ∷ r) (kept_all vs i)

past : (vs : List Tree) (i : ℕ) (cs : List (Option Tree)) → length vs ≤ i → kept_from vs i cs ≡ vs
past [] zero cs h = refl
past (v ∷ vs) zero cs h = absurd (omega arith)
past [] (suc i) cs h = refl
past (v ∷ vs) (suc i) cs h = ap (λ r. v ∷ r) (past vs i cs (omega arith))

pub kept_past : (ds : List Data) (i : ℕ) (cs : List (Option Tree)) → length ds ≤ i → kept_from (trees ds) i cs ≡ trees ds
kept_past ds i cs h = past (trees ds) i cs (omega (arith, trees_length ds))
