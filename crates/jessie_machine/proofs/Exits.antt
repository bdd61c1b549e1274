-- Where a part didn't come to a value.
use Rattle.std.proofs.Common.{◌≡◌, sym, ap, subst}
use Rattle.std.specs.Prelude.{Result, Ok, Err, IsErrAnd}
use Rattle.jessie_semantics.specs.host_data.Tree.{Tree}
use Rattle.jessie_index.specs.jessie_values.declared.reasons.Reason.{Reason}
use Rattle.jessie_index.specs.jessie_values.Reasons.{bad_step}
use Rattle.jessie_index.specs.jessie_values.Outcomes.{Fails}
use Rattle.jessie_index.specs.jessie_values.declared.reasons.ValueFault.{ValueFault}
use Rattle.jessie_index.specs.jessie_values.declared.reasons.ValueFault.TheVariants as fault
use Rattle.jessie_semantics.specs.refusals.Codes.{refusal_tree}
use Rattle.jessie_semantics.specs.refusals.declared.codes.Refusal.{Refusal}
use Rattle.jessie_semantics.specs.Play.{Exchange}
use Rattle.jessie_semantics.specs.Actions.{State, Action, ◌>>=◌, pure, throw}
use Rattle.jessie_semantics.specs.Rules.{worked, counted}
use Rattle.jessie_semantics.specs.Runs.{Halt, throws, spends, unfinished, came, halted, Runs, Computes}
use Rattle.jessie_semantics.proofs.Runs.{stop_runs, stop_computes, unfinished_runs, pure_computes, throw_computes, worked_ok, worked_err, counted_ok}
use Rattle.jessie_machine.specs.Stops.{IsThrown, come, fault_halt, halt}
use Rattle.jessie_machine.specs.declared.stop.Stop.{Stop}
use Rattle.jessie_machine.specs.declared.stop.Stop.TheVariants.{NoMemory}

come_err : {T A : Type 0} (see : T → A) (r : Result T Stop) (e : Stop) → IsErrAnd r (λ x. x ≡ e) → come see r ≡ halted (halt e)
come_err see (Ok x) e h = absurd h
come_err see (Err x) e h = ap (λ z. halted (halt z)) h

pub stops_here : {T A B : Type 0} {a : Action A} {s u : State} (see : T → B) (r : Result T Stop) (e : Stop) (g : A → Action B) → IsErrAnd r (λ x. x ≡ e)
    → Computes a s (halted (halt e)) u → Computes (a >>= g) s (come see r) u
stops_here {a = a} {s = s} {u = u} see r e g h c = subst (λ z. Computes (a >>= g) s z u) (sym (come_err see r e h)) (stop_computes g c)

-- an action stops where its first part does
pub stops : {W T A B : Type 0} {step : W → Exchange → W → Type 0} {v w : W} {a : Action A} {s u : State} (see : T → B) (r : Result T Stop) (e : Stop) (g : A → Action B) → IsErrAnd r (λ x. x ≡ e)
    → Runs step v w a s (halted (halt e)) u → Runs step v w (a >>= g) s (come see r) u
stops {step = step} {v = v} {w = w} {a = a} {s = s} {u = u} see r e g h c = subst (λ z. Runs step v w (a >>= g) s z u) (sym (come_err see r e h)) (stop_runs g c)

-- for want of memory
pub wants : {W T A : Type 0} {step : W → Exchange → W → Type 0} {v w : W} {a : Action A} {s u : State} (see : T → A) (r : Result T Stop) → IsErrAnd r (λ x. x ≡ NoMemory) → Runs step v w a s (come see r) u
wants {step = step} {v = v} {w = w} {a = a} {s = s} {u = u} see r h = subst (λ z. Runs step v w a s z u) (sym (come_err see r NoMemory h)) unfinished_runs

-- a bad step
pub bad_computes : {A : Type 0} {s : State} (e : Stop) (r : Reason) → halt e ≡ throws (bad_step r) → Computes {A = A} (throw (bad_step r)) s (halted (halt e)) s
bad_computes {A} {s} e r q = subst (λ h. Computes {A = A} (throw (bad_step r)) s (halted h) s) (sym q) (throw_computes (bad_step r) s)

-- a pure function's result
pub worked_as_ok : {A : Type 0} {s : State} (r : Result A Reason) (x : A) → r ≡ Ok x → Computes (worked r) s (came x) s
worked_as_ok {A} {s} r x e = subst (λ r. Computes (worked r) s (came x) s) (sym e) (worked_ok x s)

pub worked_as_err : {A : Type 0} {s : State} (r : Result A Reason) (e : Stop) (why : Reason) → r ≡ Err why → halt e ≡ throws (bad_step why) → Computes (worked r) s (halted (halt e)) s
worked_as_err {A} {s} r e why q h = subst (λ x. Computes {A = A} (worked r) s (halted x) s) (sym h) (subst (λ r. Computes (worked r) s (halted (throws (bad_step why))) s) (sym q) (worked_err why s))

pub pure_as : {A : Type 0} {s : State} (x y : A) → x ≡ y → Computes (pure x) s (came y) s
pure_as {s = s} x y e = subst (λ y. Computes (pure x) s (came y) s) e (pure_computes x s)

pub unfinished_computes : {A : Type 0} {a : Action A} {s u : State} → Computes a s (halted unfinished) u
unfinished_computes = record { does = λ z. absurd z }

halted_as : {A : Type 0} {a : Action A} {s : State} (h : Halt) (e : Stop) → halt e ≡ h → Computes a s (halted h) s → Computes a s (halted (halt e)) s
halted_as {A} {a} {s} h e q c = subst (λ h. Computes a s (halted h) s) (sym q) c

pub worked_as_fault : {A : Type 0} {s : State} (r : Result A Reason) (e : Stop) (f : ValueFault) → Fails f r → halt e ≡ fault_halt f → Computes (worked r) s (halted (halt e)) s
worked_as_fault r e fault.NoMemory h q = halted_as unfinished e q unfinished_computes
worked_as_fault r e (fault.BadStep why) h q = worked_as_err r e why h q

-- an answer of AmountMath
pub counted_as_ok : {s : State} (r : Result Tree Refusal) (v : Tree) → r ≡ Ok v → Computes (counted r) s (came v) s
counted_as_ok {s} r v e = subst (λ r. Computes (counted r) s (came v) s) (sym e) (counted_ok v s)

-- data that is thrown
pub thrown_computes : {A : Type 0} {s : State} (t : Tree) (h : Halt) → IsThrown t h → Computes {A = A} (throw t) s (halted h) s
thrown_computes {A} {s} t (throws u) e = subst (λ u. Computes {A = A} (throw t) s (halted (throws u)) s) (sym e) (throw_computes t s)
thrown_computes t spends e = absurd e
thrown_computes t unfinished e = unfinished_computes

-- a refusal of AmountMath that is thrown as data
pub counted_as_thrown : {s : State} (r : Result Tree Refusal) (why : Refusal) (t : Tree) (h : Halt) → r ≡ Err why → t ≡ refusal_tree why → IsThrown t h → Computes (counted r) s (halted h) s
unfolding counted
counted_as_thrown {s} r why t h e q c = subst (λ r. Computes (counted r) s (halted h) s) (sym e) (subst (λ t. Computes {A = Tree} (throw t) s (halted h) s) q (thrown_computes t h c))

pub wants_here : {T A : Type 0} {a : Action A} {s u : State} (see : T → A) (r : Result T Stop) → IsErrAnd r (λ x. x ≡ NoMemory) → Computes a s (come see r) u
wants_here {a = a} {s = s} {u = u} see r h = subst (λ z. Computes a s z u) (sym (come_err see r NoMemory h)) unfinished_computes
