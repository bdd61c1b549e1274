-- Actions carried out, and put together.
use Rattle.std.proofs.Common.{◌≡◌, ℕ, ◌+◌, List, [], ◌∷◌, ◌++◌, refl, sym, ap, subst, ◌∙◌, length, take, Option}
use Rattle.std.specs.Prelude.{Ok, Err}
use Rattle.host_data.specs.Tree.{Tree, items_size}
use Rattle.host_data.specs.View.{items_of}
use Rattle.jessie_values.specs.declared.reasons.Reason.{Reason}
use Rattle.jessie_values.specs.Reasons.{bad_step}
use Rattle.refusals.specs.Codes.{refusal_tree}
use Rattle.refusals.specs.declared.codes.Refusal.{Refusal}
use Rattle.jessie_semantics.specs.Play.{Call, Exchange}
use Rattle.jessie_semantics.specs.Actions.{Bindings, State, went, Then, Action, pure, throw, spend, onward, ◌>>=◌, ◌>>◌, otherwise, caught, charge, ask, metered, first_of, look, bind, named, scoped, within}
use Rattle.jessie_semantics.specs.Rules.{worked, counted, host, heard}
use Rattle.jessie_semantics.specs.Runs.{Halt, throws, spends, unfinished, Come, came, halted, resume, IsFinished, Runs, Reaches, Computes}
use Rattle.jessie_semantics.proofs.Plays.{leads_self, leads_both, leads_from, leads_to, leads_ask}

pub computed : {W A : Type 0} {step : W → Exchange → W → Type 0} {w : W} {a : Action A} {s u : State} {c : Come A} → Computes a s c u → Runs step w w a s c u
computed {w = w} h = record { goes = λ z k. leads_from (h.does z k) (leads_self w _) }

pub pure_computes : {A : Type 0} (x : A) (s : State) → Computes (pure x) s (came x) s
unfolding pure
pure_computes x s = record { does = λ f k. refl }

pub throw_computes : {A : Type 0} (t : Tree) (s : State) → Computes {A = A} (throw t) s (halted (throws t)) s
unfolding throw
throw_computes t s = record { does = λ f k. refl }

pub spend_computes : {A : Type 0} (s u : State) → Computes {A = A} spend s (halted spends) u
unfolding spend
spend_computes s u = record { does = λ f k. refl }

pub worked_ok : {A : Type 0} (x : A) (s : State) → Computes (worked (Ok x)) s (came x) s
unfolding worked pure
worked_ok x s = record { does = λ f k. refl }

pub worked_err : {A : Type 0} (r : Reason) (s : State) → Computes {A = A} (worked (Err r)) s (halted (throws (bad_step r))) s
unfolding worked throw
worked_err r s = record { does = λ f k. refl }

-- the first comes to a value, and the rest goes on with it
pub then_runs : {W A B : Type 0} {step : W → Exchange → W → Type 0} {u v w : W} {a : Action A} (g : A → Action B) {x : A} {s t z : State} {c : Come B}
    → Runs step u v a s (came x) t → Runs step v w (g x) t c z → Runs step u w (a >>= g) s c z
unfolding ◌>>=◌
then_runs g h i = record { goes = λ f k. leads_both (h.goes tt (onward g k)) (i.goes f k) }

passed : {A B : Type 0} (g : A → Action B) (k : Then B) (h : Halt) (s : State) → resume (onward g k) (halted h) s ≡ resume k (halted h) s
passed g k (throws t) s = refl
passed g k spends s = refl
passed g k unfinished s = refl

still : (A B : Type 0) (h : Halt) → IsFinished {A = B} (halted h) → IsFinished {A = A} (halted h)
still A B (throws t) z = tt
still A B spends z = tt
still A B unfinished z = absurd z

-- the first comes to none, and the rest is passed over
pub stop_runs : {W A B : Type 0} {step : W → Exchange → W → Type 0} {u v : W} {a : Action A} (g : A → Action B) {h : Halt} {s t : State}
    → Runs step u v a s (halted h) t → Runs step u v (a >>= g) s (halted h) t
unfolding ◌>>=◌
stop_runs {W} {A} {B} g {h = h} {t = t} r = record { goes = λ z k. leads_to (r.goes (still A B h z) (onward g k)) (passed g k h t) }

pub then_computes : {A B : Type 0} {a : Action A} (g : A → Action B) {x : A} {s u w : State} {c : Come B}
    → Computes a s (came x) u → Computes (g x) u c w → Computes (a >>= g) s c w
unfolding ◌>>=◌
then_computes g h i = record { does = λ z k. h.does tt (onward g k) ∙ i.does z k }

pub stop_computes : {A B : Type 0} {a : Action A} (g : A → Action B) {h : Halt} {s u : State}
    → Computes a s (halted h) u → Computes (a >>= g) s (halted h) u
unfolding ◌>>=◌
stop_computes {A} {B} g {h = h} {u = u} r = record { does = λ z k. r.does (still A B h z) (onward g k) ∙ passed g k h u }

-- the names of a block
abbrev pub left : State → State → State
left s u = record u { locals = take (length s.locals) u.locals }

out : {A : Type 0} (s : State) (c : Come A) (z : IsFinished c) (k : Then A) (u : State) → resume (λ f t. k f (left s t)) c u ≡ resume k c (left s u)
out s (came a) z k u = refl
out s (halted (throws t)) z k u = refl
out s (halted spends) z k u = refl
out s (halted unfinished) z k u = absurd z

pub scoped_runs : {W A : Type 0} {step : W → Exchange → W → Type 0} {v w : W} {a : Action A} {s u : State} {c : Come A} → Runs step v w a s c u → Runs step v w (scoped a) s c (left s u)
unfolding scoped
scoped_runs {s = s} {u = u} {c = c} r = record { goes = λ z k. leads_to (r.goes z (λ f t. k f (left s t))) (out s c z k u) }

-- the names of a call
abbrev pub back : State → State → State
back s u = record u { locals = s.locals }

returned_to : {A : Type 0} (s : State) (c : Come A) (z : IsFinished c) (k : Then A) (u : State) → resume (λ f t. k f (back s t)) c u ≡ resume k c (back s u)
returned_to s (came a) z k u = refl
returned_to s (halted (throws t)) z k u = refl
returned_to s (halted spends) z k u = refl
returned_to s (halted unfinished) z k u = absurd z

pub within_runs : {W A : Type 0} {step : W → Exchange → W → Type 0} {v w : W} {a : Action A} {ls : Bindings} {s u : State} {c : Come A}
    → Runs step v w a (record s { locals = ls }) c u → Runs step v w (within ls a) s c (back s u)
unfolding within
within_runs {s = s} {u = u} {c = c} r = record { goes = λ z k. leads_to (r.goes z (λ f t. k f (back s t))) (returned_to s c z k u) }

-- what is thrown is caught, and else nothing
pub caught_came : {W A : Type 0} {step : W → Exchange → W → Type 0} {v w : W} {a : Action A} (f : Tree → Action A) {x : A} {s u : State} → Runs step v w a s (came x) u → Runs step v w (caught a f) s (came x) u
unfolding caught
caught_came f r = record { goes = λ z k. r.goes tt (otherwise f k) }

pub caught_spends : {W A : Type 0} {step : W → Exchange → W → Type 0} {v w : W} {a : Action A} (f : Tree → Action A) {s u : State} → Runs step v w a s (halted spends) u → Runs step v w (caught a f) s (halted spends) u
unfolding caught
caught_spends f r = record { goes = λ z k. r.goes tt (otherwise f k) }

pub caught_throws : {W A : Type 0} {step : W → Exchange → W → Type 0} {v w z : W} {a : Action A} (f : Tree → Action A) {t : Tree} {c : Come A} {s u x : State}
    → Runs step v w a s (halted (throws t)) u → Runs step w z (f t) u c x → Runs step v z (caught a f) s c x
unfolding caught
caught_throws f r q = record { goes = λ z k. leads_both (r.goes tt (otherwise f k)) (q.goes z k) }

pub ask_runs : {W : Type 0} {step : W → Exchange → W → Type 0} {v w : W} (x : Exchange) (s : State) → step v x w → Runs step v w (ask x.call) s (came x.reply) s
unfolding ask
ask_runs x s h = record { goes = λ z k. leads_ask x (λ r. k (went r) s) h }

pub metered_runs : {W A : Type 0} {step : W → Exchange → W → Type 0} {v w : W} (f : ℕ → Action A) {s u : State} {c : Come A} → Runs step v w (f s.meter) s c u → Runs step v w (metered f) s c u
unfolding metered
metered_runs f r = record { goes = λ z k. r.goes z k }

-- the same action by another of its names
pub runs_as : {W A : Type 0} {step : W → Exchange → W → Type 0} {v w : W} {a b : Action A} {s u : State} {c : Come A} → b ≡ a → Runs step v w a s c u → Runs step v w b s c u
runs_as {W} {A} {step} {v} {w} {a} {b} {s} {u} {c} e r = subst (λ a. Runs step v w a s c u) (sym e) r

pub runs_to : {W A : Type 0} {step : W → Exchange → W → Type 0} {v w : W} {a : Action A} {s u : State} {c d : Come A} → c ≡ d → Runs step v w a s c u → Runs step v w a s d u
runs_to {W} {A} {step} {v} {w} {a} {s} {u} e r = subst (λ c. Runs step v w a s c u) e r

pub unfinished_runs : {W A : Type 0} {step : W → Exchange → W → Type 0} {v w : W} {a : Action A} {s u : State} → Runs step v w a s (halted unfinished) u
unfinished_runs = record { goes = λ z. absurd z }

-- an action carried out in part

pub reaches_itself : {W A : Type 0} {step : W → Exchange → W → Type 0} {w : W} {a : Action A} {s : State} → Reaches step w w a s a s
reaches_itself {w = w} = record { goes = λ k. leads_self w _ }

pub reaches_as : {W A : Type 0} {step : W → Exchange → W → Type 0} {v w : W} {a b c : Action A} {s u : State} → b ≡ c → Reaches step v w a s b u → Reaches step v w a s c u
reaches_as {W} {A} {step} {v} {w} {a} {b} {c} {s} {u} e r = subst (λ b. Reaches step v w a s b u) e r

pub reaches_more : {W A B : Type 0} {step : W → Exchange → W → Type 0} {u v w : W} {a : Action B} {b : Action A} (g : A → Action B) {x : A} {s t z : State}
    → Reaches step u v a s (b >>= g) t → Runs step v w b t (came x) z → Reaches step u w a s (g x) z
unfolding ◌>>=◌
reaches_more g h i = record { goes = λ k. leads_both (h.goes k) (i.goes tt (onward g k)) }

pub reaches_runs : {W A : Type 0} {step : W → Exchange → W → Type 0} {u v w : W} {a b : Action A} {s t z : State} {c : Come A}
    → Reaches step u v a s b t → Runs step v w b t c z → Runs step u w a s c z
reaches_runs h i = record { goes = λ f k. leads_both (h.goes k) (i.goes f k) }

pub computes_as : {A : Type 0} {a b : Action A} {s u : State} {c : Come A} → b ≡ a → Computes a s c u → Computes b s c u
computes_as {s = s} {u = u} {c = c} h r = subst (λ a. Computes a s c u) (sym h) r

-- AmountMath

pub counted_ok : (v : Tree) (s : State) → Computes (counted (Ok v)) s (came v) s
unfolding counted pure
counted_ok v s = record { does = λ f k. refl }

pub counted_err : (r : Refusal) (s : State) → Computes (counted (Err r)) s (halted (throws (refusal_tree r))) s
unfolding counted throw
counted_err r s = record { does = λ f k. refl }

-- names

pub named_computes : (x : List ℕ) (other : Option Tree) (s : State) → Computes (named x other) s (came (first_of (look x s.locals) (first_of (look x s.globals) other))) s
unfolding named
named_computes x other s = record { does = λ f k. refl }

pub bind_computes : (x : List ℕ) (v : Tree) (s : State) → Computes (bind x v) s (came tt) (record s { locals = s.locals ++ (x, v) ∷ [] })
unfolding bind
bind_computes x v s = record { does = λ f k. refl }

-- a call of the host by its parts
pub host_runs : {W : Type 0} {step : W → Exchange → W → Type 0} {v w : W} (q : Call) (shown : List Tree) {s u : State} {c : Come Tree} → Runs step v w (charge (100 + items_size (items_of shown)) >> (ask q >>= λ r. heard r)) s c u → Runs step v w (host q shown) s c u
unfolding host
host_runs q shown r = record { goes = λ z k. r.goes z k }

pub bind_as : {ls : Bindings} (s : State) (x : List ℕ) (v : Tree) → ls ≡ s.locals ++ (x, v) ∷ [] → Computes (bind x v) s (came tt) (record { locals = ls; globals = s.globals; meter = s.meter })
bind_as s x v e = subst (λ ls. Computes (bind x v) s (came tt) (record { locals = ls; globals = s.globals; meter = s.meter })) (sym e) (bind_computes x v s)

pub scoped_as : {W A : Type 0} {step : W → Exchange → W → Type 0} {v w : W} {a : Action A} {ls : Bindings} {s u : State} {c : Come A}
    → ls ≡ take (length s.locals) u.locals → Runs step v w a s c u → Runs step v w (scoped a) s c (record { locals = ls; globals = u.globals; meter = u.meter })
scoped_as {W} {A} {step} {v} {w} {a} {ls} {s} {u} {c} e r = subst (λ ls. Runs step v w (scoped a) s c (record { locals = ls; globals = u.globals; meter = u.meter })) (sym e) (scoped_runs r)

pub within_as : {W A : Type 0} {step : W → Exchange → W → Type 0} {v w : W} {a : Action A} {own here out : Bindings} {s u : State} {c : Come A}
    → own ≡ here → out ≡ s.locals → Runs step v w a (record { locals = here; globals = s.globals; meter = s.meter }) c u
    → Runs step v w (within own a) s c (record { locals = out; globals = u.globals; meter = u.meter })
within_as {W} {A} {step} {v} {w} {a} {own} {here} {out} {s} {u} {c} e f r =
    subst (λ ls. Runs step v w (within own a) s c (record { locals = ls; globals = u.globals; meter = u.meter })) (sym f)
    (within_runs (subst (λ ls. Runs step v w a (record { locals = ls; globals = s.globals; meter = s.meter }) c u) (sym e) r))

pub reaches_metered : {W A : Type 0} {step : W → Exchange → W → Type 0} {w : W} (f : ℕ → Action A) (n : ℕ) (s : State) → s.meter ≡ n → Reaches step w w (metered f) s (f n) s
unfolding metered
reaches_metered {w = w} f n s e = record { goes = λ k. leads_to (leads_self w _) (ap (λ n. f n s k) e) }
