-- What each form of the contract language does, one rule for each, with its charge: 1 for each statement,
-- primary, operator and step behind an expression when it is begun, the size of a value where a literal
-- or a name is read, and what a call of the host costs. Parts are worked from left to right.
use Rattle.std.specs.Prelude.{ℕ, zero, suc, ◌+◌, List, [], ◌∷◌, ◌++◌, Bool, Option, Some, None, Result, Ok, Err, if◌then◌else◌, map, take}
use Rattle.std.specs.Str.{bytes_eq}
use Rattle.host_data.specs.Tree.{Tree, null, function, object_of, size, items_size}
use Rattle.host_data.specs.View.{items_of}
use Rattle.refusals.specs.Codes.{refusal_tree}
use Rattle.refusals.specs.declared.codes.Refusal.{Refusal}
use Rattle.jessie_values.specs.jessie_grammar.Syntax.{Term, literal, name, call, built_in, amount_math, send, listing, composed, linked, unary, chain, choice, Terms, no_terms, term, NamedTerms, no_named, named_term, Operands, no_operands, operand, Link, at_field, method, at_index, Links, no_links, link, Statement, declare_const, declare_let, assign, choose, repeat, each, give, give_nothing, raise, attempt, run, Branches, no_branches, branch, Block, done, step, Routine}
use Rattle.jessie_values.specs.jessie_grammar.declared.syntax.BuiltIn.{BuiltIn}
use Rattle.jessie_values.specs.jessie_grammar.declared.syntax.BuiltIn.TheVariants.{When, Far, Harden, Keys, Len, Push, Put}
use Rattle.jessie_values.specs.jessie_grammar.declared.syntax.Operator.{Operator}
use Rattle.jessie_values.specs.declared.reasons.Reason.{Reason}
use Rattle.jessie_values.specs.declared.reasons.Reason.TheVariants.{WrongKind, TooDeep}
use Rattle.jessie_values.specs.Reasons.{bad_step}
use Rattle.jessie_values.specs.Outcomes.{of_kind}
use Rattle.jessie_values.specs.Operators.{truth}
use Rattle.jessie_values.specs.Dispatch.{operate, skips}
use Rattle.jessie_values.specs.Dispatch.{unary as unary_value}
use Rattle.jessie_values.specs.Literals.{literal_tree}
use Rattle.jessie_values.specs.Accesses.{field_at, index_at, list_items}
use Rattle.jessie_values.specs.Records.{made_array, made_record}
use Rattle.jessie_values.specs.BuiltIns.{harden, keys, len, push}
use Rattle.jessie_values.specs.BuiltIns.{put as put_part}
use Rattle.jessie_values.specs.Requests.{WhenCall, FarCall, when_call, far_call}
use Rattle.jessie_semantics.specs.AmountMath.{amount_call}
use Rattle.jessie_semantics.specs.Play.{Call, Reply, given, refused, Play, Ends, returned, threw}
use Rattle.jessie_semantics.specs.Play.{call as asks_call, send as asks_send, when as asks_when, far as asks_far}
use Rattle.jessie_semantics.specs.Actions.{Bindings, went, fails, Then, Action, pure, throw, spend, ◌>>=◌, ◌>>◌, caught, charge, ask, metered, bind, paid, named, put, scoped, within}

abbrev pub bad : {A : Type 0} → Reason → Action A
bad r = throw (bad_step r)

-- a value, or a bad step
unfoldable pub worked : {A : Type 0} → Result A Reason → Action A
worked (Ok a) = pure a
worked (Err r) = throw (bad_step r)

-- an answer of AmountMath, or its refusal
unfoldable pub counted : Result Tree Refusal → Action Tree
counted (Ok v) = pure v
counted (Err r) = throw (refusal_tree r)

-- The module as its functions run: the functions, and what a call of one within this one does.
pub record Program : Type 0 where
  pub routines : List Routine
  pub calls : List ℕ → List Tree → Action Tree

abbrev pub find_routine : List ℕ → List Routine → Option Routine
find_routine f [] = None
find_routine f (r ∷ rs) = if bytes_eq r.name f then Some r else find_routine f rs

-- a function as a value is its name
abbrev pub function_named : Option Routine → Option Tree
function_named None = None
function_named (Some r) = Some (function r.name)

-- ---- calls of the host cost 100 and the sizes of what they are shown, and then the size of the answer.
-- A refusal is thrown.

abbrev pub heard : Reply → Action Tree
heard (given v) = charge (size v) >> pure v
heard (refused v) = charge (size v) >> throw v

unfoldable pub host : Call → List Tree → Action Tree
host c shown = charge (100 + items_size (items_of shown)) >> (ask c >>= λ r. heard r)

-- a method of an object, now or later

abbrev pub host_call : Tree → List ℕ → List Tree → Action Tree
host_call v x vs = worked (of_kind (object_of v)) >>= λ o. host (asks_call o x vs) vs

abbrev pub host_send : Tree → List ℕ → List Tree → Action Tree
host_send v x vs = worked (of_kind (object_of v)) >>= λ o. host (asks_send o x vs) vs

-- when and Far, of the arguments as written; surplus ones aren't shown

abbrev pub when_asks : WhenCall → Call
when_asks w = asks_when w.promise w.function w.held

abbrev pub far_asks : FarCall → Call
far_asks f = asks_far f.name f.methods f.held

abbrev pub host_when : List Tree → Action Tree
host_when vs = worked (when_call vs) >>= λ w. host (when_asks w) (take 3 vs)

abbrev pub host_far : List Tree → Action Tree
host_far vs = worked (far_call vs) >>= λ f. host (far_asks f) (take 3 vs)

-- the functions of the language itself
abbrev pub apply_built_in : BuiltIn → List Tree → Action Tree
apply_built_in When vs = host_when vs
apply_built_in Far vs = host_far vs
apply_built_in Harden vs = worked (harden vs)
apply_built_in Keys vs = worked (keys vs)
apply_built_in Len vs = worked (len vs)
apply_built_in Push vs = worked (push vs)
apply_built_in Put vs = worked (put_part vs)

-- ---- each form of an expression, of what its parts do

abbrev pub literal_rule : Tree → Action Tree
literal_rule v = charge 1 >> (charge (size v) >> pure v)

abbrev pub name_rule : Program → List ℕ → Action Tree
name_rule m x = charge 1 >> (named x (function_named (find_routine x m.routines)) >>= λ o. paid (bad_step WrongKind) o)

-- a primary with arguments in brackets
abbrev pub primary_rule : Action (List Tree) → (List Tree → Action Tree) → Action Tree
primary_rule args f = charge 1 >> (args >>= f)

abbrev pub send_rule : Action Tree → List ℕ → Action (List Tree) → Action Tree
send_rule target x args = charge 1 >> (target >>= λ v. (args >>= λ vs. host_send v x vs))

abbrev pub record_rule : Action (List (List ℕ × Tree)) → Action Tree
record_rule parts = charge 1 >> (parts >>= λ fs. worked (made_record fs))

abbrev pub method_rule : List ℕ → Action (List Tree) → Tree → Action Tree
method_rule x args v = charge 1 >> (args >>= λ vs. host_call v x vs)

abbrev pub field_rule : List ℕ → Tree → Action Tree
field_rule x v = charge 1 >> worked (field_at x v)

abbrev pub index_rule : Action Tree → Tree → Action Tree
index_rule index v = charge 1 >> (index >>= λ i. worked (index_at v i))

abbrev pub unary_rule : (Tree → Result Tree Reason) → Action Tree → Action Tree
unary_rule f part = charge 1 >> (part >>= λ v. worked (f v))

-- an operator, with the operand behind it: it isn't worked where the left side alone decides
abbrev pub right_side : Bool → Operator → Action Tree → Tree → Action Tree
right_side b op right v = if b then pure v else (right >>= λ w. worked (operate op v w))

abbrev pub operator_rule : Operator → Action Tree → Tree → Action Tree
operator_rule op right v = charge 1 >> (worked (skips op v) >>= λ b. right_side b op right v)

abbrev pub either : {A : Type 0} → Bool → Action A → Action A → Action A
either b x y = if b then x else y

abbrev pub choice_rule : Action Tree → Action Tree → Action Tree → Action Tree
choice_rule condition x y = condition >>= λ v. (charge 1 >> (worked (truth v) >>= λ b. either b x y))

abbrev mutual
  pub expr : Program → Term → Action Tree
  expr m (literal l) = literal_rule (literal_tree l)
  expr m (name x) = name_rule m x
  expr m (call f ts) = primary_rule (exprs m ts []) (m.calls f)
  expr m (built_in b ts) = primary_rule (exprs m ts []) (apply_built_in b)
  expr m (amount_math x ts) = primary_rule (exprs m ts []) (λ vs. counted (amount_call x vs))
  expr m (send t x ts) = send_rule (expr m t) x (exprs m ts [])
  expr m (listing ts) = primary_rule (exprs m ts []) (λ vs. worked (made_array vs))
  expr m (composed ts) = record_rule (named_exprs m ts [])
  expr m (linked t ks) = expr m t >>= links m ks
  expr m (unary u t) = unary_rule (unary_value u) (expr m t)
  expr m (chain t ts) = expr m t >>= operands m ts
  expr m (choice t x y) = choice_rule (expr m t) (expr m x) (expr m y)

  -- each in turn, after these values
  pub exprs : Program → Terms → List Tree → Action (List Tree)
  exprs m no_terms vs = pure vs
  exprs m (term t ts) vs = expr m t >>= λ v. exprs m ts (vs ++ v ∷ [])

  -- the fields of a record in turn, after these
  pub named_exprs : Program → NamedTerms → List (List ℕ × Tree) → Action (List (List ℕ × Tree))
  named_exprs m no_named fs = pure fs
  named_exprs m (named_term x t ts) fs = expr m t >>= λ v. named_exprs m ts (fs ++ (x, v) ∷ [])

  -- the steps behind a value in turn
  pub links : Program → Links → Tree → Action Tree
  links m no_links v = pure v
  links m (link k ks) v = one_link m k v >>= λ w. links m ks w

  pub one_link : Program → Link → Tree → Action Tree
  one_link m (at_field x) v = field_rule x v
  one_link m (method x ts) v = method_rule x (exprs m ts []) v
  one_link m (at_index t) v = index_rule (expr m t) v

  -- the operators behind a value in turn
  pub operands : Program → Operands → Tree → Action Tree
  operands m no_operands v = pure v
  operands m (operand op t ts) v = operator_rule op (expr m t) v >>= λ w. operands m ts w

-- ---- statements

-- how a statement comes out, where it doesn't throw: the next one follows, or it leaves the function
pub data End : Type 0 where
  next : End
  leaves : Tree → End

abbrev pub going_on : End → Action End → Action End
going_on next rest = rest
going_on (leaves v) rest = pure (leaves v)

abbrev pub test : Program → Term → Action Bool
test m t = expr m t >>= λ v. worked (truth v)

-- At most n rounds. Each takes at least 1, so as many as the meter has is always enough.
abbrev pub one_round : Bool → Action End → Action End → Action End
one_round b a rest = if b then (a >>= λ e. going_on e rest) else pure next

abbrev pub rounds : ℕ → Action Bool → Action End → Action End
rounds zero c a = spend
rounds (suc n) c a = c >>= λ b. one_round b a (rounds n c a)

abbrev pub walk : List Tree → (Tree → Action End) → Action End
walk [] f = pure next
walk (v ∷ vs) f = f v >>= λ e. going_on e (walk vs f)

-- a block with a first name of its own
abbrev pub with_name : List ℕ → Action End → Tree → Action End
with_name x a v = scoped (bind x v >> a)

-- each form, of what its parts do, after its charge

abbrev pub declare_rule : List ℕ → Action Tree → Action End
declare_rule x value = value >>= λ v. (bind x v >> pure next)

abbrev pub assign_rule : List ℕ → Action Tree → Action End
assign_rule x value = value >>= λ v. (put (bad_step WrongKind) x v >> pure next)

abbrev pub repeat_rule : Action Bool → Action End → Action End
repeat_rule condition a = metered (λ n. rounds n condition (scoped a))

abbrev pub for_rule : List ℕ → Action Tree → Action End → Action End
for_rule x values a = values >>= λ v. (worked (list_items v) >>= λ vs. walk vs (with_name x a))

abbrev pub give_rule : Action Tree → Action End
give_rule value = value >>= λ v. pure (leaves v)

abbrev pub raise_rule : Action Tree → Action End
raise_rule value = value >>= λ v. throw v

abbrev pub try_rule : Action End → List ℕ → Action End → Action End
try_rule a x b = caught (scoped a) (with_name x b)

abbrev pub run_rule : Action Tree → Action End
run_rule value = value >>= λ v. pure next

abbrev mutual
  pub form : Program → Statement → Action End
  form m (declare_const x t) = declare_rule x (expr m t)
  form m (declare_let x t) = declare_rule x (expr m t)
  form m (assign x t) = assign_rule x (expr m t)
  form m (choose bs b) = branches m bs (scoped (block m b))
  form m (repeat t a) = repeat_rule (test m t) (block m a)
  form m (each x t a) = for_rule x (expr m t) (block m a)
  form m (give t) = give_rule (expr m t)
  form m give_nothing = pure (leaves null)
  form m (raise t) = raise_rule (expr m t)
  form m (attempt a x b) = try_rule (block m a) x (block m b)
  form m (run t) = run_rule (expr m t)

  -- the first branch whose condition holds, else this
  pub branches : Program → Branches → Action End → Action End
  branches m no_branches other = other
  branches m (branch t a bs) other = test m t >>= λ b. either b (scoped (block m a)) (branches m bs other)

  pub block : Program → Block → Action End
  block m done = pure next
  block m (step a b) = (charge 1 >> form m a) >>= λ e. going_on e (block m b)

-- a statement takes 1 when it is begun
abbrev pub stmt : Program → Statement → Action End
stmt m a = charge 1 >> form m a

-- ---- functions

-- the names with their values; a missing value is null, surplus ones are dropped
abbrev pub pairs : List (List ℕ) → List Tree → Bindings
pairs [] vs = []
pairs (x ∷ xs) [] = (x, null) ∷ pairs xs []
pairs (x ∷ xs) (v ∷ vs) = (x, v) ∷ pairs xs vs

-- a function that isn't left gives null
abbrev pub given_back : End → Tree
given_back next = null
given_back (leaves v) = v

abbrev pub enter : Program → Option Routine → List Tree → Action Tree
enter m None vs = bad WrongKind
enter m (Some r) vs = within (pairs r.params vs) (block m r.body >>= λ e. pure (given_back e))

-- calls stand at most so many within each other
unfoldable pub calls_of : List Routine → ℕ → List ℕ → List Tree → Action Tree
calls_of rs zero f vs = bad TooDeep
calls_of rs (suc room) f vs = enter (record { routines = rs; calls = calls_of rs room }) (find_routine f rs) vs

-- within so many calls
abbrev pub program : List Routine → ℕ → Program
program rs room = record { routines = rs; calls = calls_of rs room }

-- ---- the whole evaluation

abbrev pub values_in : Bindings → List Tree
values_in bs = map (λ b. b.1) bs

abbrev pub finish : Then Tree
finish (went v) s = Ends (returned v) (values_in s.globals)
finish (fails v) s = Ends (threw v) (values_in s.globals)

-- a function of the module is called, with these arguments, values of the state variables, and meter
abbrev pub play : List Routine → List (List ℕ) → List ℕ → List Tree → List Tree → ℕ → Play
play rs variables f vs values meter = calls_of rs 32 f vs (record { locals = []; globals = pairs variables values; meter = meter }) finish
