-- One walk over the rules. Where all that an evaluation was handed has W, what the rules make of it has
-- W, and what was taken is within the meter, with what is left of it: all that it asks has W and is within
-- the meter, and so is what it comes to, with as many state values as before.
use Rattle.std.proofs.Common.{◌≡◌, ℕ, zero, suc, ◌+◌, ◌-◌, ◌≤◌, List, [], ◌∷◌, ◌++◌, Bool, true, false, cond, Option, Some, None, refl, ap, ◌∙◌, length, take, arith}
use Rattle.std.specs.Prelude.{nat_le, Result, Ok, Err}
use Rattle.std.specs.Str.{bytes_eq}
use Rattle.std.proofs.lemmas.Bool.Decides.{nat_tests}
use Rattle.host_data.specs.Tree.{Tree, null, boolean, number, text, array, fields, function, object, object_of, size, items_size}
use Rattle.host_data.specs.View.{items_of}
use Rattle.jessie_values.specs.jessie_grammar.declared.syntax.Literal.{Literal}
use Rattle.jessie_values.specs.jessie_grammar.declared.syntax.Operator.{Operator}
use Rattle.jessie_values.specs.jessie_grammar.declared.syntax.Unary.{Unary}
use Rattle.jessie_values.specs.jessie_grammar.declared.syntax.BuiltIn.{BuiltIn}
use Rattle.jessie_values.specs.jessie_grammar.declared.syntax.BuiltIn.TheVariants as b
use Rattle.jessie_values.specs.jessie_grammar.Syntax.{Term, literal, name, call, built_in, amount_math, send, listing, composed, linked, unary, chain, choice, Terms, no_terms, term, NamedTerms, no_named, named_term, Operands, no_operands, operand, Link, at_field, method, at_index, Links, no_links, link, Statement, declare_const, declare_let, assign, choose, repeat, each, give, give_nothing, raise, attempt, run, Branches, no_branches, branch, Block, done, step, Routine}
use Rattle.jessie_values.specs.declared.reasons.Reason.{Reason}
use Rattle.jessie_values.specs.declared.reasons.Reason.TheVariants.{WrongKind, TooDeep}
use Rattle.jessie_values.specs.Reasons.{bad_step}
use Rattle.jessie_values.specs.Outcomes.{of_kind}
use Rattle.jessie_values.specs.Operators.{truth}
use Rattle.jessie_values.specs.Dispatch.{operate, skips}
use Rattle.jessie_values.specs.Dispatch.{unary as unary_value}
use Rattle.jessie_values.specs.Accesses.{field_at, index_at, list_items}
use Rattle.jessie_values.specs.Records.{made_array, made_record}
use Rattle.jessie_values.specs.BuiltIns.{harden, keys, len, push}
use Rattle.jessie_values.specs.BuiltIns.{put as put_part}
use Rattle.jessie_values.specs.Requests.{when_call, far_call}
use Rattle.jessie_semantics.specs.AmountMath.{amount_call}
use Rattle.refusals.specs.Codes.{refusal_tree}
use Rattle.refusals.specs.declared.codes.Refusal.{Refusal}
use Rattle.jessie_values.specs.Literals.{literal_tree}
use Rattle.jessie_semantics.specs.Play.{Call, Reply, given, refused, Play, Ends, Spends, Asks, after}
use Rattle.jessie_semantics.specs.Charges.{cost, reply_size}
use Rattle.jessie_semantics.specs.Actions.{Bindings, State, Flow, went, fails, Then, Action, pure, throw, spend, onward, ◌>>=◌, otherwise, caught, charge, ask, metered, first_of, look, is_bound, rebind, bind, paid, named, put, scoped, within}
use Rattle.jessie_semantics.specs.Rules.{worked, counted, Program, find_routine, function_named, heard, host, host_call, host_send, when_asks, far_asks, host_when, host_far, apply_built_in, right_side, operator_rule, either, expr, exprs, named_exprs, links, one_link, operands, End, next, leaves, going_on, test, one_round, rounds, walk, with_name, form, branches, block, pairs, given_back, enter, calls_of, values_in, finish, play}
use Rattle.jessie_semantics.specs.Keeping.{AllHave, CallHas, ReplyHas, RepliesHave, EndingHas, NextHas}
use Rattle.jessie_semantics.specs.Naming.{BlockWrites, BranchesWrite, LinksWrite, LinkWrites, NamedTermsWrite, OperandsWrite, RoutinesWrite, StatementWrites, TermsWrite, TermWrites}

abbrev pub BoundHave : (Tree → Type 0) → Bindings → Type 0
BoundHave W [] = Unit {0}
BoundHave W (x ∷ bs) = W x.1 × BoundHave W bs

-- each name is one that may be written
abbrev pub NamedBy : (List ℕ → Type 0) → Bindings → Type 0
NamedBy X [] = Unit {0}
NamedBy X (b ∷ bs) = X b.0 × NamedBy X bs

-- what it gave, where it gave something, has P
abbrev pub ResultHas : {A E : Type 0} → (A → Type 0) → Result A E → Type 0
ResultHas P (Ok a) = P a
ResultHas P (Err r) = Unit {0}

abbrev pub AmountHas : (Tree → Type 0) → Result Tree Refusal → Type 0
AmountHas W (Ok v) = W v
AmountHas W (Err r) = W (refusal_tree r)

-- a call that what is shown can pay
abbrev pub Payable : (Tree → Type 0) → List Tree → Call → Type 0
Payable W vs c = CallHas W c × (cost c ≤ 100 + items_size (items_of (take 3 vs)))

-- What the rules make by themselves, and what they make of what has W, has W.
pub record Closed (W : Tree → Type 0) (X : List ℕ → Type 0) (rs : List Routine) : Type 0 where
  pub nothing : W null
  pub bad_steps : (r : Reason) → W (bad_step r)
  pub literals : (l : Literal) → W (literal_tree l)
  pub functions : (f : List ℕ) (r : Routine) → find_routine f rs ≡ Some r → W (function r.name)
  pub arrays : (vs : List Tree) → AllHave W vs → ResultHas W (made_array vs)
  pub records : (fs : Bindings) → BoundHave W fs → NamedBy X fs → ResultHas W (made_record fs)
  pub parts : (v : Tree) → W v → ResultHas (AllHave W) (list_items v)
  pub at_fields : (x : List ℕ) (v : Tree) → W v → ResultHas W (field_at x v)
  pub at_indices : (v i : Tree) → W v → W i → ResultHas W (index_at v i)
  pub unaries : (u : Unary) (v : Tree) → W v → ResultHas W (unary_value u v)
  pub operators : (op : Operator) (v w : Tree) → W v → W w → ResultHas W (operate op v w)
  pub hardens : (vs : List Tree) → AllHave W vs → ResultHas W (harden vs)
  pub key_lists : (vs : List Tree) → AllHave W vs → ResultHas W (keys vs)
  pub lengths : (vs : List Tree) → AllHave W vs → ResultHas W (len vs)
  pub pushes : (vs : List Tree) → AllHave W vs → ResultHas W (push vs)
  pub puts : (vs : List Tree) → AllHave W vs → ResultHas W (put_part vs)
  pub amounts : (x : List ℕ) (vs : List Tree) → AllHave W vs → AmountHas W (amount_call x vs)
  pub whens : (vs : List Tree) → AllHave W vs → ResultHas (λ w. Payable W vs (when_asks w)) (when_call vs)
  pub fars : (vs : List Tree) → AllHave W vs → ResultHas (λ f. Payable W vs (far_asks f)) (far_call vs)

module _ (W : Tree → Type 0) (N meter : ℕ) where
  -- so much was taken of the meter; whatever is answered
  abbrev pub Safe : ℕ → Play → Type 0
  Safe m (Ends e values) = (m ≤ meter) × (EndingHas W e × (AllHave W values × (length values ≡ N)))
  Safe m Spends = Unit {0}
  Safe m (Asks c go) = CallHas W c × ((m + cost c ≤ meter) × ((r : Reply) → ReplyHas W r → Safe (m + cost c + reply_size r) (go r)))

  pub safe_after : (m : ℕ) (p : Play) (rs : List Reply) → Safe m p → RepliesHave W rs → NextHas W N (after p rs)
  safe_after m (Ends e s) [] h q = h.1
  safe_after m Spends [] h q = h
  safe_after m (Asks c go) [] h q = h.0
  safe_after m (Ends e s) (r ∷ rs) h q = h.1
  safe_after m Spends (r ∷ rs) h q = h
  safe_after m (Asks c go) (r ∷ rs) h q = safe_after (m + cost c + reply_size r) (go r) rs (h.1.1 r q.0) q.1

  pub record StateHas (s : State) : Type 0 where
    pub locals : BoundHave W s.locals
    pub globals : BoundHave W s.globals
    pub count : length s.globals ≡ N

  abbrev pub FlowHas : {A : Type 0} → (A → Type 0) → Flow A → Type 0
  FlowHas P (went a) = P a
  FlowHas P (fails t) = W t

  abbrev pub SafeThen : {A : Type 0} → (A → Type 0) → Then A → Type 0
  SafeThen {A} P k = (f : Flow A) (s : State) (m : ℕ) → FlowHas P f → StateHas s → m + s.meter ≤ meter → Safe m (k f s)

  pub record SafeAction {A : Type 0} (P : A → Type 0) (a : Action A) : Type 0 where
    pub safe : (s : State) (m : ℕ) (k : Then A) → StateHas s → m + s.meter ≤ meter → SafeThen P k → Safe m (a s k)

  abbrev pub Anything : {A : Type 0} → A → Type 0
  Anything a = Unit {0}

  -- how actions are made and put together

  pure_safe : {A : Type 0} (P : A → Type 0) (a : A) → P a → SafeAction P (pure a)
  unfolding pure
  pure_safe P a h = record { safe = λ s m k i q g. g (went a) s m h i q }

  throw_safe : {A : Type 0} (P : A → Type 0) (t : Tree) → W t → SafeAction P (throw t)
  unfolding throw
  throw_safe P t h = record { safe = λ s m k i q g. g (fails t) s m h i q }

  spend_safe : {A : Type 0} (P : A → Type 0) → SafeAction P spend
  unfolding spend
  spend_safe P = record { safe = λ s m k i q g. tt }

  onward_safe : {A B : Type 0} (P : A → Type 0) (Q : B → Type 0) (f : A → Action B) (k : Then B) → ((x : A) → P x → SafeAction Q (f x)) → SafeThen Q k → SafeThen P (onward f k)
  onward_safe P Q f k h g (went a) s m w i q = (h a w).safe s m k i q g
  onward_safe P Q f k h g (fails t) s m w i q = g (fails t) s m w i q

  bind_safe : {A B : Type 0} {P : A → Type 0} {Q : B → Type 0} {a : Action A} (f : A → Action B) → SafeAction P a → ((x : A) → P x → SafeAction Q (f x)) → SafeAction Q (a >>= f)
  unfolding ◌>>=◌
  bind_safe {P = P} {Q = Q} f h g = record { safe = λ s m k i q z. h.safe s m (onward f k) i q (onward_safe P Q f k g z) }

  otherwise_safe : {A : Type 0} (P : A → Type 0) (f : Tree → Action A) (k : Then A) → ((t : Tree) → W t → SafeAction P (f t)) → SafeThen P k → SafeThen P (otherwise f k)
  otherwise_safe P f k h g (went a) s m w i q = g (went a) s m w i q
  otherwise_safe P f k h g (fails t) s m w i q = (h t w).safe s m k i q g

  caught_safe : {A : Type 0} {P : A → Type 0} {a : Action A} (f : Tree → Action A) → SafeAction P a → ((t : Tree) → W t → SafeAction P (f t)) → SafeAction P (caught a f)
  unfolding caught
  caught_safe {P = P} f h g = record { safe = λ s m k i q z. h.safe s m (otherwise f k) i q (otherwise_safe P f k g z) }

  picked : (b : Bool) (m : ℕ) (p q : Play) → (b ≡ true → Safe m p) → Safe m q → Safe m (cond b p q)
  picked true m p q h i = h refl
  picked false m p q h i = i

  less : (n x m : ℕ) → m + x ≤ meter → m + (x - n) ≤ meter
  less n x m h = omega arith

  charge_safe : (n : ℕ) → SafeAction Anything (charge n)
  unfolding charge
  charge_safe n = record { safe = λ s m k i q g. picked (nat_le n s.meter) m _ Spends (λ e. g (went tt) _ m tt (record { locals = i.locals; globals = i.globals; count = i.count }) (less n s.meter m q)) tt }

  metered_safe : {A : Type 0} {P : A → Type 0} (f : ℕ → Action A) → ((n : ℕ) → SafeAction P (f n)) → SafeAction P (metered f)
  unfolding metered
  metered_safe f h = record { safe = λ s m k i q g. (h s.meter).safe s m k i q g }

  taken : (n : ℕ) (bs : Bindings) → BoundHave W bs → BoundHave W (take n bs)
  taken zero bs h = tt
  taken (suc n) [] h = tt
  taken (suc n) (x ∷ bs) h = (h.0, taken n bs h.1)

  scoped_safe : {A : Type 0} {P : A → Type 0} {a : Action A} → SafeAction P a → SafeAction P (scoped a)
  unfolding scoped
  scoped_safe h = record { safe = λ s m k i q g. h.safe s m _ i q (λ f t n w j r. g f _ n w (record { locals = taken (length s.locals) t.locals j.locals; globals = j.globals; count = j.count }) r) }

  within_safe : {A : Type 0} {P : A → Type 0} {a : Action A} (bs : Bindings) → BoundHave W bs → SafeAction P a → SafeAction P (within bs a)
  unfolding within
  within_safe bs h g = record { safe = λ s m k i q z. g.safe _ m _ (record { locals = h; globals = i.globals; count = i.count }) q (λ f t n w j r. z f _ n w (record { locals = i.locals; globals = j.globals; count = j.count }) r) }

  all_both : (vs ws : List Tree) → AllHave W vs → AllHave W ws → AllHave W (vs ++ ws)
  all_both [] ws h i = i
  all_both (v ∷ vs) ws h i = (h.0, all_both vs ws h.1 i)

  bound_both : (bs cs : Bindings) → BoundHave W bs → BoundHave W cs → BoundHave W (bs ++ cs)
  bound_both [] cs h i = i
  bound_both (x ∷ bs) cs h i = (h.0, bound_both bs cs h.1 i)

  declared_safe : (x : List ℕ) (v : Tree) → W v → SafeAction Anything (bind x v)
  unfolding bind
  declared_safe x v h = record { safe = λ s m k i q g. g (went tt) _ m tt (record { locals = bound_both s.locals ((x, v) ∷ []) i.locals (h, tt); globals = i.globals; count = i.count }) q }

  -- names

  abbrev FoundHas : Option Tree → Type 0
  FoundHas None = Unit {0}
  FoundHas (Some v) = W v

  first_has : (o p : Option Tree) → FoundHas o → FoundHas p → FoundHas (first_of o p)
  first_has None p h i = i
  first_has (Some v) p h i = h

  one_has : (b : Bool) (v : Tree) → W v → FoundHas (cond b (Some v) None)
  one_has true v h = h
  one_has false v h = tt

  look_has : (x : List ℕ) (bs : Bindings) → BoundHave W bs → FoundHas (look x bs)
  look_has x [] h = tt
  look_has x (y ∷ bs) h = first_has (look x bs) _ (look_has x bs h.1) (one_has (bytes_eq y.0 x) y.1 h.0)

  named_safe : (x : List ℕ) (other : Option Tree) → FoundHas other → SafeAction FoundHas (named x other)
  unfolding named
  named_safe x other h = record { safe = λ s m k i q g. g (went _) s m (first_has (look x s.locals) _ (look_has x s.locals i.locals) (first_has (look x s.globals) other (look_has x s.globals i.globals) h)) i q }

  paid_safe : (t : Tree) (o : Option Tree) → W t → FoundHas o → SafeAction W (paid t o)
  unfolding paid
  paid_safe t None w h = record { safe = λ s m k i q g. g (fails t) s m w i q }
  paid_safe t (Some v) w h = record { safe = λ s m k i q g. picked (nat_le (size v) s.meter) m _ Spends (λ e. g (went v) _ m h (record { locals = i.locals; globals = i.globals; count = i.count }) (less (size v) s.meter m q)) tt }

  bound_either : (b : Bool) (bs cs : Bindings) → BoundHave W bs → BoundHave W cs → BoundHave W (cond b bs cs)
  bound_either true bs cs h i = h
  bound_either false bs cs h i = i

  rebound_has : (x : List ℕ) (v : Tree) (bs : Bindings) → W v → BoundHave W bs → BoundHave W (rebind x v bs)
  rebound_has x v [] w h = tt
  rebound_has x v (y ∷ bs) w h = bound_either (is_bound x bs) (y ∷ rebind x v bs) _ (h.0, rebound_has x v bs w h.1) (bound_either (bytes_eq y.0 x) ((y.0, v) ∷ bs) (y ∷ bs) (w, h.1) h)

  as_long : (b : Bool) (bs cs : Bindings) (n : ℕ) → length bs ≡ n → length cs ≡ n → length (cond b bs cs) ≡ n
  as_long true bs cs n h i = h
  as_long false bs cs n h i = i

  rebound_length : (x : List ℕ) (v : Tree) (bs : Bindings) → length (rebind x v bs) ≡ length bs
  rebound_length x v [] = refl
  rebound_length x v (y ∷ bs) = as_long (is_bound x bs) (y ∷ rebind x v bs) _ _ (ap suc (rebound_length x v bs)) (as_long (bytes_eq y.0 x) ((y.0, v) ∷ bs) (y ∷ bs) _ refl refl)

  put_safe : (t : Tree) (x : List ℕ) (v : Tree) → W t → W v → SafeAction Anything (put t x v)
  unfolding put
  put_safe t x v w h = record {
    safe = λ s m k i q g. picked (is_bound x s.locals) m _ _
        (λ e. g (went tt) _ m tt (record { locals = rebound_has x v s.locals h i.locals; globals = i.globals; count = i.count }) q)
        (picked (is_bound x s.globals) m _ _
        (λ e. g (went tt) _ m tt (record { locals = i.locals; globals = rebound_has x v s.globals h i.globals; count = rebound_length x v s.globals ∙ i.count }) q)
        (g (fails t) s m w i q));
  }

  -- calls of the host: what a call costs is taken before it, and its answer's size after it

  fits_in : (c n x m : ℕ) → c ≤ n → nat_le n x ≡ true → m + x ≤ meter → m + c ≤ meter
  fits_in c n x m b e h = grind (arith, nat_tests)

  rest_fits : (c n a x m : ℕ) → c ≤ n → nat_le n x ≡ true → nat_le a (x - n) ≡ true → m + x ≤ meter → m + c + a + ((x - n) - a) ≤ meter
  rest_fits c n a x m b e f h = grind (arith, nat_tests)

  settled : (x : Flow Tree) (c n a : ℕ) (s : State) (m : ℕ) (k : Then Tree) → c ≤ n → StateHas s → m + s.meter ≤ meter → SafeThen W k → nat_le n s.meter ≡ true → FlowHas W x
      → Safe (m + c + a) (cond (nat_le a (s.meter - n)) (k x (record s { meter = (s.meter - n) - a })) Spends)
  settled x c n a s m k b i q g e w = picked (nat_le a (s.meter - n)) _ _ Spends (λ f. g x _ _ w (record { locals = i.locals; globals = i.globals; count = i.count }) (rest_fits c n a s.meter m b e f q)) tt

  answer_safe : (c n : ℕ) (r : Reply) (s : State) (m : ℕ) (k : Then Tree) → c ≤ n → StateHas s → m + s.meter ≤ meter → SafeThen W k → nat_le n s.meter ≡ true → ReplyHas W r
      → Safe (m + c + reply_size r) (heard r (record s { meter = s.meter - n }) k)
  unfolding ◌>>=◌ charge pure throw
  answer_safe c n (given v) s m k b i q g e w = settled (went v) c n (size v) s m k b i q g e w
  answer_safe c n (refused v) s m k b i q g e w = settled (fails v) c n (size v) s m k b i q g e w

  host_safe : (c : Call) (shown : List Tree) → CallHas W c → cost c ≤ 100 + items_size (items_of shown) → SafeAction W (host c shown)
  unfolding host ◌>>=◌ charge ask
  host_safe c shown h b = record {
    safe = λ s m k i q g.
        let n = 100 + items_size (items_of shown) in
        picked (nat_le n s.meter) m _ Spends (λ e. (h, (fits_in (cost c) n s.meter m b e q, λ r w. answer_safe (cost c) n r s m k b i q g e w))) tt;
  }

  itself : (n : ℕ) → n ≤ n
  itself n = omega arith

  worked_safe : {A : Type 0} (P : A → Type 0) (r : Result A Reason) → ((x : Reason) → W (bad_step x)) → ResultHas P r → SafeAction P (worked r)
  unfolding worked
  worked_safe P (Ok a) b h = record { safe = λ s m k i q g. (pure_safe P a h).safe s m k i q g }
  worked_safe P (Err r) b h = record { safe = λ s m k i q g. (throw_safe P (bad_step r) (b r)).safe s m k i q g }

  counted_safe : (r : Result Tree Refusal) → AmountHas W r → SafeAction W (counted r)
  unfolding counted
  counted_safe (Ok v) h = record { safe = λ s m k i q g. (pure_safe W v h).safe s m k i q g }
  counted_safe (Err r) h = record { safe = λ s m k i q g. (throw_safe W (refusal_tree r) h).safe s m k i q g }

  target_has : (v : Tree) → W v → ResultHas (λ o. W (object o)) (of_kind (object_of v))
  target_has null h = tt
  target_has (boolean x) h = tt
  target_has (number x) h = tt
  target_has (text x) h = tt
  target_has (array x) h = tt
  target_has (fields x) h = tt
  target_has (object x) h = h
  target_has (function x) h = tt

  any_result : {A E : Type 0} (r : Result A E) → ResultHas Anything r
  any_result (Ok a) = tt
  any_result (Err r) = tt

  abbrev pub EndHas : End → Type 0
  EndHas next = Unit {0}
  EndHas (leaves v) = W v

  function_has : (o : Option Routine) → ((r : Routine) → o ≡ Some r → W (function r.name)) → FoundHas (function_named o)
  function_has None h = tt
  function_has (Some r) h = h r refl

  either_safe : {A : Type 0} (P : A → Type 0) (b : Bool) (x y : Action A) → SafeAction P x → SafeAction P y → SafeAction P (either b x y)
  either_safe P true x y h i = h
  either_safe P false x y h i = i

  right_safe : (b : Bool) (op : Operator) (a : Action Tree) (v : Tree) → ((x : Reason) → W (bad_step x)) → ((w : Tree) → W w → ResultHas W (operate op v w)) → SafeAction W a → W v → SafeAction W (right_side b op a v)
  right_safe true op a v z o h w = pure_safe W v w
  right_safe false op a v z o h w = bind_safe _ h (λ u x. worked_safe W _ z (o u x))

  named_both : (X : List ℕ → Type 0) (bs cs : Bindings) → NamedBy X bs → NamedBy X cs → NamedBy X (bs ++ cs)
  named_both X [] cs h i = i
  named_both X (x ∷ bs) cs h i = (h.0, named_both X bs cs h.1 i)

  module _ (X : List ℕ → Type 0) (rs : List Routine) (c : Closed W X rs) (written : RoutinesWrite X rs) where
    step_safe : {A : Type 0} (P : A → Type 0) (r : Result A Reason) → ResultHas P r → SafeAction P (worked r)
    step_safe P r h = worked_safe P r c.bad_steps h

    host_call_safe : (v : Tree) (x : List ℕ) (vs : List Tree) → W v → AllHave W vs → SafeAction W (host_call v x vs)
    host_call_safe v x vs h i = bind_safe _ (step_safe (λ o. W (object o)) _ (target_has v h)) (λ o w. host_safe _ vs (w, i) (itself _))

    host_send_safe : (v : Tree) (x : List ℕ) (vs : List Tree) → W v → AllHave W vs → SafeAction W (host_send v x vs)
    host_send_safe v x vs h i = bind_safe _ (step_safe (λ o. W (object o)) _ (target_has v h)) (λ o w. host_safe _ vs (w, i) (itself _))

    host_when_safe : (vs : List Tree) → AllHave W vs → SafeAction W (host_when vs)
    host_when_safe vs h = bind_safe _ (step_safe (λ w. Payable W vs (when_asks w)) _ (c.whens vs h)) (λ w p. host_safe _ (take 3 vs) p.0 p.1)

    host_far_safe : (vs : List Tree) → AllHave W vs → SafeAction W (host_far vs)
    host_far_safe vs h = bind_safe _ (step_safe (λ f. Payable W vs (far_asks f)) _ (c.fars vs h)) (λ f p. host_safe _ (take 3 vs) p.0 p.1)

    built_in_safe : (f : BuiltIn) (vs : List Tree) → AllHave W vs → SafeAction W (apply_built_in f vs)
    built_in_safe b.When vs h = host_when_safe vs h
    built_in_safe b.Far vs h = host_far_safe vs h
    built_in_safe b.Harden vs h = step_safe W _ (c.hardens vs h)
    built_in_safe b.Keys vs h = step_safe W _ (c.key_lists vs h)
    built_in_safe b.Len vs h = step_safe W _ (c.lengths vs h)
    built_in_safe b.Push vs h = step_safe W _ (c.pushes vs h)
    built_in_safe b.Put vs h = step_safe W _ (c.puts vs h)

    operator_safe : (op : Operator) (a : Action Tree) (v : Tree) → SafeAction W a → W v → SafeAction W (operator_rule op a v)
    operator_safe op a v h w = bind_safe _ (charge_safe 1) (λ _ _. bind_safe _ (step_safe Anything _ (any_result (skips op v))) (λ x _. right_safe x op a v c.bad_steps (λ u i. c.operators op v u w i) h w))

    abbrev CallsSafe : (List ℕ → List Tree → Action Tree) → Type 0
    CallsSafe calls = (f : List ℕ) (vs : List Tree) → AllHave W vs → SafeAction W (calls f vs)

    module _ (calls : List ℕ → List Tree → Action Tree) (calls_are_safe : CallsSafe calls) where
      m : Program
      m = record { routines = rs; calls = calls }

      mutual
        expr_safe : (t : Term) → TermWrites X t → SafeAction W (expr (record { routines = rs; calls = calls }) t)
        expr_safe (literal l) n = bind_safe _ (charge_safe 1) (λ _ _. bind_safe _ (charge_safe _) (λ _ _. pure_safe W _ (c.literals l)))
        expr_safe (name x) n = bind_safe _ (charge_safe 1) (λ _ _. bind_safe _ (named_safe x _ (function_has (find_routine x rs) (c.functions x))) (λ o w. paid_safe _ o (c.bad_steps WrongKind) w))
        expr_safe (call f ts) n = bind_safe _ (charge_safe 1) (λ _ _. bind_safe _ (exprs_safe ts [] n tt) (λ vs h. calls_are_safe f vs h))
        expr_safe (built_in f ts) n = bind_safe _ (charge_safe 1) (λ _ _. bind_safe _ (exprs_safe ts [] n tt) (λ vs h. built_in_safe f vs h))
        expr_safe (amount_math x ts) n = bind_safe _ (charge_safe 1) (λ _ _. bind_safe _ (exprs_safe ts [] n tt) (λ vs h. counted_safe _ (c.amounts x vs h)))
        expr_safe (send t x ts) n = bind_safe _ (charge_safe 1) (λ _ _. bind_safe _ (expr_safe t n.0) (λ v h. bind_safe _ (exprs_safe ts [] n.1 tt) (λ vs i. host_send_safe v x vs h i)))
        expr_safe (listing ts) n = bind_safe _ (charge_safe 1) (λ _ _. bind_safe _ (exprs_safe ts [] n tt) (λ vs h. step_safe W _ (c.arrays vs h)))
        expr_safe (composed ts) n = bind_safe _ (charge_safe 1) (λ _ _. bind_safe _ (named_exprs_safe ts [] n tt tt) (λ fs h. step_safe W _ (c.records fs h.0 h.1)))
        expr_safe (linked t ks) n = bind_safe _ (expr_safe t n.0) (λ v h. links_safe ks v n.1 h)
        expr_safe (unary u t) n = bind_safe _ (charge_safe 1) (λ _ _. bind_safe _ (expr_safe t n) (λ v h. step_safe W _ (c.unaries u v h)))
        expr_safe (chain t ts) n = bind_safe _ (expr_safe t n.0) (λ v h. operands_safe ts v n.1 h)
        expr_safe (choice t x y) n = bind_safe _ (expr_safe t n.0) (λ v h. bind_safe _ (charge_safe 1) (λ _ _. bind_safe _ (step_safe Anything _ (any_result (truth v))) (λ z _. either_safe W z _ _ (expr_safe x n.1) (expr_safe y n.2))))

        exprs_safe : (ts : Terms) (vs : List Tree) → TermsWrite X ts → AllHave W vs → SafeAction (AllHave W) (exprs (record { routines = rs; calls = calls }) ts vs)
        exprs_safe no_terms vs n h = pure_safe (AllHave W) vs h
        exprs_safe (term t ts) vs n h = bind_safe _ (expr_safe t n.0) (λ v i. exprs_safe ts _ n.1 (all_both vs (v ∷ []) h (i, tt)))

        named_exprs_safe : (ts : NamedTerms) (fs : Bindings) → NamedTermsWrite X ts → BoundHave W fs → NamedBy X fs → SafeAction (λ gs. BoundHave W gs × NamedBy X gs) (named_exprs (record { routines = rs; calls = calls }) ts fs)
        named_exprs_safe no_named fs n h k = pure_safe (λ gs. BoundHave W gs × NamedBy X gs) fs (h, k)
        named_exprs_safe (named_term x t ts) fs n h k = bind_safe _ (expr_safe t n.1) (λ v i. named_exprs_safe ts _ n.2 (bound_both fs ((x, v) ∷ []) h (i, tt)) (named_both X fs ((x, v) ∷ []) k (n.0, tt)))

        links_safe : (ks : Links) (v : Tree) → LinksWrite X ks → W v → SafeAction W (links (record { routines = rs; calls = calls }) ks v)
        links_safe no_links v n h = pure_safe W v h
        links_safe (link k ks) v n h = bind_safe _ (link_safe k v n.0 h) (λ w i. links_safe ks w n.1 i)

        link_safe : (k : Link) (v : Tree) → LinkWrites X k → W v → SafeAction W (one_link (record { routines = rs; calls = calls }) k v)
        link_safe (at_field x) v n h = bind_safe _ (charge_safe 1) (λ _ _. step_safe W _ (c.at_fields x v h))
        link_safe (method x ts) v n h = bind_safe _ (charge_safe 1) (λ _ _. bind_safe _ (exprs_safe ts [] n tt) (λ vs i. host_call_safe v x vs h i))
        link_safe (at_index t) v n h = bind_safe _ (charge_safe 1) (λ _ _. bind_safe _ (expr_safe t n) (λ i w. step_safe W _ (c.at_indices v i h w)))

        operands_safe : (ts : Operands) (v : Tree) → OperandsWrite X ts → W v → SafeAction W (operands (record { routines = rs; calls = calls }) ts v)
        operands_safe no_operands v n h = pure_safe W v h
        operands_safe (operand op t ts) v n h = bind_safe _ (operator_safe op _ v (expr_safe t n.0) h) (λ w i. operands_safe ts w n.1 i)

      -- statements

      test_safe : (t : Term) → TermWrites X t → SafeAction Anything (test (record { routines = rs; calls = calls }) t)
      test_safe t n = bind_safe _ (expr_safe t n) (λ v h. step_safe Anything _ (any_result (truth v)))

      going_on_safe : (e : End) (rest : Action End) → EndHas e → SafeAction EndHas rest → SafeAction EndHas (going_on e rest)
      going_on_safe next rest h i = i
      going_on_safe (leaves v) rest h i = pure_safe EndHas (leaves v) h

      round_safe : (x : Bool) (a rest : Action End) → SafeAction EndHas a → SafeAction EndHas rest → SafeAction EndHas (one_round x a rest)
      round_safe true a rest h i = bind_safe _ h (λ e w. going_on_safe e rest w i)
      round_safe false a rest h i = pure_safe EndHas next tt

      rounds_safe : (n : ℕ) (x : Action Bool) (a : Action End) → SafeAction Anything x → SafeAction EndHas a → SafeAction EndHas (rounds n x a)
      rounds_safe zero x a h i = spend_safe EndHas
      rounds_safe (suc n) x a h i = bind_safe _ h (λ z _. round_safe z a _ i (rounds_safe n x a h i))

      walk_safe : (vs : List Tree) (f : Tree → Action End) → AllHave W vs → ((v : Tree) → W v → SafeAction EndHas (f v)) → SafeAction EndHas (walk vs f)
      walk_safe [] f h i = pure_safe EndHas next tt
      walk_safe (v ∷ vs) f h i = bind_safe _ (i v h.0) (λ e w. going_on_safe e _ w (walk_safe vs f h.1 i))

      with_name_safe : (x : List ℕ) (a : Action End) (v : Tree) → SafeAction EndHas a → W v → SafeAction EndHas (with_name x a v)
      with_name_safe x a v h w = scoped_safe (bind_safe _ (declared_safe x v w) (λ _ _. h))

      mutual
        form_safe : (a : Statement) → StatementWrites X a → SafeAction EndHas (form (record { routines = rs; calls = calls }) a)
        form_safe (declare_const x t) n = bind_safe _ (expr_safe t n) (λ v h. bind_safe _ (declared_safe x v h) (λ _ _. pure_safe EndHas next tt))
        form_safe (declare_let x t) n = bind_safe _ (expr_safe t n) (λ v h. bind_safe _ (declared_safe x v h) (λ _ _. pure_safe EndHas next tt))
        form_safe (assign x t) n = bind_safe _ (expr_safe t n) (λ v h. bind_safe _ (put_safe _ x v (c.bad_steps WrongKind) h) (λ _ _. pure_safe EndHas next tt))
        form_safe (choose bs b) n = branches_safe bs _ n.0 (scoped_safe (block_safe b n.1))
        form_safe (repeat t a) n = metered_safe _ (λ k. rounds_safe k _ _ (test_safe t n.0) (scoped_safe (block_safe a n.1)))
        form_safe (each x t a) n = bind_safe _ (expr_safe t n.0) (λ v h. bind_safe _ (step_safe (AllHave W) _ (c.parts v h)) (λ vs i. walk_safe vs _ i (λ w j. with_name_safe x _ w (block_safe a n.1) j)))
        form_safe (give t) n = bind_safe _ (expr_safe t n) (λ v h. pure_safe EndHas (leaves v) h)
        form_safe give_nothing n = pure_safe EndHas (leaves null) c.nothing
        form_safe (raise t) n = bind_safe _ (expr_safe t n) (λ v h. throw_safe EndHas v h)
        form_safe (attempt a x b) n = caught_safe _ (scoped_safe (block_safe a n.0)) (λ v h. with_name_safe x _ v (block_safe b n.1) h)
        form_safe (run t) n = bind_safe _ (expr_safe t n) (λ v h. pure_safe EndHas next tt)

        branches_safe : (bs : Branches) (other : Action End) → BranchesWrite X bs → SafeAction EndHas other → SafeAction EndHas (branches (record { routines = rs; calls = calls }) bs other)
        branches_safe no_branches other n h = h
        branches_safe (branch t a bs) other n h = bind_safe _ (test_safe t n.0) (λ z _. either_safe EndHas z _ _ (scoped_safe (block_safe a n.1)) (branches_safe bs other n.2 h))

        block_safe : (b : Block) → BlockWrites X b → SafeAction EndHas (block (record { routines = rs; calls = calls }) b)
        block_safe done n = pure_safe EndHas next tt
        block_safe (step a b) n = bind_safe _ (bind_safe _ (charge_safe 1) (λ _ _. form_safe a n.0)) (λ e h. going_on_safe e _ h (block_safe b n.1))

    -- functions

    pairs_have : (xs : List (List ℕ)) (vs : List Tree) → AllHave W vs → BoundHave W (pairs xs vs)
    pairs_have [] vs h = tt
    pairs_have (x ∷ xs) [] h = (c.nothing, pairs_have xs [] tt)
    pairs_have (x ∷ xs) (v ∷ vs) h = (h.0, pairs_have xs vs h.1)

    back_has : (e : End) → EndHas e → W (given_back e)
    back_has next h = c.nothing
    back_has (leaves v) h = h

    -- what a function that is found writes
    abbrev FoundWrites : Option Routine → Type 0
    FoundWrites None = Unit {0}
    FoundWrites (Some r) = BlockWrites X r.body

    chosen_writes : (b : Bool) (r : Routine) (o : Option Routine) → BlockWrites X r.body → FoundWrites o → FoundWrites (cond b (Some r) o)
    chosen_writes true r o h i = h
    chosen_writes false r o h i = i

    found_writes : (f : List ℕ) (qs : List Routine) → RoutinesWrite X qs → FoundWrites (find_routine f qs)
    found_writes f [] h = tt
    found_writes f (r ∷ qs) h = chosen_writes (bytes_eq r.name f) r _ h.0 (found_writes f qs h.1)

    enter_safe : (calls : List ℕ → List Tree → Action Tree) → CallsSafe calls → (o : Option Routine) (vs : List Tree) → FoundWrites o → AllHave W vs → SafeAction W (enter (record { routines = rs; calls = calls }) o vs)
    enter_safe calls g None vs n h = throw_safe W _ (c.bad_steps WrongKind)
    enter_safe calls g (Some r) vs n h = within_safe _ (pairs_have r.params vs h) (bind_safe _ (block_safe calls g r.body n) (λ e i. pure_safe W _ (back_has e i)))

    calls_safe : (room : ℕ) (f : List ℕ) (vs : List Tree) → AllHave W vs → SafeAction W (calls_of rs room f vs)
    unfolding calls_of
    calls_safe zero f vs h = throw_safe W _ (c.bad_steps TooDeep)
    calls_safe (suc room) f vs h = enter_safe (calls_of rs room) (λ f vs h. calls_safe room f vs h) (find_routine f rs) vs (found_writes f rs written) h

    values_have : (bs : Bindings) → BoundHave W bs → AllHave W (values_in bs)
    values_have [] h = tt
    values_have (x ∷ bs) h = (h.0, values_have bs h.1)

    values_length : (bs : Bindings) → length (values_in bs) ≡ length bs
    values_length [] = refl
    values_length (x ∷ bs) = ap suc (values_length bs)

    pairs_length : (xs : List (List ℕ)) (vs : List Tree) → length (pairs xs vs) ≡ length xs
    pairs_length [] vs = refl
    pairs_length (x ∷ xs) [] = ap suc (pairs_length xs [])
    pairs_length (x ∷ xs) (v ∷ vs) = ap suc (pairs_length xs vs)

    least : (m x : ℕ) → m + x ≤ meter → m ≤ meter
    least m x h = omega arith

    finish_safe : SafeThen W finish
    finish_safe (went v) s m w i q = (least m s.meter q, (w, (values_have s.globals i.globals, values_length s.globals ∙ i.count)))
    finish_safe (fails v) s m w i q = (least m s.meter q, (w, (values_have s.globals i.globals, values_length s.globals ∙ i.count)))

    pub play_safe : (variables : List (List ℕ)) (f : List ℕ) (vs values : List Tree) → AllHave W vs → AllHave W values → length variables ≡ N → Safe 0 (play rs variables f vs values meter)
    play_safe variables f vs values h i n =
        (calls_safe 32 f vs h).safe (record { locals = []; globals = pairs variables values; meter = meter }) 0 finish (record { locals = tt; globals = pairs_have variables values i; count = pairs_length variables values ∙ n }) (omega arith) finish_safe
