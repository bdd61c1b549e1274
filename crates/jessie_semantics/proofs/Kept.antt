-- What a fact about trees must be so that all that functions of values make keeps to it.
use Rattle.std.proofs.Common.{◌≡◌, ℕ, ℤ, zero, suc, ◌+◌, ◌≤◌, ◌*ℤ◌, ◌+ℤ◌, ◌-ℤ◌, List, [], ◌∷◌, ◌++◌, Bool, true, false, cond, Option, Some, None, refl, ap, sym, subst, length, take, map, arith}
use Rattle.std.specs.Prelude.{Result, Ok, Err, slice_get, slice_set, option_map, option_and_then, neg_ℤ, int_div, int_rem, not, pos}
use Rattle.std.specs.Prelude.{nat_le}
use Rattle.std.specs.Ordering.{int_eq}
use Rattle.std.specs.Str.{bytes_eq}
use Rattle.host_data.specs.host_text.Numbers.{fits}
use Rattle.host_data.specs.Tree.{Tree, null, boolean, number, text, array, fields, function, object, Items, Fields, no_fields, field, listed, paired, get, number_of, text_of, function_of, list_of, pairs_of, size, items_size, fields_size, nesting}
use Rattle.host_data.specs.View.{items_of}
use Rattle.host_data.specs.declared.data.Obj.{Obj}
use Rattle.jessie_values.specs.jessie_grammar.declared.syntax.Literal.{Literal}
use Rattle.jessie_values.specs.jessie_grammar.declared.syntax.Literal.TheVariants as l
use Rattle.jessie_values.specs.jessie_grammar.declared.syntax.Operator.{Operator}
use Rattle.jessie_values.specs.jessie_grammar.declared.syntax.Operator.TheVariants as o
use Rattle.jessie_values.specs.jessie_grammar.declared.syntax.Unary.{Unary}
use Rattle.jessie_values.specs.jessie_grammar.declared.syntax.Unary.TheVariants as u
use Rattle.jessie_values.specs.jessie_grammar.Syntax.{Routine}
use Rattle.jessie_values.specs.declared.reasons.Reason.{Reason}
use Rattle.jessie_values.specs.declared.reasons.Reason.TheVariants.{DivisionByZero, TooLarge}
use Rattle.jessie_values.specs.Reasons.{bad_step}
use Rattle.jessie_values.specs.Outcomes.{◌>>=◌, of_kind, there}
use Rattle.jessie_values.specs.Operators.{truth, most_bytes, in_range, in_size, of_both, divided, order_of, sameness}
use Rattle.jessie_values.specs.Dispatch.{operate, unary}
use Rattle.jessie_values.specs.Accesses.{field_at, index_at, list_items, place_in}
use Rattle.jessie_values.specs.Records.{deepest, made, made_array, made_record}
use Rattle.jessie_values.specs.BuiltIns.{first, second, third, keys_in, length_in, pushed, changed, replaced}
use Rattle.jessie_values.specs.Requests.{is_promise, promise_of, facet_name, functions_in, methods_of, when_call, far_call}
use Rattle.jessie_semantics.specs.AmountMath.{amount_call}
use Rattle.jessie_values.specs.Literals.{literal_tree}
use Rattle.jessie_semantics.specs.Charges.{cost, held_size, methods_size}
use Rattle.jessie_semantics.specs.Actions.{Bindings}
use Rattle.jessie_semantics.specs.Rules.{find_routine, when_asks, far_asks}
use Rattle.jessie_semantics.specs.Keeping.{AllHave, CallHas, method_fields}
use Rattle.jessie_semantics.proofs.Safe.{BoundHave, NamedBy, ResultHas, AmountHas, Payable, Closed}

-- values without parts have it, and with their parts arrays and records do, as far as they may be made
pub record Kept (W : Tree → Type 0) (X : List ℕ → Type 0) (rs : List Routine) : Type 0 where
  pub nothing : W null
  pub booleans : (b : Bool) → W (boolean b)
  pub numbers : (z : ℤ) → W (number z)
  pub texts : (t : List ℕ) → W (text t)
  pub functions : (f : List ℕ) (r : Routine) → find_routine f rs ≡ Some r → W (function r.name)
  pub bad_steps : (r : Reason) → W (bad_step r)
  pub words : (ms : Bindings) → W (array (items_of (map (λ m. text m.0) ms)))
  pub listed_have : (ts : Items) → W (array ts) → AllHave W (listed ts)
  pub paired_have : (fs : Fields) → W (fields fs) → BoundHave W (paired fs)
  pub arrays : (vs : List Tree) → AllHave W vs → ResultHas W (made_array vs)
  pub records : (fs : Bindings) → BoundHave W fs → NamedBy X fs → ResultHas W (made_record fs)
  pub changes : (x : List ℕ) (w : Tree) (fs : Fields) → W (fields fs) → W w → ResultHas W (made (fields (changed x w fs)))
  pub amounts : (x : List ℕ) (vs : List Tree) → AllHave W vs → AmountHas W (amount_call x vs)

abbrev Any : {A : Type 0} → A → Type 0
Any a = Unit {0}

any : {A E : Type 0} (r : Result A E) → ResultHas Any r
any (Ok a) = tt
any (Err r) = tt

chained : {A B : Type 0} (P : A → Type 0) (Q : B → Type 0) (r : Result A Reason) (f : A → Result B Reason) → ResultHas P r → ((x : A) → P x → ResultHas Q (f x)) → ResultHas Q (r >>= f)
chained P Q (Ok x) f h g = g x h
chained P Q (Err r) f h g = tt

picked : {A : Type 0} (P : A → Type 0) (b : Bool) (x y : Result A Reason) → ResultHas P x → ResultHas P y → ResultHas P (cond b x y)
picked P true x y h i = h
picked P false x y h i = i

of_both_has : {A B : Type 0} (P : B → Type 0) (x y : Option A) (f : A → A → Result B Reason) (other : Result B Reason) → ((a b : A) → ResultHas P (f a b)) → ResultHas P other → ResultHas P (of_both x y f other)
of_both_has P (Some a) (Some b) f other h i = h a b
of_both_has P (Some a) None f other h i = i
of_both_has P None y f other h i = i

made_either : (P : Tree → Type 0) (b : Bool) (v : Tree) → (b ≡ true → P v) → ResultHas P (cond b (Ok v) (Err TooLarge))
made_either P true v h = h refl
made_either P false v h = tt

pub made_has : (P : Tree → Type 0) (v : Tree) → (nat_le (nesting v) deepest ≡ true → P v) → ResultHas P (made v)
made_has P v h = made_either P (nat_le (nesting v) deepest) v h

abbrev OptionHas : {A : Type 0} → (A → Type 0) → Option A → Type 0
OptionHas P None = Unit {0}
OptionHas P (Some a) = P a

kind_has : {A : Type 0} (P : A → Type 0) (x : Option A) → OptionHas P x → ResultHas P (of_kind x)
kind_has P None h = tt
kind_has P (Some a) h = h

there_has : {A : Type 0} (P : A → Type 0) (x : Option A) → OptionHas P x → ResultHas P (there x)
there_has P None h = tt
there_has P (Some a) h = h

chosen : {A : Type 0} (P : A → Type 0) (b : Bool) (x y : Option A) → OptionHas P x → OptionHas P y → OptionHas P (cond b x y)
chosen P true x y h i = h
chosen P false x y h i = i

mapped : {A B : Type 0} (P : A → Type 0) (Q : B → Type 0) (f : A → B) (x : Option A) → OptionHas P x → ((a : A) → P a → Q (f a)) → OptionHas Q (option_map f x)
mapped P Q f None h g = tt
mapped P Q f (Some a) h g = g a h

held_least : (v : Tree) → held_size v ≤ size v
held_least null = omega arith
held_least (boolean b) = omega arith
held_least (number z) = omega arith
held_least (text t) = omega arith
held_least (array ts) = omega arith
held_least (fields fs) = omega arith
held_least (object o) = omega arith
held_least (function f) = omega arith

no_data : (x : ℕ) → x + 0 ≤ x + (0 + 0)
no_data x = omega arith

module _ (W : Tree → Type 0) (X : List ℕ → Type 0) (rs : List Routine) (k : Kept W X rs) where
  -- parts

  slice_has : (vs : List Tree) (i : ℕ) → AllHave W vs → OptionHas W (slice_get vs i)
  slice_has [] i h = tt
  slice_has (v ∷ vs) zero h = h.0
  slice_has (v ∷ vs) (suc i) h = slice_has vs i h.1

  set_has : (vs : List Tree) (i : ℕ) (w : Tree) → AllHave W vs → W w → AllHave W (slice_set vs i w)
  set_has [] i w h j = tt
  set_has (v ∷ vs) zero w h j = (j, h.1)
  set_has (v ∷ vs) (suc i) w h j = (h.0, set_has vs i w h.1 j)

  placed_has : (vs : List Tree) (i : Option ℕ) → AllHave W vs → OptionHas W (option_and_then (slice_get vs) i)
  placed_has vs None h = tt
  placed_has vs (Some i) h = slice_has vs i h

  get_has : (x : List ℕ) (fs : Fields) → BoundHave W (paired fs) → OptionHas W (get x fs)
  get_has x no_fields h = tt
  get_has x (field y v fs) h = chosen W (bytes_eq y x) (Some v) _ h.0 (get_has x fs h.1)

  all_end : (vs : List Tree) (w : Tree) → AllHave W vs → W w → AllHave W (vs ++ w ∷ [])
  all_end [] w h i = (i, tt)
  all_end (v ∷ vs) w h i = (h.0, all_end vs w h.1 i)

  literal_has : (c : Literal) → W (literal_tree c)
  literal_has (l.Number z) = k.numbers z
  literal_has (l.Text t) = k.texts t
  literal_has (l.Bool b) = k.booleans b
  literal_has l.Null = k.nothing

  field_has : (x : List ℕ) (v : Tree) → W v → ResultHas W (field_at x v)
  field_has x null h = tt
  field_has x (boolean b) h = tt
  field_has x (number z) h = tt
  field_has x (text t) h = tt
  field_has x (array ts) h = tt
  field_has x (fields fs) h = there_has W _ (get_has x fs (k.paired_have fs h))
  field_has x (object b) h = tt
  field_has x (function f) h = tt

  index_has : (v i : Tree) → W v → W i → ResultHas W (index_at v i)
  index_has null i h j = tt
  index_has (boolean b) i h j = tt
  index_has (number z) i h j = tt
  index_has (text t) i h j = tt
  index_has (array ts) i h j = chained Any W (of_kind (number_of i)) _ (any _) (λ z _. there_has W _ (placed_has (listed ts) (place_in (length (listed ts)) z) (k.listed_have ts h)))
  index_has (fields fs) i h j = chained Any W (of_kind (text_of i)) _ (any _) (λ x _. there_has W _ (get_has x fs (k.paired_have fs h)))
  index_has (object b) i h j = tt
  index_has (function f) i h j = tt

  list_has : (v : Tree) → W v → OptionHas (AllHave W) (list_of v)
  list_has null h = tt
  list_has (boolean b) h = tt
  list_has (number z) h = tt
  list_has (text t) h = tt
  list_has (array ts) h = k.listed_have ts h
  list_has (fields fs) h = tt
  list_has (object b) h = tt
  list_has (function f) h = tt

  items_have : (v : Tree) → W v → ResultHas (AllHave W) (list_items v)
  items_have v h = kind_has (AllHave W) (list_of v) (list_has v h)

  -- operators

  range_has : (z : ℤ) → ResultHas W (in_range z)
  range_has z = picked W (fits z) (Ok (number z)) _ (k.numbers z) tt

  size_has : (t : List ℕ) → ResultHas W (in_size t)
  size_has t = picked W (nat_le (length t) most_bytes) (Ok (text t)) (Err TooLarge) (k.texts t) tt

  divided_has : (b : ℤ) (r : Result Tree Reason) → ResultHas W r → ResultHas W (divided b r)
  divided_has b r h = picked W (int_eq b (pos 0)) (Err DivisionByZero) r tt h

  order_has : {A : Type 0} (r : Result A Reason) (f : A → Bool) → ResultHas W (r >>= λ x. Ok (boolean (f x)))
  order_has r f = chained Any W r _ (any r) (λ x _. k.booleans (f x))

  operate_has : (op : Operator) (v w : Tree) → W v → W w → ResultHas W (operate op v w)
  operate_has o.Or v w h i = order_has (truth w) (λ b. b)
  operate_has o.And v w h i = order_has (truth w) (λ b. b)
  operate_has o.Equal v w h i = order_has (sameness v w) (λ b. b)
  operate_has o.Unequal v w h i = order_has (sameness v w) not
  operate_has o.Less v w h i = order_has (order_of v w) _
  operate_has o.AtMost v w h i = order_has (order_of v w) _
  operate_has o.Greater v w h i = order_has (order_of v w) _
  operate_has o.AtLeast v w h i = order_has (order_of v w) _
  operate_has o.Add v w h i = of_both_has W (number_of v) (number_of w) _ _ (λ a b. range_has (a +ℤ b)) (of_both_has W (text_of v) (text_of w) _ _ (λ s t. size_has (s ++ t)) tt)
  operate_has o.Subtract v w h i = of_both_has W (number_of v) (number_of w) _ _ (λ a b. range_has (a -ℤ b)) tt
  operate_has o.Multiply v w h i = of_both_has W (number_of v) (number_of w) _ _ (λ a b. range_has (a *ℤ b)) tt
  operate_has o.Divide v w h i = of_both_has W (number_of v) (number_of w) _ _ (λ a b. divided_has b _ (range_has (int_div a b))) tt
  operate_has o.Remainder v w h i = of_both_has W (number_of v) (number_of w) _ _ (λ a b. divided_has b _ (range_has (int_rem a b))) tt

  unary_has : (op : Unary) (v : Tree) → W v → ResultHas W (unary op v)
  unary_has u.Not v h = order_has (truth v) not
  unary_has u.Negate v h = chained Any W (of_kind (number_of v)) _ (any _) (λ z _. range_has (neg_ℤ z))

  -- arguments

  first_has : (vs : List Tree) → AllHave W vs → W (first vs)
  first_has [] h = k.nothing
  first_has (v ∷ vs) h = h.0

  second_has : (vs : List Tree) → AllHave W vs → W (second vs)
  second_has [] h = k.nothing
  second_has (v ∷ vs) h = first_has vs h.1

  third_has : (vs : List Tree) → AllHave W vs → W (third vs)
  third_has [] h = k.nothing
  third_has (v ∷ vs) h = second_has vs h.1

  keys_have : (v : Tree) → ResultHas W (keys_in v)
  keys_have v = chained Any W (of_kind (pairs_of v)) _ (any _) (λ ms _. k.words ms)

  length_has : (v : Tree) → ResultHas W (length_in v)
  length_has null = tt
  length_has (boolean b) = tt
  length_has (number z) = tt
  length_has (text t) = k.numbers _
  length_has (array ts) = k.numbers _
  length_has (fields fs) = k.numbers _
  length_has (object b) = tt
  length_has (function f) = tt

  pushed_has : (v w : Tree) → W v → W w → ResultHas W (pushed v w)
  pushed_has v w h i = chained (AllHave W) W (of_kind (list_of v)) _ (kind_has (AllHave W) (list_of v) (list_has v h)) (λ vs j. k.arrays _ (all_end vs w j i))

  replaced_has : (v i w : Tree) → W v → W w → ResultHas W (replaced v i w)
  replaced_has null i w h j = tt
  replaced_has (boolean b) i w h j = tt
  replaced_has (number z) i w h j = tt
  replaced_has (text t) i w h j = tt
  replaced_has (array ts) i w h j = chained Any W (of_kind (number_of i)) _ (any _) (λ z _. chained Any W (there (place_in (length (listed ts)) z)) _ (any _) (λ n _. k.arrays _ (set_has (listed ts) n w (k.listed_have ts h) j)))
  replaced_has (fields fs) i w h j = chained_fields (of_kind (text_of i))
    where
      chained_fields : (r : Result (List ℕ) Reason) → ResultHas W (r >>= λ name. there (get name fs) >>= λ old. made (fields (changed name w fs)))
      chained_fields (Ok x) = chained Any W (there (get x fs)) _ (any _) (λ old _. k.changes x w fs h j)
      chained_fields (Err r) = tt
  replaced_has (object b) i w h j = tt
  replaced_has (function f) i w h j = tt

  -- requests

  promise_chosen : (b : Bool) (p : Obj) → (b ≡ true → is_promise p.kind ≡ true) → W (object p) → OptionHas (λ q. (is_promise q.kind ≡ true) × W (object q) × (size (object p) ≡ 1)) (cond b (Some p) None)
  promise_chosen true p e h = (e refl, h, refl)
  promise_chosen false p e h = tt

  promise_has : (v : Tree) → W v → OptionHas (λ p. (is_promise p.kind ≡ true) × W (object p) × (size v ≡ 1)) (promise_of v)
  promise_has null h = tt
  promise_has (boolean b) h = tt
  promise_has (number z) h = tt
  promise_has (text t) h = tt
  promise_has (array ts) h = tt
  promise_has (fields fs) h = tt
  promise_has (object p) h = promise_chosen (is_promise p.kind) p (λ e. e) h
  promise_has (function f) h = tt

  function_has : (v : Tree) → W v → OptionHas (λ f. W (function f) × (size v ≡ 1)) (function_of v)
  function_has null h = tt
  function_has (boolean b) h = tt
  function_has (number z) h = tt
  function_has (text t) h = tt
  function_has (array ts) h = tt
  function_has (fields fs) h = tt
  function_has (object p) h = tt
  function_has (function f) h = (h, refl)

  name_has : (v : Tree) → OptionHas (λ x. 1 + length x ≡ size v) (facet_name v)
  name_has null = tt
  name_has (boolean b) = tt
  name_has (number z) = tt
  name_has (text t) = chosen (λ x. 1 + length x ≡ 1 + length t) _ (Some t) None refl tt
  name_has (array ts) = tt
  name_has (fields fs) = tt
  name_has (object p) = tt
  name_has (function f) = tt

  -- a record of functions is that of the methods that are read of it
  functions_have : (fs : Fields) → OptionHas (λ ms. (method_fields ms ≡ fs) × (methods_size ms ≡ fields_size fs)) (functions_in (paired fs))
  functions_have no_fields = (refl, refl)
  functions_have (field x null fs) = tt
  functions_have (field x (boolean b) fs) = tt
  functions_have (field x (number z) fs) = tt
  functions_have (field x (text t) fs) = tt
  functions_have (field x (array ts) fs) = tt
  functions_have (field x (fields gs) fs) = tt
  functions_have (field x (object p) fs) = tt
  functions_have (field x (function f) fs) = mapped _ (λ ms. (method_fields ms ≡ field x (function f) fs) × (methods_size ms ≡ length x + 1 + fields_size fs)) (λ ms. (x, f) ∷ ms) (functions_in (paired fs)) (functions_have fs) (λ ms q. (ap (λ gs. field x (function f) gs) q.0, ap (λ n. length x + 1 + n) q.1))

  methods_have : (v : Tree) → W v → OptionHas (λ ms. W (fields (method_fields ms)) × (1 + methods_size ms ≡ size v)) (methods_of v)
  methods_have null h = tt
  methods_have (boolean b) h = tt
  methods_have (number z) h = tt
  methods_have (text t) h = tt
  methods_have (array ts) h = tt
  methods_have (fields fs) h = more (functions_in (paired fs)) (functions_have fs)
    where
      more : (x : Option (List (List ℕ × List ℕ))) → OptionHas (λ ms. (method_fields ms ≡ fs) × (methods_size ms ≡ fields_size fs)) x → OptionHas (λ ms. W (fields (method_fields ms)) × (1 + methods_size ms ≡ 1 + fields_size fs)) x
      more None q = tt
      more (Some ms) q = (subst (λ gs. W (fields gs)) (sym q.0) h, ap (λ n. 1 + n) q.1)
  methods_have (object p) h = tt
  methods_have (function f) h = tt

  when_parts : (a b v : Tree) (n : ℕ) → W a → W b → W v → size a + (size b + held_size v) ≤ n
      → ResultHas (λ w. CallHas W (when_asks w) × (cost (when_asks w) ≤ 100 + n)) (of_kind (promise_of a) >>= λ p. (of_kind (function_of b) >>= λ f. Ok (record { promise = p; function = f; held = v })))
  when_parts a b v n h i j q =
      chained (λ p. (is_promise p.kind ≡ true) × W (object p) × (size a ≡ 1)) _ (of_kind (promise_of a)) _ (kind_has _ (promise_of a) (promise_has a h))
      (λ p x. chained (λ f. W (function f) × (size b ≡ 1)) _ (of_kind (function_of b)) _ (kind_has _ (function_of b) (function_has b i))
      (λ f y. ((x.0, x.1, y.0, j), omega (arith, x.2, y.1, q))))

  far_parts : (a b v : Tree) (n : ℕ) → W a → W b → W v → size a + (size b + held_size v) ≤ n
      → ResultHas (λ f. CallHas W (far_asks f) × (cost (far_asks f) ≤ 100 + n)) (of_kind (facet_name a) >>= λ x. (of_kind (methods_of b) >>= λ ms. Ok (record { name = x; methods = ms; held = v })))
  far_parts a b v n h i j q =
      chained (λ x. 1 + length x ≡ size a) _ (of_kind (facet_name a)) _ (kind_has _ (facet_name a) (name_has a))
      (λ x e. chained (λ ms. W (fields (method_fields ms)) × (1 + methods_size ms ≡ size b)) _ (of_kind (methods_of b)) _ (kind_has _ (methods_of b) (methods_have b i))
      (λ ms y. ((y.0, j), omega (arith, e, y.1, q))))

  shown_two : (a b : Tree) → size a + (size b + held_size null) ≤ items_size (items_of (a ∷ b ∷ []))
  shown_two a b = omega arith

  shown_three : (a b v : Tree) (vs : List Tree) → size a + (size b + held_size v) ≤ items_size (items_of (take 3 (a ∷ b ∷ v ∷ vs)))
  shown_three a b v vs = let h = held_least v in omega (arith, h)

  when_has : (vs : List Tree) → AllHave W vs → ResultHas (λ w. Payable W vs (when_asks w)) (when_call vs)
  when_has [] h = tt
  when_has (a ∷ []) h = nothing_follows (of_kind (promise_of a))
    where
      nothing_follows : (r : Result Obj Reason) → ResultHas (λ w. Payable W (a ∷ []) (when_asks w)) (r >>= λ p. (of_kind (function_of null) >>= λ f. Ok (record { promise = p; function = f; held = null })))
      nothing_follows (Ok p) = tt
      nothing_follows (Err r) = tt
  when_has (a ∷ b ∷ []) h = when_parts a b null _ h.0 h.1.0 k.nothing (shown_two a b)
  when_has (a ∷ b ∷ v ∷ vs) h = when_parts a b v _ h.0 h.1.0 h.1.1.0 (shown_three a b v vs)

  far_has : (vs : List Tree) → AllHave W vs → ResultHas (λ f. Payable W vs (far_asks f)) (far_call vs)
  far_has [] h = tt
  far_has (a ∷ []) h = nothing_follows (of_kind (facet_name a))
    where
      nothing_follows : (r : Result (List ℕ) Reason) → ResultHas (λ f. Payable W (a ∷ []) (far_asks f)) (r >>= λ x. (of_kind (methods_of null) >>= λ ms. Ok (record { name = x; methods = ms; held = null })))
      nothing_follows (Ok x) = tt
      nothing_follows (Err r) = tt
  far_has (a ∷ b ∷ []) h = far_parts a b null _ h.0 h.1.0 k.nothing (shown_two a b)
  far_has (a ∷ b ∷ v ∷ vs) h = far_parts a b v _ h.0 h.1.0 h.1.1.0 (shown_three a b v vs)

  pub closed : Closed W X rs
  closed = record {
    nothing = k.nothing;
    bad_steps = k.bad_steps;
    literals = literal_has;
    functions = k.functions;
    arrays = k.arrays;
    records = k.records;
    parts = items_have;
    at_fields = field_has;
    at_indices = index_has;
    unaries = unary_has;
    operators = operate_has;
    hardens = first_has;
    key_lists = λ vs h. keys_have (first vs);
    lengths = λ vs h. length_has (first vs);
    pushes = λ vs h. pushed_has (first vs) (second vs) (first_has vs h) (second_has vs h);
    puts = λ vs h. replaced_has (first vs) (second vs) (third vs) (first_has vs h) (third_has vs h);
    amounts = k.amounts;
    whens = when_has;
    fars = far_has;
  }
