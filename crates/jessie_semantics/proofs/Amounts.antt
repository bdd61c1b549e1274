-- What AmountMath makes of values: amounts of brands that it was given, and refusals that show no object.
use Rattle.std.proofs.Common.{◌≡◌, ℕ, zero, suc, ◌+◌, ◌≤◌, max, List, [], ◌∷◌, Bool, true, false, cond, Option, Some, None, refl, sym, subst, map, arith}
use Rattle.std.specs.Prelude.{IfSome, Result, Ok, Err, option_map, option_and_then, ◌==◌, codes}
use Rattle.std.proofs.lemmas.Bool.Decides.{nat_tests}
use Rattle.host_data.specs.amount_math.Content.{Content, entries}
use Rattle.host_data.specs.amount_math.ValueView.{ValueView, with_content}
use Rattle.host_data.specs.amount_math.declared.Kind.{Kind}
use Rattle.host_data.specs.amount_math.declared.Kind.TheVariants.{Nat, Set, Bag}
use Rattle.host_data.specs.Tree.{Tree, null, boolean, number, text, array, fields, object, function, Fields, no_fields, field, get, field_of, object_of, nesting, items_nesting, fields_nesting, Ordered, OrderedItems, OrderedFields}
use Rattle.host_data.specs.View.{items_of}
use Rattle.host_data.specs.declared.data.ObjKind.{ObjKind}
use Rattle.host_data.specs.declared.data.ObjKind.TheVariants.{Ertp, Zoe, Timer, Brand, Issuer, Mint, Purse, Deposit, Payment, Installation, Instance, Zcf, Seat, Zseat, Zmint, Facet, Promise}
use Rattle.host_data.specs.Amounts.{amount_fields, IsValueOf, kind_of_brand, value_in}
use Rattle.host_data.specs.Values.{brand_tree, value_tree, amount_tree, content_tree, key_tree, counted_tree}
use Rattle.host_data.proofs.ValuesRead.{value_has}
use Rattle.refusals.specs.Codes as told
use Rattle.refusals.specs.Codes.{Shown, bad_value, refusal_tree, shown_by, shown_trees}
use Rattle.refusals.specs.Outcomes.{bind, need, wanted}
use Rattle.refusals.specs.declared.codes.Refusal.{Refusal}
use Rattle.refusals.proofs.Plainly.{nests, ordered}
use Rattle.jessie_semantics.specs.Given.{brand_in, worth_in, amount_made, amount_given, amount_of_brand, two_amounts, two_values}
use Rattle.jessie_semantics.specs.Worths.{checked, in_bounds, first_past, has, sum_in, difference_in, least_in, greatest_in}
use Rattle.host_data.specs.amount_math.ValueView.{bound}
use Rattle.jessie_semantics.specs.AmountMath.{shown, worked, answer, answer_of, argument, function_named, amount_call}
use Rattle.jessie_semantics.specs.declared.amount_arguments.OneAmount.{OneAmount}
use Rattle.jessie_semantics.specs.declared.amount_arguments.TwoAmounts.{TwoAmounts}
use Rattle.jessie_semantics.specs.declared.functions.AmountFunction.{AmountFunction}
use Rattle.jessie_semantics.specs.declared.functions.AmountFunction.TheVariants as f
use Rattle.jessie_semantics.specs.Keeping.{Known, Within, ItemsWithin, AllHave}
use Rattle.jessie_semantics.specs.Form.{InForm}
use Rattle.jessie_semantics.specs.Naming.{FieldNamesAre, HasFieldNames, IsFieldName, ItemNamesAre}
use Rattle.jessie_semantics.proofs.Safe.{ResultHas, AmountHas}

abbrev Any : {A : Type 0} → A → Type 0
Any a = Unit {0}

any : {A E : Type 0} (r : Result A E) → ResultHas Any r
any (Ok a) = tt
any (Err r) = tt

abbrev OptionHas : {A : Type 0} → (A → Type 0) → Option A → Type 0
OptionHas P None = Unit {0}
OptionHas P (Some a) = P a

chosen : {A : Type 0} (P : A → Type 0) (b : Bool) (x y : Option A) → OptionHas P x → OptionHas P y → OptionHas P (cond b x y)
chosen P true x y h i = h
chosen P false x y h i = i

picked : {A E : Type 0} (P : A → Type 0) (b : Bool) (x y : Result A E) → ResultHas P x → ResultHas P y → ResultHas P (cond b x y)
picked P true x y h i = h
picked P false x y h i = i

and_then : {A B : Type 0} (P : A → Type 0) (Q : B → Type 0) (x : Option A) (g : A → Option B) → OptionHas P x → ((a : A) → P a → OptionHas Q (g a)) → OptionHas Q (option_and_then g x)
and_then P Q None g h i = tt
and_then P Q (Some a) g h i = i a h

mapped : {A B : Type 0} (P : A → Type 0) (Q : B → Type 0) (g : A → B) (x : Option A) → OptionHas P x → ((a : A) → P a → Q (g a)) → OptionHas Q (option_map g x)
mapped P Q g None h i = tt
mapped P Q g (Some a) h i = i a h

any_option : {A : Type 0} (x : Option A) → OptionHas Any x
any_option None = tt
any_option (Some a) = tt

-- steps of a call

step_on : {A B : Type 0} (P : A → Type 0) (Q : B → Type 0) (r : Result A Refusal) (g : A → Result B Refusal) → ResultHas P r → ((x : A) → P x → ResultHas Q (g x)) → ResultHas Q (bind r g)
unfolding bind
step_on P Q (Ok x) g h i = i x h
step_on P Q (Err r) g h i = tt

wanted_has : {A : Type 0} (P : A → Type 0) (o : Option A) (r : Refusal) → OptionHas P o → ResultHas P (wanted o r)
unfolding wanted
wanted_has P None r h = tt
wanted_has P (Some a) r h = h

needed : (b : Bool) (r : Refusal) → ResultHas (λ _. b ≡ true) (need b r)
unfolding need
needed true r = refl
needed false r = tt

-- a value that is read is of the kind
worth_has : (kind : Kind) (t : Tree) → ResultHas (λ w. w.kind ≡ kind) (worth_in kind t)
worth_has kind t = wanted_has (λ w. w.kind ≡ kind) (value_in kind t) bad_value (by (value_in kind t) (value_has kind t))
  where
    by : (o : Option ValueView) → IfSome o (IsValueOf kind) → OptionHas (λ w. w.kind ≡ kind) o
    by None h = tt
    by (Some w) h = h.kind_is

one_number : (a b : ℕ) → (a == b) ≡ true → a ≡ b
one_number a b e = grind (arith, nat_tests)

-- amounts have it whose brand has it, and what else AmountMath makes has it
pub record AmountsKept (W : Tree → Type 0) : Type 0 where
  pub nothing_given : W null
  pub truths : (b : Bool) → W (boolean b)
  pub fields_have : (x : List ℕ) (t : Tree) → W t → OptionHas W (field_of x t)
  pub values : (w : ValueView) → W (value_tree w)
  pub amount_trees : (n : ℕ) (w : ValueView) → W (brand_tree w.kind n) → W (amount_tree (record { brand = n; value = w }))
  pub refusals : (r : Refusal) → W (refusal_tree r)

module _ (W : Tree → Type 0) (k : AmountsKept W) where
  abbrev BrandHas : Kind → ℕ → Type 0
  BrandHas kind n = W (brand_tree kind n)

  branded : (o : ObjKind) (n : ℕ) → W (object (record { kind = o; number = n })) → OptionHas (λ kind. BrandHas kind n) (kind_of_brand o)
  branded Ertp n h = tt
  branded Zoe n h = tt
  branded Timer n h = tt
  branded (Brand kind) n h = h
  branded Issuer n h = tt
  branded Mint n h = tt
  branded Purse n h = tt
  branded Deposit n h = tt
  branded Payment n h = tt
  branded Installation n h = tt
  branded Instance n h = tt
  branded Zcf n h = tt
  branded Seat n h = tt
  branded Zseat n h = tt
  branded Zmint n h = tt
  branded Facet n h = tt
  branded Promise n h = tt

  object_has : (t : Tree) → W t → OptionHas (λ o. W (object o)) (object_of t)
  object_has null h = tt
  object_has (boolean b) h = tt
  object_has (number z) h = tt
  object_has (text t) h = tt
  object_has (array ts) h = tt
  object_has (fields fs) h = tt
  object_has (object o) h = h
  object_has (function x) h = tt

  brand_has : (t : Tree) → W t → OptionHas (λ own. BrandHas own.kind own.number) (brand_in t)
  brand_has t h = and_then (λ o. W (object o)) _ (object_of t) _ (object_has t h) (λ o i. mapped (λ kind. BrandHas kind o.number) _ _ (kind_of_brand o.kind) (branded o.kind o.number i) (λ kind j. j))

  amount_has : (t : Tree) → W t → OptionHas (λ a. BrandHas a.kind a.brand) (amount_fields t)
  amount_has t h = chosen (λ a. BrandHas a.kind a.brand) _ _ None
      (and_then (λ o. W (object o)) _ (option_and_then object_of (field_of (codes "brand") t)) _
      (and_then W (λ o. W (object o)) (field_of (codes "brand") t) object_of (k.fields_have (codes "brand") t h) object_has)
      (λ o i. and_then (λ kind. BrandHas kind o.number) _ (kind_of_brand o.kind) _ (branded o.kind o.number i)
      (λ kind j. mapped Any _ _ (field_of (codes "value") t) (any_option _) (λ v _. j)))) tt

  abbrev One : OneAmount → Type 0
  One a = BrandHas a.value.kind a.brand

  abbrev Two : TwoAmounts → Type 0
  Two a = BrandHas a.left.kind a.brand × BrandHas a.right.kind a.brand

  made_has : (v w : Tree) → W v → ResultHas One (amount_made v w)
  unfolding amount_made
  made_has v w h = step_on (λ own. BrandHas own.kind own.number) One _ _ (wanted_has _ (brand_in v) _ (brand_has v h))
      (λ own i. step_on (λ x. x.kind ≡ own.kind) One _ _ (worth_has own.kind w) (λ x e. subst (λ kind. BrandHas kind own.number) (sym e) i))

  given_has : (v : Tree) → W v → ResultHas One (amount_given v)
  unfolding amount_given
  given_has v h = step_on (λ a. BrandHas a.kind a.brand) One _ _ (wanted_has _ (amount_fields v) _ (amount_has v h))
      (λ a i. step_on (λ x. x.kind ≡ a.kind) One _ _ (worth_has a.kind a.value) (λ x e. subst (λ kind. BrandHas kind a.brand) (sym e) i))

  of_brand_has : (v w : Tree) → W v → ResultHas One (amount_of_brand v w)
  unfolding amount_of_brand
  of_brand_has v w h = step_on (λ own. BrandHas own.kind own.number) One _ _ (wanted_has _ (brand_in v) _ (brand_has v h))
      (λ own i. step_on Any One _ _ (any _) (λ a _. step_on (λ _. (a.brand == own.number) ≡ true) One _ _ (needed _ _)
      (λ _ e. step_on (λ x. x.kind ≡ own.kind) One _ _ (worth_has own.kind a.value)
      (λ x q. subst (λ kind. BrandHas kind a.brand) (sym q) (subst (BrandHas own.kind) (sym (one_number a.brand own.number e)) i)))))

  two_have : (v w : Tree) → W v → ResultHas Two (two_amounts v w)
  unfolding two_amounts two_values
  two_have v w h = step_on (λ a. BrandHas a.kind a.brand) Two _ _ (wanted_has _ (amount_fields v) _ (amount_has v h))
      (λ a i. step_on Any Two _ _ (any _) (λ b _. step_on Any Two _ _ (any _)
      (λ _ _. step_on (λ x. x.kind ≡ a.kind) Two _ _ (worth_has a.kind a.value)
      (λ x e. step_on (λ y. y.kind ≡ a.kind) Two _ _ (worth_has a.kind b.value)
      (λ y q. (subst (λ kind. BrandHas kind a.brand) (sym e) i, subst (λ kind. BrandHas kind a.brand) (sym q) i))))))

  shown_has : (n : ℕ) (w : ValueView) → BrandHas w.kind n → W (shown n w)
  shown_has n w h = k.amount_trees n w h

  one_shown : (r : Result OneAmount Refusal) (g : OneAmount → Tree) → ResultHas One r → ((a : OneAmount) → One a → W (g a)) → ResultHas W (bind r (λ a. Ok (g a)))
  one_shown r g h i = step_on One W r _ h i

  two_tested : (r : Result TwoAmounts Refusal) (g : TwoAmounts → Bool) → ResultHas W (bind r (λ a. Ok (boolean (g a))))
  two_tested r g = step_on Any W r _ (any r) (λ a _. k.truths (g a))

  abbrev Keeps : (ValueView → ValueView → Result ValueView Refusal) → Type 0
  Keeps g = (a b : ValueView) (n : ℕ) → BrandHas a.kind n → BrandHas b.kind n → ResultHas (λ w. BrandHas w.kind n) (g a b)

  two_worked : (g : ValueView → ValueView → Result ValueView Refusal) (v w : Tree) → W v → Keeps g → ResultHas W (worked g v w)
  two_worked g v w h i = step_on Two W _ _ (two_have v w h) (λ a j. step_on (λ x. BrandHas x.kind a.brand) W _ _ (i a.left a.right a.brand j.0 j.1) (λ x q. shown_has a.brand x q))

  bounded : (w : ValueView) (o : Option (List ℕ)) (n : ℕ) → BrandHas w.kind n → ResultHas (λ x. BrandHas x.kind n) (in_bounds w o)
  bounded w (Some x) n h = tt
  bounded w None n h = picked (λ x. BrandHas x.kind n) _ (Ok w) (Err _) h tt

  checked_has : (w : ValueView) (n : ℕ) → BrandHas w.kind n → ResultHas (λ x. BrandHas x.kind n) (checked w)
  unfolding checked
  checked_has w n h = bounded w (first_past (bound w.kind) w.content) n h

  sum_keeps : Keeps sum_in
  sum_keeps a b n h i = checked_has (with_content a _) n h

  difference_keeps : Keeps difference_in
  difference_keeps a b n h i = picked (λ x. BrandHas x.kind n) (has a b) (Ok _) (Err _) h tt

  least_keeps : Keeps least_in
  least_keeps a b n h i = picked (λ x. BrandHas x.kind n) (has b a) (Ok a) _ h (picked (λ x. BrandHas x.kind n) (has a b) (Ok b) (Err _) i tt)

  greatest_keeps : Keeps greatest_in
  greatest_keeps a b n h i = picked (λ x. BrandHas x.kind n) (has a b) (Ok a) _ h (picked (λ x. BrandHas x.kind n) (has b a) (Ok b) (Err _) i tt)

  answer_has : (g : AmountFunction) (v w : Tree) → W v → W w → ResultHas W (answer g v w)
  answer_has f.Make v w h i = one_shown (amount_made v w) _ (made_has v w h) (λ a j. shown_has a.brand a.value j)
  answer_has f.MakeEmpty v w h i = step_on (λ own. BrandHas own.kind own.number) W _ _ (wanted_has _ (brand_in v) _ (brand_has v h)) (λ own j. shown_has own.number _ j)
  answer_has f.MakeEmptyFromAmount v w h i = one_shown (amount_given v) _ (given_has v h) (λ a j. shown_has a.brand _ j)
  answer_has f.IsEmpty v w h i = one_shown (amount_given v) _ (given_has v h) (λ a j. k.truths _)
  answer_has f.IsGte v w h i = two_tested (two_amounts v w) _
  answer_has f.IsEqual v w h i = two_tested (two_amounts v w) _
  answer_has f.Add v w h i = two_worked sum_in v w h sum_keeps
  answer_has f.Subtract v w h i = two_worked difference_in v w h difference_keeps
  answer_has f.Min v w h i = two_worked least_in v w h least_keeps
  answer_has f.Max v w h i = two_worked greatest_in v w h greatest_keeps
  answer_has f.Coerce v w h i = one_shown (amount_of_brand v w) _ (of_brand_has v w h) (λ a j. shown_has a.brand a.value j)
  answer_has f.GetValue v w h i = one_shown (amount_of_brand v w) _ (of_brand_has v w h) (λ a j. k.values a.value)

  argument_has : (i : ℕ) (vs : List Tree) → AllHave W vs → W (argument i vs)
  argument_has i [] h = k.nothing_given
  argument_has zero (v ∷ vs) h = h.0
  argument_has (suc i) (v ∷ vs) h = argument_has i vs h.1

  answered : (r : Result Tree Refusal) → ResultHas W r → AmountHas W r
  answered (Ok v) h = h
  answered (Err r) h = k.refusals r

  named_has : (o : Option AmountFunction) (x : List ℕ) (vs : List Tree) → AllHave W vs → AmountHas W (answer_of o x vs)
  named_has None x vs h = k.refusals _
  named_has (Some g) x vs h = answered _ (answer_has g (argument 0 vs) (argument 1 vs) (argument_has 0 vs h) (argument_has 1 vs h))

  pub amounts_have : (x : List ℕ) (vs : List Tree) → AllHave W vs → AmountHas W (amount_call x vs)
  unfolding amount_call
  amounts_have x vs h = named_has (function_named x) x vs h

-- ---- what is known

keys_within : (K : Known) (es : List (List ℕ × ℕ)) → ItemsWithin K (items_of (map key_tree es))
keys_within K [] = tt
keys_within K (e ∷ es) = (tt, keys_within K es)

counted_within : (K : Known) (es : List (List ℕ × ℕ)) → ItemsWithin K (items_of (map counted_tree es))
counted_within K [] = tt
counted_within K (e ∷ es) = ((tt, (tt, tt)), counted_within K es)

content_within : (K : Known) (kind : Kind) (c : Content) → Within K (content_tree kind c)
content_within K Nat c = tt
content_within K Set c = keys_within K (entries c)
content_within K Bag c = counted_within K (entries c)

value_within : (K : Known) (w : ValueView) → Within K (value_tree w)
unfolding value_tree
value_within K w = content_within K w.kind w.content

amount_within : (K : Known) (n : ℕ) (w : ValueView) → Within K (brand_tree w.kind n) → Within K (amount_tree (record { brand = n; value = w }))
unfolding amount_tree
amount_within K n w h = (h, (value_within K w, tt))

shown_within : (K : Known) (ss : List Shown) → ItemsWithin K (items_of (shown_trees ss))
shown_within K [] = tt
shown_within K (told.number z ∷ ss) = (tt, shown_within K ss)
shown_within K (told.words x ∷ ss) = (tt, shown_within K ss)
shown_within K (told.worth w ∷ ss) = (value_within K w, shown_within K ss)

refusal_within : (K : Known) (r : Refusal) → Within K (refusal_tree r)
unfolding refusal_tree
refusal_within K r = (tt, (shown_within K (shown_by r), tt))

get_within : (K : Known) (x : List ℕ) (fs : Fields) → Within K (fields fs) → OptionHas (Within K) (get x fs)
get_within K x no_fields h = tt
get_within K x (field y v fs) h = chosen (Within K) _ (Some v) _ h.0 (get_within K x fs h.1)

field_within : (K : Known) (x : List ℕ) (t : Tree) → Within K t → OptionHas (Within K) (field_of x t)
field_within K x null h = tt
field_within K x (boolean b) h = tt
field_within K x (number z) h = tt
field_within K x (text t) h = tt
field_within K x (array ts) h = tt
field_within K x (fields fs) h = get_within K x fs h
field_within K x (object o) h = tt
field_within K x (function g) h = tt

pub amounts_within : (K : Known) (x : List ℕ) (vs : List Tree) → AllHave (Within K) vs → AmountHas (Within K) (amount_call x vs)
amounts_within K = amounts_have (Within K) (record {
  nothing_given = tt;
  truths = λ b. tt;
  fields_have = field_within K;
  values = value_within K;
  amount_trees = amount_within K;
  refusals = refusal_within K;
})

-- ---- data in form

most_left : (a b n : ℕ) → max a b ≤ n → a ≤ n
most_left a b n h = grind arith

most_right : (a b n : ℕ) → max a b ≤ n → b ≤ n
most_right a b n h = grind arith

most_both : (a b n : ℕ) → a ≤ n → b ≤ n → max a b ≤ n
most_both a b n h i = grind arith

deeper : (n m : ℕ) → n ≤ m → 1 + n ≤ suc m
deeper n m h = omega arith

keys_ordered : (es : List (List ℕ × ℕ)) → OrderedItems (items_of (map key_tree es))
keys_ordered [] = tt
keys_ordered (e ∷ es) = (tt, keys_ordered es)

keys_flat : (es : List (List ℕ × ℕ)) → items_nesting (items_of (map key_tree es)) ≤ 1
keys_flat [] = omega arith
keys_flat (e ∷ es) = most_both 0 (items_nesting (items_of (map key_tree es))) 1 (omega arith) (keys_flat es)

counted_ordered : (es : List (List ℕ × ℕ)) → OrderedItems (items_of (map counted_tree es))
counted_ordered [] = tt
counted_ordered (e ∷ es) = ((tt, (tt, tt)), counted_ordered es)

counted_flat : (es : List (List ℕ × ℕ)) → items_nesting (items_of (map counted_tree es)) ≤ 1
counted_flat [] = omega arith
counted_flat (e ∷ es) = most_both 1 (items_nesting (items_of (map counted_tree es))) 1 (omega arith) (counted_flat es)

-- in order, and nests so deep at most
abbrev Shallow : ℕ → Tree → Type 0
Shallow n t = Ordered t × (nesting t ≤ n)

content_form : (kind : Kind) (c : Content) → Shallow 2 (content_tree kind c)
content_form Nat c = (tt, omega arith)
content_form Set c = (keys_ordered (entries c), deeper _ 1 (keys_flat (entries c)))
content_form Bag c = (counted_ordered (entries c), deeper _ 1 (counted_flat (entries c)))

value_form : (w : ValueView) → Shallow 2 (value_tree w)
unfolding value_tree
value_form w = content_form w.kind w.content

within_form : (n : ℕ) (t : Tree) → n ≤ 32 → Shallow n t → InForm t
within_form n t h i = (i.0, let q = i.1 in omega (arith, q))

amount_form : (n : ℕ) (w : ValueView) → InForm (amount_tree (record { brand = n; value = w }))
unfolding amount_tree
amount_form n w = let v = value_form w in within_form 3 (amount_tree (record { brand = n; value = w })) (omega arith) ((tt, refl, (v.0, tt, tt)), deeper _ 2 (most_both 0 _ 2 (omega arith) (most_both (nesting (value_tree w)) 0 2 v.1 (omega arith))))

refusal_form : (r : Refusal) → InForm (refusal_tree r)
refusal_form r = (ordered r, omega (arith, nests r))

get_form : (x : List ℕ) (fs : Fields) → OrderedFields fs → fields_nesting fs ≤ 32 → OptionHas InForm (get x fs)
get_form x no_fields h i = tt
get_form x (field y v fs) h i = chosen InForm _ (Some v) _ (h.0, most_left (nesting v) (fields_nesting fs) 32 i) (get_form x fs h.2 (most_right (nesting v) (fields_nesting fs) 32 i))

one_in : (n : ℕ) → 1 + n ≤ 32 → n ≤ 32
one_in n h = omega arith

field_form : (x : List ℕ) (t : Tree) → InForm t → OptionHas InForm (field_of x t)
field_form x null h = tt
field_form x (boolean b) h = tt
field_form x (number z) h = tt
field_form x (text t) h = tt
field_form x (array ts) h = tt
field_form x (fields fs) h = get_form x fs h.0 (one_in _ h.1)
field_form x (object o) h = tt
field_form x (function g) h = tt

pub amounts_in_form : (x : List ℕ) (vs : List Tree) → AllHave InForm vs → AmountHas InForm (amount_call x vs)
amounts_in_form = amounts_have InForm (record {
  nothing_given = (tt, omega arith);
  truths = λ b. (tt, omega arith);
  fields_have = field_form;
  values = λ w. within_form 2 _ (omega arith) (value_form w);
  amount_trees = λ n w h. amount_form n w;
  refusals = refusal_form;
})

-- ---- names

abbrev NamedItems : List Tree → Type 0
NamedItems vs = ItemNamesAre IsFieldName (items_of vs)

keys_named : (es : List (List ℕ × ℕ)) → NamedItems (map key_tree es)
keys_named [] = tt
keys_named (e ∷ es) = (tt, keys_named es)

counted_named : (es : List (List ℕ × ℕ)) → NamedItems (map counted_tree es)
counted_named [] = tt
counted_named (e ∷ es) = ((tt, (tt, tt)), counted_named es)

content_named : (kind : Kind) (c : Content) → HasFieldNames (content_tree kind c)
content_named Nat c = tt
content_named Set c = keys_named (entries c)
content_named Bag c = counted_named (entries c)

value_named : (w : ValueView) → HasFieldNames (value_tree w)
unfolding value_tree
value_named w = content_named w.kind w.content

amount_named : (n : ℕ) (w : ValueView) → HasFieldNames (amount_tree (record { brand = n; value = w }))
unfolding amount_tree
amount_named n w = (refl, tt, (refl, value_named w, tt))

shown_named : (ss : List Shown) → NamedItems (shown_trees ss)
shown_named [] = tt
shown_named (told.number z ∷ ss) = (tt, shown_named ss)
shown_named (told.words x ∷ ss) = (tt, shown_named ss)
shown_named (told.worth w ∷ ss) = (value_named w, shown_named ss)

refusal_named : (r : Refusal) → HasFieldNames (refusal_tree r)
unfolding refusal_tree
refusal_named r = (refl, tt, (refl, shown_named (shown_by r), tt))

get_named : (x : List ℕ) (fs : Fields) → FieldNamesAre IsFieldName fs → OptionHas HasFieldNames (get x fs)
get_named x no_fields h = tt
get_named x (field y v fs) h = chosen HasFieldNames _ (Some v) _ h.1 (get_named x fs h.2)

field_named : (x : List ℕ) (t : Tree) → HasFieldNames t → OptionHas HasFieldNames (field_of x t)
field_named x null h = tt
field_named x (boolean b) h = tt
field_named x (number z) h = tt
field_named x (text t) h = tt
field_named x (array ts) h = tt
field_named x (fields fs) h = get_named x fs h
field_named x (object o) h = tt
field_named x (function g) h = tt

pub amounts_named : (x : List ℕ) (vs : List Tree) → AllHave HasFieldNames vs → AmountHas HasFieldNames (amount_call x vs)
amounts_named = amounts_have HasFieldNames (record {
  nothing_given = tt;
  truths = λ b. tt;
  fields_have = field_named;
  values = value_named;
  amount_trees = λ n w h. amount_named n w;
  refusals = refusal_named;
})
