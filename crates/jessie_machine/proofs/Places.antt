-- Names and their places, and lists of data beside what they stand for.
use Rattle.std.proofs.Common.{◌≡◌, ℕ, zero, suc, ◌+◌, ◌-◌, ◌<◌, ◌≤◌, List, [], ◌∷◌, ◌++◌, Bool, true, false, cond, map, Option, Some, None, option_map, refl, sym, ap, subst, ◌∙◌, length, get_or, take, arith}
use Rattle.std.specs.Prelude.{slice_get, slice_set, slice_index_or, ◌||◌}
use Rattle.std.proofs.lemmas.Option.{slice_get-map}
use Rattle.std.proofs.lemmas.List.{take_more, take_all, length-take}
use Rattle.std.specs.Borrow.{Bor}
use Rattle.std.specs.Option.{option_copied}
use Rattle.std.specs.Str.{bytes_eq}
use Rattle.jessie_semantics.specs.host_data.Tree.{Tree, null}
use Rattle.jessie_semantics.specs.host_data.View.{tree, trees, named_trees}
use Rattle.jessie_semantics.specs.host_data.declared.data.Data.{Data}
use Rattle.jessie_index.specs.jessie_values.declared.reasons.Reason.{Reason}
use Rattle.jessie_index.specs.jessie_values.Reasons.{bad_step}
use Rattle.jessie_semantics.specs.Actions.{Bindings, State, went, fails, first_of, look, is_bound, rebind, put}
use Rattle.jessie_semantics.specs.Runs.{throws, came, halted, Computes}
use Rattle.jessie_machine.specs.Stops.{halt}
use Rattle.jessie_machine.specs.declared.stop.Stop.{Stop}
use Rattle.jessie_index.specs.Places as locals
use Rattle.jessie_machine.specs.Machine.{place, current, changes, changed_at, value_at, local_at, set_value, head_or, tail_of, or_else}

-- lists of data and of names with data

pub trees-push : (ds : List Data) (d : Data) → trees (ds ++ d ∷ []) ≡ trees ds ++ tree d ∷ []
trees-push [] d = refl
trees-push (x ∷ ds) d = ap (λ ts. tree x ∷ ts) (trees-push ds d)

pub named_trees-push : (bs : List (List ℕ × Data)) (x : List ℕ) (d : Data) → named_trees (bs ++ (x, d) ∷ []) ≡ named_trees bs ++ (x, tree d) ∷ []
named_trees-push [] x d = refl
named_trees-push (c ∷ bs) x d = ap (λ r. (c.0, tree c.1) ∷ r) (named_trees-push bs x d)

pub named_trees_length : (bs : List (List ℕ × Data)) → length (named_trees bs) ≡ length bs
named_trees_length [] = refl
named_trees_length (b ∷ bs) = ap suc (named_trees_length bs)

pub named_trees-take : (n : ℕ) (bs : List (List ℕ × Data)) → named_trees (take n bs) ≡ take n (named_trees bs)
named_trees-take zero bs = refl
named_trees-take (suc n) [] = refl
named_trees-take (suc n) (b ∷ bs) = ap (λ ts. (b.0, tree b.1) ∷ ts) (named_trees-take n bs)

-- a block's names are let go
pub names_left : (old bs left : List (List ℕ × Data)) (n : ℕ) → n ≡ length old → left ≡ take n bs → named_trees left ≡ take (length (named_trees old)) (named_trees bs)
names_left old bs left n e f = ap named_trees f ∙ (named_trees-take n bs ∙ ap (λ n. take n (named_trees bs)) (e ∙ sym (named_trees_length old)))

pub one_more : (ds new : List Data) (d : Data) → new ≡ ds ++ d ∷ [] → trees new ≡ trees ds ++ tree d ∷ []
one_more ds new d e = ap trees e ∙ trees-push ds d

pub one_name_more : (bs new : List (List ℕ × Data)) (x : List ℕ) (d : Data) → new ≡ bs ++ (x, d) ∷ [] → named_trees new ≡ named_trees bs ++ (x, tree d) ∷ []
one_name_more bs new x d e = ap named_trees e ∙ named_trees-push bs x d

pub place_found : (ds : List Data) (i : ℕ) → slice_get (trees ds) i ≡ option_map tree (slice_get ds i)
place_found ds i = slice_get-map tree ds i

-- the place of a name: the last of the names that is it

latest : (b : Bool) (i : ℕ) (o c : Option ℕ) → first_of (option_map suc (cond b (Some i) o)) c ≡ cond b (Some (suc i)) (first_of (option_map suc o) c)
latest true i o c = refl
latest false i o c = refl

place_push : (x : List ℕ) (ys : List (List ℕ)) (y : List ℕ) → place x (ys ++ y ∷ []) ≡ cond (bytes_eq y x) (Some (length ys)) (place x ys)
place_push x [] y = refl
place_push x (z ∷ zs) y = ap (λ o. first_of (option_map suc o) (cond (bytes_eq z x) (Some 0) None)) (place_push x zs y) ∙ latest (bytes_eq y x) (length zs) (place x zs) (cond (bytes_eq z x) (Some 0) None)

module _ {X : Type 0} (named : X → List ℕ) where
  names_push : (xs : List X) (x : X) → map named (xs ++ x ∷ []) ≡ map named xs ++ named x ∷ []
  names_push [] x = refl
  names_push (y ∷ ys) x = ap (λ r. named y ∷ r) (names_push ys x)

  names_length : (xs : List X) → length (map named xs) ≡ length xs
  names_length [] = refl
  names_length (x ∷ xs) = ap suc (names_length xs)

  place_next : (x : List ℕ) (ys : List X) (i : ℕ) (y : X) → i < length ys → y ≡ get_or ys i y → place x (map named (take (i + 1) ys)) ≡ cond (bytes_eq (named y) x) (Some i) (place x (map named (take i ys)))
  place_next x ys i y h at =
      let front : take (i + 1) ys ≡ take i ys ++ y ∷ [] = take_more ys i y h ∙ ap (λ z. take i ys ++ z ∷ []) (sym at) in
      let here : length (map named (take i ys)) ≡ i = names_length (take i ys) ∙ omega (arith, length-take i ys) in
      ap (λ zs. place x (map named zs)) front ∙ (ap (place x) (names_push (take i ys) y) ∙ (place_push x (map named (take i ys)) (named y)
      ∙ ap (λ n. cond (bytes_eq (named y) x) (Some n) (place x (map named (take i ys)))) here))

  -- the next has the name, or hasn't
  pub place_hit : (x : List ℕ) (ys : List X) (i : ℕ) (y : X) (k : List ℕ) → i < length ys → y ≡ get_or ys i y → k ≡ named y → bytes_eq k x ≡ true → Some i ≡ place x (map named (take (i + 1) ys))
  place_hit x ys i y k h at e t = sym (place_next x ys i y h at ∙ ap (λ z. cond z (Some i) (place x (map named (take i ys)))) (ap (λ z. bytes_eq z x) (sym e) ∙ t))

  pub place_miss : (x : List ℕ) (ys : List X) (i : ℕ) (y : X) (k : List ℕ) → i < length ys → y ≡ get_or ys i y → k ≡ named y → bytes_eq k x ≡ false → place x (map named (take i ys)) ≡ place x (map named (take (i + 1) ys))
  place_miss x ys i y k h at e t = sym (place_next x ys i y h at ∙ ap (λ z. cond z (Some i) (place x (map named (take i ys)))) (ap (λ z. bytes_eq z x) (sym e) ∙ t))

  -- the last has the name, or hasn't
  pub last_hit : (x : List ℕ) (ys : List X) (y : X) (k : List ℕ) → 1 ≤ length ys → y ≡ get_or ys (length ys - 1) y → k ≡ named y → bytes_eq k x ≡ true → Some (length (take (length ys - 1) ys)) ≡ place x (map named ys)
  last_hit x ys y k some at e t =
      let i = length ys - 1 in
      let here : length (take i ys) ≡ i = omega (arith, length-take i ys) in
      ap Some here ∙ (place_hit x ys i y k (omega (arith, some)) at e t ∙ ap (λ ys. place x (map named ys)) (take_all (i + 1) ys (omega (arith, some))))

  pub last_miss : (x : List ℕ) (ys : List X) (y : X) (k : List ℕ) → 1 ≤ length ys → y ≡ get_or ys (length ys - 1) y → k ≡ named y → bytes_eq k x ≡ false → place x (map named ys) ≡ place x (map named (take (length ys - 1) ys))
  last_miss x ys y k some at e t =
      let i = length ys - 1 in
      sym (place_miss x ys i y k (omega (arith, some)) at e t ∙ ap (λ ys. place x (map named ys)) (take_all (i + 1) ys (omega (arith, some))))

-- the place of a name as the index has it
same_first : (o here : Option ℕ) → locals.or_here o here ≡ first_of o here
same_first (Some i) here = refl
same_first None here = refl

pub same_place : (x : List ℕ) (ys : List (List ℕ)) → locals.place x ys ≡ place x ys
same_place x [] = refl
same_place x (y ∷ ys) = ap (λ o. locals.or_here (option_map suc o) (cond (bytes_eq y x) (Some 0) None)) (same_place x ys) ∙ same_first (option_map suc (place x ys)) (cond (bytes_eq y x) (Some 0) None)

-- what a name stands for, by its place

abbrev pub is_there : Option ℕ → Bool
is_there (Some i) = true
is_there None = false

looked : (b : Bool) (v : Tree) (bs : Bindings) (o : Option ℕ) (x : List ℕ) → first_of (option_map (local_at bs) o) (cond b (Some v) None) ≡ option_map (local_at ((x, v) ∷ bs)) (first_of (option_map suc o) (cond b (Some 0) None))
looked b v bs (Some i) x = refl
looked true v bs None x = refl
looked false v bs None x = refl

look_at : (x : List ℕ) (bs : Bindings) → look x bs ≡ option_map (local_at bs) (place x (map (λ b. b.0) bs))
look_at x [] = refl
look_at x (b ∷ bs) = ap (λ o. first_of o (cond (bytes_eq b.0 x) (Some b.1) None)) (look_at x bs) ∙ looked (bytes_eq b.0 x) b.1 bs (place x (map (λ b. b.0) bs)) b.0

bound_more : (b : Bool) (o : Option ℕ) → (is_there o || b) ≡ is_there (first_of (option_map suc o) (cond b (Some 0) None))
bound_more b (Some i) = refl
bound_more true None = refl
bound_more false None = refl

bound_at : (x : List ℕ) (bs : Bindings) → is_bound x bs ≡ is_there (place x (map (λ b. b.0) bs))
bound_at x [] = refl
bound_at x (b ∷ bs) = ap (λ c. c || bytes_eq b.0 x) (bound_at x bs) ∙ bound_more (bytes_eq b.0 x) (place x (map (λ b. b.0) bs))

names_of_named : (bs : List (List ℕ × Data)) → map (λ b. b.0) (named_trees bs) ≡ map (λ b. b.0) bs
names_of_named [] = refl
names_of_named (b ∷ bs) = ap (λ r. b.0 ∷ r) (names_of_named bs)

names_of_current : (xs : List (List ℕ)) (vs : List Tree) (cs : List (Option Tree)) → map (λ b. b.0) (current xs vs cs) ≡ xs
names_of_current [] vs cs = refl
names_of_current (x ∷ xs) vs cs = ap (λ r. x ∷ r) (names_of_current xs (tail_of vs) (tail_of cs))

-- the function's own names

pub local_look : (x : List ℕ) (bs : List (List ℕ × Data)) (o : Option ℕ) → o ≡ place x (map (λ b. b.0) bs) → look x (named_trees bs) ≡ option_map (local_at (named_trees bs)) o
local_look x bs o e = look_at x (named_trees bs) ∙ ap (option_map (local_at (named_trees bs))) (ap (place x) (names_of_named bs) ∙ sym e)

pub local_bound : (x : List ℕ) (bs : List (List ℕ × Data)) (o : Option ℕ) → o ≡ place x (map (λ b. b.0) bs) → is_bound x (named_trees bs) ≡ is_there o
local_bound x bs o e = bound_at x (named_trees bs) ∙ ap is_there (ap (place x) (names_of_named bs) ∙ sym e)

pub local_here : (bs : List (List ℕ × Data)) (i : ℕ) (b : List ℕ × Data) → i < length bs → b ≡ get_or bs i b → local_at (named_trees bs) i ≡ tree b.1
local_here [] i b h at = absurd (omega arith)
local_here (c ∷ bs) zero b h at = ap (λ b. tree b.1) (sym at)
local_here (c ∷ bs) (suc i) b h at = local_here bs i b (omega arith) at

-- the last of a name gets another value

some_same : (i j : ℕ) → Some i ≡ Some j → i ≡ j
some_same i j e = cc

zero_one : (n : ℕ) → Some 0 ≡ Some (suc n) → ⊥
zero_one n e = let h = some_same 0 (suc n) e in omega (arith, h)

one_zero : (n : ℕ) → Some (suc n) ≡ Some 0 → ⊥
one_zero n e = let h = some_same (suc n) 0 e in omega (arith, h)

none_some : (i : ℕ) → None ≡ Some i → ⊥
none_some i e = cc

one_less : (i j : ℕ) → Some (suc i) ≡ Some (suc j) → Some i ≡ Some j
one_less i j e = let h = some_same (suc i) (suc j) e in let q : i ≡ j = omega (arith, h) in ap (λ n. Some n) q

rebind_here : (x y : List ℕ) (v w : Tree) (bs : Bindings) (o : Option ℕ) (b : Bool) → is_bound x bs ≡ is_there o → bytes_eq y x ≡ b → first_of (option_map suc o) (cond b (Some 0) None) ≡ Some 0
    → (y, v) ∷ bs ≡ rebind x v ((y, w) ∷ bs)
rebind_here x y v w bs (Some j) b f e q = absurd (one_zero j q)
rebind_here x y v w bs None true f e q = sym (ap (λ c. cond c ((y, w) ∷ rebind x v bs) (cond (bytes_eq y x) ((y, v) ∷ bs) ((y, w) ∷ bs))) f ∙ ap (λ c. cond c ((y, v) ∷ bs) ((y, w) ∷ bs)) e)
rebind_here x y v w bs None false f e q = absurd (none_some 0 q)

rebind_behind : (x y : List ℕ) (v w : Tree) (bs new : Bindings) (i : ℕ) (o : Option ℕ) (b : Bool) → is_bound x bs ≡ is_there o → first_of (option_map suc o) (cond b (Some 0) None) ≡ Some (suc i) → (o ≡ Some i → new ≡ rebind x v bs)
    → (y, w) ∷ new ≡ rebind x v ((y, w) ∷ bs)
rebind_behind x y v w bs new i (Some j) b f q h = ap (λ r. (y, w) ∷ r) (h (one_less j i q)) ∙ sym (ap (λ c. cond c ((y, w) ∷ rebind x v bs) (cond (bytes_eq y x) ((y, v) ∷ bs) ((y, w) ∷ bs))) f)
rebind_behind x y v w bs new i None true f q h = absurd (zero_one i q)
rebind_behind x y v w bs new i None false f q h = absurd (none_some (suc i) q)

rebind_at : (x : List ℕ) (v : Tree) (bs : Bindings) (i : ℕ) → place x (map (λ b. b.0) bs) ≡ Some i → set_value bs i v ≡ rebind x v bs
rebind_at x v [] i e = absurd (none_some i e)
rebind_at x v (b ∷ bs) zero e = rebind_here x b.0 v b.1 bs (place x (map (λ b. b.0) bs)) (bytes_eq b.0 x) (bound_at x bs) refl e
rebind_at x v (b ∷ bs) (suc i) e = rebind_behind x b.0 v b.1 bs (set_value bs i v) i (place x (map (λ b. b.0) bs)) (bytes_eq b.0 x) (bound_at x bs) e (rebind_at x v bs i)

pub local_rebind : (x : List ℕ) (v : Tree) (bs : List (List ℕ × Data)) (i : ℕ) → Some i ≡ place x (map (λ b. b.0) bs) → set_value (named_trees bs) i v ≡ rebind x v (named_trees bs)
local_rebind x v bs i e = rebind_at x v (named_trees bs) i (ap (place x) (names_of_named bs) ∙ sym e)

pub set_here : (bs : List (List ℕ × Data)) (i : ℕ) (b : List ℕ × Data) (d : Data) → i < length bs → b ≡ get_or bs i b → named_trees (slice_set bs i (b.0, d)) ≡ set_value (named_trees bs) i (tree d)
set_here [] i b d h at = refl
set_here (c ∷ bs) zero b d h at = ap (λ b. (b.0, tree d) ∷ named_trees bs) at
set_here (c ∷ bs) (suc i) b d h at = ap (λ r. (c.0, tree c.1) ∷ r) (set_here bs i b d (omega arith) at)

there_at : (bs : List (List ℕ × Data)) (i : ℕ) (d : List ℕ × Data) → i < length bs → get_or bs i d ≡ get_or bs i (get_or bs i d)
there_at [] i d h = absurd (omega (arith, h))
there_at (c ∷ bs) zero d h = refl
there_at (c ∷ bs) (suc i) d h = there_at bs i d (omega (arith, h))

pub set_in : (bs : List (List ℕ × Data)) (i : ℕ) (v : Data) (new : List (List ℕ × Data)) → i < length bs → ((d : List ℕ × Data) → new ≡ slice_set bs i ((slice_index_or bs i d).0, v)) → named_trees new ≡ set_value (named_trees bs) i (tree v)
set_in bs i v new h e =
    let d : List ℕ × Data = ([], v) in
    ap named_trees (e d) ∙ set_here bs i (get_or bs i d) v h (there_at bs i d h)

-- state variables

pub variable_look : (x : List ℕ) (xs : List (List ℕ)) (vs : List Tree) (cs : List (Option Tree)) (o : Option ℕ) → o ≡ place x xs → look x (current xs vs cs) ≡ option_map (value_at vs cs) o
variable_look x xs vs cs o e = look_current x xs vs cs ∙ ap (option_map (value_at vs cs)) (sym e)
  where
    looked_current : (b : Bool) (vs : List Tree) (cs : List (Option Tree)) (o : Option ℕ) → first_of (option_map (value_at (tail_of vs) (tail_of cs)) o) (cond b (Some (value_at vs cs 0)) None) ≡ option_map (value_at vs cs) (first_of (option_map suc o) (cond b (Some 0) None))
    looked_current b vs cs (Some i) = refl
    looked_current true vs cs None = refl
    looked_current false vs cs None = refl

    look_current : (x : List ℕ) (xs : List (List ℕ)) (vs : List Tree) (cs : List (Option Tree)) → look x (current xs vs cs) ≡ option_map (value_at vs cs) (place x xs)
    look_current x [] vs cs = refl
    look_current x (y ∷ ys) vs cs = ap (λ o. first_of o (cond (bytes_eq y x) (Some (value_at vs cs 0)) None)) (look_current x ys (tail_of vs) (tail_of cs)) ∙ looked_current (bytes_eq y x) vs cs (place x ys)

pub variable_bound : (x : List ℕ) (xs : List (List ℕ)) (vs : List Tree) (cs : List (Option Tree)) (o : Option ℕ) → o ≡ place x xs → is_bound x (current xs vs cs) ≡ is_there o
variable_bound x xs vs cs o e = bound_at x (current xs vs cs) ∙ ap is_there (ap (place x) (names_of_current xs vs cs) ∙ sym e)

pub value_split : (vs : List Tree) (cs : List (Option Tree)) (i : ℕ) → value_at vs cs i ≡ or_else (changed_at cs i) (or_else (slice_get vs i) null)
value_split [] [] zero = refl
value_split [] (c ∷ cs) zero = refl
value_split (v ∷ vs) [] zero = refl
value_split (v ∷ vs) (c ∷ cs) zero = refl
value_split [] [] (suc i) = value_split [] [] i
value_split [] (c ∷ cs) (suc i) = value_split [] cs i
value_split (v ∷ vs) [] (suc i) = value_split vs [] i
value_split (v ∷ vs) (c ∷ cs) (suc i) = value_split vs cs i

pub given_here : (cs : List (Option Data)) (i : ℕ) (c : Option Data) → i < length cs → c ≡ get_or cs i c → changed_at (changes cs) i ≡ option_map tree c
given_here [] i c h at = absurd (omega arith)
given_here (d ∷ cs) zero c h at = ap (option_map tree) (sym at)
given_here (d ∷ cs) (suc i) c h at = given_here cs i c (omega arith) at

pub given_none : (cs : List (Option Data)) (i : ℕ) → length cs ≤ i → changed_at (changes cs) i ≡ None
given_none [] i h = refl
given_none (d ∷ cs) zero h = absurd (omega arith)
given_none (d ∷ cs) (suc i) h = given_none cs i (omega arith)

changes_push : (cs : List (Option Data)) → changes (cs ++ None ∷ []) ≡ changes cs ++ None ∷ []
changes_push [] = refl
changes_push (c ∷ cs) = ap (λ r. option_map tree c ∷ r) (changes_push cs)

current_push : (xs : List (List ℕ)) (vs : List Tree) (cs : List (Option Tree)) → current xs vs (cs ++ None ∷ []) ≡ current xs vs cs
current_push [] vs cs = refl
current_push (x ∷ xs) vs [] = refl
current_push (x ∷ xs) vs (c ∷ cs) = ap (λ r. (x, or_else c (head_or null vs)) ∷ r) (current_push xs (tail_of vs) cs)

pub one_place_more : (xs : List (List ℕ)) (vs : List Tree) (cs new : List (Option Data)) → new ≡ cs ++ None ∷ [] → current xs vs (changes new) ≡ current xs vs (changes cs)
one_place_more xs vs cs new e = ap (λ c. current xs vs (changes c)) e ∙ (ap (current xs vs) (changes_push cs) ∙ current_push xs vs (changes cs))

pub variable_rebind : (x : List ℕ) (d : Data) (xs : List (List ℕ)) (vs : List Tree) (cs : List (Option Data)) (i : ℕ) → i < length cs → place x xs ≡ Some i → current xs vs (changes (slice_set cs i (Some d))) ≡ rebind x (tree d) (current xs vs (changes cs))
variable_rebind x d [] vs cs i h e = absurd (none_some i e)
variable_rebind x d (y ∷ ys) vs [] i h e = absurd (omega arith)
variable_rebind x d (y ∷ ys) vs (c ∷ cs) zero h e =
    rebind_here x y (tree d) (or_else (option_map tree c) (head_or null vs)) (current ys (tail_of vs) (changes cs)) (place x ys) (bytes_eq y x) (variable_bound x ys (tail_of vs) (changes cs) (place x ys) refl) refl e
variable_rebind x d (y ∷ ys) vs (c ∷ cs) (suc i) h e =
    rebind_behind x y (tree d) (or_else (option_map tree c) (head_or null vs)) (current ys (tail_of vs) (changes cs)) (current ys (tail_of vs) (changes (slice_set cs i (Some d)))) i (place x ys) (bytes_eq y x)
    (variable_bound x ys (tail_of vs) (changes cs) (place x ys) refl) e (variable_rebind x d ys (tail_of vs) cs i (omega arith))

-- what a reference to data is seen as
pub seen_copied : (o : Option (Bor Data)) → option_map (λ d. tree d.now) o ≡ option_map tree (option_copied o)
seen_copied None = refl
seen_copied (Some d) = refl

-- an assignment, by where the name stands

pub put_local : {ls : Bindings} (t : Tree) (x : List ℕ) (v : Tree) (s : State) → is_bound x s.locals ≡ true → ls ≡ rebind x v s.locals → Computes (put t x v) s (came tt) (record { locals = ls; globals = s.globals; meter = s.meter })
unfolding put
put_local {ls} t x v s b e = record {
  does = λ z k. ap (λ c. cond c (k (went tt) (record s { locals = rebind x v s.locals })) (cond (is_bound x s.globals) (k (went tt) (record s { globals = rebind x v s.globals })) (k (fails t) s))) b
      ∙ ap (λ l. k (went tt) (record { locals = l; globals = s.globals; meter = s.meter })) (sym e);
}

pub put_variable : {gs : Bindings} (t : Tree) (x : List ℕ) (v : Tree) (s : State) → is_bound x s.locals ≡ false → is_bound x s.globals ≡ true → gs ≡ rebind x v s.globals → Computes (put t x v) s (came tt) (record { locals = s.locals; globals = gs; meter = s.meter })
unfolding put
put_variable {gs} t x v s b d e = record {
  does = λ z k. ap (λ c. cond c (k (went tt) (record s { locals = rebind x v s.locals })) (cond (is_bound x s.globals) (k (went tt) (record s { globals = rebind x v s.globals })) (k (fails t) s))) b
      ∙ (ap (λ c. cond c (k (went tt) (record s { globals = rebind x v s.globals })) (k (fails t) s)) d
      ∙ ap (λ g. k (went tt) (record { locals = s.locals; globals = g; meter = s.meter })) (sym e));
}

pub put_nowhere : (e : Stop) (r : Reason) (x : List ℕ) (v : Tree) (s : State) → is_bound x s.locals ≡ false → is_bound x s.globals ≡ false → halt e ≡ throws (bad_step r) → Computes (put (bad_step r) x v) s (halted (halt e)) s
unfolding put
put_nowhere e r x v s b d h = subst (λ q. Computes (put (bad_step r) x v) s (halted q) s) (sym h) (record {
  does = λ z k. ap (λ c. cond c (k (went tt) (record s { locals = rebind x v s.locals })) (cond (is_bound x s.globals) (k (went tt) (record s { globals = rebind x v s.globals })) (k (fails (bad_step r)) s))) b
      ∙ ap (λ c. cond c (k (went tt) (record s { globals = rebind x v s.globals })) (k (fails (bad_step r)) s)) d;
})
