-- The place of a name in a list that grows and shrinks at its end, and what an index of it has to be.
use Rattle.std.proofs.Common.{◌≡◌, ℕ, zero, suc, ◌+◌, ◌-◌, ◌<◌, ◌≤◌, List, [], ◌∷◌, ◌++◌, Bool, true, false, cond, Option, Some, None, option_map, refl, sym, ap, subst, ◌∙◌, length, get_or, take, drop, arith}
use Rattle.std.specs.Prelude.{String, IfSome, slice_index_or, slice_set}
use Rattle.std.specs.Str.{bytes_eq}
use Rattle.std.specs.declared.alloc.Global.{Global}
use Rattle.std.specs.BTreeMap.{BTreeMap, get_by_text}
use Rattle.std.proofs.lemmas.Slice.Eq.{bytes_eq-Decides}
use Rattle.std.proofs.lemmas.List.{take_more, take_all, length-take, length-drop}
use Rattle.jessie_index.specs.Places.{place, or_here, names_of, Hide, IsIndex, IsFront}

latest : (b : Bool) (i : ℕ) (o c : Option ℕ) → or_here (option_map suc (cond b (Some i) o)) c ≡ cond b (Some (suc i)) (or_here (option_map suc o) c)
latest true i o c = refl
latest false i o c = refl

pub place_push : (x : List ℕ) (ys : List (List ℕ)) (y : List ℕ) → place x (ys ++ y ∷ []) ≡ cond (bytes_eq y x) (Some (length ys)) (place x ys)
place_push x [] y = refl
place_push x (z ∷ zs) y = ap (λ o. or_here (option_map suc o) (cond (bytes_eq z x) (Some 0) None)) (place_push x zs y) ∙ latest (bytes_eq y x) (length zs) (place x zs) (cond (bytes_eq z x) (Some 0) None)

module _ {V : Type 0} where
  pub names_push : (bs : List (List ℕ × V)) (b : List ℕ × V) → names_of (bs ++ b ∷ []) ≡ names_of bs ++ b.0 ∷ []
  names_push [] b = refl
  names_push (c ∷ bs) b = ap (λ r. c.0 ∷ r) (names_push bs b)

  pub names_length : (bs : List (List ℕ × V)) → length (names_of bs) ≡ length bs
  names_length [] = refl
  names_length (b ∷ bs) = ap suc (names_length bs)

  pub names_take : (n : ℕ) (bs : List (List ℕ × V)) → names_of (take n bs) ≡ take n (names_of bs)
  names_take zero bs = refl
  names_take (suc n) [] = refl
  names_take (suc n) (b ∷ bs) = ap (λ r. b.0 ∷ r) (names_take n bs)

-- an entry more, and one less

seam : (front : List (List ℕ)) (x : List ℕ) (ys : List (List ℕ)) → (front ++ x ∷ []) ++ ys ≡ front ++ x ∷ ys
seam [] x ys = refl
seam (y ∷ front) x ys = ap (λ r. y ∷ r) (seam front x ys)

ended : (front : List (List ℕ)) → front ++ [] ≡ front
ended [] = refl
ended (y ∷ front) = ap (λ r. y ∷ r) (ended front)

hide_more : (front : List (List ℕ)) (es : List (List ℕ × Option ℕ)) (x : List ℕ) (h : Option ℕ) → Hide front es → h ≡ place x (front ++ names_of es) → Hide front (es ++ (x, h) ∷ [])
hide_more front [] x h hides here = (here ∙ ap (place x) (ended front), tt)
hide_more front (e ∷ es) x h hides here = (hides.0, hide_more (front ++ e.0 ∷ []) es x h hides.1 (here ∙ ap (place x) (sym (seam front e.0 (names_of es)))))

hide_less : (front : List (List ℕ)) (es : List (List ℕ × Option ℕ)) (x : List ℕ) (h : Option ℕ) → Hide front (es ++ (x, h) ∷ []) → Hide front es × (h ≡ place x (front ++ names_of es))
hide_less front [] x h hides = (tt, hides.0 ∙ ap (place x) (sym (ended front)))
hide_less front (e ∷ es) x h hides =
    let rest = hide_less (front ++ e.0 ∷ []) es x h hides.1 in
    ((hides.0, rest.0), rest.1 ∙ ap (place x) (seam front e.0 (names_of es)))

pub index_more : (es new : List (List ℕ × Option ℕ)) (m n : BTreeMap (String Global) ℕ) (x : List ℕ) (h : Option ℕ)
    → IsIndex es m → new ≡ es ++ (x, h) ∷ [] → h ≡ place x (names_of es)
    → ((q : List ℕ) → get_by_text n q ≡ cond (bytes_eq x q) (Some (length es)) (get_by_text m q)) → IsIndex new n
index_more es new m n x h old e here found = subst (λ es. IsIndex es n) (sym e) (record {
  finds = λ q. found q ∙ (ap (cond (bytes_eq x q) (Some (length es))) (old.finds q)
      ∙ (ap (λ k. cond (bytes_eq x q) (Some k) (place q (names_of es))) (sym (names_length es))
      ∙ (sym (place_push q (names_of es) x) ∙ ap (place q) (sym (names_push es (x, h))))));
  hides = hide_more [] es x h old.hides here;
})

-- the last entry hides another
hides_now : {A B : Type 0} (es : List (A × B)) (a d : A × B) (h : B) → slice_set (es ++ a ∷ []) (length es) ((slice_index_or (es ++ a ∷ []) (length es) d).0, h) ≡ es ++ (a.0, h) ∷ []
hides_now [] a d h = refl
hides_now (e ∷ es) a d h = ap (λ r. e ∷ r) (hides_now es a d h)

pub hidden_put : {A B : Type 0} (es now later : List (A × B)) (a : A × B) (h : B) (n : ℕ) → now ≡ es ++ a ∷ [] → n ≡ length es
    → ((d : A × B) → later ≡ slice_set now n ((slice_index_or now n d).0, h)) → later ≡ es ++ (a.0, h) ∷ []
hidden_put es now later a h n e k put =
    put a ∙ (ap (λ z. slice_set z n ((slice_index_or z n a).0, h)) e
    ∙ (ap (λ n. slice_set (es ++ a ∷ []) n ((slice_index_or (es ++ a ∷ []) n a).0, h)) k ∙ hides_now es a a h))

-- where the name is looked for, what it hid is found again
again : (b : Bool) (x q : List ℕ) (h here : Option ℕ) (ys : List (List ℕ)) → h ≡ place x ys → (b ≡ true → x ≡ q) → cond b h (cond b here (place q ys)) ≡ place q ys
again true x q h here ys e same = e ∙ ap (λ z. place z ys) (same refl)
again false x q h here ys e same = refl

pub index_less : (es old : List (List ℕ × Option ℕ)) (m n : BTreeMap (String Global) ℕ) (x : List ℕ) (h : Option ℕ)
    → IsIndex old m → old ≡ es ++ (x, h) ∷ []
    → ((q : List ℕ) → get_by_text n q ≡ cond (bytes_eq x q) h (get_by_text m q)) → IsIndex es n
index_less es old m n x h was e found =
    let index : IsIndex (es ++ (x, h) ∷ []) m = subst (λ es. IsIndex es m) e was in
    let hidden = hide_less [] es x h index.hides in
    record {
      finds = λ q. found q ∙ (ap (cond (bytes_eq x q) h) (index.finds q ∙ (ap (place q) (names_push es (x, h)) ∙ place_push q (names_of es) x))
          ∙ again (bytes_eq x q) x q h (Some (length (names_of es))) (names_of es) hidden.1 (λ t. grind (arith, bytes_eq-Decides x q, t)));
      hides = hidden.0;
    }

itself : (x : List ℕ) → bytes_eq x x ≡ true
itself x = grind (arith, bytes_eq-Decides x x)

-- the last name is found
pub index_last : (es old : List (List ℕ × Option ℕ)) (m : BTreeMap (String Global) ℕ) (x : List ℕ) (h : Option ℕ)
    → IsIndex old m → old ≡ es ++ (x, h) ∷ [] → get_by_text m x ≡ Some (length (names_of es))
index_last es old m x h was e =
    let index : IsIndex (es ++ (x, h) ∷ []) m = subst (λ es. IsIndex es m) e was in
    index.finds x ∙ (ap (place x) (names_push es (x, h)) ∙ (place_push x (names_of es) x
    ∙ ap (λ b. cond b (Some (length (names_of es))) (place x (names_of es))) (itself x)))

-- the place of a name, where more of the list is walked

module _ {V : Type 0} where
  place_next : (x : List ℕ) (bs : List (List ℕ × V)) (i : ℕ) (b : List ℕ × V) → i < length bs → b ≡ get_or bs i b → place x (names_of (take (i + 1) bs)) ≡ cond (bytes_eq b.0 x) (Some i) (place x (names_of (take i bs)))
  place_next x bs i b h at =
      let front : take (i + 1) bs ≡ take i bs ++ b ∷ [] = take_more bs i b h ∙ ap (λ z. take i bs ++ z ∷ []) (sym at) in
      let here : length (names_of (take i bs)) ≡ i = names_length (take i bs) ∙ omega (arith, length-take i bs) in
      ap (λ zs. place x (names_of zs)) front ∙ (ap (place x) (names_push (take i bs) b) ∙ (place_push x (names_of (take i bs)) b.0
      ∙ ap (λ n. cond (bytes_eq b.0 x) (Some n) (place x (names_of (take i bs)))) here))

  -- the next has the name, or hasn't
  pub place_hit : (x : List ℕ) (bs : List (List ℕ × V)) (i : ℕ) (b : List ℕ × V) (k : List ℕ) → i < length bs → b ≡ get_or bs i b → k ≡ b.0 → bytes_eq k x ≡ true → Some i ≡ place x (names_of (take (i + 1) bs))
  place_hit x bs i b k h at e t = sym (place_next x bs i b h at ∙ ap (λ z. cond z (Some i) (place x (names_of (take i bs)))) (ap (λ z. bytes_eq z x) (sym e) ∙ t))

  pub place_miss : (x : List ℕ) (bs : List (List ℕ × V)) (i : ℕ) (b : List ℕ × V) (k : List ℕ) → i < length bs → b ≡ get_or bs i b → k ≡ b.0 → bytes_eq k x ≡ false → place x (names_of (take i bs)) ≡ place x (names_of (take (i + 1) bs))
  place_miss x bs i b k h at e t = sym (place_next x bs i b h at ∙ ap (λ z. cond z (Some i) (place x (names_of (take i bs)))) (ap (λ z. bytes_eq z x) (sym e) ∙ t))

  -- the last has the name, or hasn't
  pub last_hit : (x : List ℕ) (bs : List (List ℕ × V)) (b : List ℕ × V) (k : List ℕ) → 1 ≤ length bs → b ≡ get_or bs (length bs - 1) b → k ≡ b.0 → bytes_eq k x ≡ true → Some (length (take (length bs - 1) bs)) ≡ place x (names_of bs)
  last_hit x bs b k some at e t =
      let i = length bs - 1 in
      let here : length (take i bs) ≡ i = omega (arith, length-take i bs) in
      ap Some here ∙ (place_hit x bs i b k (omega (arith, some)) at e t ∙ ap (λ bs. place x (names_of bs)) (take_all (i + 1) bs (omega (arith, some))))

  pub last_miss : (x : List ℕ) (bs : List (List ℕ × V)) (b : List ℕ × V) (k : List ℕ) → 1 ≤ length bs → b ≡ get_or bs (length bs - 1) b → k ≡ b.0 → bytes_eq k x ≡ false → place x (names_of bs) ≡ place x (names_of (take (length bs - 1) bs))
  last_miss x bs b k some at e t =
      let i = length bs - 1 in
      sym (place_miss x bs i b k (omega (arith, some)) at e t ∙ ap (λ bs. place x (names_of bs)) (take_all (i + 1) bs (omega (arith, some))))

-- the place of a name in a list of two parts

abbrev pub moved : ℕ → Option ℕ → Option ℕ
moved n None = None
moved n (Some i) = Some (n + i)

or_moved : (n : ℕ) (o here next : Option ℕ) → or_here (option_map suc (or_here (moved n o) here)) next ≡ or_here (moved (suc n) o) (or_here (option_map suc here) next)
or_moved n (Some i) here next = ap Some (omega arith)
or_moved n None here next = refl

all_moved : (o : Option ℕ) → o ≡ or_here (moved 0 o) None
all_moved (Some i) = ap Some (omega arith)
all_moved None = refl

pub place_parts : (x : List ℕ) (xs ys : List (List ℕ)) → place x (xs ++ ys) ≡ or_here (moved (length xs) (place x ys)) (place x xs)
place_parts x [] ys = all_moved (place x ys)
place_parts x (z ∷ xs) ys = ap (λ o. or_here (option_map suc o) (cond (bytes_eq z x) (Some 0) None)) (place_parts x xs ys) ∙ or_moved (length xs) (place x ys) (place x xs) (cond (bytes_eq z x) (Some 0) None)

-- fronts

take_taken : (i : ℕ) (names : List (List ℕ)) → take (length (take i names)) names ≡ take i names
take_taken zero names = refl
take_taken (suc i) [] = refl
take_taken (suc i) (x ∷ names) = ap (λ r. x ∷ r) (take_taken i names)

pub front_here : (names front : List (List ℕ)) (i : ℕ) → front ≡ take i names → IsFront front names
front_here names front i e = e ∙ (sym (take_taken i names) ∙ ap (λ f. take (length f) names) (sym e))

pub front_more : {V : Type 0} (bs : List (List ℕ × V)) (front : List (List ℕ)) (i : ℕ) (b : List ℕ × V) → front ≡ take i (names_of bs) → i < length bs → b ≡ get_or bs i b → front ++ b.0 ∷ [] ≡ take (i + 1) (names_of bs)
front_more bs front i b e h at =
    let more : take i bs ++ b ∷ [] ≡ take (i + 1) bs = sym (take_more bs i b h ∙ ap (λ z. take i bs ++ z ∷ []) (sym at)) in
    ap (λ f. f ++ b.0 ∷ []) (e ∙ sym (names_take i bs)) ∙ (sym (names_push (take i bs) b) ∙ (ap names_of more ∙ names_take (i + 1) bs))

-- a list that is cut at its end

pub shorter : (n k : ℕ) (xs : List (List ℕ)) → n ≤ k → take n (take k xs) ≡ take n xs
shorter zero k xs h = refl
shorter (suc n) zero xs h = absurd (omega (arith, h))
shorter (suc n) (suc k) [] h = refl
shorter (suc n) (suc k) (x ∷ xs) h = ap (λ r. x ∷ r) (shorter n k xs (omega (arith, h)))

abbrev first_or : List ℕ → List (List ℕ) → List ℕ
first_or other [] = other
first_or other (x ∷ xs) = x

abbrev rest_of : List (List ℕ) → List (List ℕ)
rest_of [] = []
rest_of (x ∷ xs) = xs

pub front_cut : (n : ℕ) (front names : List (List ℕ)) → IsFront front names → IsFront (take n front) (take n names)
front_cut zero front names h = refl
front_cut (suc n) [] names h = refl
front_cut (suc n) (x ∷ front) [] h = absurd (cc)
front_cut (suc n) (x ∷ front) (y ∷ names) h =
    ap (λ z. z ∷ take n front) (ap (first_or x) h) ∙ ap (λ r. y ∷ r) (front_cut n front names (ap rest_of h))

-- the place of a name, where the front of the list is looked through apart

names_split : {V : Type 0} (n : ℕ) (bs : List (List ℕ × V)) → names_of bs ≡ take n (names_of bs) ++ names_of (drop n bs)
names_split zero bs = refl
names_split (suc n) [] = refl
names_split (suc n) (b ∷ bs) = ap (λ r. b.0 ∷ r) (names_split n bs)

place_split : {V : Type 0} (x : List ℕ) (bs : List (List ℕ × V)) (front : List (List ℕ)) → IsFront front (names_of bs)
    → place x (names_of bs) ≡ or_here (moved (length front) (place x (names_of (drop (length front) bs)))) (place x front)
place_split x bs front h =
    ap (place x) (names_split (length front) bs ∙ ap (λ f. f ++ names_of (drop (length front) bs)) (sym h)) ∙ place_parts x front (names_of (drop (length front) bs))

pub inner : {V : Type 0} (x : List ℕ) (bs : List (List ℕ × V)) (front : List (List ℕ)) (n i : ℕ) → IsFront front (names_of bs) → n ≡ length front
    → Some i ≡ place x (names_of (drop n bs)) → Some (n + i) ≡ place x (names_of bs)
inner x bs front n i h e found =
    let here : Some i ≡ place x (names_of (drop (length front) bs)) = found ∙ ap (λ n. place x (names_of (drop n bs))) e in
    ap (λ n. Some (n + i)) e ∙ sym (place_split x bs front h ∙ ap (λ o. or_here (moved (length front) o) (place x front)) (sym here))

pub outer : {V : Type 0} (x : List ℕ) (bs : List (List ℕ × V)) (front : List (List ℕ)) (n : ℕ) → IsFront front (names_of bs) → n ≡ length front
    → None ≡ place x (names_of (drop n bs)) → place x front ≡ place x (names_of bs)
outer x bs front n h e none =
    let here : None ≡ place x (names_of (drop (length front) bs)) = none ∙ ap (λ n. place x (names_of (drop n bs))) e in
    sym (place_split x bs front h ∙ ap (λ o. or_here (moved (length front) o) (place x front)) (sym here))

below_step : (o : Option ℕ) (b : Bool) (n : ℕ) → IfSome o (λ i. i < n) → IfSome (or_here (option_map suc o) (cond b (Some 0) None)) (λ i. i < suc n)
below_step (Some i) b n h = omega (arith, h)
below_step None true n h = omega arith
below_step None false n h = tt

below : (x : List ℕ) (ys : List (List ℕ)) → IfSome (place x ys) (λ i. i < length ys)
below x [] = tt
below x (y ∷ ys) = below_step (place x ys) (bytes_eq y x) (length ys) (below x ys)

pub within_list : {V : Type 0} (x : List ℕ) (bs : List (List ℕ × V)) (o : Option ℕ) → o ≡ place x (names_of bs) → IfSome o (λ i. i < length bs)
within_list x bs o e = subst (λ n. IfSome o (λ i. i < n)) (names_length bs) (subst (λ o. IfSome o (λ i. i < length (names_of bs))) (sym e) (below x (names_of bs)))

-- another value under the same name leaves the names
pub names_set : {V : Type 0} (bs : List (List ℕ × V)) (i : ℕ) (b : List ℕ × V) (v : V) → i < length bs → b ≡ get_or bs i b → names_of (slice_set bs i (b.0, v)) ≡ names_of bs
names_set [] i b v h at = refl
names_set (c ∷ bs) zero b v h at = ap (λ z. z.0 ∷ names_of bs) at
names_set (c ∷ bs) (suc i) b v h at = ap (λ r. c.0 ∷ r) (names_set bs i b v (omega (arith, h)) at)

-- what is behind so many
pub behind : {V : Type 0} (n : ℕ) (bs : List V) → take (length bs - n) (drop n bs) ≡ drop n bs
behind n bs = take_all (length bs - n) (drop n bs) (omega (arith, length-drop n bs))
