-- The statements of a block, turn by turn and as one tells them, are the same.
use Rattle.std.proofs.Common.{◌⊎◌, inl, inr, ℕ, zero, suc, Bool, true, false, List, [], ◌∷◌, ◌++◌, refl, sym, ap, subst, ◌∙◌, append_assoc}
use Rattle.std.proofs.lemmas.List.{append-nil}
use Rattle.jessie_grammar.specs.declared.jessie_lexer.token.Kind.{Kind}
use Rattle.jessie_grammar.specs.declared.jessie_lexer.token.Kind.TheVariants as k
use Rattle.jessie_grammar.specs.declared.jessie_scopes.name_use.NameUse.{NameUse}
use Rattle.jessie_grammar.specs.declared.syntax.Expr.{Expr}
use Rattle.jessie_grammar.specs.declared.syntax.Stmt.{Stmt}
use Rattle.jessie_grammar.specs.declared.syntax.Branch.{Branch}
use Rattle.jessie_grammar.specs.Refused.{Marked, Lang}
use Rattle.jessie_grammar.specs.Words.{Found, more, words_after_if, closing, always}
use Rattle.jessie_grammar.specs.Lang.{◌>>=◌, ◌>>◌, ◌or◌, pure, symbol, iterate, turns}
use Rattle.jessie_grammar.specs.BlockTurns.{Turned, shut, ran, armed, armed_more, ended}
use Rattle.jessie_grammar.specs.BlockTurns as turns_of
use Rattle.jessie_grammar.specs.Grammar as g
use Rattle.jessie_grammar.specs.StatementList.{else_if, with_last, last, whole_if, names_after, next}

-- ---- languages, up to what they hold

abbrev pub Within : {A : Type 0} → Lang A → Lang A → Type 0
Within {A} l m = (ms : List Marked) (a : A) → l ms a → m ms a

pub after : {A B : Type 0} (l : Lang A) (m n : A → Lang B) → ((a : A) → Within (m a) (n a)) → Within (l >>= m) (l >>= n)
after l m n h ms b w = (w.0, w.1, w.2, w.3, w.4, h w.0 w.2 b w.5)

pub turn_right : {A B C : Type 0} (l : Lang A) (m : A → Lang B) (n : B → Lang C) → Within ((l >>= m) >>= n) (l >>= λ a. (m a >>= n))
turn_right l m n ms c w =
    let v = w.4 in
    (v.0, v.1, v.2 ++ w.2, w.3 ∙ (ap (λ z. z ++ w.2) v.3 ∙ append_assoc v.1 v.2 w.2), v.4, (w.0, v.2, w.2, refl, v.5, w.5))

pub turn_left : {A B C : Type 0} (l : Lang A) (m : A → Lang B) (n : B → Lang C) → Within (l >>= λ a. (m a >>= n)) ((l >>= m) >>= n)
turn_left l m n ms c w =
    let v = w.5 in
    (v.0, w.1 ++ v.1, v.2, w.3 ∙ (ap (λ z. w.1 ++ z) v.3 ∙ sym (append_assoc w.1 v.1 v.2)), (w.0, w.1, v.1, refl, w.4, v.4), v.5)

drop_pure : {A B : Type 0} (a : A) (n : A → Lang B) → Within (pure a >>= n) (n a)
drop_pure a n ms b w = subst (λ z. n a z b) (sym (w.3 ∙ ap (λ z. z ++ w.2) w.4.0)) (subst (λ x. n x w.2 b) (sym w.4.1) w.5)

add_pure : {A B : Type 0} (a : A) (n : A → Lang B) → Within (n a) (pure a >>= n)
add_pure a n ms b w = (a, [], ms, refl, (refl, refl), w)

pub or_out : {A B : Type 0} (l m : Lang A) (n : A → Lang B) → Within ((l or m) >>= n) ((l >>= n) or (m >>= n))
or_out l m n ms b w = by w.4
  where
    by : l w.1 w.0 ⊎ m w.1 w.0 → ((l >>= n) or (m >>= n)) ms b
    by (inl h) = inl (w.0, w.1, w.2, w.3, h, w.5)
    by (inr h) = inr (w.0, w.1, w.2, w.3, h, w.5)

pub or_in : {A B : Type 0} (l m : Lang A) (n : A → Lang B) → Within ((l >>= n) or (m >>= n)) ((l or m) >>= n)
or_in l m n ms b (inl w) = (w.0, w.1, w.2, w.3, inl w.4, w.5)
or_in l m n ms b (inr w) = (w.0, w.1, w.2, w.3, inr w.4, w.5)

pub either : {A : Type 0} (l m n o : Lang A) → Within l n → Within m o → Within (l or m) (n or o)
either l m n o f h ms a (inl w) = inl (f ms a w)
either l m n o f h ms a (inr w) = inr (h ms a w)

-- a value made of what is read, and then more
made_out : {A B C : Type 0} (l : Lang A) (f : A → B) (n : B → Lang C) → Within ((l >>= λ a. pure (f a)) >>= n) (l >>= λ a. n (f a))
made_out l f n ms c w = after l (λ a. (pure (f a) >>= n)) (λ a. n (f a)) (λ a. drop_pure (f a) n) ms c (turn_right l (λ a. pure (f a)) n ms c w)

made_in : {A B C : Type 0} (l : Lang A) (f : A → B) (n : B → Lang C) → Within (l >>= λ a. n (f a)) ((l >>= λ a. pure (f a)) >>= n)
made_in l f n ms c w = turn_left l (λ a. pure (f a)) n ms c (after l (λ a. n (f a)) (λ a. (pure (f a) >>= n)) (λ a. add_pure (f a) n) ms c w)

pub or_after : {A B : Type 0} (l : Lang A) (m n : A → Lang B) → Within (l >>= λ a. (m a or n a)) ((l >>= m) or (l >>= n))
or_after l m n ms b w = by w.5
  where
    by : m w.0 w.2 b ⊎ n w.0 w.2 b → ((l >>= m) or (l >>= n)) ms b
    by (inl h) = inl (w.0, w.1, w.2, w.3, w.4, h)
    by (inr h) = inr (w.0, w.1, w.2, w.3, w.4, h)

pub or_before : {A B : Type 0} (l : Lang A) (m n : A → Lang B) → Within ((l >>= m) or (l >>= n)) (l >>= λ a. (m a or n a))
or_before l m n ms b (inl w) = (w.0, w.1, w.2, w.3, w.4, inl w.5)
or_before l m n ms b (inr w) = (w.0, w.1, w.2, w.3, w.4, inr w.5)

-- ---- turns, and then a value of the last state

abbrev Then : {S A : Type 0} → ℕ → (S → Lang S) → (S → A) → S → Lang A
Then n l f s = turns n always l s >>= λ t. pure (f t)

abbrev All : {S A : Type 0} → (S → Lang S) → (S → A) → S → Lang A
All l f s = iterate always l s >>= λ t. pure (f t)

stop_out : {S A : Type 0} (l : S → Lang S) (f : S → A) (s : S) → Within (Then 0 l f s) (pure (f s))
stop_out l f s = drop_pure s (λ t. pure (f t))

stop_in : {S A : Type 0} (l : S → Lang S) (f : S → A) (s : S) → Within (pure (f s)) (All l f s)
stop_in l f s ms a w = (s, [], ms, refl, (0, (refl, refl)), w)

step_out : {S A : Type 0} (n : ℕ) (l : S → Lang S) (f : S → A) (s : S) → Within (Then (suc n) l f s) (l s >>= Then n l f)
step_out n l f s ms a w = turn_right (l s) (turns n always l) (λ t. pure (f t)) ms a (w.0, w.1, w.2, w.3, w.4.1, w.5)

step_in : {S A : Type 0} (l : S → Lang S) (f : S → A) (s : S) → Within (l s >>= All l f) (All l f s)
step_in l f s ms a w = let v = turn_left (l s) (iterate always l) (λ t. pure (f t)) ms a w in let u = v.4 in (v.0, v.1, v.2, v.3, (suc u.5.0, (refl, (u.0, u.1, u.2, u.3, u.4, u.5.1))), v.5)

-- ---- the two ways of telling statements

abbrev Stmts : Type 0
Stmts = Found (List Stmt)

abbrev Arms : Type 0
Arms = Found (List Branch)

abbrev Turn : ℕ → (List NameUse → Lang (Found Expr)) → (List NameUse → Lang Stmts) → Turned → Lang Turned
Turn r i b = turns_of.turn_from r i b

abbrev Next : ℕ → (List NameUse → Lang (Found Expr)) → (List NameUse → Lang Stmts) → Stmts × Bool → Lang (Stmts × Bool)
Next r i b = next (g.arm r i b) b (g.simple r i b)

abbrev told : Stmts × Bool → Stmts
told s = s.0

abbrev turned : Turned → Stmts
turned s = shut s

abbrev D : ℕ → (List NameUse → Lang (Found Expr)) → (List NameUse → Lang Stmts) → Stmts × Bool → Lang Stmts
D r i b = All (Next r i b) told

abbrev E : ℕ → (List NameUse → Lang (Found Expr)) → (List NameUse → Lang Stmts) → Turned → Lang Stmts
E r i b = All (Turn r i b) turned

-- these and an `if` with all of its parts
abbrev with_if : List Stmt → Stmts × Bool → Stmts × Bool
with_if f x = ((f ++ x.0.0, x.0.1), x.1)

abbrev closed_by : List Stmt → Stmts → Turned
closed_by f x = (f ++ x.0, ([], x.1))

abbrev joined : List Stmt → Stmts → Stmts × Bool
joined f x = ((f ++ x.0, x.1), false)

-- an `if` from here on, and what follows it
abbrev Ending : (List NameUse → Lang Stmts) → (Stmts × Bool → Lang Stmts) → List Stmt → Arms → Lang Stmts
Ending b q f arms = last b arms >>= λ x. q (with_if f x)

abbrev Rest : ℕ → (List NameUse → Lang (Found Expr)) → (List NameUse → Lang Stmts) → List Stmt → Arms → Lang Stmts
Rest r i b f arms = iterate always (else_if (g.arm r i b)) arms >>= Ending b (D r i b) f

abbrev Begins : ℕ → (List NameUse → Lang (Found Expr)) → (List NameUse → Lang Stmts) → List Kind → List NameUse → (Found Branch → Lang Stmts) → (Found Stmt → Lang Stmts) → Lang Stmts
Begins r i b names es p q = (symbol k.If >> (g.arm r i b es >>= p)) or (g.simple r i b names es >>= q)

begins : (r : ℕ) (i : List NameUse → Lang (Found Expr)) (b : List NameUse → Lang Stmts) (names : List Kind) (es : List NameUse) (p p2 : Found Branch → Lang Stmts) (q q2 : Found Stmt → Lang Stmts) → ((a : Found Branch) → Within (p a) (p2 a)) → ((a : Found Stmt) → Within (q a) (q2 a)) → Within (Begins r i b names es p q) (Begins r i b names es p2 q2)
begins r i b names es p p2 q q2 h j = either _ _ _ _ (after (symbol k.If) (λ _. (g.arm r i b es >>= p)) (λ _. (g.arm r i b es >>= p2)) (λ _. after (g.arm r i b es) p p2 h)) (after (g.simple r i b names es) q q2 j)

begun_out : (r : ℕ) (i : List NameUse → Lang (Found Expr)) (b : List NameUse → Lang Stmts) (names : List Kind) (f : Stmts) (q : Turned → Lang Stmts) → Within (turns_of.begun r i b names f >>= q) (Begins r i b names f.1 (λ a. q (armed f.0 a)) (λ t. q (ran f.0 t)))
unfolding turns_of.begun
begun_out r i b names f q ms t w =
    either _ _ _ _
    (λ ms t w. after (symbol k.If) (λ _. ((g.arm r i b f.1 >>= λ a. pure (armed f.0 a)) >>= q)) (λ _. (g.arm r i b f.1 >>= λ a. q (armed f.0 a))) (λ _. made_out (g.arm r i b f.1) (armed f.0) q) ms t (turn_right (symbol k.If) (λ _. (g.arm r i b f.1 >>= λ a. pure (armed f.0 a))) q ms t w))
    (made_out (g.simple r i b names f.1) (ran f.0) q) ms t (or_out (symbol k.If >> (g.arm r i b f.1 >>= λ a. pure (armed f.0 a))) (g.simple r i b names f.1 >>= λ t. pure (ran f.0 t)) q ms t w)

begun_in : (r : ℕ) (i : List NameUse → Lang (Found Expr)) (b : List NameUse → Lang Stmts) (names : List Kind) (f : Stmts) (q : Turned → Lang Stmts) → Within (Begins r i b names f.1 (λ a. q (armed f.0 a)) (λ t. q (ran f.0 t))) (turns_of.begun r i b names f >>= q)
unfolding turns_of.begun
begun_in r i b names f q ms t w =
    or_in (symbol k.If >> (g.arm r i b f.1 >>= λ a. pure (armed f.0 a))) (g.simple r i b names f.1 >>= λ t. pure (ran f.0 t)) q ms t
    (either _ _ _ _
    (λ ms t w. turn_left (symbol k.If) (λ _. (g.arm r i b f.1 >>= λ a. pure (armed f.0 a))) q ms t (after (symbol k.If) (λ _. (g.arm r i b f.1 >>= λ a. q (armed f.0 a))) (λ _. ((g.arm r i b f.1 >>= λ a. pure (armed f.0 a)) >>= q)) (λ _. made_in (g.arm r i b f.1) (armed f.0) q) ms t w))
    (made_in (g.simple r i b names f.1) (ran f.0) q) ms t w)

abbrev Goes : ℕ → (List NameUse → Lang (Found Expr)) → (List NameUse → Lang Stmts) → Arms → (Arms → Lang Stmts) → (Stmts → Lang Stmts) → Lang Stmts
Goes r i b arms p q = symbol k.Else >> ((symbol k.If >> (g.arm r i b arms.1 >>= λ a. p (more arms.0 a))) or (b arms.1 >>= λ t. q (with_last arms.0 t)))

going_out : (r : ℕ) (i : List NameUse → Lang (Found Expr)) (b : List NameUse → Lang Stmts) (f : List Stmt) (arms : Arms) (q : Turned → Lang Stmts) → Within (turns_of.going_on r i b f arms >>= q) (Goes r i b arms (λ z. q (f, z)) (λ x. q (closed_by f x)))
unfolding turns_of.going_on
going_out r i b f arms q ms t w =
    let one = symbol k.If >> (g.arm r i b arms.1 >>= λ a. pure (armed_more f arms.0 a)) in
    let two = b arms.1 >>= λ t. pure (ended f arms.0 t) in
    after (symbol k.Else) (λ _. ((one or two) >>= q)) (λ _. ((symbol k.If >> (g.arm r i b arms.1 >>= λ a. q (armed_more f arms.0 a))) or (b arms.1 >>= λ t. q (ended f arms.0 t))))
    (λ _ ms t w. either _ _ _ _
    (λ ms t w. after (symbol k.If) (λ _. ((g.arm r i b arms.1 >>= λ a. pure (armed_more f arms.0 a)) >>= q)) (λ _. (g.arm r i b arms.1 >>= λ a. q (armed_more f arms.0 a))) (λ _. made_out (g.arm r i b arms.1) (armed_more f arms.0) q) ms t (turn_right (symbol k.If) (λ _. (g.arm r i b arms.1 >>= λ a. pure (armed_more f arms.0 a))) q ms t w))
    (made_out (b arms.1) (ended f arms.0) q) ms t (or_out one two q ms t w))
    ms t (turn_right (symbol k.Else) (λ _. (one or two)) q ms t w)

going_in : (r : ℕ) (i : List NameUse → Lang (Found Expr)) (b : List NameUse → Lang Stmts) (f : List Stmt) (arms : Arms) (q : Turned → Lang Stmts) → Within (Goes r i b arms (λ z. q (f, z)) (λ x. q (closed_by f x))) (turns_of.going_on r i b f arms >>= q)
unfolding turns_of.going_on
going_in r i b f arms q ms t w =
    let one = symbol k.If >> (g.arm r i b arms.1 >>= λ a. pure (armed_more f arms.0 a)) in
    let two = b arms.1 >>= λ t. pure (ended f arms.0 t) in
    turn_left (symbol k.Else) (λ _. (one or two)) q ms t
    (after (symbol k.Else) (λ _. ((symbol k.If >> (g.arm r i b arms.1 >>= λ a. q (armed_more f arms.0 a))) or (b arms.1 >>= λ t. q (ended f arms.0 t)))) (λ _. ((one or two) >>= q))
    (λ _ ms t w. or_in one two q ms t (either _ _ _ _
    (λ ms t w. turn_left (symbol k.If) (λ _. (g.arm r i b arms.1 >>= λ a. pure (armed_more f arms.0 a))) q ms t (after (symbol k.If) (λ _. (g.arm r i b arms.1 >>= λ a. q (armed_more f arms.0 a))) (λ _. ((g.arm r i b arms.1 >>= λ a. pure (armed_more f arms.0 a)) >>= q)) (λ _. made_in (g.arm r i b arms.1) (armed_more f arms.0) q) ms t w))
    (made_in (b arms.1) (ended f arms.0) q) ms t w))
    ms t w)

-- a statement as one tells it
next_out : (r : ℕ) (i : List NameUse → Lang (Found Expr)) (b : List NameUse → Lang Stmts) (s : Stmts × Bool) (q : Stmts × Bool → Lang Stmts)
    → Within (Next r i b s >>= q) (Begins r i b (names_after s.1) s.0.1 (λ a. (iterate always (else_if (g.arm r i b)) (more [] a) >>= Ending b q s.0.0)) (λ t. q (more s.0.0 t, false)))
next_out r i b s q ms t w =
    let parts = λ (a : Found Branch). iterate always (else_if (g.arm r i b)) (more [] a) >>= last b in
    let p = λ (x : Stmts × Bool). q (with_if s.0.0 x) in
    either _ _ _ _
    (λ ms t w. after (symbol k.If) (λ _. ((g.arm r i b s.0.1 >>= parts) >>= p)) (λ _. (g.arm r i b s.0.1 >>= λ a. (iterate always (else_if (g.arm r i b)) (more [] a) >>= Ending b q s.0.0)))
    (λ _ ms t w. after (g.arm r i b s.0.1) (λ a. (parts a >>= p)) (λ a. (iterate always (else_if (g.arm r i b)) (more [] a) >>= Ending b q s.0.0)) (λ a. turn_right (iterate always (else_if (g.arm r i b)) (more [] a)) (last b) p) ms t (turn_right (g.arm r i b s.0.1) parts p ms t w))
    ms t (turn_right (symbol k.If) (λ _. (g.arm r i b s.0.1 >>= parts)) p ms t (made_out (whole_if (g.arm r i b) b s.0.1) (with_if s.0.0) q ms t w)))
    (made_out (g.simple r i b (names_after s.1) s.0.1) (λ t. (more s.0.0 t, false)) q) ms t
    (or_out (whole_if (g.arm r i b) b s.0.1 >>= λ x. pure (with_if s.0.0 x)) (g.simple r i b (names_after s.1) s.0.1 >>= λ t. pure (more s.0.0 t, false)) q ms t w)

next_in : (r : ℕ) (i : List NameUse → Lang (Found Expr)) (b : List NameUse → Lang Stmts) (s : Stmts × Bool) (q : Stmts × Bool → Lang Stmts)
    → Within (Begins r i b (names_after s.1) s.0.1 (λ a. (iterate always (else_if (g.arm r i b)) (more [] a) >>= Ending b q s.0.0)) (λ t. q (more s.0.0 t, false))) (Next r i b s >>= q)
next_in r i b s q ms t w =
    let parts = λ (a : Found Branch). iterate always (else_if (g.arm r i b)) (more [] a) >>= last b in
    let p = λ (x : Stmts × Bool). q (with_if s.0.0 x) in
    or_in (whole_if (g.arm r i b) b s.0.1 >>= λ x. pure (with_if s.0.0 x)) (g.simple r i b (names_after s.1) s.0.1 >>= λ t. pure (more s.0.0 t, false)) q ms t
    (either _ _ _ _
    (λ ms t w. made_in (whole_if (g.arm r i b) b s.0.1) (with_if s.0.0) q ms t (turn_left (symbol k.If) (λ _. (g.arm r i b s.0.1 >>= parts)) p ms t
    (after (symbol k.If) (λ _. (g.arm r i b s.0.1 >>= λ a. (iterate always (else_if (g.arm r i b)) (more [] a) >>= Ending b q s.0.0))) (λ _. ((g.arm r i b s.0.1 >>= parts) >>= p))
    (λ _ ms t w. turn_left (g.arm r i b s.0.1) parts p ms t (after (g.arm r i b s.0.1) (λ a. (iterate always (else_if (g.arm r i b)) (more [] a) >>= Ending b q s.0.0)) (λ a. (parts a >>= p)) (λ a. turn_left (iterate always (else_if (g.arm r i b)) (more [] a)) (last b) p) ms t w))
    ms t w)))
    (made_in (g.simple r i b (names_after s.1) s.0.1) (λ t. (more s.0.0 t, false)) q) ms t w)

-- ---- the parts of an `if`

last_out : (b : List NameUse → Lang Stmts) (arms : Arms) (q : Stmts × Bool → Lang Stmts) → Within (last b arms >>= q) ((symbol k.Else >> (b arms.1 >>= λ t. q (with_last arms.0 t, false))) or q ((closing arms.0, arms.1), true))
last_out b arms q ms t w =
    either _ _ _ _
    (λ ms t w. after (symbol k.Else) (λ _. ((b arms.1 >>= λ t. pure (with_last arms.0 t, false)) >>= q)) (λ _. (b arms.1 >>= λ t. q (with_last arms.0 t, false))) (λ _. made_out (b arms.1) (λ t. (with_last arms.0 t, false)) q) ms t
    (turn_right (symbol k.Else) (λ _. (b arms.1 >>= λ t. pure (with_last arms.0 t, false))) q ms t w))
    (drop_pure ((closing arms.0, arms.1), true) q) ms t (or_out (symbol k.Else >> (b arms.1 >>= λ t. pure (with_last arms.0 t, false))) (pure ((closing arms.0, arms.1), true)) q ms t w)

last_in : (b : List NameUse → Lang Stmts) (arms : Arms) (q : Stmts × Bool → Lang Stmts) → Within ((symbol k.Else >> (b arms.1 >>= λ t. q (with_last arms.0 t, false))) or q ((closing arms.0, arms.1), true)) (last b arms >>= q)
last_in b arms q ms t w =
    or_in (symbol k.Else >> (b arms.1 >>= λ t. pure (with_last arms.0 t, false))) (pure ((closing arms.0, arms.1), true)) q ms t
    (either _ _ _ _
    (λ ms t w. turn_left (symbol k.Else) (λ _. (b arms.1 >>= λ t. pure (with_last arms.0 t, false))) q ms t
    (after (symbol k.Else) (λ _. (b arms.1 >>= λ t. q (with_last arms.0 t, false))) (λ _. ((b arms.1 >>= λ t. pure (with_last arms.0 t, false)) >>= q)) (λ _. made_in (b arms.1) (λ t. (with_last arms.0 t, false)) q) ms t w))
    (add_pure ((closing arms.0, arms.1), true) q) ms t w)

else_if_out : (arm : List NameUse → Lang (Found Branch)) (arms : Arms) (q : Arms → Lang Stmts) → Within (else_if arm arms >>= q) (symbol k.Else >> (symbol k.If >> (arm arms.1 >>= λ a. q (more arms.0 a))))
else_if_out arm arms q ms t w =
    after (symbol k.Else) (λ _. ((symbol k.If >> (arm arms.1 >>= λ a. pure (more arms.0 a))) >>= q)) (λ _. (symbol k.If >> (arm arms.1 >>= λ a. q (more arms.0 a))))
    (λ _ ms t w. after (symbol k.If) (λ _. ((arm arms.1 >>= λ a. pure (more arms.0 a)) >>= q)) (λ _. (arm arms.1 >>= λ a. q (more arms.0 a))) (λ _. made_out (arm arms.1) (more arms.0) q) ms t (turn_right (symbol k.If) (λ _. (arm arms.1 >>= λ a. pure (more arms.0 a))) q ms t w))
    ms t (turn_right (symbol k.Else) (λ _. (symbol k.If >> (arm arms.1 >>= λ a. pure (more arms.0 a)))) q ms t w)

else_if_in : (arm : List NameUse → Lang (Found Branch)) (arms : Arms) (q : Arms → Lang Stmts) → Within (symbol k.Else >> (symbol k.If >> (arm arms.1 >>= λ a. q (more arms.0 a)))) (else_if arm arms >>= q)
else_if_in arm arms q ms t w =
    turn_left (symbol k.Else) (λ _. (symbol k.If >> (arm arms.1 >>= λ a. pure (more arms.0 a)))) q ms t
    (after (symbol k.Else) (λ _. (symbol k.If >> (arm arms.1 >>= λ a. q (more arms.0 a)))) (λ _. ((symbol k.If >> (arm arms.1 >>= λ a. pure (more arms.0 a))) >>= q))
    (λ _ ms t w. turn_left (symbol k.If) (λ _. (arm arms.1 >>= λ a. pure (more arms.0 a))) q ms t (after (symbol k.If) (λ _. (arm arms.1 >>= λ a. q (more arms.0 a))) (λ _. ((arm arms.1 >>= λ a. pure (more arms.0 a)) >>= q)) (λ _. made_in (arm arms.1) (more arms.0) q) ms t w))
    ms t w)

rest_now : (r : ℕ) (i : List NameUse → Lang (Found Expr)) (b : List NameUse → Lang Stmts) (f : List Stmt) (arms : Arms) → Within (Ending b (D r i b) f arms) (Rest r i b f arms)
rest_now r i b f arms ms t w = (arms, [], ms, refl, (0, (refl, refl)), w)

rest_more : (r : ℕ) (i : List NameUse → Lang (Found Expr)) (b : List NameUse → Lang Stmts) (f : List Stmt) (arms : Arms) → Within (else_if (g.arm r i b) arms >>= Rest r i b f) (Rest r i b f arms)
rest_more r i b f arms ms t w =
    let v = turn_left (else_if (g.arm r i b) arms) (iterate always (else_if (g.arm r i b))) (Ending b (D r i b) f) ms t w in
    let u = v.4 in
    (v.0, v.1, v.2, v.3, (suc u.5.0, (refl, (u.0, u.1, u.2, u.3, u.4, u.5.1))), v.5)

goes_map : (r : ℕ) (i : List NameUse → Lang (Found Expr)) (b : List NameUse → Lang Stmts) (arms : Arms) (p p2 : Arms → Lang Stmts) (q q2 : Stmts → Lang Stmts) → ((a : Found Branch) → Within (p (more arms.0 a)) (p2 (more arms.0 a))) → ((x : Stmts) → Within (q x) (q2 x)) → Within (Goes r i b arms p q) (Goes r i b arms p2 q2)
goes_map r i b arms p p2 q q2 h j =
    after (symbol k.Else) (λ _. ((symbol k.If >> (g.arm r i b arms.1 >>= λ a. p (more arms.0 a))) or (b arms.1 >>= λ t. q (with_last arms.0 t)))) (λ _. ((symbol k.If >> (g.arm r i b arms.1 >>= λ a. p2 (more arms.0 a))) or (b arms.1 >>= λ t. q2 (with_last arms.0 t))))
    (λ _. either _ _ _ _ (after (symbol k.If) (λ _. (g.arm r i b arms.1 >>= λ a. p (more arms.0 a))) (λ _. (g.arm r i b arms.1 >>= λ a. p2 (more arms.0 a))) (λ _. after (g.arm r i b arms.1) (λ a. p (more arms.0 a)) (λ a. p2 (more arms.0 a)) h))
    (after (b arms.1) (λ t. q (with_last arms.0 t)) (λ t. q2 (with_last arms.0 t)) (λ t. j (with_last arms.0 t))))

goes_rest : (r : ℕ) (i : List NameUse → Lang (Found Expr)) (b : List NameUse → Lang Stmts) (f : List Stmt) (arms : Arms) → Within (Goes r i b arms (Rest r i b f) (λ x. D r i b (joined f x))) (Rest r i b f arms)
goes_rest r i b f arms ms t w = by (or_after (symbol k.Else) (λ _. (symbol k.If >> (g.arm r i b arms.1 >>= λ a. Rest r i b f (more arms.0 a)))) (λ _. (b arms.1 >>= λ t. D r i b (joined f (with_last arms.0 t)))) ms t w)
  where
    by : ((symbol k.Else >> (symbol k.If >> (g.arm r i b arms.1 >>= λ a. Rest r i b f (more arms.0 a)))) or (symbol k.Else >> (b arms.1 >>= λ t. D r i b (joined f (with_last arms.0 t))))) ms t → Rest r i b f arms ms t
    by (inl h) = rest_more r i b f arms ms t (else_if_in (g.arm r i b) arms (Rest r i b f) ms t h)
    by (inr h) = rest_now r i b f arms ms t (last_in b arms (λ x. D r i b (with_if f x)) ms t (inl h))

-- ---- every block turn by turn is one as one tells it

abbrev Forth : ℕ → (List NameUse → Lang (Found Expr)) → (List NameUse → Lang Stmts) → ℕ → Type 0
Forth r i b n = ((f : List Stmt) (es : List NameUse) → Within (Then n (Turn r i b) turned (f, ([], es))) (D r i b ((f, es), false)))
    × ((f : List Stmt) (a : Branch) (as2 : List Branch) (es : List NameUse) → Within (Then n (Turn r i b) turned (f, (a ∷ as2, es))) (Rest r i b f (a ∷ as2, es)))

forth_begun : (r : ℕ) (i : List NameUse → Lang (Found Expr)) (b : List NameUse → Lang Stmts) (n : ℕ) (f : Stmts) (may : Bool) → Forth r i b n → Within (turns_of.begun r i b (names_after may) f >>= Then n (Turn r i b) turned) (D r i b (f, may))
forth_begun r i b n f may h ms t w =
    step_in (Next r i b) told (f, may) ms t (next_in r i b (f, may) (D r i b) ms t
    (begins r i b (names_after may) f.1 (λ a. Then n (Turn r i b) turned (armed f.0 a)) (λ a. Rest r i b f.0 (more [] a)) (λ t. Then n (Turn r i b) turned (ran f.0 t)) (λ t. D r i b (more f.0 t, false)) (λ a. h.1 f.0 a.0 [] a.1) (λ t. h.0 (f.0 ++ t.0 ∷ []) t.1) ms t
    (begun_out r i b (names_after may) f (Then n (Turn r i b) turned) ms t w)))

forth_closed : (r : ℕ) (i : List NameUse → Lang (Found Expr)) (b : List NameUse → Lang Stmts) (n : ℕ) (f : List Stmt) (es : List NameUse) → Forth r i b n → Within (Then (suc n) (Turn r i b) turned (f, ([], es))) (D r i b ((f, es), false))
unfolding turns_of.turn
forth_closed r i b n f es h ms t w = forth_begun r i b n (f, es) false h ms t (step_out n (Turn r i b) turned (f, ([], es)) ms t w)

forth_open : (r : ℕ) (i : List NameUse → Lang (Found Expr)) (b : List NameUse → Lang Stmts) (n : ℕ) (f : List Stmt) (a : Branch) (as2 : List Branch) (es : List NameUse) → Forth r i b n → Within (Then (suc n) (Turn r i b) turned (f, (a ∷ as2, es))) (Rest r i b f (a ∷ as2, es))
unfolding turns_of.turn
forth_open r i b n f a as2 es h ms t w =
    by (or_out (turns_of.going_on r i b f (a ∷ as2, es)) (turns_of.begun r i b words_after_if (shut (f, (a ∷ as2, es)))) (Then n (Turn r i b) turned) ms t (step_out n (Turn r i b) turned (f, (a ∷ as2, es)) ms t w))
  where
    by : ((turns_of.going_on r i b f (a ∷ as2, es) >>= Then n (Turn r i b) turned) or (turns_of.begun r i b words_after_if (shut (f, (a ∷ as2, es))) >>= Then n (Turn r i b) turned)) ms t → Rest r i b f (a ∷ as2, es) ms t
    by (inl v) =
        goes_rest r i b f (a ∷ as2, es) ms t
        (goes_map r i b (a ∷ as2, es) (λ z. Then n (Turn r i b) turned (f, z)) (Rest r i b f) (λ x. Then n (Turn r i b) turned (closed_by f x)) (λ x. D r i b (joined f x)) (λ c. h.1 f a (as2 ++ c.0 ∷ []) c.1) (λ x. h.0 (f ++ x.0) x.1) ms t
        (going_out r i b f (a ∷ as2, es) (Then n (Turn r i b) turned) ms t v))
    by (inr v) = rest_now r i b f (a ∷ as2, es) ms t (last_in b (a ∷ as2, es) (λ x. D r i b (with_if f x)) ms t (inr (forth_begun r i b n (f ++ closing (a ∷ as2), es) true h ms t v)))

forth : (r : ℕ) (i : List NameUse → Lang (Found Expr)) (b : List NameUse → Lang Stmts) (n : ℕ) → Forth r i b n
forth r i b zero = (
  (λ f es ms t w. stop_in (Next r i b) told ((f, es), false) ms t (subst (λ (z : List Stmt). pure (z, es) ms t) (append-nil f) (stop_out (Turn r i b) turned (f, ([], es)) ms t w))),
  (λ f a as2 es ms t w. rest_now r i b f (a ∷ as2, es) ms t (last_in b (a ∷ as2, es) (λ x. D r i b (with_if f x)) ms t (inr (stop_in (Next r i b) told ((f ++ closing (a ∷ as2), es), true) ms t (stop_out (Turn r i b) turned (f, (a ∷ as2, es)) ms t w))))),
)
forth r i b (suc n) = let h = forth r i b n in ((λ f es. forth_closed r i b n f es h), (λ f a as2 es. forth_open r i b n f a as2 es h))

-- ---- and the other way round

abbrev Back : ℕ → (List NameUse → Lang (Found Expr)) → (List NameUse → Lang Stmts) → ℕ → Type 0
Back r i b n = ((f : List Stmt) (es : List NameUse) → Within (Then n (Next r i b) told ((f, es), false)) (E r i b (f, ([], es))))
    × ((f : List Stmt) (a : Branch) (as2 : List Branch) (es : List NameUse) → Within (Then n (Next r i b) told ((f ++ closing (a ∷ as2), es), true)) (E r i b (f, (a ∷ as2, es))))

on_going : (r : ℕ) (i : List NameUse → Lang (Found Expr)) (b : List NameUse → Lang Stmts) (f : List Stmt) (a : Branch) (as2 : List Branch) (es : List NameUse) → Within (Goes r i b (a ∷ as2, es) (λ z. E r i b (f, z)) (λ x. E r i b (closed_by f x))) (E r i b (f, (a ∷ as2, es)))
unfolding turns_of.turn
on_going r i b f a as2 es ms t w =
    step_in (Turn r i b) turned (f, (a ∷ as2, es)) ms t (or_in (turns_of.going_on r i b f (a ∷ as2, es)) (turns_of.begun r i b words_after_if (shut (f, (a ∷ as2, es)))) (E r i b) ms t (inl (going_in r i b f (a ∷ as2, es) (E r i b) ms t w)))

on_begun : (r : ℕ) (i : List NameUse → Lang (Found Expr)) (b : List NameUse → Lang Stmts) (f : List Stmt) (a : Branch) (as2 : List Branch) (es : List NameUse) → Within (turns_of.begun r i b words_after_if (shut (f, (a ∷ as2, es))) >>= E r i b) (E r i b (f, (a ∷ as2, es)))
unfolding turns_of.turn
on_begun r i b f a as2 es ms t w = step_in (Turn r i b) turned (f, (a ∷ as2, es)) ms t (or_in (turns_of.going_on r i b f (a ∷ as2, es)) (turns_of.begun r i b words_after_if (shut (f, (a ∷ as2, es)))) (E r i b) ms t (inr w))

back_if : (r : ℕ) (i : List NameUse → Lang (Found Expr)) (b : List NameUse → Lang Stmts) (n : ℕ) → Back r i b n → (j : ℕ) (f : List Stmt) (a : Branch) (as2 : List Branch) (es : List NameUse)
    → Within (turns j always (else_if (g.arm r i b)) (a ∷ as2, es) >>= Ending b (Then n (Next r i b) told) f) (E r i b (f, (a ∷ as2, es)))
back_if r i b n h zero f a as2 es ms t w = by (last_out b (a ∷ as2, es) (λ x. Then n (Next r i b) told (with_if f x)) ms t (drop_pure (a ∷ as2, es) (Ending b (Then n (Next r i b) told) f) ms t w))
  where
    by : ((symbol k.Else >> (b es >>= λ t. Then n (Next r i b) told (joined f (with_last (a ∷ as2) t)))) or Then n (Next r i b) told ((f ++ closing (a ∷ as2), es), true)) ms t → E r i b (f, (a ∷ as2, es)) ms t
    by (inl v) =
        on_going r i b f a as2 es ms t (or_before (symbol k.Else) (λ _. (symbol k.If >> (g.arm r i b es >>= λ c. E r i b (f, more (a ∷ as2) c)))) (λ _. (b es >>= λ t. E r i b (closed_by f (with_last (a ∷ as2) t)))) ms t
        (inr (after (symbol k.Else) (λ _. (b es >>= λ t. Then n (Next r i b) told (joined f (with_last (a ∷ as2) t)))) (λ _. (b es >>= λ t. E r i b (closed_by f (with_last (a ∷ as2) t))))
        (λ _. after (b es) (λ t. Then n (Next r i b) told (joined f (with_last (a ∷ as2) t))) (λ t. E r i b (closed_by f (with_last (a ∷ as2) t))) (λ t. h.0 (f ++ (with_last (a ∷ as2) t).0) (with_last (a ∷ as2) t).1)) ms t v)))
    by (inr v) = h.1 f a as2 es ms t v
back_if r i b n h (suc j) f a as2 es ms t w =
    let q = λ (z : Arms). turns j always (else_if (g.arm r i b)) z >>= Ending b (Then n (Next r i b) told) f in
    on_going r i b f a as2 es ms t (or_before (symbol k.Else) (λ _. (symbol k.If >> (g.arm r i b es >>= λ c. E r i b (f, more (a ∷ as2) c)))) (λ _. (b es >>= λ t. E r i b (closed_by f (with_last (a ∷ as2) t)))) ms t
    (inl (after (symbol k.Else) (λ _. (symbol k.If >> (g.arm r i b es >>= λ c. q (more (a ∷ as2) c)))) (λ _. (symbol k.If >> (g.arm r i b es >>= λ c. E r i b (f, more (a ∷ as2) c))))
    (λ _. after (symbol k.If) (λ _. (g.arm r i b es >>= λ c. q (more (a ∷ as2) c))) (λ _. (g.arm r i b es >>= λ c. E r i b (f, more (a ∷ as2) c)))
    (λ _. after (g.arm r i b es) (λ c. q (more (a ∷ as2) c)) (λ c. E r i b (f, more (a ∷ as2) c)) (λ c. back_if r i b n h j f a (as2 ++ c.0 ∷ []) c.1))) ms t
    (else_if_out (g.arm r i b) (a ∷ as2, es) q ms t
    (turn_right (else_if (g.arm r i b) (a ∷ as2, es)) (turns j always (else_if (g.arm r i b))) (Ending b (Then n (Next r i b) told) f) ms t (w.0, w.1, w.2, w.3, w.4.1, w.5))))))

back_begun : (r : ℕ) (i : List NameUse → Lang (Found Expr)) (b : List NameUse → Lang Stmts) (n : ℕ) (f : Stmts) (may : Bool) → Back r i b n → Within (Then (suc n) (Next r i b) told (f, may)) (turns_of.begun r i b (names_after may) f >>= E r i b)
back_begun r i b n f may h ms t w =
    begun_in r i b (names_after may) f (E r i b) ms t
    (begins r i b (names_after may) f.1 (λ a. (iterate always (else_if (g.arm r i b)) (more [] a) >>= Ending b (Then n (Next r i b) told) f.0)) (λ a. E r i b (armed f.0 a)) (λ t. Then n (Next r i b) told (more f.0 t, false)) (λ t. E r i b (ran f.0 t))
    (λ a ms t w. back_if r i b n h w.4.0 f.0 a.0 [] a.1 ms t (w.0, w.1, w.2, w.3, w.4.1, w.5)) (λ t. h.0 (f.0 ++ t.0 ∷ []) t.1) ms t
    (next_out r i b (f, may) (Then n (Next r i b) told) ms t (step_out n (Next r i b) told (f, may) ms t w)))

back_closed : (r : ℕ) (i : List NameUse → Lang (Found Expr)) (b : List NameUse → Lang Stmts) (n : ℕ) (f : List Stmt) (es : List NameUse) → Back r i b n → Within (Then (suc n) (Next r i b) told ((f, es), false)) (E r i b (f, ([], es)))
unfolding turns_of.turn
back_closed r i b n f es h ms t w = step_in (Turn r i b) turned (f, ([], es)) ms t (back_begun r i b n (f, es) false h ms t w)

back : (r : ℕ) (i : List NameUse → Lang (Found Expr)) (b : List NameUse → Lang Stmts) (n : ℕ) → Back r i b n
back r i b zero = (
  (λ f es ms t w. stop_in (Turn r i b) turned (f, ([], es)) ms t (subst (λ (z : List Stmt). pure (z, es) ms t) (sym (append-nil f)) (stop_out (Next r i b) told ((f, es), false) ms t w))),
  (λ f a as2 es ms t w. stop_in (Turn r i b) turned (f, (a ∷ as2, es)) ms t (stop_out (Next r i b) told ((f ++ closing (a ∷ as2), es), true) ms t w)),
)
back r i b (suc n) = let h = back r i b n in ((λ f es. back_closed r i b n f es h), (λ f a as2 es ms t w. on_begun r i b f a as2 es ms t (back_begun r i b n (f ++ closing (a ∷ as2), es) true h ms t w)))

-- ---- a block's statements are the same

pub turns_told : (r : ℕ) (i : List NameUse → Lang (Found Expr)) (b : List NameUse → Lang Stmts) (es : List NameUse) → Within (turns_of.statements r i b es) (g.statements r i b es)
unfolding g.statements turns_of.statements
turns_told r i b es ms t w = (forth r i b w.4.0).0 [] es ms t (w.0, w.1, w.2, w.3, w.4.1, w.5)

pub told_turns : (r : ℕ) (i : List NameUse → Lang (Found Expr)) (b : List NameUse → Lang Stmts) (es : List NameUse) → Within (g.statements r i b es) (turns_of.statements r i b es)
unfolding g.statements turns_of.statements
told_turns r i b es ms t w = (back r i b w.4.0).0 [] es ms t (w.0, w.1, w.2, w.3, w.4.1, w.5)
