-- The steps of the forms beside the rules'.
use Rattle.std.proofs.Common.{◌≡◌, ℕ, suc, ◌+◌, ◌-◌, ◌<◌, ◌≤◌, List, [], ◌∷◌, ◌++◌, Bool, true, false, refl, sym, ap, ◌∙◌, length, get_or, drop, arith}
use Rattle.std.proofs.lemmas.List.{drop_more, drop_all}
use Rattle.jessie_machine.specs.host_data.Tree.{Tree}
use Rattle.jessie_machine.specs.jessie_grammar.Syntax.{Routine, call, built_in, amount_math, send, listing, composed, linked, unary, chain, choice, method, choose, repeat, each, attempt, term_view, terms_view, named_terms_view, operands_view, link_view, links_view, statement_view, block_view, branches_view}
use Rattle.jessie_machine.specs.jessie_grammar.declared.syntax.BuiltIn.{BuiltIn}
use Rattle.jessie_machine.specs.jessie_grammar.declared.syntax.Unary.{Unary}
use Rattle.jessie_machine.specs.jessie_grammar.declared.syntax.Operator.{Operator}
use Rattle.jessie_machine.specs.jessie_grammar.declared.syntax.Expr.{Expr}
use Rattle.jessie_machine.specs.jessie_grammar.declared.syntax.Expr as E
use Rattle.jessie_machine.specs.jessie_grammar.declared.syntax.Access.{Access}
use Rattle.jessie_machine.specs.jessie_grammar.declared.syntax.Access as P
use Rattle.jessie_machine.specs.jessie_grammar.declared.syntax.Stmt.{Stmt}
use Rattle.jessie_machine.specs.jessie_grammar.declared.syntax.Stmt as S
use Rattle.jessie_machine.specs.jessie_grammar.declared.syntax.Branch.{Branch}
use Rattle.jessie_machine.proofs.jessie_grammar.Views.{term-Call, term-BuiltIn, term-AmountMath, term-Send, term-Array, term-Record, term-Accesses, term-Unary, term-Chain, term-Choice, link-Method, statement-If, statement-While, statement-ForOf, statement-Try, way-of}
use Rattle.jessie_machine.specs.jessie_values.declared.reasons.Reason.TheVariants.{TooDeep}
use Rattle.jessie_machine.specs.jessie_values.Reasons.{bad_step}
use Rattle.jessie_machine.specs.jessie_values.Dispatch.{operate}
use Rattle.jessie_machine.specs.jessie_semantics.Actions.{Action, pure, throw, spend, ◌>>=◌, scoped}
use Rattle.jessie_machine.specs.jessie_semantics.Rules.{Program, program, expr, exprs, named_exprs, links, one_link, operands, operator_rule, right_side, worked, End, next, either, test, one_round, rounds, stmt, branches, block, going_on, calls_of, enter, find_routine}

-- forms by their parts, as the code has them

pub call_at : (e : Expr) (f : List ℕ) (es xs : List Expr) → e ≡ E.Call f es → xs ≡ es → term_view e ≡ call f (terms_view xs)
call_at e f es xs p q = ap term_view p ∙ (term-Call f es ∙ ap (λ l. call f (terms_view l)) (sym q))

pub built_in_at : (e : Expr) (b : BuiltIn) (es xs : List Expr) → e ≡ E.BuiltIn b es → xs ≡ es → term_view e ≡ built_in b (terms_view xs)
built_in_at e b es xs p q = ap term_view p ∙ (term-BuiltIn b es ∙ ap (λ l. built_in b (terms_view l)) (sym q))

pub amounts_at : (e : Expr) (x : List ℕ) (es xs : List Expr) → e ≡ E.AmountMath x es → xs ≡ es → term_view e ≡ amount_math x (terms_view xs)
amounts_at e x es xs p q = ap term_view p ∙ (term-AmountMath x es ∙ ap (λ l. amount_math x (terms_view l)) (sym q))

pub send_at : (e a y : Expr) (x : List ℕ) (es xs : List Expr) → e ≡ E.Send a x es → y ≡ a → xs ≡ es → term_view e ≡ send (term_view y) x (terms_view xs)
send_at e a y x es xs p q r = ap term_view p ∙ (term-Send a x es ∙ (ap (λ z. send (term_view z) x (terms_view es)) (sym q) ∙ ap (λ l. send (term_view y) x (terms_view l)) (sym r)))

pub array_at : (e : Expr) (es xs : List Expr) → e ≡ E.Array es → xs ≡ es → term_view e ≡ listing (terms_view xs)
array_at e es xs p q = ap term_view p ∙ (term-Array es ∙ ap (λ l. listing (terms_view l)) (sym q))

pub record_at : (e : Expr) (es xs : List (List ℕ × Expr)) → e ≡ E.Record es → xs ≡ es → term_view e ≡ composed (named_terms_view xs)
record_at e es xs p q = ap term_view p ∙ (term-Record es ∙ ap (λ l. composed (named_terms_view l)) (sym q))

pub steps_at : (e a x : Expr) (ks ys : List Access) → e ≡ E.Accesses a ks → x ≡ a → ys ≡ ks → term_view e ≡ linked (term_view x) (links_view ys)
steps_at e a x ks ys p q r = ap term_view p ∙ (term-Accesses a ks ∙ (ap (λ z. linked (term_view z) (links_view ks)) (sym q) ∙ ap (λ l. linked (term_view x) (links_view l)) (sym r)))

pub unary_at : (e a x : Expr) (u : Unary) → e ≡ E.Unary u a → x ≡ a → term_view e ≡ unary u (term_view x)
unary_at e a x u p q = ap term_view p ∙ (term-Unary u a ∙ ap (λ z. unary u (term_view z)) (sym q))

pub chain_at : (e a x : Expr) (ks ys : List (Operator × Expr)) → e ≡ E.Chain a ks → x ≡ a → ys ≡ ks → term_view e ≡ chain (term_view x) (operands_view ys)
chain_at e a x ks ys p q r = ap term_view p ∙ (term-Chain a ks ∙ (ap (λ z. chain (term_view z) (operands_view ks)) (sym q) ∙ ap (λ l. chain (term_view x) (operands_view l)) (sym r)))

pub choice_at : (e a b d x y z : Expr) → e ≡ E.Choice a b d → x ≡ a → y ≡ b → z ≡ d → term_view e ≡ choice (term_view x) (term_view y) (term_view z)
choice_at e a b d x y z p q r s = ap term_view p ∙ (term-Choice a b d ∙ (ap (λ w. choice (term_view w) (term_view b) (term_view d)) (sym q) ∙ (ap (λ w. choice (term_view x) (term_view w) (term_view d)) (sym r) ∙ ap (λ w. choice (term_view x) (term_view y) (term_view w)) (sym s))))

pub method_at : (k : Access) (x : List ℕ) (es xs : List Expr) → k ≡ P.Method x es → xs ≡ es → link_view k ≡ method x (terms_view xs)
method_at k x es xs p q = ap link_view p ∙ (link-Method x es ∙ ap (λ l. method x (terms_view l)) (sym q))

pub if_at : (s : Stmt) (ws vs : List Branch) (b y : List Stmt) → s ≡ S.If ws b → vs ≡ ws → y ≡ b → statement_view s ≡ choose (branches_view vs) (block_view y)
if_at s ws vs b y p q r = ap statement_view p ∙ (statement-If ws b ∙ (ap (λ z. choose (branches_view z) (block_view b)) (sym q) ∙ ap (λ z. choose (branches_view vs) (block_view z)) (sym r)))

pub while_at : (s : Stmt) (e : Expr) (a x : List Stmt) → s ≡ S.While e a → x ≡ a → statement_view s ≡ repeat (term_view e) (block_view x)
while_at s e a x p q = ap statement_view p ∙ (statement-While e a ∙ ap (λ z. repeat (term_view e) (block_view z)) (sym q))

pub for_at : (s : Stmt) (n : List ℕ) (e : Expr) (a x : List Stmt) → s ≡ S.ForOf n e a → x ≡ a → statement_view s ≡ each n (term_view e) (block_view x)
for_at s n e a x p q = ap statement_view p ∙ (statement-ForOf n e a ∙ ap (λ z. each n (term_view e) (block_view z)) (sym q))

pub try_at : (s : Stmt) (n : List ℕ) (a b x y : List Stmt) → s ≡ S.Try a n b → x ≡ a → y ≡ b → statement_view s ≡ attempt (block_view x) n (block_view y)
try_at s n a b x y p q r = ap statement_view p ∙ (statement-Try a n b ∙ (ap (λ z. attempt (block_view z) n (block_view b)) (sym q) ∙ ap (λ z. attempt (block_view x) n (block_view z)) (sym r)))

-- lists of parts, from some place on

opened : {X : Type 0} (xs : List X) (i : ℕ) (x : X) → i < length xs → x ≡ get_or xs i x → drop i xs ≡ x ∷ drop (i + 1) xs
opened xs i x h e = drop_more xs i x h ∙ ap (λ y. y ∷ drop (i + 1) xs) (sym e)

pub exprs_open : (m : Program) (vs : List Tree) (xs : List Expr) (i : ℕ) (x : Expr) → i < length xs → x ≡ get_or xs i x
    → exprs m (terms_view (drop i xs)) vs ≡ (expr m (term_view x) >>= (λ v. exprs m (terms_view (drop (i + 1) xs)) (vs ++ v ∷ [])))
exprs_open m vs xs i x h e = ap (λ l. exprs m (terms_view l) vs) (opened xs i x h e)

pub exprs_end : (m : Program) (vs : List Tree) (xs : List Expr) (i : ℕ) → length xs ≤ i → exprs m (terms_view (drop i xs)) vs ≡ pure vs
exprs_end m vs xs i h = ap (λ l. exprs m (terms_view l) vs) (drop_all i xs h)

pub named_open : (m : Program) (vs : List (List ℕ × Tree)) (xs : List (List ℕ × Expr)) (i : ℕ) (x : List ℕ × Expr) → i < length xs → x ≡ get_or xs i x
    → named_exprs m (named_terms_view (drop i xs)) vs ≡ (expr m (term_view x.1) >>= (λ v. named_exprs m (named_terms_view (drop (i + 1) xs)) (vs ++ (x.0, v) ∷ [])))
named_open m vs xs i x h e = ap (λ l. named_exprs m (named_terms_view l) vs) (opened xs i x h e)

pub named_end : (m : Program) (vs : List (List ℕ × Tree)) (xs : List (List ℕ × Expr)) (i : ℕ) → length xs ≤ i → named_exprs m (named_terms_view (drop i xs)) vs ≡ pure vs
named_end m vs xs i h = ap (λ l. named_exprs m (named_terms_view l) vs) (drop_all i xs h)

pub links_open : (m : Program) (v : Tree) (xs : List Access) (i : ℕ) (x : Access) → i < length xs → x ≡ get_or xs i x
    → links m (links_view (drop i xs)) v ≡ (one_link m (link_view x) v >>= (λ w. links m (links_view (drop (i + 1) xs)) w))
links_open m v xs i x h e = ap (λ l. links m (links_view l) v) (opened xs i x h e)

pub links_end : (m : Program) (v : Tree) (xs : List Access) (i : ℕ) → length xs ≤ i → links m (links_view (drop i xs)) v ≡ pure v
links_end m v xs i h = ap (λ l. links m (links_view l) v) (drop_all i xs h)

pub operands_open : (m : Program) (v : Tree) (xs : List (Operator × Expr)) (i : ℕ) (x : Operator × Expr) → i < length xs → x ≡ get_or xs i x
    → operands m (operands_view (drop i xs)) v ≡ (operator_rule x.0 (expr m (term_view x.1)) v >>= (λ w. operands m (operands_view (drop (i + 1) xs)) w))
operands_open m v xs i x h e = ap (λ l. operands m (operands_view l) v) (opened xs i x h e)

pub operands_end : (m : Program) (v : Tree) (xs : List (Operator × Expr)) (i : ℕ) → length xs ≤ i → operands m (operands_view (drop i xs)) v ≡ pure v
operands_end m v xs i h = ap (λ l. operands m (operands_view l) v) (drop_all i xs h)

pub branches_open : (m : Program) (other : Action End) (xs : List Branch) (i : ℕ) (x : Branch) → i < length xs → x ≡ get_or xs i x
    → branches m (branches_view (drop i xs)) other ≡ (test m (term_view x.condition) >>= (λ b. either b (scoped (block m (block_view x.body))) (branches m (branches_view (drop (i + 1) xs)) other)))
branches_open m other xs i x h e = ap (λ l. branches m (branches_view l) other) (opened xs i x h e)
    ∙ ap (λ w. test m w.condition >>= (λ b. either b (scoped (block m w.body)) (branches m (branches_view (drop (i + 1) xs)) other))) (way-of x)

pub branches_end : (m : Program) (other : Action End) (xs : List Branch) (i : ℕ) → length xs ≤ i → branches m (branches_view (drop i xs)) other ≡ other
branches_end m other xs i h = ap (λ l. branches m (branches_view l) other) (drop_all i xs h)

pub block_open : (m : Program) (xs : List Stmt) (i : ℕ) (x : Stmt) → i < length xs → x ≡ get_or xs i x
    → block m (block_view (drop i xs)) ≡ (stmt m (statement_view x) >>= (λ e. going_on e (block m (block_view (drop (i + 1) xs)))))
block_open m xs i x h e = ap (λ l. block m (block_view l)) (opened xs i x h e)

pub block_end : (m : Program) (xs : List Stmt) (i : ℕ) → length xs ≤ i → block m (block_view (drop i xs)) ≡ pure next
block_end m xs i h = ap (λ l. block m (block_view l)) (drop_all i xs h)

below : (n i : ℕ) → i < n → n - i ≡ suc (n - (i + 1))
below n i h = omega arith

pub rounds_open : (n i : ℕ) (c : Action Bool) (a : Action End) → i < n → rounds (n - i) c a ≡ (c >>= (λ b. one_round b a (rounds (n - (i + 1)) c a)))
rounds_open n i c a h = ap (λ m. rounds m c a) (below n i h)

none_left : (n i : ℕ) → n ≤ i → n - i ≡ 0
none_left n i h = omega arith

pub rounds_end : (n i : ℕ) (c : Action Bool) (a : Action End) → n ≤ i → rounds (n - i) c a ≡ spend
rounds_end n i c a h = ap (λ m. rounds m c a) (none_left n i h)

pub no_items_left : {X : Type 0} (xs : List X) → length xs ≡ 0 → xs ≡ []
no_items_left [] e = refl
no_items_left (x ∷ xs) e = cc

-- either way

pub right_true : (b : Bool) (op : Operator) (a : Action Tree) (v : Tree) → b ≡ true → right_side b op a v ≡ pure v
right_true b op a v e = ap (λ b. right_side b op a v) e

pub right_false : (b : Bool) (op : Operator) (a : Action Tree) (v : Tree) → b ≡ false → right_side b op a v ≡ (a >>= (λ w. worked (operate op v w)))
right_false b op a v e = ap (λ b. right_side b op a v) e

pub either_true : {A : Type 0} (b : Bool) (x y : Action A) → b ≡ true → either b x y ≡ x
either_true b x y e = ap (λ b. either b x y) e

pub either_false : {A : Type 0} (b : Bool) (x y : Action A) → b ≡ false → either b x y ≡ y
either_false b x y e = ap (λ b. either b x y) e

pub round_true : (b : Bool) (a r : Action End) → b ≡ true → one_round b a r ≡ (a >>= (λ e. going_on e r))
round_true b a r e = ap (λ b. one_round b a r) e

pub round_false : (b : Bool) (a r : Action End) → b ≡ false → one_round b a r ≡ pure next
round_false b a r e = ap (λ b. one_round b a r) e

-- calls

pub calls_more : (rs : List Routine) (n m : ℕ) (f : List ℕ) (vs : List Tree) → n ≡ suc m → calls_of rs n f vs ≡ enter (program rs m) (find_routine f rs) vs
unfolding calls_of
calls_more rs n m f vs e = ap (λ n. calls_of rs n f vs) e

pub calls_none : (rs : List Routine) (n : ℕ) (f : List ℕ) (vs : List Tree) → n ≡ 0 → calls_of rs n f vs ≡ throw (bad_step TooDeep)
unfolding calls_of
calls_none rs n f vs e = ap (λ n. calls_of rs n f vs) e
