-- Numbers at hand: their charges, operators between them, and chains of operators.
use Rattle.std.proofs.Common.{◌≡◌, ℕ, ℤ, ◌+◌, ◌-◌, ◌<◌, ◌≤◌, List, [], ◌∷◌, Bool, false, cond, map, Option, Some, None, sym, ap, subst, ◌∙◌, length, get_or, drop, refl, arith}
use Rattle.std.specs.Prelude.{Ok, Err, IfSome}
use Rattle.std.proofs.lemmas.Bool.{le-leb}
use Rattle.std.proofs.lemmas.List.{drop_more, drop_all}
use Rattle.jessie_semantics.specs.host_data.Tree.{Tree, boolean, number}
use Rattle.jessie_semantics.specs.host_data.View.{tree, named_trees}
use Rattle.jessie_semantics.specs.host_data.declared.data.Data.{Data}
use Rattle.jessie_index.specs.jessie_grammar.Syntax.{Term, chain, operand, no_operands, operands_view, term_view}
use Rattle.jessie_index.specs.jessie_grammar.declared.syntax.Expr.{Expr}
use Rattle.jessie_index.specs.jessie_grammar.declared.syntax.Expr as E
use Rattle.jessie_index.specs.jessie_grammar.declared.syntax.Operator.{Operator}
use Rattle.jessie_index.specs.jessie_grammar.declared.syntax.Operator.TheVariants.{Or, And, Equal, Unequal, Less, AtMost, Greater, AtLeast, Add, Subtract, Multiply, Divide, Remainder}
use Rattle.jessie_index.proofs.jessie_grammar.Views.{term-Chain}
use Rattle.jessie_index.specs.jessie_values.declared.reasons.Reason.{Reason}
use Rattle.jessie_index.specs.jessie_values.declared.reasons.Reason.TheVariants.{WrongKind}
use Rattle.jessie_index.specs.jessie_values.Dispatch.{operate, skips}
use Rattle.jessie_index.specs.jessie_values.Operators.{truth}
use Rattle.jessie_index.specs.jessie_values.Reasons.{bad_step}
use Rattle.jessie_semantics.specs.Play.{Spends}
use Rattle.jessie_semantics.specs.Actions.{Bindings, State, went, Then, Action, pure, onward, ◌>>=◌, charge, first_of, look, paid}
use Rattle.jessie_semantics.specs.Rules.{Program, expr, operands, operator_rule, literal_rule, name_rule, worked, test, find_routine, function_named}
use Rattle.jessie_semantics.specs.Runs.{Computes, came}
use Rattle.jessie_semantics.proofs.Runs.{then_computes, pure_computes, worked_ok, computes_as, named_computes}
use Rattle.jessie_machine.specs.Machine.{Makes, Decides, standing, place, local_at}
use Rattle.jessie_machine.proofs.Exits.{worked_as_ok}
use Rattle.jessie_machine.proofs.Places.{local_look, local_here}

-- charges that the meter has

charged : (n : ℕ) (ls gs : Bindings) (before after : ℕ) → after + n ≡ before → Computes (charge n) (standing ls gs before) (came tt) (standing ls gs after)
unfolding charge
charged n ls gs before after e = record {
  does = λ z k. ap (λ c. cond c (k (went tt) (standing ls gs (before - n))) Spends) (le-leb n before (omega (arith, e)))
      ∙ ap (λ m. k (went tt) (standing ls gs m)) (omega (arith, e));
}

paid_to : (t : Tree) (n : ℤ) (ls gs : Bindings) (before after : ℕ) → after + 1 ≡ before → Computes (paid t (Some (number n))) (standing ls gs before) (came (number n)) (standing ls gs after)
unfolding paid
paid_to t n ls gs before after e = record {
  does = λ z k. ap (λ c. cond c (k (went (number n)) (standing ls gs (before - 1))) Spends) (le-leb 1 before (omega (arith, e)))
      ∙ ap (λ m. k (went (number n)) (standing ls gs m)) (omega (arith, e));
}

-- a literal, and a name

pub literal_makes : (n : ℤ) (ls : Bindings) (before after : ℕ) → after + 2 ≡ before → Makes (literal_rule (number n)) ls before n after
literal_makes n ls before after e = λ gs.
    then_computes _ (charged 1 ls gs before (after + 1) (omega (arith, e))) (then_computes _ (charged 1 ls gs (after + 1) after refl) (pure_computes _ _))

pub name_makes : (m : Program) (x : List ℕ) (n : ℤ) (ls : Bindings) (before after : ℕ) → look x ls ≡ Some (number n) → after + 2 ≡ before → Makes (name_rule m x) ls before n after
name_makes m x n ls before after h e = λ gs.
    let t = bad_step WrongKind in
    let other = function_named (find_routine x m.routines) in
    then_computes _ (charged 1 ls gs before (after + 1) (omega (arith, e))) (then_computes _ (named_computes x other (standing ls gs (after + 1)))
    (computes_as (ap (λ o. paid t (first_of o (first_of (look x gs) other))) h) (paid_to t n ls gs (after + 1) after refl)))

-- the number that a name holds, by its place
pub local_number : (x : List ℕ) (bs all : List (List ℕ × Data)) (i : ℕ) (b : List ℕ × Data) (n : ℤ) → bs ≡ all → Some i ≡ place x (map (λ b. b.0) all) → i < length all → b ≡ get_or bs i b → tree b.1 ≡ number n
    → look x (named_trees all) ≡ Some (number n)
local_number x bs all i b n same found h at e =
    let here : i < length bs = omega (arith, h, ap length same) in
    local_look x all (Some i) found ∙ ap (λ v. Some v) (ap (λ l. local_at (named_trees l) i) (sym same) ∙ (local_here bs i b here at ∙ e))

-- where there is one

-- what was there was put into a place
pub made_as : {o : Option ℤ} {k : ℤ} {a b : Action Tree} {ls : Bindings} {before after : ℕ} → o ≡ Some k → b ≡ a → IfSome o (λ n. Makes a ls before n after) → Makes b ls before k after
made_as {a = a} {ls = ls} {before = before} {after = after} q e h = λ gs. computes_as e (subst (λ o. IfSome o (λ n. Makes a ls before n after)) q h gs)

pub makes_to : {a : Action Tree} {ls : Bindings} {before after : ℕ} {n k : ℤ} → k ≡ n → Makes a ls before n after → Makes a ls before k after
makes_to {a} {ls} {before} {after} e h = subst (λ n. Makes a ls before n after) (sym e) h

pub literal_paid : (o : Option ℤ) (t : Tree) (n : ℤ) (ls : Bindings) (before after : ℕ) → t ≡ number n → IfSome o (λ k. k ≡ n) → IfSome o (λ k. after + 2 ≡ before) → IfSome o (λ k. Makes (literal_rule t) ls before k after)
literal_paid (Some k) t n ls before after e v p = λ gs. computes_as (ap literal_rule (e ∙ ap number (sym v))) (literal_makes k ls before after p gs)
literal_paid None t n ls before after e v p = tt

pub name_paid : (o : Option ℤ) (m : Program) (x : List ℕ) (n : ℤ) (ls : Bindings) (before after : ℕ) → look x ls ≡ Some (number n) → IfSome o (λ k. k ≡ n) → IfSome o (λ k. after + 2 ≡ before) → IfSome o (λ k. Makes (name_rule m x) ls before k after)
name_paid (Some k) m x n ls before after e v p = name_makes m x k ls before after (e ∙ ap (λ z. Some (number z)) (sym v)) p
name_paid None m x n ls before after e v p = tt

-- an operator that makes something of two numbers never goes by the left one alone

no_value : (r : Reason) (v : Tree) → Err r ≡ Ok v → ⊥
no_value r v e = cc

skips_not : (op : Operator) (a b : ℤ) (v : Tree) → operate op (number a) (number b) ≡ Ok v → skips op (number a) ≡ Ok false
skips_not Or a b v e = absurd (no_value WrongKind v e)
skips_not And a b v e = absurd (no_value WrongKind v e)
skips_not Equal a b v e = refl
skips_not Unequal a b v e = refl
skips_not Less a b v e = refl
skips_not AtMost a b v e = refl
skips_not Greater a b v e = refl
skips_not AtLeast a b v e = refl
skips_not Add a b v e = refl
skips_not Subtract a b v e = refl
skips_not Multiply a b v e = refl
skips_not Divide a b v e = refl
skips_not Remainder a b v e = refl

pub operated : (op : Operator) (right : Action Tree) (a b : ℤ) (v : Tree) (ls gs : Bindings) (before between after : ℕ) → between + 1 ≡ before → Makes right ls between b after → operate op (number a) (number b) ≡ Ok v
    → Computes (operator_rule op right (number a)) (standing ls gs before) (came v) (standing ls gs after)
operated op right a b v ls gs before between after e h q =
    then_computes _ (charged 1 ls gs before between e) (then_computes _ (worked_as_ok _ _ (skips_not op a b v q)) (then_computes _ (h gs) (worked_as_ok _ _ q)))

pub number_operated : (o : Option ℤ) (op : Operator) (right : Action Tree) (a b c d : ℤ) (ls : Bindings) (before between after : ℕ) → c ≡ a → d ≡ b → between + 1 ≡ before → Makes right ls between b after
    → IfSome o (λ n. operate op (number c) (number d) ≡ Ok (number n)) → IfSome o (λ n. Makes (operator_rule op right (number a)) ls before n after)
number_operated (Some n) op right a b c d ls before between after p q e h made = λ gs. operated op right a b (number n) ls gs before between after e h
    (ap (λ z. operate op (number z) (number b)) (sym p) ∙ (ap (λ z. operate op (number c) (number z)) (sym q) ∙ made))
number_operated None op right a b c d ls before between after p q e h made = tt

pub truth_operated : (o : Option Bool) (op : Operator) (left right : Action Tree) (a b c d : ℤ) (ls : Bindings) (before between next after : ℕ) → c ≡ a → d ≡ b → next + 1 ≡ between → Makes left ls before a between → Makes right ls next b after
    → IfSome o (λ t. operate op (number c) (number d) ≡ Ok (boolean t)) → IfSome o (λ t. Decides left op right ls before t after)
truth_operated (Some t) op left right a b c d ls before between next after p q e g h told = λ gs. then_computes _ (g gs) (operated op right a b (boolean t) ls gs between next after e h
    (ap (λ z. operate op (number z) (number b)) (sym p) ∙ (ap (λ z. operate op (number c) (number z)) (sym q) ∙ told)))
truth_operated None op left right a b c d ls before between next after p q e g h told = tt

-- a chain, from some operator on

pub record Becomes (a : Action Tree) (s : State) (b : Action Tree) (u : State) : Type 0 where
  pub goes : (k : Then Tree) → a s k ≡ b u k

-- the chain is worked so far
abbrev pub Reached : Program → Action Tree → List (Operator × Expr) → Bindings → ℕ → ℤ → ℕ → Type 0
Reached m a rest ls before n after = (gs : Bindings) → Becomes a (standing ls gs before) (operands m (operands_view rest) (number n)) (standing ls gs after)

pub chain_begins : (m : Program) (t : Term) (rest : List (Operator × Expr)) (ls : Bindings) (before : ℕ) (n : ℤ) (after : ℕ) → Makes (expr m t) ls before n after → Reached m (expr m (chain t (operands_view rest))) rest ls before n after
unfolding ◌>>=◌
chain_begins m t rest ls before n after h gs = record { goes = λ k. (h gs).does tt (onward (operands m (operands_view rest)) k) }

opened : (m : Program) (n : ℤ) (xs : List (Operator × Expr)) (i : ℕ) (x : Operator × Expr) → i < length xs → x ≡ get_or xs i x
    → operands m (operands_view (drop i xs)) (number n) ≡ (operator_rule x.0 (expr m (term_view x.1)) (number n) >>= (λ w. operands m (operands_view (drop (i + 1) xs)) w))
opened m n xs i x h e = ap (λ l. operands m (operands_view l) (number n)) (drop_more xs i x h ∙ ap (λ y. y ∷ drop (i + 1) xs) (sym e))

pub chain_goes_on : (m : Program) (a : Action Tree) (xs : List (Operator × Expr)) (i : ℕ) (x : Operator × Expr) (ls : Bindings) (before between after : ℕ) (n new : ℤ) → i < length xs → x ≡ get_or xs i x
    → Reached m a (drop i xs) ls before n between → Makes (operator_rule x.0 (expr m (term_view x.1)) (number n)) ls between new after → Reached m a (drop (i + 1) xs) ls before new after
unfolding ◌>>=◌
chain_goes_on m a xs i x ls before between after n new h at r q gs = record {
  goes = λ k. (r gs).goes k ∙ (ap (λ b. b (standing ls gs between) k) (opened m n xs i x h at) ∙ (q gs).does tt (onward (λ w. operands m (operands_view (drop (i + 1) xs)) w) k));
}

pub chain_ends : (m : Program) (a : Action Tree) (xs : List (Operator × Expr)) (i : ℕ) (ls : Bindings) (before : ℕ) (n : ℤ) (after : ℕ) → length xs ≤ i → Reached m a (drop i xs) ls before n after → Makes a ls before n after
unfolding pure
chain_ends m a xs i ls before n after h r gs = record {
  does = λ z k. (r gs).goes k ∙ ap (λ l. operands m (operands_view l) (number n) (standing ls gs after) k) (drop_all i xs h);
}

-- a chain of one operator
pub chain_decides : (m : Program) (t u : Term) (op : Operator) (holds : Bool) (ls gs : Bindings) (before after : ℕ) → Decides (expr m t) op (expr m u) ls before holds after
    → Computes (expr m (chain t (operand op u no_operands))) (standing ls gs before) (came (boolean holds)) (standing ls gs after)
unfolding ◌>>=◌ pure
chain_decides m t u op holds ls gs before after h = record { does = λ z k. (h gs).does tt (onward (λ w. pure w) k) }

-- a condition of one operator
pub condition_decides : (m : Program) (t u : Term) (op : Operator) (holds : Bool) (ls gs : Bindings) (before after : ℕ) → Decides (expr m t) op (expr m u) ls before holds after
    → Computes (test m (chain t (operand op u no_operands))) (standing ls gs before) (came holds) (standing ls gs after)
unfolding ◌>>=◌ pure
condition_decides m t u op holds ls gs before after h = record { does = λ z k. (h gs).does tt (onward (λ v. worked (truth v)) k) ∙ (worked_ok holds (standing ls gs after)).does tt k }

-- a chain as the code has it
pub chain_at : (e a x : Expr) (ks ys : List (Operator × Expr)) → e ≡ E.Chain a ks → x ≡ a → ys ≡ ks → term_view e ≡ chain (term_view x) (operands_view ys)
chain_at e a x ks ys p q r = ap term_view p ∙ (term-Chain a ks ∙ (ap (λ z. chain (term_view z) (operands_view ks)) (sym q) ∙ ap (λ l. chain (term_view x) (operands_view l)) (sym r)))

pub one_operand : (xs : List (Operator × Expr)) (y z : Operator × Expr) → 1 ≤ length xs → length xs < 2 → operands_view xs ≡ operand (get_or xs 0 y).0 (term_view (get_or xs 0 z).1) no_operands
one_operand [] y z h k = absurd (omega arith)
one_operand (x ∷ []) y z h k = refl
one_operand (x ∷ w ∷ ws) y z h k = absurd (omega arith)
