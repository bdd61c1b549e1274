-- Loops and depths, as the code goes through them.
use Rattle.std.proofs.Common.{length, ◌≡◌, ℕ, zero, suc, ◌-◌, ◌+◌, ◌<◌, ◌≤◌, drop, Bool, true, false, List, [], ◌∷◌, ◌++◌, Ok, Err, refl, subst, ap, ◌∙◌, arith, length-append}
use Rattle.std.proofs.lemmas.List.{append-nil}
use Rattle.jessie_grammar.specs.declared.jessie_lexer.token.Kind.{Kind}
use Rattle.jessie_grammar.specs.declared.jessie_lexer.token.Kind.TheVariants as k
use Rattle.jessie_grammar.specs.declared.jessie_lexer.token.Token.{Token}
use Rattle.jessie_grammar.specs.Tokens.{kind, has}
use Rattle.jessie_grammar.specs.declared.jessie_scopes.name_use.NameUse.{NameUse}
use Rattle.jessie_grammar.specs.declared.syntax.Expr.{Expr}
use Rattle.jessie_grammar.specs.declared.syntax.Stmt.{Stmt}
use Rattle.jessie_grammar.specs.declared.syntax.Stmt.TheVariants as stmt
use Rattle.jessie_grammar.specs.declared.syntax.Branch.{Branch}
use Rattle.jessie_grammar.specs.declared.jessie_language.fault.ParseError.{ParseError}
use Rattle.jessie_grammar.specs.declared.jessie_language.fault.ParseError.TheVariants as errors
use Rattle.jessie_grammar.specs.Words.{Found, always, ongoing, inside, Level, table, access_begins, statement_begins, item_begins}
use Rattle.jessie_grammar.specs.Parse.{Parser, Outcome, Fails, loop, and_then, ◌>>=◌, either}
use Rattle.jessie_grammar.specs.Refused.{Lang}
use Rattle.jessie_grammar.specs.Grammar as g
use Rattle.jessie_grammar.specs.Rules as p
use Rattle.jessie_grammar.specs.StatementList.{names_after}
use Rattle.jessie_grammar.specs.BlockTurns.{shut}
use Rattle.jessie_grammar.specs.Levels.{level_at, operand, level_tails, level_rest, operands}
use Rattle.jessie_grammar.proofs.Sets.{within_self, filled, apart}
use Rattle.jessie_grammar.proofs.Good.{Halts, Falls, falls, loop_more, loop_done, then_good}
use Rattle.jessie_grammar.proofs.Exprs.{Reads, In, begins, ends, in_with, expr_good, field_good, post_accesses, op_steps, unary_good, prim_good, tails_good, or_ends, unary_ends, closed, fits}
use Rattle.jessie_grammar.proofs.Statements.{turns_good, block_good}
use Rattle.jessie_grammar.proofs.Modules.{constant_begins, constant_good, constant_field_good, next_params, items}

-- ---- a loop

pub loop_goes : {S : Type 0} (more : S → Bool) (set : List Kind) (q : S → Parser S) → Falls more set q → (all : Outcome S) (s t : S) (ts us : List Token)
    → all ≡ loop more set q s ts → more s ≡ true → has set (kind ts) ≡ true → q s ts ≡ Ok (t, us) → all ≡ loop more set q t us
loop_goes more set q f all s t ts us e m h r = e ∙ (loop_more more set q f s ts m h ∙ ap (λ o. and_then o (loop more set q)) r)

pub loop_ends : {S : Type 0} (more : S → Bool) (set : List Kind) (q : S → Parser S) → Falls more set q → (all : Outcome S) (s : S) (ts : List Token)
    → all ≡ loop more set q s ts → (more s ≡ true → has set (kind ts) ≡ false) → all ≡ Ok (s, ts)
loop_ends more set q f all s ts e h = e ∙ loop_done more set q f s ts h

pub loop_fails : {S : Type 0} (more : S → Bool) (set : List Kind) (q : S → Parser S) → Falls more set q → (all : Outcome S) (s : S) (ts : List Token) (r : ParseError)
    → all ≡ loop more set q s ts → more s ≡ true → has set (kind ts) ≡ true → Fails r (q s ts) → Fails r all
loop_fails more set q f all s ts errors.NoMemory e m h r = tt
loop_fails more set q f all s ts (errors.Refused k left) e m h r = e ∙ (loop_more more set q f s ts m h ∙ ap (λ o. and_then o (loop more set q)) r)

-- ---- depths

pub inner_is : (n : ℕ) (es : List NameUse) (ts : List Token) → 0 < n → p.inner n es ts ≡ p.expr (n - 1) es ts
unfolding p.inner
inner_is zero es ts h = absurd (omega arith)
inner_is (suc n) es ts h = let e : n ≡ suc n - 1 = omega arith in ap (λ m. p.expr m es ts) e

pub expr_is : (n : ℕ) (es : List NameUse) (ts : List Token) → p.expr n es ts ≡ p.full n (p.inner n) es ts
unfolding p.expr p.inner
expr_is zero es ts = refl
expr_is (suc n) es ts = refl

in_here : (room : ℕ) → In room (g.expr room (inside room)) (p.inner room)
in_here room = in_with room room (omega arith) (expr_good room)

inner_good : (room : ℕ) → 0 < room → Reads (g.expr room (inside room)) (p.inner room) begins ends
inner_good room h = (in_here room).0 h

pub constant_is : (n : ℕ) (es : List NameUse) (ts : List Token) → p.constant n es ts ≡ p.constant_in n (p.inner_constant n) es ts
unfolding p.constant p.inner_constant
constant_is zero es ts = refl
constant_is (suc n) es ts = refl

pub inner_constant_is : (n : ℕ) (es : List NameUse) (ts : List Token) → 0 < n → p.inner_constant n es ts ≡ p.constant (n - 1) es ts
unfolding p.inner_constant
inner_constant_is zero es ts h = absurd (omega arith)
inner_constant_is (suc n) es ts h = let e : n ≡ suc n - 1 = omega arith in ap (λ m. p.constant m es ts) e

inner_constant_good : (room : ℕ) → 0 < room → Reads (g.constant room (inside room)) (p.inner_constant room) constant_begins ends
unfolding p.inner_constant
inner_constant_good zero h = absurd (omega arith)
inner_constant_good (suc room) h = constant_good (suc room) room (omega arith)

-- ---- the loops

-- what stands behind an item is no longer than what begins with it
abbrev pub Leaves : {A : Type 0} → (List NameUse → Parser A) → Type 0
Leaves {A} q = (es : List NameUse) (ts us : List Token) (a : A) → q es ts ≡ Ok (a, us) → length us ≤ length ts

left_of : {A : Type 0} → List Token → Outcome A → List Token
left_of vs (Ok x) = x.1
left_of vs (Err f) = vs

halts_leave : {A : Type 0} (l : Lang A) (p : Parser A) (ts us : List Token) (a : A) (o : Outcome A) → Halts l p ts o → o ≡ Ok (a, us) → length us ≤ length ts
unfolding left_of
halts_leave l p ts us a (Ok x) h e =
    let same : x.1 ≡ us = ap (left_of us) e in
    omega (arith, ap length h.1, length-append h.0 x.1, ap length same)
halts_leave l p ts us a (Err f) h e = absurd (cc)

reads_leave : {A : Type 0} {l : List NameUse → Lang A} {q : List NameUse → Parser A} {b e : List Kind} → Reads l q b e → Leaves q
reads_leave {l = l} {q = q} good es ts us a h = halts_leave (l es) (q es) ts us a (q es ts) ((good es).halts ts) h

pub items_leave : (room : ℕ) → 0 < room → Leaves (p.inner room)
items_leave room h = reads_leave (inner_good room h)

pub fields_leave : (room : ℕ) → 0 < room → Leaves (p.field (p.inner room))
fields_leave room h = reads_leave (field_good (inner_good room h))

pub constants_leave : (room : ℕ) → 0 < room → Leaves (p.inner_constant room)
constants_leave room h = reads_leave (inner_constant_good room h)

pub constant_fields_leave : (room : ℕ) → 0 < room → Leaves (p.constant_field (p.inner_constant room))
constant_fields_leave room h = reads_leave (constant_field_good (inner_constant_good room h))

pub accesses_fall : (room : ℕ) → Falls always access_begins (p.access_on room (p.inner room))
accesses_fall room = falls (post_accesses room (in_here room))

pub params_fall : Falls always (k.Comma ∷ []) p.next_param
params_fall = falls next_params

pub module_items_fall : (room : ℕ) → Falls always item_begins (p.item room)
module_items_fall room = falls (items (suc room) room (omega arith))

-- ---- levels of operators

pub tails_end : (room n : ℕ) (t : Found Expr) (ts : List Token) → n ≡ 6 → level_tails room n t ts ≡ Ok (t, ts)
unfolding p.tails
tails_end room n t ts e = rw e refl

pub tails_is : (room n : ℕ) (t : Found Expr) (ts : List Token) → n < 6 → level_tails room n t ts ≡ and_then (level_tails room (n + 1) t ts) (level_rest room n)
unfolding p.tails
tails_is room zero t ts h = refl
tails_is room (suc zero) t ts h = refl
tails_is room (suc (suc zero)) t ts h = refl
tails_is room (suc (suc (suc zero))) t ts h = refl
tails_is room (suc (suc (suc (suc zero)))) t ts h = refl
tails_is room (suc (suc (suc (suc (suc zero))))) t ts h = refl
tails_is room (suc (suc (suc (suc (suc (suc n)))))) t ts h = absurd (omega arith)

other_good : (room : ℕ) → Reads (g.unary room (g.expr room (inside room)) (g.prim room (g.expr room (inside room)))) (operand room) begins unary_ends
other_good room = unary_good room (in_here room) (prim_good room (in_here room)) refl

op_falls_at : (room : ℕ) (v : Level) (vs : List Level) (e : List Kind) → filled v.0 ≡ true → filled e ≡ true → apart e v.0 ≡ true → fits vs (v.0 ++ e) ≡ true → filled (v.0 ++ e) ≡ true → unary_ends ≡ closed vs (v.0 ++ e)
    → Falls ongoing v.0 (p.op_step v (λ es. (operand room es >>= p.tails vs (operand room))))
op_falls_at room v vs e f x w y z c =
    let other = subst (λ d. Reads (g.unary room (g.expr room (inside room)) (g.prim room (g.expr room (inside room)))) (operand room) begins d) c (other_good room) in
    falls (op_steps v e f x w (λ es. then_good (other es) (λ u. tails_good vs (v.0 ++ e) u y z other) (within_self (closed vs (v.0 ++ e)))))

abbrev above : ℕ → List Kind
above zero = or_ends
above (suc n) = (level_at n).0 ++ above n

pub op_falls : (room n : ℕ) → n < 6 → Falls ongoing (level_at n).0 (p.op_step (level_at n) (operands room (n + 1)))
op_falls room zero h = op_falls_at room (level_at 0) (drop 1 table) (above 0) refl refl refl refl refl refl
op_falls room (suc zero) h = op_falls_at room (level_at 1) (drop 2 table) (above 1) refl refl refl refl refl refl
op_falls room (suc (suc zero)) h = op_falls_at room (level_at 2) (drop 3 table) (above 2) refl refl refl refl refl refl
op_falls room (suc (suc (suc zero))) h = op_falls_at room (level_at 3) (drop 4 table) (above 3) refl refl refl refl refl refl
op_falls room (suc (suc (suc (suc zero)))) h = op_falls_at room (level_at 4) (drop 5 table) (above 4) refl refl refl refl refl refl
op_falls room (suc (suc (suc (suc (suc zero))))) h = op_falls_at room (level_at 5) (drop 6 table) (above 5) refl refl refl refl refl refl
op_falls room (suc (suc (suc (suc (suc (suc n)))))) h = absurd (omega arith)

-- ---- a loop that may be at its end

pub flag_goes : {A : Type 0} (set : List Kind) (q : A × Bool → Parser (A × Bool)) → Falls ongoing set q → (all : Outcome (A × Bool)) (a : A) (m : Bool) (t : A × Bool) (ts us : List Token)
    → all ≡ loop ongoing set q (a, m) ts → m ≡ true → has set (kind ts) ≡ true → q (a, true) ts ≡ Ok (t, us) → all ≡ loop ongoing set q t us
flag_goes set q f all a true t ts us e m h r = loop_goes ongoing set q f all (a, true) t ts us e refl h r
flag_goes set q f all a false t ts us e m h r = absurd (cc)

pub after_fails : {A B : Type 0} (r : ParseError) (o : Outcome A) (q : A → Parser B) → Fails r o → Fails r (and_then o q)
after_fails errors.NoMemory o q h = tt
after_fails (errors.Refused k left) o q h = ap (λ z. and_then z q) h

pub flag_fails : {A : Type 0} (set : List Kind) (q : A × Bool → Parser (A × Bool)) → Falls ongoing set q → (all : Outcome (A × Bool)) (a : A) (m : Bool) (ts : List Token) (r : ParseError)
    → all ≡ loop ongoing set q (a, m) ts → m ≡ true → has set (kind ts) ≡ true → Fails r (q (a, true) ts) → Fails r all
flag_fails set q f all a true ts r e m h x = loop_fails ongoing set q f all (a, true) ts r e refl h x
flag_fails set q f all a false ts r e m h x = absurd (cc)

-- ---- statements

pub turn_none : (room : ℕ) (i : List NameUse → Parser (Found Expr)) (b : List NameUse → Parser (Found (List Stmt))) (found : List Stmt) (arms : List Branch) (es : List NameUse) (ts : List Token) → length arms ≡ 0
    → p.turn room i b found arms es ts ≡ p.begun room i b (names_after false) (found, es) ts
unfolding p.turn
turn_none room i b found [] es ts h = refl
turn_none room i b found (a ∷ arms) es ts h = absurd (omega arith)

pub turn_some : (room : ℕ) (i : List NameUse → Parser (Found Expr)) (b : List NameUse → Parser (Found (List Stmt))) (found : List Stmt) (arms : List Branch) (es : List NameUse) (ts : List Token) → 0 < length arms
    → p.turn room i b found arms es ts ≡ either (k.Else ∷ []) (p.going_on room i b found (arms, es)) (p.begun room i b (names_after true) (shut (found, (arms, es)))) ts
unfolding p.turn
turn_some room i b found [] es ts h = absurd (omega arith)
turn_some room i b found (a ∷ arms) es ts h = refl

pub shut_none : (found : List Stmt) (arms : List Branch) (es : List NameUse) → length arms ≡ 0 → shut (found, (arms, es)) ≡ (found, es)
shut_none found [] es h = ap (λ (z : List Stmt). (z, es)) (append-nil found)
shut_none found (a ∷ arms) es h = absurd (omega arith)

pub shut_some : (found : List Stmt) (arms : List Branch) (es : List NameUse) → 0 < length arms → shut (found, (arms, es)) ≡ (found ++ stmt.If arms [] ∷ [], es)
shut_some found [] es h = absurd (omega arith)
shut_some found (a ∷ arms) es h = refl

pub body_is : (room : ℕ) (es : List NameUse) (ts : List Token) → p.body room es ts ≡ p.statements room (p.inner room) (p.block room) es ts
unfolding p.body p.inner p.block p.inner_body
body_is zero es ts = refl
body_is (suc n) es ts = refl

pub inner_body_is : (n : ℕ) (es : List NameUse) (ts : List Token) → 0 < n → p.inner_body n es ts ≡ p.body (n - 1) es ts
unfolding p.inner_body
inner_body_is zero es ts h = absurd (omega arith)
inner_body_is (suc n) es ts h = let e : n ≡ suc n - 1 = omega arith in ap (λ m. p.body m es ts) e

pub turns_fall : (room : ℕ) → Falls always statement_begins (p.turn_from room (p.inner room) (p.block room))
turns_fall room = falls (turns_good room (in_here room) (block_good room room (omega arith)))
