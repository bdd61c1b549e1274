-- The rules read the grammar: modules, and whole texts.
use Rattle.std.proofs.Common.{ℕ, zero, suc, ◌+◌, ◌<◌, nat_lt, List, [], ◌∷◌, ◌++◌, length, refl, arith, inl}
use Rattle.jessie_grammar.specs.declared.jessie_lexer.token.Kind.{Kind}
use Rattle.jessie_grammar.specs.declared.jessie_lexer.token.Kind.TheVariants as k
use Rattle.jessie_grammar.specs.declared.jessie_scopes.name_use.Binding.TheVariants as binding
use Rattle.jessie_grammar.specs.declared.jessie_scopes.name_use.NameUse.{NameUse}
use Rattle.jessie_grammar.specs.declared.jessie_scopes.name_use.NameUse.TheVariants as name_use
use Rattle.jessie_grammar.specs.declared.syntax.Constant.{Constant}
use Rattle.jessie_grammar.specs.declared.syntax.Stmt.{Stmt}
use Rattle.jessie_grammar.specs.declared.syntax.Module.{Module}
use Rattle.jessie_grammar.specs.Refused.{Lang}
use Rattle.jessie_grammar.specs.Parse.{Parser}
use Rattle.jessie_grammar.specs.Words.{Found, spotted, also, defined, literal_of, literal_constant, negative_of, declared, wide, words, literals, item_begins, always, most_functions, most_params, most_variables, no_items, more}
use Rattle.jessie_grammar.specs.Lang as lang
use Rattle.jessie_grammar.specs.Lang.{◌or◌}
use Rattle.jessie_grammar.specs.Grammar as g
use Rattle.jessie_grammar.specs.Rules as p
use Rattle.jessie_grammar.proofs.Good.{Good, Word, Steps, one_good, pure_good, symbol_good, then_good, or_good, made_good, closed_good, loop_good, bracketed_good, weaken, any_good}
use Rattle.jessie_grammar.proofs.Exprs.{Reads, ends, name_good, listed_good}
use Rattle.jessie_grammar.proofs.Statements.{Block, block_good}

abbrev pub constant_begins : List Kind
constant_begins = literals ++ k.Minus ∷ k.LeftBracket ∷ k.LeftBrace ∷ []

abbrev pub In : ℕ → (List NameUse → Lang (Found Constant)) → (List NameUse → Parser (Found Constant)) → Type 0
In n l q = (0 < n → Reads l q constant_begins ends) × ((es : List NameUse) → Word (l es))

pub constant_field_good : {l : List NameUse → Lang (Found Constant)} {q : List NameUse → Parser (Found Constant)} → Reads l q constant_begins ends → Reads (g.constant_field l) (p.constant_field q) words (k.Comma ∷ k.RightBrace ∷ [])
unfolding g.constant_field p.constant_field
constant_field_good h es =
    then_good (name_good (k.Colon ∷ [])) (λ x. then_good (symbol_good k.Colon constant_begins) (λ _. made_good _ (weaken constant_begins (k.Comma ∷ k.RightBrace ∷ []) (h (also es (name_use.Field x.0 x.1))) refl refl)) refl) refl

pub constant_in_good : {l : List NameUse → Lang (Found Constant)} {q : List NameUse → Parser (Found Constant)} (n : ℕ) → In n l q → Reads (g.constant_in n l) (p.constant_in n q) constant_begins ends
unfolding g.constant_in p.constant_in
constant_in_good n h es =
    or_good (made_good _ (one_good literals literal_of wide ends refl)) (or_good (then_good (symbol_good k.Minus (k.Number ∷ [])) (λ _. made_good _ (one_good (k.Number ∷ []) negative_of wide ends refl)) refl)
    (or_good (made_good _ (bracketed_good n k.LeftBracket k.RightBracket ends (λ i. listed_good k.RightBracket (λ z. weaken constant_begins (k.Comma ∷ k.RightBracket ∷ []) (h.0 i z) refl refl) refl refl refl es) ([], ([], es), inl (refl, refl))))
    (made_good _ (bracketed_good n k.LeftBrace k.RightBrace ends (λ i. listed_good k.RightBrace (constant_field_good (h.0 i)) refl refl refl (also es name_use.Opens)) ([], ([], also es name_use.Opens), inl (refl, refl))))
    refl) refl) refl

pub constant_good : (n room : ℕ) → room < n → Reads (g.constant n room) (p.constant room) constant_begins ends
unfolding g.constant p.constant
constant_good zero room h es = absurd (omega arith)
constant_good (suc zero) zero h es = constant_in_good 0 ((λ j es. absurd (omega arith)), λ es. (made_good (literal_constant es) (one_good literals literal_of wide [] refl)).word) es
constant_good (suc zero) (suc r) h es = absurd (omega arith)
constant_good (suc (suc n)) zero h es = constant_in_good 0 ((λ j es. absurd (omega arith)), λ es. (constant_good (suc n) 0 (omega arith) es).word) es
constant_good (suc (suc n)) (suc r) h es = let g = constant_good (suc n) r (omega arith) in constant_in_good (suc r) ((λ _. g), λ es. (g es).word) es

pub param_good : (i : ℕ) (e : List Kind) → Reads (g.param i) (p.param i) words e
unfolding g.param p.param
param_good i e es = made_good _ (one_good words spotted (declared (nat_lt i most_params)) e refl)

next_good : (found : Found (List (List ℕ))) (e : List Kind) → Good (g.next_param found) (p.next_param found) (k.Comma ∷ []) e
unfolding g.next_param p.next_param
next_good found e = then_good (symbol_good k.Comma words) (λ _. made_good _ (param_good (length found.0) e found.1)) refl

pub next_params : Steps always g.next_param p.next_param (k.Comma ∷ []) (k.RightParen ∷ [])
next_params = let e = k.Comma ∷ k.RightParen ∷ [] in record { ends = e; each = λ s _. next_good s e; on = refl; off = refl; some = refl }

params_good : Reads g.params p.params (words ++ k.RightParen ∷ []) (k.RightParen ∷ [])
unfolding g.params p.params
params_good es =
    let e = k.Comma ∷ k.RightParen ∷ [] in
    or_good (then_good (param_good 0 e es) (λ x. loop_good (more [] x) next_params) refl) (pure_good ([], es) (k.RightParen ∷ [])) refl

exported_good : Good (lang.symbol k.Export or lang.pure tt) p.exported (k.Export ∷ k.Const ∷ []) (k.Const ∷ [])
unfolding p.exported
exported_good = or_good (symbol_good k.Export (k.Const ∷ [])) (pure_good tt (k.Const ∷ [])) refl

heading_good : (i : ℕ) (e : List Kind) → Good (g.heading i) (p.heading i) (k.Export ∷ k.Const ∷ []) e
unfolding g.heading p.heading
heading_good i e =
    then_good exported_good (λ _. then_good (symbol_good k.Const words) (λ _. then_good (one_good words spotted (declared (nat_lt i most_functions)) (k.Equals ∷ []) refl) (λ x. closed_good k.Equals x e) refl) refl) refl

ending_block_good : {b : List NameUse → Lang (Found (List Stmt))} {c : List NameUse → Parser (Found (List Stmt))} (e : List Kind) → Block b c → Reads (g.ending_block b) (p.ending_block c) (k.Arrow ∷ []) e
unfolding g.ending_block p.ending_block
ending_block_good e v es = then_good (symbol_good k.Arrow (k.LeftBrace ∷ [])) (λ _. then_good (v (k.Semicolon ∷ []) es) (λ b. closed_good k.Semicolon b e) refl) refl

function_good : (n room : ℕ) (s : Found Module) (e : List Kind) → room < suc n → Good (g.function n room s) (p.function room s) (k.Export ∷ k.Const ∷ []) e
unfolding g.function p.function
function_good n room s e h =
    then_good (heading_good (length s.0.functions) (k.LeftParen ∷ [])) (λ x. then_good (bracketed_good room k.LeftParen k.RightParen (k.Arrow ∷ []) (λ _. params_good (also (defined binding.Function s.1 x) name_use.Opens)) (params_good (also (defined binding.Function s.1 x) name_use.Opens)).word) (λ xs.
    made_good _ (ending_block_good e (block_good n room h) xs.1)) refl) refl

constant_value_good : {l : List NameUse → Lang (Found Constant)} {q : List NameUse → Parser (Found Constant)} (e : List Kind) → Reads l q constant_begins ends → Reads (g.constant_value l) (p.constant_value q) (k.Equals ∷ []) e
unfolding g.constant_value p.constant_value
constant_value_good e h es = then_good (symbol_good k.Equals constant_begins) (λ _. then_good (h es) (λ t. closed_good k.Semicolon t e) refl) refl

variable_good : (n room : ℕ) (s : Found Module) (e : List Kind) → room < n → Good (g.variable n room s) (p.variable room s) (k.Let ∷ []) e
unfolding g.variable p.variable
variable_good n room s e h =
    then_good (symbol_good k.Let words) (λ _. then_good (one_good words spotted (declared (nat_lt (length s.0.variables) most_variables)) (k.Equals ∷ []) refl) (λ x.
    made_good _ (constant_value_good e (constant_good n room h) (defined binding.Variable s.1 x))) refl) refl

item_good : (n room : ℕ) (s : Found Module) (e : List Kind) → room < n → Good (g.item n room s) (p.item room s) item_begins e
unfolding g.item p.item
item_good n room s e h = or_good (variable_good n room s e h) (function_good n room s e (omega arith)) refl

abbrev pub item_ends : List Kind
item_ends = k.Let ∷ k.Export ∷ k.Const ∷ k.End ∷ []

pub items : (n room : ℕ) → room < n → Steps always (g.item n room) (p.item room) item_begins (k.End ∷ [])
items n room h = record { ends = item_ends; each = λ s _. item_good n room s item_ends h; on = refl; off = refl; some = refl }

module_good : (n room : ℕ) → room < n → Good (g.module_text n room) (p.front_text room) item_ends (k.End ∷ [])
unfolding g.module_text p.front_text
module_good n room h = loop_good no_items (items n room h)

pub text_good : (room : ℕ) → Good (g.text room) (p.front_text room) item_ends (k.End ∷ [])
unfolding g.text
text_good room = any_good _ _ _ _ (λ n. module_good (n + suc room) room (omega arith))
