-- Rows: what is read of single texts, where two brackets may be open.
use Rattle.std.proofs.Common.{◌≡◌, ℕ, List, [], ◌∷◌, map, Option, None, Some, Result, Ok, Err, refl}
use Rattle.jessie_grammar.specs.declared.jessie_lexer.token.Kind.{Kind}
use Rattle.jessie_grammar.specs.declared.jessie_lexer.token.Kind.TheVariants as k
use Rattle.jessie_grammar.specs.declared.jessie_lexer.token.Token.{Token}
use Rattle.jessie_grammar.specs.declared.syntax.Module.{Module}
use Rattle.jessie_grammar.specs.declared.jessie_language.fault.Limit.{Limit}
use Rattle.jessie_grammar.specs.declared.jessie_language.fault.Limit.TheVariants as limit
use Rattle.jessie_grammar.specs.Words.{Found}
use Rattle.jessie_grammar.specs.Parse.{Outcome, Fault, symbol, loop_from, loop, opening, bracketed, whole}
use Rattle.jessie_grammar.specs.Rules as p

abbrev token : Kind → Token
token k = record { kind = k; at = 0; text = []; number = 0 }

-- what comes of it, but for the tree
abbrev Verdict : Type 0
Verdict = Result (Unit {0}) Fault

abbrev verdict : Outcome (Found Module) → Verdict
verdict (Ok x) = Ok tt
verdict (Err f) = Err f

abbrev read : Verdict
read = Ok tt

abbrev refused : Option Limit → ℕ → Verdict
refused l n = Err (l, n)

abbrev of : List Kind → Verdict
of ks = verdict (p.text 2 (map token ks))

-- an if, and then else: the last part has no block: if (a) {} else ;
row-1 : of (k.Const ∷ k.Word ∷ k.Equals ∷ k.LeftParen ∷ k.RightParen ∷ k.Arrow ∷ k.LeftBrace ∷ k.If ∷ k.LeftParen ∷ k.Word ∷ k.RightParen ∷ k.LeftBrace ∷ k.RightBrace ∷ k.Else ∷ k.Semicolon ∷ k.RightBrace ∷ k.Semicolon ∷ []) ≡ refused None 3
unfolding p.name p.args p.field p.call_tail p.named p.method_call p.eventually p.amount p.bare p.prim p.post_access p.post_tail p.unary p.op_step p.tails p.branches p.choice p.after p.full p.expr p.inner p.initializer p.declaration p.led p.bare_run p.arm p.looping p.giving p.throwing p.each p.walking p.catching p.trying p.nameless p.simple p.begun p.going_on p.turn p.statements p.braced p.body p.inner_body p.block p.constant_field p.constant_in p.constant p.inner_constant p.param p.next_param p.params p.exported p.heading p.ending_block p.function p.constant_value p.variable p.item p.front_text p.text symbol loop_from loop opening bracketed whole
row-1 = refl

-- behind a last part else is a name: if (a) {} else {} else ;
row-2 : of (k.Const ∷ k.Word ∷ k.Equals ∷ k.LeftParen ∷ k.RightParen ∷ k.Arrow ∷ k.LeftBrace ∷ k.If ∷ k.LeftParen ∷ k.Word ∷ k.RightParen ∷ k.LeftBrace ∷ k.RightBrace ∷ k.Else ∷ k.LeftBrace ∷ k.RightBrace ∷ k.Else ∷ k.Semicolon ∷ k.RightBrace ∷ k.Semicolon ∷ []) ≡ read
unfolding p.name p.args p.field p.call_tail p.named p.method_call p.eventually p.amount p.bare p.prim p.post_access p.post_tail p.unary p.op_step p.tails p.branches p.choice p.after p.full p.expr p.inner p.initializer p.declaration p.led p.bare_run p.arm p.looping p.giving p.throwing p.each p.walking p.catching p.trying p.nameless p.simple p.begun p.going_on p.turn p.statements p.braced p.body p.inner_body p.block p.constant_field p.constant_in p.constant p.inner_constant p.param p.next_param p.params p.exported p.heading p.ending_block p.function p.constant_value p.variable p.item p.front_text p.text symbol loop_from loop opening bracketed whole
row-2 = refl

-- where no if may go on else is a name: else ;
row-3 : of (k.Const ∷ k.Word ∷ k.Equals ∷ k.LeftParen ∷ k.RightParen ∷ k.Arrow ∷ k.LeftBrace ∷ k.Else ∷ k.Semicolon ∷ k.RightBrace ∷ k.Semicolon ∷ []) ≡ read
unfolding p.name p.args p.field p.call_tail p.named p.method_call p.eventually p.amount p.bare p.prim p.post_access p.post_tail p.unary p.op_step p.tails p.branches p.choice p.after p.full p.expr p.inner p.initializer p.declaration p.led p.bare_run p.arm p.looping p.giving p.throwing p.each p.walking p.catching p.trying p.nameless p.simple p.begun p.going_on p.turn p.statements p.braced p.body p.inner_body p.block p.constant_field p.constant_in p.constant p.inner_constant p.param p.next_param p.params p.exported p.heading p.ending_block p.function p.constant_value p.variable p.item p.front_text p.text symbol loop_from loop opening bracketed whole
row-3 = refl

-- x ; else ;
row-4 : of (k.Const ∷ k.Word ∷ k.Equals ∷ k.LeftParen ∷ k.RightParen ∷ k.Arrow ∷ k.LeftBrace ∷ k.Word ∷ k.Semicolon ∷ k.Else ∷ k.Semicolon ∷ k.RightBrace ∷ k.Semicolon ∷ []) ≡ read
unfolding p.name p.args p.field p.call_tail p.named p.method_call p.eventually p.amount p.bare p.prim p.post_access p.post_tail p.unary p.op_step p.tails p.branches p.choice p.after p.full p.expr p.inner p.initializer p.declaration p.led p.bare_run p.arm p.looping p.giving p.throwing p.each p.walking p.catching p.trying p.nameless p.simple p.begun p.going_on p.turn p.statements p.braced p.body p.inner_body p.block p.constant_field p.constant_in p.constant p.inner_constant p.param p.next_param p.params p.exported p.heading p.ending_block p.function p.constant_value p.variable p.item p.front_text p.text symbol loop_from loop opening bracketed whole
row-4 = refl

-- a declared word is a name: const else = 1n ;
row-5 : of (k.Const ∷ k.Word ∷ k.Equals ∷ k.LeftParen ∷ k.RightParen ∷ k.Arrow ∷ k.LeftBrace ∷ k.Const ∷ k.Else ∷ k.Equals ∷ k.Number ∷ k.Semicolon ∷ k.RightBrace ∷ k.Semicolon ∷ []) ≡ read
unfolding p.name p.args p.field p.call_tail p.named p.method_call p.eventually p.amount p.bare p.prim p.post_access p.post_tail p.unary p.op_step p.tails p.branches p.choice p.after p.full p.expr p.inner p.initializer p.declaration p.led p.bare_run p.arm p.looping p.giving p.throwing p.each p.walking p.catching p.trying p.nameless p.simple p.begun p.going_on p.turn p.statements p.braced p.body p.inner_body p.block p.constant_field p.constant_in p.constant p.inner_constant p.param p.next_param p.params p.exported p.heading p.ending_block p.function p.constant_value p.variable p.item p.front_text p.text symbol loop_from loop opening bracketed whole
row-5 = refl

-- const begins a declaration: const ;
row-6 : of (k.Const ∷ k.Word ∷ k.Equals ∷ k.LeftParen ∷ k.RightParen ∷ k.Arrow ∷ k.LeftBrace ∷ k.Const ∷ k.Semicolon ∷ k.RightBrace ∷ k.Semicolon ∷ []) ≡ refused None 3
unfolding p.name p.args p.field p.call_tail p.named p.method_call p.eventually p.amount p.bare p.prim p.post_access p.post_tail p.unary p.op_step p.tails p.branches p.choice p.after p.full p.expr p.inner p.initializer p.declaration p.led p.bare_run p.arm p.looping p.giving p.throwing p.each p.walking p.catching p.trying p.nameless p.simple p.begun p.going_on p.turn p.statements p.braced p.body p.inner_body p.block p.constant_field p.constant_in p.constant p.inner_constant p.param p.next_param p.params p.exported p.heading p.ending_block p.function p.constant_value p.variable p.item p.front_text p.text symbol loop_from loop opening bracketed whole
row-6 = refl

-- behind return it is a name: return const ;
row-7 : of (k.Const ∷ k.Word ∷ k.Equals ∷ k.LeftParen ∷ k.RightParen ∷ k.Arrow ∷ k.LeftBrace ∷ k.Return ∷ k.Const ∷ k.Semicolon ∷ k.RightBrace ∷ k.Semicolon ∷ []) ≡ read
unfolding p.name p.args p.field p.call_tail p.named p.method_call p.eventually p.amount p.bare p.prim p.post_access p.post_tail p.unary p.op_step p.tails p.branches p.choice p.after p.full p.expr p.inner p.initializer p.declaration p.led p.bare_run p.arm p.looping p.giving p.throwing p.each p.walking p.catching p.trying p.nameless p.simple p.begun p.going_on p.turn p.statements p.braced p.body p.inner_body p.block p.constant_field p.constant_in p.constant p.inner_constant p.param p.next_param p.params p.exported p.heading p.ending_block p.function p.constant_value p.variable p.item p.front_text p.text symbol loop_from loop opening bracketed whole
row-7 = refl

-- so is else behind a dot: x . else ;
row-8 : of (k.Const ∷ k.Word ∷ k.Equals ∷ k.LeftParen ∷ k.RightParen ∷ k.Arrow ∷ k.LeftBrace ∷ k.Word ∷ k.Dot ∷ k.Else ∷ k.Semicolon ∷ k.RightBrace ∷ k.Semicolon ∷ []) ≡ read
unfolding p.name p.args p.field p.call_tail p.named p.method_call p.eventually p.amount p.bare p.prim p.post_access p.post_tail p.unary p.op_step p.tails p.branches p.choice p.after p.full p.expr p.inner p.initializer p.declaration p.led p.bare_run p.arm p.looping p.giving p.throwing p.each p.walking p.catching p.trying p.nameless p.simple p.begun p.going_on p.turn p.statements p.braced p.body p.inner_body p.block p.constant_field p.constant_in p.constant p.inner_constant p.param p.next_param p.params p.exported p.heading p.ending_block p.function p.constant_value p.variable p.item p.front_text p.text symbol loop_from loop opening bracketed whole
row-8 = refl

-- comparisons do not repeat: a === b === c ;
row-9 : of (k.Const ∷ k.Word ∷ k.Equals ∷ k.LeftParen ∷ k.RightParen ∷ k.Arrow ∷ k.LeftBrace ∷ k.Word ∷ k.Same ∷ k.Word ∷ k.Same ∷ k.Word ∷ k.Semicolon ∷ k.RightBrace ∷ k.Semicolon ∷ []) ≡ refused None 5
unfolding p.name p.args p.field p.call_tail p.named p.method_call p.eventually p.amount p.bare p.prim p.post_access p.post_tail p.unary p.op_step p.tails p.branches p.choice p.after p.full p.expr p.inner p.initializer p.declaration p.led p.bare_run p.arm p.looping p.giving p.throwing p.each p.walking p.catching p.trying p.nameless p.simple p.begun p.going_on p.turn p.statements p.braced p.body p.inner_body p.block p.constant_field p.constant_in p.constant p.inner_constant p.param p.next_param p.params p.exported p.heading p.ending_block p.function p.constant_value p.variable p.item p.front_text p.text symbol loop_from loop opening bracketed whole
row-9 = refl

-- one comma may end a list: g(a,);
row-10 : of (k.Const ∷ k.Word ∷ k.Equals ∷ k.LeftParen ∷ k.RightParen ∷ k.Arrow ∷ k.LeftBrace ∷ k.Word ∷ k.LeftParen ∷ k.Word ∷ k.Comma ∷ k.RightParen ∷ k.Semicolon ∷ k.RightBrace ∷ k.Semicolon ∷ []) ≡ read
unfolding p.name p.args p.field p.call_tail p.named p.method_call p.eventually p.amount p.bare p.prim p.post_access p.post_tail p.unary p.op_step p.tails p.branches p.choice p.after p.full p.expr p.inner p.initializer p.declaration p.led p.bare_run p.arm p.looping p.giving p.throwing p.each p.walking p.catching p.trying p.nameless p.simple p.begun p.going_on p.turn p.statements p.braced p.body p.inner_body p.block p.constant_field p.constant_in p.constant p.inner_constant p.param p.next_param p.params p.exported p.heading p.ending_block p.function p.constant_value p.variable p.item p.front_text p.text symbol loop_from loop opening bracketed whole
row-10 = refl

-- and no more: g(a,,);
row-11 : of (k.Const ∷ k.Word ∷ k.Equals ∷ k.LeftParen ∷ k.RightParen ∷ k.Arrow ∷ k.LeftBrace ∷ k.Word ∷ k.LeftParen ∷ k.Word ∷ k.Comma ∷ k.Comma ∷ k.RightParen ∷ k.Semicolon ∷ k.RightBrace ∷ k.Semicolon ∷ []) ≡ refused None 5
unfolding p.name p.args p.field p.call_tail p.named p.method_call p.eventually p.amount p.bare p.prim p.post_access p.post_tail p.unary p.op_step p.tails p.branches p.choice p.after p.full p.expr p.inner p.initializer p.declaration p.led p.bare_run p.arm p.looping p.giving p.throwing p.each p.walking p.catching p.trying p.nameless p.simple p.begun p.going_on p.turn p.statements p.braced p.body p.inner_body p.block p.constant_field p.constant_in p.constant p.inner_constant p.param p.next_param p.params p.exported p.heading p.ending_block p.function p.constant_value p.variable p.item p.front_text p.text symbol loop_from loop opening bracketed whole
row-11 = refl

-- the third bracket where two may be open: a = [[b]];
row-12 : of (k.Const ∷ k.Word ∷ k.Equals ∷ k.LeftParen ∷ k.RightParen ∷ k.Arrow ∷ k.LeftBrace ∷ k.Word ∷ k.Equals ∷ k.LeftBracket ∷ k.LeftBracket ∷ k.Word ∷ k.RightBracket ∷ k.RightBracket ∷ k.Semicolon ∷ k.RightBrace ∷ k.Semicolon ∷ []) ≡ refused (Some limit.TooDeep) 7
unfolding p.name p.args p.field p.call_tail p.named p.method_call p.eventually p.amount p.bare p.prim p.post_access p.post_tail p.unary p.op_step p.tails p.branches p.choice p.after p.full p.expr p.inner p.initializer p.declaration p.led p.bare_run p.arm p.looping p.giving p.throwing p.each p.walking p.catching p.trying p.nameless p.simple p.begun p.going_on p.turn p.statements p.braced p.body p.inner_body p.block p.constant_field p.constant_in p.constant p.inner_constant p.param p.next_param p.params p.exported p.heading p.ending_block p.function p.constant_value p.variable p.item p.front_text p.text symbol loop_from loop opening bracketed whole
row-12 = refl

-- parameter 9: f = (a, ..) => {}
row-13 : of (k.Const ∷ k.Word ∷ k.Equals ∷ k.LeftParen ∷ k.Word ∷ k.Comma ∷ k.Word ∷ k.Comma ∷ k.Word ∷ k.Comma ∷ k.Word ∷ k.Comma ∷ k.Word ∷ k.Comma ∷ k.Word ∷ k.Comma ∷ k.Word ∷ k.Comma ∷ k.Word ∷ k.Comma ∷ k.Word ∷ k.RightParen ∷ k.Arrow ∷ k.LeftBrace ∷ k.RightBrace ∷ k.Semicolon ∷ []) ≡ refused (Some limit.TooMany) 6
unfolding p.name p.args p.field p.call_tail p.named p.method_call p.eventually p.amount p.bare p.prim p.post_access p.post_tail p.unary p.op_step p.tails p.branches p.choice p.after p.full p.expr p.inner p.initializer p.declaration p.led p.bare_run p.arm p.looping p.giving p.throwing p.each p.walking p.catching p.trying p.nameless p.simple p.begun p.going_on p.turn p.statements p.braced p.body p.inner_body p.block p.constant_field p.constant_in p.constant p.inner_constant p.param p.next_param p.params p.exported p.heading p.ending_block p.function p.constant_value p.variable p.item p.front_text p.text symbol loop_from loop opening bracketed whole
row-13 = refl

-- a send needs a method: return E(x) ;
row-14 : of (k.Const ∷ k.Word ∷ k.Equals ∷ k.LeftParen ∷ k.RightParen ∷ k.Arrow ∷ k.LeftBrace ∷ k.Return ∷ k.Eventually ∷ k.LeftParen ∷ k.Word ∷ k.RightParen ∷ k.Semicolon ∷ k.RightBrace ∷ k.Semicolon ∷ []) ≡ refused None 3
unfolding p.name p.args p.field p.call_tail p.named p.method_call p.eventually p.amount p.bare p.prim p.post_access p.post_tail p.unary p.op_step p.tails p.branches p.choice p.after p.full p.expr p.inner p.initializer p.declaration p.led p.bare_run p.arm p.looping p.giving p.throwing p.each p.walking p.catching p.trying p.nameless p.simple p.begun p.going_on p.turn p.statements p.braced p.body p.inner_body p.block p.constant_field p.constant_in p.constant p.inner_constant p.param p.next_param p.params p.exported p.heading p.ending_block p.function p.constant_value p.variable p.item p.front_text p.text symbol loop_from loop opening bracketed whole
row-14 = refl
