-- Rows: what single texts come to, from their bytes on.
use Rattle.std.proofs.Common.{◌≡◌, ℕ, [], Result, Ok, Err, refl}
use Rattle.std.specs.Prelude.{codes}
use Rattle.jessie_grammar.specs.Lex as lex
use Rattle.jessie_grammar.specs.Scopes as scopes
use Rattle.jessie_grammar.specs.Parse.{symbol, loop_from, loop, opening, bracketed, whole}
use Rattle.jessie_grammar.specs.Rules as p
use Rattle.jessie_grammar.specs.declared.jessie_texts.refusal.Refusal.{Refusal}
use Rattle.jessie_grammar.specs.declared.jessie_texts.refusal.Refusal.TheVariants as r
use Rattle.jessie_grammar.specs.declared.jessie_texts.refusal.TextRefusal.{TextRefusal}
use Rattle.jessie_grammar.specs.Texts.{refusal, Answer}
use Rattle.jessie_grammar.specs.Answers.{read}

-- what comes of it, but for the tree
abbrev verdict : Answer → Result (Unit {0}) TextRefusal
verdict (Ok m) = Ok tt
verdict (Err f) = Err f

abbrev refused : ℕ → Refusal → Result (Unit {0}) TextRefusal
refused place kind = Err (refusal place kind)

-- a text of no bytes has no start
row-1 : verdict (read []) ≡ refused 0 r.NoStart
unfolding read lex.skip lex.quoted lex.decimal_from lex.piece lex.cut_from lex.cut scopes.first p.name p.args p.field p.call_tail p.named p.method_call p.eventually p.amount p.bare p.prim p.post_access p.post_tail p.unary p.op_step p.tails p.branches p.choice p.after p.full p.expr p.inner p.initializer p.declaration p.led p.bare_run p.arm p.looping p.giving p.throwing p.each p.walking p.catching p.trying p.nameless p.simple p.begun p.going_on p.turn p.statements p.braced p.body p.inner_body p.block p.constant_field p.constant_in p.constant p.inner_constant p.param p.next_param p.params p.exported p.heading p.ending_block p.function p.constant_value p.variable p.item p.front_text p.text symbol loop_from loop opening bracketed whole
row-1 = refl

-- a number has its n
row-2 : verdict (read (codes "let x = 3;")) ≡ refused 8 r.Syntax
unfolding read lex.skip lex.quoted lex.decimal_from lex.piece lex.cut_from lex.cut scopes.first p.name p.args p.field p.call_tail p.named p.method_call p.eventually p.amount p.bare p.prim p.post_access p.post_tail p.unary p.op_step p.tails p.branches p.choice p.after p.full p.expr p.inner p.initializer p.declaration p.led p.bare_run p.arm p.looping p.giving p.throwing p.each p.walking p.catching p.trying p.nameless p.simple p.begun p.going_on p.turn p.statements p.braced p.body p.inner_body p.block p.constant_field p.constant_in p.constant p.inner_constant p.param p.next_param p.params p.exported p.heading p.ending_block p.function p.constant_value p.variable p.item p.front_text p.text symbol loop_from loop opening bracketed whole
row-2 = refl

-- the end is refused at the text's length
row-3 : verdict (read (codes "let x = 3n")) ≡ refused 10 r.Syntax
unfolding read lex.skip lex.quoted lex.decimal_from lex.piece lex.cut_from lex.cut scopes.first p.name p.args p.field p.call_tail p.named p.method_call p.eventually p.amount p.bare p.prim p.post_access p.post_tail p.unary p.op_step p.tails p.branches p.choice p.after p.full p.expr p.inner p.initializer p.declaration p.led p.bare_run p.arm p.looping p.giving p.throwing p.each p.walking p.catching p.trying p.nameless p.simple p.begun p.going_on p.turn p.statements p.braced p.body p.inner_body p.block p.constant_field p.constant_in p.constant p.inner_constant p.param p.next_param p.params p.exported p.heading p.ending_block p.function p.constant_value p.variable p.item p.front_text p.text symbol loop_from loop opening bracketed whole
row-3 = refl

-- a name that is not known
row-4 : verdict (read (codes "const start = () => { return x; };")) ≡ refused 29 r.Unknown
unfolding read lex.skip lex.quoted lex.decimal_from lex.piece lex.cut_from lex.cut scopes.first p.name p.args p.field p.call_tail p.named p.method_call p.eventually p.amount p.bare p.prim p.post_access p.post_tail p.unary p.op_step p.tails p.branches p.choice p.after p.full p.expr p.inner p.initializer p.declaration p.led p.bare_run p.arm p.looping p.giving p.throwing p.each p.walking p.catching p.trying p.nameless p.simple p.begun p.going_on p.turn p.statements p.braced p.body p.inner_body p.block p.constant_field p.constant_in p.constant p.inner_constant p.param p.next_param p.params p.exported p.heading p.ending_block p.function p.constant_value p.variable p.item p.front_text p.text symbol loop_from loop opening bracketed whole
row-4 = refl

-- a contract
row-5 : verdict (read (codes "const start = () => { };")) ≡ Ok tt
unfolding read lex.skip lex.quoted lex.decimal_from lex.piece lex.cut_from lex.cut scopes.first p.name p.args p.field p.call_tail p.named p.method_call p.eventually p.amount p.bare p.prim p.post_access p.post_tail p.unary p.op_step p.tails p.branches p.choice p.after p.full p.expr p.inner p.initializer p.declaration p.led p.bare_run p.arm p.looping p.giving p.throwing p.each p.walking p.catching p.trying p.nameless p.simple p.begun p.going_on p.turn p.statements p.braced p.body p.inner_body p.block p.constant_field p.constant_in p.constant p.inner_constant p.param p.next_param p.params p.exported p.heading p.ending_block p.function p.constant_value p.variable p.item p.front_text p.text symbol loop_from loop opening bracketed whole
row-5 = refl

-- a reserved word is assigned
row-6 : verdict (read (codes "const start = () => { else = 1n; };")) ≡ refused 22 r.Reserved
unfolding read lex.skip lex.quoted lex.decimal_from lex.piece lex.cut_from lex.cut scopes.first p.name p.args p.field p.call_tail p.named p.method_call p.eventually p.amount p.bare p.prim p.post_access p.post_tail p.unary p.op_step p.tails p.branches p.choice p.after p.full p.expr p.inner p.initializer p.declaration p.led p.bare_run p.arm p.looping p.giving p.throwing p.each p.walking p.catching p.trying p.nameless p.simple p.begun p.going_on p.turn p.statements p.braced p.body p.inner_body p.block p.constant_field p.constant_in p.constant p.inner_constant p.param p.next_param p.params p.exported p.heading p.ending_block p.function p.constant_value p.variable p.item p.front_text p.text symbol loop_from loop opening bracketed whole
row-6 = refl

-- a number too wide may stand there
row-7 : verdict (read (codes "let x = 170141183460469231731687303715884105728n;")) ≡ refused 8 r.Wide
unfolding read lex.skip lex.quoted lex.decimal_from lex.piece lex.cut_from lex.cut scopes.first p.name p.args p.field p.call_tail p.named p.method_call p.eventually p.amount p.bare p.prim p.post_access p.post_tail p.unary p.op_step p.tails p.branches p.choice p.after p.full p.expr p.inner p.initializer p.declaration p.led p.bare_run p.arm p.looping p.giving p.throwing p.each p.walking p.catching p.trying p.nameless p.simple p.begun p.going_on p.turn p.statements p.braced p.body p.inner_body p.block p.constant_field p.constant_in p.constant p.inner_constant p.param p.next_param p.params p.exported p.heading p.ending_block p.function p.constant_value p.variable p.item p.front_text p.text symbol loop_from loop opening bracketed whole
row-7 = refl

-- and may not stand there: Syntax whatever else it is
row-8 : verdict (read (codes "let 170141183460469231731687303715884105728n = 1n;")) ≡ refused 4 r.Syntax
unfolding read lex.skip lex.quoted lex.decimal_from lex.piece lex.cut_from lex.cut scopes.first p.name p.args p.field p.call_tail p.named p.method_call p.eventually p.amount p.bare p.prim p.post_access p.post_tail p.unary p.op_step p.tails p.branches p.choice p.after p.full p.expr p.inner p.initializer p.declaration p.led p.bare_run p.arm p.looping p.giving p.throwing p.each p.walking p.catching p.trying p.nameless p.simple p.begun p.going_on p.turn p.statements p.braced p.body p.inner_body p.block p.constant_field p.constant_in p.constant p.inner_constant p.param p.next_param p.params p.exported p.heading p.ending_block p.function p.constant_value p.variable p.item p.front_text p.text symbol loop_from loop opening bracketed whole
row-8 = refl

-- of an outer and an inner x the innermost is assigned
row-9 : verdict (read (codes "const start = () => { const x = 1n; if (true) { let x = 2n; x = 3n; } x = 4n; };")) ≡ refused 70 r.AssignConst
unfolding read lex.skip lex.quoted lex.decimal_from lex.piece lex.cut_from lex.cut scopes.first p.name p.args p.field p.call_tail p.named p.method_call p.eventually p.amount p.bare p.prim p.post_access p.post_tail p.unary p.op_step p.tails p.branches p.choice p.after p.full p.expr p.inner p.initializer p.declaration p.led p.bare_run p.arm p.looping p.giving p.throwing p.each p.walking p.catching p.trying p.nameless p.simple p.begun p.going_on p.turn p.statements p.braced p.body p.inner_body p.block p.constant_field p.constant_in p.constant p.inner_constant p.param p.next_param p.params p.exported p.heading p.ending_block p.function p.constant_value p.variable p.item p.front_text p.text symbol loop_from loop opening bracketed whole
row-9 = refl

-- names come after all tokens
row-10 : verdict (read (codes "const start = () => { x; }; ?")) ≡ refused 28 r.Syntax
unfolding read lex.skip lex.quoted lex.decimal_from lex.piece lex.cut_from lex.cut scopes.first p.name p.args p.field p.call_tail p.named p.method_call p.eventually p.amount p.bare p.prim p.post_access p.post_tail p.unary p.op_step p.tails p.branches p.choice p.after p.full p.expr p.inner p.initializer p.declaration p.led p.bare_run p.arm p.looping p.giving p.throwing p.each p.walking p.catching p.trying p.nameless p.simple p.begun p.going_on p.turn p.statements p.braced p.body p.inner_body p.block p.constant_field p.constant_in p.constant p.inner_constant p.param p.next_param p.params p.exported p.heading p.ending_block p.function p.constant_value p.variable p.item p.front_text p.text symbol loop_from loop opening bracketed whole
row-10 = refl
