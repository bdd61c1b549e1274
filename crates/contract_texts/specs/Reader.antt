-- The reader of contract texts, as the host's rules see it: a module, or where and why the text is
-- refused.
use Rattle.std.specs.Prelude.{ℕ, min, List, Result, Ok, Err}
use Rattle.rules.specs.jessie_grammar.declared.syntax.Module.{Module}
use Rattle.rules.specs.jessie_grammar.Answers.{read}
use Rattle.rules.specs.jessie_grammar.Texts.{Answer, kind_name, most_bytes}
use Rattle.rules.specs.jessie_grammar.declared.jessie_texts.refusal.TextRefusal.{TextRefusal}
use Rattle.rules.specs.Zoe.{TextReader}

-- a refusal as it is shown: its place, which no text has past the most bytes, and its kind's name
abbrev pub shown_refusal : TextRefusal → ℕ × List ℕ
shown_refusal f = (min f.place most_bytes, kind_name f.kind)

abbrev pub told : Answer → Result Module (ℕ × List ℕ)
told (Ok m) = Ok m
told (Err f) = Err (shown_refusal f)

unfoldable pub reader : TextReader
reader bytes = told (read bytes)
