-- The laws of reading contract texts.
use Rattle.jessie_grammar.specs.Laws.{ReadsTexts, ReadsEach, OneTree, RefusesFirst, RefusesEach, OneFirstRefusal}
use Rattle.jessie_grammar.specs.Grammar as grammar
use Rattle.jessie_grammar.specs.Rules as p
use Rattle.jessie_grammar.proofs.Whole.{determined, refuses, refuses_each, reads_text, is_text, one_value}
use Rattle.jessie_grammar.proofs.Unique.{unique}
use Rattle.jessie_grammar.proofs.Modules.{text_good}

pub reads_texts : ReadsTexts
unfolding p.text
reads_texts room ts us x e = is_text (text_good room) ts us x e

pub reads_each : ReadsEach
unfolding p.text
reads_each room ts x h = reads_text (text_good room) ts x h

pub one_tree : OneTree
one_tree room ts x y h i = one_value (text_good room) ts x y h i

pub refuses_first : RefusesFirst
unfolding p.text
refuses_first room ts f e = refuses (text_good room) ts f e

pub refused_each : RefusesEach
unfolding p.text
refused_each room front rest k h = refuses_each (text_good room) front rest k h

pub one_first_refusal : OneFirstRefusal
one_first_refusal room f g r s j k e x y = unique (grammar.text room) f g r s j k (determined (text_good room)) e x y
