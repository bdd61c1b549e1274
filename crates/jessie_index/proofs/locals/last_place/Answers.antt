use Rattle.std.proofs.Common.{◌∙◌, sym}
use Rattle.jessie_index.proofs.Indexed.{last_hit, last_miss}
use Rattle.jessie_index.proofs.locals.last_place.Goals as goal

pub returns-then-is_name : goal.returns-then-is_name
returns-then-is_name g c =
    last_hit c.args.name.now c.inmost.left.now c.binding-item.result c.as_str.result.now c.in-len1-up.len_at_least c.binding-item.is c.as_str.ensures (sym c.is_name.ensures ∙ c.if-is_name.true)
    ∙ sym c.inmost.invariant

pub inmost-preserved : goal.inmost-preserved
inmost-preserved g c =
    c.inmost.invariant
    ∙ last_miss c.args.name.now c.inmost.left.now c.binding-item.result c.as_str.result.now c.in-len1-up.len_at_least c.binding-item.is c.as_str.ensures (sym c.is_name.ensures ∙ c.if-is_name.false)
