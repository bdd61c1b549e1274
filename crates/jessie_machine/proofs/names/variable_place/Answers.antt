use Rattle.std.proofs.Common.{◌∙◌, ◌-◌, ◌≤◌, sym, length, take, arith}
use Rattle.std.proofs.lemmas.List.{length-take}
use Rattle.jessie_machine.proofs.Places.{last_hit, last_miss}
use Rattle.jessie_machine.proofs.names.variable_place.Goals as goal

pub returns-then-is_name : goal.returns-then-is_name
returns-then-is_name c =
    last_hit (λ v. v.name) c.args.name.now c.last.left.now c.variable-item.result c.as_str.result.now c.in-len1-up.len_at_least c.variable-item.is c.as_str.ensures (sym c.is_name.ensures ∙ c.if-is_name.true)
    ∙ sym c.last.invariant.0

pub last-preserved : goal.last-preserved
last-preserved c =
    let shorter : length (take (length c.last.left.now - 1) c.last.left.now) ≤ length c.args.variables.now = omega (arith, length-take (length c.last.left.now - 1) c.last.left.now, c.last.invariant.1) in (
      c.last.invariant.0
          ∙ last_miss (λ v. v.name) c.args.name.now c.last.left.now c.variable-item.result c.as_str.result.now c.in-len1-up.len_at_least c.variable-item.is c.as_str.ensures (sym c.is_name.ensures ∙ c.if-is_name.false),
      shorter,
    )
