use Rattle.std.proofs.Common.{◌≡◌, sym, ◌∙◌, arith, rules, string_bytes}
use Rattle.serde_json.specs.Data.{string}
use Rattle.serde_json.specs.View.{view}
use Rattle.serde_json.specs.declared.value.Value as V
use Rattle.turn_writer.proofs.Puts.{payouts_more}
use Rattle.turn_writer.proofs.event_rows.payouts_value.Goals as goal

pub loop-left-preserved : goal.loop-left-preserved
loop-left-preserved c =
    let name = c.in_ok-name.name in
    let seen : view (V.String name) ≡ string (string_bytes name) = search (rules, V.the_lemmas) in
    record {
      within = omega arith;
      put =
          c.in_ok-put.ensures.ok
          ∙ rw (seen, c.as_str.ensures.text, c.in_ok-name.ensures, c.loop-left.invariant.put) (sym (payouts_more c.args.payouts.now c.loop-left.left c.index-payouts-left.result (omega arith) c.loop-left.invariant.within c.index-payouts-left.is));
    }
