use Rattle.std.proofs.Common.{◌≡◌, ◌+◌, ◌<◌, ◌^◌, ap, subst, sym, ◌∙◌}
use Rattle.row_records.specs.Views.{value_view}
use Rattle.row_records.specs.amount_math.Content.{Content, count, sum}
use Rattle.row_records.specs.fair_rows.Values.{content_of}
use Rattle.told_rights.specs.Supplies.{Supply, out_of}
use Rattle.told_rights.proofs.Noting.{bounded_after, sum_same, out_after}
use Rattle.told_rights.proofs.Shelving.{ok_map}
use Rattle.told_rights.proofs.supplies.Supplies.issue.Goals as goal

pub returns-clause-out : goal.returns-clause-out
returns-clause-out c =
    ok_map c.replace.result
    (λ put. out_after c.self.inside.edition c.self.inside.out.entries c.pull-out.new.rows.entries c.replace.new.rows.entries c.self.inside.over.entries c.note.new.over.entries c.args.brand (value_view c.args.value.now) c.pull-out.result c.add.new.self c.most.result c.pull-out.ensures.value c.pull-out.ensures.gone c.in_ok-note.ensures.noted put c.args.self.now c.self.view_is (λ x. sum x (content_of (value_view c.args.value.now))) c.in_ok-add.ensures)
    c.replace.ensures.ok

pub returns-clause-bounded : goal.returns-clause-bounded
returns-clause-bounded c =
    ok_map c.replace.result
    (λ put. bounded_after c.self.inside.edition c.self.inside.out.entries c.pull-out.new.rows.entries c.replace.new.rows.entries c.self.inside.over.entries c.note.new.over.entries c.args.brand (value_view c.args.value.now) c.pull-out.result c.add.new.self c.most.result c.pull-out.ensures.value c.pull-out.ensures.gone c.in_ok-note.ensures.noted put c.args.self.now c.self.view_is c.most.ensures (λ k none. ap (λ (x : Content). count x k) c.in_ok-add.ensures ∙ sum_same c.pull-out.result (value_view c.args.value.now) k none))
    c.replace.ensures.ok

pub add-requires : goal.add-requires
add-requires c =
    let held : c.pull-out.result ≡ out_of c.args.self.now c.args.brand = c.pull-out.ensures.value ∙ ap (λ (s : Supply). out_of s c.args.brand) c.self.view_is in
    record {
      form = c.requires.form;
      room = λ k. subst (λ (x : Content). count x k + count (content_of (value_view c.args.value.now)) k < 2 ^ 128) (sym held) (c.requires.room k);
    }
