use Rattle.std.proofs.Common.{◌≡◌, ◌+◌, ◌<◌, ◌^◌, subst, sym, ◌∙◌}
use Rattle.row_records.specs.Views.{value_view}
use Rattle.row_records.specs.amount_math.Content.{Content, count}
use Rattle.row_records.specs.fair_rows.Values.{content_of}
use Rattle.row_records.specs.rights_model.Table.{holds}
use Rattle.told_rights.proofs.Shelving.{are_given, given_outside, ok_map, read_there}
use Rattle.told_rights.proofs.places.Places.give.Goals as goal

pub returns-in-Outside : goal.returns-in-Outside
returns-in-Outside c = rw c.in-Outside.is (given_outside c.args.self.now c.args.brand (content_of (value_view c.args.value.now)))

pub returns-in_ok-add-in_default : goal.returns-in_ok-add-in_default
returns-in_ok-add-in_default c =
    ok_map c.replace.result
    (λ put. are_given c.self.inside.shelves.entries c.pull-contents.new.rows.entries c.replace.new.rows.entries c.args.self.now c.self.view_is c.args.holder.now c.args.brand c.in_ok-spot-in_default.spot c.in_ok-spot-in_default.ensures c.pull-contents.result c.add.new.self c.pull-contents.ensures.value c.pull-contents.ensures.gone put c.in_default.not-Outside (content_of (value_view c.args.value.now)) c.in_ok-add-in_default.ensures)
    c.replace.ensures.ok

pub add-requires : goal.add-requires
add-requires c =
    let held : c.pull-contents.result ≡ holds c.args.self.now c.args.holder.now c.args.brand = c.pull-contents.ensures.value ∙ read_there c.self.inside.shelves.entries c.args.self.now c.args.holder.now c.args.brand c.in_ok-spot-in_default.spot c.self.view_is c.in_ok-spot-in_default.ensures in
    record {
      form = c.requires.form;
      room = λ k. subst (λ (x : Content). count x k + count (content_of (value_view c.args.value.now)) k < 2 ^ 128) (sym held) (c.requires.room c.in_default.not-Outside k);
    }
