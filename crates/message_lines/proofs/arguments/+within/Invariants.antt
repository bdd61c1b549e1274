use Rattle.std.proofs.Common.{◌≡◌, drop, nat_le}
use Rattle.message_lines.specs.Arguments.{parts_nesting, fields_nesting}
use Rattle.turn_records.specs.Views.{part_views, parts_of, field_parts_of}
use Rattle.message_lines.specs.NamedParts.{named_views}
use Rattle.message_lines.proofs.arguments.+within.Given as goal

abbrev pub invariant-fields_within-loop-part : goal.invariant-fields_within-loop-part
invariant-fields_within-loop-part l = nat_le (fields_nesting (field_parts_of (named_views l.fields))) l.limit ≡ nat_le (fields_nesting (field_parts_of (named_views (drop l.part-index l.fields)))) l.limit

abbrev pub invariant-all_within-loop-part : goal.invariant-all_within-loop-part
invariant-all_within-loop-part l = nat_le (parts_nesting (parts_of (part_views l.parts))) l.limit ≡ nat_le (parts_nesting (parts_of (part_views (drop l.part-index l.parts)))) l.limit
