use Rattle.std.proofs.Common.{sym, ◌∙◌}
use Rattle.told_rights.proofs.Kept.{is_none, no_length, none_there}
use Rattle.told_rights.proofs.contents.Contents.is_empty.Goals as goal

pub returns : goal.returns
returns c = (λ h. sym c.self.view_is ∙ none_there c.self.inside.counts.entries (no_length c.self.inside.counts.entries (c.is_empty.ensures.0 h)), λ is. c.is_empty.ensures.1 (is_none c.self.inside.counts.entries c.self.invariant (c.self.view_is ∙ is)))
