use Rattle.std.proofs.Common.{List, length, ◌≤◌, sym, subst}
use Rattle.rules.specs.proposals.Shares.{most_shares}
use Rattle.rules.specs.proposals.declared.allocations.Share.{Share}
use Rattle.zseat_calls.proofs.changes.with_more.Goals as goal

pub from_shares-requires : goal.from_shares-requires
from_shares-requires c = record {
  few = subst (λ (rs : List Share). length rs ≤ most_shares) (sym c.in_ok-after.ensures.after) c.requires.few;
  apart = c.in_ok-after.ensures.apart;
}
