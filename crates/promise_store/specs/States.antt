-- What a promise is settled with, and what it is.
use Rattle.std.specs.Prelude.{ℕ, Bool, true, false, not, List, Option, None, Some, slice_index_or}
use Rattle.host_data.specs.Tree.{Tree, object, null}
use Rattle.host_data.specs.View.{tree}
use Rattle.host_data.specs.declared.data.ObjKind.{ObjKind}
use Rattle.host_data.specs.declared.data.ObjKind.TheVariants.{Promise}
use Rattle.promise_store.specs.declared.settlement.Settlement.{Settlement}
use Rattle.promise_store.specs.declared.settlement.Settlement.TheVariants.{Ok, Broken}

pub data SettlementView : Type 0 where
  ok : Tree → SettlementView
  broken : Tree → SettlementView

abbrev pub settlement_view : Settlement → SettlementView
settlement_view (Ok d) = ok (tree d)
settlement_view (Broken d) = broken (tree d)

abbrev pub is_promise_kind : ObjKind → Bool
is_promise_kind Promise = true
is_promise_kind _ = false

abbrev pub is_promise : Tree → Bool
is_promise (object o) = is_promise_kind o.kind
is_promise _ = false

-- it ends a promise: there is no other promise that would have to be followed
abbrev pub is_final : SettlementView → Bool
is_final (ok t) = not (is_promise t)
is_final (broken t) = true

-- what a promise is
pub data StateView : Type 0 where
  pending : StateView
  follows : ℕ → StateView
  settled : SettlementView → StateView

abbrev pub settlement_at : List SettlementView → ℕ → SettlementView
settlement_at ss k = slice_index_or ss k (broken null)

-- what a promise is, by the number of its settlement and by what it follows
abbrev pub state_of : List SettlementView → Option ℕ → Option ℕ → StateView
state_of ss (Some k) q = settled (settlement_at ss k)
state_of ss None (Some q) = follows q
state_of ss None None = pending

-- it isn't settled, or what it was settled with ended it
abbrev pub is_flat : StateView → Bool
is_flat pending = true
is_flat (follows q) = true
is_flat (settled v) = is_final v
