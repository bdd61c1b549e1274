use Rattle.std.proofs.Common.{◌≡◌, ◌≢◌, ℕ, ◌+◌, ◌-◌, Option, Some, None, nat_le, if◌then◌else◌, arith}
use Rattle.std.proofs.lemmas.Grind.{common_steps}
use Rattle.host_data.proofs.Views.{tree-Record}
use Rattle.host_data.proofs.data.+pay.Goals as goal

-- what is left after 1 and then n is what is left after both
one_more : (left n : ℕ) (r : Option ℕ) → left ≢ 0 → r ≡ (if nat_le n (left - 1) then Some ((left - 1) - n) else None) → r ≡ (if nat_le (1 + n) left then Some (left - (1 + n)) else None)
one_more left n r h e = grind (arith, common_steps, e)

pub pay-returns-in-Record : goal.pay-returns-in-Record
pay-returns-in-Record t c =
    rw (c.in-Record.is, tree-Record c.in-Record.fields, ← c.as_slice-in-Record.ensures.value)
    (one_more _ _ _ c.if-left-eq0.false c.pay_fields.ensures)
