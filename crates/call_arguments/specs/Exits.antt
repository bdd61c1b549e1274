-- When an offer may be left (Zoe): which data is a rule of it.
use Rattle.std.specs.Prelude.{ℕ, ℤ, pos, negsuc, ◌-◌, ◌^◌, nat_le, List, [], ◌∷◌, Option, Some, None, option_and_then, option_map, Result, if◌then◌else◌, codes}
use Rattle.std.specs.Str.{bytes_eq}
use Rattle.refusals.specs.host_data.Tree.{Tree, field_count, field_of, is_null, number_of, pairs_of}
use Rattle.refusals.specs.host_data.declared.data.ObjKind.TheVariants.{Timer}
use Rattle.refusals.specs.host_data.Amounts.{has_two}
use Rattle.call_arguments.specs.Arguments.{object_in}
use Rattle.proposals.specs.declared.offers.Exit.{Exit}
use Rattle.proposals.specs.declared.offers.Exit.TheVariants.{AfterDeadline, OnDemand, Waived}
use Rattle.refusals.specs.Codes.{bad_exit}
use Rattle.refusals.specs.Outcomes.{wanted}
use Rattle.refusals.specs.declared.codes.Refusal.{Refusal}

-- a time, from 0 to the latest
abbrev pub as_time : ℤ → Option ℕ
as_time (pos n) = if nat_le n (2 ^ 63 - 1) then Some n else None
as_time (negsuc n) = None

abbrev pub time_in : Tree → Option ℕ
time_in t = option_and_then as_time (number_of t)

abbrev pub timer_of : Tree → Option ℕ
timer_of t = option_and_then (object_in Timer) (field_of (codes "timer") t)

abbrev pub time_of : Tree → Option ℕ
time_of t = option_and_then time_in (field_of (codes "deadline") t)

abbrev pub deadline_with : Tree → ℕ → Option Exit
deadline_with t timer = option_map AfterDeadline (time_of t)

-- a record of exactly a timer and a deadline
unfoldable pub deadline_in : Tree → Option Exit
deadline_in t = if has_two (field_count t) then option_and_then (deadline_with t) (timer_of t) else None

abbrev pub where_null : Tree → Exit → Option Exit
where_null t exit = if is_null t then Some exit else None

-- the rule of a name
abbrev pub rule_named : List ℕ → Tree → Option Exit
rule_named name t = if bytes_eq name (codes "onDemand") then where_null t OnDemand else if bytes_eq name (codes "waived") then where_null t Waived else if bytes_eq name (codes "afterDeadline") then deadline_in t else None

-- a record of one rule
abbrev pub rule_from : List (List ℕ × Tree) → Option Exit
rule_from (f ∷ []) = rule_named f.0 f.1
rule_from _ = None

-- null stands for leaving on demand
unfoldable pub exit_in : Tree → Option Exit
exit_in t = if is_null t then Some OnDemand else option_and_then rule_from (pairs_of t)

unfoldable pub exit : Tree → Result Exit Refusal
exit t = wanted (exit_in t) bad_exit
