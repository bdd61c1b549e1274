-- Exit rules that are read have a time that can come.
use Rattle.std.specs.Prelude.{IfSome, nat_le, ◌-◌, ◌^◌, option_and_then, option_map}
use Rattle.std.specs.Str.{bytes_eq}
use Rattle.std.proofs.Common.{◌≡◌, ℕ, ℤ, pos, negsuc, ◌≤◌, Bool, true, false, List, [], ◌∷◌, Option, None, Some, if◌then◌else◌, codes, refl, arith}
use Rattle.std.proofs.lemmas.Bool.{leb-true}
use Rattle.world_laws.specs.host_data.Amounts.{has_two}
use Rattle.rules.specs.call_arguments.Exits.{as_time, deadline_in, deadline_with, exit_in, rule_from, rule_named, time_in, time_of, timer_of}
use Rattle.world_laws.specs.host_data.Tree.{Tree, field_count, field_of, is_null, number_of, pairs_of}
use Rattle.rules.specs.proposals.declared.offers.Exit.{Exit}
use Rattle.rules.specs.proposals.declared.offers.Exit.TheVariants.{AfterDeadline, OnDemand, Waived}
use Rattle.world_laws.proofs.refusals.Steps.{by_test}
use Rattle.world_laws.specs.world_state.Good.{IsRule}

-- what a chain of options gives, where each step gives it
then_some : {A B : Type 0} (P : B → Type 0) (o : Option A) (f : A → Option B) → ((x : A) → IfSome (f x) P) → IfSome (option_and_then f o) P
then_some P (Some x) f h = h x
then_some P None f h = tt

mapped_some : {A B : Type 0} (P : A → Type 0) (Q : B → Type 0) (o : Option A) (f : A → B) → ((x : A) → P x → Q (f x)) → IfSome o P → IfSome (option_map f o) Q
mapped_some P Q (Some x) f h is = h x is
mapped_some P Q None f h is = tt

-- a rule that is read has a time that can come
abbrev IsTime : ℕ → Type 0
IsTime t = t ≤ 2 ^ 63 - 1

whole_time : (z : ℤ) → IfSome (as_time z) IsTime
whole_time (pos m) = by (nat_le m (2 ^ 63 - 1)) refl
  where
    by : (b : Bool) → nat_le m (2 ^ 63 - 1) ≡ b → IfSome (if b then Some m else None) IsTime
    by true low = leb-true m (2 ^ 63 - 1) low
    by false low = tt
whole_time (negsuc m) = tt

time_read : (d : Tree) → IfSome (time_of d) IsTime
time_read d = then_some IsTime (field_of (codes "deadline") d) time_in (λ t. then_some IsTime (number_of t) as_time whole_time)

late : (t : ℕ) → IsTime t → IsRule (AfterDeadline t)
late t low = omega (arith, low)

deadline_read : (d : Tree) → IfSome (deadline_in d) IsRule
unfolding deadline_in
deadline_read d =
    by_test (λ (o : Option Exit). IfSome o IsRule) (has_two (field_count d)) (option_and_then (deadline_with d) (timer_of d)) None
    (then_some IsRule (timer_of d) (deadline_with d) (λ timer. mapped_some IsTime IsRule (time_of d) AfterDeadline late (time_read d)))
    tt

rule_read : (name : List ℕ) (t : Tree) → IfSome (rule_named name t) IsRule
rule_read name t =
    let P : Option Exit → Type 0 = λ o. IfSome o IsRule in
    by_test P (bytes_eq name (codes "onDemand")) _ _ (by_test P (is_null t) (Some OnDemand) None tt tt)
    (by_test P (bytes_eq name (codes "waived")) _ _ (by_test P (is_null t) (Some Waived) None tt tt)
    (by_test P (bytes_eq name (codes "afterDeadline")) _ _ (deadline_read t) tt))

one_rule : (fs : List (List ℕ × Tree)) → IfSome (rule_from fs) IsRule
one_rule [] = tt
one_rule (f ∷ []) = rule_read f.0 f.1
one_rule (f ∷ g ∷ gs) = tt

pub exit_read : (t : Tree) → IfSome (exit_in t) IsRule
unfolding exit_in
exit_read t =
    by_test (λ (o : Option Exit). IfSome o IsRule) (is_null t) (Some OnDemand) (option_and_then rule_from (pairs_of t)) tt
    (then_some IsRule (pairs_of t) rule_from one_rule)
