use Rattle.rearrange.proofs.Slots.{all_covered, covered_if, if_all_covered, if_covered, if_refused, if_safe, if_taken, refused_if, safe_if, taken_if}
use Rattle.rearrange.proofs.laws.tests_of_slots_are_exact.Goals as goal

pub returns-clause-covered : goal.returns-clause-covered
returns-clause-covered c = λ slots share. (covered_if slots share, if_covered slots share)

pub returns-clause-shares : goal.returns-clause-shares
returns-clause-shares c = λ slots shares. (all_covered slots shares, if_all_covered slots shares)

pub returns-clause-safe : goal.returns-clause-safe
returns-clause-safe c = λ p slots. (safe_if p slots, if_safe p slots)

pub returns-clause-taken : goal.returns-clause-taken
returns-clause-taken c = λ slots losses. (taken_if slots losses, if_taken slots losses)

pub returns-clause-refused : goal.returns-clause-refused
returns-clause-refused c = λ slots losses short. (refused_if slots losses short, if_refused slots losses short)
