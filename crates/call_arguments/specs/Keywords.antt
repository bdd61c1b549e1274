-- Keywords of two records beside each other. Names are taken as they stand: in data that the host makes, in byte order, each once.
use Rattle.std.specs.Prelude.{ℕ, List, map, find, not, Option, Some, None, option_map, Result, if◌then◌else◌}
use Rattle.std.specs.Borrow.{Bor}
use Rattle.std.specs.Cmp.Lexicographic.{slice_cmp}
use Rattle.std.specs.Ordering.{is_lt, nat_cmp}
use Rattle.std.specs.declared.cmp.Ordering.{Ordering}
use Rattle.refusals.specs.Codes.{keyword_mismatch}
use Rattle.refusals.specs.Outcomes.{none_such}
use Rattle.refusals.specs.declared.codes.Refusal.{Refusal}
use Rattle.call_arguments.specs.Records.{has_name}

abbrev pub texts : List (Bor (List ℕ)) → List (List ℕ)
texts names = map (λ k. k.now) names

abbrev pub text_in : Option (Bor (List ℕ)) → Option (List ℕ)
text_in name = option_map (λ k. k.now) name

abbrev pub by_text : Bor (List ℕ) → Bor (List ℕ) → Ordering
by_text x y = slice_cmp nat_cmp x.now y.now

-- the first that is one of the others
unfoldable pub first_shared : List (List ℕ) → List (List ℕ) → Option (List ℕ)
first_shared ks js = find (λ k. has_name k js) ks

-- the first that is none of the others
unfoldable pub first_alone : List (List ℕ) → List (List ℕ) → Option (List ℕ)
first_alone ks js = find (λ k. not (has_name k js)) ks

-- the one that comes first in byte order
abbrev pub lesser : Option (List ℕ) → Option (List ℕ) → Option (List ℕ)
lesser None other = other
lesser (Some k) None = Some k
lesser (Some k) (Some j) = if is_lt (slice_cmp nat_cmp j k) then Some j else Some k

-- the first that stands in one of the two alone
abbrev pub least_alone : List (List ℕ) → List (List ℕ) → Option (List ℕ)
least_alone ks js = lesser (first_alone ks js) (first_alone js ks)

-- none stands in both
abbrev pub are_apart : List (List ℕ) → List (List ℕ) → Result (Unit {0}) Refusal
are_apart ks js = none_such (first_shared ks js) keyword_mismatch

-- each stands in both
abbrev pub are_same : List (List ℕ) → List (List ℕ) → Result (Unit {0}) Refusal
are_same ks js = none_such (least_alone ks js) keyword_mismatch
