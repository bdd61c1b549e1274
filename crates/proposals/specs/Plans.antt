-- The numbers that stand for a touched seat, which a model needs.
use Rattle.std.specs.Prelude.{ℕ, List, refl}
use Rattle.std.specs.Coded.{Coded, code_by, coded×, coded_list, coded_ℕ}
use Rattle.proposals.specs.Shares.{coded_share}
use Rattle.proposals.specs.declared.allocations.Share.{Share}
use Rattle.proposals.specs.declared.plans.Touched.{Touched}

abbrev pub coded_touched : Coded Touched
coded_touched = code_by (ℕ × (List Share × List Share)) (coded× coded_ℕ (coded× (coded_list coded_share) (coded_list coded_share))) (λ t. (t.seat, (t.before, t.after))) (λ p. record { seat = p.0; before = p.1.0; after = p.1.1 }) (λ _. refl)
