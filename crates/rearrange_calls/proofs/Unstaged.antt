-- Staging that is dropped, seat by seat.
use Rattle.std.proofs.Common.{◌≡◌, ℕ, ◌+◌, ◌<◌, ◌++◌, List, [], ◌∷◌, get_or, length, map, take, refl, sym, ap, ◌∙◌}
use Rattle.std.proofs.lemmas.List.{take_more}
use Rattle.rules.specs.proposals.declared.plans.Touched.{Touched}
use Rattle.rules.specs.Rearranging.{seats_of}
use Rattle.rules.specs.world_state.Worlds as worlds
use Rattle.rules.specs.world_state.Worlds.{unstage}

abbrev pub all_unstaged : List Touched → List worlds.Effect
all_unstaged ts = map (λ seat. unstage seat) (seats_of ts)

unstaged_last : (ts : List Touched) (t : Touched) → all_unstaged (ts ++ t ∷ []) ≡ all_unstaged ts ++ unstage t.seat ∷ []
unstaged_last [] t = refl
unstaged_last (u ∷ us) t = ap (λ l. unstage u.seat ∷ l) (unstaged_last us t)

pub unstaged_next : (ts : List Touched) (i : ℕ) (t : Touched) → i < length ts → t ≡ get_or ts i t → all_unstaged (take (i + 1) ts) ≡ all_unstaged (take i ts) ++ unstage t.seat ∷ []
unstaged_next ts i t lt is = ap all_unstaged (take_more ts i t lt ∙ ap (λ x. take i ts ++ x ∷ []) (sym is)) ∙ unstaged_last (take i ts) t
