-- A call passes just where the instance may name all that it names.
use Rattle.std.specs.Prelude.{◌&&◌}
use Rattle.std.proofs.Common.{◌≡◌, ℕ, ◌<◌, Bool, true, false, List, [], ◌∷◌, length, refl}
use Rattle.contract_powers.specs.NameTests.{asks_rightly, call_passes, shown}
use Rattle.jessie_machine.specs.jessie_semantics.Keeping.{AllHave, CallHas}
use Rattle.jessie_machine.specs.jessie_semantics.Play.{Call, call, far, send, when}
use Rattle.refusals.specs.host_data.Tree.{Tree}
use Rattle.world_effects.proofs.world_reads.Known.{known_passes, passed_known}
use Rattle.world_effects.specs.world_reads.Tests.{all_pass, passes}
use Rattle.world_effects.specs.world_state.Good.{IsGoodWorld}
use Rattle.world_effects.specs.world_state.Known.{IsKnownTo}
use Rattle.world_effects.specs.world_state.Worlds.{State}

both_true : (a b : Bool) → (a && b) ≡ true → (a ≡ true) × (b ≡ true)
both_true true b e = (refl, e)
both_true false b e = absurd (cc)

true_both : (a b : Bool) → a ≡ true → b ≡ true → (a && b) ≡ true
true_both true b e f = f
true_both false b e f = absurd (cc)

module _ (w : State) (i : ℕ) (good : IsGoodWorld w) (made : i < length w.tables.instances) where
  all_known : (ts : List Tree) → all_pass w i ts ≡ true → AllHave (IsKnownTo w i) ts
  all_known [] e = tt
  all_known (t ∷ ts) e = let p = both_true (passes w i t) (all_pass w i ts) e in (passed_known w i good made t p.0, all_known ts p.1)

  known_all : (ts : List Tree) → AllHave (IsKnownTo w i) ts → all_pass w i ts ≡ true
  known_all [] h = refl
  known_all (t ∷ ts) h = true_both (passes w i t) (all_pass w i ts) (known_passes w i good made t h.0) (known_all ts h.1)

  shown_known : (c : Call) → asks_rightly c ≡ true → AllHave (IsKnownTo w i) (shown c) → CallHas (IsKnownTo w i) c
  shown_known (call o m args) e h = (h.0, h.1)
  shown_known (send o m args) e h = (h.0, h.1)
  shown_known (when o f held) e h = (e, h.0, h.1.0, h.1.1.0)
  shown_known (far x ms held) e h = (h.0, h.1.0)

  known_shown : (c : Call) → CallHas (IsKnownTo w i) c → (asks_rightly c ≡ true) × AllHave (IsKnownTo w i) (shown c)
  known_shown (call o m args) h = (refl, (h.0, h.1))
  known_shown (send o m args) h = (refl, (h.0, h.1))
  known_shown (when o f held) h = (h.0, (h.1, (h.2, (h.3, tt))))
  known_shown (far x ms held) h = (refl, (h.0, (h.1, tt)))

  pub passed_call : (c : Call) → call_passes w i c ≡ true → CallHas (IsKnownTo w i) c
  passed_call c e = let p = both_true (asks_rightly c) (all_pass w i (shown c)) e in shown_known c p.0 (all_known (shown c) p.1)

  pub call_passed : (c : Call) → CallHas (IsKnownTo w i) c → call_passes w i c ≡ true
  call_passed c h = let p = known_shown c h in true_both (asks_rightly c) (all_pass w i (shown c)) p.0 (known_all (shown c) p.1)

  pub stray_call : (c : Call) → call_passes w i c ≡ false → CallHas (IsKnownTo w i) c → ⊥
  stray_call c e h = let f = call_passed c h in absurd (cc)
