-- The movements of a rearrangement each move something by way of the hand.
use Rattle.std.specs.Prelude.{flat_map}
use Rattle.std.proofs.Common.{◌≡◌, ℕ, Bool, true, false, List, [], ◌∷◌, ◌++◌, refl, sym, ap, ◌∙◌, if◌then◌else◌}
use Rattle.std.proofs.lemmas.Bool.{false≢true}
use Rattle.refusals.specs.amount_math.Content.{Content, count-nothing, nothing, same_content}
use Rattle.rules.specs.world_state.Shapes.{GoesByHand, IsRearrangement}
use Rattle.rearrange.specs.Moves.{by_number, from_hand, gained_by, gains_in, if_some, losses_in, lost_by, moves_of, to_hand}
use Rattle.rules.specs.proposals.declared.allocations.Share.{Share}
use Rattle.rules.specs.proposals.declared.plans.Touched.{Touched}
use Rattle.rearrange.specs.rights_model.declared.Movement.{Movement}
use Rattle.rearrange.proofs.value_tests.Contents.{is_nothing-true, true-is_nothing}
use Rattle.rearrange.specs.value_tests.Tests.{is_nothing}

-- ---- what moves something

pub moves_none : (m : Movement) → m.value.content ≡ nothing → if_some m ≡ []
moves_none m is = ap (λ b. if b then [] else m ∷ []) (true-is_nothing m.value.content is)

pub moves_one : (m : Movement) → (m.value.content ≡ nothing → ⊥) → if_some m ≡ m ∷ []
moves_one m some = by (is_nothing m.value.content) refl
  where
    by : (b : Bool) → is_nothing m.value.content ≡ b → (if b then [] else m ∷ []) ≡ m ∷ []
    by true is = absurd (some (is_nothing-true m.value.content is))
    by false is = refl

-- ---- each is a half

all_append : (ms ns : List Movement) → IsRearrangement ms → IsRearrangement ns → IsRearrangement (ms ++ ns)
all_append [] ns a b = b
all_append (m ∷ ms) ns a b = (a.0, all_append ms ns a.1 b)

half : (m : Movement) → GoesByHand m.from m.to → IsRearrangement (if_some m)
half m by_hand = by (is_nothing m.value.content) refl
  where
    by : (b : Bool) → is_nothing m.value.content ≡ b → IsRearrangement (if b then [] else m ∷ [])
    by true is = tt
    by false is = (
      record {
        by_hand = by_hand;
        some = λ none. false≢true (sym is ∙ true-is_nothing m.value.content (same_content m.value.content nothing (λ k. none.each k ∙ sym (count-nothing k))));
      },
      tt,
    )

losses : (s : ℕ) (part : Share → Content) (rs : List Share) → IsRearrangement (flat_map (λ r. if_some (to_hand s r (part r))) rs)
losses s part [] = tt
losses s part (r ∷ rs) = all_append (if_some (to_hand s r (part r))) (flat_map (λ x. if_some (to_hand s x (part x))) rs) (half (to_hand s r (part r)) tt) (losses s part rs)

gains : (s : ℕ) (part : Share → Content) (rs : List Share) → IsRearrangement (flat_map (λ r. if_some (from_hand s r (part r))) rs)
gains s part [] = tt
gains s part (r ∷ rs) = all_append (if_some (from_hand s r (part r))) (flat_map (λ x. if_some (from_hand s x (part x))) rs) (half (from_hand s r (part r)) tt) (gains s part rs)

all_losses : (ts : List Touched) → IsRearrangement (flat_map losses_in ts)
all_losses [] = tt
all_losses (t ∷ ts) = all_append (losses_in t) (flat_map losses_in ts) (losses t.seat (lost_by t.before) t.after) (all_losses ts)

all_gains : (ts : List Touched) → IsRearrangement (flat_map gains_in ts)
all_gains [] = tt
all_gains (t ∷ ts) = all_append (gains_in t) (flat_map gains_in ts) (gains t.seat (gained_by t.before) t.after) (all_gains ts)

pub halves : (touched : List Touched) → IsRearrangement (moves_of touched)
unfolding moves_of
halves touched = all_append (flat_map losses_in (by_number touched)) (flat_map gains_in (by_number touched)) (all_losses (by_number touched)) (all_gains (by_number touched))
