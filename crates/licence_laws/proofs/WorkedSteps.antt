-- Worked steps are licensed, or not.
use Rattle.std.specs.Prelude.{◌≡◌, ◌≤◌, ◌⊎◌, ℕ, List, [], ◌∷◌, refl}
use Rattle.std.proofs.Common.{inl, inr, ap, arith}
use Rattle.fair_laws.specs.jessie_semantics.Keeping.{OccursAny}
use Rattle.fair_laws.specs.world_state.host_data.Tree.{Tree, null}
use Rattle.fair_laws.specs.world_state.host_data.declared.data.Obj.{Obj}
use Rattle.fair_laws.specs.world_state.host_data.declared.data.ObjKind.TheVariants as kinds
use Rattle.fair_laws.specs.world_state.Known.{IsMadeBy, IsSeatOf}
use Rattle.fair_laws.specs.world_state.Worlds.{Maker, of_instance}
use Rattle.licence_laws.specs.WorkedSteps.{AreLicensed, AreNotLicensed, it, kept, named, world_with}

-- ---- what is handed

abbrev handed : List Tree
handed = it kinds.Zcf 0 ∷ it kinds.Zmint 1 ∷ it kinds.Zmint 2 ∷ it kinds.Zseat 0 ∷ it kinds.Payment 0 ∷ null ∷ []

-- payment1 is not among it
nowhere : OccursAny (named kinds.Payment 1) handed → ⊥
nowhere (inl e) = let k = ap (λ (x : Obj). x.kind) e in cc
nowhere (inr (inl e)) = let k = ap (λ (x : Obj). x.kind) e in cc
nowhere (inr (inr (inl e))) = let k = ap (λ (x : Obj). x.kind) e in cc
nowhere (inr (inr (inr (inl e)))) = let k = ap (λ (x : Obj). x.kind) e in cc
nowhere (inr (inr (inr (inr (inl e))))) = let n : 1 ≡ 0 = ap (λ (x : Obj). x.number) e in omega (arith, n)
nowhere (inr (inr (inr (inr (inr (inl e)))))) = e
nowhere (inr (inr (inr (inr (inr (inr e)))))) = e

-- ---- whose seats and mints these are

own_seat : IsSeatOf (world_with kept).seats 0 0
own_seat = record { made = omega arith; own = refl }

own_mint : IsMadeBy (world_with kept).makers (of_instance 0) 1
own_mint = record { made = omega arith; is = refl }

no_seat : IsSeatOf (world_with kept).seats 0 1 → ⊥
no_seat is = let e : 1 ≡ 0 = is.own in omega (arith, e)

abbrev instance_in : Maker → ℕ
instance_in (of_instance i) = i
instance_in m = 0

no_mint : IsMadeBy (world_with kept).makers (of_instance 0) 2 → ⊥
no_mint is = let e : of_instance 1 ≡ of_instance 0 = is.is in let n : 1 ≡ 0 = ap instance_in e in omega (arith, n)

-- ---- those that are licensed

pub are_licensed : AreLicensed
are_licensed = record {
  deposit = record {
    names = record { calls = (record { target = inl refl; arguments = (inr (inr (inr (inr (inl refl)))), tt) }, tt); result_given = tt; state = (inl refl, (inr (inl refl), (inr (inr (inl refl)), tt))) };
    moves = (tt, (inl (record { of_method = refl; answered = tt; takes = inl (record { kind_is = refl; number_is = refl }); gives = own_seat }), tt));
  };
  gains = record {
    names = record { calls = (record { target = inr (inl refl); arguments = tt }, tt); result_given = tt; state = (inl refl, (inr (inl refl), (inr (inr (inl refl)), tt))) };
    moves = (tt, (inl (record { of_method = refl; answered = tt; takes = inl (record { made = own_mint; asked = record { target = record { kind_is = refl; number_is = refl }; method_is = refl } }); gives = own_seat }), tt));
  };
  losses = record {
    names = record { calls = (record { target = inr (inl refl); arguments = tt }, tt); result_given = tt; state = (inl refl, (inr (inl refl), (inr (inr (inl refl)), tt))) };
    moves = (tt, (inl (record { of_method = refl; answered = tt; takes = own_seat; gives = record { made = own_mint; asked = record { target = record { kind_is = refl; number_is = refl }; method_is = refl } } }), tt));
  };
  invitation = record {
    names = record { calls = (record { target = inl refl; arguments = tt }, tt); result_given = tt; state = (inl refl, (inr (inl refl), (inr (inr (inl refl)), tt))) };
    moves = (tt, (inl (record { of_method = refl; answered = tt; takes = inr (record { brand_is = refl; asked = record { target = record { kind_is = refl; number_is = refl }; method_is = refl } }); gives = omega arith }), tt));
  };
  two_withdrawals = record {
    names = record { calls = (record { target = inl refl; arguments = tt }, (record { target = inl refl; arguments = tt }, tt)); result_given = tt; state = (inl refl, (inr (inl refl), (inr (inr (inl refl)), tt))) };
    moves = (
      tt,
      (inl (record { of_method = refl; answered = tt; takes = own_seat; gives = omega arith }), (tt, (inl (record { of_method = refl; answered = tt; takes = own_seat; gives = omega arith }), tt))),
    );
  };
  own_exit = record {
    names = record { calls = (record { target = inr (inr (inr (inl refl))); arguments = tt }, tt); result_given = tt; state = (inl refl, (inr (inl refl), (inr (inr (inl refl)), tt))) };
    moves = (tt, (tt, (inr (own_seat, record { from_slot = refl; to_payment = omega arith }), tt)));
  };
  handed_on = record {
    names = record { calls = tt; result_given = inr (inr (inr (inr (inl refl)))); state = (inr (inr (inr (inl refl))), (inl refl, (inr (inl refl), (inr (inr (inl refl)), tt)))) };
    moves = tt;
  };
  due = record { names = tt; moves = (tt, ((refl, record { from_slot = refl; to_payment = omega arith }), tt)) };
  asked = record {
    names = tt;
    moves = (tt, (inr (record { target = record { kind_is = refl; number_is = refl }; method_is = refl }, record { from_slot = refl; to_payment = omega arith }), tt));
  };
}

-- ---- those that aren't

-- what a movement of the last call isn't, and no seat was left
by_call : (A B : Type 0) → (A → ⊥) → (B → ⊥) → A ⊎ B → ⊥
by_call A B not_one not_other (inl is) = not_one is
by_call A B not_one not_other (inr is) = not_other is

pub are_not_licensed : AreNotLicensed
are_not_licensed = record {
  foreign_payment = λ is. by_call _ _ (λ right. by_call _ _ (λ (o : _). let n : 0 ≡ 1 = o.number_is in omega (arith, n)) (λ none. none) right.takes) (λ none. none) is.moves.1.0;
  foreign_slot = λ is. by_call _ _ (λ right. no_seat right.takes) (λ none. none) is.moves.1.0;
  foreign_gains = λ is. by_call _ _ (λ right. by_call _ _ (λ own. no_mint own.made) (λ invited. let n : 2 ≡ 0 = invited.brand_is in omega (arith, n)) right.takes) (λ none. none) is.moves.1.0;
  foreign_losses = λ is. by_call _ _ (λ right. no_mint right.gives.made) (λ none. none) is.moves.1.0;
  other_invitation = λ is. by_call _ _ (λ right. by_call _ _ (λ own. let k = own.asked.target.kind_is in cc) (λ invited. let n : 1 ≡ 0 = invited.brand_is in omega (arith, n)) right.takes) (λ none. none) is.moves.1.0;
  payment_again = λ is. by_call _ _ (λ right. let le : 3 ≤ 2 = right.gives in omega (arith, le)) (λ none. none) is.moves.1.1.1.0;
  purse = λ is. by_call _ _ (λ right. right.takes) (λ none. none) is.moves.1.0;
  named_in_call = λ is. nowhere is.names.calls.0.arguments.0;
  named_in_result = λ is. nowhere is.names.result_given;
  named_in_state = λ is. nowhere is.names.state.0;
  other_due = λ is. let e : 0 ≡ 1 = is.moves.1.0.1.from_slot in omega (arith, e);
  other_asked = λ is. by_call _ _ (λ none. none) (λ left. let n : 1 ≡ 0 = left.0.target.number_is in omega (arith, n)) is.moves.1.0;
}
