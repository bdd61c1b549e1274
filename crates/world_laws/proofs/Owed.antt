-- What promises are owed stays owed once, pending, and following none.
use Rattle.std.specs.Prelude.{IsSome, is_some, not}
use Rattle.std.specs.List.{AllByRecursion, filter, flat_map}
use Rattle.std.proofs.Common.{◌≡◌, ◌≢◌, ◌⊎◌, inl, inr, ℕ, zero, suc, ◌+◌, ◌<◌, ◌==◌, Bool, true, false, cond, List, [], ◌∷◌, ◌++◌, Some, None, Option, length, map, refl, sym, ◌∙◌, ap, subst, arith, if◌then◌else◌}
use Rattle.std.proofs.lemmas.Bool.{eq-eqb, ne_eqb}
use Rattle.world_state.proofs.lemmas.ListEdits.{length_set, read_other}
use Rattle.world_state.specs.actors.declared.instance_store.seat_promises.SeatPair.{SeatPair}
use Rattle.world_state.specs.promise_store.Linked.{followers, leader}
use Rattle.world_state.specs.promise_store.States.{SettlementView, broken}
use Rattle.world_state.specs.promise_store.declared.links.Following.{Following}
use Rattle.world_state.specs.host_data.Tree.{null}
use Rattle.world_state.specs.turn_records.Deliveries.{Delivery, Notice, notify}
use Rattle.world_state.specs.turn_records.Events.{Event}
use Rattle.world_state.specs.Good.{AreOwed, one_if, owed_answers, owed_notices, owes}
use Rattle.world_state.specs.Promises.{CascadeStep, Flow, IsPending, PromiseBook, Resolved, all_stepped, asks, cascade, flowing, following, notifies, resolving, resolving_to, settlement_at, settles, settling, stepped, target_of}
use Rattle.world_state.specs.Worlds.{Seat}
use Rattle.world_laws.proofs.Lists.{all_append, all_map, all_push}

pub answers-append : (xs ys : List Delivery) (p : ℕ) → owed_answers (xs ++ ys) p ≡ owed_answers xs p + owed_answers ys p
answers-append [] ys p = omega arith
answers-append (x ∷ xs) ys p = omega (arith, answers-append xs ys p)

-- those who are told are owed as before
told-notices : (q : ℕ) (ns : List Notice) (p : ℕ) → owed_answers (map notify (filter (asks q) ns)) p + owed_notices (filter (λ n. not (asks q n)) ns) p ≡ owed_notices ns p
told-notices q [] p = omega arith
told-notices q (n ∷ ns) p = by (asks q n) (told-notices q ns p)
  where
    by : (b : Bool) → owed_answers (map notify (filter (asks q) ns)) p + owed_notices (filter (λ m. not (asks q m)) ns) p ≡ owed_notices ns p
        → owed_answers (map notify (cond b (n ∷ filter (asks q) ns) (filter (asks q) ns))) p + owed_notices (cond (not b) (n ∷ filter (λ m. not (asks q m)) ns) (filter (λ m. not (asks q m)) ns)) p ≡ one_if (n.answer == p) + owed_notices ns p
    by true e = omega (arith, e)
    by false e = omega (arith, e)

abbrev flow_owes : Flow → ℕ → ℕ
flow_owes f p = owed_answers f.waiting p + owed_notices f.requests p

step-owes : (v : SettlementView) (s : CascadeStep) (f : Flow) (p : ℕ) → flow_owes (stepped v s f) p ≡ flow_owes f p
step-owes v (settles q) f p = refl
step-owes v (notifies q) f p = omega (arith, answers-append f.waiting (map notify (filter (asks q) f.requests)) p, told-notices q f.requests p)

steps-owe : (v : SettlementView) (ss : List CascadeStep) (f : Flow) (p : ℕ) → flow_owes (all_stepped v ss f) p ≡ flow_owes f p
steps-owe v [] f p = refl
steps-owe v (s ∷ ss) f p = steps-owe v ss (stepped v s f) p ∙ step-owes v s f p

-- ---- which promises settling one settles

-- it, and promises that follow others
abbrev StepOf : List Following → ℕ → CascadeStep → Type 0
StepOf fs p (settles x) = (x ≡ p) ⊎ IsSome (leader fs x)
StepOf fs p (notifies x) = Unit {0}

leads_still : (f : Following) (fs : List Following) (x : ℕ) → IsSome (leader fs x) → IsSome (leader (f ∷ fs) x)
leads_still f fs x is = elim (f.promise == x) as (λ b. IsSome (cond b (Some f.target) (leader fs x))) [ true ↦ refl | false ↦ is ]

leads_new : (f : Following) (fs : List Following) → IsSome (leader (f ∷ fs) f.promise)
leads_new f fs = subst (λ b. IsSome (cond b (Some f.target) (leader fs f.promise))) (sym (eq-eqb f.promise f.promise refl)) refl

followers_lead : (fs : List Following) (p : ℕ) → AllByRecursion (λ x. IsSome (leader fs x)) (followers fs p)
followers_lead [] p = tt
followers_lead (f ∷ fs) p = by (f.target == p) (all_map (λ x. IsSome (leader fs x)) (λ x. IsSome (leader (f ∷ fs) x)) (leads_still f fs) (followers fs p) (followers_lead fs p))
  where
    by : (b : Bool) → AllByRecursion (λ x. IsSome (leader (f ∷ fs) x)) (followers fs p) → AllByRecursion (λ x. IsSome (leader (f ∷ fs) x)) (if b then followers fs p ++ f.promise ∷ [] else followers fs p)
    by true all = all_push (λ x. IsSome (leader (f ∷ fs) x)) (followers fs p) f.promise all (leads_new f fs)
    by false all = all

below_of : (fs : List Following) (p q : ℕ) → IsSome (leader fs q) → (s : CascadeStep) → StepOf fs q s → StepOf fs p s
below_of fs p q leads (settles x) (inl same) = inr (subst (λ k. IsSome (leader fs k)) (sym same) leads)
below_of fs p q leads (settles x) (inr is) = inr is
below_of fs p q leads (notifies x) is = tt

all_below : (fs : List Following) (p : ℕ) (steps : ℕ → List CascadeStep) → ((q : ℕ) → AllByRecursion (StepOf fs q) (steps q)) → (qs : List ℕ) → AllByRecursion (λ x. IsSome (leader fs x)) qs → AllByRecursion (StepOf fs p) (flat_map steps qs)
all_below fs p steps each [] lead = tt
all_below fs p steps each (q ∷ qs) lead = all_append (StepOf fs p) (steps q) (flat_map steps qs) (all_map (StepOf fs q) (StepOf fs p) (below_of fs p q lead.0) (steps q) (each q)) (all_below fs p steps each qs lead.1)

cascade_of : (n : ℕ) (fs : List Following) (p : ℕ) → AllByRecursion (StepOf fs p) (cascade n fs p)
cascade_of zero fs p = (inl refl, (tt, tt))
cascade_of (suc n) fs p = (inl refl, all_append (StepOf fs p) (flat_map (λ q. cascade n fs q) (followers fs p)) (notifies p ∷ []) (all_below fs p (λ q. cascade n fs q) (λ q. cascade_of n fs q) (followers fs p) (followers_lead fs p)) (tt, tt))

-- another that follows none stays as it is
step_leaves : (fs : List Following) (p q : ℕ) → q ≢ p → leader fs q ≡ None → (v : SettlementView) (s : CascadeStep) (f : Flow) → StepOf fs p s → settlement_at (stepped v s f).settled q ≡ settlement_at f.settled q
step_leaves fs p q other alone v (settles x) f (inl same) = read_other f.settled x q (Some v) (Some (broken null)) (λ e. other (sym e ∙ same))
step_leaves fs p q other alone v (settles x) f (inr leads) = read_other f.settled x q (Some v) (Some (broken null)) (λ e. let is : IsSome (leader fs q) = subst (λ k. IsSome (leader fs k)) e leads in let clash : is_some (leader fs q) ≡ false = ap (λ (o : Option ℕ). is_some o) alone in cc)
step_leaves fs p q other alone v (notifies x) f is = refl

steps_leave : (fs : List Following) (p q : ℕ) → q ≢ p → leader fs q ≡ None → (v : SettlementView) (ss : List CascadeStep) (f : Flow) → AllByRecursion (StepOf fs p) ss → settlement_at (all_stepped v ss f).settled q ≡ settlement_at f.settled q
steps_leave fs p q other alone v [] f all = refl
steps_leave fs p q other alone v (s ∷ ss) f all = steps_leave fs p q other alone v ss (stepped v s f) all.1 ∙ step_leaves fs p q other alone v s f all.0

steps_made : (v : SettlementView) (ss : List CascadeStep) (f : Flow) → length (all_stepped v ss f).settled ≡ length f.settled
steps_made v [] f = refl
steps_made v (settles p ∷ ss) f = steps_made v ss (stepped v (settles p) f) ∙ length_set f.settled p (Some v)
steps_made v (notifies p ∷ ss) f = steps_made v ss (stepped v (notifies p) f)

pub promise_made : (ss : List (Option SettlementView)) (p : ℕ) → settlement_at ss p ≡ None → p < length ss
promise_made [] p is = cc
promise_made (s ∷ ss) zero is = omega arith
promise_made (s ∷ ss) (suc p) is = let lt : p < length ss = promise_made ss p is in omega arith

-- ---- a promise that is owed to none is resolved

module _ (seats : List Seat) (pairs : List SeatPair) (p : ℕ) (b : PromiseBook) (ds : List Delivery) (log : List Event) (is : AreOwed seats pairs ds b) (free : owes seats pairs ds b p ≡ 0) where
  abbrev IsOwedBy : Resolved → Type 0
  IsOwedBy r = AreOwed seats pairs r.waiting r.promises

  not_it : (q : ℕ) → 0 < owes seats pairs ds b q → q ≢ p
  not_it q some same = omega (arith, free, subst (λ k. 0 < owes seats pairs ds b k) same some)

  settling_owed : (v : SettlementView) → IsOwedBy (settling p v b ds log)
  settling_owed v =
      let f = flowing b ds log in
      let ss = cascade (length b.settled) b.follows p in
      let after_owes : (q : ℕ) → owes seats pairs (settling p v b ds log).waiting (settling p v b ds log).promises q ≡ owes seats pairs ds b q = λ q. omega (arith, steps-owe v ss f q) in
      record {
        made = all_map (λ (g : Following). g.promise < length b.settled) (λ (g : Following). g.promise < length (settling p v b ds log).promises.settled) (λ g lt. omega (arith, lt, steps_made v ss f)) b.follows is.made;
        once = λ q. omega (arith, after_owes q, is.once q);
        pending = λ q some.
            let was : 0 < owes seats pairs ds b q = omega (arith, some, after_owes q) in
            let had = is.pending q was in
            record { unsettled = steps_leave b.follows p q (not_it q was) had.alone v ss f (cascade_of (length b.settled) b.follows p) ∙ had.unsettled; alone = had.alone };
      }

  following_owed : IsPending b p → (s : Option SettlementView) (q : ℕ) → IsOwedBy (following s p q b ds log)
  following_owed pends (Some v) q = settling_owed v
  following_owed pends None q = record {
    made = (promise_made b.settled p pends.unsettled, is.made);
    once = is.once;
    pending = λ x some.
        let had = is.pending x some in
        record { unsettled = had.unsettled; alone = ap (λ t. cond t (Some q) (leader b.follows x)) (ne_eqb p x (λ e. not_it x some (sym e))) ∙ had.alone };
  }

  resolving_to_owed : IsPending b p → (t : Option ℕ) (v : SettlementView) → IsOwedBy (resolving_to t p v b ds log)
  resolving_to_owed pends None v = settling_owed v
  resolving_to_owed pends (Some q) v = following_owed pends (settlement_at b.settled q) q

  pub resolving_owed : IsPending b p → (v : SettlementView) → IsOwedBy (resolving p v b ds log)
  resolving_owed pends v = resolving_to_owed pends (target_of v) v
