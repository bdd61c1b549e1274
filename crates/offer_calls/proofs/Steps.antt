-- The readings of a proposal and of payments are their steps, one after another.
use Rattle.std.proofs.Common.{◌≡◌, ℕ, List, Result, Ok, Err, codes, refl, sym, ap, ◌∙◌}
use Rattle.rules.specs.brands.declared.issuer_record.Issuer.{Issuer}
use Rattle.refusals.specs.host_data.Amounts.{read_all}
use Rattle.call_arguments.specs.Exits.{exit_in}
use Rattle.refusals.specs.host_data.Tree.{Tree}
use Rattle.rules.specs.proposals.declared.allocations.Share.{Share}
use Rattle.call_arguments.specs.Records.{ShareData, keywords, names}
use Rattle.refusals.specs.Codes.{bad_exit, bad_value, keyword_mismatch}
use Rattle.refusals.specs.Outcomes.{bind, none_such, wanted}
use Rattle.refusals.specs.declared.codes.Refusal.{Refusal}
use Rattle.rules.specs.Zoe.{paid}
use Rattle.rules.specs.Proposals.{least_alone, part, proposed, valued}
use Rattle.rules.specs.world_state.Worlds.{State}
use Rattle.offer_calls.specs.PaymentSteps.{are_paid, paid_by}
use Rattle.offer_calls.specs.ProposalSteps.{Given, can_stand, given, proposed_by, read_by, rule_of, standing, valued_share, with_give}
use Rattle.offer_calls.proofs.Values.{valued_each}

-- ---- chains

bind_ok : {A B : Type 0} (x : A) (f : A → Result B Refusal) → bind (Ok x) f ≡ f x
unfolding bind
bind_ok x f = refl

bind_same : {A B : Type 0} (r : Result A Refusal) (f g : A → Result B Refusal) → ((x : A) → f x ≡ g x) → bind r f ≡ bind r g
unfolding bind
bind_same (Ok x) f g same = same x
bind_same (Err e) f g same = refl

bind_bind : {A B C : Type 0} (r : Result A Refusal) (f : A → Result B Refusal) (g : B → Result C Refusal) → bind (bind r f) g ≡ bind r (λ x. bind (f x) g)
unfolding bind
bind_bind (Ok x) f g = refl
bind_bind (Err e) f g = refl

-- ---- the steps

valued_same : {B : Type 0} (shares : List ShareData) (f : List Share → Result B Refusal) → bind (wanted (read_all valued_share shares) bad_value) f ≡ bind (valued shares) f
valued_same shares f = ap (λ r. bind r f) (sym (valued_each shares))

-- what is proposed by what was given, as one chain
proposed_chain : (g : Given) (rule : Tree) → proposed_by g rule ≡ bind (valued g.give) (λ gives. bind (valued g.want) (λ wants. bind (wanted (exit_in rule) bad_exit) (λ exit. bind (none_such (least_alone (keywords g.give) (names g.payments)) keyword_mismatch) (λ _. Ok (record { proposal = record { give = gives; want = wants; exit = exit }; payments = g.payments })))))
unfolding proposed_by rule_of
proposed_chain g rule =
    valued_same g.give _ ∙ bind_same _ _ _ (λ gives.
    valued_same g.want _ ∙ bind_same _ _ _ (λ wants.
    bind_bind _ _ _ ∙ bind_same _ _ _ (λ exit.
    bind_bind _ _ _ ∙ bind_same _ _ _ (λ none_alone. bind_ok _ _))))

pub proposed_steps : (issuers : List Issuer) (proposal payments : Tree) → read_by issuers proposal payments ≡ proposed issuers proposal payments
unfolding proposed read_by standing given with_give can_stand
proposed_steps issuers proposal payments =
    bind_bind _ _ _ ∙ bind_same _ _ _ (λ parts.
    bind_bind _ _ _ ∙ bind_same _ _ _ (λ give.
    bind_bind _ _ _ ∙ bind_same _ _ _ (λ want.
    bind_bind _ _ _ ∙ bind_same _ _ _ (λ fields.
    bind_ok _ _ ∙ bind_bind _ _ _ ∙ bind_same _ _ _ (λ give_named.
    bind_bind _ _ _ ∙ bind_same _ _ _ (λ want_named.
    bind_bind _ _ _ ∙ bind_same _ _ _ (λ none_shared.
    bind_same _ _ _ (λ known.
    proposed_chain (record { give = give; want = want; payments = fields }) (part (codes "exit") proposal)))))))))

pub paid_steps : (w : State) (invitation : ℕ) (give : List Share) (given : List (List ℕ × Tree)) → paid_by w invitation give given ≡ paid w invitation give given
unfolding paid_by paid are_paid
paid_steps w invitation give given =
    bind_same _ _ _ (λ payments.
    bind_bind _ _ _ ∙ bind_same _ _ _ (λ live.
    bind_bind _ _ _ ∙ bind_same _ _ _ (λ once. refl)))
