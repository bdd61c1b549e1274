-- What an offer proposes, as it was read, and the payments that are given for it.
use Rattle.std.specs.Prelude.{find, option_and_then, unwrap_or, ◌||◌}
use Rattle.std.specs.List.{AllByRecursion}
use Rattle.std.specs.Str.{bytes_eq}
use Rattle.std.proofs.Common.{◌≡◌, ℕ, Bool, true, false, cond, List, [], ◌∷◌, Option, Some, None, Ok, IfOk, codes, refl, sym, subst, ◌∙◌}
use Rattle.std.proofs.lemmas.Bool.{false≢true}
use Rattle.world_laws.specs.brands.declared.issuer_record.Issuer.{Issuer}
use Rattle.world_laws.specs.host_data.Amounts.{read_all}
use Rattle.world_laws.specs.host_data.Nodes.{ObjectIs}
use Rattle.rules.specs.call_arguments.Exits.{exit_in}
use Rattle.world_laws.specs.host_data.Tree as trees
use Rattle.world_laws.specs.host_data.Tree.{Tree, field_of, paired}
use Rattle.rules.specs.proposals.Shares.{amount_under}
use Rattle.rules.specs.proposals.declared.allocations.Share.{Share}
use Rattle.rules.specs.call_arguments.Records.{ShareData, first_ill, keywords, names, share_in}
use Rattle.world_laws.proofs.refusals.Steps.{after_need, after_none_such, after_step, after_wanted}
use Rattle.rules.specs.Proposals.{Proposed, amounts_of, first_shared, is_among, least_alone, part, proposed, valued}
use Rattle.rules.specs.Words.{record_in}
use Rattle.world_laws.specs.world_state.Good.{IsRule}
use Rattle.world_laws.specs.world_state.Known.{IsFormed, ObjectKnown}
use Rattle.world_laws.specs.world_state.Worlds.{State}
use Rattle.rule_laws.proofs.Forms.{field_formed, null_formed}
use Rattle.rule_laws.proofs.Records.{fields_each, fields_in, fields_ordered, record_is}
use Rattle.rule_laws.proofs.SharesRead.{AreRead, Rising, keywords_are, record_read, rising_names, share_names, some_has}
use Rattle.rule_laws.proofs.ExitRules.{exit_read}
use Rattle.rule_laws.proofs.PaidShares.{same_where_none_alone}

-- ---- shares that share no keyword

not_shared : (ks others : List (List ℕ)) → first_shared ks others ≡ None → AllByRecursion (λ (k : List ℕ). is_among others k ≡ false) ks
unfolding first_shared
not_shared [] others none = tt
not_shared (k ∷ ks) others none = by (is_among others k) refl (not_shared ks others) none
  where
    by : (b : Bool) → is_among others k ≡ b → (find (is_among others) ks ≡ None → AllByRecursion (λ (q : List ℕ). is_among others q ≡ false) ks) → cond b (Some k) (find (is_among others) ks) ≡ None → AllByRecursion (λ (q : List ℕ). is_among others q ≡ false) (k ∷ ks)
    by true e later at = absurd (cc)
    by false e later at = (e, later at)

none_among : (k : List ℕ) (shares : List Share) → is_among (share_names shares) k ≡ false → amount_under k shares ≡ None
none_among k [] is = refl
none_among k (r ∷ rs) is = by (bytes_eq k r.keyword) (none_among k rs) is
  where
    by : (b : Bool) → (is_among (share_names rs) k ≡ false → amount_under k rs ≡ None) → (b || is_among (share_names rs) k) ≡ false → cond b (Some r.amount) (amount_under k rs) ≡ None
    by true later e = absurd (false≢true (sym e))
    by false later e = later e

shares_unshared : (give want : List Share) → AllByRecursion (λ (k : List ℕ). is_among (share_names want) k ≡ false) (share_names give) → AllByRecursion (λ (r : Share). amount_under r.keyword want ≡ None) give
shares_unshared [] want all = tt
shares_unshared (r ∷ rs) want all = (none_among r.keyword want all.0, shares_unshared rs want all.1)

pub unshared : (give want : List Share) → first_shared (share_names give) (share_names want) ≡ None → AllByRecursion (λ (r : Share). amount_under r.keyword want ≡ None) give
unshared give want none = shares_unshared give want (not_shared (share_names give) (share_names want) none)

-- ---- the parts of a proposal

part_formed : (w : State) (name : List ℕ) (t : Tree) → IsFormed w None t → IsFormed w None (part name t)
part_formed w name t is = by (field_of name t) (λ x at. field_formed w None name t x is at)
  where
    by : (o : Option Tree) → ((x : Tree) → o ≡ Some x → IsFormed w None x) → IsFormed w None (unwrap_or o trees.null)
    by (Some x) to = to x refl
    by None to = null_formed w None

-- the amounts that data is read as are those of its fields
amounts_there : (t : Tree) (give : List ShareData) → amounts_of t ≡ Some give → read_all share_in (paired (fields_in t)) ≡ Some give
unfolding amounts_of
amounts_there t give is = by (record_in t) (record_is t) is
  where
    by : (o : Option (List (List ℕ × Tree))) → ((given : List (List ℕ × Tree)) → o ≡ Some given → paired (fields_in t) ≡ given) → option_and_then (read_all share_in) o ≡ Some give → read_all share_in (paired (fields_in t)) ≡ Some give
    by (Some given) to e = subst (λ fs. read_all share_in fs ≡ Some give) (sym (to given refl)) e
    by None to e = absurd (cc)

-- what was read of a proposal: shares of give and of want, and payments, each under the keyword of a share of give
pub record IsProposed (w : State) (payments : Tree) (read : Proposed) : Type 0 where
  pub give_names : List (List ℕ)
  pub want_names : List (List ℕ)
  pub give : AreRead w read.proposal.give give_names
  pub want : AreRead w read.proposal.want want_names
  pub apart : AllByRecursion (λ (r : Share). amount_under r.keyword read.proposal.want ≡ None) read.proposal.give
  pub rule : IsRule read.proposal.exit
  pub given : paired (fields_in payments) ≡ read.payments
  pub as_named : share_names read.proposal.give ≡ names read.payments

module _ (w : State) (issuers : List Issuer) (proposal payments : Tree) (proposal_is : IsFormed w None proposal) (payments_are : IsFormed w None payments) where
  shares_of : (name : List ℕ) (give : List ShareData) (shares : List Share) → amounts_of (part name proposal) ≡ Some give → first_ill (keywords give) ≡ None → valued give ≡ Ok shares → AreRead w shares (names (paired (fields_in (part name proposal))))
  shares_of name give shares reads none is =
      let formed = part_formed w name proposal proposal_is in
      let t = part name proposal in
      record_read w None (fields_in t) give shares (fields_each (ObjectIs (ObjectKnown None w)) t formed.objects) (fields_ordered t formed.ordered) (amounts_there t give reads) none is

  pub proposed_is : IfOk (proposed issuers proposal payments) (IsProposed w payments)
  unfolding proposed
  proposed_is =
      after_need _ _ _ _ (λ parts. after_wanted _ _ _ _ (λ give gives. after_wanted _ _ _ _ (λ want wants. after_wanted _ _ _ _ (λ given at.
      after_none_such _ _ _ _ (λ give_named. after_none_such _ _ _ _ (λ want_named. after_none_such _ _ _ _ (λ none_shared. after_none_such _ _ _ _ (λ known.
      after_step _ _ _ (λ give_shares give_values. after_step _ _ _ (λ want_shares want_values. after_wanted _ _ _ _ (λ exit rule. after_none_such _ _ _ _ (λ none_alone.
      let give_read = shares_of (codes "give") give give_shares gives give_named give_values in
      let want_read = shares_of (codes "want") want want_shares wants want_named want_values in
      let give_keys : share_names give_shares ≡ keywords give = give_read.names_are ∙ sym (keywords_are _ give (amounts_there (part (codes "give") proposal) give gives)) in
      let want_keys : share_names want_shares ≡ keywords want = want_read.names_are ∙ sym (keywords_are _ want (amounts_there (part (codes "want") proposal) want wants)) in
      let same = record_is payments given at in
      record {
        give_names = names (paired (fields_in (part (codes "give") proposal)));
        want_names = names (paired (fields_in (part (codes "want") proposal)));
        give = give_read;
        want = want_read;
        apart = unshared give_shares want_shares (subst (λ ks. first_shared ks (share_names want_shares) ≡ None) (sym give_keys) (subst (λ ks. first_shared (keywords give) ks ≡ None) (sym want_keys) none_shared));
        rule = some_has IsRule (exit_in (part (codes "exit") proposal)) exit rule (exit_read (part (codes "exit") proposal));
        given = same;
        as_named = same_where_none_alone (share_names give_shares) (names given) give_read.rising (subst (λ fs. Rising (names fs)) same (rising_names (fields_in payments) (fields_ordered payments payments_are.ordered)))
            (subst (λ ks. least_alone ks (names given) ≡ None) (sym give_keys) none_alone);
      }))))))))))))
