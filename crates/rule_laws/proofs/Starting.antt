-- The rules of installing a contract and of starting an instance are good.
use Rattle.std.proofs.Common.{◌≡◌, ℕ, ◌<◌, true, List, length, None, Result, Ok, Err, codes, refl, ap, arith}
use Rattle.std.proofs.lemmas.Bool.{false≢true, leb-true}
use Rattle.world_laws.specs.brands.IssuerRecords.{most_issuers}
use Rattle.rules.proofs.call_arguments.Made.{read_made}
use Rattle.rules.specs.call_arguments.Arguments.{arg, is_kind, object_at, object_in}
use Rattle.world_laws.specs.host_data.Tree.{Tree}
use Rattle.world_laws.specs.host_data.declared.data.ObjKind.{ObjKind}
use Rattle.world_laws.specs.host_data.declared.data.ObjKind.TheVariants as kinds
use Rattle.world_laws.proofs.lemmas.ListEdits.{length_push}
use Rattle.world_laws.proofs.refusals.Steps.{after_need, after_step, ok_has, wanted_there}
use Rattle.rules.specs.jessie_grammar.declared.syntax.Module.{Module}
use Rattle.world_laws.specs.world_state.Good.{IsModule}
use Rattle.world_laws.specs.world_state.Known.{IsFormed, ObjectKnown, made_as}
use Rattle.world_laws.specs.world_state.Worlds.{State}
use Rattle.rule_laws.proofs.Forms.{object_formed}
use Rattle.rule_laws.proofs.Next.{after_next_of}
use Rattle.rules.specs.Zoe.{ReadsModules, TextReader, install, module_in, start_instance}
use Rattle.rule_laws.specs.GoodServices.{IsGoodMethod}
use Rattle.rule_laws.proofs.StartIssuers.{AreGiven, issuers_are}
use Rattle.rule_laws.proofs.Terms.{terms_bare, terms_handed}

read_module : (read : TextReader) → ReadsModules read → (bytes : List ℕ) (m : Module) → module_in (read bytes) ≡ Ok m → IsModule m
read_module read reads bytes m is = by (read bytes) (reads.each bytes m) is
  where
    by : (r : Result Module (ℕ × List ℕ)) → (r ≡ Ok m → IsModule m) → module_in r ≡ Ok m → IsModule m
    by (Ok k) to e = let same : k ≡ m = cc in to (ap Ok same)
    by (Err f) to e = absurd (cc)

pub install_is : (read : TextReader) → ReadsModules read → IsGoodMethod kinds.Zoe (codes "install") (λ w n args. install read w args)
unfolding install
install_is read gives w n args can = after_step _ _ _ (λ bytes given. after_step _ _ _ (λ m reads. after_next_of _ _ _ _ (λ room. record {
  good = (record { «module» = read_module read gives bytes m reads; room = room }, tt);
  known = object_formed _ None _ (omega (arith, length_push w.tables.installations m));
  leaves = refl;
  opens = refl;
  licensed = tt;
  stored = tt;
  acts = (refl, tt);
  calls = omega arith;
})))

-- ---- an instance is started

installation_below : (w : State) (k : ObjKind) (n : ℕ) → is_kind kinds.Installation k ≡ true → made_as w k n → n < length w.tables.installations
installation_below w kinds.Installation n is made = made
installation_below w _ n is made = absurd (false≢true is)

installation_made : (w : State) (place : ℕ) (args : List Tree) (n : ℕ) → IsFormed w None (arg place args) → object_at kinds.Installation place args ≡ Ok n → n < length w.tables.installations
unfolding object_at
installation_made w place args n formed is =
    read_made (ObjectKnown None w) kinds.Installation (length w.tables.installations) (λ o. installation_below w o.kind o.number) 0 (arg place args) formed.objects n
    (wanted_there (object_in kinds.Installation (arg place args)) _ n is)

pub start_is : IsGoodMethod kinds.Zoe (codes "startInstance") (λ w n args. start_instance w args)
unfolding start_instance
start_is w n args can = after_step _ _ _ (λ installation is. after_step _ _ _ (λ issuers reads. after_need _ _ _ _ (λ terms. after_need _ _ _ _ (λ few. after_next_of _ _ _ _ (λ instances. after_next_of _ _ _ _ (λ promises.
    let given : AreGiven w issuers = ok_has _ _ issuers reads (issuers_are w 2 args (can.arguments 2)) in
    record {
      good = (
        record {
          installed = installation_made w 1 args installation (can.arguments 1) is;
          issuers = given.each;
          apart = record { few = leb-true (length issuers) most_issuers few; apart = given.apart };
          terms = terms_handed w (arg 3 args) (can.arguments 3) terms;
          bare = terms_bare (arg 3 args) terms;
          arguments = can.arguments 4;
          instances = instances;
          promises = promises;
        },
        tt,
      );
      known = object_formed _ None _ (omega (arith, length_push w.promises.settled None));
      leaves = refl;
      opens = refl;
      licensed = tt;
      stored = tt;
      acts = (refl, tt);
      calls = omega arith;
    }))))))
