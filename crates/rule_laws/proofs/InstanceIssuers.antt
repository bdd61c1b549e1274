-- The rules of calls for issuers are good.
use Rattle.std.specs.Prelude.{is_none, nat_lt}
use Rattle.std.proofs.Common.{◌≡◌, ℕ, ◌<◌, List, [], ◌∷◌, ◌++◌, length, None, Some, Ok, IfOk, codes, refl, sym, ◌∙◌, ap, arith}
use Rattle.std.proofs.lemmas.Bool.{ltb-true}
use Rattle.world_laws.specs.amount_math.declared.Kind.{Kind}
use Rattle.world_laws.specs.brands.Brands.{brand_of}
use Rattle.world_laws.specs.brands.IssuerRecords.{brand_under, most_issuers}
use Rattle.world_laws.specs.host_data.Values.{brand_tree, object_tree}
use Rattle.world_laws.specs.host_data.Tree.{Tree, field, fields, no_fields, text}
use Rattle.world_laws.specs.host_data.declared.data.ObjKind.TheVariants as kinds
use Rattle.world_laws.proofs.lemmas.ListEdits.{length_push, read_pushed}
use Rattle.world_laws.proofs.refusals.Steps.{after_check, after_known, after_step, need_holds}
use Rattle.world_laws.specs.refusals.Outcomes.{reading}
use Rattle.world_laws.specs.world_state.Known.{IsBrand, IsFormed, IsMadeBy}
use Rattle.world_laws.specs.world_state.Worlds.{State, of_host, of_instance}
use Rattle.rules.specs.Obligations.{CanCall}
use Rattle.rule_laws.proofs.Forms.{null_formed, object_formed}
use Rattle.rule_laws.proofs.Next.{after_next_of}
use Rattle.rule_laws.proofs.Reading.{reads}
use Rattle.rule_laws.specs.GoodContracts.{IsGoodCall, numbered}
use Rattle.rules.specs.Given.{issuers_of}
use Rattle.rules.specs.Zcf.{assert_unique_keyword, get_asset_kind, get_brand_for_issuer, get_issuer_for_brand, is_free, keeps_more, make_zcf_mint, save_issuer}
use Rattle.rules.specs.Zmint.{get_issuer_record}
use Rattle.rule_laws.proofs.Read.{brand_made, issuer_made, keyword_given, none_there}

-- ---- what is kept

free_there : (w : State) (i : ℕ) (k : List ℕ) → is_free w i k ≡ Ok tt → brand_under k (issuers_of w i) ≡ None
unfolding is_free
free_there w i k is = none_there (brand_under k (issuers_of w i)) (need_holds (is_none (brand_under k (issuers_of w i))) _ tt is)

more_there : (w : State) (i : ℕ) → keeps_more w i ≡ Ok tt → length (issuers_of w i) < most_issuers
unfolding keeps_more
more_there w i is = ltb-true (length (issuers_of w i)) most_issuers (need_holds (nat_lt (length (issuers_of w i)) most_issuers) _ tt is)

-- the next brand was made by the instance
next_made : (w : State) (i n : ℕ) → n ≡ i → length w.makers ≡ length w.brands → IsMadeBy (w.makers ++ of_instance n ∷ []) (of_instance i) (length w.brands)
next_made w i n own made_by = record {
  made = omega (arith, made_by, length_push w.makers (of_instance n));
  is = read_pushed w.makers (of_instance n) of_host (length w.brands) (sym made_by) ∙ ap of_instance own;
}

pub make_mint_is : IsGoodCall kinds.Zcf (codes "makeZCFMint") make_zcf_mint
unfolding make_zcf_mint
make_mint_is w i n args can =
    after_check _ _ _ (after_step _ _ _ (λ keyword is. after_known _ _ _ (λ free. after_step _ _ _ (λ kind read. after_known _ _ _ (λ more. after_next_of _ _ _ _ (λ few. record {
      good = (
        record { few = few; made = omega (arith, can.hosted, can.target) },
        (
          record {
            made = omega (arith, can.hosted, can.target);
            issuer_is = record {
              made = omega (arith, length_push w.brands (brand_of keyword kind));
              named = keyword_given 1 args keyword is;
            };
            free = free_there w n keyword free;
            few = more_there w n more;
          },
          tt,
        ),
      );
      known = object_formed _ (Some i) _ (next_made w i n can.target can.good.brands.made_by);
      leaves = refl;
      opens = refl;
      licensed = tt;
      stored = tt;
      acts = (ap of_instance can.target, (ap Some (sym can.target), tt));
      calls = omega arith;
    }))))))

-- a brand with its issuer, that were made
record_formed : (v : State) (i : ℕ) (kind : Kind) (brand : ℕ) → IsBrand v.brands kind brand → IsFormed v (Some i) (fields (field (codes "brand") (brand_tree kind brand) (field (codes "issuer") (object_tree kinds.Issuer brand) no_fields)))
record_formed v i kind brand is = record {
  objects = (tt, (is, (is.made, tt)));
  functions = (tt, (tt, (tt, tt)));
  named = ((refl, (refl, tt)), (tt, (tt, tt)));
  ordered = ((refl, (tt, tt)), (tt, (tt, tt)));
  shallow = (omega arith, (tt, (tt, tt)));
}

pub save_is : IsGoodCall kinds.Zcf (codes "saveIssuer") save_issuer
unfolding save_issuer
save_is w i n args can =
    after_check _ _ _ (after_step _ _ _ (λ brand at. after_step _ _ _ (λ keyword is. after_known _ _ _ (λ free. after_known _ _ _ (λ more.
    let made : brand < length w.brands = issuer_made w i 1 args brand (can.arguments 1) at in
    record {
      good = (
        record {
          made = omega (arith, can.hosted, can.target);
          issuer_is = record { made = made; named = keyword_given 2 args keyword is };
          free = free_there w n keyword free;
          few = more_there w n more;
        },
        tt,
      );
      known = record_formed _ i _ brand (record { made = made; kind_is = refl });
      leaves = refl;
      opens = refl;
      licensed = tt;
      stored = tt;
      acts = (ap Some (sym can.target), tt);
      calls = omega arith;
    })))))

-- ---- what is asked

brand_formed : (w : State) (i n : ℕ) (args : List Tree) → CanCall w (Some i) (numbered kinds.Zcf n) args → IfOk (get_brand_for_issuer w n args) (IsFormed w (Some i))
unfolding get_brand_for_issuer
brand_formed w i n args can =
    after_step _ _ _ (λ brand at. after_check _ _ _ (object_formed w (Some i) _ (record {
      made = issuer_made w i 1 args brand (can.arguments 1) at;
      kind_is = refl;
    })))

pub brand_is : IsGoodCall kinds.Zcf (codes "getBrandForIssuer") (λ w n args. reading (get_brand_for_issuer w n args))
brand_is w i n args can = reads w (Some i) _ (codes "getBrandForIssuer") args (get_brand_for_issuer w n args) refl refl (brand_formed w i n args can)

issuer_formed : (w : State) (i n : ℕ) (args : List Tree) → CanCall w (Some i) (numbered kinds.Zcf n) args → IfOk (get_issuer_for_brand w n args) (IsFormed w (Some i))
unfolding get_issuer_for_brand
issuer_formed w i n args can =
    after_step _ _ _ (λ brand at. after_check _ _ _ (object_formed w (Some i) _ (brand_made w i 1 args brand (can.arguments 1) at)))

pub issuer_is : IsGoodCall kinds.Zcf (codes "getIssuerForBrand") (λ w n args. reading (get_issuer_for_brand w n args))
issuer_is w i n args can = reads w (Some i) _ (codes "getIssuerForBrand") args (get_issuer_for_brand w n args) refl refl (issuer_formed w i n args can)

text_formed : (w : State) (i : ℕ) (t : List ℕ) → IsFormed w (Some i) (text t)
text_formed w i t = record { objects = tt; functions = tt; named = tt; ordered = tt; shallow = tt }

kind_formed : (w : State) (i : ℕ) (args : List Tree) → IfOk (get_asset_kind w args) (IsFormed w (Some i))
unfolding get_asset_kind
kind_formed w i args = after_step _ _ _ (λ brand at. text_formed w i _)

pub kind_is : IsGoodCall kinds.Zcf (codes "getAssetKind") (λ w n args. reading (get_asset_kind w args))
kind_is w i n args can = reads w (Some i) _ (codes "getAssetKind") args (get_asset_kind w args) refl refl (kind_formed w i args)

unique_formed : (w : State) (i n : ℕ) (args : List Tree) → IfOk (assert_unique_keyword w n args) (IsFormed w (Some i))
unfolding assert_unique_keyword
unique_formed w i n args = after_step _ _ _ (λ keyword is. after_check _ _ _ (null_formed w (Some i)))

pub unique_is : IsGoodCall kinds.Zcf (codes "assertUniqueKeyword") (λ w n args. reading (assert_unique_keyword w n args))
unique_is w i n args can = reads w (Some i) _ (codes "assertUniqueKeyword") args (assert_unique_keyword w n args) refl refl (unique_formed w i n args)

own_formed : (w : State) (i n : ℕ) (args : List Tree) → CanCall w (Some i) (numbered kinds.Zmint n) args → IfOk (get_issuer_record w n) (IsFormed w (Some i))
unfolding get_issuer_record
own_formed w i n args can = record_formed w i _ n (record {
  made = omega (arith, can.target.made, can.good.brands.made_by);
  kind_is = refl;
})

pub own_is : IsGoodCall kinds.Zmint (codes "getIssuerRecord") (λ w n args. reading (get_issuer_record w n))
own_is w i n args can = reads w (Some i) _ (codes "getIssuerRecord") args (get_issuer_record w n) refl refl (own_formed w i n args can)
