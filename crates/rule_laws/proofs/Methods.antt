-- Each call follows a good rule, whatever its target, method and arguments: those of the host's own objects, and those
-- of a contract's functions.
use Rattle.std.proofs.Common.{ℕ, List, None, Some}
use Rattle.world_laws.specs.host_data.Tree.{Tree}
use Rattle.world_laws.specs.host_data.declared.data.ObjKind.{ObjKind}
use Rattle.world_laws.specs.host_data.declared.data.ObjKind.TheVariants as kinds
use Rattle.world_laws.specs.world_state.Worlds.{State}
use Rattle.rules.specs.Obligations.{CanCall, IsGoodOutcome}
use Rattle.rules.specs.Zoe.{ReadsModules, TextReader}
use Rattle.rules.specs.Methods.{of_kind, of_own_kind, serve, serve_own}
use Rattle.rule_laws.specs.GoodServices.{AreGoodServices, numbered}
use Rattle.rule_laws.proofs.Issuer.{issuers_are}
use Rattle.rule_laws.proofs.Deposit.{deposits_are}
use Rattle.rule_laws.proofs.Purse.{purses_are}
use Rattle.rule_laws.proofs.Ertp.{ertp_is}
use Rattle.rule_laws.proofs.Brand.{brands_are}
use Rattle.rule_laws.proofs.Mint.{mints_are}
use Rattle.rule_laws.proofs.Payment.{payments_are}
use Rattle.rule_laws.proofs.Seat.{seats_are}
use Rattle.rule_laws.proofs.Timer.{timer_is}
use Rattle.rule_laws.specs.GoodContracts.{AreGoodContractCalls}
use Rattle.rule_laws.proofs.Zseat.{zseat_is}
use Rattle.rule_laws.proofs.Zcf.{zcf_is}
use Rattle.rule_laws.proofs.Zmint.{zmint_is}
use Rattle.rule_laws.proofs.Zoe.{zoe_is}

-- ---- calls of the host's own objects

module _ (read : TextReader) (gives : ReadsModules read) where
  module _ (w : State) (n : ℕ) (m : List ℕ) (args : List Tree) where
    kind_is : (kind : ObjKind) → CanCall w None (numbered kind n) args → IsGoodOutcome w None (numbered kind n) m args (of_kind read w kind n m args)
    kind_is kinds.Ertp can = ertp_is w n m args can
    kind_is kinds.Zoe can = zoe_is read gives w n m args can
    kind_is kinds.Timer can = timer_is w n m args can
    kind_is (kinds.Brand kind) can = brands_are kind w n m args can
    kind_is kinds.Issuer can = issuers_are w n m args can
    kind_is kinds.Mint can = mints_are w n m args can
    kind_is kinds.Purse can = purses_are w n m args can
    kind_is kinds.Deposit can = deposits_are w n m args can
    kind_is kinds.Payment can = payments_are w n m args can
    kind_is kinds.Seat can = seats_are w n m args can
    kind_is _ can = tt

  pub services_are : AreGoodServices (serve read)
  unfolding serve
  services_are w o m args can = kind_is w o.number m args o.kind can

-- ---- calls of a contract's functions

module _ (w : State) (i n : ℕ) (m : List ℕ) (args : List Tree) where
  own_kind_is : (kind : ObjKind) → CanCall w (Some i) (numbered kind n) args → IsGoodOutcome w (Some i) (numbered kind n) m args (of_own_kind w kind n m args)
  own_kind_is kinds.Zcf can = zcf_is w i n m args can
  own_kind_is kinds.Zseat can = zseat_is w i n m args can
  own_kind_is kinds.Zmint can = zmint_is w i n m args can
  own_kind_is _ can = tt

pub calls_are : AreGoodContractCalls serve_own
unfolding serve_own
calls_are w i o m args can = own_kind_is w i o.number m args o.kind can
