-- Which rule a call is, by the kind of its target: the table of methods of each kind of object. A party's line and a
-- call that was sent go to the host's own objects; a function of a contract calls what stays with its instance.
use Rattle.std.specs.Prelude.{ℕ, List, Err}
use Rattle.call_arguments.specs.host_data.Tree.{Tree}
use Rattle.call_arguments.specs.host_data.declared.data.Obj.{Obj}
use Rattle.call_arguments.specs.host_data.declared.data.ObjKind.{ObjKind}
use Rattle.call_arguments.specs.host_data.declared.data.ObjKind.TheVariants as kinds
use Rattle.call_arguments.specs.refusals.Codes.{wrong_object}
use Rattle.world_state.specs.Worlds.{State}
use Rattle.rules.specs.Brand.{of_brand}
use Rattle.rules.specs.Deposit.{of_deposit}
use Rattle.rules.specs.Ertp.{of_ertp}
use Rattle.rules.specs.Issuer.{of_issuer}
use Rattle.rules.specs.Mint.{of_mint}
use Rattle.rules.specs.Outcomes.{Outcome}
use Rattle.rules.specs.Payment.{of_payment}
use Rattle.rules.specs.Purse.{of_purse}
use Rattle.rules.specs.Seat.{of_seat}
use Rattle.rules.specs.Timer.{of_timer}
use Rattle.rules.specs.Words.{without_method}
use Rattle.rules.specs.Zcf.{of_zcf}
use Rattle.rules.specs.Zmint.{of_zmint}
use Rattle.rules.specs.Zoe.{TextReader, of_zoe}
use Rattle.rules.specs.Zseat.{of_zseat}

-- ---- calls of the host's own objects

abbrev pub of_kind : TextReader → State → ObjKind → ℕ → List ℕ → List Tree → Outcome
of_kind read w kinds.Ertp n m args = of_ertp w m args
of_kind read w kinds.Zoe n m args = of_zoe read w m args
of_kind read w kinds.Timer n m args = of_timer w m args
of_kind read w (kinds.Brand assets) n m args = of_brand w n m args
of_kind read w kinds.Issuer n m args = of_issuer w n m args
of_kind read w kinds.Mint n m args = of_mint w n m args
of_kind read w kinds.Purse n m args = of_purse w n m args
of_kind read w kinds.Deposit n m args = of_deposit w n m args
of_kind read w kinds.Payment n m args = of_payment w n m args
of_kind read w kinds.Seat n m args = of_seat w n m args
of_kind read w _ n m args = without_method m

-- a call's first refusal, or its answer and effects
unfoldable pub serve : TextReader → State → Obj → List ℕ → List Tree → Outcome
serve read w o m args = of_kind read w o.kind o.number m args

-- ---- calls of a contract's functions

-- what stays with its instance has methods that are called; to any other object a call has to be sent
abbrev pub of_own_kind : State → ObjKind → ℕ → List ℕ → List Tree → Outcome
of_own_kind w kinds.Zcf n m args = of_zcf w n m args
of_own_kind w kinds.Zseat n m args = of_zseat w n m args
of_own_kind w kinds.Zmint n m args = of_zmint w n m args
of_own_kind w _ n m args = Err (wrong_object 0)

-- a call's first refusal, or its answer and effects
unfoldable pub serve_own : State → Obj → List ℕ → List Tree → Outcome
serve_own w o m args = of_own_kind w o.kind o.number m args
