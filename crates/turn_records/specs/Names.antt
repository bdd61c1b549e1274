-- The names of objects, as a journal prints them.
use Rattle.std.specs.Prelude.{ℕ, List, ◌++◌, Bool, true, false, if◌then◌else◌, codes, decimal}
use Rattle.refusals.specs.host_data.declared.data.Obj.{Obj}
use Rattle.refusals.specs.host_data.declared.data.ObjKind.{ObjKind}
use Rattle.refusals.specs.host_data.declared.data.ObjKind.TheVariants.{Ertp, Zoe, Timer, Brand, Issuer, Mint, Purse, Deposit, Payment, Installation, Instance, Zcf, Seat, Zseat, Zmint, Facet, Promise}
use Rattle.turn_rows.specs.Form.{brands_end, objects_end}

abbrev pub word_of : ObjKind → List ℕ
word_of Ertp = codes "ertp"
word_of Zoe = codes "zoe"
word_of Timer = codes "timer"
word_of (Brand kind) = codes "brand"
word_of Issuer = codes "issuer"
word_of Mint = codes "mint"
word_of Purse = codes "purse"
word_of Deposit = codes "deposit"
word_of Payment = codes "payment"
word_of Installation = codes "installation"
word_of Instance = codes "instance"
word_of Zcf = codes "zcf"
word_of Seat = codes "seat"
word_of Zseat = codes "zseat"
word_of Zmint = codes "zmint"
word_of Facet = codes "facet"
word_of Promise = codes "promise"

-- there is one object alone of these kinds
abbrev pub is_single : ObjKind → Bool
is_single Ertp = true
is_single Zoe = true
is_single Timer = true
is_single _ = false

-- `ertp`, `brand1`, `purse0`
unfoldable pub object_name : Obj → List ℕ
object_name o = if is_single o.kind then word_of o.kind else word_of o.kind ++ decimal o.number

-- below which the numbers of a kind stay: a brand, its issuer and its mints have the brand's number
abbrev pub numbers_end : ObjKind → ℕ
numbers_end (Brand kind) = brands_end
numbers_end Issuer = brands_end
numbers_end Mint = brands_end
numbers_end Zmint = brands_end
numbers_end _ = objects_end
