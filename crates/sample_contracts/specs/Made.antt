-- How contracts see what is made for a line.
use Rattle.std.specs.Prelude.{◌≡◌, ◌++◌, ℕ, List, Result, IfOk, OnOk, String, string_bytes}
use Rattle.std.specs.declared.alloc.AllocError.{AllocError}
use Rattle.std.specs.declared.alloc.Global.{Global}
use Rattle.serde_json.specs.Data as json
use Rattle.serde_json.specs.View.{view}
use Rattle.serde_json.specs.declared.value.Value.{Value}
use Rattle.sample_contracts.specs.Demo.{Draw, Side}
use Rattle.sample_contracts.specs.declared.demo.Draw.{Draw as MadeDraw}
use Rattle.sample_contracts.specs.declared.demo.Side.{Side as MadeSide}

-- ---- where there was memory for it

abbrev pub IsJson : Result Value AllocError → json.Data → Type 0
IsJson made d = IfOk made (λ v. view v ≡ d)

abbrev pub IsText : Result (String Global) AllocError → List ℕ → Type 0
IsText made bytes = IfOk made (λ text. string_bytes text ≡ bytes)

-- the bytes stand behind those of the text
abbrev pub Adds : Result (Unit {0}) AllocError → String Global → String Global → List ℕ → Type 0
Adds result old new bytes = OnOk result (string_bytes new ≡ string_bytes old ++ bytes)

-- ---- amounts

abbrev pub draw_view : MadeDraw → Draw
draw_view d = record { gives = d.gives; wants = d.wants; pays = d.pays }

abbrev pub side_view : MadeSide → Side
side_view s = record { keyword = s.keyword.now; brand = s.brand.now; number = s.number }
