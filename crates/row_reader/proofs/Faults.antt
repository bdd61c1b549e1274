-- What a fault that is handed on says of the whole.
use Rattle.std.proofs.Common.{◌≡◌, Result, Ok, Err, Option, Some, None, Bool, true, false, Bor, is_some, option_map, List, ℕ, refl, sym, ap, ◌∙◌}
use Rattle.std.specs.Prelude.{IsErrAnd}
use Rattle.std.specs.Str.{bytes_eq}
use Rattle.std.proofs.lemmas.Slice.Eq.{bytes_eq-Decides}
use Rattle.serde_json.specs.Data.{Data}
use Rattle.serde_json.specs.View.{view}
use Rattle.serde_json.specs.declared.value.Value.{Value}
use Rattle.row_reader.specs.Reads.{Reads, WhenBad}
use Rattle.row_reader.specs.declared.fault.RowFault.{RowFault}
use Rattle.row_reader.specs.declared.fault.RowFault.TheVariants.{BadRow, NoMemory}

pub passes : {A B D : Type 0} (json : A → D) (Form : A → Type 0) (view : B → A) (d : D) (r : Result B RowFault) (e : RowFault) (P : Type 0) → IsErrAnd r (λ x. x ≡ e) → WhenBad e P
    → (P → (x : A) → Form x → json x ≡ d → ⊥) → Reads json Form view d r
passes json Form view d (Ok y) e P h bad f = absurd h
passes json Form view d (Err BadRow) BadRow P h bad f = f bad
passes json Form view d (Err BadRow) NoMemory P h bad f = absurd (cc)
passes json Form view d (Err NoMemory) e P h bad f = tt

-- ---- tests

pub there : (o : Option (Bor Value)) (b : Bool) → option_map (λ v. view v.now) o ≡ None → b ≡ is_some o → b ≡ true → ⊥
there None b gone is holds = absurd (cc)
there (Some v) b gone is holds = absurd (cc)

pub not_there : (o : Option (Bor Value)) (b : Bool) → b ≡ is_some o → b ≡ false → option_map (λ v. view v.now) o ≡ None
not_there None b is fails = refl
not_there (Some v) b is fails = absurd (cc)

pub other_text : (s t : List ℕ) (b : Bool) → b ≡ bytes_eq s t → b ≡ false → t ≡ s → ⊥
other_text s t b is fails same = let holds : bytes_eq s t ≡ true = (bytes_eq-Decides s t).1 (sym same) in absurd (cc)
