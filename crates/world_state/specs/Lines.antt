-- What lines of parties bring: names that no instance has, and data whose records stand in order.
use Rattle.std.specs.Prelude.{◌≡◌, ◌==◌, ◌<◌, ◌+◌, ℕ, true, false, List, codes}
use Rattle.std.specs.Cmp.Lexicographic.{slice_cmp}
use Rattle.std.specs.List.{starts_with}
use Rattle.std.specs.Ordering.{nat_cmp}
use Rattle.std.specs.declared.cmp.Ordering.TheVariants.{Less}
use Rattle.vault_model.specs.host_text.Words.{is_field_name}
use Rattle.turn_records.specs.Messages.{FieldParts, LineCall, LineGift, Part, Parts}
use Rattle.turn_records.specs.Messages.{array, field, fields, no_fields, no_parts}
use Rattle.turn_records.specs.Messages.{part}

-- no instance has the name
abbrev pub IsOfNoInstance : List ℕ → Type 0
IsOfNoInstance s = starts_with (λ m n. m == n) s (codes "instance") ≡ false

-- a name stands before the first field, in byte order
abbrev pub IsBefore : List ℕ → FieldParts → Type 0
IsBefore name no_fields = Unit {0}
IsBefore name (field next t fs) = slice_cmp nat_cmp name next ≡ Less

-- data with paths, at a depth: its fields have names of their form, stand in order, and it nests
-- at most 32 deep
abbrev mutual
  pub IsFormedPart : ℕ → Part → Type 0
  IsFormedPart n (array ts) = (n < 32) × AreFormedParts (n + 1) ts
  IsFormedPart n (fields fs) = (n < 32) × AreFormedFields (n + 1) fs
  IsFormedPart n _ = Unit {0}

  pub AreFormedParts : ℕ → Parts → Type 0
  AreFormedParts n no_parts = Unit {0}
  AreFormedParts n (part t ts) = IsFormedPart n t × AreFormedParts n ts

  pub AreFormedFields : ℕ → FieldParts → Type 0
  AreFormedFields n no_fields = Unit {0}
  AreFormedFields n (field name t fs) =
      (is_field_name name ≡ true) × IsBefore name fs × IsFormedPart n t × AreFormedFields n fs

pub record IsFormedCall (c : LineCall) : Type 0 where
  pub by : IsOfNoInstance c.by
  pub arguments : AreFormedParts 0 c.arguments

pub record IsFormedGift (g : LineGift) : Type 0 where
  pub by : IsOfNoInstance g.by
  pub to : IsOfNoInstance g.to
