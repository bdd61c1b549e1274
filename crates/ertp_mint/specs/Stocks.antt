-- What a store of one holder has: an amount of its brand.
use Rattle.std.specs.Prelude.{ℕ}
use Rattle.amount_math.specs.Content.{nothing}
use Rattle.amount_math.specs.declared.Amount.{Amount}
use Rattle.amount_math.specs.declared.Kind.{Kind}
use Rattle.amount_math.specs.declared.Kind.TheVariants.{Nat}

-- a brand's amount that has nothing
abbrev pub empty_amount : ℕ → Kind → Amount
empty_amount brand kind = record { brand = brand; value = record { kind = kind; content = nothing } }

-- what is read where no store was made
abbrev pub no_amount : Amount
no_amount = empty_amount 0 Nat

-- the most objects of a kind, each with a number of 32 bits
abbrev pub most_made : ℕ
most_made = 4294967295
