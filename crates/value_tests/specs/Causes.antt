-- Why a test of a sum is refused, by the faults that a sum has.
use Rattle.std.specs.Prelude.{◌≡◌, ◌≢◌, ◌↔◌, ℕ, List, Result, Ok, Err}
use Rattle.refusals.specs.amount_math.Content.{Content}
use Rattle.refusals.specs.amount_math.ValueView.{IsFirstPast, IsCountRefusal, IsPutRefusal, with_content}
use Rattle.refusals.specs.amount_math.declared.Kind.{Kind}
use Rattle.refusals.specs.amount_math.declared.Kind.TheVariants.{Set}
use Rattle.refusals.specs.amount_math.declared.PutFault.{PutFault}
use Rattle.refusals.specs.Told.{put_told}
use Rattle.transit.specs.ertp_mint.BrandSupply.{BrandSupply, IsMintRefusal}
use Rattle.refusals.specs.declared.codes.Refusal.{Refusal}
use Rattle.refusals.specs.declared.codes.Refusal.TheVariants.{Overlap}
use Rattle.refusals.specs.declared.stops.Stop.TheVariants.{Refused}

-- the refusal tells a fault that keeps a sum from being a value of the kind
abbrev pub IsPutCause : Kind → Content → Refusal → Type 0
IsPutCause kind c r = (fault : PutFault) × IsPutRefusal kind c fault × (put_told fault ≡ Refused r)

-- the refusal tells a fault that keeps values from being out together
abbrev pub IsCountCause : Kind → Content → Refusal → Type 0
IsCountCause kind c r = (fault : PutFault) × IsCountRefusal kind c fault × (put_told fault ≡ Refused r)

-- the refusal tells a fault that keeps a content from being issued
abbrev pub IsMintCause : BrandSupply → Content → Refusal → Type 0
IsMintCause s c r =
    (fault : PutFault) × IsMintRefusal s (with_content s.outstanding c) fault × (put_told fault ≡ Refused r)

-- the refusal tells the first key that two sets have in common
abbrev pub IsOverlapCause : Kind → Content → Refusal → Type 0
IsOverlapCause kind c r = (key : List ℕ) × (kind ≡ Set) × IsFirstPast 1 c key × (r ≡ Overlap key)

-- ---- exactly where

-- a test passes where this holds, and nowhere else
abbrev pub PassesExactly : Result (Unit {0}) Refusal → Type 0 → Type 0
PassesExactly test holds = (test ≡ Ok tt) ↔ holds

-- and is refused for a cause that it has, and for each
abbrev pub FailsExactly : Result (Unit {0}) Refusal → (Refusal → Type 0) → Type 0
FailsExactly test cause = (r : Refusal) → (test ≡ Err r) ↔ cause r

-- it is refused, but for no key in common
abbrev pub ShowsNoOverlap : Result (Unit {0}) Refusal → Type 0
ShowsNoOverlap test = (key : List ℕ) → test ≢ Err (Overlap key)
