-- Brands have numbers of 16 bits.
use Rattle.std.specs.Prelude.{◌<◌, ◌^◌}
use Rattle.rules.specs.call_arguments.declared.records.GivenShare.{GivenShare}

abbrev pub HasSmallBrand : GivenShare → Type 0
HasSmallBrand r = r.amount.brand < 2 ^ 16
