-- Faults of values, sums and parts as the refusals that they are told by.
use Rattle.host_data.specs.amount_math.declared.PutFault.{PutFault}
use Rattle.host_data.specs.amount_math.declared.PutFault.TheVariants as put_fault
use Rattle.host_data.specs.amount_math.declared.kinds.MakeFault.{MakeFault}
use Rattle.host_data.specs.amount_math.declared.kinds.MakeFault.TheVariants as make_fault
use Rattle.refusals.specs.Codes.{bad_value, too_much}
use Rattle.refusals.specs.declared.codes.Refusal.TheVariants.{Overlap}
use Rattle.refusals.specs.declared.stops.Stop.{Stop}
use Rattle.refusals.specs.declared.stops.Stop.TheVariants.{NoMemory, Refused}

-- why data is read as no value
abbrev pub make_told : MakeFault → Stop
make_told make_fault.BadValue = Refused bad_value
make_told make_fault.NoMemory = NoMemory

-- why a value isn't added to another
abbrev pub put_told : PutFault → Stop
put_told (put_fault.Overlap key) = Refused (Overlap key)
put_told (put_fault.TooMuch over) = Refused (too_much over.sum over.bound)
put_told put_fault.NoMemory = NoMemory
