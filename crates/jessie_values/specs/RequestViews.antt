-- What the arguments of `when` and `Far` stand for.
use Rattle.host_data.specs.View.{tree}
use Rattle.jessie_values.specs.declared.requests.WhenArguments.{WhenArguments}
use Rattle.jessie_values.specs.declared.requests.FarArguments.{FarArguments}
use Rattle.jessie_values.specs.Requests.{FarCall, WhenCall}

abbrev pub when_view : WhenArguments → WhenCall
when_view a = record { promise = a.promise; function = a.function; held = tree a.held }

abbrev pub far_view : FarArguments → FarCall
far_view a = record { name = a.name; methods = a.methods.items; held = tree a.held }
