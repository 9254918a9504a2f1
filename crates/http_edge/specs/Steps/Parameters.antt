-- The parameters of a query as the program has them.
use Rattle.std.specs.Prelude.{ℕ, List, if◌then◌else◌}
use Rattle.std.specs.Cow.{cow_str_bytes}
use Rattle.std.specs.Str.{bytes_eq}
use Rattle.http_edge.specs.Values.{Values, absent, single, several}
use Rattle.http_edge.specs.declared.parameters.Parameter.{Parameter}
use Rattle.http_edge.specs.declared.parameters.ParameterValue.{ParameterValue}
use Rattle.http_edge.specs.declared.parameters.ParameterValue.TheVariants.{Absent, Single, Several}
use Rattle.http_edge.specs.Steps.Values.{with_value}

abbrev pub pair_of : Parameter → List ℕ × List ℕ
pair_of parameter = (cow_str_bytes parameter.name, cow_str_bytes parameter.value)

abbrev pub found_values : ParameterValue → Values
found_values Absent = absent
found_values (Single text) = single text.now
found_values Several = several

-- one more pair
abbrev pub with_pair : Values → List ℕ × List ℕ → List ℕ → Values
with_pair found pair name = if bytes_eq pair.0 name then with_value found pair.1 else found
