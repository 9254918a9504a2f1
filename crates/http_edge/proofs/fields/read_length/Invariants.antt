use Rattle.std.proofs.Common.{◌≡◌, ◌<◌, ◌^◌, drop}
use Rattle.std.specs.List.{list_all}
use Rattle.std.specs.Char.{is_ascii_digit}
use Rattle.std.specs.Str.Parse.{digits_value, digits_value_after}
use Rattle.http_edge.proofs.fields.read_length.Given as goal

abbrev pub invariant-loop-digit : goal.invariant-loop-digit
invariant-loop-digit l = record {
  value : digits_value_after 10 l.length (drop l.digit-index l.text) ≡ digits_value 10 l.text;
  digits : list_all is_ascii_digit (drop l.digit-index l.text) ≡ list_all is_ascii_digit l.text;
  small : l.length < 10 ^ l.digit-index;
}
