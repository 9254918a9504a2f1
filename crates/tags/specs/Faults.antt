-- What a function returned.
use Rattle.std.specs.Prelude.{Result, Ok, Err}

-- the same refusal, or f of what was returned
abbrev pub result_map : {A B E : Type 0} → (A → B) → Result A E → Result B E
result_map f (Ok x) = Ok (f x)
result_map f (Err e) = Err e
