-- Reading escapes, a run of plain bytes at a time.
use Rattle.std.proofs.Common.{◌≡◌, ◌∙◌, ◌==◌, ℕ, Bool, true, false, List, [], ◌∷◌, ◌++◌, drop, Option, Some, None, is_some, option_map, option_and_then, refl, ap, sym, arith, append_assoc}
use Rattle.std.proofs.lemmas.Bool.Decides.{nat_tests}
use Rattle.tags.specs.Around.{around, longer}
use Rattle.tags.specs.Bytes.{backslash, letter_x}
use Rattle.tags.specs.Escapes.{onto, decoded, after_backslash, after_x, letter_value, hex_value}
use Rattle.tags.specs.Steps.Escapes.{escape_at}

-- bytes in front of what is read of the rest
abbrev pub front : List ℕ → Option (List ℕ) → Option (List ℕ)
front bs rest = option_map (λ cs. bs ++ cs) rest

-- plain bytes, and what follows the first backslash
abbrev pub by_run : List ℕ → Option (List ℕ × List ℕ) → Option (List ℕ)
by_run bs None = Some bs
by_run bs (Some p) = front p.0 (after_backslash p.1)

onto-front : (b : ℕ) (bs : List ℕ) (o : Option (List ℕ)) → onto b (front bs o) ≡ front (b ∷ bs) o
onto-front b bs None = refl
onto-front b bs (Some cs) = refl

onto-by_run : (b : ℕ) (bs : List ℕ) (o : Option (List ℕ × List ℕ)) → onto b (by_run bs o) ≡ by_run (b ∷ bs) (option_map (longer b) o)
onto-by_run b bs None = refl
onto-by_run b bs (Some p) = onto-front b p.0 (after_backslash p.1)

front-nil : (o : Option (List ℕ)) → front [] o ≡ o
front-nil None = refl
front-nil (Some bs) = refl

run_by : (b : ℕ) (bs : List ℕ) (t : Bool) → (b == backslash) ≡ t → decoded bs ≡ by_run bs (around backslash bs) → decoded (b ∷ bs) ≡ by_run (b ∷ bs) (around backslash (b ∷ bs))
unfolding decoded around
run_by b bs true e ih = rw (e) (sym (front-nil (after_backslash bs)))
run_by b bs false e ih = rw (e, ih) (onto-by_run b bs (around backslash bs))

pub decoded-run : (bs : List ℕ) → decoded bs ≡ by_run bs (around backslash bs)
unfolding decoded around
decoded-run [] = refl
decoded-run (b ∷ bs) = run_by b bs (b == backslash) refl (decoded-run bs)

-- what follows a backslash, by the escape at the front
abbrev pub by_escape : List ℕ → Option (ℕ × ℕ) → Option (List ℕ)
by_escape bs e = option_and_then (λ x. onto x.0 (decoded (drop x.1 bs))) e

letter-escape : (bs rest : List ℕ) (o : Option ℕ) → drop 1 bs ≡ rest → option_and_then (λ v. onto v (decoded rest)) o ≡ by_escape bs (option_map (λ v. (v, 1)) o)
letter-escape bs rest None e = refl
letter-escape bs rest (Some v) e = rw e refl

hex-escape : (bs rest : List ℕ) (o : Option ℕ) → drop 3 bs ≡ rest → option_and_then (λ v. onto v (decoded rest)) o ≡ by_escape bs (option_map (λ v. (v, 3)) o)
hex-escape bs rest None e = refl
hex-escape bs rest (Some v) e = rw e refl

no_letter_x : (c : ℕ) → (c == letter_x) ≡ true → letter_value c ≡ None
unfolding letter_value
no_letter_x c e = let x : c ≡ letter_x = grind (arith, nat_tests) in rw x refl

short_by : (c : ℕ) (cs : List ℕ) (t : Bool) → (c == letter_x) ≡ t → after_x cs ≡ None → escape_at (c ∷ cs) ≡ option_map (λ v. (v, 1)) (letter_value c) → after_backslash (c ∷ cs) ≡ by_escape (c ∷ cs) (escape_at (c ∷ cs))
unfolding decoded
short_by c cs true e none at = rw (at, no_letter_x c e, e, none) refl
short_by c cs false e none at = rw (at, e) (letter-escape (c ∷ cs) cs (letter_value c) refl)

long_by : (c d h : ℕ) (bs : List ℕ) (t : Bool) → (c == letter_x) ≡ t → after_backslash (c ∷ d ∷ h ∷ bs) ≡ by_escape (c ∷ d ∷ h ∷ bs) (escape_at (c ∷ d ∷ h ∷ bs))
unfolding decoded escape_at
long_by c d h bs true e = rw e (hex-escape (c ∷ d ∷ h ∷ bs) bs (hex_value d h) refl)
long_by c d h bs false e = rw e (letter-escape (c ∷ d ∷ h ∷ bs) (d ∷ h ∷ bs) (letter_value c) refl)

pub after_backslash-escape : (bs : List ℕ) → after_backslash bs ≡ by_escape bs (escape_at bs)
unfolding decoded escape_at
after_backslash-escape [] = refl
after_backslash-escape (c ∷ []) = short_by c [] (c == letter_x) refl refl refl
after_backslash-escape (c ∷ d ∷ []) = short_by c (d ∷ []) (c == letter_x) refl refl refl
after_backslash-escape (c ∷ d ∷ e ∷ bs) = long_by c d e bs (c == letter_x) refl

front-onto : (xs : List ℕ) (b : ℕ) (o : Option (List ℕ)) → front xs (onto b o) ≡ front (xs ++ b ∷ []) o
front-onto xs b None = refl
front-onto xs b (Some cs) = ap Some (sym (append_assoc xs (b ∷ []) cs))

front-front : (xs ys : List ℕ) (o : Option (List ℕ)) → front xs (front ys o) ≡ front (xs ++ ys) o
front-front xs ys None = refl
front-front xs ys (Some cs) = ap Some (sym (append_assoc xs ys cs))

-- the value so far, a run, an escape, and the rest
pub decoded-step : (value rest before escape : List ℕ) (byte len : ℕ) → around backslash rest ≡ Some (before, escape) → escape_at escape ≡ Some (byte, len) → front ((value ++ before) ++ byte ∷ []) (decoded (drop len escape)) ≡ front value (decoded rest)
decoded-step value rest before escape byte len a e =
    let run : decoded rest ≡ front before (after_backslash escape) = decoded-run rest ∙ ap (by_run rest) a in
    let one : after_backslash escape ≡ onto byte (decoded (drop len escape)) = after_backslash-escape escape ∙ ap (by_escape escape) e in
    rw (run, one) (sym (front-onto (value ++ before) byte (decoded (drop len escape))) ∙ sym (front-front value before (onto byte (decoded (drop len escape)))))

pub decoded-stop : (value rest before escape : List ℕ) → around backslash rest ≡ Some (before, escape) → escape_at escape ≡ None → front value (decoded rest) ≡ None
decoded-stop value rest before escape a e =
    let run : decoded rest ≡ front before (after_backslash escape) = decoded-run rest ∙ ap (by_run rest) a in
    let one : after_backslash escape ≡ None = after_backslash-escape escape ∙ ap (by_escape escape) e in
    rw (run, one) refl

pub decoded-end : (value rest : List ℕ) → around backslash rest ≡ None → front value (decoded rest) ≡ Some (value ++ rest)
decoded-end value rest a = let run : decoded rest ≡ Some rest = decoded-run rest ∙ ap (by_run rest) a in rw run refl

-- ---- whether there is a text

is_some-front : (bs : List ℕ) (o : Option (List ℕ)) → is_some (front bs o) ≡ is_some o
is_some-front bs None = refl
is_some-front bs (Some cs) = refl

pub decodable-step : (rest before escape : List ℕ) (byte len : ℕ) → around backslash rest ≡ Some (before, escape) → escape_at escape ≡ Some (byte, len) → is_some (decoded (drop len escape)) ≡ is_some (decoded rest)
decodable-step rest before escape byte len a e =
    sym (is_some-front (([] ++ before) ++ byte ∷ []) (decoded (drop len escape)))
    ∙ ap is_some (decoded-step [] rest before escape byte len a e)
    ∙ is_some-front [] (decoded rest)

pub decodable-stop : (rest before escape : List ℕ) → around backslash rest ≡ Some (before, escape) → escape_at escape ≡ None → is_some (decoded rest) ≡ false
decodable-stop rest before escape a e = sym (is_some-front [] (decoded rest)) ∙ ap is_some (decoded-stop [] rest before escape a e)

pub decodable-end : (rest : List ℕ) → around backslash rest ≡ None → is_some (decoded rest) ≡ true
decodable-end rest a = sym (is_some-front [] (decoded rest)) ∙ ap is_some (decoded-end [] rest a)
