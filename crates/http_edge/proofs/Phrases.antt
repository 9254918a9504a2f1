-- How long the phrases of statuses are.
use Rattle.std.proofs.Common.{◌≡◌, ◌==◌, ◌≤◌, ℕ, List, [], length, nat_le, Option, None, Some, option_map, unwrap_or, Bool, true, false, refl}
use Rattle.std.specs.Borrow.{Bor}
use Rattle.std.proofs.lemmas.Bool.{leb-true}
use Rattle.http.specs.StatusCode.{reason_phrase}

abbrev content : Bor (List ℕ) → List ℕ
content text = text.now

data IsShort : Option (List ℕ) → Type 0 where
  short : (o : Option (List ℕ)) → nat_le (length (unwrap_or o [])) 31 ≡ true → IsShort o

cases : {P : Type 0} (b : Bool) → (b ≡ true → P) → (b ≡ false → P) → P
cases true f g = f refl
cases false f g = g refl

short_phrase : (n : ℕ) → IsShort (reason_phrase n)
short_phrase n =
    cases (n == 100) (λ e. rw e (short _ refl)) (λ e. rw e (cases (n == 101) (λ e. rw e (short _ refl)) (λ e. rw e (cases (n == 102) (λ e. rw e (short _ refl)) (λ e. rw e (
    cases (n == 103) (λ e. rw e (short _ refl)) (λ e. rw e (cases (n == 200) (λ e. rw e (short _ refl)) (λ e. rw e (cases (n == 201) (λ e. rw e (short _ refl)) (λ e. rw e (
    cases (n == 202) (λ e. rw e (short _ refl)) (λ e. rw e (cases (n == 203) (λ e. rw e (short _ refl)) (λ e. rw e (cases (n == 204) (λ e. rw e (short _ refl)) (λ e. rw e (
    cases (n == 205) (λ e. rw e (short _ refl)) (λ e. rw e (cases (n == 206) (λ e. rw e (short _ refl)) (λ e. rw e (cases (n == 207) (λ e. rw e (short _ refl)) (λ e. rw e (
    cases (n == 208) (λ e. rw e (short _ refl)) (λ e. rw e (cases (n == 226) (λ e. rw e (short _ refl)) (λ e. rw e (cases (n == 300) (λ e. rw e (short _ refl)) (λ e. rw e (
    cases (n == 301) (λ e. rw e (short _ refl)) (λ e. rw e (cases (n == 302) (λ e. rw e (short _ refl)) (λ e. rw e (cases (n == 303) (λ e. rw e (short _ refl)) (λ e. rw e (
    cases (n == 304) (λ e. rw e (short _ refl)) (λ e. rw e (cases (n == 305) (λ e. rw e (short _ refl)) (λ e. rw e (cases (n == 307) (λ e. rw e (short _ refl)) (λ e. rw e (
    cases (n == 308) (λ e. rw e (short _ refl)) (λ e. rw e (cases (n == 400) (λ e. rw e (short _ refl)) (λ e. rw e (cases (n == 401) (λ e. rw e (short _ refl)) (λ e. rw e (
    cases (n == 402) (λ e. rw e (short _ refl)) (λ e. rw e (cases (n == 403) (λ e. rw e (short _ refl)) (λ e. rw e (cases (n == 404) (λ e. rw e (short _ refl)) (λ e. rw e (
    cases (n == 405) (λ e. rw e (short _ refl)) (λ e. rw e (cases (n == 406) (λ e. rw e (short _ refl)) (λ e. rw e (cases (n == 407) (λ e. rw e (short _ refl)) (λ e. rw e (
    cases (n == 408) (λ e. rw e (short _ refl)) (λ e. rw e (cases (n == 409) (λ e. rw e (short _ refl)) (λ e. rw e (cases (n == 410) (λ e. rw e (short _ refl)) (λ e. rw e (
    cases (n == 411) (λ e. rw e (short _ refl)) (λ e. rw e (cases (n == 412) (λ e. rw e (short _ refl)) (λ e. rw e (cases (n == 413) (λ e. rw e (short _ refl)) (λ e. rw e (
    cases (n == 414) (λ e. rw e (short _ refl)) (λ e. rw e (cases (n == 415) (λ e. rw e (short _ refl)) (λ e. rw e (cases (n == 416) (λ e. rw e (short _ refl)) (λ e. rw e (
    cases (n == 417) (λ e. rw e (short _ refl)) (λ e. rw e (cases (n == 418) (λ e. rw e (short _ refl)) (λ e. rw e (cases (n == 421) (λ e. rw e (short _ refl)) (λ e. rw e (
    cases (n == 422) (λ e. rw e (short _ refl)) (λ e. rw e (cases (n == 423) (λ e. rw e (short _ refl)) (λ e. rw e (cases (n == 424) (λ e. rw e (short _ refl)) (λ e. rw e (
    cases (n == 425) (λ e. rw e (short _ refl)) (λ e. rw e (cases (n == 426) (λ e. rw e (short _ refl)) (λ e. rw e (cases (n == 428) (λ e. rw e (short _ refl)) (λ e. rw e (
    cases (n == 429) (λ e. rw e (short _ refl)) (λ e. rw e (cases (n == 431) (λ e. rw e (short _ refl)) (λ e. rw e (cases (n == 451) (λ e. rw e (short _ refl)) (λ e. rw e (
    cases (n == 500) (λ e. rw e (short _ refl)) (λ e. rw e (cases (n == 501) (λ e. rw e (short _ refl)) (λ e. rw e (cases (n == 502) (λ e. rw e (short _ refl)) (λ e. rw e (
    cases (n == 503) (λ e. rw e (short _ refl)) (λ e. rw e (cases (n == 504) (λ e. rw e (short _ refl)) (λ e. rw e (cases (n == 505) (λ e. rw e (short _ refl)) (λ e. rw e (
    cases (n == 506) (λ e. rw e (short _ refl)) (λ e. rw e (cases (n == 507) (λ e. rw e (short _ refl)) (λ e. rw e (cases (n == 508) (λ e. rw e (short _ refl)) (λ e. rw e (
    cases (n == 510) (λ e. rw e (short _ refl)) (λ e. rw e (cases (n == 511) (λ e. rw e (short _ refl)) (λ e. rw e (short None refl))))))))))))))))))))))))))))))))))))))))))))))))))))))))))))))))))))))))))))))))))))))))))))))))))))))))))))))))))))))))))))

bound : (o : Option (List ℕ)) → IsShort o → length (unwrap_or o []) ≤ 31
bound o (short p e) = leb-true (length (unwrap_or o [])) 31 e

of_text : (o : Option (Bor (List ℕ))) (d : Bor (List ℕ)) → d.now ≡ [] → (unwrap_or o d).now ≡ unwrap_or (option_map content o) []
of_text None d e = e
of_text (Some x) d e = refl

pub is_short : (n : ℕ) (o : Option (Bor (List ℕ))) (d r : Bor (List ℕ)) → option_map content o ≡ reason_phrase n → r ≡ unwrap_or o d → d.now ≡ [] → length r.now ≤ 31
is_short n o d r e f h = rw (f, of_text o d h, e) (bound (reason_phrase n) (short_phrase n))
