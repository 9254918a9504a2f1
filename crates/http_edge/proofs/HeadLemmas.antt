-- Where the head ends, step by step, and what it says.
use Rattle.std.proofs.Common.{◌≡◌, ℕ, ◌+◌, ◌-◌, ◌<◌, ◌≤◌, inl, Bool, true, false, List, [], ◌∷◌, length, take, drop, map, get_or, Option, Some, None, Result, option_map, refl, sym, ◌∙◌, ap, arith, suc, codes, add-one, min}
use Rattle.std.proofs.lemmas.List.{length-take, length-map, drop_all, drop-take, take-take}
use Rattle.std.specs.Prelude.{slice_range}
use Rattle.std.proofs.Math.Seq.{drop-cons}
use Rattle.std.proofs.lemmas.Grind.{common_steps}
use Rattle.httparse.specs.Grammar.{RequestHead, ReadsRequest}
use Rattle.httparse.specs.Spans.{header_bytes, span_bytes, IsRequestAt, IsRequestWithin}
use Rattle.httparse.specs.declared.spans.HeaderSpan.{HeaderSpan}
use Rattle.httparse.specs.declared.spans.RequestSpans.{RequestSpans}
use Rattle.http_edge.specs.Fields.{body_length}
use Rattle.http_edge.specs.Heads.{same, is_end, find_head, HeadValue, rejected, with_length, IsSaidBy, Says, SettlesHead, IsHeadUnended}
use Rattle.http_edge.specs.Limits.{head_limit}
use Rattle.http_edge.specs.Steps.Heads.{head_value, FitsIn}
use Rattle.http_edge.specs.declared.head.Head.{Head}
use Rattle.http_edge.specs.declared.head.Head.TheVariants.{Refused, Request}
use Rattle.http_edge.specs.declared.refusal.Refusal.{Refusal}
use Rattle.http_edge.specs.declared.refusal.Refusal.TheVariants.{HeadTooLarge}
use Rattle.http_edge.proofs.Ends.{find_head-within}

shift : (o : Option ℕ) (i : ℕ) → option_map (λ n. i + n) (option_map (λ n. suc n) o) ≡ option_map (λ n. suc i + n) o
shift None i = refl
shift (Some n) i = ap Some (omega arith)

-- no head ends here
pub found_later : (xs : List ℕ) (i : ℕ) → i < length xs → is_end (drop i xs) ≡ false
    → option_map (λ n. i + n) (find_head (drop i xs)) ≡ option_map (λ n. i + 1 + n) (find_head (drop (i + 1) xs))
unfolding find_head
found_later xs i h not_yet =
    let split = drop-cons xs i 0 h in
    let no' : is_end (get_or xs i 0 ∷ drop (suc i) xs) ≡ false = rw split at not_yet in
    rw (split, no', add-one) (shift (find_head (drop (suc i) xs)) i)

pub found_here : (xs : List ℕ) (i : ℕ) → i < length xs → is_end (drop i xs) ≡ true → option_map (λ n. i + n) (find_head (drop i xs)) ≡ Some (i + 4)
unfolding find_head
found_here xs i h here =
    let split = drop-cons xs i 0 h in
    let yes' : is_end (get_or xs i 0 ∷ drop (suc i) xs) ≡ true = rw split at here in
    rw (split, yes') refl

pub found_none : (xs : List ℕ) (i : ℕ) → length xs ≤ i → option_map (λ n. i + n) (find_head (drop i xs)) ≡ None
unfolding find_head
found_none xs i h = let e : drop i xs ≡ [] = grind (arith, common_steps) in rw e refl

front_is : (xs : List ℕ) (k m : ℕ) → m ≡ min (length xs) k → take m xs ≡ take k xs
front_is xs k m e = rw e (grind (arith, common_steps))

front_short : (xs : List ℕ) (k : ℕ) → length xs < k → take k xs ≡ xs
front_short xs k h = grind (arith, common_steps)

pub head_limit_is : head_limit ≡ 8192
unfolding head_limit
head_limit_is = refl

range_in_front : (bytes : List ℕ) (n a b : ℕ) → a ≤ b → b ≤ n → slice_range (take n bytes) a b ≡ slice_range bytes a b
range_in_front bytes n a b le within =
    let split : n ≡ a + (n - a) = omega arith in
    let front : drop a (take n bytes) ≡ take (n - a) (drop a bytes) = ap (λ k. drop a (take k bytes)) split ∙ drop-take a (n - a) bytes in
    rw front (take-take (b - a) (n - a) (drop a bytes) (omega arith))

-- what a head says, of the head alone or of what begins with it
value_in_front : (bytes : List ℕ) (n : ℕ) (head : Head) → FitsIn n head → head_value (take n bytes) head ≡ head_value bytes head
value_in_front bytes n (Refused refusal) fits = refl
value_in_front bytes n (Request line len) fits =
    rw (range_in_front bytes n line.method.start line.method.end fits.0.0 fits.0.1, range_in_front bytes n line.target.start line.target.end fits.1.0 fits.1.1) refl

fits_more : (n m : ℕ) (head : Head) → n ≤ m → FitsIn n head → FitsIn m head
fits_more n m (Refused refusal) le fits = tt
fits_more n m (Request line len) le fits =
    let method = fits.0.1 in
    let target = fits.1.1 in ((fits.0.0, omega arith), (fits.1.0, omega arith))

pub found_fits : (bytes : List ℕ) (m n : ℕ) → Some n ≡ find_head (take m bytes) → n ≡ length (take n bytes)
found_fits bytes m n found =
    let fits = find_head-within (take m bytes) n (sym found) in
    let long = length-take m bytes in
    let here = length-take n bytes in omega arith

pub found_fits_more : (bytes : List ℕ) (m n : ℕ) (head : Head) → Some n ≡ find_head (take m bytes) → FitsIn (length (take n bytes)) head → FitsIn (length bytes) head
found_fits_more bytes m n head found fits =
    let here = length-take n bytes in fits_more (length (take n bytes)) (length bytes) head (omega arith) fits

-- a head that is found in the front settles it
pub settles_found : (bytes : List ℕ) (m n : ℕ) (head : Head) → m ≡ min (length bytes) head_limit → Some n ≡ find_head (take m bytes)
    → Says (take n bytes) (head_value (take n bytes) head) → FitsIn (length (take n bytes)) head
    → (n ≤ length bytes) × SettlesHead bytes (head_value bytes head) (drop n bytes)
unfolding SettlesHead
settles_found bytes m n head e found said fits =
    let here : find_head (take head_limit bytes) ≡ Some n = ap find_head (sym (front_is bytes head_limit m e)) ∙ sym found in
    let within = find_head-within (take head_limit bytes) n here in
    let long = length-take head_limit bytes in
    let same_value = value_in_front bytes n head (rw (← found_fits bytes m n found) at fits) in
    (omega arith, rw here (rw same_value at said, refl))

pub settles_long : (bytes : List ℕ) (m : ℕ) → m ≡ min (length bytes) head_limit → None ≡ find_head (take m bytes) → head_limit ≤ length bytes
    → SettlesHead bytes (rejected HeadTooLarge) bytes
unfolding SettlesHead
settles_long bytes m e none long =
    let here : find_head (take head_limit bytes) ≡ None = ap find_head (sym (front_is bytes head_limit m e)) ∙ sym none in
    rw here (long, refl, refl)

pub head_unended : (bytes : List ℕ) (m : ℕ) → m ≡ min (length bytes) head_limit → None ≡ find_head (take m bytes) → length bytes < head_limit → IsHeadUnended bytes
head_unended bytes m e none short =
    let whole = front_is bytes head_limit m e ∙ front_short bytes head_limit short in
    (short, ap find_head (sym whole) ∙ sym none)

-- what the parser found is what the head says
pub said : (head : List ℕ) (headers : List HeaderSpan) (spans : RequestSpans) (h : RequestHead) (method : List ℕ) (is_put : Bool) (length_said : Result ℕ Refusal) (value : HeadValue)
    → IsRequestAt head headers spans h → IsRequestWithin head headers spans → length headers ≡ 32 → spans.len ≡ length head
    → method ≡ span_bytes head spans.method → is_put ≡ same method (codes "PUT")
    → length_said ≡ body_length is_put (map (header_bytes head) (take spans.headers headers))
    → value ≡ with_length (span_bytes head spans.method) (span_bytes head spans.path) length_said → IsSaidBy head value
said head headers spans h method is_put length_said value at within room whole em ep el ev =
    let done : drop spans.len head ≡ [] = drop_all spans.len head (omega (arith, whole)) in
    let reads : ReadsRequest head h [] = rw done at at.reads in
    let count = ap length at.fields in
    let taken = length-take spans.headers headers in
    let same_count : length (take spans.headers headers) ≡ length h.fields = rw (length-map, length-map) at count in
    let few : length h.fields ≤ 32 = omega (arith, room) in
    inl (h, (reads, few), rw (ev, el, ep, em, at.fields, at.method, at.path) refl)
