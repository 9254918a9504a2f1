-- What is sure of the messages.
use Rattle.std.proofs.Common.{◌≡◌, ℕ, ◌+◌, ◌-◌, ◌<◌, inl, inr, Bool, true, false, List, [], ◌∷◌, ◌++◌, length, take, Option, Some, None, refl, sym, ◌∙◌, ap, subst, arith, append_assoc, append-nil, suc, zero, length-append, replicate, drop, option_map}
use Rattle.std.proofs.lemmas.List.{take-append-drop, length-replicate, drop_all}
use Rattle.std.specs.Prelude.{◌&&◌, if◌then◌else◌}
use Rattle.http_edge.specs.Heads.{is_end, find_head, rejected, request_head, SettlesHead}
use Rattle.http_edge.specs.Limits.{head_limit}
use Rattle.http_edge.specs.Messages.{Settles, IsUnended, First, ends, Unless, Requests, IsPrefix, BeginsEach, Sure}
use Rattle.http_edge.specs.Steps.Messages.{SettlesAll}
use Rattle.http_edge.specs.Refusals.{row_of}
use Rattle.http_edge.specs.Requests.{MessageValue, refused, message_of}
use Rattle.http_edge.specs.Steps.Serving.{Gives}
use Rattle.http_edge.specs.Serving.{StopsWell}
use Rattle.http_edge.specs.declared.refusal.Refusal.{Refusal}
use Rattle.http_edge.specs.declared.refusal.Refusal.TheVariants.{BadHead, HeadTooLarge, BodyCut}
use Rattle.http_edge.proofs.Ends.{find_head-append}
use Rattle.http_edge.proofs.MessageLemmas.{head-append, settles-append, settles-unique, decided, unended-unique, empty_head_unended}
use Rattle.http_edge.proofs.RequestLemmas.{message_whole}

true_false : true ≡ false → ⊥
true_false e = cc e

empty_unended : IsUnended [] BadHead
empty_unended = inl (empty_head_unended, refl)

pub settled_some : (xs : List ℕ) (message : MessageValue) (r : List ℕ) → Settles xs message r → xs ≡ [] → ⊥
settled_some xs message r s e = decided [] message r BadHead (subst (λ (l : List ℕ). Settles l message r) e s) empty_unended

-- the first message of an ended input is the settled one
pub cut_settled : (xs : List ℕ) (a b : MessageValue) (r q : List ℕ) → Settles xs a r → First xs b q → (b ≡ a) × (q ≡ r)
cut_settled xs a b r q s cut = elim cut [
  | inl t ↦ settles-unique xs b a q r t s
  | inr u ↦ absurd (decided xs a r u.0 s u.1)
]

-- a chain stays where more follows
pub settled-append : (bytes : List ℕ) (messages : List MessageValue) (rest more : List ℕ) → SettlesAll bytes messages rest → SettlesAll (bytes ++ more) messages (rest ++ more)
settled-append bytes [] rest more c = ap (λ l. l ++ more) c
settled-append bytes (message ∷ messages) rest more c = (c.0 ++ more, settles-append bytes more message c.0 c.1, c.2, settled-append c.0 messages rest more c.3)

pub settled-snoc : (bytes : List ℕ) (messages : List MessageValue) (rest : List ℕ) (message : MessageValue) (next : List ℕ)
    → SettlesAll bytes messages rest → Settles rest message next → ends message ≡ false → SettlesAll bytes (messages ++ message ∷ []) next
settled-snoc bytes [] rest message next c s e = (next, subst (λ (l : List ℕ). Settles l message next) c s, e, refl)
settled-snoc bytes (first ∷ messages) rest message next c s e = (c.0, c.1, c.2, settled-snoc c.0 messages rest message next c.3 s e)

unless_on : (b : Bool) (messages : List MessageValue) (P : Type 0) → b ≡ false → P → Unless b messages P
unless_on true messages P e p = cc e
unless_on false messages P e p = p

unless_off : (b : Bool) (messages : List MessageValue) (P : Type 0) → b ≡ false → Unless b messages P → P
unless_off true messages P e p = cc e
unless_off false messages P e p = p

-- the messages of a chain, and then those of what follows it
pub requests-settled : (limit : ℕ) (bytes : List ℕ) (messages : List MessageValue) (rest : List ℕ) (k : ℕ) (tail : List MessageValue)
    → SettlesAll bytes messages rest → limit ≡ length messages + k → Requests k rest tail → Requests limit bytes (messages ++ tail)
requests-settled limit bytes [] rest k tail c e r =
    let same : limit ≡ k = omega arith in
    rw same (subst (λ (l : List ℕ). Requests k l tail) c r)
requests-settled zero bytes (message ∷ messages) rest k tail c e r = absurd (omega arith)
requests-settled (suc limit) bytes (message ∷ messages) rest k tail c e r =
    (c.0, inl c.1, unless_on (ends message) _ _ c.2 (requests-settled limit c.0 messages rest k tail c.3 (omega arith) r))

-- each input that begins so has these messages first
pub requests-split : (limit : ℕ) (bytes : List ℕ) (messages : List MessageValue) (rest : List ℕ) (k : ℕ) (more : List ℕ) (all : List MessageValue)
    → SettlesAll bytes messages rest → limit ≡ length messages + k → Requests limit (bytes ++ more) all
    → (tail : List MessageValue) × (all ≡ messages ++ tail) × Requests k (rest ++ more) tail
requests-split limit bytes [] rest k more all c e r =
    let same : limit ≡ k = omega arith in
    (all, refl, rw (← same, c) r)
requests-split zero bytes (message ∷ messages) rest k more all c e r = absurd (omega arith)
requests-split (suc limit) bytes (message ∷ messages) rest k more [] c e r =
    absurd (settled_some (bytes ++ more) message (c.0 ++ more) (settles-append bytes more message c.0 c.1) r)
requests-split (suc limit) bytes (message ∷ messages) rest k more (a ∷ all) c e r =
    let s = settles-append bytes more message c.0 c.1 in
    let same = cut_settled (bytes ++ more) message a (c.0 ++ more) r.0 s r.1 in
    let on = unless_off (ends a) all (Requests limit r.0 all) (ap ends same.0 ∙ c.2) r.2 in
    let next = requests-split limit c.0 messages rest k more all c.3 (omega arith) (rw same.1 at on) in
    (next.0, ap (λ l. a ∷ l) next.1 ∙ ap (λ i. i ∷ (messages ++ next.0)) same.0, next.2)

pub begins : (limit : ℕ) (bytes : List ℕ) (messages : List MessageValue) (rest : List ℕ) (k : ℕ) → SettlesAll bytes messages rest → limit ≡ length messages + k → BeginsEach limit bytes messages
begins limit bytes messages rest k c e = λ more all r. let s = requests-split limit bytes messages rest k more all c e r in (s.0, s.1)

-- a list that is all of one such input is the longest
pub longest : (limit : ℕ) (bytes : List ℕ) (messages : List MessageValue) → Requests limit bytes messages → (others : List MessageValue) → BeginsEach limit bytes others → IsPrefix others messages
longest limit bytes messages r others b = b [] messages (rw (append-nil bytes) r)

-- at the limit
pub requests-full : (limit : ℕ) (bytes : List ℕ) (messages : List MessageValue) (rest : List ℕ) → SettlesAll bytes messages rest → length messages ≡ limit → Requests limit bytes messages
requests-full limit bytes messages rest c e =
    let r = requests-settled limit bytes messages rest 0 [] c (omega arith) refl in
    subst (λ (l : List MessageValue). Requests limit bytes l) (append-nil messages) r

pub sure-full : (limit : ℕ) (bytes : List ℕ) (messages : List MessageValue) (rest : List ℕ) → SettlesAll bytes messages rest → length messages ≡ limit → Sure limit bytes messages
sure-full limit bytes messages rest c e =
    (begins limit bytes messages rest 0 c (omega arith), longest limit bytes messages (requests-full limit bytes messages rest c e))

-- at the end of the input
pub requests-ended : (limit : ℕ) (bytes : List ℕ) (messages : List MessageValue) (rest : List ℕ) → SettlesAll bytes messages rest → length messages < limit → rest ≡ [] → Requests limit bytes messages
requests-ended limit bytes messages rest c lt e =
    let k = limit - length messages - 1 in
    let r = requests-settled limit bytes messages rest (suc k) [] c (omega arith) e in
    subst (λ (l : List MessageValue). Requests limit bytes l) (append-nil messages) r

unless_nil : (b : Bool) (P : Type 0) → b ≡ true → Unless b [] P
unless_nil true P e = refl
unless_nil false P e = cc e

unless_is_nil : (b : Bool) (messages : List MessageValue) (P : Type 0) → b ≡ true → Unless b messages P → messages ≡ []
unless_is_nil true messages P e u = u
unless_is_nil false messages P e u = cc e

-- after a message that ends the stream
pub requests-last : (limit : ℕ) (bytes : List ℕ) (messages : List MessageValue) (rest : List ℕ) (message : MessageValue) (next : List ℕ)
    → SettlesAll bytes messages rest → length messages < limit → First rest message next → ends message ≡ true → Requests limit bytes (messages ++ message ∷ [])
requests-last limit bytes messages rest message next c lt cut e =
    requests-settled limit bytes messages rest (suc (limit - length messages - 1)) (message ∷ []) c (omega arith) (next, cut, unless_nil (ends message) _ e)

last_only : (k : ℕ) (rest more : List ℕ) (message : MessageValue) (next : List ℕ) (tail : List MessageValue)
    → Settles rest message next → ends message ≡ true → Requests (suc k) (rest ++ more) tail → tail ≡ message ∷ []
last_only k rest more message next [] s e r = absurd (settled_some (rest ++ more) message (next ++ more) (settles-append rest more message next s) r)
last_only k rest more message next (a ∷ tail) s e r =
    let same = cut_settled (rest ++ more) message a (next ++ more) r.0 (settles-append rest more message next s) r.1 in
    let none = unless_is_nil (ends a) tail (Requests k r.0 tail) (ap ends same.0 ∙ e) r.2 in
    ap (λ i. i ∷ tail) same.0 ∙ ap (λ l. message ∷ l) none

pub sure-last : (limit : ℕ) (bytes : List ℕ) (messages : List MessageValue) (rest : List ℕ) (message : MessageValue) (next : List ℕ)
    → SettlesAll bytes messages rest → length messages < limit → Settles rest message next → ends message ≡ true → Sure limit bytes (messages ++ message ∷ [])
sure-last limit bytes messages rest message next c lt s e =
    let k = limit - length messages - 1 in
    let fits : limit ≡ length messages + suc k = omega arith in (
      (λ more all r.
          let split = requests-split limit bytes messages rest (suc k) more all c fits r in
          let one = last_only k rest more message next split.0 s e split.2 in
          ([], split.1 ∙ ap (λ l. messages ++ l) one ∙ sym (append-nil (messages ++ message ∷ [])))),
      longest limit bytes (messages ++ message ∷ []) (requests-last limit bytes messages rest message next c lt (inl s) e),
    )

unended_ends : (bytes : List ℕ) (refusal : Refusal) → IsUnended bytes refusal → (row_of refusal).ends_stream ≡ true
unended_ends bytes refusal u = elim u [
  | inl h ↦ ap (λ r. (row_of r).ends_stream) h.1
  | inr h ↦ ap (λ r. (row_of r).ends_stream) h.1
]

pub gives_settles : (bytes : List ℕ) (message : MessageValue) (rest : List ℕ) (left : Option (List ℕ)) → Gives bytes message rest left → ends message ≡ false → Settles bytes message rest
gives_settles bytes message rest left given e = elim given [
  | inl s ↦ s
  | inr u ↦ let t : ends message ≡ true = ap ends u.4 ∙ unended_ends bytes u.1 u.2 in absurd (true_false (sym t ∙ e))
]

pub stops-last : (limit : ℕ) (bytes : List ℕ) (messages : List MessageValue) (rest : List ℕ) (message : MessageValue) (next : List ℕ) (left : Option (List ℕ))
    → SettlesAll bytes messages rest → length messages < limit → Gives rest message next left → ends message ≡ true → StopsWell limit bytes (messages ++ message ∷ []) left
stops-last limit bytes messages rest message next left c lt given e = elim given [
  | inl s ↦ (requests-last limit bytes messages rest message next c lt (inl s) e, inr (inr (messages, message, refl, e), sure-last limit bytes messages rest message next c lt s e))
  | inr u ↦ (requests-last limit bytes messages rest message next c lt (inr (u.1, u.2, u.3, u.4, u.5)) e, inl u.0)
]

and_false : (b : Bool) → (b && false) ≡ false
and_false true = refl
and_false false = refl

end_feed : (xs : List ℕ) (n : ℕ) → is_end xs ≡ false → is_end (xs ++ replicate n 97) ≡ false
end_feed (a ∷ b ∷ c ∷ d ∷ rest) n h = h
end_feed (a ∷ b ∷ c ∷ []) zero h = refl
end_feed (a ∷ b ∷ c ∷ []) (suc n) h = grind (arith, and_false)
end_feed (a ∷ b ∷ []) zero h = refl
end_feed (a ∷ b ∷ []) (suc zero) h = refl
end_feed (a ∷ b ∷ []) (suc (suc n)) h = grind (arith, and_false)
end_feed (a ∷ []) zero h = refl
end_feed (a ∷ []) (suc zero) h = refl
end_feed (a ∷ []) (suc (suc zero)) h = refl
end_feed (a ∷ []) (suc (suc (suc n))) h = grind (arith, and_false)
end_feed [] zero h = refl
end_feed [] (suc zero) h = refl
end_feed [] (suc (suc zero)) h = refl
end_feed [] (suc (suc (suc zero))) h = refl
end_feed [] (suc (suc (suc (suc n)))) h = refl

none_parts : (b : Bool) (o : Option ℕ) → (if b then Some 4 else option_map suc o) ≡ None → (b ≡ false) × (o ≡ None)
none_parts true o h = cc h
none_parts false None h = (refl, refl)
none_parts false (Some n) h = cc h

none_step : (b : Bool) (o : Option ℕ) → b ≡ false → o ≡ None → (if b then Some 4 else option_map suc o) ≡ None
none_step b o e f = rw (e, f) refl

none_feed : (xs : List ℕ) (n : ℕ) → find_head xs ≡ None → find_head (xs ++ replicate n 97) ≡ None
unfolding find_head
none_feed [] zero h = refl
none_feed [] (suc n) h = none_step (is_end (97 ∷ replicate n 97)) (find_head (replicate n 97)) (end_feed [] (suc n) refl) (none_feed [] n refl)
none_feed (x ∷ xs) n h =
    let parts = none_parts (is_end (x ∷ xs)) (find_head xs) h in
    none_step (is_end (x ∷ (xs ++ replicate n 97))) (find_head (xs ++ replicate n 97)) (end_feed (x ∷ xs) n parts.0) (none_feed xs n parts.1)

none_or : (o : Option ℕ) → ((n : ℕ) → o ≡ Some n → ⊥) → o ≡ None
none_or None no_head = refl
none_or (Some n) no_head = absurd (no_head n refl)

none_take : (k : ℕ) (xs : List ℕ) → find_head xs ≡ None → find_head (take k xs) ≡ None
none_take k xs h = none_or (find_head (take k xs)) (λ n e.
    let there = rw (take-append-drop k xs) at (find_head-append (take k xs) (drop k xs) n e) in
    let clash : Some n ≡ None = sym there ∙ h in cc clash)

feed_settles : (rest : List ℕ) → find_head rest ≡ None → SettlesHead (rest ++ replicate head_limit 97) (rejected HeadTooLarge) (rest ++ replicate head_limit 97)
unfolding SettlesHead
feed_settles rest h =
    rw (none_take head_limit (rest ++ replicate head_limit 97) (none_feed rest head_limit h))
    ((let l = length-append rest (replicate head_limit 97) in let r = length-replicate {A = ℕ} head_limit 97 in omega arith), refl, refl)

unless_ended : (b : Bool) (k : ℕ) → Unless b [] (Requests k [] [])
unless_ended true k = refl
unless_ended false zero = refl
unless_ended false (suc k) = refl

-- what may follow so that the next message isn't the refusal of an end here
unended_other : (rest : List ℕ) (refusal : Refusal) → IsUnended rest refusal
    → (more : List ℕ) × (message : MessageValue) × (next : List ℕ) × Settles (rest ++ more) message next
    × ((k : ℕ) → Unless (ends message) [] (Requests k next [])) × (refused refusal ≡ message → ⊥)
unended_other rest refusal u = elim u [
  | inl h ↦ (
    replicate head_limit 97,
    refused HeadTooLarge,
    rest ++ replicate head_limit 97,
    (rejected HeadTooLarge, rest ++ replicate head_limit 97, feed_settles rest h.0.1, (refl, refl)),
    (λ k. refl),
    (λ e. let e' : refused BadHead ≡ refused HeadTooLarge = rw h.1 at e in cc e'),
  )
  | inr b ↦
      let part = b.0 in
      let feed : List ℕ = replicate (part.2 - length part.3) 97 in
      let whole : length (part.3 ++ feed) ≡ part.2 =
      (let l = length-append part.3 feed in let r = length-replicate {A = ℕ} (part.2 - length part.3) 97 in let s = part.5 in omega arith) in (
        feed,
        message_of part.0 part.1 (take part.2 (part.3 ++ feed)),
        [],
        (
          request_head part.0 part.1 part.2,
          part.3 ++ feed,
          head-append rest feed (request_head part.0 part.1 part.2) part.3 part.4,
          (omega (arith, whole), refl, sym (drop_all part.2 (part.3 ++ feed) (omega (arith, whole)))),
        ),
        (λ k. unless_ended (ends (message_of part.0 part.1 (take part.2 (part.3 ++ feed)))) k),
        (λ e. let e' : message_of part.0 part.1 (take part.2 (part.3 ++ feed)) ≡ refused BodyCut = sym e ∙ ap refused b.1 in
            message_whole part.0 part.1 _ e'),
      )
]

prefix_both : (p xs : List MessageValue) (a b : MessageValue) → (a ≡ b → ⊥) → IsPrefix p (xs ++ a ∷ []) → IsPrefix p (xs ++ b ∷ []) → IsPrefix p xs
prefix_both [] xs a b ne f g = (xs, refl)
prefix_both (i ∷ p) [] a b ne f g = absurd (ne (let e : a ≡ i = cc (f.1) in let e' : b ≡ i = cc (g.1) in e ∙ sym e'))
prefix_both (i ∷ p) (x ∷ xs) a b ne f g =
    let e : x ≡ i = cc (f.1) in
    let f' : xs ++ a ∷ [] ≡ p ++ f.0 = cc (f.1) in
    let g' : xs ++ b ∷ [] ≡ p ++ g.0 = cc (g.1) in
    let r = prefix_both p xs a b ne (f.0, f') (g.0, g') in
    (r.0, ap (λ l. x ∷ l) r.1 ∙ ap (λ y. y ∷ (p ++ r.0)) e)

requests-next : (limit : ℕ) (bytes : List ℕ) (messages : List MessageValue) (rest : List ℕ) (message : MessageValue) (next : List ℕ)
    → SettlesAll bytes messages rest → length messages < limit → First rest message next → ((k : ℕ) → Unless (ends message) [] (Requests k next [])) → Requests limit bytes (messages ++ message ∷ [])
requests-next limit bytes messages rest message next c lt cut e =
    requests-settled limit bytes messages rest (suc (limit - length messages - 1)) (message ∷ []) c (omega arith) (next, cut, e (limit - length messages - 1))

unended_longest : (limit : ℕ) (bytes : List ℕ) (messages : List MessageValue) (rest : List ℕ) (refusal : Refusal) → SettlesAll bytes messages rest → IsUnended rest refusal → length messages < limit
    → (others : List MessageValue) → BeginsEach limit bytes others → IsPrefix others messages
unended_longest limit bytes messages [] refusal c still lt others b = longest limit bytes messages (requests-ended limit bytes messages [] c lt refl) others b
unended_longest limit bytes messages (x ∷ xs) refusal c still lt others b =
    let rest = x ∷ xs in
    let cut_short : First rest (refused refusal) [] = inr (refusal, still, (λ e. cc e), refl, refl) in
    let short = b [] (messages ++ refused refusal ∷ []) (rw (append-nil bytes) (requests-last limit bytes messages rest (refused refusal) [] c lt cut_short (unended_ends rest refusal still))) in
    let other = unended_other rest refusal still in
    let large = b other.0 (messages ++ other.1 ∷ [])
    (requests-next limit (bytes ++ other.0) messages (rest ++ other.0) other.1 other.2 (settled-append bytes messages rest other.0 c) lt (inl other.3) other.4) in
    prefix_both others messages (refused refusal) other.1 other.5 short large

-- where the buffered bytes leave it open
pub sure-unended : (limit : ℕ) (bytes : List ℕ) (messages : List MessageValue) (rest : List ℕ) (refusal : Refusal) → SettlesAll bytes messages rest → IsUnended rest refusal → length messages < limit → Sure limit bytes messages
sure-unended limit bytes messages rest refusal c still lt =
    let k = limit - length messages - 1 in
    let fits : limit ≡ length messages + suc k = omega arith in
    (begins limit bytes messages rest (suc k) c fits, unended_longest limit bytes messages rest refusal c still lt)

-- the message comes first in what follows
pub gives_first : (k : ℕ) (rest : List ℕ) (message : MessageValue) (next : List ℕ) (left : Option (List ℕ)) (tail : List MessageValue)
    → Gives rest message next left → Requests (suc k) rest tail → (more : List MessageValue) × (tail ≡ message ∷ more)
gives_first k rest message next left [] given r = elim given [
  | inl s ↦ absurd (settled_some rest message next s r)
  | inr u ↦ absurd (u.3 r)
]
gives_first k rest message next left (a ∷ tail) given r = elim given [
  | inl s ↦ (tail, ap (λ i. i ∷ tail) (cut_settled rest message a next r.0 s r.1).0)
  | inr u ↦ elim r.1 [
    | inl t ↦ absurd (decided rest a r.0 u.1 t u.2)
    | inr v ↦ (tail, ap (λ i. i ∷ tail) (v.3 ∙ ap refused (unended-unique rest v.0 u.1 v.1 u.2) ∙ sym u.4))
  ]
]

-- these messages come first
pub served_first : (limit : ℕ) (bytes : List ℕ) (messages : List MessageValue) (rest : List ℕ) (message : MessageValue) (next : List ℕ) (left : Option (List ℕ)) (all : List MessageValue)
    → SettlesAll bytes messages rest → length messages < limit → Gives rest message next left → Requests limit bytes all → (more : List MessageValue) × (all ≡ (messages ++ message ∷ []) ++ more)
served_first limit bytes messages rest message next left all c lt given r =
    let k = limit - length messages - 1 in
    let split = requests-split limit bytes messages rest (suc k) [] all c (omega arith) (rw (append-nil bytes) r) in
    let head = gives_first k rest message next left split.0 given (rw (append-nil rest) at split.2) in
    (head.0, split.1 ∙ ap (λ l. messages ++ l) head.1 ∙ sym (append_assoc messages (message ∷ []) head.0))
