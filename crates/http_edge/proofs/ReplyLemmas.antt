-- The text of replies.
use Rattle.std.proofs.Common.{◌≡◌, ℕ, List, [], ◌∷◌, ◌++◌, Option, Some, None, Result, Ok, Err, option_map, arith, refl, ap, subst, sym, ◌∙◌, append_assoc, unwrap_or}
use Rattle.std.specs.Prelude.{◌&&◌, ◌-◌, length, nat_le, nat_lt, take, drop}
use Rattle.std.proofs.lemmas.List.{take-append-drop, take_all, length-drop}
use Rattle.std.specs.Borrow.{Bor}
use Rattle.std.proofs.lemmas.Bool.{le-leb, lt-ltb, leb-true, ltb-true, and_parts, false_from_ne_true}
use Rattle.http.specs.StatusCode.{IsStatusCode, reason_phrase}
use Rattle.streams.specs.Sending.{Writes, Sends}
use Rattle.streams.specs.Streams.{Output}
use Rattle.streams.specs.declared.counted.Failed.{Failed}
use Rattle.http_edge.specs.Replies.{phrase}
use Rattle.http_edge.proofs.MovedLemmas.{writes_more, writes_to_more}

abbrev content : Bor (List ℕ) → List ℕ
content text = text.now

or_empty : (o : Option (Bor (List ℕ))) (d : Bor (List ℕ)) (p : Option (List ℕ)) → option_map content o ≡ p → d.now ≡ [] → (unwrap_or o d).now ≡ unwrap_or p []
or_empty None d p e h = rw (← e) h
or_empty (Some x) d p e h = rw (← e) refl

pub phrase_of : (n : ℕ) (o : Option (Bor (List ℕ))) (d r : Bor (List ℕ)) → IsStatusCode n → option_map content o ≡ reason_phrase n → r ≡ unwrap_or o d → d.now ≡ [] → r.now ≡ phrase n
unfolding phrase
phrase_of n o d r is e f h = rw (le-leb 100 n is.0, lt-ltb n 1000 is.1, f) (or_empty o d (reason_phrase n) e h)

pub no_phrase : (n : ℕ) → (IsStatusCode n → ⊥) → [] ≡ phrase n
unfolding phrase
no_phrase n none =
    rw (false_from_ne_true (nat_le 100 n && nat_lt n 1000) (λ t. let p = and_parts (nat_le 100 n) (nat_lt n 1000) t in none (leb-true 100 n p.0, ltb-true n 1000 p.1))) refl

-- one text was written, and then another or a beginning of it
pub sends_more : (a b c : Output) (p q : List ℕ) (result : Result (Unit {0}) Failed) → Writes a p b → Sends b q result c → Sends a (p ++ q) result c
sends_more a b c p q (Ok u) g s = writes_more a b c p q g s
sends_more a b c p q (Err e) g s =
    (p ++ s.0, s.1, ap (λ l. p ++ l) s.2 ∙ sym (append_assoc p s.0 s.1), s.3, writes_to_more a b c p s.0 g s.4)

not_empty : (p q : List ℕ) → (p ≡ [] → ⊥) → p ++ q ≡ [] → ⊥
not_empty [] q some e = some refl
not_empty (x ∷ p) q some e = cc

-- a beginning of a text is one of what goes on after it
pub sends_less : (a b : Output) (p q : List ℕ) (e : Failed) → Sends a p (Err e) b → Sends a (p ++ q) (Err e) b
sends_less a b p q e s = (s.0, s.1 ++ q, ap (λ l. l ++ q) s.2 ∙ append_assoc s.0 s.1 q, not_empty s.1 q s.3, s.4)

-- a text that was written may be given as an equal one
pub sends_same : (a b : Output) (p q : List ℕ) (result : Result (Unit {0}) Failed) → p ≡ q → Sends a p result b → Sends a q result b
sends_same a b p q result e s = subst (λ text. Sends a text result b) e s

-- all bytes of a text after the first ones, as a slice to the end has them
whole_rest : (t : List ℕ) (n : ℕ) → take (length t - n) (drop n t) ≡ drop n t
whole_rest t n = take_all (length t - n) (drop n t) (grind (arith, length-drop n t))

-- the first bytes of a text, and after them the rest of it
pub then_the_rest : (h t first : List ℕ) (n : ℕ) → first ≡ h ++ take n t → first ++ take (length t - n) (drop n t) ≡ h ++ t
then_the_rest h t first n e = rw (e, whole_rest t n, append_assoc h (take n t) (drop n t), take-append-drop n t) refl

-- nine texts, each put after the one before
pub nine_texts : (a b c d e f g h i : List ℕ) → ((((((((a ++ b) ++ c) ++ d) ++ e) ++ f) ++ g) ++ h) ++ i) ≡ a ++ (b ++ (c ++ (d ++ (e ++ (f ++ (g ++ (h ++ i)))))))
nine_texts a b c d e f g h i = rw (append_assoc, append_assoc, append_assoc, append_assoc, append_assoc, append_assoc, append_assoc) refl
