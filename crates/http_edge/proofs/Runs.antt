-- Runs that go on by one message, and what surely comes first.
use Rattle.std.proofs.Common.{◌≡◌, ℕ, ◌-◌, ◌<◌, inl, inr, Bool, List, [], ◌∷◌, ◌++◌, length, Option, None, refl, sym, ◌∙◌, ap, arith, append_assoc, append-nil, subst, suc}
use Rattle.machine.specs.Machine.{after}
use Rattle.machine.specs.Runs.{no_memory}
use Rattle.machine.specs.State.{State}
use Rattle.machine.specs.Reply.{out_of_memory}
use Rattle.machine.specs.Requests.{command, query}
use Rattle.http_edge.specs.Messages.{Settles, BeginsEach}
use Rattle.http_edge.specs.Steps.Messages.{SettlesAll}
use Rattle.http_edge.specs.Replies.{AnswerValue, replied, answer_text}
use Rattle.http_edge.specs.Requests.{MessageValue, request, refused}
use Rattle.http_edge.specs.Serving.{MayAnswer, answered, after_a_stop_of_answer, MayAnswerAll, after_a_stop_of_answers, texts, IsBegun}
use Rattle.http_edge.specs.Steps.Serving.{Gives}
use Rattle.http_edge.proofs.MessageLemmas.{settles-append}
use Rattle.http_edge.proofs.Sures.{requests-split, gives_first, served_first}

pub run-snoc : (s : Bool) (m : State) (messages : List MessageValue) (answers : List AnswerValue) (n : State) (message : MessageValue) (answer : AnswerValue)
    → MayAnswerAll s m messages answers n → MayAnswer s n message answer → MayAnswerAll s m (messages ++ message ∷ []) (answers ++ answer ∷ []) (answered n message answer)
run-snoc s m [] [] n message answer r a = (subst (λ (x : State). MayAnswer s x message answer) r a, ap (λ (x : State). answered x message answer) r)
run-snoc s m (i ∷ messages) (b ∷ answers) n message answer r a = (r.0, run-snoc s (answered m i b) messages answers n message answer r.1 a)
run-snoc s m [] (b ∷ answers) n message answer r a = absurd r
run-snoc s m (i ∷ messages) [] n message answer r a = absurd r

pub left-snoc : (s : Bool) (m : State) (states : List State) (messages : List MessageValue) (answers : List AnswerValue) (n : State) (message : MessageValue) (answer : AnswerValue)
    → MayAnswerAll s m messages answers n → after_a_stop_of_answers m states (messages ++ message ∷ []) (answers ++ answer ∷ []) ≡ after_a_stop_of_answer n (after_a_stop_of_answers m states messages answers) message answer
left-snoc s m states [] [] n message answer r = ap (λ (x : State). after_a_stop_of_answer x states message answer) (sym r)
left-snoc s m states (i ∷ messages) (b ∷ answers) n message answer r = left-snoc s (answered m i b) (after_a_stop_of_answer m states i b) messages answers n message answer r.1
left-snoc s m states [] (b ∷ answers) n message answer r = absurd r
left-snoc s m states (i ∷ messages) [] n message answer r = absurd r

pub texts-snoc : (answers : List AnswerValue) (answer : AnswerValue) → texts (answers ++ answer ∷ []) ≡ texts answers ++ answer_text answer
texts-snoc [] answer = append-nil (answer_text answer)
texts-snoc (b ∷ answers) answer = ap (λ l. answer_text b ++ l) (texts-snoc answers answer) ∙ sym (append_assoc (answer_text b) (texts answers) (answer_text answer))

-- ---- where the request couldn't be read for lack of memory

pub out_of_memory_may : (s : Bool) (m : State) (message : MessageValue) → MayAnswer s m message (replied out_of_memory)
out_of_memory_may s m (request q) = no_memory
out_of_memory_may s m (refused refusal) = refl

pub out_of_memory_stays : (m : State) (message : MessageValue) → answered m message (replied out_of_memory) ≡ m
out_of_memory_stays m (request (command c)) = refl
out_of_memory_stays m (request (query q)) = refl
out_of_memory_stays m (refused refusal) = refl

pub out_of_memory_leaves : (leaves : List State → Type 0) → ((states : List State) (n : State) → leaves states → leaves (states ++ n ∷ []))
    → (m : State) (states : List State) (message : MessageValue) → leaves states → leaves (after_a_stop_of_answer m states message (replied out_of_memory))
out_of_memory_leaves leaves weaker m states (request (command c)) h = weaker states (after m c) h
out_of_memory_leaves leaves weaker m states (request (query q)) h = h
out_of_memory_leaves leaves weaker m states (refused refusal) h = h

begins_next : (limit : ℕ) (bytes : List ℕ) (messages : List MessageValue) (rest : List ℕ) (message : MessageValue) (next : List ℕ)
    → SettlesAll bytes messages rest → length messages < limit → Settles rest message next → BeginsEach limit bytes (messages ++ message ∷ [])
begins_next limit bytes messages rest message next c lt s = λ more all r.
    let k = limit - length messages - 1 in
    let split = requests-split limit bytes messages rest (suc k) more all c (omega arith) r in
    let head = gives_first k (rest ++ more) message (next ++ more) None split.0 (inl (settles-append rest more message next s)) split.2 in
    (head.0, split.1 ∙ ap (λ l. messages ++ l) head.1 ∙ sym (append_assoc messages (message ∷ []) head.0))

-- the messages so far and the one that was given
pub begun : (limit : ℕ) (bytes : List ℕ) (messages : List MessageValue) (rest : List ℕ) (message : MessageValue) (next : List ℕ) (left : Option (List ℕ))
    → SettlesAll bytes messages rest → length messages < limit → Gives rest message next left → IsBegun limit bytes (messages ++ message ∷ []) left
begun limit bytes messages rest message next left c lt given = elim given [
  | inl s ↦ inl (begins_next limit bytes messages rest message next c lt s)
  | inr u ↦ inr (u.0, λ all r. served_first limit bytes messages rest message next left all c lt (inr u) r)
]
