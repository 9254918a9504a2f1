-- What is answered where the reply was known before the body had come.
use Rattle.std.proofs.Common.{◌≡◌, ◌∷◌, [], ◌++◌, Bool, true, false, List, ℕ, Some, inl, inr, refl, sym, ◌∙◌, ap, subst, if◌then◌else◌}
use Rattle.machine.specs.Judging.{judged}
use Rattle.machine.specs.Machine.{after, effect_by, is_new, reply_of}
use Rattle.machine.specs.Reply.{ReplyValue, is_refusal}
use Rattle.machine.specs.Requests.{CommandValue, command}
use Rattle.machine.specs.Runs.{KnowsReply, MayReply, after_a_stop, moved, no_memory, no_store, own}
use Rattle.machine.specs.State.{Accepted, State, dump_put, parts_removed, tags_put}
use Rattle.machine.specs.Uploads.{UploadValue, command_of}
use Rattle.http_edge.specs.Replies.{replied}
use Rattle.http_edge.specs.Requests.{MessageValue, request}
use Rattle.http_edge.specs.Serving.{MayAnswer, after_a_stop_of_answer, answered}

-- ---- a command

is_no_refusal : (kept : Accepted) → is_refusal (reply_of kept) ≡ false
is_no_refusal (dump_put n) = refl
is_no_refusal (tags_put n) = refl
is_no_refusal (parts_removed b) = refl

the_same : (b : Bool) (m n : State) → n ≡ m → (if b then m else n) ≡ m
the_same true m n e = refl
the_same false m n e = e

may_reply : (s : Bool) (m : State) (c : CommandValue) (r : ReplyValue) → KnowsReply s m c.project c.key (Some r) → MayReply s m (command c) r
may_reply s m c r known = elim known [
  | inl k ↦ own (k.2 ∙ sym (ap (λ o. (effect_by m c o (judged c.action)).reply) k.1))
  | inr refused ↦ elim refused [
    | inl e ↦ subst (λ q. MayReply s m (command c) q) (sym e) no_memory
    | inr e ↦ subst (λ q. MayReply s m (command c) q) (sym e.1) (no_store e.0)
  ]
]

stays : (s : Bool) (m : State) (c : CommandValue) (r : ReplyValue) → KnowsReply s m c.project c.key (Some r) → moved m (command c) r ≡ m
stays s m c r known = elim known [
  | inl k ↦ the_same (is_refusal r) m (after m c) (ap (λ o. (effect_by m c o (judged c.action)).after) k.1)
  | inr refused ↦ elim refused [
    | inl e ↦ ap (λ q. moved m (command c) q) e
    | inr e ↦ ap (λ q. moved m (command c) q) e.1
  ]
]

leaves_it : (leaves : List State → Type 0) → ((states : List State) (n : State) → leaves states → leaves (states ++ n ∷ []))
    → (s : Bool) (m : State) (states : List State) (c : CommandValue) (r : ReplyValue) → KnowsReply s m c.project c.key (Some r) → leaves states
    → leaves (after_a_stop m states (command c) r)
leaves_it leaves weaker s m states c r known h = elim known [
  | inl k ↦
      let old = ap (λ o. (effect_by m c o (judged c.action)).is_new) k.1 in
      let none = ap is_refusal k.2 ∙ is_no_refusal k.0 in
      subst (λ b. leaves (if b then states ++ after m c ∷ [] else if is_new m c then after m c ∷ [] else states)) (sym none)
      (subst (λ b. leaves (if b then after m c ∷ [] else states)) (sym old) h)
  | inr refused ↦ elim refused [
    | inl e ↦ subst (λ q. leaves (after_a_stop m states (command c) q)) (sym e) (weaker states (after m c) h)
    | inr e ↦ subst (λ q. leaves (after_a_stop m states (command c) q)) (sym e.1) (weaker states (after m c) h)
  ]
]

-- ---- an upload whose body wasn't read

pub known_may : (s : Bool) (m : State) (upload : UploadValue) (body : List ℕ) (r : ReplyValue) (message : MessageValue)
    → message ≡ request (command (command_of upload body)) → KnowsReply s m upload.project upload.key (Some r) → MayAnswer s m message (replied r)
known_may s m upload body r message e known =
    subst (λ (q : MessageValue). MayAnswer s m q (replied r)) (sym e) (may_reply s m (command_of upload body) r known)

pub known_stays : (s : Bool) (m : State) (upload : UploadValue) (body : List ℕ) (r : ReplyValue) (message : MessageValue)
    → message ≡ request (command (command_of upload body)) → KnowsReply s m upload.project upload.key (Some r) → answered m message (replied r) ≡ m
known_stays s m upload body r message e known = ap (λ (q : MessageValue). answered m q (replied r)) e ∙ stays s m (command_of upload body) r known

pub known_leaves : (leaves : List State → Type 0) → ((states : List State) (n : State) → leaves states → leaves (states ++ n ∷ []))
    → (s : Bool) (m : State) (states : List State) (upload : UploadValue) (body : List ℕ) (r : ReplyValue) (message : MessageValue)
    → message ≡ request (command (command_of upload body)) → KnowsReply s m upload.project upload.key (Some r) → leaves states
    → leaves (after_a_stop_of_answer m states message (replied r))
known_leaves leaves weaker s m states upload body r message e known h =
    subst (λ (q : MessageValue). leaves (after_a_stop_of_answer m states q (replied r))) (sym e) (leaves_it leaves weaker s m states (command_of upload body) r known h)
