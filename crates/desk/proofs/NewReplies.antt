-- What the reply to a part that was put says.
use Rattle.std.proofs.Common.{◌≡◌, ◌∙◌, List, ℕ, None, ap, sym, length, map}
use Rattle.std.proofs.lemmas.List.{length-map}
use Rattle.lsif.specs.Element.{ElementValue}
use Rattle.dump.specs.Progress.{DumpValue}
use Rattle.tags.specs.Values.{TagValue}
use Rattle.machine.specs.State.{IsNew}
use Rattle.machine.specs.State.{State, accepted_text, dump_put, set_dump, set_tags, tags_put}
use Rattle.machine.specs.Reply.{ReplyValue, reply_body, dump_accepted, tags_accepted}

pub same_count : {A B : Type 0} (value : A → B) (xs : List A) (ys : List B) → map value xs ≡ ys → length xs ≡ length ys
same_count value xs ys are = sym (length-map xs value) ∙ ap length are

pub new_dump : {A : Type 0} (value : A → ElementValue) (m : State) (project key text : List ℕ) (dump : DumpValue) (elements : List A) (reply : ReplyValue)
    → m.kept project key ≡ None → text ≡ reply_body reply → reply ≡ dump_accepted (length elements) → map value elements ≡ dump.elements → IsNew m project key text (set_dump dump)
new_dump value m project key text dump elements reply free is said are =
    let count = same_count value elements dump.elements are in
    record { unkept = free; text = is ∙ ap reply_body said ∙ ap (λ n. accepted_text (dump_put n)) count }

pub new_tags : {A : Type 0} (value : A → TagValue) (m : State) (project key text : List ℕ) (part : List TagValue) (tags : List A) (reply : ReplyValue)
    → m.kept project key ≡ None → text ≡ reply_body reply → reply ≡ tags_accepted (length tags) → map value tags ≡ part → IsNew m project key text (set_tags part)
new_tags value m project key text part tags reply free is said are =
    let count = same_count value tags part are in
    record { unkept = free; text = is ∙ ap reply_body said ∙ ap (λ n. accepted_text (tags_put n)) count }
