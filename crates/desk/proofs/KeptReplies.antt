-- The reply that is kept under a key, of which an index has the text.
use Rattle.std.proofs.Common.{◌≡◌, ◌∙◌, [], Bool, ℕ, List, Option, Some, None, ap, inl, refl}
use Rattle.std.specs.Prelude.{option_map}
use Rattle.machine.specs.Machine.{reply_of}
use Rattle.machine.specs.Reply.{ReplyValue, made}
use Rattle.machine.specs.Runs.{KnowsReply}
use Rattle.machine.specs.State.{Accepted, State, accepted_text, dump_put, parts_removed, tags_put}
use Rattle.desk.specs.Indexes.{kept_text}

reply_is : (kept : Accepted) → made 200 (accepted_text kept) ≡ reply_of kept
reply_is (dump_put n) = refl
reply_is (tags_put n) = refl
reply_is (parts_removed b) = refl

text_in : Option (List ℕ) → List ℕ
text_in (Some text) = text
text_in None = []

known_by : (s : Bool) (m : State) (project key text : List ℕ) (r : ReplyValue) (o : Option Accepted) → m.kept project key ≡ o → Some text ≡ option_map accepted_text o
    → r ≡ made 200 text → KnowsReply s m project key (Some r)
unfolding text_in
known_by s m project key text r (Some kept) e f is = inl (kept, e, is ∙ ap (made 200) (ap text_in f) ∙ reply_is kept)
known_by s m project key text r None e f is = cc f

pub known : (s : Bool) (m : State) (project key text : List ℕ) (r : ReplyValue) → Some text ≡ kept_text m project key → r ≡ made 200 text
    → KnowsReply s m project key (Some r)
known s m project key text r f is = known_by s m project key text r (m.kept project key) refl f is

unknown_by : (m : State) (project key : List ℕ) (o : Option Accepted) → m.kept project key ≡ o → None ≡ option_map accepted_text o → m.kept project key ≡ None
unknown_by m project key (Some kept) e f = cc f
unknown_by m project key None e f = e

pub unknown : (s : Bool) (m : State) (project key : List ℕ) → None ≡ kept_text m project key → KnowsReply s m project key None
unknown s m project key f = unknown_by m project key (m.kept project key) refl f
