-- The law of commands that are sent again.
use Rattle.std.proofs.Common.{◌≡◌, ◌⊎◌, inl, inr, ⊎_elim, arith, Bool, true, false, ◌&&◌, ◌||◌, cond, List, [], ◌∷◌, ◌++◌, refl, sym, ap, ◌∙◌, subst}
use Rattle.std.specs.Prelude.{ℕ, Option, Some, None, is_some, Result, Ok, Err, All, Contains, bytes_eq}
use Rattle.std.proofs.lemmas.List.Elements.{All-push, All-weaker, All-contains, All-cons, All-nil}
use Rattle.std.proofs.lemmas.List.{map-append}
use Rattle.std.proofs.lemmas.Slice.Eq.{bytes_eq-Decides}
use Rattle.dump.specs.Progress.{DumpValue}
use Rattle.dump.specs.declared.fault.LineFault as dumps
use Rattle.tags.specs.Values.{TagValue}
use Rattle.tags.specs.declared.code.LineFault as tags
use Rattle.machine.specs.Judging.{judged, judged_dump, judged_tags, dump_change, tags_change}
use Rattle.machine.specs.State.{Change, Accepted, State, nothing, dump_after, tags_after, accepted}
use Rattle.machine.specs.Machine.{reply_of, effect_by, reply_to, after, is_new}
use Rattle.machine.specs.Reply.{ReplyValue, refused, made, is_refusal, reply_status, dump_refused, tags_refused}
use Rattle.machine.specs.declared.code.Code.TheVariants.{D01, D02, S01, S02}
use Rattle.machine.specs.Requests.{ActionValue, put_dump, put_tags, remove, CommandValue, RequestValue, command, query}
use Rattle.machine.specs.Runs.{MayReply, own, no_memory, no_store, moved, after_a_stop, Run, after_a_stop_of_run}
use Rattle.machine.specs.Retries.{KeptValue, has_key, with_command, once, plain_dump, plain_tags, plain_kept, Event, sent, stop, StopValue, Moment, first_moment, moment_after_reply, moment_after_stop, Goes, Life, IsPlain, with_run, states_after_a_stop}
use Rattle.streams.proofs.Members.{contains_cases, not_in_nil}
use Rattle.streams.proofs.Bools.{and_both}

-- the state is that of this history
record Agrees (m : State) (h : List KeptValue) : Type 0 where
  dump : (p : List ℕ) → m.dump p ≡ plain_dump h p
  tags : (p : List ℕ) → m.tags p ≡ plain_tags h p
  kept : (p k : List ℕ) → m.kept p k ≡ plain_kept h p k

has_kept : (h : List KeptValue) (p k : List ℕ) → has_key p k h ≡ is_some (plain_kept h p k)
has_kept [] p k = refl
has_kept (c ∷ h) p k =
    elim (bytes_eq c.project p && bytes_eq c.key k) as (λ b. (b || has_key p k h) ≡ is_some (cond b (Some (accepted c.change (plain_dump h c.project) (plain_tags h c.project))) (plain_kept h p k))) [ true ↦ refl | false ↦ has_kept h p k ]

-- ---- one command more

by_effect : (m : State) (c : CommandValue) (h : List KeptValue) → Agrees m h → (o : Option Accepted) (body : Result Change ReplyValue) → m.kept c.project c.key ≡ o → Agrees ((effect_by m c o body).after) (with_command c body h)
by_effect m c h g (Some r) (Err f) e = g
by_effect m c h g (Some r) (Ok change) e =
    let has : has_key c.project c.key h ≡ true = has_kept h c.project c.key ∙ ap is_some (sym (g.kept c.project c.key) ∙ e) in
    rw has g
by_effect m c h g None (Err f) e = g
by_effect m c h g None (Ok change) e =
    let hasnt : has_key c.project c.key h ≡ false = has_kept h c.project c.key ∙ ap is_some (sym (g.kept c.project c.key) ∙ e) in
    rw hasnt (record {
      dump = λ q. ap (λ x. cond (bytes_eq c.project q) (dump_after change x) x) (g.dump q);
      tags = λ q. ap (λ x. cond (bytes_eq c.project q) (tags_after change x) x) (g.tags q);
      kept = λ q j. λ i. cond (bytes_eq c.project q && bytes_eq c.key j) (Some (accepted change (g.dump c.project i) (g.tags c.project i))) (g.kept q j i);
    })

steps : (m : State) (c : CommandValue) (cs : List CommandValue) → Agrees m (once cs) → Agrees (after m c) (once (c ∷ cs))
steps m c cs g = by_effect m c (once cs) g (m.kept c.project c.key) (judged c.action) refl

-- a command that isn't new adds nothing
not_new : (m : State) (c : CommandValue) (h : List KeptValue) → Agrees m h → (o : Option Accepted) (body : Result Change ReplyValue) → m.kept c.project c.key ≡ o → (effect_by m c o body).is_new ≡ false → with_command c body h ≡ h
not_new m c h g (Some r) (Err f) e old = refl
not_new m c h g (Some r) (Ok change) e old =
    let has : has_key c.project c.key h ≡ true = has_kept h c.project c.key ∙ ap is_some (sym (g.kept c.project c.key) ∙ e) in
    rw has refl
not_new m c h g None (Err f) e old = refl
not_new m c h g None (Ok change) e old = cc

-- later commands see of earlier ones those that are kept
once-append : (cs ds es : List CommandValue) → once ds ≡ once es → once (cs ++ ds) ≡ once (cs ++ es)
once-append [] ds es e = e
once-append (c ∷ cs) ds es e = ap (with_command c (judged c.action)) (once-append cs ds es e)

-- ---- a life

abbrev IsGood : List CommandValue → StopValue → Type 0
IsGood counted l = Agrees l.state (once (l.commands ++ counted))

record Holds (t : Moment) : Type 0 where
  now : Agrees t.now (once t.counted)
  left : All (IsGood t.counted) t.after_a_stop

abbrev alone : State → StopValue
alone n = record { state = n; commands = [] }

first : Holds first_moment
first = record {
  now = record { dump = λ p. refl; tags = λ p. refl; kept = λ p k. refl };
  left = All-cons (IsGood []) (alone nothing) [] (record { dump = λ p. refl; tags = λ p. refl; kept = λ p k. refl }) (All-nil (IsGood []));
}

left_after : (c : CommandValue) (t : Moment) → Holds t → (b : Bool) → is_new t.now c ≡ b → All (IsGood (c ∷ t.counted)) (cond b (alone (after t.now c) ∷ []) t.after_a_stop)
left_after c t i true e = All-cons (IsGood (c ∷ t.counted)) (alone (after t.now c)) [] (steps t.now c t.counted i.now) (All-nil (IsGood (c ∷ t.counted)))
left_after c t i false e =
    let same : once (c ∷ t.counted) ≡ once t.counted = not_new t.now c (once t.counted) i.now (t.now.kept c.project c.key) (judged c.action) refl e in
    All-weaker (IsGood t.counted) (IsGood (c ∷ t.counted)) (λ l g. subst (Agrees l.state) (once-append l.commands t.counted (c ∷ t.counted) (sym same)) g) t.after_a_stop i.left

replies : (b : Bool) (c : CommandValue) (t : Moment) → Holds t → Holds (moment_after_reply b c t)
replies true c t i = record { now = i.now; left = All-push (IsGood t.counted) t.after_a_stop (record { state = after t.now c; commands = c ∷ [] }) i.left (steps t.now c t.counted i.now) }
replies false c t i = record { now = steps t.now c t.counted i.now; left = left_after c t i (is_new t.now c) refl }

stops : (l : StopValue) (t : Moment) → Holds t → Contains t.after_a_stop l → Holds (moment_after_stop l t)
stops l t i at =
    let good = All-contains (IsGood t.counted) t.after_a_stop l i.left at in
    record { now = good; left = All-cons (IsGood (l.commands ++ t.counted)) (alone l.state) [] good (All-nil (IsGood (l.commands ++ t.counted))) }

goes : (s : Bool) (e : Event) (t u : Moment) → Holds t → Goes s t e u → Holds u
goes s (sent c r) t u i g = subst Holds (sym g.1) (replies (is_refusal r) c t i)
goes s stop t u i g = subst Holds (sym g.2) (stops g.0 t i g.1)

lives : (s : Bool) (es : List Event) (t : Moment) → Life s es t → Holds t
lives s [] t e = subst Holds (sym e) first
lives s (e ∷ es) u l = goes s e l.0 u (lives s es l.0 l.1) l.2

pub is_plain : (s : Bool) (es : List Event) (t : Moment) → Life s es t → IsPlain t
is_plain s es t l = let i = lives s es t l in record { dump = i.now.dump; tags = i.now.tags; kept = i.now.kept }

-- ---- a command whose key is kept

again_by : (s : Bool) (m : State) (c : CommandValue) (r : ReplyValue) (kept : Accepted) → m.kept c.project c.key ≡ Some kept → MayReply s m (command c) r → (is_refusal r ≡ true) ⊎ (r ≡ reply_of kept)
again_by s m c r kept e (own is) = inr (is ∙ ap (λ o. (effect_by m c o (judged c.action)).reply) e)
again_by s m c r kept e no_memory = inl refl
again_by s m c r kept e (no_store may) = inl refl

pub again : (s : Bool) (es : List Event) (t : Moment) (c : CommandValue) (r : ReplyValue) (kept : Accepted) → Life s es t → MayReply s t.now (command c) r
    → plain_kept (once t.counted) c.project c.key ≡ Some kept → (is_refusal r ≡ true) ⊎ (r ≡ reply_of kept)
again s es t c r kept l may e = again_by s t.now c r kept ((lives s es t l).now.kept c.project c.key ∙ e) may

-- ---- a command that was accepted

fault_of_dump : (said : Result DumpValue dumps.LineFault) (fault : ReplyValue) → dump_change said ≡ Err fault → reply_status fault ≡ 422
fault_of_dump (Ok dump) fault e = cc
fault_of_dump (Err f) fault e = let is : dump_refused f ≡ fault = cc in sym (ap reply_status is)

fault_of_tags : (said : Result (List TagValue) tags.LineFault) (fault : ReplyValue) → tags_change said ≡ Err fault → reply_status fault ≡ 422
fault_of_tags (Ok tags) fault e = cc
fault_of_tags (Err f) fault e = let is : tags_refused f ≡ fault = cc in sym (ap reply_status is)

fault_of : (action : ActionValue) (fault : ReplyValue) → judged action ≡ Err fault → reply_status fault ≡ 422
fault_of (put_dump profile body) fault e = fault_of_dump (judged_dump profile body) fault e
fault_of (put_tags body) fault e = fault_of_tags (judged_tags body) fault e
fault_of remove fault e = cc

-- what the reply to an accepted command says is kept after it
kept_by : (m : State) (c : CommandValue) (o : Option Accepted) (body : Result Change ReplyValue) → m.kept c.project c.key ≡ o → judged c.action ≡ body → reply_status (effect_by m c o body).reply ≡ 200
    → (kept : Accepted) × ((effect_by m c o body).after.kept c.project c.key ≡ Some kept) × ((effect_by m c o body).reply ≡ reply_of kept)
kept_by m c (Some kept) body e said ok = (kept, e, refl)
kept_by m c None (Err fault) e said ok = absurd (let status = fault_of c.action fault said in omega (arith, status, ok))
kept_by m c None (Ok change) e said ok = (
  accepted change (m.dump c.project) (m.tags c.project),
  rw ((bytes_eq-Decides c.project c.project).1 refl, (bytes_eq-Decides c.key c.key).1 refl) refl,
  refl,
)

-- the machine's own reply, where it has this status
own_reply : (s : Bool) (m : State) (c : CommandValue) (r : ReplyValue) → MayReply s m (command c) r → reply_status r ≡ 200 → r ≡ reply_to m c
own_reply s m c r (own is) ok = is
own_reply s m c r no_memory ok = absurd (omega (arith, ok))
own_reply s m c r (no_store may) ok = absurd (omega (arith, ok))

-- what is kept of a history stays where it goes on
stays_by : (has same : Bool) (c : CommandValue) (change : Change) (h : List KeptValue) (p k : List ℕ) (kept : Accepted) → has_key c.project c.key h ≡ has → (bytes_eq c.project p && bytes_eq c.key k) ≡ same
    → plain_kept h p k ≡ Some kept → plain_kept (cond has h (record { project = c.project; key = c.key; change = change } ∷ h)) p k ≡ Some kept
stays_by true same c change h p k kept has e is = is
stays_by false false c change h p k kept has e is = rw e is
stays_by false true c change h p k kept has e is =
    let both = and_both (bytes_eq c.project p) (bytes_eq c.key k) e in
    let project : c.project ≡ p = (bytes_eq-Decides c.project p).0 both.0 in
    let key : c.key ≡ k = (bytes_eq-Decides c.key k).0 both.1 in
    let there : has_key p k h ≡ true = has_kept h p k ∙ ap is_some is in
    let no : true ≡ false = sym there ∙ (λ i. has_key (sym project i) (sym key i) h) ∙ has in
    cc

stays_with : (c : CommandValue) (body : Result Change ReplyValue) (h : List KeptValue) (p k : List ℕ) (kept : Accepted) → plain_kept h p k ≡ Some kept → plain_kept (with_command c body h) p k ≡ Some kept
stays_with c (Err fault) h p k kept is = is
stays_with c (Ok change) h p k kept is = stays_by (has_key c.project c.key h) (bytes_eq c.project p && bytes_eq c.key k) c change h p k kept refl refl is

stays : (cs ds : List CommandValue) (p k : List ℕ) (kept : Accepted) → plain_kept (once ds) p k ≡ Some kept → plain_kept (once (cs ++ ds)) p k ≡ Some kept
stays [] ds p k kept is = is
stays (c ∷ cs) ds p k kept is = stays_with c (judged c.action) (once (cs ++ ds)) p k kept (stays cs ds p k kept is)

-- what the reply says is kept of the commands that count
abbrev IsKept : Moment → CommandValue → ReplyValue → Type 0
IsKept t c r = (kept : Accepted) × (plain_kept (once t.counted) c.project c.key ≡ Some kept) × (r ≡ reply_of kept)

kept_after : (b : Bool) (d : CommandValue) (t : Moment) (c : CommandValue) (r : ReplyValue) → IsKept t c r → IsKept (moment_after_reply b d t) c r
kept_after true d t c r k = k
kept_after false d t c r k = (k.0, stays (d ∷ []) t.counted c.project c.key k.0 k.1, k.2)

kept_on : (s : Bool) (e : Event) (t u : Moment) (c : CommandValue) (r : ReplyValue) → Goes s t e u → IsKept t c r → IsKept u c r
kept_on s (sent d q) t u c r g k = subst (λ (v : Moment). IsKept v c r) (sym g.1) (kept_after (is_refusal q) d t c r k)
kept_on s stop t u c r g k = subst (λ (v : Moment). IsKept v c r) (sym g.2) (k.0, stays g.0.commands t.counted c.project c.key k.0 k.1, k.2)

no_refusal : (r : ReplyValue) → reply_status r ≡ 200 → is_refusal r ≡ false
no_refusal (made status body) ok = refl
no_refusal (refused D01) ok = refl
no_refusal (refused D02) ok = refl
no_refusal (refused S01) ok = absurd (omega (arith, ok))
no_refusal (refused S02) ok = absurd (omega (arith, ok))

kept_now : (s : Bool) (t u : Moment) (c : CommandValue) (r : ReplyValue) → Holds t → Goes s t (sent c r) u → reply_status r ≡ 200 → IsKept u c r
kept_now s t u c r i g ok =
    let mine = own_reply s t.now c r g.0 ok in
    let k = kept_by t.now c (t.now.kept c.project c.key) (judged c.action) refl refl (ap reply_status (sym mine) ∙ ok) in
    let is : u ≡ moment_after_reply false c t = g.1 ∙ ap (λ b. moment_after_reply b c t) (no_refusal r ok) in
    subst (λ (v : Moment). IsKept v c r) (sym is) (k.0, sym ((steps t.now c t.counted i.now).kept c.project c.key) ∙ k.1, mine ∙ k.2)

was_kept : (s : Bool) (es : List Event) (t : Moment) (c : CommandValue) (r : ReplyValue) → Life s es t → Contains es (sent c r) → reply_status r ≡ 200 → IsKept t c r
was_kept s [] t c r l at ok = absurd (not_in_nil (sent c r) at)
was_kept s (e ∷ es) u c r l at ok = ⊎_elim
    (λ (is : e ≡ sent c r). kept_now s l.0 u c r (lives s es l.0 l.1) (subst (λ (f : Event). Goes s l.0 f u) is l.2) ok)
    (λ (before : Contains es (sent c r)). kept_on s e l.0 u c r l.2 (was_kept s es l.0 c r l.1 before ok))
    (contains_cases e es (sent c r) at)

pub sent_again : (s : Bool) (es : List Event) (t : Moment) (c later : CommandValue) (r reply : ReplyValue) → Life s es t → Contains es (sent c r) → reply_status r ≡ 200
    → later.project ≡ c.project → later.key ≡ c.key → MayReply s t.now (command later) reply → (is_refusal reply ≡ true) ⊎ (reply ≡ r)
sent_again s es t c later r reply l at ok project key may =
    let k = was_kept s es t c r l at ok in
    ⊎_elim (λ (no : is_refusal reply ≡ true). inl no) (λ (is : reply ≡ reply_of k.0). inr (is ∙ sym k.2))
    (again s es t later reply k.0 l may ((λ i. plain_kept (once t.counted) (project i) (key i)) ∙ k.1))

-- ---- runs

left_of : (b n : Bool) (c : CommandValue) (t : Moment) → is_new t.now c ≡ n
    → states_after_a_stop (moment_after_reply b c t) ≡ cond b (states_after_a_stop t ++ after t.now c ∷ []) (cond n (after t.now c ∷ []) (states_after_a_stop t))
left_of true n c t e = map-append (λ (l : StopValue). l.state) t.after_a_stop (record { state = after t.now c; commands = c ∷ [] } ∷ [])
left_of false true c t e = rw e refl
left_of false false c t e = rw e refl

now_of : (b : Bool) (c : CommandValue) (t : Moment) → (moment_after_reply b c t).now ≡ cond b t.now (after t.now c)
now_of true c t = refl
now_of false c t = refl

pub runs : (s : Bool) (qs : List RequestValue) (rs : List ReplyValue) (es : List Event) (t : Moment) (n : State) → Life s es t → Run s t.now qs rs n
    → (u : Moment) × Life s (with_run qs rs es) u × (u.now ≡ n) × (states_after_a_stop u ≡ after_a_stop_of_run t.now (states_after_a_stop t) qs rs)
runs s [] [] es t n l e = (t, l, sym e, refl)
runs s [] (r ∷ rs) es t n l e = absurd e
runs s (q ∷ qs) [] es t n l e = absurd e
runs s (query q ∷ qs) (r ∷ rs) es t n l e = runs s qs rs es t n l e.1
runs s (command c ∷ qs) (r ∷ rs) es t n l e =
    let u = moment_after_reply (is_refusal r) c t in
    let is : u.now ≡ moved t.now (command c) r = now_of (is_refusal r) c t in
    let lefts : states_after_a_stop u ≡ after_a_stop t.now (states_after_a_stop t) (command c) r = left_of (is_refusal r) (is_new t.now c) c t refl in
    let more = runs s qs rs (sent c r ∷ es) u n (t, l, (e.0, refl)) (subst (λ m. Run s m qs rs n) (sym is) e.1) in
    (more.0, more.1, more.2, more.3 ∙ ap (λ m. after_a_stop_of_run m (states_after_a_stop u) qs rs) is ∙ ap (λ k. after_a_stop_of_run (moved t.now (command c) r) k qs rs) lefts)
