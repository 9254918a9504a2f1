-- Each moment of a life has a state whose dumps and tags were judged, of finitely many projects.
use Rattle.std.proofs.Common.{◌≡◌, ◌∙◌, ◌||◌, Bool, true, false, cond, List, [], ◌∷◌, map, refl, sym, subst}
use Rattle.std.specs.Prelude.{ℕ, ⊤, ◌↔◌, Option, Some, None, is_some, Result, Ok, Err, Contains, bytes_eq}
use Rattle.std.proofs.lemmas.Slice.Eq.{bytes_eq-Decides}
use Rattle.lsif.specs.declared.profile.Profile.{Profile}
use Rattle.dump.specs.declared.fault.LineFault as dumps
use Rattle.dump.specs.Fault.{IsFault, IsFaultless}
use Rattle.dump.specs.Lines.{dump_of}
use Rattle.dump.specs.Progress.{DumpValue}
use Rattle.tags.specs.Judging.{HasTags}
use Rattle.tags.specs.Values.{TagValue}
use Rattle.tags.specs.declared.code.LineFault as tags
use Rattle.machine.specs.State.{Change, set_dump, set_tags, clear, dump_after, tags_after}
use Rattle.machine.specs.Moments.{IsIndex}
use Rattle.machine.specs.Judging.{judged, judged_dump, judged_tags, dump_change, tags_change}
use Rattle.machine.specs.Reply.{ReplyValue}
use Rattle.machine.specs.Requests.{ActionValue, put_dump, put_tags, remove, CommandValue}
use Rattle.machine.specs.Retries.{KeptValue, has_key, with_command, once, plain_dump, plain_tags, Event, Moment, Life}
use Rattle.streams.proofs.Members.{contains_head, contains_tail}
use Rattle.machine.proofs.Retrying.{is_plain}

-- what was judged sound
abbrev IsSoundChange : Change → Type 0
IsSoundChange (set_dump dump) = IsFaultless (map Ok dump.elements)
IsSoundChange (set_tags tags) = (text : List ℕ) × HasTags text tags
IsSoundChange clear = ⊤

-- what holds of the state that a history leaves
record IsSoundHistory (h : List KeptValue) : Type 0 where
  dumps : (p : List ℕ) (dump : DumpValue) → plain_dump h p ≡ Some dump → IsFaultless (map Ok dump.elements)
  tags : (p : List ℕ) (tags : List TagValue) → plain_tags h p ≡ Some tags → (text : List ℕ) × HasTags text tags
  projects : List (List ℕ)
  parts : (p : List ℕ) → (is_some (plain_dump h p) || is_some (plain_tags h p)) ≡ true → Contains projects p

no_history : IsSoundHistory []
no_history = record { dumps = λ p dump e. cc; tags = λ p tags e. cc; projects = []; parts = λ p e. cc }

dump_more : (change : Change) (old : Option DumpValue) (dump : DumpValue) → IsSoundChange change → (old ≡ Some dump → IsFaultless (map Ok dump.elements)) → dump_after change old ≡ Some dump → IsFaultless (map Ok dump.elements)
dump_more (set_dump new) old dump sound was e = let same : new ≡ dump = cc in subst (λ (d : DumpValue). IsFaultless (map Ok d.elements)) same sound
dump_more (set_tags tags) old dump sound was e = was e
dump_more clear old dump sound was e = cc

tags_more : (change : Change) (old : Option (List TagValue)) (tags : List TagValue) → IsSoundChange change → (old ≡ Some tags → (text : List ℕ) × HasTags text tags) → tags_after change old ≡ Some tags → (text : List ℕ) × HasTags text tags
tags_more (set_dump dump) old tags sound was e = was e
tags_more (set_tags new) old tags sound was e = let same : new ≡ tags = cc in subst (λ (ts : List TagValue). (text : List ℕ) × HasTags text ts) same sound
tags_more clear old tags sound was e = cc

module _ (k : KeptValue) (h : List KeptValue) (sound : IsSoundChange k.change) (was : IsSoundHistory h) where
  dumps_by : (b : Bool) (p : List ℕ) (dump : DumpValue) → cond b (dump_after k.change (plain_dump h p)) (plain_dump h p) ≡ Some dump → IsFaultless (map Ok dump.elements)
  dumps_by true p dump e = dump_more k.change (plain_dump h p) dump sound (was.dumps p dump) e
  dumps_by false p dump e = was.dumps p dump e

  tags_by : (b : Bool) (p : List ℕ) (tags : List TagValue) → cond b (tags_after k.change (plain_tags h p)) (plain_tags h p) ≡ Some tags → (text : List ℕ) × HasTags text tags
  tags_by true p tags e = tags_more k.change (plain_tags h p) tags sound (was.tags p tags) e
  tags_by false p tags e = was.tags p tags e

  parts_by : (b : Bool) (p : List ℕ) → bytes_eq k.project p ≡ b
      → (is_some (cond b (dump_after k.change (plain_dump h p)) (plain_dump h p)) || is_some (cond b (tags_after k.change (plain_tags h p)) (plain_tags h p))) ≡ true → Contains (k.project ∷ was.projects) p
  parts_by true p is e = subst (Contains (k.project ∷ was.projects)) ((bytes_eq-Decides k.project p).0 is) (contains_head k.project was.projects)
  parts_by false p is e = contains_tail k.project was.projects p (was.parts p e)

  more : IsSoundHistory (k ∷ h)
  more = record {
    dumps = λ p. dumps_by (bytes_eq k.project p) p;
    tags = λ p. tags_by (bytes_eq k.project p) p;
    projects = k.project ∷ was.projects;
    parts = λ p. parts_by (bytes_eq k.project p) p refl;
  }

-- what the laws of judgement say
abbrev pub SaysDump : Type 0
SaysDump = (profile : Profile) (body : List ℕ) (dump : DumpValue)
    → (judged_dump profile body ≡ Ok dump) ↔ ((dump.profile ≡ profile) × IsFault (dump_of profile body) None × (dump_of profile body ≡ map Ok dump.elements))

abbrev pub SaysTags : Type 0
SaysTags = (body : List ℕ) (tags : List TagValue) → (judged_tags body ≡ Ok tags) ↔ HasTags body tags

module _ (says_dump : SaysDump) (says_tags : SaysTags) where
  dump_sound : (profile : Profile) (body : List ℕ) (said : Result DumpValue dumps.LineFault) (change : Change) → judged_dump profile body ≡ said → dump_change said ≡ Ok change → IsSoundChange change
  dump_sound profile body (Err f) change is e = cc
  dump_sound profile body (Ok dump) change is e =
      let said = (says_dump profile body dump).0 is in
      let same : set_dump dump ≡ change = cc in
      subst IsSoundChange same (subst (λ r. IsFault r None) said.2 said.1)

  tags_sound : (body : List ℕ) (said : Result (List TagValue) tags.LineFault) (change : Change) → judged_tags body ≡ said → tags_change said ≡ Ok change → IsSoundChange change
  tags_sound body (Err f) change is e = cc
  tags_sound body (Ok tags) change is e = let same : set_tags tags ≡ change = cc in subst IsSoundChange same (body, (says_tags body tags).0 is)

  change_sound : (action : ActionValue) (change : Change) → judged action ≡ Ok change → IsSoundChange change
  change_sound (put_dump profile body) change e = dump_sound profile body (judged_dump profile body) change refl e
  change_sound (put_tags body) change e = tags_sound body (judged_tags body) change refl e
  change_sound remove change e = let same : clear ≡ change = cc in subst IsSoundChange same tt

  added : (has : Bool) (k : KeptValue) (h : List KeptValue) → IsSoundChange k.change → IsSoundHistory h → IsSoundHistory (cond has h (k ∷ h))
  added true k h sound was = was
  added false k h sound was = more k h sound was

  with_one : (c : CommandValue) (said : Result Change ReplyValue) (h : List KeptValue) → judged c.action ≡ said → IsSoundHistory h → IsSoundHistory (with_command c said h)
  with_one c (Err fault) h is was = was
  with_one c (Ok change) h is was = added (has_key c.project c.key h) (record { project = c.project; key = c.key; change = change }) h (change_sound c.action change is) was

  sound_history : (cs : List CommandValue) → IsSoundHistory (once cs)
  sound_history [] = no_history
  sound_history (c ∷ cs) = with_one c (judged c.action) (once cs) refl (sound_history cs)

  pub is_index : (store_may_refuse : Bool) (events : List Event) (t : Moment) → Life store_may_refuse events t → IsIndex t.now
  is_index store_may_refuse events t life =
      let plain = is_plain store_may_refuse events t life in
      let h = sound_history t.counted in
      record {
        dumps = λ p dump e. h.dumps p dump (sym (plain.dump p) ∙ e);
        tags = λ p tags e. h.tags p tags (sym (plain.tags p) ∙ e);
        projects = h.projects;
        parts = λ p e. h.parts p ((λ i. is_some (sym (plain.dump p) i) || is_some (sym (plain.tags p) i)) ∙ e);
      }
