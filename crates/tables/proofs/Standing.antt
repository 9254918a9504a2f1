-- The tables represent the next state where they keep its parts and its replies.
use Rattle.std.proofs.Common.{◌≡◌, ◌≢◌, ◌&&◌, inl, inr, ℕ, Bool, true, false, List, Option, Some, None, option_map, if◌then◌else◌, bytes_eq, refl, sym, ap, subst, ◌∙◌, zero, suc, nat_lt, is_some, arith, ◌||◌, ◌↔◌}
use Rattle.std.proofs.lemmas.Bool.{cases_Bool}
use Rattle.std.proofs.lemmas.Bool.Decides.{nat_tests}
use Rattle.std.proofs.lemmas.Map.Text.{is_eq-slice_cmp}
use Rattle.sqlite_value.specs.Order.{Row}
use Rattle.sqlite_trees.specs.Tree.{Trees}
use Rattle.dump.specs.Progress.{DumpValue}
use Rattle.tags.specs.Values.{TagValue}
use Rattle.tables.specs.Columns.{tag_rows}
use Rattle.tables.specs.Contents.{Contents, Replies, Keeps, IsReply, same_text, changed as replaced, kept}
use Rattle.tables.specs.Databases.{IsListed}
use Rattle.tables.specs.Parts.{same_part}
use Rattle.tables.specs.declared.slots.Part.{Part}
use Rattle.tables.specs.declared.slots.Part.TheVariants.{Dump, Tags}
use Rattle.tables.specs.Schema.{schema_two}
use Rattle.tables.specs.Stands.{Each, IsDump, AreTags, StandsFor, replies_of}
use Rattle.machine.specs.State.{State, Accepted, Change, set_dump, set_tags, clear, accepted_text, changed, text_after}
use Rattle.tables.proofs.Keeping.{same_text_is, same_text_itself, same_part_is}

-- ---- equality of texts

text_same : (a b : List ℕ) → same_text b a ≡ bytes_eq a b
text_same a b = elim (cases_Bool (same_text b a)) [
  | inl same ↦ let e = same_text_is b a same in same ∙ (sym (same_text_itself a) ∙ (ap (same_text a) (sym e) ∙ is_eq-slice_cmp a b))
  | inr other ↦ elim (cases_Bool (same_text a b)) [
    | inl same ↦ absurd (let e = same_text_is a b same in let yes = same_text_itself a in let off = rw (sym e) at other in cc)
    | inr off ↦ other ∙ (sym off ∙ is_eq-slice_cmp a b)
  ]
]

-- ---- replies

reply_picked : (a b c d : Bool) (reply : List ℕ) (accepted : Accepted) (was : Option Accepted) → a ≡ c → b ≡ d → reply ≡ accepted_text accepted
    → (if a && (b && true) then Some reply else option_map accepted_text was) ≡ option_map accepted_text (if c && d then Some accepted else was)
reply_picked true true c d reply accepted was p q e = rw (← p, ← q, e) refl
reply_picked true false c d reply accepted was p q e = rw (← p, ← q) refl
reply_picked false b c d reply accepted was p q e = rw (← p) refl

reply_kept : (m : State) (project key reply : List ℕ) (change : Change) → reply ≡ text_after m project change → (p k : List ℕ) → kept (replies_of m) project key reply p k ≡ replies_of (changed m project key change) p k
reply_kept m project key reply change text p k = reply_picked (same_text p project) (same_text k key) (bytes_eq project p) (bytes_eq key k) reply _ (m.kept p k) (text_same project p) (text_same key k) text

-- replies that are equal everywhere are kept by the same tables
replies_same : (parts : Contents) (replies others : Replies) (db : Trees) → ((p k : List ℕ) → replies p k ≡ others p k) → Keeps db parts replies → Keeps db parts others
replies_same parts replies others db same is = record {
  ordered = is.ordered;
  version = is.version;
  slots = is.slots;
  there = is.there;
  single = is.single;
  keyed = λ row. (
    (λ h. let r = (is.keyed row).0 h in record { project = r.project; key = r.key; reply = r.reply; has = sym (same r.project r.key) ∙ r.has; is = r.is }),
    (λ (r : IsReply others row). (is.keyed row).1 (record { project = r.project; key = r.key; reply = r.reply; has = same r.project r.key ∙ r.has; is = r.is })),
  );
  children = is.children;
}

-- ---- parts

picked : {X : Type 0} (HasRows : X → (ℕ → List Row) → Type 0) (a b : Bool) (new old : Option X) (rows was : Option (ℕ → List Row)) → a ≡ b → Each HasRows new rows → Each HasRows old was
    → Each HasRows (if b then new else old) (if a && true then rows else was)
picked HasRows true b new old rows was same is before = rw (← same) is
picked HasRows false b new old rows was same is before = rw (← same) before

never : {X : Type 0} (b : Bool) (x y : X) → (if b && false then x else y) ≡ y
never true x y = refl
never false x y = refl

-- the rows of another kind of part stay
apart : (parts : Contents) (project : List ℕ) (part : Part) (rows : Option (ℕ → List Row)) (p : List ℕ) (k : Part) → k ≢ part → replaced parts project part rows p k ≡ parts p k
apart parts project part rows p k other = elim (cases_Bool (same_part k part)) [
  | inl same ↦ absurd (other (same_part_is k part same))
  | inr off ↦ rw off (never (same_text p project) rows (parts p k))
]

stays : {X : Type 0} (b : Bool) (x : X) → (if b then x else x) ≡ x
stays true x = refl
stays false x = refl

-- a dump is replaced
pub dump_changes : (db next : Trees) (m : State) (is : StandsFor db m) (project key reply : List ℕ) (dump : DumpValue) (rows : ℕ → List Row) → IsDump dump rows → reply ≡ text_after m project (set_dump dump)
    → Keeps next (replaced is.parts project Dump (Some rows)) (kept (replies_of m) project key reply) → IsListed schema_two next → StandsFor next (changed m project key (set_dump dump))
dump_changes db next m is project key reply dump rows of text keeps listed = record {
  listed = listed;
  parts = replaced is.parts project Dump (Some rows);
  keeps = replies_same _ (kept (replies_of m) project key reply) _ next (reply_kept m project key reply (set_dump dump) text) keeps;
  dumps = λ p. picked IsDump (same_text p project) (bytes_eq project p) (Some dump) (m.dump p) (Some rows) (is.parts p Dump) (text_same project p) of (is.dumps p);
  tags = λ p. subst (λ o. Each AreTags o (replaced is.parts project Dump (Some rows) p Tags)) (sym (stays (bytes_eq project p) (m.tags p)))
      (subst (Each AreTags (m.tags p)) (sym (apart is.parts project Dump (Some rows) p Tags (λ e. cc))) (is.tags p));
}

-- tags are replaced
pub tags_change : (db next : Trees) (m : State) (is : StandsFor db m) (project key reply : List ℕ) (tags : List TagValue) → reply ≡ text_after m project (set_tags tags)
    → Keeps next (replaced is.parts project Tags (Some (tag_rows tags))) (kept (replies_of m) project key reply) → IsListed schema_two next → StandsFor next (changed m project key (set_tags tags))
tags_change db next m is project key reply tags text keeps listed = record {
  listed = listed;
  parts = replaced is.parts project Tags (Some (tag_rows tags));
  keeps = replies_same _ (kept (replies_of m) project key reply) _ next (reply_kept m project key reply (set_tags tags) text) keeps;
  dumps = λ p. subst (λ o. Each IsDump o (replaced is.parts project Tags (Some (tag_rows tags)) p Dump)) (sym (stays (bytes_eq project p) (m.dump p)))
      (subst (Each IsDump (m.dump p)) (sym (apart is.parts project Tags (Some (tag_rows tags)) p Dump (λ e. cc))) (is.dumps p));
  tags = λ p. picked AreTags (same_text p project) (bytes_eq project p) (Some tags) (m.tags p) (Some (tag_rows tags)) (is.parts p Tags) (text_same project p) refl (is.tags p);
}

-- both parts go
pub both_go : (db next : Trees) (m : State) (is : StandsFor db m) (project key reply : List ℕ) → reply ≡ text_after m project clear
    → Keeps next (replaced (replaced is.parts project Dump None) project Tags None) (kept (replies_of m) project key reply) → IsListed schema_two next → StandsFor next (changed m project key clear)
both_go db next m is project key reply text keeps listed =
    let first = replaced is.parts project Dump None in
    record {
      listed = listed;
      parts = replaced first project Tags None;
      keeps = replies_same _ (kept (replies_of m) project key reply) _ next (reply_kept m project key reply clear text) keeps;
      dumps = λ p. subst (Each IsDump (if bytes_eq project p then None else m.dump p)) (sym (apart first project Tags None p Dump (λ e. cc))) (picked IsDump (same_text p project) (bytes_eq project p) None (m.dump p) None (is.parts p Dump) (text_same project p) tt (is.dumps p));
      tags = λ p. picked AreTags (same_text p project) (bytes_eq project p) None (m.tags p) None (first p Tags) (text_same project p) tt (subst (Each AreTags (m.tags p)) (sym (apart is.parts project Dump None p Tags (λ e. cc))) (is.tags p));
    }

-- ---- whether a part was there

was_there : {X : Type 0} (count : ℕ) (o : Option X) → (count ≡ 0) ↔ (o ≡ None) → nat_lt 0 count ≡ is_some o
was_there zero None h = refl
was_there (suc n) None h = absurd (let e = h.1 refl in cc)
was_there zero (Some x) h = absurd (let e = h.0 refl in cc)
was_there (suc n) (Some x) h = grind (arith, nat_tests)

-- slots of a dump and of tags were taken out
pub were_there : (dumps tags : ℕ) (parts : Contents) (project : List ℕ) → (dumps ≡ 0) ↔ (parts project Dump ≡ None) → (tags ≡ 0) ↔ (replaced parts project Dump None project Tags ≡ None)
    → (nat_lt 0 dumps || nat_lt 0 tags) ≡ (is_some (parts project Dump) || is_some (parts project Tags))
were_there dumps tags parts project p q =
    rw (was_there dumps (parts project Dump) p, was_there tags (replaced parts project Dump None project Tags) q, apart parts project Dump None project Tags (λ e. cc)) refl

is_there : {X : Type 0} (HasRows : X → (ℕ → List Row) → Type 0) (o : Option X) (rows : Option (ℕ → List Row)) → Each HasRows o rows → is_some rows ≡ is_some o
is_there HasRows None None is = refl
is_there HasRows None (Some rows) none = absurd none
is_there HasRows (Some x) None none = absurd none
is_there HasRows (Some x) (Some rows) is = refl

-- the parts that the tables keep are those that the state has
pub are_there : (db : Trees) (m : State) (is : StandsFor db m) (project : List ℕ) → (is_some (is.parts project Dump) || is_some (is.parts project Tags)) ≡ (is_some (m.dump project) || is_some (m.tags project))
are_there db m is project = rw (is_there IsDump (m.dump project) (is.parts project Dump) (is.dumps project), is_there AreTags (m.tags project) (is.parts project Tags) (is.tags project)) refl

-- a key that isn't kept has no text
pub unkept : (m : State) (project key : List ℕ) → m.kept project key ≡ None → replies_of m project key ≡ None
unkept m project key none = ap (option_map accepted_text) none
