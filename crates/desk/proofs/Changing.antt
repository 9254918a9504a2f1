-- What a project has once one project of a map is changed.
use Rattle.std.proofs.Common.{Global, ◌≡◌, ◌∙◌, ◌&&◌, ℕ, Bool, true, false, cond, List, Option, Some, None, refl, sym, ap}
use Rattle.std.specs.Prelude.{Result, Ok, Err, OnOk, OnErr, String, string_bytes, bytes_eq, unwrap_or, option_and_then, option_map, if◌then◌else◌}
use Rattle.std.specs.BTreeMap.{BTreeMap, get_by_text}
use Rattle.std.proofs.lemmas.Slice.Eq.{bytes_eq-Decides}
use Rattle.machine.specs.State.{State, Change, accepted, accepted_text, changed, dump_after, tags_after, text_after}
use Rattle.desk.specs.Steps.Plain.{Stands, kept_in}
use Rattle.desk.specs.declared.project.Project.{Project}

pub on_ok : {A E : Type 0} (r : Result A E) (P Q R S : Type 0) → (P → Q → R → S) → OnOk r P → OnOk r Q → OnOk r R → OnOk r S
on_ok (Ok a) P Q R S f p q s = f p q s
on_ok (Err e) P Q R S f p q s = tt

pub on_err : {A E : Type 0} (r : Result A E) (P Q R S : Type 0) → (P → Q → R → S) → OnErr r P → OnErr r Q → OnErr r R → OnErr r S
on_err (Ok a) P Q R S f p q s = tt
on_err (Err e) P Q R S f p q s = f p q s

-- the project of this name was `was`, or new, and is `now`
pub record IsChanged (old new : List ℕ → Option Project) (name : List ℕ) (fresh was now : Project) : Type 0 where
  pub found : (p : List ℕ) → new p ≡ (if bytes_eq name p then Some now else old p)
  pub before : was ≡ unwrap_or (old name) fresh

module _ (old new : List ℕ → Option Project) (name : List ℕ) (fresh was now : Project) (changed : IsChanged old new name fresh was now) {D : Type 0} (field : Project → Option D) (nothing : field fresh ≡ None) where
  had : (o : Option Project) → field (unwrap_or o fresh) ≡ option_and_then field o
  had None = nothing
  had (Some q) = refl

  at_name : (f : Option D → Option D) → field now ≡ f (field was) → (p : List ℕ) (b : Bool) → bytes_eq name p ≡ b → new p ≡ cond b (Some now) (old p)
      → option_and_then field (new p) ≡ cond b (f (option_and_then field (old p))) (option_and_then field (old p))
  at_name f is p true e there =
      let same : name ≡ p = (bytes_eq-Decides name p).0 e in
      ap (option_and_then field) there ∙ is ∙ ap f (ap field changed.before ∙ had (old name) ∙ ap (λ q. option_and_then field (old q)) same)
  at_name f is p false e there = ap (option_and_then field) there

  fields : (f : Option D → Option D) → field now ≡ f (field was) → (p : List ℕ)
      → option_and_then field (new p) ≡ (if bytes_eq name p then f (option_and_then field (old p)) else option_and_then field (old p))
  fields f is p = at_name f is p (bytes_eq name p) refl (changed.found p)

  same_both : (b : Bool) (o : Option D) → cond b o o ≡ o
  same_both true o = refl
  same_both false o = refl

  same : field now ≡ field was → (p : List ℕ) → option_and_then field (new p) ≡ option_and_then field (old p)
  same is p = fields (λ o. o) is p ∙ same_both (bytes_eq name p) (option_and_then field (old p))

both : {D : Type 0} (a b : Bool) (x y : D) → cond a (cond b x y) y ≡ cond (a && b) x y
both true b x y = refl
both false b x y = refl

chosen : {X D : Type 0} (f : X → D) (b : Bool) (x : X) (o : Option X) → option_map f (cond b (Some x) o) ≡ cond b (Some (f x)) (option_map f o)
chosen f true x o = refl
chosen f false x o = refl

-- nothing is kept of a project
pub record IsNew (fresh : Project) : Type 0 where
  pub dump : fresh.dump ≡ None
  pub tags : fresh.tags ≡ None
  pub kept : (k : List ℕ) → get_by_text fresh.kept k ≡ None

-- what is kept of all projects, once one of them is changed
module _ (before after : BTreeMap (String Global) Project) (name : List ℕ) (fresh was now : Project) (is_new : IsNew fresh) (is : IsChanged (get_by_text before) (get_by_text after) name fresh was now) (m : State) (stood : Stands before m) where
  abbrev under : List ℕ → Project → Option (List ℕ)
  under k q = option_map string_bytes (get_by_text q.kept k)

  none_under : (k : List ℕ) → under k fresh ≡ None
  none_under k = ap (option_map string_bytes) (is_new.kept k)

  pub stands_changed : (key : List ℕ) (change : Change) (reply : String Global) → string_bytes reply ≡ text_after m name change → now.dump ≡ dump_after change was.dump → now.tags ≡ tags_after change was.tags
      → ((k : List ℕ) → get_by_text now.kept k ≡ (if bytes_eq key k then Some reply else get_by_text was.kept k)) → Stands after (changed m name key change)
  stands_changed key change reply text dump tags kept = record {
    dump = λ p. ap (λ o. cond (bytes_eq name p) (dump_after change o) o) (stood.dump p) ∙ sym (fields _ _ _ _ _ _ is (λ (q : Project). q.dump) is_new.dump (dump_after change) dump p);
    tags = λ p. ap (λ o. cond (bytes_eq name p) (tags_after change o) o) (stood.tags p) ∙ sym (fields _ _ _ _ _ _ is (λ (q : Project). q.tags) is_new.tags (tags_after change) tags p);
    kept = λ p k.
        let made : Option (List ℕ) → Option (List ℕ) = λ o. cond (bytes_eq key k) (Some (string_bytes reply)) o in
        let here : under k now ≡ made (under k was) = ap (option_map string_bytes) (kept k) ∙ chosen string_bytes (bytes_eq key k) reply (get_by_text was.kept k) in
        let there = fields _ _ _ _ _ _ is (under k) (none_under k) made here p ∙ both (bytes_eq name p) (bytes_eq key k) (Some (string_bytes reply)) (kept_in before p k) in
        let is_made = bytes_eq name p && bytes_eq key k in
        chosen accepted_text is_made (accepted change (m.dump name) (m.tags name)) (m.kept p k) ∙ ap (λ o. cond is_made (Some (text_after m name change)) o) (stood.kept p k) ∙ ap (λ t. cond is_made (Some t) (kept_in before p k)) (sym text) ∙ sym there;
  }

  pub stands_same : now.dump ≡ was.dump → now.tags ≡ was.tags → ((k : List ℕ) → get_by_text now.kept k ≡ get_by_text was.kept k) → Stands after m
  stands_same dump tags kept = record {
    dump = λ p. stood.dump p ∙ sym (same _ _ _ _ _ _ is (λ (q : Project). q.dump) is_new.dump dump p);
    tags = λ p. stood.tags p ∙ sym (same _ _ _ _ _ _ is (λ (q : Project). q.tags) is_new.tags tags p);
    kept = λ p k. stood.kept p k ∙ sym (same _ _ _ _ _ _ is (under k) (none_under k) (ap (option_map string_bytes) (kept k)) p);
  }
