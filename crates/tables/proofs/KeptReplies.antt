-- The kept replies, as they are selected.
use Rattle.std.proofs.Common.{◌≡◌, inl, inr, ℕ, ℤ, List, [], ◌∷◌, Option, Some, None, codes, refl, sym, ap, ◌∙◌, option_map, string_bytes}
use Rattle.std.specs.declared.string.String.{String}
use Rattle.std.specs.declared.alloc.Global.{Global}
use Rattle.sqlite_value.specs.Order.{Row}
use Rattle.sqlite_value.specs.declared.value.Value.TheVariants.{Text}
use Rattle.sqlite_sql.specs.Term.{col}
use Rattle.sqlite_trees.specs.Tree.{Trees}
use Rattle.sqlite.specs.State.{State, Shown}
use Rattle.tables.specs.Schema.{schema_two, keyed}
use Rattle.tables.specs.Contents.{Contents, Replies, Keeps}
use Rattle.tables.specs.declared.replies.TheConstants.{SELECT_REPLY}
use Rattle.tables.specs.Steps.Selected.{AreTyped, IsFirstRead, ShowsOne}
use Rattle.tables.specs.TableTrees.{keyed_tree}
use Rattle.tables.proofs.Commands.{select_reply_is}
use Rattle.tables.proofs.Entries.{typed_as}
use Rattle.tables.proofs.Selecting.{IsSelection, shows_one}

record ReplyEntry : Type 0 where
  pub project : List ℕ
  pub key : List ℕ
  pub reply : List ℕ

abbrev reply_values : ReplyEntry → Row
reply_values e = Text e.project ∷ Text e.key ∷ Text e.reply ∷ []

abbrev reply_shown : ℤ → ReplyEntry → Row
reply_shown id e = Text e.reply ∷ []

abbrev reply_columns : String Global → Row
reply_columns s = Text (string_bytes s) ∷ []

module _ (project key : List ℕ) where
  abbrev IsUnder : ℤ → ReplyEntry → Type 0
  IsUnder id e = (e.project ≡ project) × (e.key ≡ key)

  selection : IsSelection reply_values reply_shown IsUnder SELECT_REPLY.now (Text project ∷ Text key ∷ []) 3
  selection = record {
    pairs = (1, 0) ∷ (2, 1) ∷ [];
    terms = col 1 3 ∷ [];
    names = codes "reply" ∷ [];
    is = select_reply_is;
    own = λ db. refl;
    shows = λ id e. refl;
    alike = λ id e. (tt, (tt, tt));
    wants = λ id e h. ((let a = h.0 in cc), (let a = h.1.0 in cc));
    wanted = λ id e w. (ap Text w.0, (ap Text w.1, tt));
  }

  module _ (db : Trees) (parts : Contents) (replies : Replies) (is : Keeps db parts replies) where
    typed : AreTyped reply_values (db keyed_tree)
    typed = typed_as reply_values db parts replies is keyed (inr (inr (inl refl))) (λ row h. let r = (is.keyed row).0 h in (record { project = r.project; key = r.key; reply = r.reply }, r.is))

    is_kept : (found : Option (String Global)) → ShowsOne reply_values reply_shown IsUnder reply_columns db 3 found → option_map string_bytes found ≡ replies project key
    is_kept None none = elim_kept (replies project key) refl
      where
        elim_kept : (kept : Option (List ℕ)) → replies project key ≡ kept → ◌≡◌ {A = Option (List ℕ)} None (replies project key)
        elim_kept None e = sym e
        elim_kept (Some reply) e =
            absurd (none (record { project = project; key = key; reply = reply }) ((is.keyed _).1 (record { project = project; key = key; reply = reply; has = e; is = refl }), (refl, refl)))
    is_kept (Some text) one =
        let r = (is.keyed _).0 one.1.0 in
        let e = one.0 in
        let p : r.project ≡ project = (let a = r.is in cc) ∙ one.1.1.0 in
        let k : r.key ≡ key = (let a = r.is in cc) ∙ one.1.1.1 in
        let t : string_bytes text ≡ r.reply = let a = r.is in let b = one.2 in cc in
        ap (λ (x : List ℕ). Some x) t ∙ (sym r.has ∙ (ap (λ (q : List ℕ). replies q r.key) p ∙ ap (replies project) k))

  pub reply_found : (old new : State) (rows : List Row) (found : Option (String Global)) (parts : Contents) (replies : Replies) → Keeps old.now.trees parts replies → old.now.schema ≡ schema_two → Shown SELECT_REPLY.now (Text project ∷ Text key ∷ []) old new rows
      → IsFirstRead reply_columns rows found → option_map string_bytes found ≡ replies project key
  unfolding selection
  reply_found old new rows found parts replies is has shown read =
      is_kept old.now.trees parts replies is found
      (shows_one reply_values reply_shown IsUnder reply_columns SELECT_REPLY.now (Text project ∷ Text key ∷ []) 3 selection (λ x. refl) old new rows has (typed old.now.trees parts replies is) shown found read)
