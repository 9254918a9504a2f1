-- The definitions of the machine on small cases.
use Rattle.std.proofs.Common.{suc, zero, ◌≡◌, ◌∙◌, ℕ, false, true≢false, List, [], ◌∷◌, ◌++◌, refl, sym, ap, inl, inr, arith, slice_get}
use Rattle.std.specs.List.{flat_map}
use Rattle.std.specs.Prelude.{Option, Some, None, bytes_eq, codes, if◌then◌else◌}
use Rattle.lsif.specs.declared.element.MonikerKind.{MonikerKind}
use Rattle.lsif.specs.declared.element.MonikerKind.TheVariants.{Import, Export}
use Rattle.lsif.specs.declared.profile.Profile.TheVariants.{One}
use Rattle.streams.specs.Lines.{ended}
use Rattle.lsif.specs.Element.{IdValue, Reading, number, result_set, moniker, moniker_edge, vertex, edge}
use Rattle.lsif.specs.declared.request_kind.RequestKind.TheVariants.{Definition}
use Rattle.dump.specs.Graph.{element_at}
use Rattle.dump.specs.Monikers.{MarkValue}
use Rattle.dump.specs.Progress.{DumpValue}
use Rattle.dump.specs.Walks.{stays, ends}
use Rattle.machine.specs.declared.code.Code.TheVariants.{D01}
use Rattle.machine.specs.Answers.{Answers, no_dump}
use Rattle.machine.specs.Joins.{IsJoined}
use Rattle.machine.specs.Judging.{judged}
use Rattle.machine.specs.Machine.{effect_by, reply_of, reply_to, after}
use Rattle.machine.specs.State.{Accepted, State, nothing}
use Rattle.machine.specs.Reply.{ReplyValue, refused}
use Rattle.machine.specs.Requests.{CommandValue, DocumentPositionValue, position_query}
use Rattle.machine.specs.Uploads.{BodyValue, HasRead, no_dump_line}

-- ---- joins

-- result set 1 has moniker 2 of this kind
abbrev named : MonikerKind → DumpValue
named kind = record {
  profile = One;
  elements =
      vertex (number 1) result_set
      ∷ vertex (number 2) (moniker (record { scheme = codes "npm"; identifier = codes "lib::f"; kind = kind }))
      ∷ edge (number 3) (moniker_edge (number 1) (number 2))
      ∷ [];
}

abbrev mark_of_kind : MonikerKind → MarkValue
mark_of_kind kind = record { kind = kind; key = record { scheme = codes "npm"; identifier = codes "lib::f"; «package» = None } }

-- one project imports what another exports
abbrev both : State
both = record {
  dump = λ project. if bytes_eq project (codes "app") then Some (named Import) else if bytes_eq project (codes "lib") then Some (named Export) else None;
  tags = λ project. None;
  kept = λ project key. None;
}

-- what exports the key is joined to what imports it
pub joined_to_the_export : IsJoined both Definition (codes "app") (named Import) (number 1) (codes "lib") (named Export) (number 1)
unfolding element_at
joined_to_the_export = record {
  elsewhere = λ e. true≢false (sym (ap (λ (t : List ℕ). bytes_eq t (codes "app")) e));
  is_there = refl;
  here = mark_of_kind Import;
  there = mark_of_kind Export;
  here_marked = (number 1 ∷ [], number 1, ends refl, (0, omega arith, refl), (number 2, number 2, (0, omega arith, refl), stays, refl));
  there_marked = (number 2, number 2, (0, omega arith, refl), stays, refl);
  kinds = (refl, refl);
  same_moniker = refl;
}

-- no vertex is joined within the project itself
pub none_within_the_project : (m : State) (project : List ℕ) (dump second : DumpValue) (r y : IdValue) → IsJoined m Definition project dump r project second y → ⊥
none_within_the_project m project dump second r y joined = joined.elsewhere refl

-- ---- commands

-- a command whose key is kept has the kept reply, whatever its body, and changes nothing
pub kept_key_answers : (m : State) (c : CommandValue) (kept : Accepted) → m.kept c.project c.key ≡ Some kept → (reply_to m c ≡ reply_of kept) × (after m c ≡ m)
kept_key_answers m c kept e = (ap (λ (o : Option Accepted). reply_where o) e, ap (λ (o : Option Accepted). state_where o) e)
  where
    reply_where : Option Accepted → ReplyValue
    reply_where o = (effect_by m c o (judged c.action)).reply

    state_where : Option Accepted → State
    state_where o = (effect_by m c o (judged c.action)).after

-- ---- queries

-- no project of an empty database has a dump
pub nothing_has_no_dump : (target : DocumentPositionValue) → Answers nothing (position_query Definition target) (refused D01)
nothing_has_no_dump target = no_dump refl

-- ---- uploads

-- a dump of which one byte came, `{`
abbrev brace_came : BodyValue
brace_came = record { lines = no_dump_line One; last = codes "{"; is_out_of_memory = false }

no_reading : (k : ℕ) (line : Reading) → slice_get [] k ≡ Some line → ⊥
no_reading zero line e = cc
no_reading (suc k) line e = no_reading k line e

-- it represents the body of that byte
pub stands_for_the_brace : HasRead brace_came (codes "{")
stands_for_the_brace = inr ([], codes "{", (tt, (λ e. absurd (omega (arith, e)), tt), refl), (refl, λ k c has. no_reading k has.0 has.1, refl))

brace_is_there : (front : List ℕ) → [] ≡ front ++ codes "{" → ⊥
brace_is_there [] e = cc
brace_is_there (b ∷ front) e = cc

-- and not for the empty body
pub not_for_the_empty_body : HasRead brace_came [] → ⊥
not_for_the_empty_body (inl found) = cc
not_for_the_empty_body (inr (lines, last, cut, holds)) =
    brace_is_there (flat_map ended lines) (cut.2 ∙ ap (λ l. flat_map ended lines ++ l) (sym holds.2))
