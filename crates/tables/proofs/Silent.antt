-- Queries give no rows of a write, whatever the tables.
use Rattle.std.proofs.Common.{◌≡◌, ℕ, Bool, true, false, List, Option, None, IsSome, Ok, Err, IfOk, refl, sym, subst, if◌then◌else◌}
use Rattle.sqlite_value.specs.Order.{Row}
use Rattle.sqlite_trees.specs.Tree.{Trees}
use Rattle.sqlite_schema.specs.declared.schema.Schema.{Schema}
use Rattle.sqlite_schema.specs.declared.command.Command.{Command}
use Rattle.sqlite_schema.specs.declared.command.Returning.{Returning}
use Rattle.sqlite_resolve.specs.declared.error.CompileError.TheVariants.{NoSuchTable}
use Rattle.sqlite_resolve.specs.Lowering.{Checked, and_then}
use Rattle.sqlite_resolve.specs.Compile.{first, compiled, command, planned, meaning, returning, with_command}
use Rattle.sqlite_resolve.specs.declared.compiled.Compiled.{Compiled}
use Rattle.sqlite.specs.Given.{Returns}
use Rattle.sqlite.specs.Listing.{understood, if_select, is_select, listing_schema, reads_listing}
use Rattle.sqlite.specs.State.{State, CommitsShowing}
use Rattle.tables.specs.Steps.Selected.{IsSilent}

-- the statement that the text spells has no RETURNING
abbrev pub ReturnsNothing : List ℕ → Type 0
ReturnsNothing sql = IfOk (first sql) (λ p. (schema : Schema) (base : ℕ) → returning schema base p.statement ≡ Ok None)

planned_so : {F : Type 0} (formats : F) (r : Checked (Option Returning)) (c : Checked Command) (Build : F × (Command × Option Returning) → Compiled)
    → ((plan : F × (Command × Option Returning)) → (Build plan).returning ≡ plan.1.1) → r ≡ Ok None
    → IsSilent (and_then (and_then (and_then r (λ shown. and_then c (λ command. Ok (command, shown)))) (λ found. Ok (formats, found))) (λ plan. Ok (Build plan)))
planned_so formats r c Build has is =
    subst (λ x. IsSilent (and_then (and_then (and_then x (λ shown. and_then c (λ command. Ok (command, shown)))) (λ found. Ok (formats, found))) (λ plan. Ok (Build plan)))) (sym is)
    (elim c as (λ x. IsSilent (and_then (and_then (and_then (Ok None) (λ shown. and_then x (λ command. Ok (command, shown)))) (λ found. Ok (formats, found))) (λ plan. Ok (Build plan)))) [
      | Ok command ↦ has (formats, (command, None))
      | Err e ↦ tt
    ])

compiled_silent : (schema : Schema) (sql : List ℕ) → ReturnsNothing sql → IsSilent (compiled schema sql)
unfolding compiled planned meaning
compiled_silent schema sql = elim (first sql) as (λ r. IfOk r (λ p. (schema : Schema) (base : ℕ) → returning schema base p.statement ≡ Ok None)
    → IsSilent (and_then r (λ p. and_then (planned schema p) (λ plan. Ok (with_command p plan))))) [
      | Ok p ↦ λ h. planned_so _ _ _ (with_command p) (λ plan. refl) (h schema _)
      | Err e ↦ λ h. tt
    ]

either : (b : Bool) (x y : Checked Compiled) → IsSilent x → IsSilent y → IsSilent (if b then x else y)
either true x y p q = p
either false x y p q = q

if_select_silent : (r : Checked Compiled) → IsSilent r → IsSilent (if_select r)
if_select_silent (Ok c) h = either (is_select c.command) (Ok c) (Err NoSuchTable) h tt
if_select_silent (Err e) h = tt

pub silent : (sql : List ℕ) → ReturnsNothing sql → (schema : Schema) → IsSilent (understood schema sql)
unfolding understood
silent sql h schema = either (reads_listing schema sql) (if_select (compiled listing_schema sql)) (compiled schema sql) (if_select_silent (compiled listing_schema sql) (compiled_silent listing_schema sql h)) (compiled_silent schema sql h)

pub never_returns : (r : Checked Compiled) → IsSilent r → Returns r → ⊥
never_returns (Ok c) silent some = absurd (let e = subst IsSome silent some in cc)
never_returns (Err e) silent none = none

-- what has no RETURNING commits nothing
pub never_commits : (sql : List ℕ) (params : Row) (s : State) (db : Trees) → IsSilent (understood s.now.schema sql) → CommitsShowing sql params s db → ⊥
unfolding CommitsShowing
never_commits sql params s db silent h = let quiet = subst IsSilent h.1.is silent in absurd (let e = subst IsSome quiet h.2 in cc)
