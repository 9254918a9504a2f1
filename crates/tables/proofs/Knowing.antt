-- A slot that is known stays known while nothing is changed, and one that is named stays named.
use Rattle.std.proofs.Common.{◌≡◌, ◌∙◌, ap, sym, subst, List, ℕ, ℤ, Bool, true, Option, None, Some, Result, Ok, Err, OnOk, is_ok, string_bytes}
use Rattle.sqlite.specs.Effect.{Database}
use Rattle.sqlite.specs.State.{State, HasCleanDisk}
use Rattle.machine.specs.State as machine
use Rattle.tables.specs.Contents.{Contents, HasSlot, Keeps, Replies}
use Rattle.tables.specs.Schema.{schema_two}
use Rattle.tables.specs.Stands.{IsAsBefore, StandsFor}
use Rattle.tables.specs.Steps.Slots.{IsDumpSlot, IsKnown, IsNamed, IsSlotOf}
use Rattle.tables.specs.Steps.Clauses.{Reads}
use Rattle.sqlite_trees.specs.Tree.{Trees}
use Rattle.tables.specs.declared.parts.ProjectSlot.{ProjectSlot}
use Rattle.tables.specs.declared.slots.Part.{Part}
use Rattle.tables.specs.declared.slots.Part.TheVariants.{Dump}
use Rattle.tables.proofs.DumpEntries.{no_dump}
use Rattle.tables.proofs.FoundSlots.{the_slot}
use Rattle.tables.proofs.Looking.{still, survives_clean}

pub known_on : (mid new : State) (known : Option ProjectSlot) → (HasCleanDisk new → HasCleanDisk mid) → (HasCleanDisk new → IsAsBefore mid new) → IsKnown mid known → IsKnown new known
known_on mid new None cleans same knows = tt
known_on mid new (Some slot) cleans same knows = λ clean has m s.
    let was = (same clean).0 in
    subst (λ (d : Database). HasSlot d.trees slot.id (string_bytes slot.project) Dump) (sym was)
    (knows (cleans clean) (ap (λ (d : Database). d.schema) (sym was) ∙ has) m (subst (λ (d : Database). StandsFor d.trees m) was s))

-- where a selection succeeded
pub known_after : {A E : Type 0} {mid new : State} (r : Result A E) (known : Option ProjectSlot) → Reads (is_ok r) mid new → IsKnown mid known → OnOk r (IsKnown new known)
known_after {A} {E} {mid} {new} (Ok x) known reads knows = known_on mid new known (survives_clean mid new reads.looks) reads.kept knows
known_after (Err e) known reads knows = tt

-- what a selection from a project's dump says, after the one that found the dump's slot
pub by_slot : {old mid new : State} {k : Bool} {P : machine.State → List ℕ → Type 0} (project : List ℕ) (id : ℤ) (found : Option ℤ) → found ≡ Some id → Reads true old mid → Reads k mid new
    → (HasCleanDisk mid → old.now.schema ≡ schema_two → (m : machine.State) → StandsFor old.now.trees m → IsDumpSlot old.now.trees m project found)
    → (HasCleanDisk new → mid.now.schema ≡ schema_two → (m : machine.State) → StandsFor mid.now.trees m → (p : List ℕ) → HasSlot mid.now.trees id p Dump → P m p)
    → HasCleanDisk new → old.now.schema ≡ schema_two → (m : machine.State) → StandsFor old.now.trees m → P m project
by_slot {old} {mid} {new} {k} {P} project id found some first then slot says clean has m s =
    let there = subst (IsDumpSlot old.now.trees m project) some (slot (survives_clean mid new then.looks clean) has m s) in
    still old mid new (λ db. StandsFor db m × HasSlot db id project Dump) (λ db. P m project) first.kept then.looks (λ cleaner schema known. says cleaner schema m known.0 project known.1) clean has (s, there)

-- the slot that is found is that of the project's dump
pub dump_of_slot : (db : Trees) (m : machine.State) (s : StandsFor db m) (project : List ℕ) (found : Option ℤ) → IsSlotOf db s.parts project Dump found → IsDumpSlot db m project found
dump_of_slot db m s project None is = no_dump db m s project is
dump_of_slot db m s project (Some id) is = is

-- the slot that is known
pub known_slot : (s : State) (known : Option ProjectSlot) (slot : ProjectSlot) → known ≡ Some slot → IsKnown s known → HasCleanDisk s → s.now.schema ≡ schema_two → (m : machine.State) → StandsFor s.now.trees m
    → (project : List ℕ) → string_bytes slot.project ≡ project → HasSlot s.now.trees slot.id project Dump
known_slot s known slot is knows clean has m stands project of =
    subst (λ p. HasSlot s.now.trees slot.id p Dump) of (subst (IsKnown s) is knows clean has m stands)

-- the slot that is found
pub found_known : (old mid : State) (project : List ℕ) (found : Option ℤ) (id : ℤ) → found ≡ Some id → IsAsBefore old mid
    → (old.now.schema ≡ schema_two → (m : machine.State) (s : StandsFor old.now.trees m) → IsSlotOf old.now.trees s.parts project Dump found)
    → mid.now.schema ≡ schema_two → (m : machine.State) → StandsFor mid.now.trees m → HasSlot mid.now.trees id project Dump
found_known old mid project found id some same slot has m stands =
    let s = subst (λ (d : Database). StandsFor d.trees m) same.0 stands in
    let has_old = ap (λ (d : Database). d.schema) (sym same.0) ∙ has in
    subst (λ (d : Database). HasSlot d.trees id project Dump) (sym same.0) (the_slot old.now.trees s.parts project Dump id found (slot has_old m s) some)

pub named_on : (mid new : State) (named : Option ProjectSlot) → (HasCleanDisk new → HasCleanDisk mid) → (HasCleanDisk new → IsAsBefore mid new) → IsNamed mid named → IsNamed new named
named_on mid new None cleans same names = tt
named_on mid new (Some slot) cleans same names = λ clean has parts replies keeps project part of.
    let was = (same clean).0 in
    names (cleans clean) (ap (λ (d : Database). d.schema) (sym was) ∙ has) parts replies (subst (λ (d : Database). Keeps d.trees parts replies) was keeps)
    project part (subst (λ (d : Database). HasSlot d.trees slot.id project part) was of)

-- the slot that is named
pub named_slot : (s : State) (named : Option ProjectSlot) (slot : ProjectSlot) → named ≡ Some slot → IsNamed s named → HasCleanDisk s → s.now.schema ≡ schema_two
    → (parts : Contents) (replies : Replies) → Keeps s.now.trees parts replies → (project : List ℕ) (part : Part) → HasSlot s.now.trees slot.id project part
    → string_bytes slot.project ≡ project
named_slot s named slot is names = subst (IsNamed s) is names

-- the slot whose project is found
pub found_named : (old mid : State) (id : ℤ) (text : List ℕ) → IsAsBefore old mid
    → (old.now.schema ≡ schema_two → (parts : Contents) (replies : Replies) → Keeps old.now.trees parts replies → (project : List ℕ) (part : Part) → HasSlot old.now.trees id project part → text ≡ project)
    → mid.now.schema ≡ schema_two → (parts : Contents) (replies : Replies) → Keeps mid.now.trees parts replies → (project : List ℕ) (part : Part) → HasSlot mid.now.trees id project part → text ≡ project
found_named old mid id text same found has parts replies keeps project part of =
    found (ap (λ (d : Database). d.schema) (sym same.0) ∙ has) parts replies (subst (λ (d : Database). Keeps d.trees parts replies) same.0 keeps)
    project part (subst (λ (d : Database). HasSlot d.trees id project part) same.0 of)
