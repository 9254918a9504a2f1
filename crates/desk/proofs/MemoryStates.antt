-- What holds of one dump in memory, for a state in which a project has it.
use Rattle.std.proofs.Common.{◌≡◌, ◌⊎◌, inl, inr, ◌∙◌, Bool, true, false, List, [], map, ℕ, Option, Some, None, sym, subst}
use Rattle.std.specs.Prelude.{Result, Ok, Err, OnOk, OnErr, bytes_eq, if◌then◌else◌}
use Rattle.std.specs.Result.{IsErrAnd}
use Rattle.lsif.specs.Element.{ElementValue}
use Rattle.dump.specs.Fault.{IsFaultless}
use Rattle.dump.specs.declared.role.Role.{Role}
use Rattle.dump.specs.Places.{PlaceValue}
use Rattle.dump.specs.Progress.{DumpValue}
use Rattle.flatten.specs.Flat.{IsHoverRow}
use Rattle.tags.specs.Values.{TagValue}
use Rattle.machine.specs.State.{State, Change, set_dump, set_tags, clear, changed, dump_after}
use Rattle.machine.specs.Selections.{MarkText, FindsHover, FindsItems, FindsMarks}
use Rattle.desk.specs.Indexes.{AreFaultless}
use Rattle.desk.specs.Steps.Selected.{IsItemOf, IsMarkOf, IsHoverOf, hover_row}
use Rattle.desk.specs.Steps.Rows.{AreThose}
use Rattle.desk.proofs.Finding.{iff_trans}
use Rattle.streams.proofs.Members.{not_in_nil}

same_dump : (c d : DumpValue) → ◌≡◌ {A = Option DumpValue} (Some c) (Some d) → c ≡ d
same_dump c d e = cc

no_dump : (d : DumpValue) → ◌≡◌ {A = Option DumpValue} None (Some d) → ⊥
no_dump d e = cc

module _ (m : State) (project : List ℕ) where
  -- what is so in the project's dump
  abbrev InDump : {V : Type 0} → (List ElementValue → V → Type 0) → V → Type 0
  InDump P v = (dump : DumpValue) × (m.dump project ≡ Some dump) × P dump.elements v

  in_dump : {V : Type 0} (P : List ElementValue → V → Type 0) (dump : DumpValue) (xs : List V) → m.dump project ≡ Some dump → AreThose (P dump.elements) xs → AreThose (InDump P) xs
  in_dump P dump xs has are v = iff_trans (are v) ((λ p. (dump, has, p)), (λ h. subst (λ (d : DumpValue). P d.elements v) (same_dump h.0 dump (sym h.1 ∙ has)) h.2))

  in_none : {V : Type 0} (P : List ElementValue → V → Type 0) → m.dump project ≡ None → AreThose (InDump P) []
  in_none P none v = ((λ at. absurd (not_in_nil v at)), (λ h. absurd (no_dump h.0 (sym none ∙ h.1))))

  pub finds_items : (result : ℕ) (role : Role) (dump : DumpValue) (xs : List PlaceValue) → m.dump project ≡ Some dump → AreThose (IsItemOf dump.elements result role) xs → FindsItems m project result role xs
  finds_items result role = in_dump (λ es v. IsItemOf es result role v)

  pub finds_no_items : (result : ℕ) (role : Role) → m.dump project ≡ None → FindsItems m project result role []
  finds_no_items result role = in_none (λ es v. IsItemOf es result role v)

  pub finds_marks : (line : ℕ) (dump : DumpValue) (xs : List MarkText) → m.dump project ≡ Some dump → AreThose (IsMarkOf dump.elements line) xs → FindsMarks m project line xs
  finds_marks line = in_dump (λ es v. IsMarkOf es line v)

  pub finds_no_marks : (line : ℕ) → m.dump project ≡ None → FindsMarks m project line []
  finds_no_marks line = in_none (λ es v. IsMarkOf es line v)

  pub finds_hover : (result : ℕ) (dump : DumpValue) (o : Option (List ℕ)) → m.dump project ≡ Some dump → IsHoverOf dump.elements result o → FindsHover m project result o
  finds_hover result dump (Some contents) has h = (dump, has, h)
  finds_hover result dump None has h = λ contents f. h contents (subst (λ (d : DumpValue). IsHoverRow d.elements (hover_row result contents)) (same_dump f.0 dump (sym f.1 ∙ has)) f.2)

-- a change that puts a dump without fault, where it puts one
abbrev pub PutsFaultless : Change → Type 0
PutsFaultless change = (old : Option DumpValue) (dump : DumpValue) → dump_after change old ≡ Some dump → (IsFaultless (map Ok dump.elements)) ⊎ (old ≡ Some dump)

put_if : (b : Bool) (change : Change) → PutsFaultless change → (old : Option DumpValue) (dump : DumpValue)
    → (if b then dump_after change old else old) ≡ Some dump → (IsFaultless (map Ok dump.elements)) ⊎ (old ≡ Some dump)
put_if true change puts old dump e = puts old dump e
put_if false change puts old dump e = inr e

faultless_after : (m : State) (project key : List ℕ) (change : Change) → PutsFaultless change → AreFaultless m → AreFaultless (changed m project key change)
faultless_after m project key change puts free p dump e = elim (put_if (bytes_eq project p) change puts (m.dump p) dump e) [
  | inl here ↦ here
  | inr was ↦ free p dump was
]

pub clear_faultless : (m : State) (project key : List ℕ) → AreFaultless m → AreFaultless (changed m project key clear)
clear_faultless m project key free = faultless_after m project key clear (λ old dump e. absurd (no_dump dump e)) free

pub tags_faultless : (m : State) (project key : List ℕ) (tags : List TagValue) → AreFaultless m → AreFaultless (changed m project key (set_tags tags))
tags_faultless m project key tags free = faultless_after m project key (set_tags tags) (λ old dump e. inr e) free

pub dump_faultless : (m : State) (project key : List ℕ) (dump : DumpValue) → IsFaultless (map Ok dump.elements) → AreFaultless m → AreFaultless (changed m project key (set_dump dump))
dump_faultless m project key dump here free = faultless_after m project key (set_dump dump)
    (λ old d e. inl (subst (λ (x : DumpValue). IsFaultless (map Ok x.elements)) (same_dump dump d e) here)) free

-- what is known of an answer that is a fault
pub said_of_fault : {A E : Type 0} (F : E → Type 0) (r : Result A E) (P Q : Type 0) → IsErrAnd r F → Q → OnOk r P × OnErr r Q
said_of_fault F (Ok a) P Q never q = absurd never
said_of_fault F (Err e) P Q is q = (tt, q)
