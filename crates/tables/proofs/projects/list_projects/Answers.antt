use Rattle.std.proofs.Common.{◌≡◌, ◌∙◌, ◌++◌, [], ◌∷◌, List, ℕ, map, reverse, rules, arith, sym, ap, subst, append-nil, string_bytes}
use Rattle.std.specs.List.{AllByRecursion}
use Rattle.std.proofs.lemmas.List.{map-append}
use Rattle.sqlite.specs.Held.{state}
use Rattle.dump.specs.Places.{IsListing}
use Rattle.streams.proofs.Members.{nil_of}
use Rattle.tables.specs.Stands.{StandsFor}
use Rattle.machine.specs.Projects.{text_cmp}
use Rattle.machine.specs.Found.{project_found}
use Rattle.machine.specs.declared.found.FoundProject.{FoundProject}
use Rattle.tables.specs.Steps.Slots.{HasPart, IsTold}
use Rattle.tables.proofs.Looking.{reads_failed, reads_then, still, survives_clean}
use Rattle.tables.proofs.Popping.{all_left, one_less}
use Rattle.tables.proofs.ProjectNames.{names_of, text_of, projects_are, told_all}
use Rattle.tables.proofs.projects.list_projects.Goals as goal

pub loop-name-init : goal.loop-name-init
loop-name-init g c = record {
  reads = c.in_ok-left.ensures.reads;
  names = λ clean has parts replies is.
      let left = ap (λ xs. reverse (map text_of xs)) c.reverse.ensures.items ∙ all_left text_of c.in_ok-left.left.items in
      subst (λ found. IsListing text_cmp (HasPart parts) (names_of found ++ reverse (map text_of c.reverse.new.self.items))) (sym c.new-found.ensures.items)
      (subst (IsListing text_cmp (HasPart parts)) (sym left) (c.in_ok-left.ensures.names clean has parts replies is));
  told = λ clean has m s. subst (λ found. AllByRecursion (IsTold m) (map project_found found)) (sym c.new-found.ensures.items) tt;
}

pub returns-in_err-project-clause-reads : goal.returns-in_err-project-clause-reads
returns-in_err-project-clause-reads g c = reads_failed (search rules) (reads_then c.loop-name.invariant.reads c.project_of.ensures.reads)

pub returns-then-is_err-clause-reads : goal.returns-then-is_err-clause-reads
returns-then-is_err-clause-reads g c = reads_failed (search rules) (reads_then c.loop-name.invariant.reads c.project_of.ensures.reads)

pub loop-name-preserved : goal.loop-name-preserved
loop-name-preserved g c =
    let old = state g.S.Store c.args.conn.now in
    let mid = state g.S.Store c.loop-name.conn in
    let new = state g.S.Store c.project_of.new.conn in
    let was = c.loop-name.invariant in
    let project = c.in_ok-project.project in
    let pushed : c.push.new.self.items ≡ c.loop-name.found.items ++ project ∷ [] = search rules in
    let popped : c.loop-name.left.items ≡ c.pop.new.self.items ++ c.in-Some.name ∷ [] = search rules in
    let more : names_of c.push.new.self.items ≡ names_of c.loop-name.found.items ++ text_of c.in-Some.name ∷ [] =
    ap names_of pushed ∙ (map-append (λ (p : FoundProject). string_bytes p.name) c.loop-name.found.items (project ∷ []) ∙ ap (λ (n : List ℕ). names_of c.loop-name.found.items ++ n ∷ []) c.in_ok-project.ensures.name) in
    let kept_mid = c.loop-name.invariant.reads.kept in
    record {
      reads = reads_then was.reads c.in_ok-project.ensures.reads;
      names = λ clean has parts replies is.
          subst (IsListing text_cmp (HasPart parts)) (sym (one_less text_of (names_of c.loop-name.found.items) (names_of c.push.new.self.items) c.loop-name.left.items c.pop.new.self.items c.in-Some.name popped more))
          (was.names (survives_clean mid new c.project_of.ensures.reads.looks clean) has parts replies is);
      told = λ clean has m s.
          let told = still old mid new (λ db. StandsFor db m) (λ db. IsTold m (project_found project)) was.reads.kept c.project_of.ensures.reads.looks (λ cleaner schema stands. c.in_ok-project.ensures.told cleaner schema m stands) clean has s in
          told_all m c.loop-name.found.items c.push.new.self.items project pushed (was.told (survives_clean mid new c.project_of.ensures.reads.looks clean) has m s) told;
    }

pub returns-clause-found : goal.returns-clause-found
returns-clause-found g c clean has m s =
    let was = c.loop-name.invariant in
    let found = c.loop-name.found.items in
    let empty = nil_of c.loop-name.left.items (omega (arith, c.loop-name.left.ok.0, c.in_default.ensures.cases.0)) in
    let names = subst (IsListing text_cmp (HasPart s.parts)) (ap (λ l. names_of found ++ reverse (map text_of l)) empty ∙ append-nil (names_of found)) (was.names clean has s.parts _ s.keeps) in
    projects_are (state g.S.Store c.args.conn.now).now.trees m s found (was.told clean has m s) names
