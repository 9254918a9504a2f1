use Rattle.std.proofs.Common.{rules, ◌≡◌, ◌∙◌, ◌++◌, [], ◌∷◌, map, sym, ap, subst, string_bytes}
use Rattle.std.specs.Prelude.{Some, None}
use Rattle.std.proofs.lemmas.List.{map-append}
use Rattle.machine.specs.Selections.{bearer_found}
use Rattle.desk.specs.Steps.Rows.{Adds}
use Rattle.desk.specs.Steps.Selected.{IsBearerHere, FoundSoFar}
use Rattle.desk.proofs.KeyBearers.{adds_none, adds_some, way_begins, way_next, way_end}
use Rattle.desk.proofs.selected.bearers_in.Goals as goal

pub loop-name-init : goal.loop-name-init
loop-name-init c =
    let none : map bearer_found c.new-found.result.items ≡ [] = search rules in
    let all : c.into_iter-name-iterator.result ≡ c.args.projects.now.entries = search rules in
    rw (none, all) (way_begins c.args.key.now c.args.projects.now.entries)

pub loop-name-preserved-in-Some-dump : goal.loop-name-preserved-in-Some-dump
loop-name-preserved-in-Some-dump c =
    let key = c.args.key.now in
    let all = c.args.projects.now.entries in
    let name = c.in-Some.name.now in
    let project = c.in-Some.project.now in
    let dump = c.in-Some-dump.dump in
    let old = c.loop-name.found.items in
    let more = c.in_ok-more.more.items in
    let new = c.append.new.self.items in
    let next : c.loop-name.name-iterator ≡ (name, project) ∷ c.next.new.self = search rules in
    let has : project.dump ≡ Some dump = search rules in
    let added : new ≡ old ++ more = search rules in
    let adds = adds_some key c.as_str.result.now dump (map bearer_found old) (map bearer_found more) (map bearer_found new) (ap (map bearer_found) added ∙ map-append bearer_found old more) c.in_ok-more.ensures in
    way_next key all c.next.new.self (name, project) (map bearer_found old) (map bearer_found new) (subst (λ es. FoundSoFar key all es (map bearer_found old)) next c.loop-name.invariant)
    (subst (λ o. Adds (map bearer_found old) (map bearer_found new) (IsBearerHere key (string_bytes name) o)) (sym has)
    (subst (λ n. Adds (map bearer_found old) (map bearer_found new) (IsBearerHere key n (Some dump))) c.as_str.ensures.value adds))

pub loop-name-preserved : goal.loop-name-preserved
loop-name-preserved c =
    let key = c.args.key.now in
    let all = c.args.projects.now.entries in
    let name = c.in-Some.name.now in
    let project = c.in-Some.project.now in
    let found = map bearer_found c.loop-name.found.items in
    let next : c.loop-name.name-iterator ≡ (name, project) ∷ c.next.new.self = search rules in
    let none : project.dump ≡ None = search rules in
    way_next key all c.next.new.self (name, project) found found (subst (λ es. FoundSoFar key all es found) next c.loop-name.invariant)
    (subst (λ o. Adds found found (IsBearerHere key (string_bytes name) o)) (sym none) (adds_none key (string_bytes name) found))

pub returns-clause-found : goal.returns-clause-found
returns-clause-found c =
    let key = c.args.key.now in
    let all = c.args.projects.now.entries in
    let found = map bearer_found c.loop-name.found.items in
    let none : c.loop-name.name-iterator ≡ [] = search rules in
    way_end key all found (subst (λ es. FoundSoFar key all es found) none c.loop-name.invariant)
