use Rattle.std.proofs.Common.{to_z-of_z, rules, ◌≡◌, ◌∙◌, sym, subst, option_map, IsTrue}
use mir.Val.{SFits}
use mir.Syntax.{w64}
use Rattle.tables.specs.declared.slots.Part.TheVariants.{Tags}
use Rattle.tables.specs.Stands.{replies_of}
use Rattle.machine.specs.FoundTags.{IsAsked}
use Rattle.tables.proofs.found_tags.complete.Goals as goal

pub returns-then-not-is_asked-clause-whole : goal.returns-then-not-is_asked-clause-whole
returns-then-not-is_asked-clause-whole g c clean has m s v t asked =
    let fits : SFits w64 c.args.row.slot = search rules in
    let project = (rw (to_z-of_z fits) at c.in_ok-project.ensures.project) clean has s.parts (replies_of m) s.keeps v.project Tags t.slot in
    let same : c.as_str.result.now ≡ v.project = c.as_str.ensures.value ∙ project in
    let yes : IsTrue c.is_asked.result = c.is_asked.ensures.1 (subst (IsAsked (option_map (λ p. p.now) c.args.asked)) (sym same) asked) in
    absurd (search (yes, rules))

pub returns-clause-whole : goal.returns-clause-whole
returns-clause-whole g c clean has m s v t =
    let fits : SFits w64 c.args.row.slot = search rules in
    let project = (rw (to_z-of_z fits) at c.in_ok-project.ensures.project) clean has s.parts (replies_of m) s.keeps v.project Tags t.slot in
    let same : c.as_str.result.now ≡ v.project = c.as_str.ensures.value ∙ project in
    let tag = c.in_ok-tag.ensures v.tag t.is in
    let yes : IsTrue c.is_asked.result = search rules in
    ((λ i. record { project = project i; tag = tag i }), subst (IsAsked (option_map (λ p. p.now) c.args.asked)) same (c.is_asked.ensures.0 yes))
