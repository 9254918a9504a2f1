use Rattle.std.proofs.Common.{◌≡◌, ◌∙◌, ℕ, sym, ap, subst, List, map, Option, Some, None}
use Rattle.lsif.specs.Element.{ElementValue, element_value}
use Rattle.lsif.specs.Lent.{lent_value}
use Rattle.dump.specs.Steps.Chains.{index_in, IsEnd}
use Rattle.dump.specs.Walks.{next_pairs, first_to, Path, stays}
use Rattle.dump.proofs.Known.{ends_known}
use Rattle.dump.proofs.Shortcuts.{no_source, no_index, one_index, id_there}
use Rattle.dump.proofs.graph.Graph.end_of.Goals as goal

pub returns-in-Some-clause-path : goal.returns-in-Some-clause-path
returns-in-Some-clause-path c =
    let d = c.args.self.now in
    let same : map element_value c.deref.result.now ≡ d = ap (map element_value) c.deref.ensures.value ∙ c.self.view_is in
    let same_end : map element_value c.deref-in-Some-2.result.now ≡ d = ap (map element_value) c.deref-in-Some-2.ensures.value ∙ c.self.view_is in
    let at : index_in d (lent_value c.args.id) ≡ Some c.in-Some.index = sym (subst (λ (e : List ElementValue). Some c.in-Some.index ≡ index_in e (lent_value c.args.id)) same (rw c.in-Some.is at c.index_of_id.ensures)) in
    let last = subst (λ (e : List ElementValue). IsEnd (next_pairs e) e c.in-Some.index c.end_of.result) same_end c.end_of.ensures in
    let start : last.start ≡ lent_value c.args.id = one_index d last.start (lent_value c.args.id) c.in-Some.index last.is_start at in
    let there : lent_value c.lent.result ≡ last.last = c.lent.ensures ∙ c.id.ensures ∙ id_there c.self.inside.elements.items c.end_of.result c.index.result.now last.last c.index.ensures (subst (λ (e : List ElementValue). index_in e last.last ≡ Some c.end_of.result) (sym c.self.view_is) last.is_last) in
    subst (λ v. Path (next_pairs d) v (lent_value c.lent.result)) start (subst (λ v. Path (next_pairs d) last.start v) (sym there) last.path)

pub returns-in-Some-clause-last : goal.returns-in-Some-clause-last
returns-in-Some-clause-last c =
    let d = c.args.self.now in
    let same_end : map element_value c.deref-in-Some-2.result.now ≡ d = ap (map element_value) c.deref-in-Some-2.ensures.value ∙ c.self.view_is in
    let last = subst (λ (e : List ElementValue). IsEnd (next_pairs e) e c.in-Some.index c.end_of.result) same_end c.end_of.ensures in
    let there : lent_value c.lent.result ≡ last.last = c.lent.ensures ∙ c.id.ensures ∙ id_there c.self.inside.elements.items c.end_of.result c.index.result.now last.last c.index.ensures (subst (λ (e : List ElementValue). index_in e last.last ≡ Some c.end_of.result) (sym c.self.view_is) last.is_last) in
    ap (first_to (next_pairs d)) there ∙ last.none

pub returns-in-None-clause-path : goal.returns-in-None-clause-path
returns-in-None-clause-path c = stays

pub returns-in-None-clause-last : goal.returns-in-None-clause-last
returns-in-None-clause-last c =
    let d = c.args.self.now in
    let same : map element_value c.deref.result.now ≡ d = ap (map element_value) c.deref.ensures.value ∙ c.self.view_is in
    let none : index_in d (lent_value c.args.id) ≡ None = sym (subst (λ (e : List ElementValue). ◌≡◌ {A = Option ℕ} None (index_in e (lent_value c.args.id))) same (rw c.in-None.is at c.index_of_id.ensures)) in
    no_source d d (ends_known d c.requires) (lent_value c.args.id) (no_index d (lent_value c.args.id) none)
