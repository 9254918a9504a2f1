use Rattle.std.proofs.Common.{Global, ◌≡◌, ◌∙◌, ◌++◌, [], ◌∷◌, ℕ, List, true, false, sym, string_bytes, rules, arith}
use Rattle.lsif.specs.declared.request_kind.RequestKind.{RequestKind}
use Rattle.lsif.specs.RequestKinds.{follows}
use Rattle.streams.proofs.Members.{nil_of}
use Rattle.machine.specs.Selections.{MarkText, mark_found}
use Rattle.std.specs.Prelude.{String}
use Rattle.desk.proofs.Finding.{iff_sym, iff_trans, or_none}
use Rattle.desk.proofs.Popped.{none_left, pop_adds, pop_skips}
use Rattle.desk.proofs.rows.ranges.followed_keys.Goals as goal

abbrev Makes : RequestKind → MarkText → List ℕ → Type 0
Makes request mark text = (follows request mark.kind ≡ true) × (mark.key ≡ text)

abbrev bytes : String Global → List ℕ
bytes s = string_bytes s

pub loop-mark-preserved-in-Continue-1 : goal.loop-mark-preserved-in-Continue-1
loop-mark-preserved-in-Continue-1 c = λ text.
    let mark = c.in-Some.mark in
    let yes : follows c.args.request mark.kind ≡ true = search rules in
    let popped : c.loop-mark.marks.items ≡ c.pop.new.self.items ++ mark ∷ [] = search rules in
    let pushed : c.push.new.self.items ≡ c.loop-mark.keys.items ++ mark.key ∷ [] = search rules in
    pop_adds mark_found bytes (Makes c.args.request) c.loop-mark.marks.items c.pop.new.self.items mark popped c.loop-mark.keys.items c.push.new.self.items mark.key text _ pushed ((λ p. p.1), (λ e. (yes, e))) (c.loop-mark.invariant text)

pub loop-mark-preserved : goal.loop-mark-preserved
loop-mark-preserved c = λ text.
    let mark = c.in-Some.mark in
    let no : follows c.args.request mark.kind ≡ false = search rules in
    let popped : c.loop-mark.marks.items ≡ c.pop.new.self.items ++ mark ∷ [] = search rules in
    pop_skips mark_found bytes (Makes c.args.request) c.loop-mark.marks.items c.pop.new.self.items mark popped c.loop-mark.keys.items text _ (λ p. let clash : false ≡ true = sym no ∙ p.0 in cc) (c.loop-mark.invariant text)

pub returns : goal.returns
returns c = λ text.
    let empty = nil_of c.loop-mark.marks.items (omega (arith, c.loop-mark.marks.ok.0, c.in_default.ensures.cases.0)) in
    iff_trans (iff_sym (or_none (none_left mark_found (Makes c.args.request) c.loop-mark.marks.items text empty))) (c.loop-mark.invariant text)
