-- The verdict on a body, against the fault of the dump that it is.
use Rattle.std.proofs.Common.{◌≡◌, ◌∙◌, List, [], ◌∷◌, map, Option, None, Some, Ok, Err, refl, sym, ap, subst}
use Rattle.std.specs.Prelude.{ℕ}
use Rattle.lsif.specs.Element.{ElementValue, Reading}
use Rattle.lsif.specs.declared.profile.Profile.{Profile}
use Rattle.dump.specs.declared.fault.LineFault.{LineFault}
use Rattle.dump.specs.Fault.{IsFault}
use Rattle.dump.specs.Lines.{dump_of}
use Rattle.dump.specs.Progress.{DumpValue, Progress, running, stopped, progress, finished, end_fault}
use Rattle.machine.specs.Judging.{judged_dump, dump_at_end, dump_or}

end_err : (dump : DumpValue) (o : Option LineFault) (f : LineFault) → dump_or dump o ≡ Err f → o ≡ Some f
end_err dump None f e = cc
end_err dump (Some g) f e = cc

-- the dump of these elements
abbrev dump_by : Profile → List ElementValue → DumpValue
dump_by profile elements = record { profile = profile; elements = elements }

finished_err : (profile : Profile) (p : Progress) (f : LineFault) → dump_at_end profile p ≡ Err f → finished p ≡ Some f
finished_err profile (running elements) f e = end_err (dump_by profile elements) (end_fault elements) f e
finished_err profile (stopped g) f e = cc

err_finished : (profile : Profile) (p : Progress) (f : LineFault) → finished p ≡ Some f → dump_at_end profile p ≡ Err f
err_finished profile (running elements) f e = ap (dump_or (dump_by profile elements)) e
err_finished profile (stopped g) f e = cc

end_ok : (dump out : DumpValue) (o : Option LineFault) → dump_or dump o ≡ Ok out → (dump ≡ out) × (o ≡ None)
end_ok dump out None e = (cc, refl)
end_ok dump out (Some g) e = cc

finished_ok : (profile : Profile) (p : Progress) (out : DumpValue) → dump_at_end profile p ≡ Ok out → (out.profile ≡ profile) × (p ≡ running out.elements) × (finished p ≡ None)
finished_ok profile (running elements) out e =
    let both = end_ok (dump_by profile elements) out (end_fault elements) e in
    (sym (ap (λ (d : DumpValue). d.profile) both.0), ap (λ (d : DumpValue). running d.elements) both.0, both.1)
finished_ok profile (stopped g) out e = cc

pub same_elements : (xs ys : List ElementValue) → map {B = Reading} Ok xs ≡ map Ok ys → xs ≡ ys
same_elements [] [] e = refl
same_elements [] (y ∷ ys) e = cc
same_elements (x ∷ xs) [] e = cc
same_elements (x ∷ xs) (y ∷ ys) e =
    let first : x ≡ y = cc in
    let rest : map {B = Reading} Ok xs ≡ map Ok ys = cc in
    ap (λ z. z ∷ xs) first ∙ ap (λ zs. y ∷ zs) (same_elements xs ys rest)

ok_finished : (profile : Profile) (p : Progress) (dump : List Reading) (out : DumpValue)
    → ((elements : List ElementValue) → p ≡ running elements → dump ≡ map Ok elements)
    → out.profile ≡ profile → finished p ≡ None → dump ≡ map Ok out.elements → dump_at_end profile p ≡ Ok out
ok_finished profile (running elements) dump out law same e d =
    let all = same_elements elements out.elements (sym (law elements refl) ∙ d) in
    ap (dump_or (dump_by profile elements)) e ∙ ap (λ es. Ok (dump_by profile es)) all ∙ ap (λ k. Ok (dump_by k out.elements)) (sym same)
ok_finished profile (stopped g) dump out law same e d = cc

-- ---- the law

abbrev pub Holds : Type 0
Holds = (dump : List Reading) → IsFault dump (finished (progress dump))

abbrev pub Only : Type 0
Only = (dump : List Reading) (fault : Option LineFault) → IsFault dump fault → fault ≡ finished (progress dump)

abbrev pub Elements : Type 0
Elements = (dump : List Reading) (elements : List ElementValue) → progress dump ≡ running elements → dump ≡ map Ok elements

pub has_fault : Holds → (profile : Profile) (body : List ℕ) (f : LineFault) → judged_dump profile body ≡ Err f → IsFault (dump_of profile body) (Some f)
has_fault holds profile body f e =
    let lines = dump_of profile body in
    let P : Option LineFault → Type 0 = λ o. IsFault lines o in
    subst P (finished_err profile (progress lines) f e) (holds lines)

pub from_fault : Only → (profile : Profile) (body : List ℕ) (f : LineFault) → IsFault (dump_of profile body) (Some f) → judged_dump profile body ≡ Err f
from_fault only profile body f h = let lines = dump_of profile body in err_finished profile (progress lines) f (sym (only lines (Some f) h))

pub has_dump : Holds → Elements → (profile : Profile) (body : List ℕ) (out : DumpValue) → judged_dump profile body ≡ Ok out
    → (out.profile ≡ profile) × IsFault (dump_of profile body) None × (dump_of profile body ≡ map Ok out.elements)
has_dump holds law profile body out e =
    let lines = dump_of profile body in
    let P : Option LineFault → Type 0 = λ o. IsFault lines o in
    let all = finished_ok profile (progress lines) out e in
    (all.0, subst P all.2 (holds lines), law lines out.elements all.1)

pub from_dump : Only → Elements → (profile : Profile) (body : List ℕ) (out : DumpValue) → out.profile ≡ profile → IsFault (dump_of profile body) None
    → dump_of profile body ≡ map Ok out.elements → judged_dump profile body ≡ Ok out
from_dump only law profile body out same h d =
    let lines = dump_of profile body in
    ok_finished profile (progress lines) lines out (law lines) same (sym (only lines None h)) d
