-- Where the checker's steps stop, and what they keep where they don't.
use Rattle.std.proofs.Common.{◌≡◌, ◌∙◌, ◌⊎◌, inl, inr, ℕ, ◌+◌, ◌<◌, zero, suc, List, [], ◌∷◌, ◌++◌, length, map, fold, Option, None, Some, Ok, Err, refl, ap, ap₂, sym, subst, append_assoc, append-nil, length-append, arith, slice_get}
use Rattle.lsif.specs.Element.{ElementValue, Reading}
use Rattle.lsif.specs.declared.code.Code.{Code}
use Rattle.lsif.specs.declared.code.Code.TheVariants.{L06}
use Rattle.dump.specs.declared.fault.LineFault.{LineFault}
use Rattle.dump.specs.Conditions.{order_code, end_code}
use Rattle.dump.specs.Fault.{before, line_code, HasCode, elements_of, IsLineFault, HasEndCode, IsSoundAtEnd, IsElementFault, AreSoundLines, IsEmptyFault, IsFaultless, IsFault}
use Rattle.dump.specs.Progress.{Progress, running, stopped, next, advance, progress, IsSound, fault_or, end_fault_from, end_fault, finished}

-- ---- the lines

-- line k of the rest has this code, where these elements come before the rest
abbrev pub CodeFrom : List ElementValue → List Reading → ℕ → Code → Type 0
CodeFrom elements rest k c =
    (line : Reading) × (slice_get rest k ≡ Some line) × (line_code (elements ++ before rest k) line ≡ Some c)

-- the first line of the rest with a code
pub record FirstFrom (elements : List ElementValue) (rest : List Reading) (f : LineFault) : Type 0 where
  pub index : ℕ
  pub line : f.line ≡ length elements + index + 1
  pub code : CodeFrom elements rest index f.code
  pub least : (j : ℕ) (b : Code) → j < index → CodeFrom elements rest j b → ⊥

pub stays : (rest : List Reading) (f : LineFault) → fold next (stopped f) rest ≡ stopped f
stays [] f = refl
stays (line ∷ rest) f = stays rest f

pub stays_stopped : (rest : List Reading) (f : LineFault) (out : List ElementValue) → fold next (stopped f) rest ≡ running out → ⊥
stays_stopped rest f out h = let no : stopped f ≡ running out = sym (stays rest f) ∙ h in cc

-- one line more in front
pub front_code : (elements : List ElementValue) (x : ElementValue) (rest : List Reading) (k : ℕ) (c : Code) → CodeFrom (elements ++ x ∷ []) rest k c → CodeFrom elements (Ok x ∷ rest) (suc k) c
front_code elements x rest k c h = (h.0, h.1, rw (append_assoc elements (x ∷ []) (before rest k)) at h.2)

pub code_front : (elements : List ElementValue) (x : ElementValue) (rest : List Reading) (k : ℕ) (c : Code) → CodeFrom elements (Ok x ∷ rest) (suc k) c → CodeFrom (elements ++ x ∷ []) rest k c
code_front elements x rest k c h = (h.0, h.1, rw (append_assoc elements (x ∷ []) (before rest k)) h.2)

-- the first line has the code
pub first_here : (elements : List ElementValue) (line : Reading) (rest : List Reading) (f : LineFault) (b : Code) → line_code elements line ≡ Some b → fold next (stopped (record { line = length elements + 1; code = b })) rest ≡ stopped f → FirstFrom elements (line ∷ rest) f
first_here elements line rest f b e h =
    let same : stopped (record { line = length elements + 1; code = b }) ≡ stopped f = sym (stays rest (record { line = length elements + 1; code = b })) ∙ h in
    let is : record { line = length elements + 1; code = b } ≡ f = cc in
    let code : b ≡ f.code = ap (λ (g : LineFault). g.code) is in
    let number : length elements + 1 ≡ f.line = ap (λ (g : LineFault). g.line) is in
    let here : line_code (elements ++ []) line ≡ Some f.code = rw append-nil (e ∙ ap Some code) in
    record { index = 0; line = omega (arith, number); code = (line, refl, here); least = λ j d lt g. absurd (omega arith) }

none_here : (elements : List ElementValue) (x : ElementValue) (rest : List Reading) (b : Code) → order_code elements x ≡ None → CodeFrom elements (Ok x ∷ rest) zero b → ⊥
none_here elements x rest b e g =
    let found : line_code elements g.0 ≡ Some b = rw append-nil at g.2 in
    let line : g.0 ≡ Ok x = cc in
    let two : order_code elements x ≡ Some b = rw line at found in
    cc

least_later : (elements : List ElementValue) (x : ElementValue) (rest : List Reading) (f : LineFault) → order_code elements x ≡ None → (first : FirstFrom (elements ++ x ∷ []) rest f) → (j : ℕ) (b : Code) → j < suc first.index → CodeFrom elements (Ok x ∷ rest) j b → ⊥
least_later elements x rest f e first zero b lt g = none_here elements x rest b e g
least_later elements x rest f e first (suc j) b lt g = first.least j b (omega arith) (code_front elements x rest j b g)

-- the first line has none
pub first_later : (elements : List ElementValue) (x : ElementValue) (rest : List Reading) (f : LineFault) → order_code elements x ≡ None → FirstFrom (elements ++ x ∷ []) rest f → FirstFrom elements (Ok x ∷ rest) f
first_later elements x rest f e h =
    record {
      index = suc h.index;
      line = omega (arith, h.line, length-append elements (x ∷ []));
      code = front_code elements x rest h.index f.code h.code;
      least = least_later elements x rest f e h;
    }

first_ok : (elements : List ElementValue) (x : ElementValue) (rest : List Reading) (f : LineFault) (o : Option Code) → order_code elements x ≡ o
    → (fold next (running (elements ++ x ∷ [])) rest ≡ stopped f → FirstFrom (elements ++ x ∷ []) rest f)
    → fold next (advance elements (Ok x) o) rest ≡ stopped f → FirstFrom elements (Ok x ∷ rest) f
first_ok elements x rest f None e ih h = first_later elements x rest f e (ih h)
first_ok elements x rest f (Some b) e ih h = first_here elements (Ok x) rest f b e h

pub first_from : (rest : List Reading) (elements : List ElementValue) (f : LineFault) → fold next (running elements) rest ≡ stopped f → FirstFrom elements rest f
first_from [] elements f h = cc
first_from (Err b ∷ rest) elements f h = first_here elements (Err b) rest f b refl h
first_from (Ok x ∷ rest) elements f h = first_ok elements x rest f (order_code elements x) refl (first_from rest (elements ++ x ∷ []) f) h

no_line : (k : ℕ) (line : Reading) → slice_get [] k ≡ Some line → ⊥
no_line zero line e = cc
no_line (suc k) line e = cc

sound_ok : (elements : List ElementValue) (x : ElementValue) (rest : List Reading) (out : List ElementValue) (o : Option Code) → order_code elements x ≡ o
    → (fold next (running (elements ++ x ∷ [])) rest ≡ running out → (k : ℕ) (c : Code) → CodeFrom (elements ++ x ∷ []) rest k c → ⊥)
    → fold next (advance elements (Ok x) o) rest ≡ running out → (k : ℕ) (c : Code) → CodeFrom elements (Ok x ∷ rest) k c → ⊥
sound_ok elements x rest out None e ih h zero c g = none_here elements x rest c e g
sound_ok elements x rest out None e ih h (suc k) c g = ih h k c (code_front elements x rest k c g)
sound_ok elements x rest out (Some b) e ih h k c g = let no : stopped (record { line = length elements + 1; code = b }) ≡ running out = sym (stays rest (record { line = length elements + 1; code = b })) ∙ h in cc

pub sound_from : (rest : List Reading) (elements out : List ElementValue) → fold next (running elements) rest ≡ running out → (k : ℕ) (c : Code) → CodeFrom elements rest k c → ⊥
sound_from [] elements out h k c g = no_line k g.0 g.1
sound_from (Err b ∷ rest) elements out h k c g = let no : stopped (record { line = length elements + 1; code = b }) ≡ running out = sym (stays rest (record { line = length elements + 1; code = b })) ∙ h in cc
sound_from (Ok x ∷ rest) elements out h k c g = sound_ok elements x rest out (order_code elements x) refl (sound_from rest (elements ++ x ∷ []) out) h k c g

-- ---- the elements that are kept

abbrev pub Keeps : List ElementValue → List Reading → List ElementValue → Type 0
Keeps elements rest out = (more : List ElementValue) × (rest ≡ map Ok more) × (out ≡ elements ++ more)

keeps_ok : (elements : List ElementValue) (x : ElementValue) (rest : List Reading) (out : List ElementValue) (o : Option Code) → order_code elements x ≡ o
    → (fold next (running (elements ++ x ∷ [])) rest ≡ running out → Keeps (elements ++ x ∷ []) rest out)
    → fold next (advance elements (Ok x) o) rest ≡ running out → Keeps elements (Ok x ∷ rest) out
keeps_ok elements x rest out None e ih h =
    let later = ih h in
    (x ∷ later.0, ap (λ l. Ok x ∷ l) later.1, later.2 ∙ append_assoc elements (x ∷ []) later.0)
keeps_ok elements x rest out (Some b) e ih h = let no : stopped (record { line = length elements + 1; code = b }) ≡ running out = sym (stays rest (record { line = length elements + 1; code = b })) ∙ h in cc

pub keeps_from : (rest : List Reading) (elements out : List ElementValue) → fold next (running elements) rest ≡ running out → Keeps elements rest out
keeps_from [] elements out h = let same : elements ≡ out = cc in ([], refl, sym (append-nil elements ∙ same))
keeps_from (Err b ∷ rest) elements out h = let no : stopped (record { line = length elements + 1; code = b }) ≡ running out = sym (stays rest (record { line = length elements + 1; code = b })) ∙ h in cc
keeps_from (Ok x ∷ rest) elements out h = keeps_ok elements x rest out (order_code elements x) refl (keeps_from rest (elements ++ x ∷ []) out) h

pub kept : (dump : List Reading) (out : List ElementValue) → progress dump ≡ running out → dump ≡ map Ok out
kept dump out h = let keeps = keeps_from dump [] out h in keeps.1 ∙ ap (map Ok) (sym keeps.2)

pub elements_of-map : (elements : List ElementValue) → elements_of (map Ok elements) ≡ elements
elements_of-map [] = refl
elements_of-map (x ∷ xs) = ap (λ l. x ∷ l) (elements_of-map xs)

-- ---- the end

-- element j of the rest has this code at the end
abbrev pub EndCodeFrom : List ElementValue → List ElementValue → ℕ → Code → Type 0
EndCodeFrom elements rest j c = (x : ElementValue) × (slice_get rest j ≡ Some x) × (end_code elements x ≡ Some c)

-- the first element of the rest, which begins at index k, with a code
pub record FirstEnd (elements : List ElementValue) (k : ℕ) (rest : List ElementValue) (f : LineFault) : Type 0 where
  pub index : ℕ
  pub line : f.line ≡ k + index + 1
  pub code : EndCodeFrom elements rest index f.code
  pub least : (j : ℕ) (c : Code) → j < index → EndCodeFrom elements rest j c → ⊥

end_none_here : (elements : List ElementValue) (x : ElementValue) (rest : List ElementValue) (c : Code) → end_code elements x ≡ None → EndCodeFrom elements (x ∷ rest) zero c → ⊥
end_none_here elements x rest c e g =
    let same : x ≡ g.0 = cc (g.1) in
    let two : end_code elements x ≡ Some c = rw same g.2 in
    cc

end_least : (elements : List ElementValue) (k : ℕ) (x : ElementValue) (rest : List ElementValue) (f : LineFault) → end_code elements x ≡ None → (first : FirstEnd elements (k + 1) rest f) → (j : ℕ) (c : Code) → j < suc first.index → EndCodeFrom elements (x ∷ rest) j c → ⊥
end_least elements k x rest f e first zero c lt g = end_none_here elements x rest c e g
end_least elements k x rest f e first (suc j) c lt g = first.least j c (omega arith) g

end_step : (elements : List ElementValue) (k : ℕ) (x : ElementValue) (rest : List ElementValue) (f : LineFault) (o : Option Code) → end_code elements x ≡ o
    → (end_fault_from elements (k + 1) rest ≡ Some f → FirstEnd elements (k + 1) rest f)
    → fault_or k o (end_fault_from elements (k + 1) rest) ≡ Some f → FirstEnd elements k (x ∷ rest) f
end_step elements k x rest f None e ih h =
    let first = ih h in
    record { index = suc first.index; line = omega (arith, first.line); code = first.code; least = end_least elements k x rest f e first }
end_step elements k x rest f (Some b) e ih h =
    let is : record { line = k + 1; code = b } ≡ f = cc in
    let code : b ≡ f.code = ap (λ (g : LineFault). g.code) is in
    let number : k + 1 ≡ f.line = ap (λ (g : LineFault). g.line) is in
    record { index = 0; line = omega (arith, number); code = (x, refl, e ∙ ap Some code); least = λ j c lt g. absurd (omega arith) }

pub end_from : (elements rest : List ElementValue) (k : ℕ) (f : LineFault) → end_fault_from elements k rest ≡ Some f → FirstEnd elements k rest f
unfolding end_fault_from
end_from elements [] k f h = cc
end_from elements (x ∷ rest) k f h = end_step elements k x rest f (end_code elements x) refl (end_from elements rest (k + 1) f) h

no_element : (k : ℕ) (x : ElementValue) → slice_get [] k ≡ Some x → ⊥
no_element zero x e = cc
no_element (suc k) x e = cc

end_sound : (elements : List ElementValue) (k : ℕ) (x : ElementValue) (rest : List ElementValue) (o : Option Code) → end_code elements x ≡ o
    → (end_fault_from elements (k + 1) rest ≡ None → (j : ℕ) (c : Code) → EndCodeFrom elements rest j c → ⊥)
    → fault_or k o (end_fault_from elements (k + 1) rest) ≡ None → (j : ℕ) (c : Code) → EndCodeFrom elements (x ∷ rest) j c → ⊥
end_sound elements k x rest None e ih h zero c g = end_none_here elements x rest c e g
end_sound elements k x rest None e ih h (suc j) c g = ih h j c g
end_sound elements k x rest (Some b) e ih h j c g = cc

pub end_none : (elements rest : List ElementValue) (k : ℕ) → end_fault_from elements k rest ≡ None → (j : ℕ) (c : Code) → EndCodeFrom elements rest j c → ⊥
unfolding end_fault_from
end_none elements [] k h j c g = no_element j g.0 g.1
end_none elements (x ∷ rest) k h j c g = end_sound elements k x rest (end_code elements x) refl (end_none elements rest (k + 1)) h j c g

-- ---- the fault

pub line_fault : (dump : List Reading) (f : LineFault) → progress dump ≡ stopped f → IsLineFault dump f
line_fault dump f h =
    let first = first_from dump [] f h in
    record { index = first.index; line = omega (arith, first.line); code = first.code; least = λ j lt c g. first.least j c lt g }

pub sound_lines : (dump : List Reading) (elements : List ElementValue) → progress dump ≡ running elements → AreSoundLines dump
sound_lines dump elements h k c g = sound_from dump [] elements h k c g

element_fault : (elements : List ElementValue) (f : LineFault) → end_fault_from elements 0 elements ≡ Some f → IsElementFault elements f
element_fault elements f h =
    let first = end_from elements elements 0 f h in
    record { index = first.index; line = omega (arith, first.line); code = first.code; least = λ j lt c g. first.least j c lt g }

empty_fault : (dump : List Reading) (f : LineFault) → dump ≡ [] → record { line = 1; code = L06 } ≡ f → IsEmptyFault dump f
empty_fault dump f e is = (e, sym (ap (λ (g : LineFault). g.line) is), sym (ap (λ (g : LineFault). g.code) is))

-- the end of a dump whose lines are these elements
at_end : (elements : List ElementValue) (o : Option LineFault) → AreSoundLines (map Ok elements) → end_fault elements ≡ o → IsFault (map Ok elements) o
at_end [] None sound h = cc
at_end [] (Some f) sound h = inr (sound, inl (empty_fault [] f refl (cc)))
at_end (x ∷ xs) None sound h =
    let same : elements_of (map Ok (x ∷ xs)) ≡ x ∷ xs = elements_of-map (x ∷ xs) in
    let P : List ElementValue → Type 0 = λ ys. (k : ℕ) → IsSoundAtEnd ys k in
    (λ e. cc, sound, subst P (sym same) (λ k c g. end_none (x ∷ xs) (x ∷ xs) 0 h k c g))
at_end (x ∷ xs) (Some f) sound h =
    let same : elements_of (map Ok (x ∷ xs)) ≡ x ∷ xs = elements_of-map (x ∷ xs) in
    let P : List ElementValue → Type 0 = λ ys. IsElementFault ys f in
    inr (sound, inr (subst P (sym same) (element_fault (x ∷ xs) f h)))

holds_at : (dump : List Reading) (p : Progress) → progress dump ≡ p → IsFault dump (finished p)
holds_at dump (stopped f) h = inl (line_fault dump f h)
holds_at dump (running elements) h =
    let same : dump ≡ map Ok elements = kept dump elements h in
    rw same (at_end elements (end_fault elements) (rw same at (sound_lines dump elements h)) refl)

pub holds : (dump : List Reading) → IsFault dump (finished (progress dump))
holds dump = holds_at dump (progress dump) refl

pub faultless : (elements : List ElementValue) → IsSound elements → end_fault elements ≡ None → IsFaultless (map Ok elements)
faultless elements sound h = at_end elements None (sound_lines (map Ok elements) elements sound) h

-- ---- there is only one

-- of two indices with a code, each of them the first, both are one
pub one_index : (P : ℕ → Code → Type 0) (i k : ℕ) (a b : Code) → P i a → ((j : ℕ) → j < i → (c : Code) → P j c → ⊥) → P k b → ((j : ℕ) → j < k → (c : Code) → P j c → ⊥) → i ≡ k
one_index P i k a b here least there lesser =
    let above : i < k → ⊥ = λ lt. lesser i lt a here in
    let below : k < i → ⊥ = λ lt. least k lt b there in
    omega (arith, above, below)

same_line_code : (dump : List Reading) (k : ℕ) (a b : Code) → HasCode dump k a → HasCode dump k b → a ≡ b
same_line_code dump k a b g h =
    let line : g.0 ≡ h.0 = cc (g.1, h.1) in
    let two : line_code (before dump k) h.0 ≡ Some a = rw line at g.2 in
    cc (two, h.2)

same_end_code : (elements : List ElementValue) (k : ℕ) (a b : Code) → HasEndCode elements k a → HasEndCode elements k b → a ≡ b
same_end_code elements k a b g h =
    let x : g.0 ≡ h.0 = cc (g.1, h.1) in
    let two : end_code elements h.0 ≡ Some a = rw x at g.2 in
    cc (two, h.2)

same_fault : (f g : LineFault) → f.line ≡ g.line → f.code ≡ g.code → f ≡ g
same_fault f g line code = let make : ℕ → Code → LineFault = λ l c. record { line = l; code = c } in ap₂ make line code

one_line_fault : (dump : List Reading) (f g : LineFault) → IsLineFault dump f → IsLineFault dump g → f ≡ g
one_line_fault dump f g a b =
    let same = one_index (HasCode dump) a.index b.index f.code g.code a.code a.least b.code b.least in
    let P : ℕ → Type 0 = λ k. HasCode dump k f.code in
    same_fault f g (a.line ∙ ap (λ k. k + 1) same ∙ sym b.line) (same_line_code dump b.index f.code g.code (subst P same a.code) b.code)

one_element_fault : (elements : List ElementValue) (f g : LineFault) → IsElementFault elements f → IsElementFault elements g → f ≡ g
one_element_fault elements f g a b =
    let same = one_index (HasEndCode elements) a.index b.index f.code g.code a.code a.least b.code b.least in
    let P : ℕ → Type 0 = λ k. HasEndCode elements k f.code in
    same_fault f g (a.line ∙ ap (λ k. k + 1) same ∙ sym b.line) (same_end_code elements b.index f.code g.code (subst P same a.code) b.code)

sound_no_line : (dump : List Reading) (f : LineFault) → AreSoundLines dump → IsLineFault dump f → ⊥
sound_no_line dump f sound a = sound a.index f.code a.code

stops_by : (dump : List Reading) (f : LineFault) (p : Progress) → progress dump ≡ p → IsLineFault dump f → p ≡ stopped f
stops_by dump f (running elements) h a = absurd (sound_no_line dump f (sound_lines dump elements h) a)
stops_by dump f (stopped g) h a = ap stopped (one_line_fault dump g f (line_fault dump g h) a)

-- a checker stops at the first faulty line
pub stops_at : (dump : List Reading) (f : LineFault) → IsLineFault dump f → progress dump ≡ stopped f
stops_at dump f a = stops_by dump f (progress dump) refl a

empty_no_element : (dump : List Reading) (f : LineFault) → dump ≡ [] → IsElementFault (elements_of dump) f → ⊥
empty_no_element dump f e a =
    let P : List Reading → Type 0 = λ d. IsElementFault (elements_of d) f in
    let b : IsElementFault [] f = subst P e a in
    no_element b.index b.code.0 b.code.1

one_end_fault : (dump : List Reading) (f g : LineFault) → IsEmptyFault dump f ⊎ IsElementFault (elements_of dump) f → IsEmptyFault dump g ⊎ IsElementFault (elements_of dump) g → f ≡ g
one_end_fault dump f g (inl a) (inl b) = same_fault f g (a.1 ∙ sym b.1) (a.2 ∙ sym b.2)
one_end_fault dump f g (inl a) (inr b) = absurd (empty_no_element dump g a.0 b)
one_end_fault dump f g (inr a) (inl b) = absurd (empty_no_element dump f b.0 a)
one_end_fault dump f g (inr a) (inr b) = one_element_fault (elements_of dump) f g a b

one_fault : (dump : List Reading) (f g : LineFault) → IsFault dump (Some f) → IsFault dump (Some g) → f ≡ g
one_fault dump f g (inl a) (inl b) = one_line_fault dump f g a b
one_fault dump f g (inl a) (inr b) = absurd (sound_no_line dump f b.0 a)
one_fault dump f g (inr a) (inl b) = absurd (sound_no_line dump g a.0 b)
one_fault dump f g (inr a) (inr b) = one_end_fault dump f g a.1 b.1

no_end : (dump : List Reading) (f : LineFault) → IsFaultless dump → IsEmptyFault dump f ⊎ IsElementFault (elements_of dump) f → ⊥
no_end dump f free (inl a) = free.0 a.0
no_end dump f free (inr a) = free.2 a.index f.code a.code

no_fault : (dump : List Reading) (f : LineFault) → IsFaultless dump → IsFault dump (Some f) → ⊥
no_fault dump f free (inl a) = sound_no_line dump f free.1 a
no_fault dump f free (inr a) = no_end dump f free a.1

pub one : (dump : List Reading) (a b : Option LineFault) → IsFault dump a → IsFault dump b → a ≡ b
one dump None None a b = refl
one dump None (Some g) a b = absurd (no_fault dump g a b)
one dump (Some f) None a b = absurd (no_fault dump f b a)
one dump (Some f) (Some g) a b = ap Some (one_fault dump f g a b)

-- ---- from no fault back to the steps

abbrev as_lines : List ElementValue → List Reading
as_lines elements = map Ok elements

same_elements : (xs ys : List ElementValue) → as_lines xs ≡ as_lines ys → xs ≡ ys
same_elements xs ys e = sym (elements_of-map xs) ∙ ap elements_of e ∙ elements_of-map ys

sound_by : (elements : List ElementValue) (p : Progress) → IsFaultless (map Ok elements) → progress (map Ok elements) ≡ p → IsSound elements
sound_by elements (stopped f) free e = absurd (sound_no_line (as_lines elements) f free.1 (line_fault (as_lines elements) f e))
sound_by elements (running out) free e = e ∙ ap running (sym (same_elements elements out (kept (as_lines elements) out e)))

pub sound_of : (elements : List ElementValue) → IsFaultless (map Ok elements) → IsSound elements
sound_of elements free = sound_by elements (progress (as_lines elements)) free refl
