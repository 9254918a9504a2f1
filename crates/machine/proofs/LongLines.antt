-- Lines that are longer than they may be.
use Rattle.std.proofs.Common.{◌≡◌, ℕ, ◌<◌, List, length, Bool, Option, Some, None, Err, refl, subst}
use Rattle.std.specs.Borrow.{Bor}
use Rattle.std.specs.Option.{ok_or}
use Rattle.std.proofs.lemmas.Bool.{lt-ltb}
use Rattle.lsif.specs.Reading as dumps
use Rattle.lsif.specs.Reading.{reading}
use Rattle.lsif.specs.declared.code.Code.TheVariants.{L01}
use Rattle.lsif.specs.declared.profile.Profile.{Profile}
use Rattle.tags.specs.Faults.{result_map}
use Rattle.tags.specs.Lines as tags
use Rattle.tags.specs.Lines.{Line, IsReading}
use Rattle.tags.specs.Steps.Readings.{reading_of}
use Rattle.tags.specs.States.{State, Tells, IsRunning}
use Rattle.tags.specs.Values.{TagValue}
use Rattle.tags.specs.declared.code.LineFault.{LineFault}
use Rattle.tags.specs.declared.code.TagsFault.{TagsFault}
use Rattle.tags.specs.declared.code.TagsFault.TheVariants as faults_of
use Rattle.tags.specs.declared.code.Code.TheVariants.{T01}
use Rattle.dump.specs.Judging.{IsHanded}

-- of a dump such a line has the code L01
pub long_element : (profile : Profile) (line : List ℕ) → dumps.longest_line < length line → reading profile line ≡ Err L01
unfolding reading
long_element profile line lt = rw (lt-ltb dumps.longest_line (length line) lt) refl

-- of a tags file the code T01
pub long_tag : (line : List ℕ) (is_ended : Bool) → tags.longest_line < length line → reading_of (record { bytes = line; ended = is_ended }) ≡ Err T01
long_tag line is_ended lt = rw (lt-ltb tags.longest_line (length line) lt) refl

-- the reading of a line that is passed to a reader of tags
pub handed_tag : (law : (line : Line) → IsReading line (reading_of line)) (line : Option (Bor (List ℕ))) (is_ended : Bool) (bytes : List ℕ)
    → IsHanded tags.longest_line line bytes
    → tags.IsHanded (result_map (λ b. b.now) (ok_or line T01)) is_ended (reading_of (record { bytes = bytes; ended = is_ended }))
handed_tag law (Some line) is_ended bytes same =
    let P : List ℕ → Type 0 = λ bs. IsReading (record { bytes = bs; ended = is_ended }) (reading_of (record { bytes = bytes; ended = is_ended })) in
    subst P same (law (record { bytes = bytes; ended = is_ended }))
handed_tag law None is_ended bytes long = long_tag bytes is_ended long

-- a fault of a line stops the reader
pub told_fault : (fault : TagsFault) (f : LineFault) (old new due : State (List TagValue)) → fault ≡ faults_of.Line f → Tells (Err fault) old new due
    → (new ≡ due) × (IsRunning due → ⊥)
told_fault fault f old new due e told =
    let P : TagsFault → Type 0 = λ x. Tells (Err x) old new due in
    let stops = subst P e told in
    (stops.0, λ runs. subst IsRunning stops.1 runs)
