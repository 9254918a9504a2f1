use Rattle.std.proofs.Common.{[], ◌∙◌, ap, fold}
use Rattle.std.proofs.lemmas.List.Sums.{fold-append}
use Rattle.dump.specs.Progress.{finished, next, progress, running}
use Rattle.dump.proofs.Progresses.{holds, line_fault, one, sound_lines, stays, stops_at, kept}
use Rattle.dump.proofs.Rooms.{room}
use Rattle.dump.proofs.laws.fault_law.Goals as goal

pub returns-clause-holds : goal.returns-clause-holds
returns-clause-holds c = λ dump. holds dump

pub returns-clause-only : goal.returns-clause-only
returns-clause-only c = λ dump fault is. one dump fault (finished (progress dump)) is (holds dump)

pub returns-clause-elements : goal.returns-clause-elements
returns-clause-elements c = λ dump elements h. kept dump elements h

pub returns-clause-line : goal.returns-clause-line
returns-clause-line c = λ dump fault. (line_fault dump fault, stops_at dump fault)

pub returns-clause-sound : goal.returns-clause-sound
returns-clause-sound c = sound_lines

pub returns-clause-stays : goal.returns-clause-stays
returns-clause-stays c = λ dump more fault h. fold-append next (running []) dump more ∙ ap (λ p. fold next p more) h ∙ stays more fault

pub returns-clause-room : goal.returns-clause-room
returns-clause-room c = room
