use Rattle.std.proofs.Common.{rules}
use Rattle.machine.specs.State.{changed, set_dump}
use Rattle.desk.specs.Indexes.{Refuses}
use Rattle.desk.specs.Steps.Plain.{StandsFaultless}
use Rattle.desk.specs.declared.memory_index.MemoryIndex.{MemoryIndex}
use Rattle.desk.proofs.MemoryStates.{dump_faultless, said_of_fault}
use Rattle.desk.proofs.memory_index.MemoryIndexIndex.replace_dump.Goals as goal

pub returns-in_err-make-clause-changes : goal.returns-in_err-make-clause-changes
returns-in_err-make-clause-changes c = λ _ m stands new.
    let next = changed m c.args.project.now c.args.key.now (set_dump c.args.dump) in
    let held : Refuses (λ (i : MemoryIndex) k. StandsFaultless i.projects k) (λ i states. Unit {0}) c.args.self.now c.make.new.self m next = record {
      state = (c.in_err-make.ensures.err m stands.0, stands.1);
      left = λ states leaves. tt;
    } in
    said_of_fault _ c.from_residual.result _ _ c.from_residual.ensures.1 held

pub returns-clause-changes : goal.returns-clause-changes
returns-clause-changes c = λ _ m stands new.
    (record { state = (search rules, dump_faultless m c.args.project.now c.args.key.now c.args.dump c.elements-faultless.ensures.faultless stands.1); left = tt }, tt)
