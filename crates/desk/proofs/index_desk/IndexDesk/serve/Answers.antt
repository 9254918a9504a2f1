use Rattle.std.proofs.Common.{◌∙◌, sym}
use Rattle.machine.specs.Requests.{command_value}
use Rattle.desk.proofs.index_desk.IndexDesk.serve.Goals as goal

pub returns-clause-served : goal.returns-clause-served
returns-clause-served g c = λ good m stood.
    c.conclude.ensures.served good m (command_value c.args.command.now) stood (sym (c.as_str-project.ensures.value ∙ c.project.ensures), sym (c.as_str-key.ensures.value ∙ c.key.ensures), c.in_ok-said.ensures)
