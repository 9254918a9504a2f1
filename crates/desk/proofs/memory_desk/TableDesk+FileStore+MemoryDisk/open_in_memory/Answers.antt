use Rattle.desk.proofs.memory_desk.TableDesk+FileStore+MemoryDisk.open_in_memory.Goals as goal

pub returns-clause-stands : goal.returns-clause-stands
returns-clause-stands c = c.in_ok-desk.ensures.stands c.memory_law.ensures

pub returns-clause-may_leave : goal.returns-clause-may_leave
returns-clause-may_leave c = c.in_ok-desk.ensures.may_leave c.memory_law.ensures
