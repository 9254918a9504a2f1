use Rattle.tables.proofs.part_rows.insert_few.Goals as goal

pub insert_by-requires : goal.insert_by-requires
insert_by-requires g c = record { inserts = (rw c.in-Some.is at c.insert_eight.ensures).eight _ _ c.if-rows-eq-EIGHT.true }
