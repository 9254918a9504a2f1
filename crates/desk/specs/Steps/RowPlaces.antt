-- Places that are made of items, as the program has them.
use Rattle.std.specs.Rc.{rc_str_bytes}
use Rattle.machine.specs.Reply.{FoundPlace}
use Rattle.desk.specs.declared.rows.places.ItemPlace.{ItemPlace}

abbrev pub item_place : ItemPlace → FoundPlace
item_place f = record { project = f.project.now; place = record { uri = rc_str_bytes f.uri; span = f.span } }
