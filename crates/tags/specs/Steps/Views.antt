-- What the values of private functions are without where they lie in memory.
use Rattle.std.specs.Prelude.{Option, Some, None, option_map, List, ℕ, map, string_bytes, vec_capacity}
use Rattle.std.specs.Option.{option_map_or}
use Rattle.tags.specs.Steps.Cutting as cutting
use Rattle.tags.specs.States.{Summary, State, running, stopped}
use Rattle.tags.specs.Values.{FieldsValue, ContentValue, sorted, other}
use Rattle.tags.specs.Views.{field_value}
use Rattle.tags.specs.declared.checker.Counted.{Counted}
use Rattle.tags.specs.declared.code.LineFault.{LineFault}
use Rattle.tags.specs.declared.content.PseudoTag.{PseudoTag}
use Rattle.tags.specs.declared.content.PseudoTag.TheVariants as pseudo_tags
use Rattle.tags.specs.declared.cut.Front.{Front}
use Rattle.tags.specs.declared.cut.Tail.{Tail}
use Rattle.tags.specs.declared.fields.Gathered.{Gathered}
use Rattle.tags.specs.declared.order.Order.{Order}

abbrev pub front : Front → cutting.Front
front f = record { name = f.name.now; file = f.file.now; rest = f.rest.now }

abbrev pub tail : Tail → cutting.Tail
tail t = record { address = t.address.now; fields = option_map (λ bs. bs.now) t.fields }

abbrev pub fields_value : Gathered → FieldsValue
fields_value g = record { kind = option_map (λ s. string_bytes s) g.kind; others = map field_value g.others.items }

abbrev pub pseudo_value : PseudoTag → ContentValue
pseudo_value (pseudo_tags.Sorted b) = sorted b
pseudo_value pseudo_tags.Other = other

-- the name of the last tag, as written
abbrev pub last_of : Order → Option (List ℕ)
last_of o = option_map (λ name. name.items) o.last

-- how many bytes the buffer of that name has room for
abbrev pub room_of : Order → ℕ
room_of o = option_map_or (λ name. vec_capacity name) o.last 0

abbrev pub count_of : Counted → Summary ℕ
count_of c = record { count = c.order.count; kept = c.tags; last = last_of c.order; checked = c.order.checked }

-- the state that a checker's fields represent
abbrev pub checked_state : Option LineFault → Counted → State ℕ
checked_state None c = running (count_of c)
checked_state (Some fault) c = stopped fault.line fault.code

-- the same state where something else is kept
abbrev pub with_kept : {A B : Type 0} → B → State A → State B
with_kept kept (running s) = running (record { count = s.count; kept = kept; last = s.last; checked = s.checked })
with_kept kept (stopped n c) = stopped n c
