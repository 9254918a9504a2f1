-- An opening finds the schema that the database lists.
use Rattle.std.proofs.Common.{◌≡◌, ◌⊎◌, inl, inr, sym, subst}
use Rattle.sqlite_schema.specs.declared.schema.Schema.{Schema}
use Rattle.sqlite_trees.specs.Objects.{catalog_tree}
use Rattle.sqlite_catalog.proofs.ReadLemmas.{lists_once}
use Rattle.sqlite.specs.State as sqlite
use Rattle.tables.specs.Schema.{IsSchemaOne, schema_two}
use Rattle.tables.specs.Databases.{IsFormatOne, IsListed}
use Rattle.tables.specs.Stands.{Finds, FindsOne, Rests, RestsOne}
use Rattle.machine.specs.State.{State}
use Rattle.tables.proofs.Upgrades.{rests_one}

schema_found : (s : sqlite.State) (schema : Schema) → sqlite.Opens s → sqlite.IsLive s → IsListed schema s.now.trees → s.now.schema ≡ schema
unfolding IsListed
schema_found s schema opens live listed = lists_once (s.now.trees catalog_tree) s.now.schema schema (live opens.is_open).0.lists listed

pub rests_found : (s : sqlite.State) (m : State) → Finds s m → Rests s m
rests_found s m it = record { schema_is = schema_found s schema_two it.opens it.live it.stands.listed; settled = sym it.opens.clean; stands = it.stands }

pub rests_found_one : (s : sqlite.State) (m : State) → FindsOne s m → RestsOne s m
rests_found_one s m it = record { schema_is = subst IsSchemaOne (sym (schema_found s it.stands.listed.0 it.opens it.live it.stands.listed.2)) it.stands.listed.1; settled = sym it.opens.clean; stands = it.stands }

-- tables that rest for a state, or that a new connection finds, rest for it
pub resting : (s : sqlite.State) (m : State) → Rests s m ⊎ Finds s m → Rests s m
resting s m (inl rests) = rests
resting s m (inr found) = rests_found s m found

pub resting_one : (s : sqlite.State) (m : State) → RestsOne s m ⊎ FindsOne s m → RestsOne s m
resting_one s m (inl rests) = rests
resting_one s m (inr found) = rests_found_one s m found

pub is_format_one : (s : sqlite.State) → IsFormatOne s.now ⊎ ((m : State) × FindsOne s m) → IsFormatOne s.now
is_format_one s (inl is) = is
is_format_one s (inr found) = rests_one s found.0 (rests_found_one s found.0 found.1)
