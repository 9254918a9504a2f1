-- What the statements of the batches make, and how the batches are cut into them.
use Rattle.std.proofs.Common.{◌≡◌, refl, [], ◌∷◌, List, map}
use Rattle.std.specs.Fmt.{digits}
use Rattle.sqlite_schema.specs.Names.{same_name}
use Rattle.sqlite_tied.specs.Compute.{everything}
use Rattle.sqlite.specs.Listing.{understood, listing_schema}
use Rattle.tables.specs.Steps.Texts.{set_version, fill_profiles, version_text, batch, added_texts, first_texts, drop_text, filling, format_text, slot_text, keyed_text, document_text, range_row_text, item_text, hover_text, mark_text, bearer_text, tag_text, range_by_start_text, bearer_by_key_text, tag_by_name_text, part_profile_text, more_text}
use Rattle.tables.specs.Schema.{added_names, empty_schema, schema_one, schema_two, format_at, slot_at, keyed_at, document_at, range_row_at, item_at, hover_at, mark_at, bearer_at, tag_at, part_profile_at, more_at, range_row, bearer, tag, range_by_start_on, bearer_by_key_on, tag_by_name_on}
use Rattle.tables.proofs.Batches.{Making, makes_table, makes_index, AllMake, all_made, AreCut, IsCut}

-- ---- the tables of format 1

abbrev pub first_tables : List Making
first_tables =
    makes_table format_text (format_at 0) ∷ makes_table slot_text (slot_at 0) ∷ makes_table keyed_text (keyed_at 0) ∷ makes_table document_text (document_at 0)
    ∷ makes_table range_row_text (range_row_at 0) ∷ makes_table item_text (item_at 0) ∷ makes_table hover_text (hover_at 0) ∷ makes_table mark_text (mark_at 0)
    ∷ makes_table bearer_text (bearer_at 0) ∷ makes_table tag_text (tag_at 0) ∷ []

pub first_make : AllMake empty_schema first_tables
unfolding understood everything listing_schema same_name digits
first_make = (
  record { is = refl; plain = (refl, refl); silent = (refl, refl); read = refl; defined = (refl, refl) },
  (
    record { is = refl; plain = (refl, refl); silent = (refl, refl); read = refl; defined = (refl, refl) },
    (
      record { is = refl; plain = (refl, refl); silent = (refl, refl); read = refl; defined = (refl, refl) },
      (
        record { is = refl; plain = (refl, refl); silent = (refl, refl); read = refl; defined = (refl, refl) },
        (
          record { is = refl; plain = (refl, refl); silent = (refl, refl); read = refl; defined = (refl, refl) },
          (
            record { is = refl; plain = (refl, refl); silent = (refl, refl); read = refl; defined = (refl, refl) },
            (
              record { is = refl; plain = (refl, refl); silent = (refl, refl); read = refl; defined = (refl, refl) },
              (
                record { is = refl; plain = (refl, refl); silent = (refl, refl); read = refl; defined = (refl, refl) },
                (
                  record { is = refl; plain = (refl, refl); silent = (refl, refl); read = refl; defined = (refl, refl) },
                  (
                    record { is = refl; plain = (refl, refl); silent = (refl, refl); read = refl; defined = (refl, refl) },
                    tt,
                  ),
                ),
              ),
            ),
          ),
        ),
      ),
    ),
  ),
)

pub makes_one : all_made empty_schema first_tables ≡ schema_one
unfolding digits
makes_one = refl

-- ---- what format 2 has more

abbrev pub additions : List Making
additions =
    makes_index range_by_start_text 4 range_row (range_by_start_on 0 7) ∷ makes_index bearer_by_key_text 8 bearer (bearer_by_key_on 0 15)
    ∷ makes_index tag_by_name_text 9 tag (tag_by_name_on 0 17) ∷ makes_table part_profile_text (part_profile_at 0) ∷ makes_table more_text (more_at 0) ∷ []

pub additions_make : AllMake schema_one additions
unfolding understood everything listing_schema same_name digits
additions_make = (
  record { is = refl; plain = (refl, refl); silent = (refl, refl); read = refl; defined = (refl, refl) },
  (
    record { is = refl; plain = (refl, refl); silent = (refl, refl); read = refl; defined = (refl, refl) },
    (
      record { is = refl; plain = (refl, refl); silent = (refl, refl); read = refl; defined = (refl, refl) },
      (
        record { is = refl; plain = (refl, refl); silent = (refl, refl); read = refl; defined = (refl, refl) },
        (
          record { is = refl; plain = (refl, refl); silent = (refl, refl); read = refl; defined = (refl, refl) },
          tt,
        ),
      ),
    ),
  ),
)

pub makes_two : all_made schema_one additions ≡ schema_two
unfolding digits
makes_two = refl

-- ---- the cuts

pub first_cut : AreCut first_texts (batch added_texts version_text)
unfolding everything
first_cut = ((refl, refl), ((refl, refl), ((refl, refl), ((refl, refl), ((refl, refl), ((refl, refl), ((refl, refl), ((refl, refl), ((refl, refl), ((refl, refl), tt))))))))))

pub added_cut : AreCut added_texts version_text
unfolding everything
added_cut = ((refl, refl), ((refl, refl), ((refl, refl), ((refl, refl), ((refl, refl), tt)))))

pub version_cut : IsCut version_text version_text []
unfolding everything
version_cut = (refl, refl)

pub drops_cut : AreCut (map drop_text added_names) (batch added_texts filling)
unfolding everything
drops_cut = ((refl, refl), ((refl, refl), ((refl, refl), tt)))

pub additions_cut : AreCut added_texts filling
unfolding everything
additions_cut = ((refl, refl), ((refl, refl), ((refl, refl), ((refl, refl), ((refl, refl), tt)))))

pub fill_cut : AreCut (fill_profiles ∷ []) set_version
unfolding everything
fill_cut = ((refl, refl), tt)

pub set_cut : IsCut set_version set_version []
unfolding everything
set_cut = (refl, refl)
