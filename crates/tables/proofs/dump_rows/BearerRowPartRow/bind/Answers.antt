use Rattle.std.proofs.Common.{rules, ◌≡◌, ◌∙◌, ◌∷◌, [], refl, to_z-of_z}
use Rattle.std.specs.Rc.{rc_str_bytes}
use Rattle.sqlite_value.specs.declared.value.Value.TheVariants.{Int}
use Rattle.flatten.specs.Rows.{bearer_value, results_value}
use Rattle.lsif.specs.declared.request_kind.RequestKind.TheVariants.{Definition, References, Hover}
use Rattle.tables.specs.Columns.{bearer_columns}
use Rattle.tables.proofs.Puts.{bound_more}
use Rattle.tables.proofs.Inserts.{bound_optional, optional_is}
use Rattle.tables.proofs.dump_rows.BearerRowPartRow.bind.Goals as goal

pub returns : goal.returns
returns c =
    let key : c.as_str-key.result.now ≡ rc_str_bytes c.args.self.now.key = search rules in
    bound_more c.extend_from_slice.result c.args.values.now.items c.extend_from_slice.new.self.items (c.params-to_sql.result ∷ c.params-to_sql-2.result ∷ c.params-to_sql-3.result ∷ c.params-to_sql-4.result ∷ c.params-to_sql-5.result ∷ c.params-to_sql-6.result ∷ c.params-to_sql-7.result ∷ []) (Int c.args.slot ∷ bearer_columns (bearer_value c.args.self.now)) c.extend_from_slice.ensures.items
    (rw (c.params-to_sql.ensures, c.params-to_sql-2.ensures, c.params-to_sql-3.ensures, c.params-to_sql-4.ensures, c.params-to_sql-5.ensures ∙ optional_is _ (λ n. refl) _, c.params-to_sql-6.ensures ∙ optional_is _ (λ n. refl) _, c.params-to_sql-7.ensures ∙ optional_is _ (λ n. refl) _, key, to_z-of_z c.ranges.slot, c.kind_index-kind.ensures, c.own_results-def.ensures.def, c.own_results-def.ensures.refs, c.own_results-def.ensures.hover, bound_optional (results_value c.args.self.now.results Definition), bound_optional (results_value c.args.self.now.results References), bound_optional (results_value c.args.self.now.results Hover)) refl)
