use Rattle.std.proofs.Common.{◌≡◌, ◌++◌, [], ◌∷◌, subst, sym, rules}
use Rattle.std.specs.List.{AllByRecursion}
use Rattle.tables.specs.Steps.Selected.{AreColumns, AreRead}
use Rattle.tables.proofs.Reading.{are_read_push}
use Rattle.tables.proofs.Selecting.{all_last}
use Rattle.tables.proofs.selection.add_row.Goals as goal

pub returns-clause-read : goal.returns-clause-read
returns-clause-read g c rows read =
    let found = c.args.found.now.items in
    let row = c.args.row.now in
    let item = c.in_ok-item.item in
    let columns = subst (λ vs. AreColumns 0 vs row) (sym c.in_ok-item.ensures.columns) c.in_ok-read.ensures.columns in
    let pushed : c.push.new.self.items ≡ found ++ item ∷ [] = search rules in
    subst (AreRead g.T.Listed.columns (rows ++ row ∷ [])) (sym pushed) (are_read_push g.T.Listed.columns rows found row item read columns)

pub returns-clause-sound : goal.returns-clause-sound
returns-clause-sound g c sound =
    let found = c.args.found.now.items in
    let item = c.in_ok-item.item in
    let pushed : c.push.new.self.items ≡ found ++ item ∷ [] = search rules in
    subst (AllByRecursion g.T.Listed.is_sound) (sym pushed) (all_last g.T.Listed.is_sound found item sound (c.in_ok-item.ensures.sound c.in_ok-read.ensures.sound))
