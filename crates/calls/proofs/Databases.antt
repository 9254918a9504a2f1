-- What an opening finds of a file that holds an index.
use Rattle.std.proofs.Common.{◌∙◌, ap, sym, subst, Result, Ok, Err, IfOk}
use Rattle.sqlite_wal.specs.Recovery.{Image}
use Rattle.sqlite.specs.Effect.{Database}
use Rattle.sqlite.specs.Start.{FindsIn}
use Rattle.sqlite.specs.State as sqlite
use Rattle.tables.specs.Stands.{Finds, FindsOne, StandsFor, StandsForOne}
use Rattle.machine.specs.State.{State}
use Rattle.calls.specs.Databases.{HoldsIndex, HoldsIndexOne}

pub finds_index : (image : Image) (s : sqlite.State) (m : State) → sqlite.Opens s × sqlite.IsLive s → FindsIn image s → HoldsIndex image m → Finds s m
finds_index image s m opened found h = record {
  opens = opened.0;
  live = opened.1;
  stands = subst (λ db. StandsFor db m) (sym (ap (λ (d : Database). d.trees) opened.0.clean ∙ found.holds h.db h.holds)) h.stands;
}

pub finds_index_one : (image : Image) (s : sqlite.State) (m : State) → sqlite.Opens s × sqlite.IsLive s → FindsIn image s → HoldsIndexOne image m → FindsOne s m
finds_index_one image s m opened found h = record {
  opens = opened.0;
  live = opened.1;
  stands = subst (λ db. StandsForOne db m) (sym (ap (λ (d : Database). d.trees) opened.0.clean ∙ found.holds h.db h.holds)) h.stands;
}

-- what two facts about an answer lead to
pub implied : {A B : Type 0} {P Q R : A → Type 0} (r : Result A B) → IfOk r P → IfOk r Q → ((a : A) → P a → Q a → R a) → IfOk r R
implied (Ok a) p q f = f a p q
implied (Err _) p q f = tt
