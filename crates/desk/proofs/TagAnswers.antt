-- The tags that an index finds are what answers.
use Rattle.std.proofs.Common.{◌≡◌, ℕ, List}
use Rattle.std.specs.Prelude.{Option}
use Rattle.machine.specs.Answers.{Answers}
use Rattle.machine.specs.FoundTags.{FoundTag}
use Rattle.machine.specs.Reply.{ReplyValue, tags_found}
use Rattle.machine.specs.State.{State}
use Rattle.desk.specs.Indexes.{FindsTags}
use Rattle.desk.specs.Steps.Listed.{tags_query}
use Rattle.desk.specs.declared.index.Wanted.{Wanted}
use Rattle.desk.specs.declared.index.Wanted.TheVariants.{Name, Prefix}

pub tags_answer : (m : State) (wanted : Wanted) (asked : Option (List ℕ)) (found : List FoundTag) (r : ReplyValue) → FindsTags m asked wanted found → r ≡ tags_found found → Answers m (tags_query wanted asked) r
tags_answer m (Name text) asked found r finds is = (found, finds, is)
tags_answer m (Prefix text) asked found r finds is = (found, finds, is)
