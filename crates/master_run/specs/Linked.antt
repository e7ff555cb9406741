-- Links to a script's nodes, of which none fails, each with room for all that may still be committed.
use Rattle.std.specs.Prelude.{◌≡◌, ◌+◌, ◌≤◌, ℕ, true, List, [], length}
use Rattle.std.specs.List.{AllByRecursion, AllZip}
use Rattle.publication.specs.LinkMeanings.{LinkMeaning}
use Rattle.scripts.specs.declared.whole_script.Script.{Script}
use Rattle.scripts.specs.Scripts.{is_submit}
use Rattle.master_run.specs.Courses.{Course}
use Rattle.master_run.specs.Sendings.{AreLinksOf}
use Rattle.master_run.specs.StepsLeft.{steps_left}

-- how many batches there may still be: one for each submit that waits or is to come
abbrev pub batches_left : Script → Course → ℕ
batches_left script k = steps_left is_submit script.clients k.positions + length k.waiting

pub record IsSteady (left : ℕ) (link : LinkMeaning) : Type 0 where
  pub reliable : link.reliable ≡ true
  pub room : left ≤ link.room

pub record IsLinked (script : Script) (k : Course) (links : List LinkMeaning) : Type 0 where
  pub of : AreLinksOf script.nodes k.book.world links
  pub steady : AllByRecursion (IsSteady (batches_left script k)) links
  pub faults : script.faults ≡ []

-- what a batch may take of a link
pub record IsUsed (before after : LinkMeaning) : Type 0 where
  pub reliable : after.reliable ≡ before.reliable
  pub room : before.room ≤ after.room + 1

abbrev pub AreUsed : List LinkMeaning → List LinkMeaning → Type 0
AreUsed before after = AllZip IsUsed before after
