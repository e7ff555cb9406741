-- Commits on their way to a node: the states that it is handed, each with the number of the publication to this node, and
-- with what may have changed since the commit before. That what may have changed goes with a commit, so that a node's
-- apply costs what changed, is this project's own.
use Rattle.std.specs.Prelude.{ℕ, List, [], ◌∷◌, Option, Some, None, map}
use Rattle.meta_state.specs.declared.cluster_state.ClusterState.{ClusterState}
use Rattle.meta_state.specs.declared.touches.Touched.{Touched}
use Rattle.meta_state.specs.Touches.{AgreeOutside, touched_by_both}
use Rattle.session_law.specs.NodeRecords.{Commit}

-- a commit, and what may have changed since the one before; none where that isn't known
pub record HandedCommit : Type 0 where
  pub state : ClusterState
  pub publication : ℕ
  pub since : Option Touched

-- a commit as a session's law has it
abbrev pub commit_of : HandedCommit → Commit
commit_of commit = record { state = commit.state; publication = commit.publication }

abbrev pub commits_of : List HandedCommit → List Commit
commits_of commits = map commit_of commits

-- what is said to have changed since a state before is true of them; where that state isn't known nothing may be said
abbrev pub MayDiffer : Option Touched → Option ClusterState → ClusterState → Type 0
MayDiffer None before state = Unit {0}
MayDiffer (Some touched) None state = ⊥
MayDiffer (Some touched) (Some before) state = AgreeOutside touched before state

-- each commit tells truly what changed since the one before it, the first since a state before all
abbrev pub AreLinked : Option ClusterState → List HandedCommit → Type 0
AreLinked before [] = Unit {0}
AreLinked before (commit ∷ commits) = MayDiffer commit.since before commit.state × AreLinked (Some commit.state) commits

-- the state of the last commit, or the one before all
abbrev pub last_state : Option ClusterState → List HandedCommit → Option ClusterState
last_state before [] = before
last_state before (commit ∷ commits) = last_state (Some commit.state) commits

-- the first commit doesn't tell what changed
abbrev pub first_unknown : List HandedCommit → List HandedCommit
first_unknown [] = []
first_unknown (commit ∷ commits) = record commit { since = None } ∷ commits

-- the end at which commits are handed: those that weren't passed on, and the room for more
pub record Handed : Type 0 where
  pub commits : List HandedCommit
  pub room : ℕ

-- what may have changed by the one or by the other, where both are known
abbrev pub either_touched : Option Touched → Option Touched → Option Touched
either_touched (Some first) (Some then) = Some (touched_by_both first then)
either_touched (Some first) None = None
either_touched None then = None

-- what may have changed with the first of some commits
abbrev pub since_first : List HandedCommit → Option Touched
since_first [] = None
since_first (commit ∷ commits) = commit.since

abbrev pub versions_of : List HandedCommit → List ℕ
versions_of commits = map (λ c. c.state.version) commits
