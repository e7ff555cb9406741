-- What is always so of a node with its watches, all of which are of one client that has four steps.
use Rattle.std.specs.Prelude.{◌≡◌, List, [], ◌∷◌, length, map}
use Rattle.meta_state.specs.declared.cluster_state.ClusterState.{ClusterState}
use Rattle.observers.specs.Laws.{AreAgreed}
use Rattle.observers.specs.Registries.{Board}
use Rattle.observers.specs.Showings.{AreShown}
use Rattle.observers.specs.Words.{WatchTable}

-- a table of one client with four steps
abbrev pub AreFour : WatchTable → Type 0
AreFour words = map length words ≡ 4 ∷ []

-- the watches were shown the node's states, and the words agree with them
pub record IsBoard (states : List ClusterState) (b : Board) : Type 0 where
  pub shown : AreShown states b.registry
  pub agreed : AreAgreed 0 b
  pub four : AreFour b.words
