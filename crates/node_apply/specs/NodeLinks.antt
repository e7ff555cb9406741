-- The link to a node that applies: what it carries, how it follows a script, and the commits that it was handed and didn't
-- pass on yet, as a session's law has them. At its faults, which a script lists by the count of publications, a message
-- isn't received, or a commit isn't handed. All of it is this project's own.
use Rattle.std.specs.Prelude.{◌≡◌, ◌==◌, ◌&&◌, ℕ, Bool, true, false, not, List, [], ◌∷◌, Option, Some, None, bytes_eq, if◌then◌else◌}
use Rattle.std.specs.List.{list_any}
use Rattle.meta_state.specs.declared.cluster_state.ClusterState.{ClusterState}
use Rattle.meta_state.specs.Touches.{touched_by_both}
use Rattle.publication.specs.declared.messages.Message.{Message}
use Rattle.publication.specs.declared.messages.Message.TheVariants.{Full, Diff}
use Rattle.publication.specs.LinkMeanings.{LinkMeaning, ScriptMeaning, ScriptedFault, after_hand, after_noted}
use Rattle.scripts.specs.declared.faults.Fault.{Fault}
use Rattle.scripts.specs.declared.faults.FaultKind.{FaultKind}
use Rattle.scripts.specs.declared.faults.FaultKind.TheVariants as kind
use Rattle.session_law.specs.NodeRecords.{Commit}
use Rattle.node_apply.specs.declared.sinces.Since.{Since}
use Rattle.node_apply.specs.declared.sinces.Since.TheVariants.{Unknown, Same, Among}
use Rattle.node_apply.specs.Commits.{AreLinked, HandedCommit, MayDiffer, last_state}
use Rattle.node_apply.specs.TouchedNames.{touched_of}

-- ---- scripted faults

-- whether a link fails by such a fault
abbrev pub cuts : FaultKind → Bool
cuts kind.Unreachable = true
cuts kind.LostCommit = true
cuts kind.Apply = false

abbrev pub cuts_node : List ℕ → Fault → Bool
cuts_node name f = bytes_eq name f.node && cuts f.kind

abbrev pub cuts_at : List ℕ → ℕ → Fault → Bool
cuts_at name count f = cuts_node name f && (f.publication == count)

-- the first fault of a link to a node at a count of publications
abbrev pub fault_on : List Fault → List ℕ → ℕ → Option FaultKind
fault_on [] name count = None
fault_on (f ∷ fs) name count = if cuts_at name count f then Some f.kind else fault_on fs name count

abbrev pub scripted : Option FaultKind → Option ScriptedFault
scripted None = None
scripted (Some kind.Unreachable) = Some ScriptedFault.Unreachable
scripted (Some kind.LostCommit) = Some ScriptedFault.LostCommit
scripted (Some kind.Apply) = None

abbrev pub is_unreachable : Option FaultKind → Bool
is_unreachable (Some kind.Unreachable) = true
is_unreachable _ = false

abbrev pub is_lost : Option FaultKind → Bool
is_lost (Some kind.LostCommit) = true
is_lost _ = false

-- ---- a link

-- what any link means, and the faults that the script lists
pub record NodeLinkView : Type 0 where
  pub meaning : LinkMeaning
  pub failing : List Fault

abbrev pub new_node_link : List ℕ → ClusterState → ℕ → List Fault → NodeLinkView
new_node_link name held room failing = record {
  meaning = record {
    name = name;
    held = held;
    ready = false;
    handed = [];
    room = room;
    faults = 0;
    reliable = not (list_any (cuts_node name) failing);
    last = None;
    sent = 0;
    numbers = [];
    base = None;
  };
  failing = failing;
}

-- how it follows the script: it is steady
abbrev pub script_of : NodeLinkView → ScriptMeaning
script_of link = record {
  last = link.meaning.last;
  publications = link.meaning.sent;
  fault_at = λ count. scripted (fault_on link.failing link.meaning.name count);
  numbers = link.meaning.numbers;
  strays = 0;
  carries = λ message. true;
  steady = true;
}

-- a link with a message noted that leads to a state of this identifier
abbrev pub noted : ℕ → NodeLinkView → NodeLinkView
noted id link = record link { meaning = after_noted id link.meaning link.meaning.faults }

-- the fault at the count of publications
abbrev pub fault_now : NodeLinkView → Option FaultKind
fault_now link = fault_on link.failing link.meaning.name link.meaning.sent

-- a link whose node was handed the state that it holds
abbrev pub handed_over : NodeLinkView → NodeLinkView
handed_over link = record link { meaning = after_hand link.meaning link.meaning.faults }

-- ---- what was passed on

-- commits of these states, by the publications of these numbers
abbrev pub commits_told : List ClusterState → List ℕ → List Commit
commits_told [] numbers = []
commits_told (state ∷ states) [] = []
commits_told (state ∷ states) (number ∷ numbers) = record { state = state; publication = number } ∷ commits_told states numbers

-- the commits that the node was handed and that weren't passed on
abbrev pub told : LinkMeaning → List Commit
told link = commits_told link.handed link.numbers

abbrev pub last_commit : Option ClusterState → List Commit → Option ClusterState
last_commit base [] = base
last_commit base (commit ∷ commits) = last_commit (Some commit.state) commits

-- a link whose commits were passed on: it means all else that it meant
abbrev pub passed : NodeLinkView → NodeLinkView
passed link = record link {
  meaning = record link.meaning { handed = []; numbers = []; base = last_commit link.meaning.base (told link.meaning) };
}

-- ---- what may have changed since the last commit

-- what is told of a state and the one of the last commit, where this is known
abbrev pub IsSince : Since → Option ClusterState → ClusterState → Type 0
IsSince Unknown before state = Unit {0}
IsSince Same before state = before ≡ Some state
IsSince (Among touched) before state = MayDiffer (Some touched) before state

-- what is told after a message that was accepted
abbrev pub since_on : Since → Message → Since
since_on since (Full state) = Unknown
since_on Unknown (Diff diff) = Unknown
since_on Same (Diff diff) = Among (touched_of diff)
since_on (Among touched) (Diff diff) = Among (touched_by_both touched (touched_of diff))

pub record IsTiedLink (base : Option ClusterState) (commits : List HandedCommit) (since : Since) (held : ClusterState) : Type 0 where
  pub linked : AreLinked base commits
  pub behind : IsSince since (last_state base commits) held
