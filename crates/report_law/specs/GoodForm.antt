-- Good form: what a session must be for its report to tell it whole, as `reports_fix_sessions` says. All names are names,
-- lists of names and maps are in byte order, no task stands twice in a batch, versions rise, and the lists of the session are
-- in the order of their lines. It is this project's own.
use Rattle.std.specs.Prelude.{ℕ, ◌&&◌, Bool, true, List, is_none, map, nat_lt, bytes_eq, IsTrue}
use Rattle.std.specs.Cmp.Lexicographic.{slice_cmp}
use Rattle.std.specs.List.{list_all}
use Rattle.std.specs.Map.{keys_of}
use Rattle.std.specs.Ordering.{nat_cmp, is_lt}
use Rattle.meta_state.specs.declared.index_metadata.IndexMetadata.{IndexMetadata}
use Rattle.meta_state.specs.declared.looks.Found.{Found}
use Rattle.meta_state.specs.declared.looks.Found.TheVariants as found
use Rattle.meta_state.specs.declared.node_info.NodeInfo.{NodeInfo}
use Rattle.meta_state.specs.declared.cluster_state.ClusterState.{ClusterState}
use Rattle.meta_state.specs.Names.{name_fault}
use Rattle.scripts.specs.Names.{are_distinct, is_name}
use Rattle.executors.specs.SettingTasks.{is_key}
use Rattle.session_law.specs.declared.batches.Entry.{Entry}
use Rattle.session_law.specs.declared.node_records.Apply.{Apply}
use Rattle.session_law.specs.declared.node_records.ApplyEnd.{ApplyEnd}
use Rattle.session_law.specs.declared.node_records.ApplyEnd.TheVariants as end
use Rattle.session_law.specs.declared.node_records.Change.{Change}
use Rattle.session_law.specs.declared.node_records.NodeRec.{NodeRec}
use Rattle.session_law.specs.declared.node_records.View.{View}
use Rattle.session_law.specs.declared.sessions.Session.{Session}
use Rattle.session_law.specs.Histories.{is_same_task}
use Rattle.report_law.specs.Apart.{are_apart_by}
use Rattle.session_law.specs.Lawful.{AreInOrder, is_rising}
use Rattle.session_law.specs.NodeLines.{applied_versions}

-- ---- names

-- a name that an index or an alias may have
abbrev pub is_index_name : List ℕ → Bool
is_index_name name = is_none (name_fault name)

abbrev pub is_name_before : List ℕ → List ℕ → Bool
is_name_before a b = is_lt (slice_cmp nat_cmp a b)

-- names of a kind in byte order, none twice
abbrev pub are_listed : (List ℕ → Bool) → List (List ℕ) → Bool
are_listed test names = list_all test names && is_rising is_name_before names

-- ---- states

abbrev pub is_named_node : List ℕ × NodeInfo → Bool
is_named_node p = is_name p.0 && bytes_eq p.0 p.1.name

abbrev pub is_named_index : List ℕ × IndexMetadata → Bool
is_named_index p = is_index_name p.0 && are_listed is_index_name (keys_of p.1.aliases)

-- a state whose names are names and whose maps are in byte order, with each node under its own name
pub record IsNamedState (state : ClusterState) : Type 0 where
  pub cluster : IsTrue (is_name state.cluster)
  pub master : IsTrue (is_name state.master)
  pub nodes : IsTrue (list_all is_named_node state.nodes && is_rising is_name_before (keys_of state.nodes))
  pub indices : IsTrue (list_all is_named_index state.metadata.indices && is_rising is_name_before (keys_of state.metadata.indices))
  pub settings : IsTrue (are_listed is_key (keys_of state.metadata.settings))

-- ---- records of nodes

abbrev pub is_good_change : Change → Bool
is_good_change change =
    are_listed is_index_name change.created && (are_listed is_index_name change.deleted && (are_listed is_index_name change.changed &&
    (are_listed is_name change.joined && (are_listed is_name change.left && are_listed is_key change.settings))))

abbrev pub is_good_apply : ApplyEnd → Bool
is_good_apply end.Failed = true
is_good_apply (end.Applied high normal low listeners change) = is_good_change change

abbrev pub is_good_alias : List ℕ × List (List ℕ) → Bool
is_good_alias p = is_index_name p.0 && are_listed is_index_name p.1

abbrev pub is_good_view : View → Bool
is_good_view view =
    list_all is_good_alias view.aliases && (are_listed is_index_name (keys_of view.aliases) &&
    (are_listed is_index_name (keys_of view.indices) && are_listed is_key (keys_of view.settings)))

abbrev pub is_apply_before : Apply → Apply → Bool
is_apply_before a b = nat_lt a.to b.to

-- the versions that the node was handed rise, and so do those of its apply lines, and those that it applied
abbrev pub are_versions_rising : NodeRec → Bool
are_versions_rising node =
    is_rising nat_lt node.handed && (is_rising is_apply_before node.applies && is_rising nat_lt (applied_versions node))

abbrev pub is_good_node : NodeRec → Bool
is_good_node node =
    is_name node.node && (are_versions_rising node && (list_all (λ a. is_good_apply a.end) node.applies && is_good_view node.view))

-- ---- batches

-- the client and the step of an entry
abbrev pub entry_key : Entry → ℕ × ℕ
entry_key entry = (entry.client, entry.step)

-- no two of the entries are of one task
abbrev pub are_apart : List Entry → Bool
are_apart entries = are_apart_by is_same_task entries

-- ---- reads

abbrev pub is_good_found : Found → Bool
is_good_found (found.Names names) = are_listed is_index_name names
is_good_found _ = true

-- ---- the whole

pub record IsGoodForm (session : Session) : Type 0 where
  pub queues : IsTrue (list_all (λ b. is_name b.queue) session.batches)
  pub entries : IsTrue (list_all (λ b. are_apart b.entries) session.batches)
  pub order : AreInOrder session
  pub reads : IsTrue (list_all (λ r. is_good_found r.found) session.reads)
  pub nodes : IsTrue (list_all is_good_node session.nodes)
  pub nodes_distinct : IsTrue (are_distinct (map (λ r. r.node) session.nodes))
  pub last : IsNamedState session.last
