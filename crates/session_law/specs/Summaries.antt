-- The summary of a session, in one line: how many tasks ended and how many of them well, how many indices and distinct
-- aliases the last state has, and whether each node applied the last version. The form is this project's own.
use Rattle.std.specs.Prelude.{ℕ, ◌==◌, Bool, true, false, List, [], ◌∷◌, ◌++◌, codes, count_by, decimal, length, if◌then◌else◌}
use Rattle.std.specs.List.{list_all}
use Rattle.plain_data.specs.Pairs.{with}
use Rattle.meta_state.specs.declared.index_metadata.IndexMetadata.{IndexMetadata}
use Rattle.session_law.specs.declared.task_ends.TaskEnd.{TaskEnd}
use Rattle.session_law.specs.declared.task_ends.TaskEnd.TheVariants.{Ok}
use Rattle.session_law.specs.declared.node_records.NodeRec.{NodeRec}
use Rattle.session_law.specs.declared.sessions.Session.{Session}
use Rattle.session_law.specs.NodeLines.{applied_versions}
use Rattle.session_law.specs.Lines.{line_end}
use Rattle.session_law.specs.NodeRecords.{last_of}

abbrev pub is_ok : TaskEnd → Bool
is_ok (Ok version) = true
is_ok _ = false

-- names put into a set one by one
abbrev pub with_keys : List (List ℕ × Unit {0}) → List (List ℕ × Unit {0}) → List (List ℕ × Unit {0})
with_keys [] names = names
with_keys (p ∷ ps) names = with_keys ps (with p.0 tt names)

-- the aliases of some indices, each once
abbrev pub with_aliases_of : List (List ℕ × IndexMetadata) → List (List ℕ × Unit {0}) → List (List ℕ × Unit {0})
with_aliases_of [] names = names
with_aliases_of (p ∷ ps) names = with_aliases_of ps (with_keys p.1.aliases names)

-- whether a node applied a version last
abbrev pub has_reached : ℕ → NodeRec → Bool
has_reached version node = last_of 0 (applied_versions node) == version

abbrev pub equal_word : Bool → List ℕ
equal_word same = if same then codes "equal" else codes "differ"

unfoldable pub summary_of : Session → List ℕ
summary_of session =
    codes "tasks " ++ (decimal (length session.replies) ++ (codes " ok " ++ (decimal (count_by (λ r. is_ok r.end) session.replies) ++
    (codes " indices " ++ (decimal (length session.last.metadata.indices) ++ (codes " aliases " ++ (decimal (length (with_aliases_of session.last.metadata.indices [])) ++
    (codes " nodes " ++ (equal_word (list_all (has_reached session.last.version) session.nodes) ++ line_end)))))))))
