-- The record of a script's node is of good form, and so is each record of a session that has these alone.
use Rattle.std.specs.Prelude.{◌≡◌, ℕ, ◌≤◌, ◌||◌, Bool, true, false, not, List, [], ◌∷◌, Option, Some, None, bytes_eq, cond, filter, find, map, refl, IsTrue, if◌then◌else◌}
use Rattle.std.proofs.Common.{sym, ap, ◌∙◌, arith}
use Rattle.std.specs.Cmp.Derive.{both_true}
use Rattle.std.specs.List.{AllByRecursion, list_all, list_any}
use Rattle.std.proofs.lemmas.Bool.{and_parts, true≢false}
use Rattle.std.proofs.lemmas.Slice.Eq.{bytes_eq-Decides}
use Rattle.meta_state.specs.declared.cluster_state.ClusterState.{ClusterState}
use Rattle.meta_state.specs.States.{zero_state}
use Rattle.scripts.specs.declared.whole_script.Script.{Script}
use Rattle.scripts.specs.declared.whole_script.ScriptNode.{ScriptNode}
use Rattle.scripts.specs.Names.{is_name}
use Rattle.scripts.specs.Scripts.{IsScript, is_node}
use Rattle.session_law.specs.declared.batches.Batch.{Batch}
use Rattle.session_law.specs.declared.node_records.NodeRec.{NodeRec}
use Rattle.session_law.specs.declared.sessions.Session.{Session}
use Rattle.session_law.specs.Histories.{history_of}
use Rattle.session_law.specs.Lawful.{IsRecorded, records_of}
use Rattle.session_law.specs.NodeRecords.{Commit, applied_states, applies_from, apply_of, commit_to, commits_to, does_fail, failed_apply, first_at, first_of, is_handed, last_of, node_record}
use Rattle.session_law.specs.Worlds.{first_state_of, first_world}
use Rattle.report_law.specs.GoodForm.{is_good_apply, is_good_node}
use Rattle.report_law.proofs.NamedHistories.{first_named, master_of, states_named, zero_named}
use Rattle.report_law.proofs.NamedMaps.{all_by, all_filter, all_map, all_of_both, test_from_all}
use Rattle.report_law.proofs.NamedStates.{HasNamedMaps, IsNamedOf}
use Rattle.report_law.proofs.NamedViews.{change_good, view_good}
use Rattle.report_law.proofs.RisingVersions.{Rise, applied_rise, applies_rise, handed_rise, rise_lower, rising_above}

-- ---- the states of a node

module _ (script : Script) (valid : IsScript script) where
  member_named : (member : Bool) → HasNamedMaps (if member then first_state_of script else zero_state script.cluster)
  member_named true = (first_named script valid).maps
  member_named false = (zero_named script.cluster).maps

  found_named : (found : Option ScriptNode) → HasNamedMaps (first_of script found)
  found_named None = (zero_named script.cluster).maps
  found_named (Some node) = member_named node.member

  first_at_named : (name : List ℕ) → HasNamedMaps (first_at script name)
  first_at_named name = found_named (find (λ n. bytes_eq name n.name) script.nodes)

  commits_named : (batches : List Batch) (name : List ℕ) → AllByRecursion (λ c. HasNamedMaps c.state) (commits_to script batches name)
  commits_named batches name =
      all_map (λ c. HasNamedMaps c.state) (commit_to script name) (filter (is_handed script name) (history_of script batches))
      (all_filter (λ s. HasNamedMaps s.world.state) (is_handed script name) (history_of script batches)
      (all_by (λ s. IsNamedOf script.cluster (master_of script) s.world.state) (λ s. HasNamedMaps s.world.state) (λ s named. named.maps) (history_of script batches)
      (states_named script valid batches)))

  last_named : (item : ClusterState) (more : List ClusterState) → HasNamedMaps item → AllByRecursion HasNamedMaps more → HasNamedMaps (last_of item more)
  last_named item [] one all = one
  last_named item (next ∷ more) one all = last_named next more all.0 all.1

  applied_named : (batches : List Batch) (name : List ℕ) → AllByRecursion HasNamedMaps (applied_states script batches name)
  applied_named batches name = (
    first_at_named name,
    all_map HasNamedMaps (λ c. c.state) (filter (λ c. not (does_fail script name c)) (commits_to script batches name))
        (all_filter (λ c. HasNamedMaps c.state) (λ c. not (does_fail script name c)) (commits_to script batches name) (commits_named batches name)),
  )

  -- ---- its applies

  apply_good : (name : List ℕ) (old : ClusterState) (c : Commit) (commits : List Commit) (fails : Bool) → HasNamedMaps old → HasNamedMaps c.state
      → ((state : ClusterState) → HasNamedMaps state → list_all (λ a. is_good_apply a.end) (applies_from script name state commits) ≡ true)
      → list_all (λ a. is_good_apply a.end)
      (if fails then failed_apply old c.state ∷ applies_from script name old commits else apply_of old c.state ∷ applies_from script name c.state commits) ≡ true
  apply_good name old c commits true was is rest = rest old was
  apply_good name old c commits false was is rest = both_true (change_good old c.state was is) (rest c.state is)

  applies_good : (name : List ℕ) (old : ClusterState) (commits : List Commit) → HasNamedMaps old → AllByRecursion (λ c. HasNamedMaps c.state) commits
      → list_all (λ a. is_good_apply a.end) (applies_from script name old commits) ≡ true
  applies_good name old [] was all = refl
  applies_good name old (c ∷ commits) was all =
      apply_good name old c commits (does_fail script name c) was all.0 (λ state named. applies_good name state commits named all.1)

  -- ---- its versions

  member_low : (member : Bool) → (if member then first_state_of script else zero_state script.cluster).version ≤ 1
  member_low true = omega arith
  member_low false = omega arith

  first_low : (found : Option ScriptNode) → (first_of script found).version ≤ 1
  first_low None = omega arith
  first_low (Some node) = member_low node.member

  commits_rise : (batches : List Batch) (name : List ℕ) → Rise (first_at script name).version (commits_to script batches name)
  unfolding first_world
  commits_rise batches name =
      rise_lower (first_at script name).version 1 (commits_to script batches name) (first_low (find (λ n. bytes_eq name n.name) script.nodes))
      (handed_rise script name (first_world script) batches)

  -- ---- its record

  record_good : (batches : List Batch) (node : ScriptNode) → IsTrue (is_name node.name) → IsTrue (is_good_node (node_record script batches node))
  unfolding node_record
  record_good batches node named =
      let name = node.name in
      let first = first_at script name in
      let commits = commits_to script batches name in
      let rise = commits_rise batches name in
      both_true named
      (both_true (both_true (rising_above first.version (map (λ c. c.state.version) commits) rise)
      (both_true (applies_rise script name first.version first commits rise) (applied_rise script name first.version first commits rise)))
      (both_true (applies_good name first commits (first_at_named name) (commits_named batches name))
      (view_good (last_of (zero_state script.cluster) (applied_states script batches name))
      (last_named (zero_state script.cluster) (applied_states script batches name) (zero_named script.cluster).maps (applied_named batches name)))))

-- ---- the records of a session

abbrev IsGood : NodeRec → Type 0
IsGood r = is_good_node r ≡ true

one_of : (r : NodeRec) (records : List NodeRec) (b : Bool) → list_all is_good_node (cond b (r ∷ records) records) ≡ true → (b ≡ true → IsGood r) × (list_all is_good_node records ≡ true)
one_of r records true e = let parts = and_parts (is_good_node r) (list_all is_good_node records) e in (λ _. parts.0, parts.1)
one_of r records false e = (λ f. absurd (true≢false (sym f)), e)

-- where those of a name are good, each is good that has it
named_good : (name : List ℕ) (records : List NodeRec) → list_all is_good_node (records_of name records) ≡ true → AllByRecursion (λ r. bytes_eq name r.node ≡ true → IsGood r) records
named_good name [] e = tt
named_good name (r ∷ records) e =
    let parts = one_of r (records_of name records) (bytes_eq name r.node) e in
    (parts.0, named_good name records parts.1)

either : {R : Type 0} (a b : Bool) → (a || b) ≡ true → (a ≡ true → R) → (b ≡ true → R) → R
either true b p first second = first refl
either false b p first second = second p

flipped : (a b : List ℕ) → bytes_eq a b ≡ true → bytes_eq b a ≡ true
flipped a b e = (bytes_eq-Decides b a).1 (sym ((bytes_eq-Decides a b).0 e))

-- what is good of one node, or of another
good_of_first : (node : ScriptNode) (nodes : List ScriptNode) (r : NodeRec) → (bytes_eq node.name r.node ≡ true → IsGood r)
    → (list_any (λ n. bytes_eq r.node n.name) nodes ≡ true → IsGood r) → list_any (λ n. bytes_eq r.node n.name) (node ∷ nodes) ≡ true → IsGood r
good_of_first node nodes r first rest e =
    either (bytes_eq r.node node.name) (list_any (λ n. bytes_eq r.node n.name) nodes) e (λ f. first (flipped r.node node.name f)) rest

none_known : (records : List NodeRec) → AllByRecursion (λ r. list_any (λ (n : ScriptNode). bytes_eq r.node n.name) [] ≡ true → IsGood r) records
none_known [] = tt
none_known (r ∷ records) = (λ e. absurd (true≢false (sym e)), none_known records)

module _ (script : Script) (valid : IsScript script) (batches : List Batch) (records : List NodeRec) where
  known_good : (nodes : List ScriptNode) → list_all (λ n. is_name n.name) nodes ≡ true → AllByRecursion (λ n. records_of n.name records ≡ node_record script batches n ∷ []) nodes
      → AllByRecursion (λ r. list_any (λ n. bytes_eq r.node n.name) nodes ≡ true → IsGood r) records
  known_good [] named each = none_known records
  known_good (node ∷ nodes) named each =
      let one : list_all is_good_node (records_of node.name records) ≡ true =
      ap (list_all is_good_node) each.0 ∙ both_true (record_good script valid batches node (and_parts _ _ named).0) refl in
      all_of_both (λ r. bytes_eq node.name r.node ≡ true → IsGood r) (λ r. list_any (λ n. bytes_eq r.node n.name) nodes ≡ true → IsGood r)
      (λ r. list_any (λ n. bytes_eq r.node n.name) (node ∷ nodes) ≡ true → IsGood r) (λ r. good_of_first node nodes r) records
      (named_good node.name records one) (known_good nodes (and_parts _ _ named).1 each.1)

pub records_good : (script : Script) → IsScript script → (session : Session) → IsRecorded script session → IsTrue (list_all is_good_node session.nodes)
records_good script valid session recorded =
    test_from_all IsGood is_good_node (λ r good. good) session.nodes
    (all_of_both (λ r. list_any (λ n. bytes_eq r.node n.name) script.nodes ≡ true → IsGood r) (λ r. IsTrue (is_node script r.node)) IsGood (λ r f known. f known) session.nodes
    (known_good script valid session.batches session.nodes script.nodes valid.nodes_named recorded.each) recorded.known)
