-- Each node took a first part of what the batches hand it, and has the rest left: at first, after a batch, and after an
-- apply.
use Rattle.std.specs.Prelude.{◌≡◌, ℕ, ◌+◌, ◌≤◌, Bool, true, false, List, [], ◌∷◌, ◌++◌, drop, length, map, set, take, Option, Some, None, slice_get, refl}
use Rattle.std.specs.Option.{option_map}
use Rattle.std.proofs.Common.{sym, ◌∙◌, ap, append_assoc, subst, arith}
use Rattle.std.proofs.lemmas.List.{length-append}
use Rattle.std.proofs.Math.Seq.{drop-append_seam, take-append_seam}
use Rattle.std.specs.List.{AllZip}
use Rattle.scripts.specs.declared.queues.QueueSpec.{QueueSpec}
use Rattle.scripts.specs.declared.whole_script.Script.{Script}
use Rattle.scripts.specs.declared.whole_script.ScriptNode.{ScriptNode}
use Rattle.scripts.specs.Scripts.{IsScript}
use Rattle.meta_state.specs.declared.cluster_state.ClusterState.{ClusterState}
use Rattle.session_law.specs.declared.batches.Batch.{Batch}
use Rattle.session_law.specs.declared.batches.Entry.{Entry}
use Rattle.session_law.specs.declared.node_records.Apply.{Apply}
use Rattle.session_law.specs.declared.worlds.Stepped.{Stepped}
use Rattle.session_law.specs.declared.worlds.World.{World}
use Rattle.session_law.specs.Histories.{SteppedBatch}
use Rattle.session_law.specs.NodeRecords.{Commit, commits_to, does_fail, first_of, last_of}
use Rattle.master_run.specs.Books.{Chronicle, IsKeptBook, last_batch, last_stepped, noted, ran_at}
use Rattle.master_run.specs.Courses.{Course}
use Rattle.master_run.specs.Events.{Event, event}
use Rattle.master_run.specs.Nodes.{NodeCourse, applied_node, applied_so, first_applied, fresh_node, handed_each, handed_of, node_taking}
use Rattle.master_run.specs.SoFar.{HasTaken, IsLawfulSoFar, IsRecordedAt, IsRecordedSoFar, states_in}
use Rattle.master_run.proofs.Handing.{applies_count, applies_push, apply_line, commits_most, commits_push, last_push, next_stepped, states_applied, states_failed, states_most}
use Rattle.master_run.proofs.Keeping.{batch_of, no_some, some_same, stepped_again}
use Rattle.master_run.proofs.Places.{zip_at, zip_set}

-- ---- at first

fresh_each : (script : Script) (nodes : List ScriptNode) → AllZip (IsRecordedAt script []) nodes (map (fresh_node script) nodes)
fresh_each script [] = tt
fresh_each script (node ∷ more) = (record { taken = []; handed = refl; took = record { state = refl; place = refl; applies = refl } }, fresh_each script more)

pub recorded_first : (script : Script) → IsRecordedSoFar script [] (map (fresh_node script) script.nodes)
recorded_first script = fresh_each script script.nodes

-- ---- after a batch

handed_one : (script : Script) (batches : List Batch) (batch : Batch) (node : ScriptNode) (has : NodeCourse) → IsRecordedAt script batches node has
    → IsRecordedAt script (batches ++ batch ∷ []) node (record has { left = has.left ++ handed_of script node.name (Some (next_stepped script batches batch)) })
handed_one script batches batch node has h =
    let more = handed_of script node.name (Some (next_stepped script batches batch)) in
    record {
      taken = h.taken;
      handed = sym (append_assoc h.taken has.left more) ∙ ap (λ (l : List Commit). l ++ more) h.handed ∙ sym (commits_push script batches batch node.name);
      took = record { state = h.took.state; place = h.took.place; applies = h.took.applies };
    }

handed_all : (script : Script) (batches : List Batch) (batch : Batch) (nodes : List ScriptNode) (have : List NodeCourse) → AllZip (IsRecordedAt script batches) nodes have
    → AllZip (IsRecordedAt script (batches ++ batch ∷ [])) nodes (handed_each script (Some (next_stepped script batches batch)) nodes have)
handed_all script batches batch [] [] all = tt
handed_all script batches batch [] (has ∷ others) all = absurd all
handed_all script batches batch (node ∷ more) [] all = absurd all
handed_all script batches batch (node ∷ more) (has ∷ others) all =
    (handed_one script batches batch node has all.0, handed_all script batches batch more others all.1)

last_pushed : (batches : List Batch) (batch : Batch) → last_batch (batches ++ batch ∷ []) ≡ Some batch
last_pushed [] batch = refl
last_pushed (first ∷ []) batch = refl
last_pushed (first ∷ next ∷ more) batch = last_pushed (next ∷ more) batch

abbrev stepped_so : Batch → Stepped × World → SteppedBatch
stepped_so batch step = record { batch = batch; stepped = step.0; world = step.1 }

-- what is noted in a kept book is the batch as it is stepped behind the others
pub noted_stepped : (script : Script) (book : Chronicle) (number : ℕ) (queue : QueueSpec) (entries : List Entry) (at commit : ℕ) → IsScript script → IsKeptBook script book
    → slice_get script.queues number ≡ Some queue
    → last_stepped (noted book queue entries at (ran_at script book.world queue entries commit)) ≡ Some (next_stepped script book.batches (batch_of script book queue entries at commit))
noted_stepped script book number queue entries at commit valid kept e =
    let batch = batch_of script book queue entries at commit in
    let made = ran_at script book.world queue entries commit in
    ap (option_map (λ (b : Batch). record { batch = b; stepped = record { result = b.result; ends = made.0.ends }; world = made.1 })) (last_pushed book.batches batch)
    ∙ ap (λ (s : Stepped × World). Some (stepped_so batch s)) (stepped_again script book number queue entries at commit valid kept e)

pub recorded_served : (script : Script) (book : Chronicle) (number : ℕ) (queue : QueueSpec) (entries : List Entry) (at commit : ℕ) (nodes : List NodeCourse) → IsScript script → IsKeptBook script book
    → slice_get script.queues number ≡ Some queue → IsRecordedSoFar script book.batches nodes
    → let after = noted book queue entries at (ran_at script book.world queue entries commit) in
    IsRecordedSoFar script after.batches (handed_each script (last_stepped after) script.nodes nodes)
recorded_served script book number queue entries at commit nodes valid kept e h =
    let batch = batch_of script book queue entries at commit in
    subst (λ (s : Option SteppedBatch). IsRecordedSoFar script (book.batches ++ batch ∷ []) (handed_each script s script.nodes nodes))
    (sym (noted_stepped script book number queue entries at commit valid kept e)) (handed_all script book.batches batch script.nodes nodes h)

-- ---- after an apply

took_one : (script : Script) (node : ScriptNode) (taken more : List Commit) (commit : Commit) (has : NodeCourse) (b : Bool) → does_fail script node.name commit ≡ b
    → HasTaken script node taken has → HasTaken script node (taken ++ commit ∷ []) (record (applied_so b commit has) { left = more })
took_one script node taken more commit has true e h =
    let first = first_of script (Some node) in
    let same = states_failed script node.name taken commit e in
    record {
      state = h.state ∙ ap (last_of first) (sym same);
      place = h.place ∙ ap (λ (l : List ClusterState). length l) (sym same);
      applies = (λ i. h.applies i ++ apply_line (sym e i) (h.state i) commit.state ∷ []) ∙ sym (applies_push script node.name taken commit first);
    }
took_one script node taken more commit has false e h =
    let first = first_of script (Some node) in
    let grown = states_applied script node.name taken commit e in
    record {
      state = sym (ap (last_of first) grown ∙ last_push first (states_in script node.name taken) commit.state);
      place = ap (λ (n : ℕ). n + 1) h.place ∙ sym (ap (λ (l : List ClusterState). length l) grown ∙ length-append (states_in script node.name taken) (commit.state ∷ []));
      applies = (λ i. h.applies i ++ apply_line (sym e i) (h.state i) commit.state ∷ []) ∙ sym (applies_push script node.name taken commit first);
    }

applied_one : (script : Script) (batches : List Batch) (node : ScriptNode) (has : NodeCourse) (commit : Commit) (more : List Commit) → has.left ≡ commit ∷ more
    → IsRecordedAt script batches node has → IsRecordedAt script batches node (record (node_taking script node.name commit has) { left = more })
applied_one script batches node has commit more e h = record {
  taken = h.taken ++ commit ∷ [];
  handed = append_assoc h.taken (commit ∷ []) more ∙ ap (λ (l : List Commit). h.taken ++ l) (sym e) ∙ h.handed;
  took = took_one script node h.taken more commit has (does_fail script node.name commit) refl h.took;
}

-- what an apply does
pub record IsApplied (script : Script) (k now : Course) (number : ℕ) : Type 0 where
  pub node : ScriptNode
  pub has : NodeCourse
  pub commit : Commit
  pub more : List Commit
  pub of_script : slice_get script.nodes number ≡ Some node
  pub of_course : slice_get k.nodes number ≡ Some has
  pub left : has.left ≡ commit ∷ more
  pub is : record k { nodes = set k.nodes number (record (node_taking script node.name commit has) { left = more }) } ≡ now

abbrev with_node : Course → ℕ → NodeCourse → Course
with_node k number has = record k { nodes = set k.nodes number has }

by_left : (script : Script) (k now : Course) (number : ℕ) (node : ScriptNode) (has : NodeCourse) (left : List Commit) → slice_get script.nodes number ≡ Some node → slice_get k.nodes number ≡ Some has
    → has.left ≡ left → option_map (with_node k number) (first_applied script node.name left has) ≡ Some now → IsApplied script k now number
by_left script k now number node has [] e f g h = absurd (no_some now h)
by_left script k now number node has (commit ∷ more) e f g h =
    record { node = node; has = has; commit = commit; more = more; of_script = e; of_course = f; left = g; is = some_same _ now h }

by_place : (script : Script) (k now : Course) (number : ℕ) (node : Option ScriptNode) (has : Option NodeCourse) → slice_get script.nodes number ≡ node → slice_get k.nodes number ≡ has
    → option_map (with_node k number) (applied_node script node has) ≡ Some now → IsApplied script k now number
by_place script k now number None has e f h = absurd (no_some now h)
by_place script k now number (Some node) None e f h = absurd (no_some now h)
by_place script k now number (Some node) (Some has) e f h = by_left script k now number node has has.left e f refl h

pub is_applied : (script : Script) (k now : Course) (number : ℕ) → event script (Event.Apply number) k ≡ Some now → IsApplied script k now number
is_applied script k now number h = by_place script k now number (slice_get script.nodes number) (slice_get k.nodes number) refl refl h

pub apply_keeps : (script : Script) (k now : Course) (number : ℕ) → IsLawfulSoFar script k → event script (Event.Apply number) k ≡ Some now → IsLawfulSoFar script now
apply_keeps script k now number h e =
    let a = is_applied script k now number e in
    let at = zip_at (IsRecordedAt script k.book.batches) script.nodes k.nodes number a.node a.has h.recorded a.of_script a.of_course in
    subst (IsLawfulSoFar script) a.is (record {
      performed = h.performed;
      ordered = h.ordered;
      seen = h.seen;
      passed = h.passed;
      ended = h.ended;
      told = h.told;
      recorded = zip_set (IsRecordedAt script k.book.batches) script.nodes k.nodes number a.node (record (node_taking script a.node.name a.commit a.has) { left = a.more }) h.recorded a.of_script
          (applied_one script k.book.batches a.node a.has a.commit a.more a.left at);
      lapsed = h.lapsed;
    })

-- ---- what the rule says of lengths

-- by how many applies a node made
pub recorded_taken : (script : Script) (batches : List Batch) (node : ScriptNode) (has : NodeCourse) (h : IsRecordedAt script batches node has)
    → h.taken ≡ take (length has.applies) (commits_to script batches node.name)
recorded_taken script batches node has h =
    sym (take-append_seam h.taken has.left)
    ∙ (λ i. take (sym (ap (λ (l : List Apply). length l) h.took.applies ∙ applies_count script node.name (first_of script (Some node)) h.taken) i) (h.handed i))

pub recorded_left : (script : Script) (batches : List Batch) (node : ScriptNode) (has : NodeCourse) → IsRecordedAt script batches node has
    → has.left ≡ drop (length has.applies) (commits_to script batches node.name)
recorded_left script batches node has h =
    sym (drop-append_seam h.taken has.left)
    ∙ (λ i. drop (sym (ap (λ (l : List Apply). length l) h.took.applies ∙ applies_count script node.name (first_of script (Some node)) h.taken) i) (h.handed i))

-- no more was applied than was tried, and that and the rest are no more than the batches
pub recorded_place : (script : Script) (batches : List Batch) (node : ScriptNode) (has : NodeCourse) → IsRecordedAt script batches node has → has.place ≤ length has.applies
recorded_place script batches node has h =
    let most = states_most script node.name h.taken in
    let many = ap (λ (l : List Apply). length l) h.took.applies ∙ applies_count script node.name (first_of script (Some node)) h.taken in
    let place = h.took.place in
    omega arith

pub recorded_most : (script : Script) (batches : List Batch) (node : ScriptNode) (has : NodeCourse) → IsRecordedAt script batches node has → length has.applies + length has.left ≤ length batches
recorded_most script batches node has h =
    let many = ap (λ (l : List Apply). length l) h.took.applies ∙ applies_count script node.name (first_of script (Some node)) h.taken in
    let both = sym (length-append h.taken has.left) ∙ ap (λ (l : List Commit). length l) h.handed in
    let most = commits_most script batches node.name in
    omega arith
