-- What a node is handed grows at its end with each batch: by the batch's commit, where the node is handed that. And what
-- the applies of commits are grows by the last one's.
use Rattle.std.specs.Prelude.{◌≡◌, ℕ, ◌+◌, ◌≤◌, Bool, true, false, not, ◌&&◌, cond, List, [], ◌∷◌, ◌++◌, filter, length, map, Some, is_some, refl, if◌then◌else◌}
use Rattle.std.proofs.Common.{sym, ◌∙◌, ap, append-nil, arith}
use Rattle.std.proofs.Math.Bool.{and-true}
use Rattle.std.proofs.lemmas.List.{length-map, map-append}
use Rattle.std.proofs.lemmas.List.Elements.{filter-append}
use Rattle.plain_data.specs.Pairs.{lookup}
use Rattle.meta_state.specs.declared.cluster_state.ClusterState.{ClusterState}
use Rattle.scripts.specs.declared.whole_script.Script.{Script}
use Rattle.session_law.specs.declared.batches.Batch.{Batch}
use Rattle.session_law.specs.declared.node_records.Apply.{Apply}
use Rattle.session_law.specs.declared.worlds.World.{World}
use Rattle.session_law.specs.Histories.{SteppedBatch, after, history_of, history_on, stepped, world_after}
use Rattle.session_law.specs.Committed.{is_published}
use Rattle.session_law.specs.NodeRecords.{Commit, applies_from, apply_of, commit_to, commits_to, does_fail, failed_apply, is_handed, is_handed_on, last_of, sent_to}
use Rattle.session_law.specs.Publications.{fault_at}
use Rattle.session_law.specs.Worlds.{first_world}
use Rattle.session_law.proofs.History.{history_append}
use Rattle.master_run.specs.Nodes.{handed_of}
use Rattle.master_run.specs.SoFar.{states_in}

-- ---- the commits

-- a batch as it is stepped behind others
abbrev pub next_stepped : Script → List Batch → Batch → SteppedBatch
next_stepped script batches batch =
    record { batch = batch; stepped = (stepped script (world_after script batches) batch).0; world = (stepped script (world_after script batches) batch).1 }

one_handed : (script : Script) (name : List ℕ) (s : SteppedBatch) (b : Bool) → map (commit_to script name) (cond b (s ∷ []) []) ≡ (if b then commit_to script name s ∷ [] else [])
one_handed script name s true = refl
one_handed script name s false = refl

pub commits_push : (script : Script) (batches : List Batch) (batch : Batch) (name : List ℕ)
    → commits_to script (batches ++ batch ∷ []) name ≡ commits_to script batches name ++ handed_of script name (Some (next_stepped script batches batch))
commits_push script batches batch name =
    let history = history_of script batches in
    let next = next_stepped script batches batch in
    ap (λ (h : List SteppedBatch). map (commit_to script name) (filter (is_handed script name) h)) (history_append script (first_world script) batches (batch ∷ []))
    ∙ ap (map (commit_to script name)) (filter-append (is_handed script name) history (next ∷ []))
    ∙ map-append (commit_to script name) (filter (is_handed script name) history) (filter (is_handed script name) (next ∷ []))
    ∙ ap (λ (l : List Commit). commits_to script batches name ++ l) (one_handed script name next (is_handed script name next))

-- where the script has no faults, a node is handed each published state that has it
pub handed_plain : (script : Script) (name : List ℕ) (s : SteppedBatch) → script.faults ≡ [] → is_handed script name s ≡ (is_published s.stepped.result && is_some (lookup name s.world.state.nodes))
handed_plain script name s none =
    (λ i. is_published s.stepped.result && (is_some (lookup name s.world.state.nodes) && is_handed_on (fault_at (none i) name (sent_to script name s.world))))
    ∙ ap (λ (b : Bool). is_published s.stepped.result && b) (and-true (is_some (lookup name s.world.state.nodes)))

-- ---- the states

one_state : (commit : Commit) (b : Bool) → map (λ (c : Commit). c.state) (cond b (commit ∷ []) []) ≡ cond b (commit.state ∷ []) []
one_state commit true = refl
one_state commit false = refl

states_push : (script : Script) (name : List ℕ) (commits : List Commit) (commit : Commit) (b : Bool) → does_fail script name commit ≡ b
    → states_in script name (commits ++ commit ∷ []) ≡ states_in script name commits ++ cond (not b) (commit.state ∷ []) []
states_push script name commits commit b e =
    let applies : Commit → Bool = λ c. not (does_fail script name c) in
    ap (map (λ (c : Commit). c.state)) (filter-append applies commits (commit ∷ []))
    ∙ map-append (λ (c : Commit). c.state) (filter applies commits) (filter applies (commit ∷ []))
    ∙ ap (λ (l : List ClusterState). states_in script name commits ++ l) (one_state commit (applies commit) ∙ ap (λ (f : Bool). cond (not f) (commit.state ∷ []) []) e)

pub states_failed : (script : Script) (name : List ℕ) (commits : List Commit) (commit : Commit) → does_fail script name commit ≡ true
    → states_in script name (commits ++ commit ∷ []) ≡ states_in script name commits
states_failed script name commits commit e = states_push script name commits commit true e ∙ append-nil (states_in script name commits)

pub states_applied : (script : Script) (name : List ℕ) (commits : List Commit) (commit : Commit) → does_fail script name commit ≡ false
    → states_in script name (commits ++ commit ∷ []) ≡ states_in script name commits ++ commit.state ∷ []
states_applied script name commits commit e = states_push script name commits commit false e

pub last_push : {A : Type 0} (item : A) (xs : List A) (x : A) → last_of item (xs ++ x ∷ []) ≡ x
last_push item [] x = refl
last_push item (next ∷ xs) x = last_push next xs x

-- ---- the applies

-- the line of an apply that fails or doesn't
abbrev pub apply_line : Bool → ClusterState → ClusterState → Apply
apply_line fails old new = if fails then failed_apply old new else apply_of old new

one_line : (b : Bool) (old new : ClusterState) → (if b then failed_apply old new ∷ [] else apply_of old new ∷ []) ≡ apply_line b old new ∷ []
one_line true old new = refl
one_line false old new = refl

abbrev ArePushed : Script → List ℕ → List Commit → Commit → ClusterState → Type 0
ArePushed script name commits commit old =
    applies_from script name old (commits ++ commit ∷ [])
    ≡ applies_from script name old commits ++ apply_line (does_fail script name commit) (last_of old (states_in script name commits)) commit.state ∷ []

push_by : (script : Script) (name : List ℕ) (first : Commit) (commits : List Commit) (commit : Commit) (old : ClusterState) (b : Bool)
    → ArePushed script name commits commit old → ArePushed script name commits commit first.state
    → let rest : ClusterState → List Commit → List Apply = applies_from script name in
    (if b then failed_apply old first.state ∷ rest old (commits ++ commit ∷ []) else apply_of old first.state ∷ rest first.state (commits ++ commit ∷ []))
    ≡ (if b then failed_apply old first.state ∷ rest old commits else apply_of old first.state ∷ rest first.state commits)
    ++ apply_line (does_fail script name commit)
    (last_of old (map (λ (c : Commit). c.state) (cond (not b) (first ∷ filter (λ (c : Commit). not (does_fail script name c)) commits) (filter (λ (c : Commit). not (does_fail script name c)) commits)))) commit.state ∷ []
push_by script name first commits commit old true failed applied = ap (λ (l : List Apply). failed_apply old first.state ∷ l) failed
push_by script name first commits commit old false failed applied = ap (λ (l : List Apply). apply_of old first.state ∷ l) applied

pub applies_push : (script : Script) (name : List ℕ) (commits : List Commit) (commit : Commit) (old : ClusterState)
    → applies_from script name old (commits ++ commit ∷ [])
    ≡ applies_from script name old commits ++ apply_line (does_fail script name commit) (last_of old (states_in script name commits)) commit.state ∷ []
applies_push script name [] commit old = one_line (does_fail script name commit) old commit.state
applies_push script name (first ∷ commits) commit old =
    push_by script name first commits commit old (does_fail script name first) (applies_push script name commits commit old) (applies_push script name commits commit first.state)

-- ---- as many applies as commits, to their versions

applies_by : (b : Bool) (old : ClusterState) (first : Commit) (failed applied : List Apply) (versions : List ℕ) → map (λ (a : Apply). a.to) failed ≡ versions → map (λ (a : Apply). a.to) applied ≡ versions
    → map (λ (a : Apply). a.to) (if b then failed_apply old first.state ∷ failed else apply_of old first.state ∷ applied) ≡ first.state.version ∷ versions
applies_by true old first failed applied versions e f = ap (λ (l : List ℕ). first.state.version ∷ l) e
applies_by false old first failed applied versions e f = ap (λ (l : List ℕ). first.state.version ∷ l) f

pub applies_to : (script : Script) (name : List ℕ) (old : ClusterState) (commits : List Commit)
    → map (λ (a : Apply). a.to) (applies_from script name old commits) ≡ map (λ (c : Commit). c.state.version) commits
applies_to script name old [] = refl
applies_to script name old (first ∷ commits) =
    applies_by (does_fail script name first) old first (applies_from script name old commits) (applies_from script name first.state commits) (map (λ (c : Commit). c.state.version) commits)
    (applies_to script name old commits) (applies_to script name first.state commits)

pub applies_count : (script : Script) (name : List ℕ) (old : ClusterState) (commits : List Commit) → length (applies_from script name old commits) ≡ length commits
applies_count script name old commits =
    sym (length-map (applies_from script name old commits) (λ (a : Apply). a.to)) ∙ ap (λ (l : List ℕ). length l) (applies_to script name old commits)
    ∙ length-map commits (λ (c : Commit). c.state.version)

-- ---- no more than there are

fewer_by : {X : Type 0} (b : Bool) (x : X) (kept : List X) (n : ℕ) → length kept ≤ n → length (cond b (x ∷ kept) kept) ≤ n + 1
fewer_by true x kept n most = omega arith
fewer_by false x kept n most = omega arith

fewer_kept : {X : Type 0} (p : X → Bool) (xs : List X) → length (filter p xs) ≤ length xs
fewer_kept p [] = omega arith
fewer_kept p (x ∷ xs) = let most = fewer_by (p x) x (filter p xs) (length xs) (fewer_kept p xs) in omega arith

pub states_most : (script : Script) (name : List ℕ) (commits : List Commit) → length (states_in script name commits) ≤ length commits
states_most script name commits =
    let applies : Commit → Bool = λ c. not (does_fail script name c) in
    let most = fewer_kept applies commits in
    let same = length-map (filter applies commits) (λ (c : Commit). c.state) in
    omega arith

history_count : (script : Script) (world : World) (batches : List Batch) → length (history_on script world batches) ≡ length batches
history_count script world [] = refl
history_count script world (batch ∷ batches) = let rest = history_count script (after script world batch) batches in omega arith

pub commits_most : (script : Script) (batches : List Batch) (name : List ℕ) → length (commits_to script batches name) ≤ length batches
commits_most script batches name =
    let most = fewer_kept (is_handed script name) (history_of script batches) in
    let same = length-map (filter (is_handed script name) (history_of script batches)) (commit_to script name) in
    let count = history_count script (first_world script) batches in
    omega arith
