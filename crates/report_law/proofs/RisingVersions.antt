-- The versions that a node is handed rise, and so do those of its applies, and those that it applied.
use Rattle.std.specs.Prelude.{◌≡◌, ℕ, ◌+◌, ◌≤◌, Bool, true, false, List, [], ◌∷◌, cond, filter, map, nat_lt, refl, if◌then◌else◌}
use Rattle.std.proofs.Common.{sym, ap, ◌∙◌, arith}
use Rattle.std.specs.Cmp.Derive.{both_true}
use Rattle.std.proofs.lemmas.Bool.{and_parts, true≢false}
use Rattle.std.proofs.lemmas.Bool.Decides.{nat_tests}
use Rattle.meta_state.specs.declared.cluster_state.ClusterState.{ClusterState}
use Rattle.scripts.specs.declared.whole_script.Script.{Script}
use Rattle.session_law.specs.declared.batches.Batch.{Batch}
use Rattle.session_law.specs.declared.batches.BatchResult.{BatchResult}
use Rattle.session_law.specs.declared.batches.BatchResult.TheVariants as result
use Rattle.session_law.specs.declared.node_records.Apply.{Apply}
use Rattle.session_law.specs.declared.worlds.World.{World}
use Rattle.session_law.specs.Committed.{is_published}
use Rattle.session_law.specs.Histories.{SteppedBatch, history_on, stepped}
use Rattle.session_law.specs.Laws.{KeepsState}
use Rattle.session_law.specs.Lawful.{is_rising, rises_from}
use Rattle.session_law.specs.NodeLines.{applied_to}
use Rattle.session_law.specs.NodeRecords.{Commit, applies_from, apply_of, commit_to, does_fail, failed_apply, is_handed}
use Rattle.session_law.proofs.History.{others_keep_the_state}
use Rattle.report_law.specs.GoodForm.{is_apply_before}

-- ---- commits of rising versions

-- commits of versions above a version, each above those before it
abbrev pub Rise : ℕ → List Commit → Type 0
Rise v commits = rises_from nat_lt v (map (λ c. c.state.version) commits) ≡ true

lower_lt : (u v w : ℕ) → u ≤ v → nat_lt v w ≡ true → nat_lt u w ≡ true
lower_lt u v w l e = grind (arith, nat_tests)

-- numbers above a number are above a lower one
lower : (u v : ℕ) (ns : List ℕ) → u ≤ v → rises_from nat_lt v ns ≡ true → rises_from nat_lt u ns ≡ true
lower u v [] l e = refl
lower u v (n ∷ ns) l e = let parts = and_parts (nat_lt v n) (rises_from nat_lt n ns) e in both_true (lower_lt u v n l parts.0) parts.1

lt_next : (v w : ℕ) → w ≡ v + 1 → nat_lt v w ≡ true
lt_next v w e = grind (arith, nat_tests)

lt_le : (v w : ℕ) → nat_lt v w ≡ true → v ≤ w
lt_le v w e = grind (arith, nat_tests)

-- ---- those of a history

-- one batch: a published one makes the next version, and no other makes a lower one
published_next : (r : BatchResult) (old new : World) → KeepsState old r new → is_published r ≡ true → new.state.version ≡ old.state.version + 1
published_next (result.Published version id commit diffs fulls accepted) old new keeps e = keeps.1 ∙ keeps.0
published_next (result.Unchanged version) old new keeps e = absurd (true≢false (sym e))
published_next (result.Failed position refusal) old new keeps e = absurd (true≢false (sym e))
published_next result.NotMaster old new keeps e = absurd (true≢false (sym e))
published_next (result.PublishFailed id diffs fulls accepted) old new keeps e = absurd (true≢false (sym e))

le_by : (v w : ℕ) → w ≡ v → v ≤ w
le_by v w e = omega (arith, e)

le_next : (v w : ℕ) → w ≡ v + 1 → v ≤ w
le_next v w e = omega (arith, e)

never_lower : (r : BatchResult) (old new : World) → KeepsState old r new → old.state.version ≤ new.state.version
never_lower (result.Published version id commit diffs fulls accepted) old new keeps = le_next _ _ (keeps.1 ∙ keeps.0)
never_lower (result.Unchanged version) old new keeps = le_by _ _ (ap (λ (w : World). w.state.version) keeps.1)
never_lower (result.Failed position refusal) old new keeps = le_by _ _ (ap (λ (w : World). w.state.version) keeps)
never_lower result.NotMaster old new keeps = le_by _ _ (ap (λ (w : World). w.state.version) keeps)
never_lower (result.PublishFailed id diffs fulls accepted) old new keeps = le_by _ _ (ap (λ (s : ClusterState). s.version) keeps.0)

-- a batch is handed on or not
one_handed : (script : Script) (name : List ℕ) (v : ℕ) (s : SteppedBatch) (more : List SteppedBatch) (b : Bool) → (b ≡ true → s.world.state.version ≡ v + 1)
    → v ≤ s.world.state.version → Rise s.world.state.version (map (commit_to script name) more)
    → Rise v (map (commit_to script name) (cond b (s ∷ more) more))
one_handed script name v s more true next l rest = both_true (lt_next v s.world.state.version (next refl)) rest
one_handed script name v s more false next l rest = lower v s.world.state.version (map (λ c. c.state.version) (map (commit_to script name) more)) l rest

pub handed_rise : (script : Script) (name : List ℕ) (world : World) (batches : List Batch)
    → Rise world.state.version (map (commit_to script name) (filter (is_handed script name) (history_on script world batches)))
handed_rise script name world [] = refl
handed_rise script name world (batch ∷ batches) =
    let step = stepped script world batch in
    let s : SteppedBatch = record { batch = batch; stepped = step.0; world = step.1 } in
    let keeps = others_keep_the_state script world batch in
    one_handed script name world.state.version s (filter (is_handed script name) (history_on script step.1 batches)) (is_handed script name s)
    (λ e. published_next step.0.result world step.1 keeps (and_parts (is_published step.0.result) _ e).0) (never_lower step.0.result world step.1 keeps)
    (handed_rise script name step.1 batches)

pub rise_lower : (u v : ℕ) (commits : List Commit) → u ≤ v → Rise v commits → Rise u commits
rise_lower u v commits l rise = lower u v (map (λ c. c.state.version) commits) l rise

pub rising_above : (v : ℕ) (ns : List ℕ) → rises_from nat_lt v ns ≡ true → is_rising nat_lt ns ≡ true
rising_above v [] e = refl
rising_above v (n ∷ ns) e = (and_parts (nat_lt v n) (rises_from nat_lt n ns) e).1

-- ---- those of applies

module _ (script : Script) (name : List ℕ) where
  -- an apply that fails or not, and those after it
  apply_by : (before : Apply) (old : ClusterState) (c : Commit) (commits : List Commit) (fails : Bool) → nat_lt before.to c.state.version ≡ true
      → ((a : Apply) (state : ClusterState) → a.to ≡ c.state.version → rises_from is_apply_before a (applies_from script name state commits) ≡ true)
      → rises_from is_apply_before before (if fails then failed_apply old c.state ∷ applies_from script name old commits else apply_of old c.state ∷ applies_from script name c.state commits) ≡ true
  apply_by before old c commits true l rest = both_true l (rest (failed_apply old c.state) old refl)
  apply_by before old c commits false l rest = both_true l (rest (apply_of old c.state) c.state refl)

  applies_rise_from : (before : Apply) (v : ℕ) (old : ClusterState) (commits : List Commit) → before.to ≡ v → Rise v commits
      → rises_from is_apply_before before (applies_from script name old commits) ≡ true
  applies_rise_from before v old [] e rise = refl
  applies_rise_from before v old (c ∷ commits) e rise =
      let parts = and_parts (nat_lt v c.state.version) _ rise in
      apply_by before old c commits (does_fail script name c) (ap (λ n. nat_lt n c.state.version) e ∙ parts.0)
      (λ a state same. applies_rise_from a c.state.version state commits same parts.1)

  apply_first : (old : ClusterState) (c : Commit) (commits : List Commit) (fails : Bool)
      → ((a : Apply) (state : ClusterState) → a.to ≡ c.state.version → rises_from is_apply_before a (applies_from script name state commits) ≡ true)
      → is_rising is_apply_before (if fails then failed_apply old c.state ∷ applies_from script name old commits else apply_of old c.state ∷ applies_from script name c.state commits) ≡ true
  apply_first old c commits true rest = rest (failed_apply old c.state) old refl
  apply_first old c commits false rest = rest (apply_of old c.state) c.state refl

  pub applies_rise : (v : ℕ) (old : ClusterState) (commits : List Commit) → Rise v commits → is_rising is_apply_before (applies_from script name old commits) ≡ true
  applies_rise v old [] rise = refl
  applies_rise v old (c ∷ commits) rise =
      let parts = and_parts (nat_lt v c.state.version) _ rise in
      apply_first old c commits (does_fail script name c) (λ a state same. applies_rise_from a c.state.version state commits same parts.1)

  applied_by_one : (v : ℕ) (old : ClusterState) (c : Commit) (commits : List Commit) (fails : Bool) → nat_lt v c.state.version ≡ true
      → ((state : ClusterState) → rises_from nat_lt c.state.version (applied_to (applies_from script name state commits)) ≡ true)
      → rises_from nat_lt v (applied_to (if fails then failed_apply old c.state ∷ applies_from script name old commits else apply_of old c.state ∷ applies_from script name c.state commits)) ≡ true
  applied_by_one v old c commits true l rest = lower v c.state.version (applied_to (applies_from script name old commits)) (lt_le v c.state.version l) (rest old)
  applied_by_one v old c commits false l rest = both_true l (rest c.state)

  pub applied_rise : (v : ℕ) (old : ClusterState) (commits : List Commit) → Rise v commits → rises_from nat_lt v (applied_to (applies_from script name old commits)) ≡ true
  applied_rise v old [] rise = refl
  applied_rise v old (c ∷ commits) rise =
      let parts = and_parts (nat_lt v c.state.version) _ rise in
      applied_by_one v old c commits (does_fail script name c) parts.0 (λ state. applied_rise c.state.version state commits parts.1)
