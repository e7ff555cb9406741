-- A session that keeps the rules is of good form.
use Rattle.std.specs.Prelude.{◌≡◌, ℕ, ◌==◌, Bool, true, false, List, [], ◌∷◌, Option, Some, None, cond, filter, find, unwrap_or, IsTrue}
use Rattle.std.proofs.Common.{sym, ap, subst, ◌∙◌}
use Rattle.std.specs.List.{AllByRecursion, list_all}
use Rattle.meta_state.specs.States.{zero_state}
use Rattle.scripts.specs.declared.steps.Step.{Step}
use Rattle.scripts.specs.declared.steps.Step.TheVariants as step
use Rattle.scripts.specs.declared.whole_script.Script.{Script}
use Rattle.scripts.specs.Names.{are_distinct}
use Rattle.scripts.specs.Scripts.{IsScript}
use Rattle.session_law.specs.declared.batches.Batch.{Batch}
use Rattle.session_law.specs.declared.reads.Read.{Read}
use Rattle.session_law.specs.declared.sessions.Session.{Session}
use Rattle.session_law.specs.Committed.{committed_at, is_published, states_of}
use Rattle.session_law.specs.Histories.{history_of, step_at, world_after}
use Rattle.session_law.specs.Reads.{IsRead, IsReadBy}
use Rattle.report_law.specs.FormLaws.{KeptSessionsAreOfGoodForm, LawfulSessionsAreOfGoodForm}
use Rattle.report_law.specs.GoodForm.{IsNamedState, is_good_found}
use Rattle.report_law.proofs.KeptBatches.{queues_named, tasks_apart}
use Rattle.report_law.proofs.KeptRecords.{records_good}
use Rattle.report_law.proofs.NamedHistories.{end_named, first_named, master_named, master_of, states_named, zero_named}
use Rattle.report_law.proofs.NamedMaps.{all_by, all_filter, all_map, test_from_all}
use Rattle.report_law.proofs.NamedStates.{HasNamedMaps, IsNamedOf}
use Rattle.report_law.proofs.NamedViews.{look_found, state_named}

pub kept_sessions_are_of_good_form : KeptSessionsAreOfGoodForm
kept_sessions_are_of_good_form script session valid ordered recorded final reads = record {
  queues = queues_named script valid session.batches ordered;
  entries = tasks_apart session.batches ordered.apart;
  order = final.order;
  reads = reads;
  nodes = records_good script valid session recorded;
  nodes_distinct = subst (λ names. IsTrue (are_distinct names)) (sym final.nodes) valid.nodes_distinct;
  last = subst IsNamedState (sym final.last)
      (state_named script.cluster (master_of script) (world_after script session.batches).state (end_named script valid session.batches) valid.cluster (master_named script valid));
}

-- ---- reads

found_or_by : {A : Type 0} (P : A → Type 0) (a default : A) (found : Option A) → P a → P (unwrap_or found default) → (b : Bool) → P (unwrap_or (cond b (Some a) found) default)
found_or_by P a default found one rest true = one
found_or_by P a default found one rest false = rest

found_or : {A : Type 0} (P : A → Type 0) (test : A → Bool) (default : A) → P default → (xs : List A) → AllByRecursion P xs → P (unwrap_or (find test xs) default)
found_or P test default good [] all = good
found_or P test default good (a ∷ xs) all = found_or_by P a default (find test xs) all.0 (found_or P test default good xs all.1) (test a)

module _ (script : Script) (valid : IsScript script) where
  committed_named : (batches : List Batch) (version : ℕ) → HasNamedMaps (committed_at script batches version)
  committed_named batches version =
      let zero = (zero_named script.cluster).maps in
      found_or HasNamedMaps (λ s. s.version == version) (zero_state script.cluster) zero (states_of script batches) (
        zero,
        (
          (first_named script valid).maps,
          all_map HasNamedMaps (λ s. s.world.state) (filter (λ s. is_published s.stepped.result) (history_of script batches))
              (all_filter (λ s. HasNamedMaps s.world.state) (λ s. is_published s.stepped.result) (history_of script batches)
              (all_by (λ s. IsNamedOf script.cluster (master_of script) s.world.state) (λ s. HasNamedMaps s.world.state) (λ s named. named.maps) (history_of script batches)
              (states_named script valid batches))),
        ),
      )

  read_good : (session : Session) (read : Read) (found : Option Step) → IsReadBy script session read found → is_good_found read.found ≡ true
  read_good session read (Some (step.Read node look)) by =
      ap is_good_found by.1.1 ∙ look_found (committed_at script session.batches read.version) (committed_named session.batches read.version) look
  read_good session read (Some (step.Submit _ _ _ _)) by = absurd by
  read_good session read (Some (step.Await _ _)) by = absurd by
  read_good session read (Some (step.Watch _ _ _ _)) by = absurd by
  read_good session read (Some (step.Next _ _ _ _)) by = absurd by
  read_good session read (Some (step.Sleep _)) by = absurd by
  read_good session read (Some step.Close) by = absurd by
  read_good session read None by = absurd by

  reads_good : (session : Session) → IsRead script session → IsTrue (list_all (λ r. is_good_found r.found) session.reads)
  reads_good session read =
      test_from_all (λ r. IsReadBy script session r (step_at script r.client r.step)) (λ r. is_good_found r.found)
      (λ r by. read_good session r (step_at script r.client r.step) by) session.reads read.found

pub lawful_sessions_are_of_good_form : LawfulSessionsAreOfGoodForm
lawful_sessions_are_of_good_form script session valid lawful =
    kept_sessions_are_of_good_form script session valid lawful.serial.serial.order lawful.recorded lawful.final (reads_good script valid session lawful.read)
