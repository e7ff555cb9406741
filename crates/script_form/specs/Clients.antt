-- The clients of a script: at most 32, each with at most 4,096 steps. One step of a script may close. The limits are
-- this project's own.
use Rattle.std.specs.Prelude.{ℕ, ◌+◌, ◌≤◌, Bool, true, false, ◌&&◌, ◌||◌, List, [], Result, Ok, IsTrue, count_by, flat_map, if◌then◌else◌, refl}
use Rattle.std.specs.List.{list_all, list_any}
use Rattle.std.proofs.lemmas.Bool.{leb-true}
use Rattle.serde_json.specs.Data.{Data}
use Rattle.scripts.specs.declared.queues.QueueSpec.{QueueSpec}
use Rattle.scripts.specs.declared.whole_script.ScriptNode.{ScriptNode}
use Rattle.scripts.specs.declared.steps.Step.{Step}
use Rattle.scripts.specs.Scripts.{is_close}
use Rattle.scripts.specs.ValidSteps.{are_steps, is_client}
use Rattle.script_form.specs.declared.limits.LimitName.TheVariants.{Steps, Clients}
use Rattle.script_form.specs.declared.misfits.Misfit.{Misfit}
use Rattle.script_form.specs.declared.rules.Rule.TheVariants.{Close}
use Rattle.script_form.specs.Misfits.{◌>>=◌, bad}
use Rattle.script_form.specs.Parts.{short_list, each}
use Rattle.script_form.specs.Steps.{step_of}

-- a step may close unless an earlier one does
abbrev pub fit_step : Bool → Step → Result Step Misfit
fit_step closed step = if is_close step && closed then bad Close else Ok step

-- the next step of a client, where `closed` says that an earlier client closes
abbrev pub step_after : List ScriptNode → List QueueSpec → Bool → List Step → Data → Result Step Misfit
step_after nodes queues closed before d = step_of nodes queues before d >>= fit_step (closed || list_any is_close before)

abbrev pub steps_of : List ScriptNode → List QueueSpec → Bool → Data → Result (List Step) Misfit
steps_of nodes queues closed d = short_list 4096 Steps d >>= each (step_after nodes queues closed) []

abbrev pub do_close : List (List Step) → Bool
do_close clients = list_any (list_any is_close) clients

abbrev pub next_client : List ScriptNode → List QueueSpec → List (List Step) → Data → Result (List Step) Misfit
next_client nodes queues before d = steps_of nodes queues (do_close before) d

abbrev pub clients_of : List ScriptNode → List QueueSpec → Data → Result (List (List Step)) Misfit
clients_of nodes queues d = short_list 32 Clients d >>= each (next_client nodes queues) []

-- ---- what is so of the clients that are read

-- how many steps close
abbrev pub closes : List (List Step) → ℕ
closes clients = count_by is_close (flat_map (λ steps. steps) clients)

abbrev pub one_if_so : Bool → ℕ
one_if_so closed = if closed then 1 else 0

-- the steps of a client: with the earlier ones, of which `closed` says whether one closes, no more than one closes
pub record AreSteps (nodes : List ScriptNode) (queues : List QueueSpec) (closed : Bool) (steps : List Step) : Type 0 where
  pub valid : IsTrue (are_steps nodes queues [] steps)
  pub once : one_if_so closed + count_by is_close steps ≤ 1

pub record AreClients (nodes : List ScriptNode) (queues : List QueueSpec) (clients : List (List Step)) : Type 0 where
  pub valid : IsTrue (list_all (is_client nodes queues) clients)
  pub once : closes clients ≤ 1

-- before its first step a client has no more closing steps than the earlier ones
pub starts_once : (closed : Bool) → one_if_so closed + 0 ≤ 1
starts_once true = leb-true 1 1 refl
starts_once false = leb-true 0 1 refl
