-- What is built so far: a replay performs a script that holds nothing else. This is the one list of it; each later
-- stage takes a line of it away. It is this project's own.
use Rattle.std.specs.Prelude.{Bool, true, false, ◌&&◌, ◌==◌, length, IsTrue}
use Rattle.std.specs.List.{list_all}
use Rattle.scripts.specs.declared.whole_script.Script.{Script}
use Rattle.scripts.specs.declared.steps.Goal.{Goal}
use Rattle.scripts.specs.declared.steps.Goal.TheVariants as goal
use Rattle.scripts.specs.declared.steps.Step.{Step}
use Rattle.scripts.specs.declared.steps.Step.TheVariants as step

-- what an await may wait for
abbrev pub is_built_goal : Goal → Bool
is_built_goal goal.Task = true
is_built_goal goal.Ack = true
is_built_goal goal.Watch = false

-- the steps that are performed
abbrev pub is_built_step : Step → Bool
is_built_step (step.Submit queue task timeout ack) = true
is_built_step (step.Await earlier goal) = is_built_goal goal
is_built_step (step.Watch node pred thens timeout) = false
is_built_step (step.Next watch pred thens timeout) = false
is_built_step (step.Read node look) = false
is_built_step (step.Sleep ms) = true
is_built_step step.Close = false

abbrev pub is_built : Script → Bool
is_built script = list_all (list_all is_built_step) script.clients && (length script.faults == 0)

abbrev pub IsBuilt : Script → Type 0
IsBuilt script = IsTrue (is_built script)
