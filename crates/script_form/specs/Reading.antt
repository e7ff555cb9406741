-- The script that bytes spell, or the first thing that is wrong in them. The form of scripts is this project's own.
use Rattle.std.specs.Prelude.{◌≡◌, ℕ, ◌*◌, ◌≤◌, ◌==◌, Bool, ◌&&◌, List, [], ◌∷◌, Some, None, Option, Result, Ok, Err, codes, length, nat_le, if◌then◌else◌, IsTrue}
use Rattle.std.specs.List.{list_all}
use Rattle.serde_json.specs.Data.{Data}
use Rattle.scripts.specs.declared.whole_script.Script.{Script}
use Rattle.scripts.specs.Built.{is_built}
use Rattle.scripts.specs.Names.{is_name}
use Rattle.scripts.specs.Scripts.{alias_reads, is_turn, submits}
use Rattle.script_form.specs.declared.limits.LimitName.TheVariants.{Work}
use Rattle.script_form.specs.declared.misfits.Misfit.{Misfit}
use Rattle.script_form.specs.declared.misfits.Misfit.TheVariants as misfit
use Rattle.script_form.specs.declared.refusals.ScriptRefusal.{ScriptRefusal}
use Rattle.script_form.specs.declared.refusals.ScriptRefusal.TheVariants.{NotJson, BadShape, Limit, OutOfMemory}
use Rattle.script_form.specs.declared.rules.Rule.TheVariants.{Version, NotBuilt}
use Rattle.script_form.specs.Clients.{AreClients, clients_of}
use Rattle.script_form.specs.Faults.{AreFaults, faults_of}
use Rattle.script_form.specs.Misfits.{◌>>=◌, if_so, over}
use Rattle.script_form.specs.Naming.{AreNamed}
use Rattle.script_form.specs.Nodes.{AreNodes, nodes_of}
use Rattle.script_form.specs.Parts.{data_of, check_members, required, optional, name_of, whole_of}
use Rattle.script_form.specs.Queues.{queue_name, queues_of}
use Rattle.script_form.specs.Turns.{schedule_of}

-- version 1, and no other
abbrev pub version_of : Data → Result ℕ Misfit
version_of d = whole_of d >>= if_so Version (λ version. version == 1)

-- the members of a script, of which the last two may be left out
abbrev pub script_members : List (List ℕ)
script_members = codes "version" ∷ codes "cluster" ∷ codes "nodes" ∷ codes "queues" ∷ codes "clients" ∷ codes "faults" ∷ codes "schedule" ∷ []

-- a script, its parts in this order
unfoldable pub parts_of : Data → Result Script Misfit
parts_of d =
    check_members script_members d >>= λ _.
    required (codes "version") version_of d >>= λ version.
    required (codes "cluster") name_of d >>= λ cluster.
    required (codes "nodes") nodes_of d >>= λ nodes.
    required (codes "queues") queues_of d >>= λ queues.
    required (codes "clients") (clients_of nodes queues) d >>= λ clients.
    optional (codes "faults") [] (faults_of nodes) d >>= λ faults.
    optional (codes "schedule") [] (schedule_of nodes (length clients)) d >>= λ schedule.
    Ok (record { version = version; cluster = cluster; nodes = nodes; queues = queues; clients = clients; faults = faults; schedule = schedule })

-- whether the states and reads of a script can be held
abbrev pub is_workable : Script → Bool
is_workable script =
    nat_le (submits script * submits script * length script.nodes) 8000000 && nat_le (submits script * alias_reads script) 4000000

abbrev pub check_work : Script → Result Script Misfit
check_work script = if is_workable script then Ok script else over Work

-- what isn't built yet is refused last of all
abbrev pub check_built : Script → Result Script Misfit
check_built script = if_so NotBuilt is_built script

unfoldable pub whole_script : Data → Result Script Misfit
whole_script d = parts_of d >>= check_work >>= check_built

-- a place in the script as it is shown: `$` for the whole
abbrev pub shown : List ℕ → List ℕ
shown [] = codes "$"
shown (b ∷ path) = b ∷ path

abbrev pub refusal_of : Misfit → ScriptRefusal
refusal_of (misfit.Bad path rule) = BadShape (shown path) rule
refusal_of (misfit.Limit name) = Limit name
refusal_of misfit.OutOfMemory = OutOfMemory

abbrev pub script_or_refusal : Result Script Misfit → Result Script ScriptRefusal
script_or_refusal (Ok script) = Ok script
script_or_refusal (Err m) = Err (refusal_of m)

-- what is no JSON is refused as that
abbrev pub script_of_data : Option Data → Result Script ScriptRefusal
script_of_data None = Err NotJson
script_of_data (Some d) = script_or_refusal (whole_script d)

-- the script that bytes spell, or why they spell none
unfoldable pub script_of : List ℕ → Result Script ScriptRefusal
script_of bytes = script_of_data (data_of bytes)

-- that a refusal is the one expected, unless memory ran out
abbrev pub IsRefusal : ScriptRefusal → ScriptRefusal → Type 0
IsRefusal OutOfMemory expected = Unit {0}
IsRefusal refusal expected = expected ≡ refusal

-- that a call answered what a reading says, unless memory ran out
abbrev pub Gives : {X : Type 0} → Result X ScriptRefusal → Result X ScriptRefusal → Type 0
Gives (Ok x) read = read ≡ Ok x
Gives (Err OutOfMemory) read = Unit {0}
Gives (Err refusal) read = read ≡ Err refusal

-- ---- what is so of the parts of a script that are read

pub record AreParts (script : Script) : Type 0 where
  pub version : script.version ≡ 1
  pub cluster : IsTrue (is_name script.cluster)
  pub nodes : AreNodes script.nodes
  pub queues : AreNamed queue_name script.queues
  pub queues_limit : length script.queues ≤ 64
  pub clients_limit : length script.clients ≤ 32
  pub clients : AreClients script.nodes script.queues script.clients
  pub faults_limit : length script.faults ≤ 1024
  pub faults : AreFaults script.nodes script.faults
  pub schedule_limit : length script.schedule ≤ 65536
  pub schedule : IsTrue (list_all (is_turn script.nodes (length script.clients)) script.schedule)
