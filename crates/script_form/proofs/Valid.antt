-- What is read part by part makes a valid script.
use Rattle.std.proofs.Common.{◌≡◌, ℕ, ◌≤◌, ◌*◌, true, length, arith}
use Rattle.std.specs.Prelude.{nat_le}
use Rattle.std.proofs.lemmas.Bool.{and_parts}
use Rattle.std.proofs.lemmas.Grind.{common_steps}
use Rattle.scripts.specs.declared.whole_script.Script.{Script}
use Rattle.scripts.specs.Scripts.{IsScript, alias_reads, submits}
use Rattle.script_form.specs.Reading.{AreParts, is_workable}

nat_le_sound : (m n : ℕ) → nat_le m n ≡ true → m ≤ n
nat_le_sound m n holds = grind (arith, common_steps)

pub script_is_valid : (script : Script) → AreParts script → is_workable script ≡ true → IsScript script
script_is_valid script parts work =
    let publications : nat_le (submits script * submits script * length script.nodes) 8000000 ≡ true = (and_parts _ (nat_le (submits script * alias_reads script) 4000000) work).0 in
    let reads : nat_le (submits script * alias_reads script) 4000000 ≡ true = (and_parts (nat_le (submits script * submits script * length script.nodes) 8000000) _ work).1 in
    record {
      version = parts.version;
      cluster = parts.cluster;
      nodes_limit = parts.nodes.limit;
      nodes_named = parts.nodes.names.named;
      nodes_distinct = parts.nodes.names.distinct;
      master = parts.nodes.master;
      queues_limit = parts.queues_limit;
      queues_named = parts.queues.named;
      queues_distinct = parts.queues.distinct;
      clients_limit = parts.clients_limit;
      clients = parts.clients.valid;
      one_close = parts.clients.once;
      faults_limit = parts.faults_limit;
      faults = parts.faults.valid;
      faults_distinct = parts.faults.distinct;
      schedule_limit = parts.schedule_limit;
      schedule = parts.schedule;
      work_of_publications = nat_le_sound _ _ publications;
      work_of_reads = nat_le_sound _ _ reads;
    }
