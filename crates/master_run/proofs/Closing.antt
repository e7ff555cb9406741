-- The session that is read off a course at rest: its batches are a serial history, each task ended once, each
-- acknowledgement as the law says, each node's record is the one that the batches make, and the lists stand in order.
use Rattle.std.specs.Prelude.{◌≡◌, ◌==◌, ℕ, ◌&&◌, Bool, true, false, not, List, [], ◌∷◌, ◌++◌, length, count_by, find, cond, map, bytes_eq, Option, Some, None, is_some, nat_lt, refl}
use Rattle.std.proofs.Common.{sym, ◌∙◌, ap, append-nil, subst}
use Rattle.std.proofs.Math.Bool.{true≢false}
use Rattle.std.specs.List.{AllByRecursion, AllZip, list_any}
use Rattle.scripts.specs.declared.whole_script.Script.{Script}
use Rattle.scripts.specs.declared.whole_script.ScriptNode.{ScriptNode}
use Rattle.scripts.specs.declared.steps.Step.{Step}
use Rattle.scripts.specs.declared.steps.Step.TheVariants.{Submit, Await, Watch, Next, Read, Sleep, Close}
use Rattle.scripts.specs.Built.{IsBuilt, is_built_step}
use Rattle.scripts.specs.Scripts.{IsScript, is_close, is_node, is_submit}
use Rattle.session_law.specs.declared.batches.Batch.{Batch}
use Rattle.session_law.specs.declared.node_records.Apply.{Apply}
use Rattle.session_law.specs.declared.node_records.NodeRec.{NodeRec}
use Rattle.session_law.specs.declared.replies.Reply.{Reply}
use Rattle.session_law.specs.declared.task_ends.TaskEnd.{TaskEnd}
use Rattle.session_law.specs.declared.task_ends.TaskEnd.TheVariants as end
use Rattle.session_law.specs.declared.worlds.World.{World}
use Rattle.session_law.specs.Endings.{IsEndBy, IsEnded, task_timeout_of}
use Rattle.session_law.specs.Histories.{step_at}
use Rattle.session_law.specs.Lawful.{IsRecorded, is_reply_before, is_rising}
use Rattle.session_law.specs.NodeRecords.{Commit, applies_from, commits_to, first_at, first_of, handed_to, last_of, node_record}
use Rattle.session_law.specs.Outcomes.{outcome_of}
use Rattle.session_law.specs.ScriptSteps.{NumberedStep, close_step_of, is_after_close, is_at, is_some_so, numbered_steps}
use Rattle.session_law.specs.Views.{views_of}
use Rattle.session_law.proofs.Collecting.{collected_all, collected_count, collected_rise, numbered_at}
use Rattle.session_law.proofs.History.{tasks_stand_once, versions_are_in_order}
use Rattle.task_words.specs.declared.words.Word.{Word}
use Rattle.task_words.specs.declared.words.Word.TheVariants as word
use Rattle.master_run.specs.Courses.{Course, moment_at, word_of}
use Rattle.master_run.specs.Endings.{deadline_of, end_of_word}
use Rattle.master_run.specs.Laws.{RestIsLawful}
use Rattle.master_run.specs.Nodes.{NodeCourse}
use Rattle.master_run.specs.Rests.{IsAtRest}
use Rattle.master_run.specs.Sessions.{record_by, records_by, replies_of, reply_at, reply_by, session_of}
use Rattle.master_run.specs.SoFar.{IsLawfulSoFar, IsRecordedAt, IsWordLawful, is_over, is_passed, is_submit_at, is_vacant, states_in}
use Rattle.master_run.proofs.AckResting.{acks_rise, is_acknowledged}
use Rattle.master_run.proofs.Alls.{all_both, all_by}
use Rattle.master_run.proofs.AtEnd.{submits_over}
use Rattle.master_run.proofs.Distinct.{alone_each, first_each, own_name}
use Rattle.master_run.proofs.Handing.{applies_to}
use Rattle.master_run.proofs.Keeping.{both_second, no_some, or_left, or_right, some_same}
use Rattle.master_run.proofs.Taken.{built_at}

-- ---- each reply

-- a word of which an end is told is of a submit that was performed
told_there : (at : ℕ) (timeout : Option ℕ) (w : Word) (told : TaskEnd) → end_of_word at timeout w ≡ Some told → not (is_vacant w) ≡ true
told_there at timeout word.Vacant told e = absurd (no_some told e)
told_there at timeout (word.Queued seen deadline) told e = refl
told_there at timeout (word.Taken seen batch) told e = refl
told_there at timeout (word.Ended code) told e = refl
told_there at timeout (word.Timed reading) told e = refl

-- the end is the one of the task's batch, or, in no batch, at its deadline
told_end : (script : Script) (k : Course) (client step : ℕ) (at : ℕ) (told : TaskEnd) (w : Word)
    → IsWordLawful script k.book.batches k.waiting client step at (task_timeout_of (step_at script client step)) w → end_of_word at (task_timeout_of (step_at script client step)) w ≡ Some told
    → IsEndBy script (record { client = client; step = step; at = at; end = told }) (outcome_of script k.book.batches client step)
told_end script k client step at told word.Vacant h e = absurd (no_some told e)
told_end script k client step at told (word.Queued seen deadline) h e = absurd (no_some told e)
told_end script k client step at told (word.Taken seen batch) h e = absurd h
told_end script k client step at told (word.Ended code) h e =
    subst (λ (o : Option TaskEnd). IsEndBy script (record { client = client; step = step; at = at; end = told }) o) (sym (h.outcome ∙ e)) refl
told_end script k client step at told (word.Timed reading) h e =
    let timeout = task_timeout_of (step_at script client step) in
    subst (λ (o : Option TaskEnd). IsEndBy script (record { client = client; step = step; at = at; end = told }) o) (sym h.outcome)
    (subst (λ (t : TaskEnd). IsEndBy script (record { client = client; step = step; at = at; end = t }) None) (some_same (end.Timeout (deadline_of at timeout) reading) told e) h.over)

-- no step closes
step_open : (step : Step) → is_built_step step ≡ true → is_close step ≡ false
step_open (Submit _ _ _ _) h = refl
step_open (Await _ _) h = refl
step_open (Watch _ _ _ _) h = refl
step_open (Next _ _ _ _) h = refl
step_open (Read _ _) h = refl
step_open (Sleep _) h = refl
step_open Close h = absurd (true≢false (sym h))

not_found : (s : NumberedStep) (rest : Option NumberedStep) (b : Bool) → b ≡ false → rest ≡ None → cond b (Some s) rest ≡ None
not_found s rest true e f = absurd (true≢false e)
not_found s rest false e f = f

none_close : (steps : List NumberedStep) → AllByRecursion (λ s. is_close s.step ≡ false) steps → find (λ s. is_close s.step) steps ≡ None
none_close [] all = refl
none_close (s ∷ more) all = not_found s (find (λ s. is_close s.step) more) (is_close s.step) all.0 (none_close more all.1)

never_closed : (script : Script) → IsBuilt script → close_step_of script ≡ None
never_closed script built =
    none_close (numbered_steps script)
    (all_by (λ s. step_at script s.client s.number ≡ Some s.step) (λ s. is_close s.step ≡ false) (λ s e. step_open s.step (built_at script s.client s.number s.step built e))
    (numbered_steps script) (numbered_at script))

not_after : (script : Script) (client step : ℕ) → IsBuilt script → is_after_close script client step ≡ false
not_after script client step built = ap (λ (o : Option NumberedStep). is_some_so (λ s. (s.client == client) && nat_lt s.number step) o) (never_closed script built)

replies_ended : (script : Script) (k : Course) (s : NumberedStep) (told : Option TaskEnd) → IsBuilt script → IsLawfulSoFar script k → step_at script s.client s.number ≡ Some s.step
    → end_of_word (moment_at k.ats s.client s.number) (task_timeout_of (step_at script s.client s.number)) (word_of k.tasks s.client s.number) ≡ told
    → AllByRecursion (IsEnded script k.book.batches) (reply_by s.client s.number (moment_at k.ats s.client s.number) told)
replies_ended script k s None built h e f = tt
replies_ended script k s (Some told) built h e f =
    let at = moment_at k.ats s.client s.number in
    let w = word_of k.tasks s.client s.number in
    let there = told_there at (task_timeout_of (step_at script s.client s.number)) w told f in (
      record {
        submit = both_second (is_passed k.positions s.client s.number) (is_submit_at (step_at script s.client s.number)) (sym (h.performed.cells s.client s.number) ∙ there);
        end = told_end script k s.client s.number at told w (h.ended.words s.client s.number) f;
        after_close = λ late. absurd (true≢false (sym late ∙ not_after script s.client s.number built));
      },
      tt,
    )

-- ---- one for each submit

over_end : (script : Script) (k : Course) (client step at : ℕ) (timeout : Option ℕ) (w : Word) → IsWordLawful script k.book.batches k.waiting client step at timeout w → is_over w ≡ true
    → is_some (end_of_word at timeout w) ≡ true
over_end script k client step at timeout word.Vacant h over = absurd (true≢false (sym over))
over_end script k client step at timeout (word.Queued seen deadline) h over = absurd (true≢false (sym over))
over_end script k client step at timeout (word.Taken seen batch) h over = absurd (true≢false (sym over))
over_end script k client step at timeout (word.Ended code) h over = h.some
over_end script k client step at timeout (word.Timed reading) h over = refl

one_reply : (client step at : ℕ) (told : Option TaskEnd) → is_some told ≡ true → length (reply_by client step at told) ≡ 1
one_reply client step at None h = absurd (true≢false (sym h))
one_reply client step at (Some told) h = refl

told_once : (script : Script) (k : Course) (s : NumberedStep) → IsLawfulSoFar script k → IsAtRest script k → step_at script s.client s.number ≡ Some s.step → is_submit s.step ≡ true
    → length (reply_at k.tasks k.ats s) ≡ 1
told_once script k s h rests e own =
    let at = moment_at k.ats s.client s.number in
    let w = word_of k.tasks s.client s.number in
    let over = submits_over script k s.client s.number s.step h rests e own in
    one_reply s.client s.number at (end_of_word at (task_timeout_of (Some s.step)) w)
    (subst (λ (o : Option Step). is_some (end_of_word at (task_timeout_of o) w) ≡ true) e
    (over_end script k s.client s.number at (task_timeout_of (step_at script s.client s.number)) w (h.ended.words s.client s.number) over))

-- ---- the nodes' records

-- a node with nothing left took all that it was handed
record_is : (script : Script) (batches : List Batch) (node : ScriptNode) (has : NodeCourse) → first_at script node.name ≡ first_of script (Some node) → IsRecordedAt script batches node has → has.left ≡ []
    → record_by script node has ≡ node_record script batches node
unfolding node_record
record_is script batches node has first h none =
    let name = node.name in
    let taken : h.taken ≡ commits_to script batches name = sym (append-nil h.taken) ∙ ap (λ (l : List Commit). h.taken ++ l) (sym none) ∙ h.handed in
    let state = h.took.state ∙ (λ i. last_of (sym first i) (states_in script name (taken i))) in
    let applies = h.took.applies ∙ (λ i. applies_from script name (sym first i) (taken i)) in
    let handed : map (λ (a : Apply). a.to) has.applies ++ map (λ (c : Commit). c.state.version) has.left ≡ handed_to script batches name =
    (λ i. map (λ (a : Apply). a.to) (applies i) ++ map (λ (c : Commit). c.state.version) (none i))
    ∙ append-nil (map (λ (a : Apply). a.to) (applies_from script name (first_at script name) (commits_to script batches name)))
    ∙ applies_to script name (first_at script name) (commits_to script batches name) in
    λ i. record { node = name; handed = handed i; first = (sym first i).version; applies = applies i; view = views_of (state i) }

records_are : (script : Script) (batches : List Batch) (nodes : List ScriptNode) (have : List NodeCourse) → AllByRecursion (λ n. first_at script n.name ≡ first_of script (Some n)) nodes
    → AllZip (IsRecordedAt script batches) nodes have → AllByRecursion (λ (n : NodeCourse). n.left ≡ []) have → records_by script nodes have ≡ map (node_record script batches) nodes
records_are script batches [] [] firsts all none = refl
records_are script batches [] (has ∷ others) firsts all none = absurd all
records_are script batches (node ∷ more) [] firsts all none = absurd all
records_are script batches (node ∷ more) (has ∷ others) firsts all none =
    λ i. record_is script batches node has firsts.0 all.0 none.0 i ∷ records_are script batches more others firsts.1 all.1 none.1 i

named_so : (script : Script) (batches : List Batch) (node : ScriptNode) → (node_record script batches node).node ≡ node.name
unfolding node_record
named_so script batches node = refl

names_of : (script : Script) (batches : List Batch) (nodes : List ScriptNode) → map (λ (r : NodeRec). r.node) (map (node_record script batches) nodes) ≡ map (λ (n : ScriptNode). n.name) nodes
names_of script batches [] = refl
names_of script batches (node ∷ more) = λ i. named_so script batches node i ∷ names_of script batches more i

-- each is a node of the script
all_known : (script : Script) (batches : List Batch) (nodes : List ScriptNode) → ((name : List ℕ) → list_any (λ n. bytes_eq name n.name) nodes ≡ true → is_node script name ≡ true)
    → AllByRecursion (λ (r : NodeRec). is_node script r.node ≡ true) (map (node_record script batches) nodes)
all_known script batches [] known = tt
all_known script batches (node ∷ more) known = (
  ap (is_node script) (named_so script batches node) ∙ known node.name (or_left (bytes_eq node.name node.name) _ (own_name node.name)),
  all_known script batches more (λ name h. known name (or_right (bytes_eq name node.name) _ h)),
)

are_recorded : (script : Script) (k : Course) → IsScript script → IsLawfulSoFar script k → IsAtRest script k → records_by script script.nodes k.nodes ≡ map (node_record script k.book.batches) script.nodes
are_recorded script k valid h rests = records_are script k.book.batches script.nodes k.nodes (first_each script valid) h.recorded rests.applied

-- ---- the whole

carries_by : (s : NumberedStep) (at : ℕ) (told : Option TaskEnd) → AllByRecursion (λ (r : Reply). (r.client ≡ s.client) × (r.step ≡ s.number)) (reply_by s.client s.number at told)
carries_by s at None = tt
carries_by s at (Some told) = ((refl, refl), tt)

carries : (k : Course) (s : NumberedStep) → AllByRecursion (λ (r : Reply). (r.client ≡ s.client) × (r.step ≡ s.number)) (reply_at k.tasks k.ats s)
carries k s = carries_by s (moment_at k.ats s.client s.number) (end_of_word (moment_at k.ats s.client s.number) (task_timeout_of (Some s.step)) (word_of k.tasks s.client s.number))

rises_by : (s : NumberedStep) (at : ℕ) (told : Option TaskEnd) → is_rising is_reply_before (reply_by s.client s.number at told) ≡ true
rises_by s at None = refl
rises_by s at (Some told) = refl

pub rest_is_lawful : RestIsLawful
rest_is_lawful script k valid built h rests = record {
  serial = record { serial = h.ordered.kept.serial; seen = h.seen.in_book };
  ended = record {
    ended = collected_all script (reply_at k.tasks k.ats) (IsEnded script k.book.batches)
        (λ s e.
        let at = moment_at k.ats s.client s.number in
        subst (λ (o : Option Step). AllByRecursion (IsEnded script k.book.batches) (reply_by s.client s.number at (end_of_word at (task_timeout_of o) (word_of k.tasks s.client s.number)))) e
        (replies_ended script k s (end_of_word at (task_timeout_of (step_at script s.client s.number)) (word_of k.tasks s.client s.number)) built h e refl));
    once =
        let replies = replies_of script k.tasks k.ats in
        all_by (λ s. (step_at script s.client s.number ≡ Some s.step) × (count_by (λ r. is_at s.client s.number r.client r.step) replies ≡ length (reply_at k.tasks k.ats s)))
        (λ s. is_submit s.step ≡ true → count_by (λ r. is_at s.client s.number r.client r.step) replies ≡ 1)
        (λ s both own. both.1 ∙ told_once script k s h rests both.0 own) (numbered_steps script)
        (all_both (λ s. step_at script s.client s.number ≡ Some s.step) (λ s. count_by (λ r. is_at s.client s.number r.client r.step) replies ≡ length (reply_at k.tasks k.ats s)) (numbered_steps script)
        (numbered_at script) (collected_count script (λ (r : Reply). r.client) (λ (r : Reply). r.step) (reply_at k.tasks k.ats) (carries k)));
  };
  acknowledged = is_acknowledged script k h rests;
  recorded =
      let batches = k.book.batches in
      let made = node_record script batches in
      let same = are_recorded script k valid h rests in
      subst (λ (records : List NodeRec). IsRecorded script (record (session_of script k) { nodes = records })) (sym same) (record {
        each = alone_each (λ (r : NodeRec). r.node) made (named_so script batches) script.nodes valid.nodes_distinct;
        known = all_known script batches script.nodes (λ name there. there);
      });
  last = ap (λ (w : World). w.state) h.ordered.kept.world;
  order = record {
    replies = collected_rise script (λ (r : Reply). r.client) (λ (r : Reply). r.step) (reply_at k.tasks k.ats) is_reply_before (carries k) (λ a b less. less)
        (λ s. rises_by s (moment_at k.ats s.client s.number) (end_of_word (moment_at k.ats s.client s.number) (task_timeout_of (Some s.step)) (word_of k.tasks s.client s.number)));
    acks = acks_rise script k;
    watches = refl;
    reads = refl;
  };
  nodes = ap (map (λ (r : NodeRec). r.node)) (are_recorded script k valid h rests) ∙ names_of script k.book.batches script.nodes;
  versions = versions_are_in_order script k.book.batches h.ordered.kept.serial;
  once = tasks_stand_once script k.book.batches h.ordered.kept.serial;
}
