-- Each step of a script has a number among the acknowledgements.
use Rattle.std.specs.Prelude.{◌≡◌, ℕ, zero, suc, ◌<◌, List, [], ◌∷◌, Some, length, map, slice_get, IsTrue}
use Rattle.std.proofs.Common.{sym, subst}
use Rattle.std.proofs.lemmas.Bool.{lt-ltb}
use Rattle.scripts.specs.declared.whole_script.Script.{Script}
use Rattle.scripts.specs.declared.steps.Step.{Step}
use Rattle.task_words.specs.Words.{TaskTable}
use Rattle.master_run.specs.AckBooks.{AckBook, is_in_lane}
use Rattle.master_run.specs.AckTellings.{HasAckLane, HaveAckLanes}
use Rattle.master_run.specs.Courses.{lanes_of}
use Rattle.master_run.specs.Sessions.{HasLane, HaveLanes}
use Rattle.master_run.proofs.Keeping.{no_some, some_same}

among_lanes : (clients : List (List Step)) (client : ℕ) (steps : List Step) (step : ℕ) → slice_get clients client ≡ Some steps → step < length steps
    → IsTrue (is_in_lane (map length clients) client step)
among_lanes [] client steps step e less = absurd (no_some steps e)
among_lanes (first ∷ more) zero steps step e less = lt-ltb step (length first) (subst (λ (l : List Step). step < length l) (sym (some_same first steps e)) less)
among_lanes (first ∷ more) (suc client) steps step e less = among_lanes more client steps step e less

pub step_in_lane : (script : Script) (client : ℕ) (steps : List Step) (step : ℕ) → slice_get script.clients client ≡ Some steps → step < length steps
    → IsTrue (is_in_lane (lanes_of script) client step)
step_in_lane script client steps step e less = among_lanes script.clients client steps step e less

-- so has each whose task has its word and its moment
has_ack_lane : (script : Script) (tasks : TaskTable) (acks : AckBook) (ats : List (List ℕ)) (client : ℕ) (steps : List Step) → acks.lanes ≡ lanes_of script
    → slice_get script.clients client ≡ Some steps → HasLane tasks ats client steps → HasAckLane tasks acks client steps
has_ack_lane script tasks acks ats client steps same e h = record {
  cells = λ step less. record {
    word = (h.cells step less).word;
    inside = subst (λ (lanes : List ℕ). IsTrue (is_in_lane lanes client step)) (sym same) (step_in_lane script client steps step e less);
  };
  few = h.few;
}

pub have_ack_lanes : (script : Script) (tasks : TaskTable) (acks : AckBook) (ats : List (List ℕ)) → acks.lanes ≡ lanes_of script → HaveLanes script tasks ats → HaveAckLanes script tasks acks
have_ack_lanes script tasks acks ats same h = record {
  lanes = λ client steps e. has_ack_lane script tasks acks ats client steps same e (h.lanes client steps e);
  few = h.few;
}
