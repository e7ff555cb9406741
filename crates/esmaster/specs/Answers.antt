-- What a replay answers, and what it writes for the bytes that it reads: the report of the script's replayed session, or
-- the line that refuses the script. What a source or a sink doesn't tell is left open.
use Rattle.std.specs.Prelude.{◌≡◌, ℕ, ◌≤◌, ◌⊎◌, Bool, true, false, List, [], ◌++◌, Option, Some, IfSome, IfOk, Result, Ok, Err, codes, length}
use Rattle.std.specs.Io.KnownBytes.{Appends}
use Rattle.edge_io.specs.Bytes.{AppendsPart, Takes, TakesAtMost}
use Rattle.edge_io.specs.Causes.{Rose}
use Rattle.scripts.specs.declared.whole_script.Script.{Script}
use Rattle.script_form.specs.declared.refusals.ScriptRefusal.{ScriptRefusal}
use Rattle.script_form.specs.Reading.{script_of}
use Rattle.script_form.specs.Refusals.{refusal_text}
use Rattle.session_law.specs.Reports.{report_of}
use Rattle.master_run.specs.Serials.{replayed}
use Rattle.master_run.specs.SerialSessions.{IsSerialSession}
use Rattle.esmaster.specs.declared.answers.Answer.{Answer}
use Rattle.esmaster.specs.declared.exits.Exit.{Exit}
use Rattle.esmaster.specs.declared.exits.Exit.TheVariants.{Done, Usage, ScriptRefused, ReadFault, WriteFault, OutOfMemory, TooLong}

abbrev pub refusal_line : ScriptRefusal → List ℕ
refusal_line refusal = codes "refused " ++ (refusal_text refusal ++ codes "\n")

-- whether the script is refused, and what is written for it
unfoldable pub answer_of : Result Script ScriptRefusal → Answer
answer_of (Ok script) = record { refused = false; text = report_of (replayed script) }
answer_of (Err refusal) = record { refused = true; text = refusal_line refusal }

-- what a source and a sink tell: the bytes that are left to read and those that were written, if they tell them, and how
-- many faults each has counted
pub record Edges : Type 0 where
  pub left : Option (List ℕ)
  pub read_faults : ℕ
  pub held : Option (List ℕ)
  pub write_faults : ℕ

-- all that was left to read was read, and the whole answer to it was written
pub record WritesAnswer (refused : Bool) (input : List ℕ) (before now : Edges) : Type 0 where
  pub all_read : now.left ≡ Some []
  pub kind : (answer_of (script_of input)).refused ≡ refused
  pub written : Appends before.held now.held (answer_of (script_of input)).text

abbrev pub AnswersWhole : Bool → Edges → Edges → Type 0
AnswersWhole refused before now = IfSome before.left (λ input. WritesAnswer refused input before now)

-- all that was left to read was read, and a part of the answer to it was written, but not the whole
pub record WritesPart (input : List ℕ) (before now : Edges) : Type 0 where
  pub all_read : now.left ≡ Some []
  pub written : AppendsPart before.held now.held (answer_of (script_of input)).text

abbrev pub AnswersPart : Edges → Edges → Type 0
AnswersPart before now = IfSome before.left (λ input. WritesPart input before now)

-- nothing was written
abbrev pub IsUnwritten : Edges → Edges → Type 0
IsUnwritten before now = now.held ≡ before.held

-- the session that is reported has batches that are a serial history, each task ended once in it, its last state is the one
-- after all batches, and its lists stand in order
abbrev pub IsReportedInOrder : Result Script ScriptRefusal → Type 0
IsReportedInOrder read = IfOk read (λ script. IsSerialSession script (replayed script))

-- what each way to end tells
pub record Ends (before now : Edges) (exit : Exit) : Type 0 where
  -- The whole script was read, and all that was written is the report of its replayed session.
  pub done : exit ≡ Done → AnswersWhole false before now
  pub in_order : exit ≡ Done → IfSome before.left (λ input. IsReportedInOrder (script_of input))
  -- The whole script was read, and all that was written is the line that refuses it.
  pub script_refused : exit ≡ ScriptRefused → AnswersWhole true before now
  -- The input failed in this call.
  pub read_fault : exit ≡ ReadFault → Rose before.read_faults now.read_faults × IsUnwritten before now
  -- The output failed in this call, and a part of what one of the first two would have written was written.
  pub write_fault : exit ≡ WriteFault → Rose before.write_faults now.write_faults × AnswersPart before now
  -- One byte more than a script may have was read, and at any other end no more than it may have.
  pub too_long : exit ≡ TooLong → Takes before.left now.left 16777217 × IsUnwritten before now
  pub not_too_long : ¬ (exit ≡ TooLong) → TakesAtMost before.left now.left 16777216
  pub out_of_memory : exit ≡ OutOfMemory → IsUnwritten before now
  pub no_usage : ¬ (exit ≡ Usage)

-- a script that is refused, and whose line was written whole, is answered as refused
abbrev pub IsRefusedExactly : List ℕ → List ℕ → Edges → Exit → Type 0
IsRefusedExactly input held now exit = now.left ≡ Some [] → (answer_of (script_of input)).refused ≡ true
    → now.held ≡ Some (held ++ (answer_of (script_of input)).text) → exit ≡ ScriptRefused

-- an accepted script that isn't too long has its report written, unless a count of faults rose or memory was wanting
abbrev pub IsComplete : List ℕ → Edges → Edges → Exit → Type 0
IsComplete input before now exit = (script : Script) → script_of input ≡ Ok script → length input ≤ 16777216
    → ¬ Rose before.read_faults now.read_faults → ¬ Rose before.write_faults now.write_faults → (exit ≡ Done) ⊎ (exit ≡ OutOfMemory)

-- what a replay answers: what its end tells, and that it ends no worse than it must
pub record Replays (before now : Edges) (exit : Exit) : Type 0 where
  pub ends : Ends before now exit
  pub refused_exactly : IfSome before.left (λ input. IfSome before.held (λ held. IsRefusedExactly input held now exit))
  pub complete : IfSome before.left (λ input. IsComplete input before now exit)
