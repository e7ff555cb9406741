-- The lines of a report, each ended by a line feed. Their form is this project's own.
use Rattle.std.specs.Prelude.{ℕ, ◌+◌, List, [], ◌∷◌, ◌++◌, codes, decimal}
use Rattle.meta_state.specs.declared.cluster_state.ClusterState.{ClusterState}
use Rattle.meta_state.specs.Json.{state_json}
use Rattle.session_law.specs.declared.task_ends.TaskEnd.{TaskEnd}
use Rattle.session_law.specs.declared.task_ends.TaskEnd.TheVariants as end
use Rattle.executors.specs.declared.refusals.TaskRefusal.{TaskRefusal}
use Rattle.executors.specs.Refusals.{refusal_word}
use Rattle.session_law.specs.declared.batches.Batch.{Batch}
use Rattle.session_law.specs.declared.batches.BatchResult.{BatchResult}
use Rattle.session_law.specs.declared.batches.BatchResult.TheVariants as result
use Rattle.session_law.specs.declared.batches.Entry.{Entry}
use Rattle.session_law.specs.declared.replies.Reply.{Reply}
use Rattle.session_law.specs.Joining.{lines_text, list_text}

abbrev pub line_end : List ℕ
line_end = codes "\n"

-- ---- batch K queue Q at T tasks E RESULT

-- `client.step/seen`
unfoldable pub entry_text : Entry → List ℕ
entry_text entry = decimal entry.client ++ (codes "." ++ (decimal entry.step ++ (codes "/" ++ decimal entry.seen)))

-- a batch that its executor failed
abbrev pub failure_text : ℕ → TaskRefusal → List ℕ
failure_text position refusal = codes "batch_failed " ++ (decimal position ++ (codes " " ++ refusal_word refusal))

unfoldable pub result_text : BatchResult → List ℕ
result_text (result.Published version id commit diffs fulls accepted) =
    codes "published " ++ (decimal version ++ (codes " id " ++ (decimal id ++ (codes " commit " ++ (decimal commit ++ (codes " diffs " ++ (decimal diffs ++ (codes " fulls " ++ (decimal fulls ++ (codes " accepted " ++ decimal accepted))))))))))
result_text (result.Unchanged version) = codes "unchanged " ++ decimal version
result_text (result.Failed position refusal) = failure_text position refusal
result_text result.NotMaster = codes "not_master"
result_text (result.PublishFailed id diffs fulls accepted) =
    codes "publish_failed id " ++ (decimal id ++ (codes " diffs " ++ (decimal diffs ++ (codes " fulls " ++ (decimal fulls ++ (codes " accepted " ++ decimal accepted))))))

unfoldable pub batch_line : ℕ → Batch → List ℕ
batch_line number batch =
    codes "batch " ++ (decimal number ++ (codes " queue " ++ (batch.queue ++ (codes " at " ++ (decimal batch.at ++ (codes " tasks " ++
    (list_text entry_text batch.entries ++ (codes " " ++ (result_text batch.result ++ line_end)))))))))

abbrev pub batch_lines : ℕ → List Batch → List ℕ
batch_lines number [] = []
batch_lines number (batch ∷ batches) = batch_line number batch ++ batch_lines (number + 1) batches

-- ---- task c.s at T END

unfoldable pub end_text : TaskEnd → List ℕ
end_text (end.Ok version) = codes "ok " ++ decimal version
end_text (end.Unchanged version) = codes "unchanged " ++ decimal version
end_text (end.Refused refusal) = codes "refused " ++ refusal_word refusal
end_text (end.BatchFailed position refusal) = failure_text position refusal
end_text end.NotMaster = codes "not_master"
end_text end.PublishFailed = codes "publish_failed"
end_text (end.Timeout deadline reading) = codes "timeout " ++ (decimal deadline ++ (codes " " ++ decimal reading))
end_text (end.Closed client step) = codes "closed " ++ (decimal client ++ (codes "." ++ decimal step))

unfoldable pub reply_line : Reply → List ℕ
reply_line reply =
    codes "task " ++ (decimal reply.client ++ (codes "." ++ (decimal reply.step ++ (codes " at " ++ (decimal reply.at ++ (codes " " ++ (end_text reply.end ++ line_end)))))))

abbrev pub reply_lines : List Reply → List ℕ
reply_lines replies = lines_text reply_line replies

-- ---- state JSON

unfoldable pub state_line : ClusterState → List ℕ
state_line state = codes "state " ++ (state_json state ++ line_end)
