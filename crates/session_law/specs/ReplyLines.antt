-- The lines of acknowledgements, watches and reads, each ended by a line feed. Their form is this project's own.
use Rattle.std.specs.Prelude.{ℕ, Bool, List, ◌++◌, Option, Some, None, codes, decimal, if◌then◌else◌}
use Rattle.serde_json.specs.Data.{string}
use Rattle.serde_json.specs.Written.{compact_text}
use Rattle.meta_state.specs.declared.looks.Found.{Found}
use Rattle.meta_state.specs.declared.looks.Found.TheVariants as found
use Rattle.session_law.specs.declared.reads.Read.{Read}
use Rattle.session_law.specs.declared.replies.AckEnd.{AckEnd}
use Rattle.session_law.specs.declared.replies.AckEnd.TheVariants as ack
use Rattle.session_law.specs.declared.replies.AckReply.{AckReply}
use Rattle.session_law.specs.declared.watches.Watch.{Watch}
use Rattle.session_law.specs.declared.watches.WatchEnd.{WatchEnd}
use Rattle.session_law.specs.declared.watches.WatchEnd.TheVariants as watch
use Rattle.session_law.specs.Joining.{lines_text, names_text}
use Rattle.session_law.specs.Lines.{line_end}

abbrev pub timeout_text : ℕ → ℕ → List ℕ
timeout_text deadline reading = codes "timeout " ++ (decimal deadline ++ (codes " " ++ decimal reading))

-- ---- ack c.s END

unfoldable pub ack_end_text : AckEnd → List ℕ
ack_end_text ack.All = codes "all"
ack_end_text (ack.Failed count) = codes "failed " ++ decimal count
ack_end_text (ack.Timeout deadline reading) = timeout_text deadline reading

unfoldable pub ack_line : AckReply → List ℕ
ack_line ack =
    codes "ack " ++ (decimal ack.client ++ (codes "." ++ (decimal ack.step ++ (codes " " ++ (ack_end_text ack.end ++ line_end)))))

abbrev pub ack_lines : List AckReply → List ℕ
ack_lines acks = lines_text ack_line acks

-- ---- watch c.s.p at T last L from I shown C END

-- `-` for none
abbrev pub last_text : Option ℕ → List ℕ
last_text None = codes "-"
last_text (Some version) = decimal version

unfoldable pub watch_end_text : WatchEnd → List ℕ
watch_end_text (watch.Answered version) = codes "answered " ++ decimal version
watch_end_text (watch.Timeout deadline reading) = timeout_text deadline reading
watch_end_text (watch.Closed client step) = codes "closed " ++ (decimal client ++ (codes "." ++ decimal step))

unfoldable pub watch_line : Watch → List ℕ
watch_line watch =
    codes "watch " ++ (decimal watch.client ++ (codes "." ++ (decimal watch.step ++ (codes "." ++ (decimal watch.part ++
    (codes " at " ++ (decimal watch.at ++ (codes " last " ++ (last_text watch.last ++
    (codes " from " ++ (decimal watch.place ++ (codes " shown " ++ (decimal watch.shown ++
    (codes " " ++ (watch_end_text watch.end ++ line_end)))))))))))))))

abbrev pub watch_lines : List Watch → List ℕ
watch_lines watches = lines_text watch_line watches

-- ---- read c.s version V FOUND

-- a text as a JSON string
unfoldable pub text_json : List ℕ → List ℕ
text_json text = compact_text (string text)

abbrev pub open_word : Bool → List ℕ
open_word opened = if opened then codes "open" else codes "closed"

unfoldable pub found_text : Found → List ℕ
found_text found.Missing = codes "missing"
found_text (found.Index id opened shards replicas) =
    codes "index id " ++ (decimal id ++ (codes " " ++ (open_word opened ++ (codes " shards " ++ (decimal shards ++ (codes " replicas " ++ decimal replicas))))))
found_text (found.Names names) = codes "names " ++ names_text names
found_text (found.Value value) = codes "value " ++ text_json value

unfoldable pub read_line : Read → List ℕ
read_line read =
    codes "read " ++ (decimal read.client ++ (codes "." ++ (decimal read.step ++ (codes " version " ++ (decimal read.version ++ (codes " " ++ (found_text read.found ++ line_end)))))))

abbrev pub read_lines : List Read → List ℕ
read_lines reads = lines_text read_line reads
