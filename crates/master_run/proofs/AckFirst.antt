-- At first no acknowledgement counts, and every word is vacant.
use Rattle.std.specs.Prelude.{◌≡◌, ℕ, zero, suc, [], get_or, length, replicate, sum, Option, Some, None, refl}
use Rattle.std.proofs.Common.{sym, ◌∙◌, ap, subst}
use Rattle.std.proofs.Math.Bool.{true≢false}
use Rattle.std.proofs.lemmas.List.{length-replicate}
use Rattle.ack_words.specs.declared.words.AckWord.{AckWord}
use Rattle.scripts.specs.declared.whole_script.Script.{Script}
use Rattle.scripts.specs.declared.steps.Ack.{Ack}
use Rattle.session_law.specs.Acknowledgements.{asked_ack}
use Rattle.session_law.specs.Histories.{step_at}
use Rattle.master_run.specs.AckBooks.{ack_number, is_open_word, new_acks}
use Rattle.master_run.specs.AckCounts.{AreCounted, IsWordOf}
use Rattle.master_run.specs.AckCourses.{Acked, acked_of}
use Rattle.master_run.specs.Courses.{lanes_of}
use Rattle.master_run.specs.Nodes.{fresh_nodes}

-- what isn't there is as what is
all_empty : {A : Type 0} (count place : ℕ) (empty : A) → get_or (replicate count empty) place empty ≡ empty
all_empty zero place empty = refl
all_empty (suc count) zero empty = refl
all_empty (suc count) (suc place) empty = all_empty count place empty

acked_none : (script : Script) (client step : ℕ) (asked : Option Ack) → acked_of script [] client step asked ≡ None
acked_none script client step None = refl
acked_none script client step (Some asked) = refl

pub counted_first : (script : Script) → AreCounted script [] (fresh_nodes script) (new_acks (lanes_of script) (length script.nodes))
counted_first script =
    let lanes = lanes_of script in
    let vacant : (number : ℕ) → get_or (replicate (sum lanes) AckWord.Vacant) number AckWord.Vacant ≡ AckWord.Vacant = λ number. all_empty (sum lanes) number AckWord.Vacant in
    record {
      lanes = refl;
      applied = length-replicate (length script.nodes) 0;
      words = λ client step inside.
          let number = ack_number lanes client step in
          subst (λ (found : Option Acked). IsWordOf script.nodes (fresh_nodes script) found (get_or (replicate (sum lanes) None) number None) (get_or (replicate (sum lanes) AckWord.Vacant) number AckWord.Vacant))
          (sym (acked_none script client step (asked_ack (step_at script client step)))) (vacant number);
      listed = λ number opened. absurd (true≢false (sym opened ∙ ap is_open_word (vacant number)));
    }
