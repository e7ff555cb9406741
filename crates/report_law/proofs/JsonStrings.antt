-- A JSON string tells the text that it spells: it is read back, and ends at its quote.
use Rattle.std.specs.Prelude.{◌≡◌, ℕ, List, [], ◌∷◌, ◌++◌, unwrap_or}
use Rattle.std.proofs.Common.{sym, ap, ◌∙◌}
use Rattle.std.proofs.lemmas.List.{append_assoc, append_cancel_left}
use Rattle.json.specs.Print.{escape}
use Rattle.json.specs.Text.{content, plain}
use Rattle.json.proofs.Printed.Strings.{content-escape}
use Rattle.serde_json.specs.Data.{string}
use Rattle.serde_json.specs.Written.{compact_text}
use Rattle.session_law.specs.ReplyLines.{text_json}
use Rattle.report_law.proofs.Telling.{Any, Same, Tells, word_then}

escaped_tells : Tells (λ (s : List ℕ). Unit {0}) (λ s. escape s ++ 34 ∷ []) Same Any
escaped_tells = record {
  told = λ a b u v _ _ _ _ e.
      let closed = sym (append_assoc (escape a) (34 ∷ []) u) ∙ (e ∙ append_assoc (escape b) (34 ∷ []) v) in
      let same : a ≡ b = ap (λ o. unwrap_or o []) (sym (content-escape a u) ∙ (ap (content plain) closed ∙ content-escape b v)) in
      (same, append_cancel_left (escape b ++ 34 ∷ []) u v (ap (λ s. (escape s ++ 34 ∷ []) ++ u) (sym same) ∙ e));
}

pub string_tells : Tells (λ (s : List ℕ). Unit {0}) (λ s. compact_text (string s)) Same Any
string_tells = word_then (34 ∷ []) escaped_tells

pub text_json_tells : Tells (λ (s : List ℕ). Unit {0}) text_json Same Any
unfolding text_json
text_json_tells = string_tells
