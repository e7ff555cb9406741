use Rattle.std.proofs.Common.{◌≡◌, ◌∙◌, ap, subst, Bool, IfOk}
use Rattle.report_law.proofs.Keys.{apart_by_pairs, entries_by_keys}
use Rattle.report_law.proofs.good_forms.are_entries_apart.Goals as goal

pub returns : goal.returns
returns c =
    let P : Bool → Type 0 = λ b. IfOk c.are_keys_apart.result (λ apart. apart ≡ b) in
    subst P (ap apart_by_pairs c.in_ok-entry_keys.ensures ∙ entries_by_keys c.args.entries.now) c.are_keys_apart.ensures
