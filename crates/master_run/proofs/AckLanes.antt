-- A step of the script is in its client's lane, and no step is out of it.
use Rattle.std.specs.Prelude.{◌≡◌, ℕ, zero, suc, true, false, List, [], ◌∷◌, get_or, length, map, nat_lt, Option, Some, None, option_and_then, slice_get, refl}
use Rattle.std.proofs.lemmas.Bool.{lt-ltb, ltb-false}
use Rattle.std.proofs.lemmas.Option.{slice_get_past, slice_get_within}
use Rattle.scripts.specs.declared.whole_script.Script.{Script}
use Rattle.scripts.specs.declared.steps.Step.{Step}
use Rattle.session_law.specs.Histories.{step_at}
use Rattle.master_run.specs.AckBooks.{is_in_lane}
use Rattle.master_run.specs.Courses.{lanes_of}
use Rattle.master_run.proofs.Keeping.{no_some}

abbrev step_of : List (List Step) → ℕ → ℕ → Option Step
step_of clients client number = option_and_then (λ steps. slice_get steps number) (slice_get clients client)

in_from : (clients : List (List Step)) (client number : ℕ) (step : Step) → step_of clients client number ≡ Some step → nat_lt number (get_or (map length clients) client 0) ≡ true
in_from [] client number step e = absurd (no_some step e)
in_from (steps ∷ more) zero number step e = lt-ltb number (length steps) (slice_get_within steps number step e)
in_from (steps ∷ more) (suc client) number step e = in_from more client number step e

pub in_lane : (script : Script) (client number : ℕ) (step : Step) → step_at script client number ≡ Some step → is_in_lane (lanes_of script) client number ≡ true
in_lane script client number step e = in_from script.clients client number step e

out_from : (clients : List (List Step)) (client number : ℕ) → nat_lt number (get_or (map length clients) client 0) ≡ false → step_of clients client number ≡ None
out_from [] client number out = refl
out_from (steps ∷ more) zero number out = slice_get_past steps number (ltb-false number (length steps) out)
out_from (steps ∷ more) (suc client) number out = out_from more client number out

pub out_of_lane : (script : Script) (client number : ℕ) → is_in_lane (lanes_of script) client number ≡ false → step_at script client number ≡ None
out_of_lane script client number out = out_from script.clients client number out
