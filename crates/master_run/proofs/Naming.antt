-- What an await for a task names: an earlier submit of the same client. One for an acknowledgement names a submit that
-- asks for one.
use Rattle.std.specs.Prelude.{◌≡◌, ℕ, zero, suc, ◌<◌, true, List, [], ◌∷◌, ◌++◌, take, Option, Some, None, option_and_then, slice_get, refl}
use Rattle.std.proofs.Common.{sym, ◌∙◌, ap, arith, append-nil, append_assoc}
use Rattle.std.proofs.Math.Bool.{true≢false}
use Rattle.scripts.specs.declared.whole_script.Script.{Script}
use Rattle.scripts.specs.declared.steps.Ack.{Ack}
use Rattle.scripts.specs.declared.steps.Goal.TheVariants as goal
use Rattle.scripts.specs.declared.steps.Step.{Step}
use Rattle.scripts.specs.declared.steps.Step.TheVariants.{Submit, Await, Watch, Next, Read, Sleep, Close}
use Rattle.scripts.specs.Scripts.{IsScript}
use Rattle.scripts.specs.ValidSteps.{are_steps, is_client, is_goal, is_step}
use Rattle.session_law.specs.Acknowledgements.{asked_ack}
use Rattle.session_law.specs.Histories.{step_at}
use Rattle.master_run.specs.SoFar.{is_submit_at}
use Rattle.master_run.proofs.Bounds.{all_get, stood}
use Rattle.master_run.proofs.Keeping.{both_first, both_second, no_some, some_same}

-- a step may stand after those before it
step_placed : (script : Script) (before steps : List Step) (number : ℕ) (step : Step) → are_steps script.nodes script.queues before steps ≡ true → slice_get steps number ≡ Some step
    → is_step script.nodes script.queues (before ++ take number steps) step ≡ true
step_placed script before [] number step h e = absurd (no_some step e)
step_placed script before (first ∷ steps) zero step h e =
    (λ i. is_step script.nodes script.queues (append-nil before i) (sym (some_same first step e) i)) ∙ both_first _ _ h
step_placed script before (first ∷ steps) (suc n) step h e =
    ap (λ (all : List Step). is_step script.nodes script.queues all step) (sym (append_assoc before (first ∷ []) (take n steps))) ∙ step_placed script (before ++ first ∷ []) steps n step (both_second _ _ h) e

record IsAmongFirst (steps : List Step) (count number : ℕ) (step : Step) : Type 0 where
  less : number < count
  there : slice_get steps number ≡ Some step

among_first : (steps : List Step) (count number : ℕ) (step : Step) → slice_get (take count steps) number ≡ Some step → IsAmongFirst steps count number step
among_first steps zero number step e = absurd (no_some step e)
among_first [] (suc count) number step e = absurd (no_some step e)
among_first (first ∷ steps) (suc count) zero step e = record { less = omega arith; there = e }
among_first (first ∷ steps) (suc count) (suc number) step e =
    let rest = among_first steps count number step e in record { less = let l = rest.less in omega arith; there = rest.there }

named_by : (script : Script) (client count number : ℕ) (steps : List Step) (found : Option Step) → slice_get script.clients client ≡ Some steps → slice_get (take count steps) number ≡ found
    → is_goal goal.Task found ≡ true → (number < count) × (is_submit_at (step_at script client number) ≡ true)
named_by script client count number steps None e f h = absurd (true≢false (sym h))
named_by script client count number steps (Some (Submit queue task timeout ack)) e f h =
    let among = among_first steps count number (Submit queue task timeout ack) f in
    (among.less, ap is_submit_at (ap (option_and_then (λ steps. slice_get steps number)) e ∙ among.there))
named_by script client count number steps (Some (Await _ _)) e f h = absurd (true≢false (sym h))
named_by script client count number steps (Some (Watch _ _ _ _)) e f h = absurd (true≢false (sym h))
named_by script client count number steps (Some (Next _ _ _ _)) e f h = absurd (true≢false (sym h))
named_by script client count number steps (Some (Read _ _)) e f h = absurd (true≢false (sym h))
named_by script client count number steps (Some (Sleep _)) e f h = absurd (true≢false (sym h))
named_by script client count number steps (Some Close) e f h = absurd (true≢false (sym h))

pub awaits_submit : (script : Script) (client number earlier : ℕ) → IsScript script → step_at script client number ≡ Some (Await earlier goal.Task)
    → (earlier < number) × (is_submit_at (step_at script client earlier) ≡ true)
awaits_submit script client number earlier valid e =
    let at = stood script client number (Await earlier goal.Task) e in
    let steps = all_get (is_client script.nodes script.queues) script.clients client at.steps valid.clients at.of_client in
    named_by script client number earlier at.steps (slice_get (take number at.steps) earlier) at.of_client refl
    (step_placed script [] at.steps number (Await earlier goal.Task) (both_second _ _ steps) at.of_steps)

-- ---- an acknowledgement

-- a step that asks for one is a submit
pub asks_submit : (found : Option Step) (asked : Ack) → asked_ack found ≡ Some asked → is_submit_at found ≡ true
asks_submit None asked e = absurd (no_some asked e)
asks_submit (Some (Submit _ _ _ _)) asked e = refl
asks_submit (Some (Await _ _)) asked e = absurd (no_some asked e)
asks_submit (Some (Watch _ _ _ _)) asked e = absurd (no_some asked e)
asks_submit (Some (Next _ _ _ _)) asked e = absurd (no_some asked e)
asks_submit (Some (Read _ _)) asked e = absurd (no_some asked e)
asks_submit (Some (Sleep _)) asked e = absurd (no_some asked e)
asks_submit (Some Close) asked e = absurd (no_some asked e)

pub record IsAsking (script : Script) (client number earlier : ℕ) : Type 0 where
  pub less : earlier < number
  pub asked : Ack
  pub asks : asked_ack (step_at script client earlier) ≡ Some asked

asking_by : (script : Script) (client count number : ℕ) (steps : List Step) (found : Option Step) → slice_get script.clients client ≡ Some steps → slice_get (take count steps) number ≡ found
    → is_goal goal.Ack found ≡ true → IsAsking script client count number
asking_by script client count number steps None e f h = absurd (true≢false (sym h))
asking_by script client count number steps (Some (Submit queue task timeout None)) e f h = absurd (true≢false (sym h))
asking_by script client count number steps (Some (Submit queue task timeout (Some asked))) e f h =
    let among = among_first steps count number (Submit queue task timeout (Some asked)) f in
    record { less = among.less; asked = asked; asks = ap asked_ack (ap (option_and_then (λ steps. slice_get steps number)) e ∙ among.there) }
asking_by script client count number steps (Some (Await _ _)) e f h = absurd (true≢false (sym h))
asking_by script client count number steps (Some (Watch _ _ _ _)) e f h = absurd (true≢false (sym h))
asking_by script client count number steps (Some (Next _ _ _ _)) e f h = absurd (true≢false (sym h))
asking_by script client count number steps (Some (Read _ _)) e f h = absurd (true≢false (sym h))
asking_by script client count number steps (Some (Sleep _)) e f h = absurd (true≢false (sym h))
asking_by script client count number steps (Some Close) e f h = absurd (true≢false (sym h))

pub awaits_asking : (script : Script) (client number earlier : ℕ) → IsScript script → step_at script client number ≡ Some (Await earlier goal.Ack) → IsAsking script client number earlier
awaits_asking script client number earlier valid e =
    let at = stood script client number (Await earlier goal.Ack) e in
    let steps = all_get (is_client script.nodes script.queues) script.clients client at.steps valid.clients at.of_client in
    asking_by script client number earlier at.steps (slice_get (take number at.steps) earlier) at.of_client refl
    (step_placed script [] at.steps number (Await earlier goal.Ack) (both_second _ _ steps) at.of_steps)
