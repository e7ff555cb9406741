-- Whose answers are missing after a batch: for what counted before as before, since the batch's version is higher; for
-- what it began those of the required nodes, since each was handed its commit.
use Rattle.std.specs.Prelude.{◌≡◌, ℕ, zero, suc, ◌+◌, ◌<◌, ◌≤◌, ◌==◌, Bool, true, false, ◌&&◌, ◌||◌, List, [], ◌∷◌, ◌++◌, Option, Some, None, slice_get, is_some, refl, if◌then◌else◌}
use Rattle.std.proofs.Common.{sym, ◌∙◌, ap, arith}
use Rattle.std.proofs.Math.Bool.{true≢false}
use Rattle.std.proofs.lemmas.List.Folds.{list_any-append}
use Rattle.std.specs.Cmp.{unsigned_Decides}
use Rattle.std.specs.List.{AllZip, list_any}
use Rattle.plain_data.specs.Pairs.{lookup}
use Rattle.scripts.specs.declared.whole_script.Script.{Script}
use Rattle.scripts.specs.declared.whole_script.ScriptNode.{ScriptNode}
use Rattle.scripts.specs.declared.steps.Ack.{Ack}
use Rattle.session_law.specs.Committed.{is_published}
use Rattle.session_law.specs.Histories.{SteppedBatch}
use Rattle.session_law.specs.NodeRecords.{Commit, commit_to, is_handed}
use Rattle.master_run.specs.AckCounts.{is_missing_at}
use Rattle.master_run.specs.AckCourses.{Acked, has_left, is_missing, is_required}
use Rattle.master_run.specs.Nodes.{NodeCourse, handed_each, handed_of}
use Rattle.master_run.proofs.AckRequired.{required_at}
use Rattle.master_run.proofs.Handing.{handed_plain}
use Rattle.master_run.proofs.Keeping.{both_first, false_from, or_right, same_number}

-- ---- what counted before

abbrev is_of : ℕ → Commit → Bool
is_of version c = c.state.version == version

or_none : (b c : Bool) → c ≡ false → (b || c) ≡ b
or_none true c e = refl
or_none false c e = e

other_by : (script : Script) (name : List ℕ) (s : SteppedBatch) (version : ℕ) (b : Bool) → (b ≡ true → version < s.world.state.version)
    → list_any (is_of version) (if b then commit_to script name s ∷ [] else []) ≡ false
other_by script name s version true h =
    let less = h refl in
    let other : (s.world.state.version == version) ≡ false = false_from (s.world.state.version == version) (λ e.
    let same = (unsigned_Decides s.world.state.version version).0 e in omega (arith, same, less)) in
    λ i. other i || false
other_by script name s version false h = refl

-- a batch hands no node a commit of a version that was there before
handed_other : (script : Script) (name : List ℕ) (s : SteppedBatch) (version : ℕ) → (is_published s.stepped.result ≡ true → version < s.world.state.version)
    → list_any (is_of version) (handed_of script name (Some s)) ≡ false
handed_other script name s version h = other_by script name s version (is_handed script name s) (λ e. h (both_first (is_published s.stepped.result) _ e))

pub missing_kept : (script : Script) (s : SteppedBatch) (a : Acked) (nodes : List ScriptNode) (have : List NodeCourse) (number : ℕ) → (is_published s.stepped.result ≡ true → a.version < s.world.state.version)
    → is_missing_at a nodes (handed_each script (Some s) nodes have) number ≡ is_missing_at a nodes have number
missing_kept script s a [] have number h = refl
missing_kept script s a (node ∷ more) [] number h = refl
missing_kept script s a (node ∷ more) (has ∷ others) zero h =
    ap (λ (b : Bool). is_required a.asked a.stepped.world.state node.name && b)
    (list_any-append (is_of a.version) has.left (handed_of script node.name (Some s))
    ∙ or_none (has_left a.version has) (list_any (is_of a.version) (handed_of script node.name (Some s))) (handed_other script node.name s a.version h))
missing_kept script s a (node ∷ more) (has ∷ others) (suc number) h = missing_kept script s a more others number h

-- ---- what the batch began

one_by : (script : Script) (name : List ℕ) (s : SteppedBatch) (version : ℕ) (b : Bool) → version ≡ s.world.state.version → b ≡ true
    → list_any (is_of version) (if b then commit_to script name s ∷ [] else []) ≡ true
one_by script name s version true same e = (λ i. (s.world.state.version == same i) || false) ∙ (λ i. same_number s.world.state.version i || false)
one_by script name s version false same e = absurd (true≢false (sym e))

-- what a batch gives what it began, of a script without faults
pub record HasBegun (script : Script) (s : SteppedBatch) (a : Acked) : Type 0 where
  pub plain : script.faults ≡ []
  pub published : is_published s.stepped.result ≡ true
  pub version : a.version ≡ s.world.state.version
  pub stepped : a.stepped ≡ s

handed_one : (script : Script) (name : List ℕ) (s : SteppedBatch) (a : Acked) → HasBegun script s a → is_some (lookup name s.world.state.nodes) ≡ true → is_handed script name s ≡ true
handed_one script name s a h e = handed_plain script name s h.plain ∙ (λ i. h.published i && e i)

left_by : (script : Script) (s : SteppedBatch) (a : Acked) (node : ScriptNode) (has : NodeCourse) → HasBegun script s a → is_some (lookup node.name s.world.state.nodes) ≡ true
    → has_left a.version (record has { left = has.left ++ handed_of script node.name (Some s) }) ≡ true
left_by script s a node has h e =
    list_any-append (is_of a.version) has.left (handed_of script node.name (Some s))
    ∙ or_right (has_left a.version has) (list_any (is_of a.version) (handed_of script node.name (Some s)))
    (one_by script node.name s a.version (is_handed script node.name s) h.version (handed_one script node.name s a h e))

missing_by : (inside asks left : Bool) → (inside ≡ true → left ≡ true) → (inside && asks) ≡ ((inside && asks) && left)
missing_by true true left h = sym (h refl)
missing_by true false left h = refl
missing_by false asks left h = refl

pub missing_begun : (R : ScriptNode → NodeCourse → Type 0) (script : Script) (s : SteppedBatch) (a : Acked) (nodes : List ScriptNode) (have : List NodeCourse) (number : ℕ) → AllZip R nodes have
    → HasBegun script s a → required_at a.asked s.world.state (slice_get nodes number) ≡ is_missing_at a nodes (handed_each script (Some s) nodes have) number
missing_begun R script s a [] have number all h = refl
missing_begun R script s a (node ∷ more) [] number all h = absurd all
missing_begun R script s a (node ∷ more) (has ∷ others) zero all h =
    let left = has_left a.version (record has { left = has.left ++ handed_of script node.name (Some s) }) in
    missing_by (is_some (lookup node.name s.world.state.nodes)) _ left (left_by script s a node has h)
    ∙ (λ i. is_required a.asked (sym h.stepped i).world.state node.name && left)
missing_begun R script s a (node ∷ more) (has ∷ others) (suc number) all h = missing_begun R script s a more others number all.1 h
