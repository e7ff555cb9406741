-- A batch's step is that of its plan, once the nodes have answered; and what a plan proposes is new.
use Rattle.std.specs.Prelude.{◌≡◌, ℕ, ◌+◌, Bool, true, false, not, ◌&&◌, List, Option, Some, None, length, refl, if◌then◌else◌}
use Rattle.std.proofs.Common.{sym, subst, ◌∙◌}
use Rattle.meta_state.specs.declared.cluster_state.ClusterState.{ClusterState}
use Rattle.meta_state.specs.declared.touches.Touched.{Touched}
use Rattle.meta_state.specs.declared.versions.Next.{Next}
use Rattle.meta_state.specs.declared.versions.Next.TheVariants.{Same, Changed}
use Rattle.meta_state.specs.Exact.{state_eq}
use Rattle.meta_state.specs.Versions.{content_of, metadata_version, next_of, stamped}
use Rattle.executors.specs.declared.contexts.Mark.{Mark}
use Rattle.executors.specs.declared.executions.Executed.{Executed}
use Rattle.executors.specs.declared.executions.Executed.TheVariants.{Made, Failed}
use Rattle.executors.specs.declared.kinds.Kind.{Kind}
use Rattle.executors.specs.declared.tasks.Task.{Task}
use Rattle.executors.specs.Contexts.{numbered}
use Rattle.executors.specs.Executions.{executed}
use Rattle.executors.specs.Kinds.{needs_master}
use Rattle.session_law.specs.declared.task_ends.TaskEnd.TheVariants as end
use Rattle.session_law.specs.declared.batches.BatchResult.TheVariants as result
use Rattle.session_law.specs.declared.worlds.Reach.{Reach}
use Rattle.session_law.specs.declared.worlds.World.{World}
use Rattle.session_law.specs.BatchSteps.{BatchInput, all_end, batch_step, executed_step, next_step, refused_step}
use Rattle.session_law.specs.Publications.{reach_of}
use Rattle.master_run.specs.declared.plans.Plan.{Plan}
use Rattle.master_run.specs.declared.plans.Plan.TheVariants.{Settled, Proposed}
use Rattle.master_run.specs.declared.plans.Proposal.{Proposal}
use Rattle.master_run.specs.Plans.{concluded, plan_executed, plan_next, plan_of}
use Rattle.master_run.specs.Touching.{AgreeOutsideThese, KnowsChanges}

-- ---- the step

-- what a proposal reaches where these nodes are cut off
abbrev pub reach_cut : BatchInput → World → Proposal → Reach
reach_cut input world proposal = reach_of input.cut world.state proposal.new input.nodes world.nodes

next_is : (input : BatchInput) (world : World) (marks : List Mark) (next : Next) → next_step input world marks next ≡ concluded (reach_cut input world) input world (plan_next world marks next)
next_is input world marks Same = refl
next_is input world marks (Changed new) = refl

executed_is : (input : BatchInput) (world : World) (made : Executed)
    → executed_step input world made ≡ concluded (reach_cut input world) input world (plan_executed (length input.tasks) world made)
executed_is input world (Failed position refusal) = refl
executed_is input world (Made state marks) = next_is input world marks (next_of world.state state (world.proposals + 2))

choice_is : {A B : Type 0} (f : A → B) (b : Bool) (x y : A) (u v : B) → u ≡ f x → v ≡ f y → (if b then u else v) ≡ f (if b then x else y)
choice_is f true x y u v e g = e
choice_is f false x y u v e g = g

pub step_is : (input : BatchInput) (world : World) → batch_step input world ≡ concluded (reach_cut input world) input world (plan_of input.kind input.tasks world)
unfolding batch_step plan_of
step_is input world =
    let made = executed input.kind world.state (numbered 0 input.tasks) in
    choice_is (concluded (reach_cut input world) input world) (needs_master input.kind && not world.in_office)
    (Settled (record { result = result.NotMaster; ends = all_end end.NotMaster (length input.tasks) })) (plan_executed (length input.tasks) world made)
    (refused_step input world) (executed_step input world made) refl (executed_is input world made)

-- ---- what is proposed is new

pub record IsFresh (world : World) (proposal : Proposal) : Type 0 where
  pub id : proposal.new.id ≡ world.proposals + 2
  pub version : proposal.new.version ≡ world.state.version + 1

abbrev pub ProposesFresh : World → Plan → Type 0
ProposesFresh world (Settled stepped) = Unit {0}
ProposesFresh world (Proposed proposal) = IsFresh world proposal

next_fresh : (same : Bool) (world : World) (marks : List Mark) (made : ClusterState) (metadata : ℕ)
    → ProposesFresh world (plan_next world marks (if same then Same else Changed (stamped made (world.proposals + 2) (world.state.version + 1) metadata)))
next_fresh true world marks made metadata = tt
next_fresh false world marks made metadata = record { id = refl; version = refl }

executed_fresh : (count : ℕ) (world : World) (made : Executed) → ProposesFresh world (plan_executed count world made)
executed_fresh count world (Failed position refusal) = tt
executed_fresh count world (Made state marks) =
    next_fresh (state_eq (content_of world.state) (content_of state)) world marks state (metadata_version world.state.metadata state.metadata)

choice_fresh : (world : World) (b : Bool) (x y : Plan) → ProposesFresh world x → ProposesFresh world y → ProposesFresh world (if b then x else y)
choice_fresh world true x y f g = f
choice_fresh world false x y f g = g

pub plan_fresh : (kind : Kind) (tasks : List Task) (world : World) → ProposesFresh world (plan_of kind tasks world)
unfolding plan_of
plan_fresh kind tasks world =
    choice_fresh world (needs_master kind && not world.in_office) (Settled (record { result = result.NotMaster; ends = all_end end.NotMaster (length tasks) }))
    (plan_executed (length tasks) world (executed kind world.state (numbered 0 tasks))) tt (executed_fresh (length tasks) world (executed kind world.state (numbered 0 tasks)))

-- ---- what it changes is known

stamped_agrees : (touched : Option Touched) (old made : ClusterState) (id version metadata : ℕ) → AgreeOutsideThese touched old made
    → AgreeOutsideThese touched old (stamped made id version metadata)
stamped_agrees None old made id version metadata agree = tt
stamped_agrees (Some touched) old made id version metadata agree = record { indices = agree.indices; settings = agree.settings; nodes = agree.nodes }

knows_by : (same : Bool) (touched : Option Touched) (world : World) (marks : List Mark) (made : ClusterState) (id version metadata : ℕ) → AgreeOutsideThese touched world.state made
    → KnowsChanges touched world.state (plan_next world marks (if same then Same else Changed (stamped made id version metadata)))
knows_by true touched world marks made id version metadata agree = tt
knows_by false touched world marks made id version metadata agree = stamped_agrees touched world.state made id version metadata agree

pub next_knows : (touched : Option Touched) (world : World) (marks : List Mark) (made : ClusterState) (id : ℕ) (next : Next) (plan : Plan) → AgreeOutsideThese touched world.state made
    → next ≡ next_of world.state made id → plan ≡ plan_next world marks next → KnowsChanges touched world.state plan
next_knows touched world marks made id next plan agree e is =
    subst (KnowsChanges touched world.state) (sym (is ∙ (λ i. plan_next world marks (e i))))
    (knows_by (state_eq (content_of world.state) (content_of made)) touched world marks made id (world.state.version + 1) (metadata_version world.state.metadata made.metadata) agree)
