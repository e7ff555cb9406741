-- What an applier keeps: its view, what it has prepared, and which version was applied as it last took a state over. That
-- an apply has two steps, of which only the first takes memory, is this project's own.
use Rattle.std.specs.Prelude.{ℕ, Option, None, unwrap_or}
use Rattle.meta_state.specs.declared.cluster_state.ClusterState.{ClusterState}

pub record Kept (A : Type 0) : Type 0 where
  pub shown : A
  pub next : Option A
  pub seen : ℕ

-- a view, with nothing prepared
abbrev pub just : {A : Type 0} → A → Kept A
just view = record { shown = view; next = None; seen = 0 }

-- what was prepared is taken over, while a version is applied
abbrev pub taken_over : {A : Type 0} → ℕ → Kept A → Kept A
taken_over applied kept = record { shown = unwrap_or kept.next kept.shown; next = None; seen = applied }

-- a view of each state of which it was one
abbrev pub Stays : {A : Type 0} → (A → ClusterState → Type 0) → A → A → Type 0
Stays shows old new = (s : ClusterState) → shows old s → shows new s

-- a view of each state that was prepared
abbrev pub Becomes : {A : Type 0} → (A → ClusterState → Type 0) → (A → ClusterState → Type 0) → A → A → Type 0
Becomes awaits shows old new = (s : ClusterState) → awaits old s → shows new s
