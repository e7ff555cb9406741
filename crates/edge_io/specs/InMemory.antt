-- The forms in memory, as contracts see them. Each numbers its calls from 0 and fails those that are listed. The
-- number stands still at 2^64 - 1.
use Rattle.std.specs.Prelude.{ℕ, List}

-- a source: the bytes that are left
pub record SourceView : Type 0 where
  pub left : List ℕ
  pub failing : List ℕ
  pub calls : ℕ
  pub faults : ℕ

-- a sink: the bytes that were written, and how many more fit
pub record SinkView : Type 0 where
  pub held : List ℕ
  pub room : ℕ
  pub failing : List ℕ
  pub calls : ℕ
  pub faults : ℕ
