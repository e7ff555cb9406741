-- When what waits is over: its timeout after it began, though never past the last moment that a deadline can be.
-- Times are milliseconds. The rule is this project's own.
use Rattle.std.specs.Prelude.{ℕ, ◌+◌, ◌-◌, ◌^◌, min}

abbrev pub due : ℕ → ℕ → ℕ
due at timeout = min (2 ^ 43 - 2) (at + timeout)
