use Rattle.std.proofs.Common.{◌≡◌, ◌≤◌, drop}
use Rattle.std.specs.Prelude.{fold}
use Rattle.script_form.specs.Turns.{more}
use Rattle.script_form.proofs.turns.number_in.Given as goal

abbrev pub invariant-loop-digit : goal.invariant-loop-digit
invariant-loop-digit l = record {
  going : fold more l.number (drop l.digit-index l.digits) ≡ fold more 0 l.digits;
  small : l.number ≤ 100;
}
