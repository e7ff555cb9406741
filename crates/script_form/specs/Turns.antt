-- The turns of a schedule, at most 65,536: `m` for the master, `c` and a number for a client, `n:` and a name for a
-- node. The form is this project's own.
use Rattle.std.specs.Prelude.{ℕ, ◌+◌, ◌-◌, ◌*◌, ◌==◌, Bool, false, not, ◌&&◌, List, [], ◌∷◌, Some, None, Option, Result, Ok, min, fold, nat_lt, if◌then◌else◌}
use Rattle.std.specs.List.{list_all}
use Rattle.serde_json.specs.Data.{Data}
use Rattle.scripts.specs.declared.whole_script.ScriptNode.{ScriptNode}
use Rattle.scripts.specs.declared.whole_script.ScriptTurn.{ScriptTurn}
use Rattle.scripts.specs.declared.whole_script.ScriptTurn.TheVariants as turn
use Rattle.scripts.specs.ValidSteps.{is_between}
use Rattle.script_form.specs.declared.limits.LimitName.TheVariants.{Schedule}
use Rattle.script_form.specs.declared.misfits.Misfit.{Misfit}
use Rattle.script_form.specs.declared.rules.Rule.TheVariants.{Value, Reference}
use Rattle.script_form.specs.Misfits.{◌>>=◌, bad}
use Rattle.script_form.specs.Nodes.{find_node}
use Rattle.script_form.specs.Parts.{short_list, each, text_of}

abbrev pub is_digit : ℕ → Bool
is_digit b = is_between 0x30 0x39 b

-- a number in decimal, without leading zeros
abbrev pub is_decimal : List ℕ → Bool
is_decimal [] = false
is_decimal (b ∷ []) = is_digit b
is_decimal (b ∷ c ∷ bs) = is_digit b && (not (b == 0x30) && list_all is_digit (c ∷ bs))

-- one digit more of a number, which past 99 counts as 100: no script has so many clients
abbrev pub more : ℕ → ℕ → ℕ
more n b = min 100 (n * 10 + (b - 0x30))

abbrev pub number_of : List ℕ → ℕ
number_of digits = fold more 0 digits

-- after `c`, where there are `count` clients
abbrev pub turn_of_client : ℕ → List ℕ → Result ScriptTurn Misfit
turn_of_client count digits =
    if is_decimal digits then (if nat_lt (number_of digits) count then Ok (turn.Client (number_of digits)) else bad Reference) else bad Value

abbrev pub node_turn : Option ScriptNode → Result ScriptTurn Misfit
node_turn None = bad Reference
node_turn (Some node) = Ok (turn.Node node.name)

-- after `n`
abbrev pub named_turn : List ScriptNode → List ℕ → Result ScriptTurn Misfit
named_turn nodes [] = bad Value
named_turn nodes (b ∷ name) = if b == 0x3A then node_turn (find_node nodes name) else bad Value

abbrev pub turn_of_master : List ℕ → Result ScriptTurn Misfit
turn_of_master [] = Ok turn.Master
turn_of_master (_ ∷ _) = bad Value

abbrev pub turn_in : List ScriptNode → ℕ → List ℕ → Result ScriptTurn Misfit
turn_in nodes count [] = bad Value
turn_in nodes count (b ∷ rest) =
    if b == 0x6D then turn_of_master rest else
    (if b == 0x63 then turn_of_client count rest else
    (if b == 0x6E then named_turn nodes rest else bad Value))

unfoldable pub turn_of : List ScriptNode → ℕ → Data → Result ScriptTurn Misfit
turn_of nodes count d = text_of d >>= turn_in nodes count

abbrev pub next_turn : List ScriptNode → ℕ → List ScriptTurn → Data → Result ScriptTurn Misfit
next_turn nodes count before d = turn_of nodes count d

abbrev pub schedule_of : List ScriptNode → ℕ → Data → Result (List ScriptTurn) Misfit
schedule_of nodes count d = short_list 65536 Schedule d >>= each (next_turn nodes count) []
