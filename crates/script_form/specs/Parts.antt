-- Reading the parts of a JSON value. JSON is RFC 8259, read as serde_json reads it: of a member that stands twice in an
-- object the last one counts. The checks and their order are this project's own.
use Rattle.std.specs.Prelude.{ℕ, Bool, true, ◌&&◌, List, [], ◌∷◌, ◌++◌, Some, None, Option, Result, Ok, length, nat_lt, option_and_then, bytes_eq, if◌then◌else◌}
use Rattle.std.specs.List.{list_any}
use Rattle.std.specs.Str.{is_utf8}
use Rattle.serde_json.specs.Data.{Data, Items, no_items, item, Members, no_members, member}
use Rattle.serde_json.specs.Find.{get, as_bool, as_str, as_array, as_object, as_number, as_u64}
use Rattle.serde_json.specs.Read.{read}
use Rattle.scripts.specs.Names.{is_name}
use Rattle.scripts.specs.ValidSteps.{is_time, is_positive_time}
use Rattle.script_form.specs.declared.limits.LimitName.{LimitName}
use Rattle.script_form.specs.declared.misfits.Misfit.{Misfit}
use Rattle.script_form.specs.declared.rules.Rule.TheVariants.{WrongType, Unknown, Missing, Range, Name, Value}
use Rattle.script_form.specs.Misfits.{◌>>=◌, bad, over, if_so, some_or, at_member, at_place, within}

-- what bytes say as JSON, which is text in UTF-8 and nests at most 127 deep
abbrev pub data_of : List ℕ → Option Data
data_of bytes = if is_utf8 bytes then read bytes else None

-- ---- objects

-- whether a key is among those known
abbrev pub is_known : List (List ℕ) → List ℕ → Bool
is_known known key = list_any (bytes_eq key) known

-- whether each member's key is
abbrev pub are_known : List (List ℕ) → Members → Bool
are_known known no_members = true
are_known known (member key d ms) = is_known known key && are_known known ms

abbrev pub check_known : List (List ℕ) → Option Members → Result (Unit {0}) Misfit
check_known known None = bad WrongType
check_known known (Some ms) = if are_known known ms then Ok tt else bad Unknown

abbrev pub object_or : Option Members → Result (Unit {0}) Misfit
object_or None = bad WrongType
object_or (Some ms) = Ok tt

-- an object, whatever its members
abbrev pub object_of : Data → Result (Unit {0}) Misfit
object_of d = object_or (as_object d)

-- an object, with no members but those known
abbrev pub check_members : List (List ℕ) → Data → Result (Unit {0}) Misfit
check_members known d = check_known known (as_object d)

-- a member that has to be there
abbrev pub member_or : List ℕ → Option Data → Result Data Misfit
member_or key None = within (at_member key) (bad Missing)
member_or key (Some d) = Ok d

abbrev pub member_of : List ℕ → Data → Result Data Misfit
member_of key d = member_or key (get key d)

-- what is read of a member that has to be there
abbrev pub required : {A : Type 0} → List ℕ → (Data → Result A Misfit) → Data → Result A Misfit
required key reading d = member_of key d >>= λ m. within (at_member key) (reading m)

-- what is read of a member that may be left out
abbrev pub if_there : {A : Type 0} → List ℕ → A → (Data → Result A Misfit) → Option Data → Result A Misfit
if_there key default reading None = Ok default
if_there key default reading (Some d) = within (at_member key) (reading d)

abbrev pub optional : {A : Type 0} → List ℕ → A → (Data → Result A Misfit) → Data → Result A Misfit
optional key default reading d = if_there key default reading (get key d)

-- ---- lists

-- the values of a JSON list, as a list
abbrev pub items_list : Items → List Data
items_list no_items = []
items_list (item d ds) = d ∷ items_list ds

abbrev pub list_or : Option Items → Result (List Data) Misfit
list_or None = bad WrongType
list_or (Some ds) = Ok (items_list ds)

abbrev pub list_of : Data → Result (List Data) Misfit
list_of d = list_or (as_array d)

-- no more values than a limit allows
abbrev pub at_most : ℕ → LimitName → List Data → Result (List Data) Misfit
at_most most name ds = if nat_lt most (length ds) then over name else Ok ds

-- the values of a list of limited length
abbrev pub short_list : ℕ → LimitName → Data → Result (List Data) Misfit
short_list most name d = list_of d >>= at_most most name

-- each value in turn, where the reading of one knows what was read before it
abbrev pub each : {A : Type 0} → (List A → Data → Result A Misfit) → List A → List Data → Result (List A) Misfit
each reading before [] = Ok before
each reading before (d ∷ ds) = within (at_place (length before)) (reading before d) >>= λ a. each reading (before ++ a ∷ []) ds

-- ---- texts, truth values and numbers

abbrev pub text_of : Data → Result (List ℕ) Misfit
text_of d = some_or WrongType (as_str d)

abbrev pub flag_of : Data → Result Bool Misfit
flag_of d = some_or WrongType (as_bool d)

-- a whole number from 0 to 2^64 - 1
abbrev pub whole_of : Data → Result ℕ Misfit
whole_of d = some_or WrongType (option_and_then as_u64 (as_number d))

-- a time, in milliseconds
abbrev pub time_of : Data → Result ℕ Misfit
time_of d = whole_of d >>= if_so Range is_time

-- a whole number from 1 to 4,294,967,295
abbrev pub positive_of : Data → Result ℕ Misfit
positive_of d = whole_of d >>= if_so Range is_positive_time

-- a name: 1 to 64 bytes of a to z, 0 to 9, _ and -, beginning with a letter or a digit
abbrev pub name_of : Data → Result (List ℕ) Misfit
name_of d = text_of d >>= if_so Name is_name

-- the meaning of a word in a table of words
abbrev pub meaning_in : {A : Type 0} → List (List ℕ × A) → List ℕ → Option A
meaning_in [] word = None
meaning_in (row ∷ rows) word = if bytes_eq word row.0 then Some row.1 else meaning_in rows word

-- one of some words
abbrev pub word_of : {A : Type 0} → (List ℕ → Option A) → Data → Result A Misfit
word_of meaning d = text_of d >>= λ text. some_or Value (meaning text)
