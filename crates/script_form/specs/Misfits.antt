-- What doesn't fit in a part of a script: the place, seen from the value that was read, and the rule that it breaks, or
-- a limit. Where a value stands inside another, what leads to it stands before the place: a member's name, and `[k]`
-- for the k-th value of a list, from 0. A point stands between two names, and before a name in a list. The form is this project's own.
use Rattle.std.specs.Prelude.{◌≡◌, ℕ, ◌==◌, Bool, true, List, [], ◌∷◌, ◌++◌, Some, None, Option, Result, Ok, Err, codes, decimal, if◌then◌else◌}
use Rattle.script_form.specs.declared.limits.LimitName.{LimitName}
use Rattle.script_form.specs.declared.misfits.Misfit.{Misfit}
use Rattle.script_form.specs.declared.misfits.Misfit.TheVariants as misfit
use Rattle.script_form.specs.declared.rules.Rule.{Rule}

-- then: what is read of what was read, unless something didn't fit
infixl 10 ◌>>=◌
abbrev pub ◌>>=◌ : {A B : Type 0} → Result A Misfit → (A → Result B Misfit) → Result B Misfit
(Ok a) >>= f = f a
(Err m) >>= f = Err m

-- that a call returned what a reading gives, seen by `view`, unless memory ran out
abbrev pub Reads : {X Y : Type 0} → (X → Y) → Result X Misfit → Result Y Misfit → Type 0
Reads view (Ok x) read = read ≡ Ok (view x)
Reads view (Err (misfit.Bad path rule)) read = read ≡ Err (misfit.Bad path rule)
Reads view (Err (misfit.Limit name)) read = read ≡ Err (misfit.Limit name)
Reads view (Err misfit.OutOfMemory) read = Unit {0}

-- the value that is read breaks a rule
abbrev pub bad : {A : Type 0} → Rule → Result A Misfit
bad rule = Err (misfit.Bad [] rule)

abbrev pub over : {A : Type 0} → LimitName → Result A Misfit
over name = Err (misfit.Limit name)

-- what passes a test, and nothing else
abbrev pub if_so : {A : Type 0} → Rule → (A → Bool) → A → Result A Misfit
if_so rule test a = if test a then Ok a else bad rule

-- what there is, and nothing else
abbrev pub some_or : {A : Type 0} → Rule → Option A → Result A Misfit
some_or rule None = bad rule
some_or rule (Some a) = Ok a

-- ---- places

-- whether a place is the value itself, or begins with a place in a list
abbrev pub is_no_member : List ℕ → Bool
is_no_member [] = true
is_no_member (b ∷ _) = b == 0x5B

-- the place of what stands in a member
abbrev pub at_member : List ℕ → List ℕ → List ℕ
at_member key path = if is_no_member path then key ++ path else key ++ (codes "." ++ path)

-- the place of what stands in the k-th value of a list
abbrev pub at_place : ℕ → List ℕ → List ℕ
at_place k path =
    if is_no_member path then codes "[" ++ (decimal k ++ (codes "]" ++ path)) else codes "[" ++ (decimal k ++ (codes "]." ++ path))

-- a misfit seen from outside
abbrev pub beneath : (List ℕ → List ℕ) → Misfit → Misfit
beneath lead (misfit.Bad path rule) = misfit.Bad (lead path) rule
beneath lead (misfit.Limit name) = misfit.Limit name
beneath lead misfit.OutOfMemory = misfit.OutOfMemory

-- what was read of a value inside, seen from outside
abbrev pub within : {A : Type 0} → (List ℕ → List ℕ) → Result A Misfit → Result A Misfit
within lead (Ok a) = Ok a
within lead (Err m) = Err (beneath lead m)
