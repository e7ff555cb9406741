-- What is collected of a script's steps, where each item carries the numbers of its step: a step's own items are found by
-- its numbers, and the items stand in the order of the steps.
use Rattle.std.specs.Prelude.{◌≡◌, ℕ, suc, ◌+◌, ◌<◌, Bool, true, false, List, [], ◌∷◌, ◌++◌, count_by, filter, flat_map, length, Some, option_and_then, slice_get, refl}
use Rattle.std.proofs.Common.{sym, ◌∙◌, ap, append-nil, arith}
use Rattle.std.specs.List.{AllByRecursion}
use Rattle.std.proofs.lemmas.Bool.{and_from, and_parts, cond-false, cond-true}
use Rattle.std.proofs.lemmas.Bool.Decides.{nat_tests}
use Rattle.std.proofs.lemmas.List.Elements.{filter-append}
use Rattle.std.proofs.lemmas.List.Sums.{length-filter}
use Rattle.scripts.specs.declared.steps.Step.{Step}
use Rattle.scripts.specs.declared.whole_script.Script.{Script}
use Rattle.session_law.specs.Collected.{collected}
use Rattle.session_law.specs.Histories.{step_at}
use Rattle.session_law.specs.Lawful.{is_before, is_rising, rises_from}
use Rattle.session_law.specs.ScriptSteps.{NumberedStep, clients_from, is_at, numbered_from, numbered_steps}

-- ---- what holds of all

all_append : {A : Type 0} (P : A → Type 0) (xs ys : List A) → AllByRecursion P xs → AllByRecursion P ys → AllByRecursion P (xs ++ ys)
all_append P [] ys all more = more
all_append P (a ∷ xs) ys all more = (all.0, all_append P xs ys all.1 more)

all_by : {A : Type 0} (P Q : A → Type 0) → ((a : A) → P a → Q a) → (xs : List A) → AllByRecursion P xs → AllByRecursion Q xs
all_by P Q f [] all = tt
all_by P Q f (a ∷ xs) all = (f a all.0, all_by P Q f xs all.1)

all_of_both : {A : Type 0} (P Q R : A → Type 0) → ((a : A) → P a → Q a → R a) → (xs : List A) → AllByRecursion P xs → AllByRecursion Q xs → AllByRecursion R xs
all_of_both P Q R f [] all more = tt
all_of_both P Q R f (a ∷ xs) all more = (f a all.0 more.0, all_of_both P Q R f xs all.1 more.1)

all_flat : {A B : Type 0} (P : A → Type 0) (Q : B → Type 0) (items : A → List B) → ((a : A) → P a → AllByRecursion Q (items a)) → (xs : List A)
    → AllByRecursion P xs → AllByRecursion Q (flat_map items xs)
all_flat P Q items f [] all = tt
all_flat P Q items f (a ∷ xs) all = all_append Q (items a) (flat_map items xs) (f a all.0) (all_flat P Q items f xs all.1)

-- ---- the numbers of a script's steps

abbrev StandsIn : Script → NumberedStep → Type 0
StandsIn script s = step_at script s.client s.number ≡ Some s.step

-- the steps of one client, from one of them on
client_stands : (script : Script) (client number : ℕ) (steps : List Step)
    → ((n m : ℕ) (s : Step) → n + number ≡ m → slice_get steps n ≡ Some s → step_at script client m ≡ Some s)
    → AllByRecursion (StandsIn script) (numbered_from client number steps)
client_stands script client number [] h = tt
client_stands script client number (s ∷ steps) h =
    (h 0 number s (omega arith) refl, client_stands script client (number + 1) steps (λ n m s l e. h (suc n) m s (omega arith) e))

step_of_client : (script : Script) (client n : ℕ) (steps : List Step) (s : Step) → slice_get script.clients client ≡ Some steps → slice_get steps n ≡ Some s
    → step_at script client n ≡ Some s
step_of_client script client n steps s e f = ap (option_and_then (λ steps. slice_get steps n)) e ∙ f

clients_stand : (script : Script) (client : ℕ) (clients : List (List Step))
    → ((n m : ℕ) (steps : List Step) → n + client ≡ m → slice_get clients n ≡ Some steps → slice_get script.clients m ≡ Some steps)
    → AllByRecursion (StandsIn script) (clients_from client clients)
clients_stand script client [] h = tt
clients_stand script client (steps ∷ clients) h =
    all_append (StandsIn script) (numbered_from client 0 steps) (clients_from (client + 1) clients)
    (client_stands script client 0 steps (λ n m s l e. let same : m ≡ n = omega arith in
    step_of_client script client m steps s (h 0 client steps (omega arith) refl) (ap (slice_get steps) same ∙ e)))
    (clients_stand script (client + 1) clients (λ n m steps l e. h (suc n) m steps (omega arith) e))

pub numbered_at : (script : Script) → AllByRecursion (λ s. step_at script s.client s.number ≡ Some s.step) (numbered_steps script)
numbered_at script = clients_stand script 0 script.clients (λ n m steps l e. let same : m ≡ n = omega arith in ap (slice_get script.clients) same ∙ e)

pub collected_all : {A : Type 0} (script : Script) (items : NumberedStep → List A) (P : A → Type 0)
    → ((s : NumberedStep) → step_at script s.client s.number ≡ Some s.step → AllByRecursion P (items s)) → AllByRecursion P (collected script items)
collected_all script items P f = all_flat (StandsIn script) P items f (numbered_steps script) (numbered_at script)

-- ---- their order

abbrev Precedes : NumberedStep → NumberedStep → Type 0
Precedes a b = is_before a.client a.number b.client b.number ≡ true

-- each step stands before each later one
abbrev AreOrdered : List NumberedStep → Type 0
AreOrdered [] = Unit {0}
AreOrdered (s ∷ more) = AllByRecursion (Precedes s) more × AreOrdered more

before_later : (client number next : ℕ) → number < next → is_before client number client next ≡ true
before_later client number next l = grind (arith, nat_tests)

before_other : (client number other next : ℕ) → client < other → is_before client number other next ≡ true
before_other client number other next l = grind (arith, nat_tests)

later_steps : (s : NumberedStep) (number : ℕ) (steps : List Step) → s.number < number → AllByRecursion (Precedes s) (numbered_from s.client number steps)
later_steps s number [] l = tt
later_steps s number (step ∷ steps) l = (before_later s.client s.number number l, later_steps s (number + 1) steps (omega arith))

steps_of_other : (s : NumberedStep) (client number : ℕ) (steps : List Step) → s.client < client → AllByRecursion (Precedes s) (numbered_from client number steps)
steps_of_other s client number [] l = tt
steps_of_other s client number (step ∷ steps) l = (before_other s.client s.number client number l, steps_of_other s client (number + 1) steps l)

later_clients : (s : NumberedStep) (client : ℕ) (clients : List (List Step)) → s.client < client → AllByRecursion (Precedes s) (clients_from client clients)
later_clients s client [] l = tt
later_clients s client (steps ∷ clients) l =
    all_append (Precedes s) (numbered_from client 0 steps) (clients_from (client + 1) clients)
    (steps_of_other s client 0 steps l) (later_clients s (client + 1) clients (omega arith))

ordered_client : (client number : ℕ) (steps : List Step) (clients : List (List Step)) → AreOrdered (clients_from (client + 1) clients)
    → AreOrdered (numbered_from client number steps ++ clients_from (client + 1) clients)
ordered_client client number [] clients more = more
ordered_client client number (step ∷ steps) clients more =
    let s : NumberedStep = record { client = client; number = number; step = step } in (
      all_append (Precedes s) (numbered_from client (number + 1) steps) (clients_from (client + 1) clients)
          (later_steps s (number + 1) steps (omega arith)) (later_clients s (client + 1) clients (omega arith)),
      ordered_client client (number + 1) steps clients more,
    )

ordered_from : (client : ℕ) (clients : List (List Step)) → AreOrdered (clients_from client clients)
ordered_from client [] = tt
ordered_from client (steps ∷ clients) = ordered_client client 0 steps clients (ordered_from (client + 1) clients)

-- ---- items that carry the numbers of their steps

abbrev IsOf : {A : Type 0} → (A → ℕ) → (A → ℕ) → NumberedStep → A → Type 0
IsOf client_of step_of s a = (client_of a ≡ s.client) × (step_of a ≡ s.number)

abbrev pub Carries : {A : Type 0} → (A → ℕ) → (A → ℕ) → (NumberedStep → List A) → Type 0
Carries {A} client_of step_of items = (s : NumberedStep) → AllByRecursion (λ a. (client_of a ≡ s.client) × (step_of a ≡ s.number)) (items s)

-- whether an item carries the numbers of a step
abbrev carries : {A : Type 0} → (A → ℕ) → (A → ℕ) → NumberedStep → A → Bool
carries client_of step_of s a = is_at s.client s.number (client_of a) (step_of a)

at_own : (client step its_client its_step : ℕ) → its_client ≡ client → its_step ≡ step → is_at client step its_client its_step ≡ true
at_own client step its_client its_step e f = grind (arith, nat_tests)

not_at : (client step other later : ℕ) → is_before client step other later ≡ true → is_at client step other later ≡ false
not_at client step other later p = grind (arith, nat_tests)

not_back : (client step other later : ℕ) → is_before client step other later ≡ true → is_at other later client step ≡ false
not_back client step other later p = grind (arith, nat_tests)

-- ---- the items of one step

filter_all : {A : Type 0} (p : A → Bool) (xs : List A) → AllByRecursion (λ a. p a ≡ true) xs → filter p xs ≡ xs
filter_all p [] all = refl
filter_all p (a ∷ xs) all = cond-true (p a) (a ∷ filter p xs) (filter p xs) all.0 ∙ ap (λ more. a ∷ more) (filter_all p xs all.1)

filter_none : {A : Type 0} (p : A → Bool) (xs : List A) → AllByRecursion (λ a. p a ≡ false) xs → filter p xs ≡ []
filter_none p [] all = refl
filter_none p (a ∷ xs) all = cond-false (p a) (a ∷ filter p xs) (filter p xs) all.0 ∙ filter_none p xs all.1

-- an item of a step is no item of an earlier or a later one
not_of_later : {A : Type 0} (client_of step_of : A → ℕ) (s t : NumberedStep) → Precedes s t → (a : A) → IsOf client_of step_of s a → carries client_of step_of t a ≡ false
not_of_later client_of step_of s t p a e = (λ i. is_at t.client t.number (e.0 i) (e.1 i)) ∙ not_back s.client s.number t.client t.number p

not_of_earlier : {A : Type 0} (client_of step_of : A → ℕ) (s t : NumberedStep) → Precedes s t → (a : A) → IsOf client_of step_of t a → carries client_of step_of s a ≡ false
not_of_earlier client_of step_of s t p a e = (λ i. is_at s.client s.number (e.0 i) (e.1 i)) ∙ not_at s.client s.number t.client t.number p

-- among its own items and those of later steps
first_found : {A : Type 0} (client_of step_of : A → ℕ) (items : NumberedStep → List A) → Carries client_of step_of items → (s : NumberedStep) (more : List NumberedStep)
    → AllByRecursion (Precedes s) more → filter (carries client_of step_of s) (items s ++ flat_map items more) ≡ items s
first_found client_of step_of items c s more all =
    let is_own = carries client_of step_of s in
    let own = filter_all is_own (items s) (all_by (IsOf client_of step_of s) (λ a. is_own a ≡ true) (λ a e. at_own s.client s.number (client_of a) (step_of a) e.0 e.1) (items s) (c s)) in
    let none = filter_none is_own (flat_map items more) (all_flat (Precedes s) (λ a. is_own a ≡ false) items
    (λ t p. all_by (IsOf client_of step_of t) (λ a. is_own a ≡ false) (not_of_earlier client_of step_of s t p) (items t) (c t)) more all) in
    filter-append is_own (items s) (flat_map items more) ∙ ((λ i. own i ++ none i) ∙ append-nil (items s))

-- behind those of an earlier step
later_found : {A : Type 0} (client_of step_of : A → ℕ) (items : NumberedStep → List A) → Carries client_of step_of items → (s : NumberedStep) (more : List NumberedStep) (t : NumberedStep)
    → Precedes s t → filter (carries client_of step_of t) (flat_map items more) ≡ items t → filter (carries client_of step_of t) (items s ++ flat_map items more) ≡ items t
later_found client_of step_of items c s more t p e =
    let is_own = carries client_of step_of t in
    let none = filter_none is_own (items s) (all_by (IsOf client_of step_of s) (λ a. is_own a ≡ false) (not_of_later client_of step_of s t p) (items s) (c s)) in
    filter-append is_own (items s) (flat_map items more) ∙ (λ i. none i ++ e i)

found_in : {A : Type 0} (client_of step_of : A → ℕ) (items : NumberedStep → List A) → Carries client_of step_of items → (steps : List NumberedStep) → AreOrdered steps
    → AllByRecursion (λ s. filter (carries client_of step_of s) (flat_map items steps) ≡ items s) steps
found_in client_of step_of items c [] o = tt
found_in client_of step_of items c (s ∷ more) o = (
  first_found client_of step_of items c s more o.0,
  all_of_both (Precedes s) (λ t. filter (carries client_of step_of t) (flat_map items more) ≡ items t) (λ t. filter (carries client_of step_of t) (items s ++ flat_map items more) ≡ items t)
      (later_found client_of step_of items c s more) more o.0 (found_in client_of step_of items c more o.1),
)

pub collected_at : {A : Type 0} (script : Script) (client_of step_of : A → ℕ) (items : NumberedStep → List A) → Carries client_of step_of items
    → AllByRecursion (λ s. filter (λ a. is_at s.client s.number (client_of a) (step_of a)) (collected script items) ≡ items s) (numbered_steps script)
collected_at script client_of step_of items c = found_in client_of step_of items c (numbered_steps script) (ordered_from 0 script.clients)

pub collected_count : {A : Type 0} (script : Script) (client_of step_of : A → ℕ) (items : NumberedStep → List A) → Carries client_of step_of items
    → AllByRecursion (λ s. count_by (λ a. is_at s.client s.number (client_of a) (step_of a)) (collected script items) ≡ length (items s)) (numbered_steps script)
collected_count script client_of step_of items c =
    all_by (λ s. filter (carries client_of step_of s) (collected script items) ≡ items s) (λ s. count_by (carries client_of step_of s) (collected script items) ≡ length (items s))
    (λ s e. sym (length-filter (carries client_of step_of s) (collected script items)) ∙ ap length e) (numbered_steps script) (collected_at script client_of step_of items c)

-- ---- the order of the items

-- an item that stands before all of a list
abbrev IsBelow : {A : Type 0} → (A → A → Bool) → List A → A → Type 0
IsBelow is_less ys a = AllByRecursion (λ b. is_less a b ≡ true) ys

rises_append : {A : Type 0} (is_less : A → A → Bool) (a : A) (xs ys : List A) → rises_from is_less a xs ≡ true → is_rising is_less ys ≡ true
    → IsBelow is_less ys a → AllByRecursion (IsBelow is_less ys) xs → rises_from is_less a (xs ++ ys) ≡ true
rises_append is_less a [] [] p q below all = refl
rises_append is_less a [] (b ∷ ys) p q below all = and_from (is_less a b) (rises_from is_less b ys) below.0 q
rises_append is_less a (next ∷ xs) ys p q below all =
    let parts = and_parts (is_less a next) (rises_from is_less next xs) p in
    and_from (is_less a next) (rises_from is_less next (xs ++ ys)) parts.0 (rises_append is_less next xs ys parts.1 q all.0 all.1)

rising_append : {A : Type 0} (is_less : A → A → Bool) (xs ys : List A) → is_rising is_less xs ≡ true → is_rising is_less ys ≡ true
    → AllByRecursion (IsBelow is_less ys) xs → is_rising is_less (xs ++ ys) ≡ true
rising_append is_less [] ys p q all = q
rising_append is_less (a ∷ xs) ys p q all = rises_append is_less a xs ys p q all.0 all.1

-- the items of an earlier step stand before those of a later one
abbrev Follows : {A : Type 0} → (A → ℕ) → (A → ℕ) → (A → A → Bool) → Type 0
Follows {A} client_of step_of is_less = (a b : A) → is_before (client_of a) (step_of a) (client_of b) (step_of b) ≡ true → is_less a b ≡ true

item_below : {A : Type 0} (client_of step_of : A → ℕ) (items : NumberedStep → List A) (is_less : A → A → Bool) → Carries client_of step_of items → Follows client_of step_of is_less
    → (s : NumberedStep) (more : List NumberedStep) → AllByRecursion (Precedes s) more → (a : A) → IsOf client_of step_of s a → IsBelow is_less (flat_map items more) a
item_below client_of step_of items is_less c f s more all a e =
    all_flat (Precedes s) (λ b. is_less a b ≡ true) items
    (λ t p. all_by (IsOf client_of step_of t) (λ b. is_less a b ≡ true) (λ b g. f a b ((λ i. is_before (e.0 i) (e.1 i) (g.0 i) (g.1 i)) ∙ p)) (items t) (c t)) more all

rising_in : {A : Type 0} (client_of step_of : A → ℕ) (items : NumberedStep → List A) (is_less : A → A → Bool) → Carries client_of step_of items → Follows client_of step_of is_less
    → ((s : NumberedStep) → is_rising is_less (items s) ≡ true) → (steps : List NumberedStep) → AreOrdered steps → is_rising is_less (flat_map items steps) ≡ true
rising_in client_of step_of items is_less c f r [] o = refl
rising_in client_of step_of items is_less c f r (s ∷ more) o =
    rising_append is_less (items s) (flat_map items more) (r s) (rising_in client_of step_of items is_less c f r more o.1)
    (all_by (IsOf client_of step_of s) (IsBelow is_less (flat_map items more)) (item_below client_of step_of items is_less c f s more o.0) (items s) (c s))

pub collected_rise : {A : Type 0} (script : Script) (client_of step_of : A → ℕ) (items : NumberedStep → List A) (is_less : A → A → Bool) → Carries client_of step_of items
    → ((a b : A) → is_before (client_of a) (step_of a) (client_of b) (step_of b) ≡ true → is_less a b ≡ true)
    → ((s : NumberedStep) → is_rising is_less (items s) ≡ true) → is_rising is_less (collected script items) ≡ true
collected_rise script client_of step_of items is_less c f r = rising_in client_of step_of items is_less c f r (numbered_steps script) (ordered_from 0 script.clients)
