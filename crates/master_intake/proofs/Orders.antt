-- The queues where something waits, in the order of their first entries: how they follow what waits, and that the one
-- of them that is served next is the one that all that waits shows.
use Rattle.std.proofs.Common.{◌≡◌, ◌≢◌, ◌≤◌, ◌⊎◌, ◌∙◌, ℕ, ◌==◌, ◌||◌, eqb, not, cond, Bool, true, false, List, [], ◌∷◌, ◌++◌, filter, Option, Some, None, IfSome, nat_lt, refl, ap, sym, subst, inl, inr, arith}
use Rattle.std.specs.List.{AllByRecursion}
use Rattle.std.proofs.lemmas.Bool.{false≢true}
use Rattle.std.proofs.lemmas.Bool.Decides.{eqb_tells, nat_tests}
use Rattle.std.proofs.lemmas.Grind.{common_steps}
use Rattle.std.proofs.lemmas.List.Elements.{filter-append}
use Rattle.std.proofs.lemmas.List.{append-nil}
use Rattle.scripts.specs.declared.queues.Priority.{Priority}
use Rattle.master_intake.specs.declared.entries.Waiting.{Waiting}
use Rattle.master_intake.specs.Turns.{is_noted, next_turn, noted, sooner_turn, soonest_turn, turns_of, turns_on}
use Rattle.master_intake.specs.Waitings.{left_by, next_queue, rank_at, sooner, soonest}

-- ---- an entry more

pub turns_on-append : (turns : List ℕ) (all : List Waiting) (last : Waiting) → turns_on turns (all ++ last ∷ []) ≡ noted (turns_on turns all) last.queue
turns_on-append turns [] last = refl
turns_on-append turns (first ∷ more) last = turns_on-append (noted turns first.queue) more last

all_append : (P : ℕ → Type 0) (xs : List ℕ) (x : ℕ) → AllByRecursion P xs → P x → AllByRecursion P (xs ++ x ∷ [])
all_append P [] x all one = (one, tt)
all_append P (first ∷ xs) x all one = (all.0, all_append P xs x all.1 one)

all_if : (P : ℕ → Type 0) (xs : List ℕ) (x : ℕ) (b : Bool) → AllByRecursion P xs → P x → AllByRecursion P (cond b xs (xs ++ x ∷ []))
all_if P xs x true all one = all
all_if P xs x false all one = all_append P xs x all one

pub all_noted : (P : ℕ → Type 0) (turns : List ℕ) (queue : ℕ) → AllByRecursion P turns → P queue → AllByRecursion P (noted turns queue)
all_noted P turns queue all one = all_if P turns queue (is_noted turns queue) all one

-- ---- a queue less

all_keep : (P : ℕ → Type 0) (x : ℕ) (xs : List ℕ) (b : Bool) → P x → AllByRecursion P xs → AllByRecursion P (cond b (x ∷ xs) xs)
all_keep P x xs true one all = (one, all)
all_keep P x xs false one all = all

pub all_filter : (P : ℕ → Type 0) (test : ℕ → Bool) (xs : List ℕ) → AllByRecursion P xs → AllByRecursion P (filter test xs)
all_filter P test [] all = tt
all_filter P test (x ∷ xs) all = all_keep P x (filter test xs) (test x) all.0 (all_filter P test xs all.1)

-- a queue that isn't the one that is taken is noted among the others exactly where it is noted among all
noted_else : (queue x : ℕ) (turns : List ℕ) → (x == queue) ≡ false → is_noted (filter (λ t. not (t == queue)) turns) x ≡ is_noted turns x
noted_else queue x [] apart = refl
noted_else queue x (first ∷ turns) apart = let more = noted_else queue x turns apart in grind (arith, nat_tests, common_steps)

dropped : (queue x : ℕ) (turns : List ℕ) (b : Bool) → (x == queue) ≡ true → filter (λ t. not (t == queue)) (cond b turns (turns ++ x ∷ [])) ≡ filter (λ t. not (t == queue)) turns
dropped queue x turns true same = refl
dropped queue x turns false same = filter-append (λ t. not (t == queue)) turns (x ∷ []) ∙ ap (λ b. filter (λ t. not (t == queue)) turns ++ cond (not b) (x ∷ []) []) same ∙ append-nil (filter (λ t. not (t == queue)) turns)

kept : (queue x : ℕ) (turns : List ℕ) (b : Bool) → (x == queue) ≡ false → cond b (filter (λ t. not (t == queue)) turns) (filter (λ t. not (t == queue)) turns ++ x ∷ []) ≡ filter (λ t. not (t == queue)) (cond b turns (turns ++ x ∷ []))
kept queue x turns true apart = refl
kept queue x turns false apart = sym (filter-append (λ t. not (t == queue)) turns (x ∷ []) ∙ ap (λ b. filter (λ t. not (t == queue)) turns ++ cond (not b) (x ∷ []) []) apart)

noted-filter : (queue x : ℕ) (turns : List ℕ) → (x == queue) ≡ false → noted (filter (λ t. not (t == queue)) turns) x ≡ filter (λ t. not (t == queue)) (noted turns x)
noted-filter queue x turns apart =
    ap (λ b. cond b (filter (λ t. not (t == queue)) turns) (filter (λ t. not (t == queue)) turns ++ x ∷ [])) (noted_else queue x turns apart)
    ∙ kept queue x turns (is_noted turns x) apart

by_first : (queue : ℕ) (turns : List ℕ) (first : Waiting) (more : List Waiting) (b : Bool) → ((before : List ℕ) → turns_on (filter (λ t. not (t == queue)) before) (left_by queue more) ≡ filter (λ t. not (t == queue)) (turns_on before more)) → (first.queue == queue) ≡ b → turns_on (filter (λ t. not (t == queue)) turns) (cond (not b) (first ∷ left_by queue more) (left_by queue more)) ≡ filter (λ t. not (t == queue)) (turns_on (noted turns first.queue) more)
by_first queue turns first more true rest same =
    ap (λ t. turns_on t (left_by queue more)) (sym (dropped queue first.queue turns (is_noted turns first.queue) same))
    ∙ rest (noted turns first.queue)
by_first queue turns first more false rest apart =
    ap (λ t. turns_on t (left_by queue more)) (noted-filter queue first.queue turns apart)
    ∙ rest (noted turns first.queue)

pub turns_on-left_by : (queue : ℕ) (turns : List ℕ) (all : List Waiting) → turns_on (filter (λ t. not (t == queue)) turns) (left_by queue all) ≡ filter (λ t. not (t == queue)) (turns_on turns all)
turns_on-left_by queue turns [] = refl
turns_on-left_by queue turns (first ∷ more) = by_first queue turns first more (first.queue == queue) (λ before. turns_on-left_by queue before more) refl

-- ---- the queue that is served next

-- the queue that is served next, of one that stands first so far, if any, and another
abbrev better : List Priority → Option ℕ → ℕ → Option ℕ
better priorities None x = Some x
better priorities (Some a) x = Some (sooner_turn priorities a x)

abbrev best : List Priority → Option ℕ → List ℕ → Option ℕ
best priorities first [] = first
best priorities first (x ∷ xs) = best priorities (better priorities first x) xs

abbrev best_on : List Priority → Option ℕ → List Waiting → Option ℕ
best_on priorities first [] = first
best_on priorities first (x ∷ xs) = best_on priorities (better priorities first x.queue) xs

soonest_best : (p : List Priority) (a : ℕ) (xs : List ℕ) → Some (soonest_turn p a xs) ≡ best p (Some a) xs
soonest_best p a [] = refl
soonest_best p a (x ∷ xs) = soonest_best p (sooner_turn p a x) xs

next_best : (p : List Priority) (xs : List ℕ) → next_turn p xs ≡ best p None xs
next_best p [] = refl
next_best p (x ∷ xs) = soonest_best p x xs

queue_if : (b : Bool) (first next : Waiting) → (cond b next first).queue ≡ cond b next.queue first.queue
queue_if true first next = refl
queue_if false first next = refl

soonest_best_on : (p : List Priority) (a : Waiting) (xs : List Waiting) → Some (soonest p a xs).queue ≡ best_on p (Some a.queue) xs
soonest_best_on p a [] = refl
soonest_best_on p a (x ∷ xs) =
    soonest_best_on p (sooner p a x) xs
    ∙ ap (λ q. best_on p (Some q) xs) (queue_if (nat_lt (rank_at p x.queue) (rank_at p a.queue)) a x)

next_best_on : (p : List Priority) (xs : List Waiting) → next_queue p xs ≡ best_on p None xs
next_best_on p [] = refl
next_best_on p (x ∷ xs) = soonest_best_on p x xs

best-append : (p : List Priority) (s : Option ℕ) (xs : List ℕ) (x : ℕ) → best p s (xs ++ x ∷ []) ≡ better p (best p s xs) x
best-append p s [] x = refl
best-append p s (first ∷ xs) x = best-append p (better p s first) xs x

-- the queue that stands first is at least as urgent as another
abbrev IsAhead : List Priority → Option ℕ → ℕ → Type 0
IsAhead p None x = ⊥
IsAhead p (Some a) x = rank_at p a ≤ rank_at p x

not_sooner : (p : List Priority) (a x : ℕ) → rank_at p a ≤ rank_at p x → sooner_turn p a x ≡ a
not_sooner p a x ahead = grind (arith, nat_tests, common_steps)

ahead_keeps : (p : List Priority) (s : Option ℕ) (x : ℕ) → IsAhead p s x → better p s x ≡ s
ahead_keeps p None x ahead = absurd ahead
ahead_keeps p (Some a) x ahead = ap (λ q. Some q) (not_sooner p a x ahead)

ahead_own : (p : List Priority) (s : Option ℕ) (x : ℕ) → IsAhead p (better p s x) x
ahead_own p None x = omega arith
ahead_own p (Some a) x = grind (arith, nat_tests, common_steps)

ahead_step : (p : List Priority) (s : Option ℕ) (x y : ℕ) → IsAhead p s x → IsAhead p (better p s y) x
ahead_step p None x y ahead = absurd ahead
ahead_step p (Some a) x y ahead = grind (arith, nat_tests, common_steps)

ahead_best : (p : List Priority) (s : Option ℕ) (x : ℕ) (ys : List ℕ) → IsAhead p s x → IsAhead p (best p s ys) x
ahead_best p s x [] ahead = ahead
ahead_best p s x (y ∷ ys) ahead = ahead_best p (better p s y) x ys (ahead_step p s x y ahead)

either : (a b : ℕ) → ((eqb a b ≡ true) × (a ≡ b)) ⊎ ((eqb a b ≡ false) × (a ≢ b)) → (a ≡ b) ⊎ (eqb a b ≡ false)
either a b (inl told) = inl told.1
either a b (inr told) = inr told.0

ahead_first : (p : List Priority) (s : Option ℕ) (x y : ℕ) (ys : List ℕ) → (is_noted ys x ≡ true → IsAhead p (best p (better p s y) ys) x) → is_noted (y ∷ ys) x ≡ true → (y ≡ x) ⊎ (eqb y x ≡ false) → IsAhead p (best p (better p s y) ys) x
ahead_first p s x y ys rest told (inl same) = ahead_best p (better p s y) x ys (subst (λ (n : ℕ). IsAhead p (better p s y) n) same (ahead_own p s y))
ahead_first p s x y ys rest told (inr apart) = rest (ap (λ b. b || is_noted ys x) (sym apart) ∙ told)

ahead_noted : (p : List Priority) (s : Option ℕ) (x : ℕ) (ys : List ℕ) → is_noted ys x ≡ true → IsAhead p (best p s ys) x
ahead_noted p s x [] told = absurd (false≢true told)
ahead_noted p s x (y ∷ ys) told = ahead_first p s x y ys (ahead_noted p (better p s y) x ys) told (either y x (eqb_tells y x))

best_if : (p : List Priority) (turns : List ℕ) (x : ℕ) (b : Bool) → is_noted turns x ≡ b → best p None (cond b turns (turns ++ x ∷ [])) ≡ better p (best p None turns) x
best_if p turns x true told = sym (ahead_keeps p (best p None turns) x (ahead_noted p None x turns told))
best_if p turns x false told = best-append p None turns x

best_turns : (p : List Priority) (turns : List ℕ) (all : List Waiting) → best p None (turns_on turns all) ≡ best_on p (best p None turns) all
best_turns p turns [] = refl
best_turns p turns (first ∷ more) =
    best_turns p (noted turns first.queue) more
    ∙ ap (λ s. best_on p s more) (best_if p turns first.queue (is_noted turns first.queue) refl)

-- what stands first of the queues where something waits is what stands first of all that waits
pub next_turn-turns_of : (p : List Priority) (all : List Waiting) → next_turn p (turns_of all) ≡ next_queue p all
next_turn-turns_of p all = next_best p (turns_of all) ∙ best_turns p [] all ∙ sym (next_best_on p all)

either_if : (P : ℕ → Type 0) (b : Bool) (x y : ℕ) → P x → P y → P (cond b x y)
either_if P true x y one other = one
either_if P false x y one other = other

soonest_known : (P : ℕ → Type 0) (p : List Priority) (a : ℕ) (xs : List ℕ) → P a → AllByRecursion P xs → P (soonest_turn p a xs)
soonest_known P p a [] one all = one
soonest_known P p a (x ∷ xs) one all = soonest_known P p (sooner_turn p a x) xs (either_if P (nat_lt (rank_at p x) (rank_at p a)) x a all.0 one) all.1

pub next_known : (P : ℕ → Type 0) (p : List Priority) (turns : List ℕ) → AllByRecursion P turns → IfSome (next_turn p turns) P
next_known P p [] all = tt
next_known P p (x ∷ xs) all = soonest_known P p x xs all.0 all.1
