-- What a text tells of the thing that it spells: where two texts agree, whatever follows them, the things agree and so
-- does what follows. A text of several parts tells what its parts tell.
use Rattle.std.specs.Prelude.{◌≡◌, ℕ, Bool, true, false, ◌==◌, List, [], ◌∷◌, ◌++◌, refl}
use Rattle.std.proofs.Common.{sym, ap, cond, subst, ◌∙◌}
use Rattle.std.proofs.lemmas.Bool.{true≢false, eq-eqb}
use Rattle.std.proofs.lemmas.List.{append_assoc, append_cancel_left}

-- two good things agree where their texts do, with what follows them; and then what follows agrees too. What follows
-- begins as it may behind such a text.
pub record Tells {A : Type 0} (Good : A → Type 0) (text : A → List ℕ) (Agree : A → A → Type 0) (Ends : List ℕ → Type 0) : Type 0 where
  pub told : (a b : A) (u v : List ℕ) → Good a → Good b → Ends u → Ends v → text a ++ u ≡ text b ++ v → Agree a b × (u ≡ v)

abbrev pub Same : {A : Type 0} → A → A → Type 0
Same a b = a ≡ b

-- anything may follow
abbrev pub Any : List ℕ → Type 0
Any rest = Unit {0}

-- what follows doesn't begin with a byte of a kind
abbrev pub Ends : (ℕ → Bool) → List ℕ → Type 0
Ends is_of [] = Unit {0}
Ends is_of (b ∷ bs) = is_of b ≡ false

-- what ends a run of one kind ends every run of a narrower kind
pub ends_narrower : (p q : ℕ → Bool) → ((b : ℕ) → p b ≡ true → q b ≡ true) → (u : List ℕ) → Ends q u → Ends p u
ends_narrower p q wider [] ends = tt
ends_narrower p q wider (b ∷ bs) ends = by (p b) refl
  where
    by : (x : Bool) → p b ≡ x → p b ≡ false
    by true e = absurd (true≢false (sym (wider b e) ∙ ends))
    by false e = e

-- whether two texts differ at a byte that both have
abbrev pub differ : List ℕ → List ℕ → Bool
differ (b ∷ bs) (c ∷ cs) = cond (b == c) (differ bs cs) true
differ _ _ = false

differs_not : (bs : List ℕ) → differ bs bs ≡ false
differs_not [] = refl
differs_not (b ∷ bs) = ap (λ x. cond x (differ bs bs) true) (eq-eqb b b refl) ∙ differs_not bs

-- texts that differ at a byte aren't equal
pub apart : (bs cs : List ℕ) → differ bs cs ≡ true → bs ≡ cs → ⊥
apart bs cs other e = true≢false (sym other ∙ (ap (λ l. differ l cs) e ∙ differs_not cs))

-- whether a word begins with a byte of a kind
abbrev pub begins : (ℕ → Bool) → List ℕ → Bool
begins is_of [] = true
begins is_of (b ∷ bs) = is_of b

pub ends_at : (is_of : ℕ → Bool) (word u : List ℕ) → begins is_of word ≡ false → Ends is_of (word ++ u)
ends_at is_of [] u breaks = absurd (true≢false breaks)
ends_at is_of (b ∷ word) u breaks = breaks

module _ {A : Type 0} {Good : A → Type 0} where
  -- a fixed word before a text
  pub word_then : {g : A → List ℕ} {L : A → A → Type 0} {F : List ℕ → Type 0} (word : List ℕ) → Tells Good g L F → Tells Good (λ a. word ++ g a) L F
  word_then {g} word after = record {
    told = λ a b u v p q fu fv e.
        after.told a b u v p q fu fv (append_cancel_left word _ _ (sym (append_assoc word (g a) u) ∙ (e ∙ append_assoc word (g b) v)));
  }

  -- one text behind another
  pub then : {f g : A → List ℕ} {K L : A → A → Type 0} {E F : List ℕ → Type 0}
      → Tells Good f K E → ((a : A) (u : List ℕ) → Good a → F u → E (g a ++ u)) → Tells Good g L F
      → Tells Good (λ a. f a ++ g a) (λ a b. K a b × L a b) F
  then {f} {g} first ends second = record {
    told = λ a b u v p q fu fv e.
        let one = first.told a b (g a ++ u) (g b ++ v) p q (ends a u p fu) (ends b v q fv) (sym (append_assoc (f a) (g a) u) ∙ (e ∙ append_assoc (f b) (g b) v)) in
        let two = second.told a b u v p q fu fv one.1 in
        ((one.0, two.0), two.1);
  }

  -- a run, a fixed word that ends it, and a text
  pub run_then : {f g : A → List ℕ} {K L : A → A → Type 0} {is_of : ℕ → Bool} {F : List ℕ → Type 0} (word : List ℕ)
      → Tells Good f K (Ends is_of) → begins is_of word ≡ false → Tells Good g L F
      → Tells Good (λ a. f a ++ (word ++ g a)) (λ a b. K a b × L a b) F
  run_then {g = g} {is_of = is_of} word first breaks second =
      then first (λ a u p fu. subst (Ends is_of) (sym (append_assoc word (g a) u)) (ends_at is_of word (g a ++ u) breaks)) (word_then word second)

  -- a run and a fixed word that ends it
  pub run_last : {f : A → List ℕ} {K : A → A → Type 0} {is_of : ℕ → Bool} (word : List ℕ)
      → Tells Good f K (Ends is_of) → begins is_of word ≡ false → Tells Good (λ a. f a ++ word) K Any
  run_last {f} {is_of = is_of} word first breaks = record {
    told = λ a b u v p q fu fv e.
        let one = first.told a b (word ++ u) (word ++ v) p q (ends_at is_of word u breaks) (ends_at is_of word v breaks) (sym (append_assoc (f a) word u) ∙ (e ∙ append_assoc (f b) word v)) in
        (one.0, append_cancel_left word _ _ one.1);
  }

  -- a fixed word behind a text
  pub then_word : {f : A → List ℕ} {K : A → A → Type 0} (word : List ℕ) → Tells Good f K Any → Tells Good (λ a. f a ++ word) K Any
  then_word {f} word first = record {
    told = λ a b u v p q eu ev e.
        let one = first.told a b (word ++ u) (word ++ v) p q tt tt (sym (append_assoc (f a) word u) ∙ (e ∙ append_assoc (f b) word v)) in
        (one.0, append_cancel_left word _ _ one.1);
  }

  -- a text, and behind it one that begins with what the first tells
  pub then_by : {B : Type 0} {f : A → List ℕ} {g : B → A → List ℕ} {K L : A → A → Type 0} {E F : List ℕ → Type 0} (key : A → B)
      → Tells Good f K E → ((a b : A) → K a b → key a ≡ key b) → ((a : A) (u : List ℕ) → Good a → F u → E (g (key a) a ++ u)) → ((k : B) → Tells Good (g k) L F)
      → Tells Good (λ a. f a ++ g (key a) a) (λ a b. K a b × L a b) F
  then_by {f = f} {g = g} key first known ends second = record {
    told = λ a b u v p q fu fv e.
        let one = first.told a b (g (key a) a ++ u) (g (key b) b ++ v) p q (ends a u p fu) (ends b v q fv)
        (sym (append_assoc (f a) (g (key a) a) u) ∙ (e ∙ append_assoc (f b) (g (key b) b) v)) in
        let same = subst (λ k. g (key a) a ++ u ≡ g k b ++ v) (sym (known a b one.0)) one.1 in
        let two = (second (key a)).told a b u v p q fu fv same in
        ((one.0, two.0), two.1);
  }

  -- what a text tells, said otherwise
  pub so : {f : A → List ℕ} {K L : A → A → Type 0} {E : List ℕ → Type 0} → Tells Good f K E → ((a b : A) → K a b → L a b) → Tells Good f L E
  so told more = record { told = λ a b u v p q eu ev e. let one = told.told a b u v p q eu ev e in (more a b one.0, one.1) }

  -- what a text tells of good things, said otherwise
  pub so_good : {f : A → List ℕ} {K L : A → A → Type 0} {E : List ℕ → Type 0} → Tells Good f K E → ((a b : A) → Good a → Good b → K a b → L a b) → Tells Good f L E
  so_good told more = record { told = λ a b u v p q eu ev e. let one = told.told a b u v p q eu ev e in (more a b p q one.0, one.1) }

  -- a text that is the same for good things tells as much
  pub same_text : {f g : A → List ℕ} {K : A → A → Type 0} {E : List ℕ → Type 0} → Tells Good f K E → ((a : A) → Good a → g a ≡ f a) → Tells Good g K E
  same_text told is = record {
    told = λ a b u v p q eu ev e. told.told a b u v p q eu ev (ap (λ t. t ++ u) (sym (is a p)) ∙ (e ∙ ap (λ t. t ++ v) (is b q)));
  }

  -- it tells as much where less may follow
  pub before : {f : A → List ℕ} {K : A → A → Type 0} {E F : List ℕ → Type 0} → Tells Good f K E → ((u : List ℕ) → F u → E u) → Tells Good f K F
  before told ends = record { told = λ a b u v p q fu fv e. told.told a b u v p q (ends u fu) (ends v fv) e }

  -- the text of a part tells of the part
  pub part : {B : Type 0} {Fit : B → Type 0} {f : B → List ℕ} {K : B → B → Type 0} {E : List ℕ → Type 0} (of : A → B)
      → Tells Fit f K E → ((a : A) → Good a → Fit (of a)) → Tells Good (λ a. f (of a)) (λ a b. K (of a) (of b)) E
  part of told fit = record { told = λ a b u v p q eu ev e. told.told (of a) (of b) u v (fit a p) (fit b q) eu ev e }

-- a text tells its thing where nothing follows
pub alone : {A : Type 0} {Good : A → Type 0} {text : A → List ℕ} {K : A → A → Type 0} {E : List ℕ → Type 0}
    → Tells Good text K E → E [] → (a b : A) → Good a → Good b → text a ≡ text b → K a b
alone told ends a b ga gb e = (told.told a b [] [] ga gb ends ends (ap (λ l. l ++ []) e)).0
