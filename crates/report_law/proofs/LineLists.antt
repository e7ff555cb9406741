-- Lists of lines. Each line tells what it spells and where it ends, and begins with the first letter of its kind, so
-- that the lines of one kind end where a line of another kind begins.
use Rattle.std.specs.Prelude.{◌≡◌, ◌==◌, ℕ, Bool, false, List, [], ◌∷◌, ◌++◌, refl, IsTrue}
use Rattle.std.proofs.Common.{sym, ap, ◌∙◌, subst}
use Rattle.std.specs.List.{AllByRecursion, list_all}
use Rattle.std.proofs.lemmas.Bool.{true≢false, and_parts, eqb-true}
use Rattle.std.proofs.lemmas.List.{append_assoc}
use Rattle.session_law.specs.Joining.{lines_text}
use Rattle.report_law.proofs.Telling.{Any, Ends, Same, Tells}

-- whether a text begins with a letter
abbrev pub starts : ℕ → List ℕ → Bool
starts letter [] = false
starts letter (b ∷ bs) = b == letter

-- a text that begins with a letter doesn't end the lines of that letter
pub starts_no_end : (letter : ℕ) (line lines u v : List ℕ) → IsTrue (starts letter line) → Ends (λ b. b == letter) u → u ≡ (line ++ lines) ++ v → ⊥
starts_no_end letter [] lines u v begins ends e = true≢false (sym begins)
starts_no_end letter (b ∷ line) lines [] v begins ends e = absurd cc
starts_no_end letter (b ∷ line) lines (c ∷ u) v begins ends e = true≢false (sym begins ∙ (ap (λ l. starts letter l) (sym e) ∙ ends))

-- a text that begins with a letter ends the lines of every other letter
pub other_ends : (letter other : ℕ) (line u : List ℕ) → IsTrue (starts other line) → (other == letter) ≡ false → Ends (λ b. b == letter) (line ++ u)
other_ends letter other [] u begins apart = absurd (true≢false (sym begins))
other_ends letter other (b ∷ line) u begins apart = ap (λ c. c == letter) (eqb-true b other begins) ∙ apart

-- the first of some lines, and those behind it
pub line_told : {A : Type 0} {Good : A → Type 0} {line : A → List ℕ} → Tells Good line Same Any → (x y : A) (more rest u v : List ℕ) → Good x → Good y
    → (line x ++ more) ++ u ≡ (line y ++ rest) ++ v → (x ≡ y) × (more ++ u ≡ rest ++ v)
line_told {line = line} one x y more rest u v gx gy e =
    one.told x y (more ++ u) (rest ++ v) gx gy tt tt (sym (append_assoc (line x) more u) ∙ (e ∙ append_assoc (line y) rest v))

module _ {A : Type 0} {Good : A → Type 0} {line : A → List ℕ} (letter : ℕ) (begins : (a : A) → IsTrue (starts letter (line a))) (one : Tells Good line Same Any) where
  lines_told : (xs ys : List A) (u v : List ℕ) → AllByRecursion Good xs → AllByRecursion Good ys → Ends (λ b. b == letter) u → Ends (λ b. b == letter) v
      → lines_text line xs ++ u ≡ lines_text line ys ++ v → (xs ≡ ys) × (u ≡ v)
  lines_told [] [] u v gx gy eu ev e = (refl, e)
  lines_told [] (y ∷ ys) u v gx gy eu ev e = absurd (starts_no_end letter (line y) _ u v (begins y) eu e)
  lines_told (x ∷ xs) [] u v gx gy eu ev e = absurd (starts_no_end letter (line x) _ v u (begins x) ev (sym e))
  lines_told (x ∷ xs) (y ∷ ys) u v gx gy eu ev e =
      let first = line_told one x y _ _ u v gx.0 gy.0 e in
      let rest = lines_told xs ys u v gx.1 gy.1 eu ev first.1 in
      ((λ i. first.0 i ∷ rest.0 i), rest.1)

  -- the lines of one kind tell the list, up to where no such line follows
  pub lines_tell : Tells (AllByRecursion Good) (lines_text line) Same (Ends (λ b. b == letter))
  lines_tell = record { told = lines_told }

-- lines of one letter, and then what ends the lines of another, end those of that other
pub lines_end : {A : Type 0} (line : A → List ℕ) (letter other : ℕ) → ((a : A) → IsTrue (starts letter (line a))) → (letter == other) ≡ false
    → (xs : List A) (rest : List ℕ) → Ends (λ b. b == other) rest → Ends (λ b. b == other) (lines_text line xs ++ rest)
lines_end line letter other begins apart [] rest ends = ends
lines_end line letter other begins apart (x ∷ xs) rest ends =
    subst (Ends (λ b. b == other)) (sym (append_assoc (line x) _ rest)) (other_ends other letter (line x) _ (begins x) apart)

-- items that pass a test and have a property have both
pub both_of : {A : Type 0} (p : A → Bool) (P : A → Type 0) (xs : List A) → IsTrue (list_all p xs) → AllByRecursion P xs → AllByRecursion (λ x. IsTrue (p x) × P x) xs
both_of p P [] all each = tt
both_of p P (x ∷ xs) all each = let parts = and_parts _ _ all in ((parts.0, each.0), both_of p P xs parts.1 each.1)
