-- A joined list tells its items: each is a run of one byte or more without commas and begins with no dash, so that the
-- commas part them, and an empty list is told from every other.
use Rattle.std.specs.Prelude.{◌≡◌, ℕ, Bool, true, List, [], ◌∷◌, ◌++◌, refl, IsTrue}
use Rattle.std.proofs.Common.{sym, ap, ◌∙◌}
use Rattle.std.specs.List.{AllByRecursion, list_all}
use Rattle.std.proofs.lemmas.Bool.{true≢false, and_parts}
use Rattle.std.proofs.lemmas.List.{append_assoc}
use Rattle.scripts.specs.Names.{is_name}
use Rattle.executors.specs.SettingTasks.{is_key}
use Rattle.report_law.specs.Bounds.{IsWord}
use Rattle.report_law.specs.GoodForm.{is_index_name}
use Rattle.session_law.specs.Joining.{list_text, more_text, names_text, numbers_text}
use Rattle.report_law.proofs.Runs.{decimal_inner, decimal_no_dash, head_is, index_name_bytes, index_name_no_dash, is_inner, is_listed, is_listed_kind, is_no_dash, key_bytes, key_no_dash, name_bytes, name_no_dash, no_dash_append, no_dash_stays, run_told, tail_is}
use Rattle.report_law.proofs.Telling.{Ends, Same, Tells, ends_narrower, part}
use Rattle.std.proofs.lemmas.Fmt.{decimal_injective}

-- what the items of a joined list are
pub record AreItems {A : Type 0} (Good : A → Type 0) (text : A → List ℕ) : Type 0 where
  pub bytes : (a : A) → Good a → IsTrue (list_all is_inner (text a))
  pub starts : (a : A) → Good a → IsTrue (is_no_dash (text a))
  pub fixes : (a b : A) → Good a → Good b → text a ≡ text b → a ≡ b

listed_inner : (b : ℕ) → is_inner b ≡ true → is_listed b ≡ true
listed_inner = is_listed_kind is_inner refl refl

comma_stays : (u : List ℕ) (rest : List ℕ) → Ends is_listed u → u ≡ 44 ∷ rest → ⊥
comma_stays [] rest ends e = absurd cc
comma_stays (b ∷ u) rest ends e = true≢false (ap is_listed (sym (head_is b 44 u rest e)) ∙ ends)

module _ {A : Type 0} {Good : A → Type 0} {text : A → List ℕ} (items : AreItems Good text) where
  more_ends : (xs : List A) (u : List ℕ) → Ends is_listed u → Ends is_inner (more_text text xs ++ u)
  more_ends [] u ends = ends_narrower is_inner is_listed listed_inner u ends
  more_ends (x ∷ xs) u ends = refl

  -- an item and those behind it
  item_told : (x y : A) (more rest u v : List ℕ) → Good x → Good y → Ends is_inner (more ++ u) → Ends is_inner (rest ++ v)
      → (text x ++ more) ++ u ≡ (text y ++ rest) ++ v → (x ≡ y) × (more ++ u ≡ rest ++ v)
  item_told x y more rest u v gx gy eu ev e =
      let one = run_told is_inner (text x) (text y) (more ++ u) (rest ++ v) (items.bytes x gx) (items.bytes y gy) eu ev
      (sym (append_assoc (text x) more u) ∙ (e ∙ append_assoc (text y) rest v)) in
      (items.fixes x y gx gy one.0, one.1)

  more_told : (xs ys : List A) (u v : List ℕ) → AllByRecursion Good xs → AllByRecursion Good ys → Ends is_listed u → Ends is_listed v
      → more_text text xs ++ u ≡ more_text text ys ++ v → (xs ≡ ys) × (u ≡ v)
  more_told [] [] u v gx gy eu ev e = (refl, e)
  more_told [] (y ∷ ys) u v gx gy eu ev e = absurd (comma_stays u _ eu e)
  more_told (x ∷ xs) [] u v gx gy eu ev e = absurd (comma_stays v _ ev (sym e))
  more_told (x ∷ xs) (y ∷ ys) u v gx gy eu ev e =
      let one = item_told x y (more_text text xs) (more_text text ys) u v gx.0 gy.0 (more_ends xs u eu) (more_ends ys v ev) (tail_is 44 44 _ _ e) in
      let rest = more_told xs ys u v gx.1 gy.1 eu ev one.1 in
      ((λ i. one.0 i ∷ rest.0 i), rest.1)

  item_stays : (x : A) (more u v : List ℕ) → Good x → (text x ++ more) ++ u ≡ 45 ∷ v → ⊥
  item_stays x more u v gx = no_dash_stays (text x ++ more) u v (no_dash_append (text x) more (items.starts x gx))

  list_told : (xs ys : List A) (u v : List ℕ) → AllByRecursion Good xs → AllByRecursion Good ys → Ends is_listed u → Ends is_listed v
      → list_text text xs ++ u ≡ list_text text ys ++ v → (xs ≡ ys) × (u ≡ v)
  list_told [] [] u v gx gy eu ev e = (refl, tail_is 45 45 _ _ e)
  list_told [] (y ∷ ys) u v gx gy eu ev e = absurd (item_stays y (more_text text ys) v u gy.0 (sym e))
  list_told (x ∷ xs) [] u v gx gy eu ev e = absurd (item_stays x (more_text text xs) u v gx.0 e)
  list_told (x ∷ xs) (y ∷ ys) u v gx gy eu ev e =
      let one = item_told x y (more_text text xs) (more_text text ys) u v gx.0 gy.0 (more_ends xs u eu) (more_ends ys v ev) e in
      let rest = more_told xs ys u v gx.1 gy.1 eu ev one.1 in
      ((λ i. one.0 i ∷ rest.0 i), rest.1)

  pub list_tells : Tells (AllByRecursion Good) (list_text text) Same (Ends is_listed)
  list_tells = record { told = list_told }

-- ---- numbers and names

pub numbers_tell : Tells (AllByRecursion IsWord) numbers_text Same (Ends is_listed)
numbers_tell = list_tells (record {
  bytes = decimal_inner;
  starts = decimal_no_dash;
  fixes = decimal_injective;
})

-- names of a kind, told by a test
all_pass : (p : List ℕ → Bool) (names : List (List ℕ)) → IsTrue (list_all p names) → AllByRecursion (λ name. IsTrue (p name)) names
all_pass p [] all = tt
all_pass p (name ∷ names) all = let parts = and_parts _ _ all in (parts.0, all_pass p names parts.1)

names_told : (p : List ℕ → Bool) → ((name : List ℕ) → IsTrue (p name) → IsTrue (list_all is_inner name)) → ((name : List ℕ) → IsTrue (p name) → IsTrue (is_no_dash name))
    → Tells (λ names. IsTrue (list_all p names)) names_text Same (Ends is_listed)
names_told p bytes starts =
    part (λ names. names) (list_tells (record { bytes = bytes; starts = starts; fixes = λ a b ga gb e. e })) (all_pass p)

pub names_tell : Tells (λ names. IsTrue (list_all is_name names)) names_text Same (Ends is_listed)
names_tell = names_told is_name name_bytes name_no_dash

pub keys_tell : Tells (λ keys. IsTrue (list_all is_key keys)) names_text Same (Ends is_listed)
keys_tell = names_told is_key key_bytes key_no_dash

pub index_names_tell : Tells (λ names. IsTrue (list_all is_index_name names)) names_text Same (Ends is_listed)
index_names_tell = names_told is_index_name index_name_bytes index_name_no_dash
