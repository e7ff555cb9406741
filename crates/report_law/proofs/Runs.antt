-- Runs of bytes of one kind: digits, names, and what stands between spaces, commas and line ends. A run ends where a
-- byte of another kind follows, so that its text tells it.
use Rattle.std.specs.Prelude.{◌≡◌, ◌<◌, ◌==◌, ◌||◌, ◌&&◌, ℕ, Bool, true, false, not, List, [], ◌∷◌, ◌++◌, refl, codes, decimal, get_or, IsTrue, Option, Some, None, is_none, length, nat_lt, bytes_eq, if◌then◌else◌}
use Rattle.std.proofs.Common.{sym, ap, ◌∙◌, arith, drop}
use Rattle.std.specs.Char.{digit_value, is_digit}
use Rattle.std.specs.Str.Parse.{AllDigits}
use Rattle.std.specs.List.{list_all, list_any}
use Rattle.std.proofs.lemmas.Bool.{true≢false, and_parts, or_parts, eqb-true, lt-ltb}
use Rattle.std.specs.Cmp.Derive.{both_true}
use Rattle.std.proofs.lemmas.Grind.{common_steps}
use Rattle.scripts.specs.Names.{is_name, is_name_byte}
use Rattle.executors.specs.Letters.{is_letter_or_digit}
use Rattle.executors.specs.SettingTasks.{is_key, is_key_byte}
use Rattle.meta_state.specs.Names.{name_fault, is_forbidden, is_outside, is_upper, begins_badly}
use Rattle.report_law.specs.GoodForm.{is_index_name}
use Rattle.std.proofs.lemmas.Fmt.{decimal_injective, decimal_nonempty, decimal_is_IsNumeral}
use Rattle.report_law.proofs.Telling.{Tells, Same, Ends, ends_narrower}
use Rattle.report_law.specs.Bounds.{IsWord}

-- ---- runs

pub head_is : (x y : ℕ) (xs ys : List ℕ) → x ∷ xs ≡ y ∷ ys → x ≡ y
head_is x y xs ys e = ap (λ l. get_or l 0 x) e

pub tail_is : (x y : ℕ) (xs ys : List ℕ) → x ∷ xs ≡ y ∷ ys → xs ≡ ys
tail_is x y xs ys e = ap (λ l. drop 1 l) e

-- a byte of a kind doesn't begin what ends a run of the kind
not_within : (p : ℕ → Bool) (y : ℕ) (ys u : List ℕ) → IsTrue (p y) → Ends p u → u ≡ y ∷ ys → ⊥
not_within p y ys [] of ends e = absurd cc
not_within p y ys (b ∷ u) of ends e = true≢false (sym of ∙ (ap p (sym (head_is b y u ys e)) ∙ ends))

pub run_told : (p : ℕ → Bool) (xs ys u v : List ℕ) → IsTrue (list_all p xs) → IsTrue (list_all p ys) → Ends p u → Ends p v
    → xs ++ u ≡ ys ++ v → (xs ≡ ys) × (u ≡ v)
run_told p [] [] u v a b eu ev e = (refl, e)
run_told p [] (y ∷ ys) u v a b eu ev e = absurd (not_within p y (ys ++ v) u (and_parts _ _ b).0 eu e)
run_told p (x ∷ xs) [] u v a b eu ev e = absurd (not_within p x (xs ++ u) v (and_parts _ _ a).0 ev (sym e))
run_told p (x ∷ xs) (y ∷ ys) u v a b eu ev e =
    let first = head_is x y (xs ++ u) (ys ++ v) e in
    let rest = run_told p xs ys u v (and_parts _ _ a).1 (and_parts _ _ b).1 eu ev (tail_is x y (xs ++ u) (ys ++ v) e) in
    ((λ i. first i ∷ rest.0 i), rest.1)

-- a text of one run tells what it alone spells
pub run_tells : {A : Type 0} {Good : A → Type 0} {text : A → List ℕ} (p : ℕ → Bool)
    → ((a : A) → Good a → IsTrue (list_all p (text a))) → ((a b : A) → Good a → Good b → text a ≡ text b → a ≡ b) → Tells Good text Same (Ends p)
run_tells {text = text} p bytes fixes = record {
  told = λ a b u v good fine eu ev e.
      let one = run_told p (text a) (text b) u v (bytes a good) (bytes b fine) eu ev e in
      (fixes a b good fine one.0, one.1);
}

-- ---- kinds of bytes, from the narrowest

abbrev pub is_decimal : ℕ → Bool
is_decimal b = is_digit b 10

-- neither a line end nor a space nor a comma
abbrev pub is_inner : ℕ → Bool
is_inner b = not ((b == 10) || ((b == 32) || (b == 44)))

-- neither a line end nor a space
abbrev pub is_listed : ℕ → Bool
is_listed b = not ((b == 10) || (b == 32))

-- no line end
abbrev pub is_lined : ℕ → Bool
is_lined b = not (b == 10)

-- a kind that lacks a byte
lacks : (p : ℕ → Bool) (c b : ℕ) → p c ≡ false → p b ≡ true → (b == c) ≡ false
lacks p c b without of = by (b == c) refl
  where
    by : (x : Bool) → (b == c) ≡ x → x ≡ false
    by true e = absurd (true≢false (sym of ∙ (ap p (eqb-true b c e) ∙ without)))
    by false e = refl

not_or : {a b : Bool} → a ≡ false → b ≡ false → (a || b) ≡ false
not_or first second = grind (arith, common_steps)

pub is_inner_kind : (p : ℕ → Bool) → p 10 ≡ false → p 32 ≡ false → p 44 ≡ false → (b : ℕ) → p b ≡ true → is_inner b ≡ true
is_inner_kind p line space comma b of = ap not (not_or (lacks p 10 b line of) (not_or (lacks p 32 b space of) (lacks p 44 b comma of)))

pub is_listed_kind : (p : ℕ → Bool) → p 10 ≡ false → p 32 ≡ false → (b : ℕ) → p b ≡ true → is_listed b ≡ true
is_listed_kind p line space b of = ap not (not_or (lacks p 10 b line of) (lacks p 32 b space of))

pub is_lined_kind : (p : ℕ → Bool) → p 10 ≡ false → (b : ℕ) → p b ≡ true → is_lined b ≡ true
is_lined_kind p line b of = ap not (lacks p 10 b line of)

-- a line's end ends each run
pub decimal_line : (u : List ℕ) → Ends is_lined u → Ends is_decimal u
decimal_line = ends_narrower is_decimal is_lined (is_lined_kind is_decimal refl)

pub inner_line : (u : List ℕ) → Ends is_lined u → Ends is_inner u
inner_line = ends_narrower is_inner is_lined (is_lined_kind is_inner refl)

pub listed_line : (u : List ℕ) → Ends is_lined u → Ends is_listed u
listed_line = ends_narrower is_listed is_lined (is_lined_kind is_listed refl)

-- all bytes of a text are of a wider kind too
pub all_wider : (p q : ℕ → Bool) → ((b : ℕ) → p b ≡ true → q b ≡ true) → (xs : List ℕ) → list_all p xs ≡ true → list_all q xs ≡ true
all_wider p q wider [] of = refl
all_wider p q wider (x ∷ xs) of = let parts = and_parts _ _ of in both_true (wider x parts.0) (all_wider p q wider xs parts.1)

pub all_append : (p : ℕ → Bool) (xs ys : List ℕ) → list_all p xs ≡ true → list_all p ys ≡ true → list_all p (xs ++ ys) ≡ true
all_append p [] ys some all = all
all_append p (x ∷ xs) ys some all = let parts = and_parts _ _ some in both_true parts.0 (all_append p xs ys parts.1 all)

-- ---- numbers

digits_are : (xs : List ℕ) → AllDigits 10 xs → list_all is_decimal xs ≡ true
digits_are [] of = refl
digits_are (x ∷ xs) of = both_true (lt-ltb (digit_value x) 10 of.0) (digits_are xs of.1)

pub decimal_bytes : (n : ℕ) → IsWord n → IsTrue (list_all is_decimal (decimal n))
decimal_bytes n word = digits_are (decimal n) (decimal_is_IsNumeral n word).0.1

pub decimal_inner : (n : ℕ) → IsWord n → IsTrue (list_all is_inner (decimal n))
decimal_inner n word = all_wider is_decimal is_inner (is_inner_kind is_decimal refl refl refl) (decimal n) (decimal_bytes n word)

-- a number's digits tell it, up to where no digit follows
pub decimal_tells : Tells IsWord decimal Same (Ends is_decimal)
decimal_tells = run_tells is_decimal decimal_bytes decimal_injective

-- ---- names

pub name_bytes : (name : List ℕ) → IsTrue (is_name name) → IsTrue (list_all is_inner name)
name_bytes name named = all_wider is_name_byte is_inner (is_inner_kind is_name_byte refl refl refl) name (and_parts _ _ (and_parts _ _ named).1).1

pub key_bytes : (key : List ℕ) → IsTrue (is_key key) → IsTrue (list_all is_inner key)
key_bytes key keyed = all_wider is_key_byte is_inner (is_inner_kind is_key_byte refl refl refl) key (and_parts _ _ (and_parts _ _ keyed).1).1

-- what an index name breaks no rule of
pub if_none : {A : Type 0} (b : Bool) (a : A) (rest : Option A) → (if b then Some a else rest) ≡ None → (b ≡ false) × (rest ≡ None)
if_none true a rest e = absurd cc
if_none false a rest e = (refl, e)

no_any : (p : ℕ → Bool) (xs : List ℕ) → list_any p xs ≡ false → list_all (λ b. not (p b)) xs ≡ true
no_any p [] of = refl
no_any p (x ∷ xs) of = let parts = or_parts _ _ of in both_true (ap not parts.0) (no_any p xs parts.1)

is_none_is : (o : Option ℕ) → is_none o ≡ true → o ≡ None
is_none_is None e = refl
is_none_is (Some n) e = absurd cc

both_all : (p q : ℕ → Bool) (xs : List ℕ) → list_all p xs ≡ true → list_all q xs ≡ true → list_all (λ b. p b && q b) xs ≡ true
both_all p q [] a b = refl
both_all p q (x ∷ xs) a b =
    let one = and_parts _ _ a in
    let other = and_parts _ _ b in
    both_true (both_true one.0 other.0) (both_all p q xs one.1 other.1)

abbrev is_allowed : ℕ → Bool
is_allowed b = not (is_forbidden b) && not (is_outside b)

pub index_name_bytes : (name : List ℕ) → IsTrue (is_index_name name) → IsTrue (list_all is_inner name)
index_name_bytes name named =
    let empty = if_none (length name == 0) 1 _ (is_none_is (name_fault name) named) in
    let long = if_none (nat_lt 255 (length name)) 2 _ empty.1 in
    let dots = if_none (bytes_eq name (codes ".") || bytes_eq name (codes "..")) 3 _ long.1 in
    let bad = if_none (begins_badly name) 4 _ dots.1 in
    let forbidden = if_none (list_any is_forbidden name) 5 _ bad.1 in
    let upper = if_none (list_any is_upper name) 6 _ forbidden.1 in
    let outside = if_none (list_any is_outside name) 7 _ upper.1 in
    all_wider is_allowed is_inner (is_inner_kind is_allowed refl refl refl) name (both_all _ _ name (no_any _ name forbidden.0) (no_any _ name outside.0))

-- ---- items of joined lists

-- a text that isn't the dash of an empty list, nor empty
abbrev pub is_no_dash : List ℕ → Bool
is_no_dash [] = false
is_no_dash (b ∷ bs) = not (b == 45)

pub no_dash_append : (xs ys : List ℕ) → IsTrue (is_no_dash xs) → IsTrue (is_no_dash (xs ++ ys))
no_dash_append [] ys none = absurd (true≢false (sym none))
no_dash_append (x ∷ xs) ys some = some

-- a text that begins with no dash isn't the dash of an empty list
pub no_dash_stays : (xs u v : List ℕ) → IsTrue (is_no_dash xs) → xs ++ u ≡ 45 ∷ v → ⊥
no_dash_stays [] u v none e = true≢false (sym none)
no_dash_stays (x ∷ xs) u v some e = true≢false (sym some ∙ ap (λ b. not (b == 45)) (head_is x 45 (xs ++ u) v e))

starts_no_dash : (p : ℕ → Bool) (b : ℕ) → p 45 ≡ false → p b ≡ true → not (b == 45) ≡ true
starts_no_dash p b without of = ap not (lacks p 45 b without of)

pub decimal_no_dash : (n : ℕ) → IsWord n → IsTrue (is_no_dash (decimal n))
decimal_no_dash n word = by (decimal n) (decimal_nonempty n word) (decimal_bytes n word)
  where
    by : (xs : List ℕ) → 0 < length xs → IsTrue (list_all is_decimal xs) → IsTrue (is_no_dash xs)
    by [] some of = absurd (omega (arith, some))
    by (x ∷ xs) some of = starts_no_dash is_decimal x refl (and_parts _ _ of).0

pub name_no_dash : (name : List ℕ) → IsTrue (is_name name) → IsTrue (is_no_dash name)
name_no_dash [] named = named
name_no_dash (b ∷ name) named = starts_no_dash is_letter_or_digit b refl (and_parts _ _ named).0

pub key_no_dash : (key : List ℕ) → IsTrue (is_key key) → IsTrue (is_no_dash key)
key_no_dash [] keyed = keyed
key_no_dash (b ∷ key) keyed = starts_no_dash is_letter_or_digit b refl (and_parts _ _ keyed).0

pub index_name_no_dash : (name : List ℕ) → IsTrue (is_index_name name) → IsTrue (is_no_dash name)
index_name_no_dash [] named = absurd cc
index_name_no_dash (b ∷ name) named =
    let empty = if_none (length (b ∷ name) == 0) 1 _ (is_none_is (name_fault (b ∷ name)) named) in
    let long = if_none (nat_lt 255 (length (b ∷ name))) 2 _ empty.1 in
    let dots = if_none (bytes_eq (b ∷ name) (codes ".") || bytes_eq (b ∷ name) (codes "..")) 3 _ long.1 in
    let bad = if_none (begins_badly (b ∷ name)) 4 _ dots.1 in
    ap not (or_parts _ _ (or_parts _ _ bad.0).1).0

-- a name tells itself
pub name_tells : Tells (λ name. IsTrue (is_name name)) (λ name. name) Same (Ends is_inner)
name_tells = run_tells is_inner name_bytes (λ a b good fine e. e)
