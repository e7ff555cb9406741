-- JSON tells the things whose data it spells: numbers, truth values, strings, objects with fixed members, and lists of
-- strings.
use Rattle.std.specs.Prelude.{◌≡◌, ℕ, Bool, true, false, List, [], ◌∷◌, ◌++◌, refl, map}
use Rattle.std.proofs.Common.{ap}
use Rattle.std.proofs.lemmas.List.{append_cancel_left}
use Rattle.std.specs.List.{AllByRecursion}
use Rattle.json.specs.Print.{quoted}
use Rattle.serde_json.specs.Data.{Data, array, boolean, object, string, Members, no_members, member}
use Rattle.serde_json.specs.View.{items_of}
use Rattle.serde_json.specs.Written.{comma_if, compact_text, items_text, members_text}
use Rattle.meta_state.specs.Json.{count}
use Rattle.report_law.specs.Bounds.{IsWord}
use Rattle.report_law.proofs.JsonLists.{NoDigit, listed, listed_tell}
use Rattle.report_law.proofs.JsonStrings.{string_tells}
use Rattle.report_law.proofs.Runs.{decimal_tells}
use Rattle.report_law.proofs.Telling.{Any, Same, Tells, apart, before, part, same_text, so, so_good, then, word_then}

-- the JSON of good things tells them, up to where no digit follows
pub record DataTells {A : Type 0} (Good : A → Type 0) (data_of : A → Data) (Agree : A → A → Type 0) : Type 0 where
  pub text : Tells Good (λ a. compact_text (data_of a)) Agree NoDigit

-- so do members, be they the first of their object or not
pub record MembersTell {A : Type 0} (Good : A → Type 0) (members_of : A → Members) (Agree : A → A → Type 0) : Type 0 where
  pub text : (later : Bool) → Tells Good (λ a. members_text later (members_of a)) Agree Any

-- ---- numbers, strings, truth values

pub count_tells : DataTells IsWord count Same
count_tells = record { text = decimal_tells }

pub text_tells : DataTells (λ s. Unit {0}) string Same
text_tells = record { text = before string_tells (λ u _. tt) }

booleans_told : (a b : Bool) (u v : List ℕ) → compact_text (boolean a) ++ u ≡ compact_text (boolean b) ++ v → (a ≡ b) × (u ≡ v)
booleans_told true true u v e = (refl, append_cancel_left (compact_text (boolean true)) u v e)
booleans_told false false u v e = (refl, append_cancel_left (compact_text (boolean false)) u v e)
booleans_told true false u v e = absurd (apart _ _ refl e)
booleans_told false true u v e = absurd (apart _ _ refl e)

pub boolean_tells : DataTells (λ b. Unit {0}) boolean Same
boolean_tells = record { text = record { told = λ a b u v _ _ _ _ e. booleans_told a b u v e } }

-- ---- objects with fixed members

members_end : (ms : Members) (u : List ℕ) → NoDigit (members_text true ms ++ u)
members_end no_members u = refl
members_end (member k d ms) u = refl

module _ {A : Type 0} {Good : A → Type 0} where
  -- the data of a part tell of the part
  pub data_of_part : {B : Type 0} {Fit : B → Type 0} {data_of : B → Data} {K : B → B → Type 0} (of : A → B)
      → DataTells Fit data_of K → ((a : A) → Good a → Fit (of a)) → DataTells Good (λ a. data_of (of a)) (λ a b. K (of a) (of b))
  data_of_part of one fit = record { text = part of one.text fit }

  -- what data tell of good things, said otherwise
  pub data_so : {data_of : A → Data} {K L : A → A → Type 0}
      → DataTells Good data_of K → ((a b : A) → Good a → Good b → K a b → L a b) → DataTells Good data_of L
  data_so one more = record { text = so_good one.text more }

  -- members one after the other, from the last one on
  pub none_tell : MembersTell Good (λ a. no_members) (λ a b. Unit {0})
  none_tell = record { text = λ later. record { told = λ a b u v _ _ _ _ e. (tt, append_cancel_left (125 ∷ []) u v e) } }

  pub member_then : {value_of : A → Data} {members_of : A → Members} {K L : A → A → Type 0} (key : List ℕ)
      → DataTells Good value_of K → MembersTell Good members_of L → MembersTell Good (λ a. member key (value_of a) (members_of a)) (λ a b. K a b × L a b)
  member_then {members_of} key value members = record {
    text = λ later.
        word_then (comma_if later) (word_then (quoted key) (word_then (58 ∷ []) (then value.text (λ a u _ _. members_end (members_of a) u) (members.text true))));
  }

  -- an object ends itself
  pub object_text_tells : {members_of : A → Members} {K : A → A → Type 0} → MembersTell Good members_of K → Tells Good (λ a. compact_text (object (members_of a))) K Any
  object_text_tells members = word_then (123 ∷ []) (members.text false)

  pub object_tells : {members_of : A → Members} {K : A → A → Type 0} → MembersTell Good members_of K → DataTells Good (λ a. object (members_of a)) K
  object_tells members = record { text = before (object_text_tells members) (λ u _. tt) }

-- ---- lists of texts

-- where anything is good, so is each of a list
pub all_any : {A : Type 0} (xs : List A) → AllByRecursion (λ a. Unit {0}) xs
all_any [] = tt
all_any (x ∷ xs) = (tt, all_any xs)

module _ {A : Type 0} (name_of : A → List ℕ) where
  abbrev name_text : A → List ℕ
  name_text a = compact_text (string (name_of a))

  names_listed : (later : Bool) (xs : List A) → items_text later (items_of (map (λ a. string (name_of a)) xs)) ≡ listed name_text 93 later xs
  names_listed later [] = refl
  names_listed later (x ∷ xs) = ap (λ t. comma_if later ++ (name_text x ++ t)) (names_listed true xs)

  -- a list of things that their names fix
  pub names_tell : ((a b : A) → name_of a ≡ name_of b → a ≡ b) → DataTells (λ xs. Unit {0}) (λ xs. array (items_of (map (λ a. string (name_of a)) xs))) Same
  names_tell fixes = record {
    text =
        let names = listed_tell 93 (so (part name_of text_tells.text (λ _ _. tt)) fixes) (λ a u v. refl) refl refl 91 in
        same_text (part (λ xs. xs) names (λ xs _. all_any xs)) (λ xs _. ap (λ t. 91 ∷ t) (names_listed false xs));
  }
