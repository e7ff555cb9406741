-- Sets of nodes as lists of flags, and how a number keeps them as its bits.
use Rattle.std.specs.Prelude.{◌≡◌, ◌≢◌, ℕ, zero, suc, ◌+◌, ◌-◌, ◌*◌, ◌/◌, ◌%◌, ◌^◌, ◌<◌, ◌≤◌, ◌==◌, ◌⊎◌, Bool, true, false, List, [], ◌∷◌, length, get_or, set, replicate, eqb, bit_and, bit_or, refl}
use Rattle.std.proofs.Common.{◌∙◌, ap, sym, subst, arith, inl, inr}
use Rattle.std.specs.Int.{w32, bit_at}
use Rattle.std.proofs.lemmas.List.{length-set, length-replicate, get_or-set_same, get_or-set_other, ext_get_or}
use Rattle.std.proofs.lemmas.Bool.Decides.{eqb_tells}
use Rattle.std.proofs.lemmas.Nat.{one_shl, or_lt, pow_below}
use Rattle.std.proofs.lemmas.Nat.Bits.{bit_at-suc, bit_at_lowest, bit_at_set_same, bit_at_set_other, bit_at_clear_same, bit_at_clear_other, shr_and_one}
use Rattle.ack_words.specs.Flags.{flags_of}
use Rattle.ack_words.specs.Masks.{has_node, is_without_nodes, no_nodes, node_count, with_node, without_node}

-- ---- flags and bits

pub flags_length : (count number : ℕ) → length (flags_of count number) ≡ count
unfolding flags_of
flags_length zero number = refl
flags_length (suc count) number = ap suc (flags_length count (number / 2))

pub get_or-flags_of : (count number place : ℕ) → place < count → get_or (flags_of count number) place false ≡ (bit_at number place == 1)
unfolding flags_of
get_or-flags_of zero number place within = absurd (omega arith)
get_or-flags_of (suc count) number zero within = ap (λ (bit : ℕ). bit == 1) (sym (bit_at_lowest number))
get_or-flags_of (suc count) number (suc place) within =
    get_or-flags_of count (number / 2) place (omega arith) ∙ ap (λ (bit : ℕ). bit == 1) (sym (bit_at-suc number place))

either : (a b : ℕ) → ((eqb a b ≡ true) × (a ≡ b)) ⊎ ((eqb a b ≡ false) × (a ≢ b)) → (a ≡ b) ⊎ (a ≢ b)
either a b (inl told) = inl told.1
either a b (inr told) = inr told.1

same_or_not : (a b : ℕ) → (a ≡ b) ⊎ (a ≢ b)
same_or_not a b = either a b (eqb_tells a b)

-- a number whose bits are those of another one but at one place has its flags but at this place
module _ (count number other place : ℕ) (flag : Bool) (within : place < count) where
  changed_at : (bit_at other place == 1) ≡ flag → ((i : ℕ) → i < count → i ≢ place → bit_at other i ≡ bit_at number i) → (i : ℕ) → i < count → (i ≡ place) ⊎ (i ≢ place)
      → get_or (flags_of count other) i false ≡ get_or (set (flags_of count number) place flag) i false
  changed_at here there i low (inl same) =
      get_or-flags_of count other i low ∙ ap (λ (at : ℕ). bit_at other at == 1) same ∙ here
      ∙ sym (ap (λ (at : ℕ). get_or (set (flags_of count number) place flag) at false) same ∙ get_or-set_same (flags_of count number) place flag false (subst (λ (l : ℕ). place < l) (sym (flags_length count number)) within))
  changed_at here there i low (inr apart) =
      get_or-flags_of count other i low ∙ ap (λ (bit : ℕ). bit == 1) (there i low apart)
      ∙ sym (get_or-set_other (flags_of count number) place i flag false apart ∙ get_or-flags_of count number i low)

  changed : (bit_at other place == 1) ≡ flag → ((i : ℕ) → i < count → i ≢ place → bit_at other i ≡ bit_at number i) → flags_of count other ≡ set (flags_of count number) place flag
  changed here there =
      let long : length (flags_of count other) ≡ count = flags_length count other in
      ext_get_or false (flags_of count other) (set (flags_of count number) place flag)
      (long ∙ sym (length-set (flags_of count number) place flag ∙ flags_length count number))
      (λ i low. changed_at here there i (subst (λ (l : ℕ). i < l) long low) (same_or_not i place))

pub with_node_kept : (number place : ℕ) → place < 30 → flags_of 30 (bit_or number (1 * 2 ^ place % 2 ^ 32)) ≡ with_node place (flags_of 30 number)
with_node_kept number place within =
    changed 30 number (bit_or number (1 * 2 ^ place % 2 ^ 32)) place true within
    (ap (λ (bit : ℕ). bit == 1) (bit_at_set_same w32 number place (omega arith)))
    (λ i low apart. bit_at_set_other w32 number place (omega arith) i apart)

pub with_node_below : (number place : ℕ) → number < 2 ^ 30 → place < 30 → bit_or number (1 * 2 ^ place % 2 ^ 32) < 2 ^ 30
with_node_below number place low within =
    or_lt 30 number (1 * 2 ^ place % 2 ^ 32) low (subst (λ (one : ℕ). one < 2 ^ 30) (sym (one_shl place 32 (omega arith))) (pow_below place 30 within))

pub without_node_kept : (number place : ℕ) → place < 30 → flags_of 30 (bit_and number (2 ^ 32 - 1 - 1 * 2 ^ place % 2 ^ 32)) ≡ without_node place (flags_of 30 number)
without_node_kept number place within =
    changed 30 number (bit_and number (2 ^ 32 - 1 - 1 * 2 ^ place % 2 ^ 32)) place false within
    (ap (λ (bit : ℕ). bit == 1) (bit_at_clear_same w32 number place (omega arith)))
    (λ i low apart. bit_at_clear_other w32 number place (omega arith) i (omega arith) apart)

pub has_node_kept : (number place : ℕ) → place < 30 → has_node place (flags_of 30 number) ≡ (bit_and (number / 2 ^ place) 1 == 1)
has_node_kept number place within = get_or-flags_of 30 number place within ∙ ap (λ (bit : ℕ). bit == 1) (sym (shr_and_one number place))

-- numbers that no node can have

set_above : (flags : List Bool) (place : ℕ) (flag : Bool) → length flags ≤ place → set flags place flag ≡ flags
set_above [] place flag above = refl
set_above (first ∷ flags) zero flag above = absurd (omega arith)
set_above (first ∷ flags) (suc place) flag above = ap (λ (rest : List Bool). first ∷ rest) (set_above flags place flag (omega arith))

get_or_above : (flags : List Bool) (place : ℕ) → length flags ≤ place → get_or flags place false ≡ false
get_or_above [] place above = refl
get_or_above (first ∷ flags) zero above = absurd (omega arith)
get_or_above (first ∷ flags) (suc place) above = get_or_above flags place (omega arith)

pub without_node_above : (number place : ℕ) → 30 ≤ place → flags_of 30 number ≡ without_node place (flags_of 30 number)
without_node_above number place above = sym (set_above (flags_of 30 number) place false (let long = flags_length 30 number in omega arith))

pub has_node_above : (number place : ℕ) → 30 ≤ place → has_node place (flags_of 30 number) ≡ false
has_node_above number place above = get_or_above (flags_of 30 number) place (let long = flags_length 30 number in omega arith)

-- ---- the empty set

flags_of-zero : (count : ℕ) → flags_of count 0 ≡ replicate count false
unfolding flags_of
flags_of-zero zero = refl
flags_of-zero (suc count) = ap (λ (flags : List Bool). false ∷ flags) (flags_of-zero count)

pub no_nodes_kept : flags_of 30 0 ≡ no_nodes
unfolding no_nodes
no_nodes_kept = flags_of-zero 30

pub length-no_nodes : length no_nodes ≡ 30
unfolding no_nodes
length-no_nodes = length-replicate 30 false

get_or-replicate_false : (count node : ℕ) → get_or (replicate count false) node false ≡ false
get_or-replicate_false zero node = refl
get_or-replicate_false (suc count) zero = refl
get_or-replicate_false (suc count) (suc node) = get_or-replicate_false count node

pub has_node-no_nodes : (node : ℕ) → has_node node no_nodes ≡ false
unfolding no_nodes
has_node-no_nodes node = get_or-replicate_false 30 node

without_by : (count number : ℕ) (flag : Bool) → (number % 2 == 1) ≡ flag → number < 2 ^ suc count → is_without_nodes (flags_of count (number / 2)) ≡ (number / 2 == 0)
    → is_without_nodes (flag ∷ flags_of count (number / 2)) ≡ (number == 0)
without_by count number true odd fits rest = search arith
without_by count number false even fits rest = search arith

pub is_without_nodes_kept : (count number : ℕ) → number < 2 ^ count → is_without_nodes (flags_of count number) ≡ (number == 0)
unfolding flags_of
is_without_nodes_kept zero zero fits = refl
is_without_nodes_kept zero (suc number) fits = absurd (omega arith)
is_without_nodes_kept (suc count) number fits = without_by count number (number % 2 == 1) refl fits (is_without_nodes_kept count (number / 2) (omega arith))

-- a set with a node more isn't empty
some_by : (place : ℕ) (nodes : List Bool) → place < length nodes → is_without_nodes (set nodes place true) ≡ false
some_by place [] within = absurd (omega arith)
some_by zero (first ∷ nodes) within = refl
some_by (suc place) (true ∷ nodes) within = refl
some_by (suc place) (false ∷ nodes) within = some_by place nodes (omega arith)

pub with_node_some : (number place : ℕ) → place < 30 → is_without_nodes (with_node place (flags_of 30 number)) ≡ false
with_node_some number place within = some_by place (flags_of 30 number) (let long = flags_length 30 number in omega arith)

-- the set of no node has none, and a set that has none is without nodes
pub has_node-without_nodes : (nodes : List Bool) (node : ℕ) → is_without_nodes nodes ≡ true → has_node node nodes ≡ false
has_node-without_nodes [] node none = refl
has_node-without_nodes (true ∷ nodes) node none = search arith
has_node-without_nodes (false ∷ nodes) zero none = refl
has_node-without_nodes (false ∷ nodes) (suc node) none = has_node-without_nodes nodes node none

pub without_nodes_from : (nodes : List Bool) → ((node : ℕ) → has_node node nodes ≡ false) → is_without_nodes nodes ≡ true
without_nodes_from [] none = refl
without_nodes_from (true ∷ nodes) none = search (none zero)
without_nodes_from (false ∷ nodes) none = without_nodes_from nodes (λ node. none (suc node))

-- taking out a node that isn't there
pub without_node_absent : (node : ℕ) (nodes : List Bool) → has_node node nodes ≡ false → without_node node nodes ≡ nodes
without_node_absent node [] absent = refl
without_node_absent zero (first ∷ nodes) absent = ap (λ (flag : Bool). flag ∷ nodes) (sym absent)
without_node_absent (suc node) (first ∷ nodes) absent = ap (λ (rest : List Bool). first ∷ rest) (without_node_absent node nodes absent)

-- ---- how many

pub node_count_within : (nodes : List Bool) → node_count nodes ≤ length nodes
node_count_within [] = omega arith
node_count_within (true ∷ nodes) = let h = node_count_within nodes in omega arith
node_count_within (false ∷ nodes) = let h = node_count_within nodes in omega arith

-- a node that is in the set counts
pub node_count-without_node : (node : ℕ) (nodes : List Bool) → has_node node nodes ≡ true → 1 + node_count (without_node node nodes) ≡ node_count nodes
node_count-without_node node [] has = search arith
node_count-without_node zero (true ∷ nodes) has = refl
node_count-without_node zero (false ∷ nodes) has = search arith
node_count-without_node (suc node) (true ∷ nodes) has = ap (λ (n : ℕ). 1 + n) (node_count-without_node node nodes has)
node_count-without_node (suc node) (false ∷ nodes) has = node_count-without_node node nodes has

pub node_count_falls : (node : ℕ) (nodes : List Bool) → node_count (without_node node nodes) ≤ node_count nodes
node_count_falls node [] = omega arith
node_count_falls zero (true ∷ nodes) = omega arith
node_count_falls zero (false ∷ nodes) = omega arith
node_count_falls (suc node) (true ∷ nodes) = let h = node_count_falls node nodes in omega arith
node_count_falls (suc node) (false ∷ nodes) = node_count_falls node nodes
