-- Faults stay apart as one more is added.
use Rattle.std.proofs.Common.{◌≡◌, true, false, List, [], ◌∷◌, ◌++◌, refl, arith}
use Rattle.std.specs.List.{list_any}
use Rattle.std.specs.Cmp.Lexicographic.{nat_list_eq_equiv}
use Rattle.std.proofs.lemmas.Grind.{common_steps}
use Rattle.std.proofs.lemmas.List.Folds.{list_all-append}
use Rattle.scripts.specs.declared.faults.Fault.{Fault}
use Rattle.scripts.specs.declared.whole_script.ScriptNode.{ScriptNode}
use Rattle.scripts.specs.Scripts.{are_faults_distinct, is_fault}
use Rattle.script_form.specs.Faults.{AreFaults, is_same_place}

same_place_symm : (a b : Fault) → is_same_place a b ≡ is_same_place b a
same_place_symm a b = rw (nat_list_eq_equiv.symm a.node b.node) (grind (arith, common_steps))

list_any_push : (first fault : Fault) (faults : List Fault) → list_any (is_same_place first) faults ≡ false → is_same_place fault first ≡ false → list_any (is_same_place first) (faults ++ fault ∷ []) ≡ false
list_any_push first fault [] none other = rw (same_place_symm first fault, other) refl
list_any_push first fault (second ∷ faults) none other = grind (arith, common_steps, list_any_push first fault faults)

distinct_push : (before : List Fault) (fault : Fault) → are_faults_distinct before ≡ true → list_any (is_same_place fault) before ≡ false → are_faults_distinct (before ++ fault ∷ []) ≡ true
distinct_push [] fault distinct apart = refl
distinct_push (first ∷ before) fault distinct apart = grind (arith, common_steps, list_any_push first fault before, distinct_push before fault)

pub faults_push : (nodes : List ScriptNode) (before : List Fault) (fault : Fault) → AreFaults nodes before → is_fault nodes fault ≡ true → list_any (is_same_place fault) before ≡ false → AreFaults nodes (before ++ fault ∷ [])
faults_push nodes before fault all valid apart = record {
  valid = grind (arith, common_steps, list_all-append, all.valid);
  distinct = distinct_push before fault all.distinct apart;
}
