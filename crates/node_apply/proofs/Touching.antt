-- That two states agree outside of the names in a diff that leads from the one to the other, and outside of all names of
-- both. No map need stand in order: only look-ups at other keys are asked for.
use Rattle.std.proofs.Common.{◌≡◌, ℕ, Bool, true, false, cond, List, [], ◌∷◌, Some, None, Option, refl, sym, ◌∙◌, ap, subst, ◌==◌, if◌then◌else◌}
use Rattle.plain_data.specs.Agreements as maps
use Rattle.plain_data.specs.Agreements.{with_all}
use Rattle.plain_data.specs.Pairs.{lookup, with, without}
use Rattle.plain_data.proofs.Agreements.{none_from_with_all}
use Rattle.plain_data.proofs.Lookups.{is_key, key_flipped, lookup-with, lookup-without_other}
use Rattle.meta_state.specs.declared.cluster_state.ClusterState.{ClusterState}
use Rattle.meta_state.specs.declared.touches.Touched.{Touched}
use Rattle.meta_state.specs.Touches.{AgreeOutside}
use Rattle.meta_state.proofs.Agreeing.{state_agrees_with_itself}
use Rattle.state_diff.specs.declared.map_diffs.MapDiff.{MapDiff}
use Rattle.state_diff.specs.declared.state_diffs.DiffParts.{DiffParts}
use Rattle.state_diff.specs.MapDiffs.{patched_option, put_at, patched_at, all_patched, without_all, map_patched}
use Rattle.state_diff.specs.StateDiffs.{state_patched, applied}
use Rattle.node_apply.specs.TouchedNames.{names_of, with_names_of, names_in, touched_of, names_of_both, all_names_of}

-- a key that isn't at the head, and isn't behind it
none_but : {X : Type 0} (b : Bool) (v : X) (o : Option X) → cond b (Some v) o ≡ None → (b ≡ false) × (o ≡ None)
none_but true v o h = absurd cc
none_but false v o h = (refl, h)

module _ {V : Type 0} where
  none_kept : (b : Bool) (v : V) (o : Option V) → (b ≡ false) → o ≡ None → cond b (Some v) o ≡ None
  none_kept true v o e h = absurd cc
  none_kept false v o e h = h

  -- what isn't among the names of a map isn't found in it
  none_from_names_of : (q : List ℕ) (m : List (List ℕ × V)) → lookup q (names_of m) ≡ None → lookup q m ≡ None
  none_from_names_of q [] h = refl
  none_from_names_of q (x ∷ m) h =
      let both : (is_key q x.0 ≡ false) × (lookup q (names_of m) ≡ None) = none_but (is_key q x.0) tt (lookup q (names_of m)) h in
      none_kept (is_key q x.0) x.1 (lookup q m) both.0 (none_from_names_of q m both.1)

  -- what is found in neither of a map and a set to which its names were added
  none_from_with_names_of : (q : List ℕ) (m : List (List ℕ × V)) (names : List (List ℕ × Unit {0})) → lookup q (with_names_of m names) ≡ None → (lookup q m ≡ None) × (lookup q names ≡ None)
  none_from_with_names_of q m names h =
      let both : (lookup q (names_of m) ≡ None) × (lookup q names ≡ None) = none_from_with_all q (names_of m) names h in
      (none_from_names_of q m both.0, both.1)

  -- ---- a look-up at another key finds what it did

  other_with : (k : List ℕ) (v : V) (q : List ℕ) (m : List (List ℕ × V)) → is_key q k ≡ false → lookup q (with k v m) ≡ lookup q m
  other_with k v q m e = lookup-with k v q m ∙ ap (λ (b : Bool). cond b (Some v) (lookup q m)) (key_flipped k q ∙ e)

  other_without : (k q : List ℕ) (m : List (List ℕ × V)) → is_key q k ≡ false → lookup q (without k m) ≡ lookup q m
  other_without k q m e = lookup-without_other k q m (key_flipped k q ∙ e)

  other_with_all : (q : List ℕ) (more m : List (List ℕ × V)) → lookup q more ≡ None → lookup q (with_all more m) ≡ lookup q m
  other_with_all q [] m h = refl
  other_with_all q (x ∷ more) m h =
      let both : (is_key q x.0 ≡ false) × (lookup q more ≡ None) = none_but (is_key q x.0) x.1 (lookup q more) h in
      other_with_all q more (with x.0 x.1 m) both.1 ∙ other_with x.0 x.1 q m both.0

  other_put_at : (k : List ℕ) (found : Option V) (q : List ℕ) (m : List (List ℕ × V)) → is_key q k ≡ false → lookup q (put_at k found m) ≡ lookup q m
  other_put_at k None q m e = refl
  other_put_at k (Some v) q m e = other_with k v q m e

  other_all_patched : {D : Type 0} (patched : D → V → V) (q : List ℕ) (diffs : List (List ℕ × D)) (m : List (List ℕ × V)) → lookup q diffs ≡ None → lookup q (all_patched patched diffs m) ≡ lookup q m
  other_all_patched patched q [] m h = refl
  other_all_patched patched q (x ∷ diffs) m h =
      let both : (is_key q x.0 ≡ false) × (lookup q diffs ≡ None) = none_but (is_key q x.0) x.1 (lookup q diffs) h in
      other_all_patched patched q diffs (patched_at patched x.0 x.1 m) both.1 ∙ other_put_at x.0 (patched_option patched (Some x.1) (lookup x.0 m)) q m both.0

  other_without_all : (q : List ℕ) (names : List (List ℕ × Unit {0})) (m : List (List ℕ × V)) → lookup q names ≡ None → lookup q (without_all names m) ≡ lookup q m
  other_without_all q [] m h = refl
  other_without_all q (x ∷ names) m h =
      let both : (is_key q x.0 ≡ false) × (lookup q names ≡ None) = none_but (is_key q x.0) x.1 (lookup q names) h in
      other_without_all q names (without x.0 m) both.1 ∙ other_without x.0 q m both.0

-- ---- maps

module _ {V : Type 0} where
  -- a map agrees with what a diff makes of it outside of the names in the diff
  pub agree_outside_map_diff : {D : Type 0} (patched : D → V → V) (diff : MapDiff V D) (m : List (List ℕ × V)) → maps.AgreeOutside (names_in diff) m (map_patched patched diff m)
  agree_outside_map_diff patched diff m q h =
      let upserts : (lookup q diff.upserts ≡ None) × (lookup q (with_names_of diff.diffs diff.deletes) ≡ None) = none_from_with_names_of q diff.upserts (with_names_of diff.diffs diff.deletes) h in
      let diffs : (lookup q diff.diffs ≡ None) × (lookup q diff.deletes ≡ None) = none_from_with_names_of q diff.diffs diff.deletes upserts.1 in
      sym (other_without_all q diff.deletes (all_patched patched diff.diffs (with_all diff.upserts m)) diffs.1
      ∙ other_all_patched patched q diff.diffs (with_all diff.upserts m) diffs.0
      ∙ other_with_all q diff.upserts m upserts.0)

  -- two maps agree outside of the names of both, where they have nothing
  pub agree_outside_both_names : (m n : List (List ℕ × V)) → maps.AgreeOutside (names_of_both m n) m n
  agree_outside_both_names m n q h =
      let seconds : (lookup q n ≡ None) × (lookup q (with_names_of m []) ≡ None) = none_from_with_names_of q n (with_names_of m []) h in
      let firsts : (lookup q m ≡ None) × (lookup q [] ≡ None) = none_from_with_names_of q m [] seconds.1 in
      firsts.0 ∙ sym seconds.0

-- ---- states

agree_outside_patched : (d : DiffParts) (a : ClusterState) → AgreeOutside (touched_of d) a (state_patched d a)
agree_outside_patched d a = record {
  indices = agree_outside_map_diff _ d.indices a.metadata.indices;
  settings = agree_outside_map_diff _ d.settings a.metadata.settings;
  nodes = agree_outside_map_diff _ d.nodes a.nodes;
}

some_is : {X : Type 0} (x y : X) → Some x ≡ Some y → x ≡ y
some_is x y e = cc

agree_if_applied : (d : DiffParts) (a b : ClusterState) (to from : Bool) → (if to then Some a else if from then Some (state_patched d a) else None) ≡ Some b → AgreeOutside (touched_of d) a b
agree_if_applied d a b true from e = subst (AgreeOutside (touched_of d) a) (some_is a b e) (state_agrees_with_itself (touched_of d) a)
agree_if_applied d a b false true e = subst (AgreeOutside (touched_of d) a) (some_is (state_patched d a) b e) (agree_outside_patched d a)
agree_if_applied d a b false false e = absurd cc

-- a state agrees with what comes of it by a diff outside of the names in the diff
pub agree_outside_diff : (d : DiffParts) (a b : ClusterState) → applied d a ≡ Some b → AgreeOutside (touched_of d) a b
agree_outside_diff d a b e = agree_if_applied d a b (a.id == d.to_id) (a.id == d.from_id) e

-- two states agree outside of all names of both
pub agree_outside_all_names : (a b : ClusterState) → AgreeOutside (all_names_of a b) a b
agree_outside_all_names a b = record {
  indices = agree_outside_both_names a.metadata.indices b.metadata.indices;
  settings = agree_outside_both_names a.metadata.settings b.metadata.settings;
  nodes = agree_outside_both_names a.nodes b.nodes;
}

pub agree_outside_made : (a b : ClusterState) (indices settings nodes : List (List ℕ × Unit {0})) → indices ≡ names_of_both a.metadata.indices b.metadata.indices
    → settings ≡ names_of_both a.metadata.settings b.metadata.settings → nodes ≡ names_of_both a.nodes b.nodes
    → AgreeOutside (record { indices = indices; settings = settings; nodes = nodes }) a b
agree_outside_made a b indices settings nodes i s n = subst (λ (t : Touched). AgreeOutside t a b) (λ j. record { indices = sym i j; settings = sym s j; nodes = sym n j }) (agree_outside_all_names a b)
