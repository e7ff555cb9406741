-- What ties the parts of a node's applier together goes on to hold as commits are passed to it, fail and are applied, and the
-- node after each is the one that its definition says.
use Rattle.std.proofs.Common.{◌≡◌, ℕ, true, false, List, [], ◌∷◌, ◌++◌, Some, Option, refl, sym, ◌∙◌, ap, subst, map, append_assoc}
use Rattle.std.specs.Option.{unwrap_or}
use Rattle.meta_state.specs.declared.cluster_state.ClusterState.{ClusterState}
use Rattle.meta_state.specs.declared.touches.Touched.{Touched}
use Rattle.meta_state.specs.Touches.{touched_none}
use Rattle.meta_state.proofs.Agreeing.{state_agrees_with_itself}
use Rattle.session_law.specs.declared.node_records.Apply.{Apply}
use Rattle.node_apply.specs.declared.applied_states.Applied.{Applied}
use Rattle.node_apply.specs.declared.outcomes.ApplyOutcome.TheVariants as outcome
use Rattle.node_apply.specs.Applying.{Node, applied_on, failed_on, last_waiting, next_of, passed_on}
use Rattle.node_apply.specs.Commits.{AreLinked, HandedCommit, MayDiffer, commit_of, commits_of, either_touched, last_state, since_first, versions_of}
use Rattle.node_apply.specs.Standing.{IsAt}
use Rattle.node_apply.specs.Tied.{IsTied, all_versions}
use Rattle.node_apply.proofs.Linking.{differ_by_either, linked_on}

-- ---- the node after a step

module _ (old new : Node) (commits rest : List HandedCommit) (commit : HandedCommit) (waiting : old.waiting ≡ commits_of commits) (first : commits ≡ commit ∷ rest) where
  at_first : (b : _) → next_of b old old.waiting ≡ next_of b old (commit_of commit ∷ commits_of rest)
  at_first b = ap (next_of b old) (waiting ∙ ap commits_of first)

  pub failed_is : (version : ℕ) → version ≡ commit.state.version → new ≡ failed_on old (commit_of commit) (commits_of rest)
      → (outcome.FailedByScript version, new) ≡ next_of true old old.waiting
  failed_is version v e = (λ i. (outcome.FailedByScript (v i), e i)) ∙ sym (at_first true)

  pub applied_is : (version : ℕ) → version ≡ commit.state.version → new ≡ applied_on old (commit_of commit) (commits_of rest)
      → (outcome.Applied version, new) ≡ next_of false old old.waiting
  applied_is version v e = (λ i. (outcome.Applied (v i), e i)) ∙ sym (at_first false)

map_append : {A B : Type 0} (f : A → B) (xs ys : List A) → map f (xs ++ ys) ≡ map f xs ++ map f ys
map_append f [] ys = refl
map_append f (x ∷ xs) ys = ap (λ l. f x ∷ l) (map_append f xs ys)

-- ---- what ties its parts

one_taken : (applies : List Apply) (line : Apply) (commit : HandedCommit) (rest : List HandedCommit) → line.to ≡ commit.state.version
    → all_versions applies (commit ∷ rest) ≡ all_versions (applies ++ line ∷ []) rest
one_taken applies line commit rest e =
    sym (ap (λ l. l ++ versions_of rest) (map_append (λ a. a.to) applies (line ∷ [])) ∙ append_assoc (map (λ a. a.to) applies) (line.to ∷ []) (versions_of rest)
    ∙ ap (λ v. map (λ a. a.to) applies ++ v ∷ versions_of rest) e)

module _ (before : Applied) (head : ClusterState) (behind : Option Touched) (commits : List HandedCommit) (handed : List ℕ) (applies : List Apply)
    (tied : IsTied before head behind commits handed applies) where
  pub tied_failed : (commit : HandedCommit) (rest : List HandedCommit) (line : Apply) (missed : Option ClusterState) (since : Option Touched) (now : List Apply) → commits ≡ commit ∷ rest
      → line.to ≡ commit.state.version → missed ≡ Some commit.state → since ≡ either_touched behind (since_first commits) → now ≡ applies ++ line ∷ []
      → IsTied before (unwrap_or missed before.state) since rest handed now
  tied_failed commit rest line missed since now first to is seen e =
      let linked : AreLinked (Some head) (commit ∷ rest) = subst (λ (l : List HandedCommit). AreLinked (Some head) l) first tied.linked in
      let either : since ≡ either_touched behind commit.since = seen ∙ ap (λ (l : List HandedCommit). either_touched behind (since_first l)) first in
      subst (λ (o : Option ClusterState). IsTied before (unwrap_or o before.state) since rest handed now) (sym is) (record {
        at = tied.at;
        behind = subst (λ (o : Option Touched). MayDiffer o (Some before.state) commit.state) (sym either)
            (differ_by_either behind commit.since (Some before.state) head commit.state tied.behind linked.0);
        linked = linked.1;
        handed = tied.handed ∙ (ap (all_versions applies) first ∙ (one_taken applies line commit rest to ∙ ap (λ (l : List Apply). all_versions l rest) (sym e)));
      })

  pub tied_applied : (after : Applied) (commit : HandedCommit) (rest : List HandedCommit) (line : Apply) → IsAt after → after.state ≡ commit.state → commits ≡ commit ∷ rest
      → line.to ≡ commit.state.version → IsTied after after.state (Some touched_none) rest handed (applies ++ line ∷ [])
  tied_applied after commit rest line at is first to =
      let linked : AreLinked (Some head) (commit ∷ rest) = subst (λ (l : List HandedCommit). AreLinked (Some head) l) first tied.linked in
      record {
        at = at;
        behind = state_agrees_with_itself touched_none after.state;
        linked = subst (λ (s : ClusterState). AreLinked (Some s) rest) (sym is) linked.1;
        handed = tied.handed ∙ (ap (all_versions applies) first ∙ one_taken applies line commit rest to);
      }

  last_is : (h : ClusterState) (cs : List HandedCommit) → Some (last_waiting h (commits_of cs)) ≡ last_state (Some h) cs
  last_is h [] = refl
  last_is h (c ∷ cs) = last_is c.state cs

  pub tied_passed : (more now : List HandedCommit) (versions : List ℕ) → AreLinked (Some (last_waiting head (commits_of commits))) more → now ≡ commits ++ more → versions ≡ handed ++ versions_of more
      → IsTied before head behind now versions applies
  tied_passed more now versions goes_on is told = record {
    at = tied.at;
    behind = tied.behind;
    linked = subst (λ (l : List HandedCommit). AreLinked (Some head) l) (sym is) (linked_on (Some head) commits more tied.linked (subst (λ (o : Option ClusterState). AreLinked o more) (last_is head commits) goes_on));
    handed = told ∙ (ap (λ l. l ++ versions_of more) tied.handed ∙ (append_assoc (map (λ a. a.to) applies) (versions_of commits) (versions_of more)
        ∙ (ap (λ l. map (λ a. a.to) applies ++ l) (sym (map_append (λ c. c.state.version) commits more)) ∙ ap (all_versions applies) (sym is))));
  }

pub passed_is : (old new : Node) (commits more now : List HandedCommit) → old.waiting ≡ commits_of commits → now ≡ commits ++ more → new ≡ record old { waiting = commits_of now }
    → new ≡ passed_on (commits_of more) old
passed_is old new commits more now waiting is e =
    e ∙ ap (λ l. record old { waiting = l }) (ap commits_of is ∙ (map_append commit_of commits more ∙ ap (λ l. l ++ commits_of more) (sym waiting)))

map_map : {A B C : Type 0} (f : B → C) (g : A → B) (xs : List A) → map f (map g xs) ≡ map (λ x. f (g x)) xs
map_map f g [] = refl
map_map f g (x ∷ xs) = ap (λ l. f (g x) ∷ l) (map_map f g xs)

-- the versions that a node was handed, told by the commits as a session's law has them
pub handed_is : (applies : List Apply) (commits : List HandedCommit) → all_versions applies commits ≡ map (λ a. a.to) applies ++ map (λ c. c.state.version) (commits_of commits)
handed_is applies commits = ap (λ l. map (λ a. a.to) applies ++ l) (sym (map_map (λ c. c.state.version) commit_of commits))
