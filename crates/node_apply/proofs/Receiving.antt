-- What is told of the change since the last commit goes on to be true as messages are received and commits handed.
use Rattle.std.proofs.Common.{◌≡◌, ◌==◌, ◌&&◌, ◌||◌, Bool, ℕ, cond, true, false, List, [], ◌∷◌, ◌++◌, Some, None, Option, Result, Ok, Err, OnOk, refl, sym, ◌∙◌, ap, subst, map}
use Rattle.std.specs.List.{list_any}
use Rattle.std.specs.Option.{option_or}
use Rattle.meta_state.specs.declared.cluster_state.ClusterState.{ClusterState}
use Rattle.meta_state.specs.declared.touches.Touched.{Touched}
use Rattle.meta_state.specs.Touches.{AgreeOutside}
use Rattle.meta_state.proofs.Agreeing.{states_agree_outside_both}
use Rattle.state_diff.specs.declared.state_diffs.DiffParts.{DiffParts}
use Rattle.state_diff.specs.StateDiffs.{applied}
use Rattle.publication.specs.declared.messages.Message.{Message}
use Rattle.publication.specs.declared.messages.Message.TheVariants.{Full, Diff}
use Rattle.publication.specs.declared.receipts.Receipt.{Receipt}
use Rattle.publication.specs.declared.receipts.Receipt.TheVariants.{Accepted, Incompatible}
use Rattle.publication.specs.Messages.{made_of, received, received_diff}
use Rattle.node_apply.specs.declared.sinces.Since.{Since}
use Rattle.node_apply.specs.declared.sinces.Since.TheVariants.{Unknown, Same, Among}
use Rattle.session_law.specs.NodeRecords.{Commit}
use Rattle.scripts.specs.declared.faults.Fault.{Fault}
use Rattle.scripts.specs.declared.faults.FaultKind.{FaultKind}
use Rattle.node_apply.specs.Applying.{Node, passed_on}
use Rattle.node_apply.specs.Commits.{AreLinked, Handed, HandedCommit, MayDiffer, commit_of, commits_of, first_unknown, last_state}
use Rattle.node_apply.specs.NodeLinks.{IsSince, IsTiedLink, NodeLinkView, commits_told, cuts_node, fault_on, last_commit, passed, since_on, told}
use Rattle.node_apply.specs.Sinces.{told_by}
use Rattle.node_apply.specs.TouchedNames.{touched_of}
use Rattle.node_apply.proofs.Linking.{last_on, linked_on}
use Rattle.node_apply.proofs.Touching.{agree_outside_diff}

accepted_made : (diff : DiffParts) (held new : ClusterState) (made : Option ClusterState) → (Accepted, new) ≡ received_diff diff held made → made ≡ Some new
accepted_made diff held new None e = let r : Accepted ≡ Incompatible held.id diff.from_id = ap (λ (p : Receipt × ClusterState). p.0) e in absurd cc
accepted_made diff held new (Some made) e = ap (λ (p : Receipt × ClusterState). Some p.1) (sym e)

diff_applied : (diff : DiffParts) (held new : ClusterState) → (Accepted, new) ≡ received held (Diff diff) → applied diff held ≡ Some new
unfolding received made_of
diff_applied diff held new e = accepted_made diff held new (applied diff held) e

by_diff : (since : Since) (diff : DiffParts) (before : Option ClusterState) (held new : ClusterState) → AgreeOutside (touched_of diff) held new → IsSince since before held
    → IsSince (since_on since (Diff diff)) before new
by_diff Unknown diff before held new a h = tt
by_diff Same diff before held new a h = subst (λ (b : Option ClusterState). MayDiffer (Some (touched_of diff)) b new) (sym h) a
by_diff (Among touched) diff None held new a h = h
by_diff (Among touched) diff (Some before) held new a h = states_agree_outside_both touched (touched_of diff) before held new h a

-- a message that was accepted
pub since_received : (since made : Since) (message : Message) (held new : ClusterState) → made ≡ since_on since message → (Accepted, new) ≡ received held message
    → (before : Option ClusterState) → IsSince since before held → IsSince made before new
since_received since made (Full state) held new e r before h = subst (λ (s : Since). IsSince s before new) (sym e) tt
since_received since made (Diff diff) held new e r before h =
    subst (λ (s : Since). IsSince s before new) (sym e) (by_diff since diff before held new (agree_outside_diff diff held new (diff_applied diff held new r)) h)

-- ---- a commit that is handed

told_since : (since : Since) (before : Option ClusterState) (state : ClusterState) → IsSince since before state → MayDiffer (told_by since) before state
told_since Unknown before state h = tt
told_since Same before state h = tt
told_since (Among touched) before state h = h

pub tied_handed : (base : Option ClusterState) (commits now : List HandedCommit) (since : Since) (held : ClusterState) (commit : HandedCommit) → IsTiedLink base commits since held
    → commit.state ≡ held → commit.since ≡ told_by since → now ≡ commits ++ commit ∷ [] → IsTiedLink base now Same held
tied_handed base commits now since held commit tied state told is = record {
  linked = subst (λ (l : List HandedCommit). AreLinked base l) (sym is) (linked_on base commits (commit ∷ []) tied.linked (
    subst (λ (s : ClusterState). MayDiffer commit.since (last_state base commits) s) (sym state)
        (subst (λ (o : Option Touched). MayDiffer o (last_state base commits) held) (sym told) (told_since since (last_state base commits) held tied.behind)),
    tt,
  ));
  behind = ap (last_state base) is ∙ (last_on base commits commit ∙ ap (λ (s : ClusterState). Some s) state);
}

-- ---- commits that are passed on

some_last : (state : ClusterState) (commits : List HandedCommit) (base : Option ClusterState) → option_or (last_state (Some state) commits) base ≡ last_state (Some state) commits
some_last state [] base = refl
some_last state (c ∷ cs) base = some_last c.state cs base

known : (commits : List HandedCommit) (base : Option ClusterState) → option_or (last_state None commits) base ≡ last_state base commits
known [] base = refl
known (c ∷ cs) base = some_last c.state cs base

pub known_last : (commits : List HandedCommit) (base last made : Option ClusterState) → last ≡ last_state None commits → made ≡ option_or last base → made ≡ last_state base commits
known_last commits base last made is e = e ∙ (ap (λ (o : Option ClusterState). option_or o base) is ∙ known commits base)

-- from a state before all that is the one that is known, where one is
pub linked_from : (base : Option ClusterState) (before : ClusterState) (commits : List HandedCommit) → ((b : ClusterState) → base ≡ Some b → b ≡ before) → AreLinked base commits → AreLinked (Some before) commits
linked_from base before [] same linked = tt
linked_from None before (c ∷ cs) same linked = (by_none c.since linked.0, linked.1) where
  by_none : (since : Option Touched) → MayDiffer since None c.state → MayDiffer since (Some before) c.state
  by_none None h = tt
  by_none (Some touched) h = absurd h
linked_from (Some b) before (c ∷ cs) same linked = (subst (λ (s : ClusterState). MayDiffer c.since (Some s) c.state) (same b refl) linked.0, linked.1)

pub first_forgotten : (base : Option ClusterState) (commits : List HandedCommit) → last_state base (first_unknown commits) ≡ last_state base commits
first_forgotten base [] = refl
first_forgotten base (c ∷ cs) = refl

pub tied_passed_on : (base made : Option ClusterState) (commits : List HandedCommit) (since : Since) (held : ClusterState) → IsTiedLink base commits since held → made ≡ last_state base commits
    → IsTiedLink made [] since held
tied_passed_on base made commits since held tied is = record {
  linked = tt;
  behind = subst (λ (b : Option ClusterState). IsSince since b held) (sym is) tied.behind;
}

pub tied_passed : (base made : Option ClusterState) (commits : List HandedCommit) (since : Since) (held : ClusterState) → IsTiedLink base commits since held → made ≡ last_state base (first_unknown commits)
    → IsTiedLink made [] since held
tied_passed base made commits since held tied is = tied_passed_on base made commits since held tied (is ∙ first_forgotten base commits)

last_commit_is : (base : Option ClusterState) (commits : List HandedCommit) → last_commit base (commits_of commits) ≡ last_state base commits
last_commit_is base [] = refl
last_commit_is base (c ∷ cs) = last_commit_is (Some c.state) cs

-- the commits of a link, told by their states and numbers
abbrev told_of : List HandedCommit → List Commit
told_of commits = commits_told (map (λ c. c.state) commits) (map (λ c. c.publication) commits)

told_are : (commits : List HandedCommit) → told_of commits ≡ commits_of commits
told_are [] = refl
told_are (c ∷ cs) = ap (λ l. commit_of c ∷ l) (told_are cs)

-- a link of which the end at which commits are handed, and the last state that is known, have changed
abbrev link_with : NodeLinkView → Handed → Option ClusterState → NodeLinkView
link_with old start made = record old {
  meaning = record old.meaning { handed = map (λ c. c.state) start.commits; room = start.room; numbers = map (λ c. c.publication) start.commits; base = made };
}

link_passed : (old : NodeLinkView) (commits : List HandedCommit) (before start : Handed) (made : Option ClusterState) → told old.meaning ≡ commits_of commits
    → last_state old.meaning.base before.commits ≡ last_state old.meaning.base commits → before.room ≡ old.meaning.room
    → start ≡ record before { commits = [] } → made ≡ last_state old.meaning.base before.commits → link_with old start made ≡ passed old
link_passed old commits before start made are same room is last =
    (λ i. link_with old (is i) (last i))
    ∙ (λ i. record old {
      meaning = record old.meaning {
        handed = [];
        room = room i;
        numbers = [];
        base = (same ∙ (sym (last_commit_is old.meaning.base commits) ∙ ap (last_commit old.meaning.base) (sym are))) i;
      };
    })

pub link_after_pass : {E : Type 0} (result : Result (Unit {0}) E) (old now : NodeLinkView) (commits : List HandedCommit) (before start : Handed) (made : Option ClusterState) → old ≡ now
    → told old.meaning ≡ told_of commits → last_state old.meaning.base before.commits ≡ last_state old.meaning.base commits → before.room ≡ old.meaning.room
    → OnOk result (start ≡ record before { commits = [] }) → OnOk result (made ≡ last_state old.meaning.base before.commits) → OnOk result (link_with old start made ≡ passed now)
link_after_pass (Ok done) old now commits before start made e are same room is last =
    link_passed old commits before start made (are ∙ told_are commits) same room is last ∙ ap passed e
link_after_pass (Err fault) old now commits before start made e are same room is last = tt

forgotten_commits : (commits : List HandedCommit) → commits_of (first_unknown commits) ≡ commits_of commits
forgotten_commits [] = refl
forgotten_commits (c ∷ cs) = refl

pub applier_told : (old new : Node) (commits : List HandedCommit) → new ≡ passed_on (commits_of commits) old → new ≡ passed_on (told_of commits) old
applier_told old new commits e = e ∙ ap (λ l. passed_on l old) (sym (told_are commits))

pub applier_passed : (old new : Node) (commits : List HandedCommit) → new ≡ passed_on (commits_of (first_unknown commits)) old → new ≡ passed_on (told_of commits) old
applier_passed old new commits e = applier_told old new commits (e ∙ ap (λ l. passed_on l old) (forgotten_commits commits))

-- ---- faults

listed_by : (cut here : Bool) (kind k : FaultKind) (rest : Option FaultKind) (others : Bool) → (rest ≡ Some kind → others ≡ true) → cond (cut && here) (Some k) rest ≡ Some kind → (cut || others) ≡ true
listed_by true here kind k rest others h e = refl
listed_by false here kind k rest others h e = h e

pub listed : (failing : List Fault) (name : List ℕ) (count : ℕ) (kind : FaultKind) → fault_on failing name count ≡ Some kind → list_any (cuts_node name) failing ≡ true
listed [] name count kind e = absurd cc
listed (f ∷ fs) name count kind e =
    listed_by (cuts_node name f) (f.publication == count) kind f.kind (fault_on fs name count) (list_any (cuts_node name) fs) (listed fs name count kind) e
